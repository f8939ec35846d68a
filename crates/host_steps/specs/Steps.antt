-- Cursors as they cross to C, and what a host is told of a step.
use Rattle.std.specs.Prelude.{ℕ, zero, suc, ◌≡◌, cond, List, length, get_or, ltb, eqb}
use Rattle.answer.specs.Answer.{Verdict, numbered}
use Rattle.reading.specs.Reading.{Rule, reading}
use Rattle.reading.specs.Spans.{no_mark, Marking, marked_in}
use Rattle.reading.specs.declared.Marked.{Marked}
use Rattle.reading.specs.declared.Cursor.{Cursor}
use Rattle.reading.specs.Stepping.{Next, cell, final, at_start, cells_of, answer_of}
use Rattle.utf7.specs.Rule.{utf7}
use Rattle.utf7_read.specs.Cursor as u
use Rattle.utf7_read.specs.declared.State.{State}
use Rattle.utf7_read.specs.declared.State.TheVariants.{Outside, Opening, Run}
use Rattle.mailbox.specs.Rule.{mailbox}
use Rattle.mailbox_read.specs.Cursor as m
use Rattle.mailbox_read.specs.declared.State as mailbox-state
use Rattle.mailbox_read.specs.declared.State.TheVariants as name
use Rattle.jp2.specs.Rule.{jp2}
use Rattle.jp2_read.specs.Cursor as j
use Rattle.jp2_read.specs.declared.State as jp2-state
use Rattle.jp2_read.specs.declared.Phase.{Phase}
use Rattle.jp2_read.specs.declared.Phase.TheVariants.{Plain, Return, First, Shifted, Escape, Escape1, Escape2}
use Rattle.host_numbers.specs.Numbers.{verdict_in}
use Rattle.host_numbers.specs.declared.Numbers.{Numbers}
use Rattle.host_steps.specs.declared.HostUtf7Cursor.{HostUtf7Cursor}
use Rattle.host_steps.specs.declared.HostUtf7Step.{HostUtf7Step}
use Rattle.host_steps.specs.declared.HostMailboxCursor.{HostMailboxCursor}
use Rattle.host_steps.specs.declared.HostMailboxStep.{HostMailboxStep}
use Rattle.host_steps.specs.declared.HostJp2Cursor.{HostJp2Cursor}
use Rattle.host_steps.specs.declared.HostJp2Step.{HostJp2Step}

-- what a host is told of a step: whether a cell is given, the cell with its bytes (else zeros), the answer (0 and 0 while cells are given), the next cursor
pub record Step (C : Type 0) : Type 0 where
  pub given : ℕ
  pub marked : Marked
  pub verdict : Verdict
  pub next : C

-- a step as a host is told of it; after the last cell its own cursor is given back
abbrev pub handed_on : {P C : Type 0} → (P → C) → C → Next P → Step C
handed_on out own (cell m p) = record { given = 1; marked = m; verdict = numbered 0 0; next = out p }
handed_on out own (final verdict) = record { given = 0; marked = no_mark; verdict = verdict; next = own }

-- the same, whatever function the cursors go out by
abbrev pub HandsOn : {P C : Type 0} → (P → C → Type 0) → C → Next P → Step C → Type 0
HandsOn {P} {C} gives own x r = (out : P → C) → ((p : P) (c : C) → gives p c → c ≡ out p) → r ≡ handed_on out own x

-- a step from its parts
abbrev pub step_in : {C : Type 0} → (ℕ × Marked × Numbers × C) → Step C
step_in r = record { given = r.0; marked = r.1; verdict = verdict_in r.2; next = r.3 }

-- a format for hosts: where its texts start, its step, and its cursors as they go out to C and come in again
pub record Host (P C : Type 0) : Type 0 where
  pub start : P
  pub step : List ℕ → P → Next P
  pub out : P → C
  pub back : C → P

module _ {P C : Type 0} (host : Host P C) where
  abbrev pub host_start : C
  host_start = host.out host.start

  abbrev pub host_step : List ℕ → C → Step C
  host_step text own = handed_on host.out own (host.step text (host.back own))

  -- the cursor after some steps, each from the cursor that the one before gave
  unfoldable pub host_after : List ℕ → ℕ → C
  host_after text zero = host_start
  host_after text (suc n) = (host_step text (host_after text n)).next

-- what the n-th step tells, counted from 0, where these are the cells and the answer: 1 and cell n, or 0 and the answer
abbrev pub nth_told : {C : Type 0} → List Marked → Verdict → ℕ → C → Step C
nth_told cells answer n next =
    cond (ltb n (length cells))
    (record { given = 1; marked = get_or cells n no_mark; verdict = numbered 0 0; next = next })
    (record { given = 0; marked = no_mark; verdict = answer; next = next })

-- from the start, each step from the cursor of the one before: the cells with their bytes, then the answer for ever
abbrev pub AsRead : {S P C : Type 0} → Host P C → Rule S → Marking S → List ℕ → Type 0
AsRead host rule marking text =
    (n : ℕ) →
    host_step host text (host_after host text n)
    ≡ nth_told (cells_of text (marked_in rule marking text)) (answer_of text (reading rule text)) n
    (host_after host text (suc n))

-- UTF-7
unfoldable pub shift_in : ℕ → ℕ → ℕ → State
shift_in shift pending value = cond (eqb shift 0) Outside (cond (eqb shift 1) Opening (Run pending value))

abbrev pub utf7_in : HostUtf7Cursor → Cursor State
utf7_in c = record { at = c.at; handed = c.handed; state = shift_in c.shift c.pending c.value }

-- the numbers of a cursor; what its state has no use for is 0
abbrev pub shift_out : ℕ → ℕ → State → HostUtf7Cursor
shift_out at handed Outside = record { at = at; handed = handed; shift = 0; pending = 0; value = 0 }
shift_out at handed Opening = record { at = at; handed = handed; shift = 1; pending = 0; value = 0 }
shift_out at handed (Run n v) = record { at = at; handed = handed; shift = 2; pending = n; value = v }

abbrev pub utf7_out : Cursor State → HostUtf7Cursor
utf7_out c = shift_out c.at c.handed c.state

abbrev pub utf7_host : Host (Cursor State) HostUtf7Cursor
utf7_host = record { start = u.cursor_of (at_start utf7); step = u.step_of; out = utf7_out; back = utf7_in }

abbrev pub utf7_told : HostUtf7Step → Step HostUtf7Cursor
utf7_told r = record { given = r.given; marked = record { value = r.cell; begin = r.begin; end = r.end }; verdict = verdict_in r.answer; next = r.next }

-- mailbox names
unfoldable pub name_shift_in : ℕ → ℕ → ℕ → mailbox-state.State
name_shift_in shift pending value =
    cond (ltb shift 2) (name.Outside (eqb shift 1)) (cond (ltb shift 4) (name.Opening (eqb shift 3)) (name.Run pending value))

abbrev pub mailbox_in : HostMailboxCursor → Cursor mailbox-state.State
mailbox_in c = record { at = c.at; handed = c.handed; state = name_shift_in c.shift c.pending c.value }

abbrev pub name_shift_out : ℕ → ℕ → mailbox-state.State → HostMailboxCursor
name_shift_out at handed (name.Outside after) = record { at = at; handed = handed; shift = cond after 1 0; pending = 0; value = 0 }
name_shift_out at handed (name.Opening after) = record { at = at; handed = handed; shift = cond after 3 2; pending = 0; value = 0 }
name_shift_out at handed (name.Run n v) = record { at = at; handed = handed; shift = 4; pending = n; value = v }

abbrev pub mailbox_out : Cursor mailbox-state.State → HostMailboxCursor
mailbox_out c = name_shift_out c.at c.handed c.state

abbrev pub mailbox_host : Host (Cursor mailbox-state.State) HostMailboxCursor
mailbox_host = record { start = m.cursor_of (at_start mailbox); step = m.step_of; out = mailbox_out; back = mailbox_in }

abbrev pub mailbox_told : HostMailboxStep → Step HostMailboxCursor
mailbox_told r = record { given = r.given; marked = record { value = r.cell; begin = r.begin; end = r.end }; verdict = verdict_in r.answer; next = r.next }

-- JP-2; a phase number above 6 is taken for 6
unfoldable pub phase_in : ℕ → ℕ → ℕ → Phase
phase_in phase first second =
    cond (eqb phase 0) Plain
    (cond (eqb phase 1) Return
    (cond (eqb phase 2) (First first)
    (cond (eqb phase 3) Shifted
    (cond (eqb phase 4) Escape
    (cond (eqb phase 5) (Escape1 first) (Escape2 first second))))))

abbrev pub jp2_in : HostJp2Cursor → Cursor jp2-state.State
jp2_in c =
    record {
      at = c.at;
      handed = c.handed;
      state = record { g0 = c.g0; g2 = c.g2; phase = phase_in c.phase c.first c.second };
    }

abbrev pub phased_at : Cursor jp2-state.State → ℕ → ℕ → ℕ → HostJp2Cursor
phased_at c phase first second =
    record {
      at = c.at;
      handed = c.handed;
      g0 = c.state.g0;
      g2 = c.state.g2;
      phase = phase;
      first = first;
      second = second;
    }

abbrev pub phase_out : Cursor jp2-state.State → Phase → HostJp2Cursor
phase_out c Plain = phased_at c 0 0 0
phase_out c Return = phased_at c 1 0 0
phase_out c (First a) = phased_at c 2 a 0
phase_out c Shifted = phased_at c 3 0 0
phase_out c Escape = phased_at c 4 0 0
phase_out c (Escape1 x) = phased_at c 5 x 0
phase_out c (Escape2 x y) = phased_at c 6 x y

abbrev pub jp2_out : Cursor jp2-state.State → HostJp2Cursor
jp2_out c = phase_out c c.state.phase

abbrev pub jp2_host : Host (Cursor jp2-state.State) HostJp2Cursor
jp2_host = record { start = j.cursor_of (at_start jp2); step = j.step_of; out = jp2_out; back = jp2_in }

abbrev pub jp2_told : HostJp2Step → Step HostJp2Cursor
jp2_told r = record { given = r.given; marked = record { value = r.cell; begin = r.begin; end = r.end }; verdict = verdict_in r.answer; next = r.next }
