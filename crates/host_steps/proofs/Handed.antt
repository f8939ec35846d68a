-- A cursor that a host hands back is the one that it was given, so its n-th step is the n-th step of the format.
-- Assumes nothing.
use Prim.Native.Nat.{ℕ, zero, suc}
use mathlib.Core.Path.{◌≡◌, refl, ap, ◌∙◌}
use mathlib.Core.Bool.{Bool, true, false, cond}
use mathlib.Core.List.{List}
use lib.ListN.{length, get_or}
use lib.Dec.{ltb}
use Rattle.answer.specs.Answer.{Verdict, numbered}
use Rattle.reading.specs.Reading.{Rule, reading}
use Rattle.reading.specs.Spans.{Marking, no_mark, marked_in}
use Rattle.reading.specs.Stepping.{Next, cell, final, on_spot, at_start, after_steps, cells_of, answer_of, nth_of}
use Rattle.reading.specs.declared.Marked.{Marked}
use Rattle.reading.specs.declared.Cursor.{Cursor}
use Rattle.reading.proofs.Cursors.{Cursors, step_for, cursor_after, nth-step}
use Rattle.utf7.specs.Rule.{utf7}
use Rattle.utf7.specs.Spans as utf7-spans
use Rattle.utf7_read.specs.declared.State.{State}
use Rattle.utf7_read.specs.declared.State.TheVariants.{Outside, Opening, Run}
use Rattle.utf7_read.proofs.Nth.{utf7-cursors}
use Rattle.mailbox.specs.Rule.{mailbox}
use Rattle.mailbox.specs.Spans as mailbox-spans
use Rattle.mailbox_read.specs.declared.State as mailbox-state
use Rattle.mailbox_read.specs.declared.State.TheVariants as name
use Rattle.mailbox_read.proofs.Nth.{mailbox-cursors}
use Rattle.jp2.specs.Rule.{jp2}
use Rattle.jp2.specs.Spans as jp2-spans
use Rattle.jp2_read.specs.declared.State as jp2-state
use Rattle.jp2_read.specs.declared.Phase.{Phase}
use Rattle.jp2_read.specs.declared.Phase.TheVariants.{Plain, Return, First, Shifted, Escape, Escape1, Escape2}
use Rattle.jp2_read.proofs.Nth.{jp2-cursors}
use Rattle.host_steps.specs.Steps.{Host, handed_on, host_step, host_after, nth_told, AsRead, shift_in, utf7_in, shift_out, utf7_out, utf7_host, name_shift_in, mailbox_in, name_shift_out, mailbox_out, mailbox_host, phase_in, jp2_in, phase_out, jp2_out, jp2_host}

-- each format's numbers, out to C and in again
shift_back :
    (at handed : ℕ) (st : State) → utf7_in (shift_out at handed st) ≡ record { at = at; handed = handed; state = st }
unfolding shift_in
shift_back at handed Outside = refl
shift_back at handed Opening = refl
shift_back at handed (Run n v) = refl

pub utf7-back : (c : Cursor State) → utf7_in (utf7_out c) ≡ c
utf7-back c = shift_back c.at c.handed c.state

name_back :
    (at handed : ℕ) (st : mailbox-state.State) →
    mailbox_in (name_shift_out at handed st) ≡ record { at = at; handed = handed; state = st }
unfolding name_shift_in
name_back at handed (name.Outside true) = refl
name_back at handed (name.Outside false) = refl
name_back at handed (name.Opening true) = refl
name_back at handed (name.Opening false) = refl
name_back at handed (name.Run n v) = refl

pub mailbox-back : (c : Cursor mailbox-state.State) → mailbox_in (mailbox_out c) ≡ c
mailbox-back c = name_back c.at c.handed c.state

phase-back :
    (c : Cursor jp2-state.State) (p : Phase) →
    let st = c.state in
    jp2_in (phase_out c p)
    ≡ record { at = c.at; handed = c.handed; state = record { g0 = st.g0; g2 = st.g2; phase = p } }
unfolding phase_in
phase-back c Plain = refl
phase-back c Return = refl
phase-back c (First a) = refl
phase-back c Shifted = refl
phase-back c Escape = refl
phase-back c (Escape1 x) = refl
phase-back c (Escape2 x y) = refl

pub jp2-back : (c : Cursor jp2-state.State) → jp2_in (jp2_out c) ≡ c
jp2-back c = phase-back c c.state.phase

-- a format whose numbers come back as they went out
module _ {S P C : Type 0} {rule : Rule S} {marking : Marking S} (cs : Cursors rule marking P) (out : P → C)
    (back : C → P) (same : (c : P) → back (out c) ≡ c) (text : List ℕ) where
  abbrev host : Host P C
  host = record { start = cs.cursor (at_start rule); step = step_for cs; out = out; back = back }

  handed-next : (x : Next P) (c : P) → (handed_on out (out c) x).next ≡ out (on_spot x c)
  handed-next (cell m p) c = refl
  handed-next (final verdict) c = refl

  -- the host holds the format's cursor
  holds : (n : ℕ) → host_after host text n ≡ out (cursor_after cs text n)
  unfolding host_after cursor_after after_steps
  holds zero = refl
  holds (suc n) =
      let c = cursor_after cs text n in
      ap (λ own. (host_step host text own).next) (holds n)
      ∙ ap (λ p. (handed_on out (out c) (step_for cs text p)).next) (same c)
      ∙ handed-next (step_for cs text c) c

  steps : (n : ℕ) → step_for cs text (back (host_after host text n)) ≡ step_for cs text (cursor_after cs text n)
  steps n = ap (λ own. step_for cs text (back own)) (holds n) ∙ ap (step_for cs text) (same (cursor_after cs text n))

  told-by :
      (m : Marked) (answer : Verdict) (own : C) (p : P) (t : Bool) →
      let r = handed_on out own (cond t (cell m p) (final answer)) in
      r
      ≡ cond t (record { given = 1; marked = m; verdict = numbered 0 0; next = r.next })
      (record { given = 0; marked = no_mark; verdict = answer; next = r.next })
  told-by m answer own p true = refl
  told-by m answer own p false = refl

  abbrev cells : List Marked
  cells = cells_of text (marked_in rule marking text)

  abbrev answer : Verdict
  answer = answer_of text (reading rule text)

  told :
      (n : ℕ) (own : C) (p : P) (x : Next P) → x ≡ nth_of cells answer n p →
      handed_on out own x ≡ nth_told cells answer n (handed_on out own x).next
  told n own p x e = rw e (told-by (get_or cells n no_mark) answer own p (ltb n (length cells)))

  -- its n-th step is that of the format
  nth-told : AsRead host rule marking text
  unfolding host_after
  nth-told n = told n _ (cursor_after cs text (suc n)) _ (steps n ∙ nth-step cs text n)

module _ (text : List ℕ) where
  pub utf7-nth : AsRead utf7_host utf7 utf7-spans.span_in text
  utf7-nth = nth-told utf7-cursors utf7_out utf7_in utf7-back text

  pub mailbox-nth : AsRead mailbox_host mailbox mailbox-spans.span_in text
  mailbox-nth = nth-told mailbox-cursors mailbox_out mailbox_in mailbox-back text

  pub jp2-nth : AsRead jp2_host jp2 jp2-spans.span_in text
  jp2-nth = nth-told jp2-cursors jp2_out jp2_in jp2-back text
