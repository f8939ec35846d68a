-- A decoder's code over states of its own: its moves and steps are those of its rule. Assumes nothing.
use Prim.Native.Nat.{ℕ, ◌+◌, ◌<◌, ◌≤◌}
use mathlib.Core.Path.{◌≡◌, refl, sym, ap, ◌∙◌}
use mathlib.Core.List.{List}
use native.Mathlib.Omega.{arith}
use mathlib.Core.Bool.{false}
use lib.ListN.{length, get_or}
use lib.Dec.{ltb}
use Rattle.answer.specs.Answer.{limit}
use Rattle.std.specs.declared.option.Option.{Option}
use Rattle.std.specs.declared.option.Option.TheVariants.{None, Some}
use Rattle.std.specs.Option.{IfSome}
use Rattle.reading.specs.Reading.{Does, give, go, bad}
use Rattle.reading.specs.Spans.{marked_as}
use Rattle.reading.specs.Stepping.{Spot, least, in_text, Next, cell, onward, next_at}
use Rattle.reading.specs.Decoding.{Code, told_move, on_state, spot_by, cursor_by, move_by, does_by, SettledDoes, Moves, step_from, Leads, reached, Gets}
use Rattle.reading.specs.declared.Marked.{Marked}
use Rattle.reading.specs.declared.Move.{Move}
use Rattle.reading.specs.declared.Move.TheVariants.{Give, Go, Bad}
use Rattle.reading.specs.declared.Cursor.{Cursor}
use Rattle.reading.specs.declared.Ahead.{Ahead}
use Rattle.reading.proofs.Laws.{Kept, SoundDoes}
use Rattle.reading.proofs.Steps.{Going, going-give, going-go}
use Rattle.reading.proofs.Cursors.{Cursors}

-- what the states of a code keep: a settled one is as its meaning is written, and what is written for a sound state means it and is settled
pub record Faithful {C S : Type 0} (code : Code C S) : Type 1 where
  pub Sound : S → Type 0
  pub Good : ℕ → Type 0
  pub kept : Kept code.rule Sound Good
  pub writes-back : (c : C) → code.Settled c → code.writes (code.means c) ≡ c
  pub means-back : (s : S) → Sound s → code.means (code.writes s) ≡ s
  pub settles : (s : S) → Sound s → code.Settled (code.writes s)

module _ {C S : Type 0} (code : Code C S) where
  -- what an arm that found the move `m` knows
  pub move-found : {r m : Move C} {does : Does S} → does_by code r ≡ does → r ≡ m → does ≡ does_by code m
  move-found h e = sym h ∙ ap (does_by code) e

  -- the loop of the step from a place, before its first byte
  pub begun : {text : List ℕ} (at : ℕ) (st : C) (handed : ℕ) → Going code.rule code.marking text at handed (code.means st) (step_from code text at st handed)
  unfolding step_from
  begun at st handed = record { so = refl }

further : (size : ℕ) {a b : ℕ} (c : ℕ) (m : Option Marked) → a ≤ b → IfSome m (λ _. (b < c) × (c ≤ size)) → IfSome m (λ _. (a < c) × (c ≤ size))
further size c (Some m) h k = (omega (arith, k.0), k.1)
further size c None h k = tt

module _ {C S : Type 0} {code : Code C S} where
  -- with its state, where the move is settled
  pub moved : {r m : Move C} {does : Does S} → Moves code r does → r ≡ m → (does ≡ does_by code m) × SettledDoes code (told_move m)
  moved h e = (move-found code h.so e, rw e at h.settled)

  module _ {text : List ℕ} where
    pub leads-stay : {at : ℕ} {st : C} → code.Settled st → Leads code text at st at st
    leads-stay h = record { on = omega arith; settled = h; same = λ handed. refl }

    pub leads-go :
        {at : ℕ} {st st' : C} → at < length text → code.rule.byte (code.means st) (get_or text at 0) ≡ go (code.means st') → code.Settled st' →
        Leads code text at st (at + 1) st'
    unfolding step_from
    leads-go {at} {st} h e k = record { on = omega arith; settled = k; same = λ handed. sym (going-go (begun code at st handed) h e).so }

    pub leads-on : {a b c : ℕ} {r s t : C} → Leads code text a r b s → Leads code text b s c t → Leads code text a r c t
    leads-on p q = record { on = omega (arith, p.on, q.on); settled = q.settled; same = λ handed. p.same handed ∙ q.same handed }

    pub gets-place : {a b : ℕ} {r s : C} → Leads code text a r b s → Gets code text a r (record { cell = None; at = b; state = s })
    gets-place p = record { on = p.on; more = tt; settled = p.settled; same = p.same }

    pub gets-give :
        {at v : ℕ} {m : Marked} {st st' : C} → at < length text → code.rule.byte (code.means st) (get_or text at 0) ≡ give v (code.means st') →
        marked_as v (code.marking (code.means st) (get_or text at 0) at) ≡ m → code.Settled st' →
        Gets code text at st (record { cell = Some m; at = at + 1; state = st' })
    gets-give {at} {v} {m} {st} {st'} h e s k =
        record {
          on = omega arith;
          more = (omega arith, omega arith);
          settled = k;
          same = λ handed. sym (rw s at (going-give (begun code at st handed) h e));
        }

    pub gets-on : {a b : ℕ} {r s : C} {x : Ahead C} → Leads code text a r b s → Gets code text b s x → Gets code text a r x
    gets-on {x = x} p q =
        record {
          on = omega (arith, p.on, q.on);
          more = further (length text) x.at x.cell p.on q.more;
          settled = q.settled;
          same = λ handed. p.same handed ∙ q.same handed;
        }

    -- what is passed over from a state is passed over from every state that means the same
    pub gets-same : {a : ℕ} {r s : C} {x : Ahead C} → code.means s ≡ code.means r → Gets code text a s x → Gets code text a r x
    unfolding step_from
    gets-same e q = record { on = q.on; more = q.more; settled = q.settled; same = λ handed. rw (← e) (q.same handed) }

-- a step's cell, at a settled state, is the definition's
pub cell-told :
    {C S : Type 0} (code : Code C S) {m : Marked} {at handed : ℕ} {st : C} {x : Next (Spot S)} →
    ((c : C) → code.Settled c → code.writes (code.means c) ≡ c) → code.Settled st →
    cell m (record { at = at; handed = handed; state = code.means st }) ≡ x →
    cell m (record { at = at; handed = handed; state = st }) ≡ onward (cursor_by code.writes) x
cell-told code {st = st} back h e = rw (← e, back st h)

-- the step from where a reader got to is the one from its cursor
pub got :
    {C S : Type 0} (code : Code C S) {text : List ℕ} (c : Cursor C) {at handed : ℕ} {st : C} {a : Ahead C} → ltb limit (length text) ≡ false →
    at ≡ least c.at (length text) → handed ≡ least c.handed at → code.means st ≡ code.means c.state → Gets code text at st a →
    reached code text a.cell a.at a.state handed ≡ next_at code.rule code.marking text (in_text text (spot_by code.means c))
unfolding step_from next_at
got code c {handed = handed} fits e f s g = sym (g.same handed) ∙ rw (f, e, s, fits)

module _ {C S : Type 0} {code : Code C S} (f : Faithful code) where
  -- a cursor means the spot that it was made for
  pub spot_back : (p : Spot S) → f.Sound p.state → spot_by code.means (cursor_by code.writes p) ≡ p
  spot_back p h = rw (f.means-back p.state h)

  abbrev pub code-cursors : Cursors code.rule code.marking (Cursor C)
  code-cursors =
      record {
        Sound = f.Sound;
        Good = f.Good;
        kept = f.kept;
        spot = spot_by code.means;
        cursor = cursor_by code.writes;
        back = spot_back;
      }

  -- a move in numbers, and back, from a byte's move in a state with a sound meaning
  pub move-told : (r : Move C) (does : Does S) → Moves code r does → told_move r ≡ on_state code.writes does
  move-told (Give v st) does h = rw (← h.so, f.writes-back st h.settled)
  move-told (Go st) does h = rw (← h.so, f.writes-back st h.settled)
  move-told (Bad why) does h = rw (← h.so)

  written-back :
      (does : Does S) → SoundDoes f.Sound f.Good does →
      (on_state code.means (on_state code.writes does) ≡ does) × SettledDoes code (on_state code.writes does)
  written-back (give v s) h = (rw (f.means-back s h.1), f.settles s h.1)
  written-back (go s) h = (rw (f.means-back s h), f.settles s h)
  written-back (bad k) h = (refl, tt)

  pub byte-moves : (c : C) (b : ℕ) {r : Move C} → f.Sound (code.means c) → told_move r ≡ move_by code c b → Moves code r (code.rule.byte (code.means c) b)
  byte-moves c b h e =
      let k = written-back (code.rule.byte (code.means c) b) (f.kept.keeps (code.means c) b h) in
      record { so = ap (on_state code.means) e ∙ k.0; settled = rw e k.1 }
