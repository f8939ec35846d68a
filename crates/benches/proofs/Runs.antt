-- The calls of an editor in whatever history they meet: they keep it and its ledger together, and two lists of them are
-- answered alike if 12 falls on the same ones. Assumes nothing.
use Prim.Native.Nat.{ℕ, ◌+◌}
use mathlib.Core.Path.{◌≡◌, refl, sym, ◌∙◌, subst₂}
use mathlib.Core.Bool.{Bool, true, false, cond, false≢true}
use mathlib.Core.List.{List, [], ◌∷◌, map, reverse, head-eq_of_cons-eq, tail-eq_of_cons-eq, nil≢cons, cons≢nil}
use native.Mathlib.Omega.{arith}
use lib.ListN.{length, length-reverse}
use lib.Dec.{ltb}
use Rattle.answer.specs.Answer.{numbered, too_long}
use Rattle.answer.proofs.Below.{cond-case}
use Rattle.codec.specs.Kinds.{first_unwritable}
use Rattle.editor.specs.Ledger.{Ledger, fed, done_by}
use Rattle.editor.specs.Records.{Entry, applied, entry_at}
use Rattle.editor.specs.Editor.{Editor, Space, Turn, refused, replace_fitting, replace_at, save_standing, turn_of}
use Rattle.editor.specs.Editor.{overlong, output_of}
use Rattle.editor.proofs.Steps.{length-records}
use Rattle.editor.proofs.Held.{Held, reading-kept}
use Rattle.editor.proofs.Calls.{accepts, held-turn}
use Rattle.benches.specs.Words.{in_steps}
use Rattle.benches.specs.Calls.{Call, replace, undo, redo, save, call_of}
use Rattle.benches.specs.Demand.{Heard, ledger_after, full, answer_of}
use Rattle.benches.proofs.Lying.{weight-steps}

-- a call, and the room that it meets: the words there are, and those needed with a new record
pub record Met : Type 0 where
  pub call : Call
  pub words : ℕ
  pub needed : Entry → ℕ

abbrev pub space_for : Met → Editor → Space
space_for m e = record { words = m.words; needed = m.needed; done = length e.standing; laid = λ x. [] }

-- what the call makes of an editor, 16 first
abbrev pub called : Editor → Met → Turn
called e m =
    cond (overlong (call_of m.call)) (refused e (output_of (call_of m.call)) too_long)
    (turn_of in_steps (space_for m e) e (call_of m.call))

-- the editor after calls, and what they were answered
abbrev pub editor_after : Editor → List Met → Editor
editor_after e [] = e
editor_after e (m ∷ ms) = editor_after (called e m).editor ms

abbrev heard_turn : Call → Turn → Heard
heard_turn c t = record { call = c; verdict = t.verdict; output = t.output }

abbrev pub answered : Editor → List Met → List Heard
answered e [] = []
answered e (m ∷ ms) = heard_turn m.call (called e m) ∷ answered (called e m).editor ms

-- one call keeps an editor and its ledger together
module _ {arrived : List ℕ} {e : Editor} {l : Ledger} (h : Held in_steps arrived e l) (m : Met) where
  done-steps : length e.standing ≡ done_by in_steps l
  done-steps =
      rw (h.editor, h.ledger)
      (omega (
        arith,
        length-records h.frame.reading h.back,
        weight-steps (reverse h.back),
        length-reverse h.back,
      ))

  pub held-called :
      Held in_steps arrived (called e m).editor (fed in_steps l (call_of m.call) (accepts (called e m)))
  held-called =
      cond-case (λ (t : Turn). Held in_steps arrived t.editor (fed in_steps l (call_of m.call) (accepts t)))
      (overlong (call_of m.call)) (λ _. h) (λ _. held-turn (space_for m e) h done-steps (call_of m.call))

-- and so does a list of them
pub held-run :
    {arrived : List ℕ} (ms : List Met) {e : Editor} {l : Ledger} → Held in_steps arrived e l →
    Held in_steps arrived (editor_after e ms) (ledger_after l (answered e ms))
held-run [] h = h
held-run (m ∷ ms) h = held-run ms (held-called h m)

pub reading-run :
    (ms : List Met) (e : Editor) (l : Ledger) → (ledger_after l (answered e ms)).reading ≡ l.reading
reading-run [] e l = refl
reading-run (m ∷ ms) e l =
    reading-run ms (called e m).editor (fed in_steps l (call_of m.call) (accepts (called e m)))
    ∙ reading-kept in_steps l (call_of m.call) (accepts (called e m))

-- two turns that are the same if 12 falls on both or on neither
record Alike (c : Call) (t u : Turn) : Type 0 where
  same :
      full (heard_turn c t) ≡ full (heard_turn c u) →
      (answer_of (heard_turn c t) ≡ answer_of (heard_turn c u)) × (t.editor ≡ u.editor)

module _ (c : Call) where
  alike : (t : Turn) → Alike c t t
  alike t = record { same = λ _. (refl, refl) }

  both_cond : (q : Bool) {t u v w : Turn} → Alike c t v → Alike c u w → Alike c (cond q t u) (cond q v w)
  both_cond true f g = f
  both_cond false f g = g

  -- the one test that looks at the room
  twelve :
      (e : Editor) (m n : ℕ) (t : Turn) → full (heard_turn c t) ≡ false → (p q : Bool) →
      Alike c (cond p (refused e [] (numbered 12 m)) t) (cond q (refused e [] (numbered 12 n)) t)
  twelve e m n t other true true = record { same = λ _. (refl, refl) }
  twelve e m n t other true false = record { same = λ f. absurd (false≢true (sym (f ∙ other))) }
  twelve e m n t other false true = record { same = λ f. absurd (false≢true (sym other ∙ f)) }
  twelve e m n t other false false = alike t

module _ (e : Editor) (a b : Met) where
  fitting-alike :
      (c : Call) (x : Entry) → Alike c (replace_fitting (space_for a e) e x) (replace_fitting (space_for b e) e x)
  unfolding replace_fitting
  fitting-alike c x =
      both_cond c (ltb e.room (length (applied x e.text))) (alike c _)
      (twelve c e (a.needed x) (b.needed x) _ refl (ltb a.words (a.needed x)) (ltb b.words (b.needed x)))

  save-alike :
      (arrived out : List ℕ) (es : List Entry) →
      save_standing (space_for a e) e arrived out es ≡ save_standing (space_for b e) e arrived out es
  unfolding save_standing
  save-alike arrived out [] = refl
  save-alike arrived out (x ∷ back) = refl

  turns-alike :
      (c : Call) → Alike c (turn_of in_steps (space_for a e) e (call_of c)) (turn_of in_steps (space_for b e) e (call_of c))
  unfolding replace_at
  turns-alike (replace place count cells) =
      let c : Call = replace place count cells in
      both_cond c (ltb (length e.text) (place + count)) (alike c _)
      (both_cond c (ltb (first_unwritable e.kind cells) (length cells)) (alike c _)
      (fitting-alike c (entry_at e.text place count cells)))
  turns-alike undo = alike undo _
  turns-alike redo = alike redo _
  turns-alike (save arrived out) =
      rw (save-alike arrived out e.standing) (alike (save arrived out) _)

-- a call of the same editor, in two rooms
abbrev in-room : Met → Call → Met
in-room m c = record { call = c; words = m.words; needed = m.needed }

called-alike : (e : Editor) (a b : Met) (c : Call) → Alike c (called e (in-room a c)) (called e (in-room b c))
called-alike e a b c = both_cond c (overlong (call_of c)) (alike c _) (turns-alike e (in-room a c) (in-room b c) c)

met-alike :
    (e f : Editor) (m n : Met) → e ≡ f → m.call ≡ n.call →
    full (heard_turn m.call (called e m)) ≡ full (heard_turn n.call (called f n)) →
    (answer_of (heard_turn m.call (called e m)) ≡ answer_of (heard_turn n.call (called f n)))
    × ((called e m).editor ≡ (called f n).editor)
met-alike e f m n p q =
    subst₂
    (λ (f : Editor) (c : Call).
    full (heard_turn m.call (called e m)) ≡ full (heard_turn c (called f (in-room n c))) →
    (answer_of (heard_turn m.call (called e m)) ≡ answer_of (heard_turn c (called f (in-room n c))))
    × ((called e m).editor ≡ (called f (in-room n c)).editor))
    p q (called-alike e m n m.call).same

-- two lists of calls, the same but for the rooms that they met
abbrev calls_of : List Heard → List Call
calls_of hs = map (λ (h : Heard). h.call) hs

pub two_runs :
    (e f : Editor) → e ≡ f → (ms ns : List Met) → calls_of (answered e ms) ≡ calls_of (answered f ns) →
    map full (answered e ms) ≡ map full (answered f ns) →
    (map answer_of (answered e ms) ≡ map answer_of (answered f ns)) × (editor_after e ms ≡ editor_after f ns)
two_runs e f same [] [] p q = (refl, same)
two_runs e f same [] (n ∷ ns) p q = absurd (nil≢cons p)
two_runs e f same (m ∷ ms) [] p q = absurd (cons≢nil p)
two_runs e f same (m ∷ ms) (n ∷ ns) p q =
    let a = met-alike e f m n same (head-eq_of_cons-eq p) (head-eq_of_cons-eq q) in
    let r =
    two_runs (called e m).editor (called f n).editor a.1 ms ns (tail-eq_of_cons-eq p) (tail-eq_of_cons-eq q) in
    ((λ i. a.0 i ∷ r.0 i), r.1)
