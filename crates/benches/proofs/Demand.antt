-- Demand 3 for each bench over its own calls, and what two runs have in common. Assumes nothing.
use Prim.Native.Nat.{ℕ, zero, suc}
use mathlib.Core.Path.{◌≡◌, refl, sym, ap, ◌∙◌, subst}
use mathlib.Core.Bool.{Bool, true, false, cond, ◌||◌}
use mathlib.Core.List.{List, [], ◌∷◌}
use native.Mathlib.Omega.{arith}
use lib.ListN.{length}
use lib.Dec.{eqb}
use borrow.Author.Tests.{ne_eqb}
use Rattle.answer.specs.Answer.{numbered, too_long}
use Rattle.std.specs.Prelude.{Some}
use Rattle.answer.proofs.Below.{cond-case}
use Rattle.codec.specs.declared.Kind.{Kind}
use Rattle.codec.specs.Kinds.{reading_in}
use Rattle.editor.specs.Marks.{unchanged_at}
use Rattle.editor.specs.Ledger.{Ledger, opened, fed}
use Rattle.editor.specs.Editor.{Editor, Turn, refused, turn_of, overlong, output_of}
use Rattle.editor.specs.Layout.{taken, refusing, laid, Reply}
use Rattle.editor.specs.Layout as layout
use Rattle.editor.specs.Demand.{Promised}
use Rattle.editor.proofs.Ends.{turn-ends}
use Rattle.editor.proofs.Held.{Held, Legal, legal, reading-kept}
use Rattle.editor.proofs.Calls.{accepts}
use Rattle.editor.proofs.Promises.{Lays, outcome-is, turn-lies, kept, promised}
use Rattle.benches.specs.Words.{Side, first, second, number_of, Both, at, in_steps}
use Rattle.benches.specs.Benches.{State, text_in, Outcome}
use Rattle.benches.specs.Layout.{long, bench}
use Rattle.benches.specs.Calls.{Call, call_of, outcome_at, outcome_of, reply_at, unchanged_of, open_of}
use Rattle.benches.specs.Demand.{Order, after, heard_of, heard_at, ledger_after, Demand3, TwoRuns}
use Rattle.benches.proofs.Words.{other, side-number}
use Rattle.benches.proofs.Lying.{Lying, swapped, swapped-back, stood-here, bench-lays}
use Rattle.benches.proofs.Runs.{Met, space_for, called, editor_after, answered, held-called, held-run, reading-run}
use Rattle.benches.proofs.Runs.{two_runs}
use Rattle.benches.proofs.Opens.{both-opened, editor_at, held_at, lying-opened}

-- a bench's own calls are those of its layout
named : (t : State) (s : Side) (c : Call) → outcome_of t (number_of s) c ≡ layout.outcome_of (bench s) t (call_of c)
unfolding outcome_at
named t s c = rw (side-number s)

named-reply : (t : State) (s : Side) → unchanged_of t (number_of s) ≡ layout.reply_of (bench s) t
unfolding reply_at
named-reply t s = rw (side-number s)

-- a call of one of the benches, where editors lie at both
module _ (s : Side) {m : ℕ} {f : Editor} {n : ℕ} {t : State} {e : Editor} (l : Lying s m f n t e) (c : Call) where
  abbrev lays : Lays (bench s) (Lying s m f)
  lays = bench-lays s m f

  abbrev met : Met
  met = record { call = c; words = ((bench s).space_in t).words; needed = ((bench s).space_in t).needed }

  space-met : (bench s).space_in t ≡ space_for met e
  space-met =
      λ i.
      record {
        words = ((bench s).space_in t).words;
        needed = ((bench s).space_in t).needed;
        done = stood-here s m f l i;
        laid = λ x. [];
      }

  refused-laid :
      (q : Bool) (u : Turn) →
      cond q (refusing t (output_of (call_of c)) too_long) (laid (bench s) t u)
      ≡ laid (bench s) t (cond q (refused e (output_of (call_of c)) too_long) u)
  refused-laid true u = refl
  refused-laid false u = refl

  call-is : outcome_of t (number_of s) c ≡ laid (bench s) t (called e met)
  call-is =
      named t s c ∙ outcome-is lays l (call_of c)
      ∙ rw space-met (refused-laid (overlong (call_of c)) (turn_of in_steps (space_for met e) e (call_of c)))

  call_lies :
      Legal in_steps n (called e met).editor →
      Lying s m f n (outcome_of t (number_of s) c).state (called e met).editor
  call_lies ok =
      rw call-is
      (cond-case
      (λ (u : Turn). Legal in_steps n u.editor → Lying s m f n (laid (bench s) t u).state u.editor)
      (overlong (call_of c)) (λ _ _. l)
      (λ _.
      turn-lies lays l {out = output_of (call_of c)} (turn_of in_steps (space_for met e) e (call_of c))
      (rw space-met (turn-ends in_steps (space_for met e) e (call_of c)))) ok)

-- an editor that some ledger determines, with a reading of this length
record Ours (n : ℕ) (e : Editor) : Type 0 where
  arrived : List ℕ
  ledger : Ledger
  held : Held in_steps arrived e ledger
  opening : length ledger.reading ≡ n

module _ {n : ℕ} {e : Editor} (o : Ours n e) where
  ours-legal : Legal in_steps n e
  ours-legal = subst (λ (n : ℕ). Legal in_steps n e) o.opening (legal in_steps o.held)

  ours-called : (m : Met) → Ours n (called e m).editor
  ours-called m =
      record {
        arrived = o.arrived;
        ledger = fed in_steps o.ledger (call_of m.call) (accepts (called e m));
        held = held-called o.held m;
        opening =
            ap length (reading-kept in_steps o.ledger (call_of m.call) (accepts (called e m))) ∙ o.opening;
      }

-- a run of both benches' calls is, for a bench, a run of its editor's own
pub record Ran (s : Side) (n : ℕ) (t : State) (e : Editor) (orders : List Order) : Type 0 where
  pub mets : List Met
  pub hears : heard_at s t orders ≡ answered e mets
  pub opening : ℕ
  pub beside : Editor
  pub lying : Lying s opening beside n (after t orders) (editor_after e mets)

abbrev Runs : Side → List Order → Type 0
Runs s orders =
    (n m : ℕ) (t : State) (e f : Editor) → Lying s m f n t e → Ours n e → Ours m f → Ran s n t e orders

-- no bench of another number: nothing changes, and nobody hears of it
no-bench : (t : State) (k : ℕ) (c : Call) → (outcome_of t (suc (suc k)) c).state ≡ t
unfolding outcome_at
no-bench t k c = cond-case (λ (r : Outcome). r.state ≡ t) (overlong (call_of c) || long t) (λ _. refl) (λ _. refl)

not_named : (k : ℕ) (s : Side) → eqb (suc (suc k)) (number_of s) ≡ false
not_named k first = ne_eqb (suc (suc k)) 0 (λ (e : suc (suc k) ≡ 0). omega arith)
not_named k second = ne_eqb (suc (suc k)) 1 (λ (e : suc (suc k) ≡ 1). omega arith)

self-named : (s : Side) → eqb (number_of s) (number_of s) ≡ true
self-named first = refl
self-named second = refl

other-named : (s : Side) → eqb (number_of (other s)) (number_of s) ≡ false
other-named first = refl
other-named second = refl

module _ (c : Call) (rest : List Order) where
  ran-own : (s : Side) → Runs s rest → Runs s (record { bench = number_of s; call = c } ∷ rest)
  ran-own s then n m t e f l o p =
      let now : Met = met s l c in
      let next : Ours n (called e now).editor = ours-called o now in
      let r : Ran s n (outcome_of t (number_of s) c).state (called e now).editor rest =
      then n m _ _ f (call_lies s l c (ours-legal next)) next p in
      record {
        mets = now ∷ r.mets;
        hears = rw (self-named s) (λ i. heard_of c (call-is s l c i) ∷ r.hears i);
        opening = r.opening;
        beside = r.beside;
        lying = r.lying;
      }

  ran-other : (s : Side) → Runs s rest → Runs s (record { bench = number_of (other s); call = c } ∷ rest)
  ran-other s then n m t e f l o p =
      let back : Lying (other s) n e m t f = swapped s l in
      let now : Met = met (other s) back c in
      let next : Ours m (called f now).editor = ours-called p now in
      let r : Ran s n (outcome_of t (number_of (other s)) c).state e rest =
      then n m _ e _ (swapped-back s (call_lies (other s) back c (ours-legal next))) o next in
      record {
        mets = r.mets;
        hears = rw (other-named s) r.hears;
        opening = r.opening;
        beside = r.beside;
        lying = r.lying;
      }

  ran-lost : (s : Side) (k : ℕ) → Runs s rest → Runs s (record { bench = suc (suc k); call = c } ∷ rest)
  ran-lost s k then n m t e f l o p =
      let r : Ran s n t e rest = then n m t e f l o p in
      let u : (outcome_of t (suc (suc k)) c).state ≡ t = no-bench t k c in
      record {
        mets = r.mets;
        hears = rw (not_named k s, u) r.hears;
        opening = r.opening;
        beside = r.beside;
        lying = rw u r.lying;
      }

  ran-order : (s : Side) (b : ℕ) → Runs s rest → Runs s (record { bench = b; call = c } ∷ rest)
  ran-order first zero = ran-own first
  ran-order first (suc zero) = ran-other first
  ran-order second zero = ran-other second
  ran-order second (suc zero) = ran-own second
  ran-order s (suc (suc k)) = ran-lost s k

ran : (s : Side) (orders : List Order) → Runs s orders
ran s [] = λ n m t e f l _ _. record { mets = []; hears = refl; opening = m; beside = f; lying = l }
ran s (o ∷ rest) = ran-order o.call rest s o.bench (ran s rest)

module _ (kinds : Both Kind) (arrived texts : Both (List ℕ)) (history : List ℕ)
    (ok : taken (open_of kinds arrived texts history) ≡ true) (orders : List Order) (s : Side) where
  abbrev start : State
  start = (open_of kinds arrived texts history).state

  abbrev at_first : Editor
  at_first = editor_at kinds arrived texts history s

  abbrev opening_at : Side → ℕ
  opening_at p = length (reading_in (at kinds p) (at arrived p)).cells

  pub ran-opened : Ran s (opening_at s) start at_first orders
  ran-opened =
      let b = both-opened kinds arrived texts history ok in
      let ours : (p : Side) → Ours (opening_at p) (editor_at kinds arrived texts history p) =
      λ p.
      record { arrived = at arrived p; ledger = _; held = held_at kinds arrived texts history b p; opening = refl } in
      ran s orders _ _ start at_first _ (lying-opened kinds arrived texts history b s) (ours s) (ours (other s))

  promised-at :
      Promised (bench s) (at arrived s) (after start orders)
      (ledger_after (opened (at kinds s) (at arrived s)) (heard_at s start orders))
  promised-at =
      let b = both-opened kinds arrived texts history ok in
      let r = ran-opened in
      let l : Ledger = opened (at kinds s) (at arrived s) in
      let lays : Lays (bench s) (Lying s r.opening r.beside) = bench-lays s r.opening r.beside in
      rw r.hears
      (promised lays
      (kept lays (rw (reading-run r.mets at_first l) r.lying)
      (held-run r.mets (held_at kinds arrived texts history b s))))

pub demand3 : Demand3
demand3 = promised-at

-- what the question is answered
abbrev asked : Editor → Reply
asked e = record { verdict = numbered 0 0; unchanged = unchanged_at (length e.standing) e.saved }

reply-is :
    (s : Side) {m : ℕ} {f : Editor} {n : ℕ} {t : State} {e : Editor} → Lying s m f n t e →
    unchanged_of t (number_of s) ≡ asked e
unfolding layout.reply_of
reply-is s {m} {f} {t = t} l =
    let lays : Lays (bench s) (Lying s m f) = bench-lays s m f in
    named-reply t s ∙ rw (lays.short l, lays.sees l, stood-here s m f l)

-- benches of two states at which the same editor lies
same_text :
    (s p : Side) {m n j k : ℕ} {t u : State} {e f g h : Editor} → Lying s m f n t e → Lying p j g k u h → e ≡ h →
    text_in t s ≡ text_in u p
same_text s p {m} {n} {j} {k} {t} {u} {e} {f} {g} {h} a b same =
    (bench-lays s m f).shows a ∙ (ap (λ (e : Editor). e.text) same ∙ sym ((bench-lays p j g).shows b))

same-reply :
    (s p : Side) {m n j k : ℕ} {t u : State} {e f g h : Editor} → Lying s m f n t e → Lying p j g k u h → e ≡ h →
    unchanged_of t (number_of s) ≡ unchanged_of u (number_of p)
same-reply s p a b same = reply-is s a ∙ (ap asked same ∙ sym (reply-is p b))

pub two-runs-alike : TwoRuns
two-runs-alike r q s p kind arrived long calls twelves =
    let a = ran-opened r.kinds r.arrived r.texts r.history r.opens r.orders s in
    let b = ran-opened q.kinds q.arrived q.texts q.history q.opens q.orders p in
    let e : Editor = editor_at r.kinds r.arrived r.texts r.history s in
    let f : Editor = editor_at q.kinds q.arrived q.texts q.history p in
    let same : e ≡ f =
    λ i.
    record {
      kind = kind i;
      room = long i;
      text = (reading_in (kind i) (arrived i)).cells;
      standing = [];
      undone = [];
      saved = Some 0;
    } in
    let t =
    two_runs e f same a.mets b.mets (rw (a.hears, b.hears) at calls) (rw (a.hears, b.hears) at twelves) in
    record {
      answers = rw (a.hears, b.hears) t.0;
      text = same_text s p a.lying b.lying t.1;
      question = same-reply s p a.lying b.lying t.1;
    }
