-- What a judgement tells of two benches, for the calls that ask for it. Assumes nothing.
use Prim.Native.Nat.{ℕ, zero, suc, ◌+◌, ◌≤◌}
use mathlib.Core.Path.{◌≡◌, refl, sym, ap, ◌∙◌}
use mathlib.Core.Bool.{Bool, true, false, cond, ◌&&◌, ◌||◌, false≢true}
use mathlib.Core.List.{List, [], ◌∷◌, ◌++◌}
use Rattle.std.specs.Prelude.{Option, None, Some, Ok, Err}
use native.Mathlib.Omega.{arith}
use lib.ListN.{length, take, drop, length-drop, take-append-drop}
use lib.Seq.{take-add, length-take-le}
use lib.Dec.{leb}
use borrow.Author.Tests.{leb-true, ltb-false}
use Rattle.answer.specs.Answer.{Verdict, limit, numbered, in_numbers, too_long, refused_at, Answer}
use Rattle.answer.specs.declared.Refusal.TheVariants.{Unsound, OverLimit, NoSuchBench}
use Rattle.answer.proofs.Below.{both, cond-case}
use Rattle.editor.specs.Editor.{over, overlong, output_of}
use Rattle.editor.specs.Ledger as editor
use Rattle.editor.specs.Layout.{Reply, refusing, call_on, ask_on}
use Rattle.editor.specs.Layout as layout
use Rattle.editor.proofs.Steps.{or_parts}
use Rattle.ledger.specs.Words.{zeros}
use Rattle.ledger.proofs.Words.{Whole}
use Rattle.benches.specs.declared.Bench.{Bench}
use Rattle.benches.specs.Words.{Side, first, second, number_of, side_of, at, Record, words, onto, records_in}
use Rattle.benches.specs.Benches.{State, Outcome, sound_at, judged, records}
use Rattle.benches.specs.Layout.{long, bench, editor_for}
use Rattle.benches.specs.Calls.{outcome_at, reply_at}
use Rattle.bench_records.specs.declared.Pass.{Pass}
use Rattle.answer.specs.declared.Refused.{Refused}
use Rattle.bench_records.specs.Passing.{Passed, leads, pass_sound}
use Rattle.bench_records.specs.Turning.{side_at}
use Rattle.bench_records.specs.Judging.{Judged, pass_at, judged_at, unfit, sound_by, named_by, judge_of}
use Rattle.bench_records.proofs.Passes.{pass-sound}

-- the records found in any words have those words
onto-exact :
    (b p r a : ℕ) (ws : List ℕ) (s : Option Side) → side_of b ≡ s → (x : Option (List Record)) → r + a ≤ length ws →
    Whole (λ rs. words rs ≡ drop (r + a) ws) x →
    Whole (λ rs. words rs ≡ b ∷ p ∷ r ∷ a ∷ ws)
    (onto s (record { place = p; removed = take r ws; added = take a (drop r ws) }) x)
onto-exact b p r a ws None q x h e = tt
onto-exact b p r a ws (Some s) q None h e = tt
onto-exact b p r a ws (Some s) q (Some rs) h e =
    let n : number_of s ≡ b = number b s q in
    let rr : length (take r ws) ≡ r = length-take-le r ws (omega arith) in
    let aa : length (take a (drop r ws)) ≡ a = length-take-le a (drop r ws) (simp length-drop (omega arith)) in
    let joined : (take r ws ++ take a (drop r ws)) ++ words rs ≡ ws =
    rw (← take-add r a ws, e) (take-append-drop (r + a) ws) in
    λ i. n i ∷ p ∷ rr i ∷ aa i ∷ joined i
  where
    number : (b : ℕ) (s : Side) → side_of b ≡ Some s → number_of s ≡ b
    number zero first q = refl
    number zero second q = let z : first ≡ second = cc in ap number_of (sym z)
    number (suc zero) first q = let z : first ≡ second = cc in ap number_of z
    number (suc zero) second q = refl
    number (suc (suc n)) s q = let z : ◌≡◌ {A = ℕ} 0 1 = cc in absurd (omega arith)

exact : (n : ℕ) (ws : List ℕ) → Whole (λ rs. words rs ≡ ws) (records_in n ws)
unfolding records_in
exact zero [] = refl
exact zero (b ∷ ws) = tt
exact (suc n) [] = refl
exact (suc n) (b ∷ []) = tt
exact (suc n) (b ∷ p ∷ []) = tt
exact (suc n) (b ∷ p ∷ r ∷ []) = tt
exact (suc n) (b ∷ p ∷ r ∷ a ∷ ws) =
    cond-case (Whole (λ rs. words rs ≡ b ∷ p ∷ r ∷ a ∷ ws)) (leb (r + a) (length ws))
    (λ t.
    onto-exact b p r a ws (side_of b) refl (records_in n (drop (r + a) ws)) (leb-true (r + a) (length ws) t)
    (exact n (drop (r + a) ws)))
    (λ _. tt)

-- sound benches: their records tile the words used, the words past them are 0, and each bench is sound by its own
pub record Tiled (t : State) (rs : List Record) : Type 0 where
  pub uses : t.used ≤ length t.history
  pub blank : zeros (drop t.used t.history) ≡ true
  pub tiles : words rs ≡ take t.used t.history
  pub sound : (s : Side) → sound_at t rs s ≡ true

module _ (t : State) where
  tiled-by :
      (x : Option (List Record)) → Whole (λ rs. words rs ≡ take t.used t.history) x →
      t.used ≤ length t.history → zeros (drop t.used t.history) ≡ true → Whole (Tiled t) (judged t x)
  unfolding judged
  tiled-by None w u z = tt
  tiled-by (Some rs) w u z =
      cond-case (Whole (Tiled t)) (sound_at t rs first && sound_at t rs second)
      (λ e.
      let q = both (sound_at t rs first) (sound_at t rs second) e in
      record { uses = u; blank = z; tiles = w; sound = each q.0 q.1 })
      (λ _. tt)
    where
      each : sound_at t rs first ≡ true → sound_at t rs second ≡ true → (s : Side) → sound_at t rs s ≡ true
      each f g first = f
      each f g second = g

  pub records-tiled : Whole (Tiled t) (records t)
  unfolding records
  records-tiled =
      cond-case (Whole (Tiled t)) (leb t.used (length t.history) && zeros (drop t.used t.history))
      (λ e.
      let q = both (leb t.used (length t.history)) (zeros (drop t.used t.history)) e in
      tiled-by (records_in t.used (take t.used t.history)) (exact t.used (take t.used t.history))
      (leb-true t.used (length t.history) q.0) q.1)
      (λ _. tt)

  -- and each one's pass goes through
  pass-through : (rs : List Record) (s : Side) → sound_at t rs s ≡ true → pass_at t rs s ≡ None → ⊥
  unfolding pass_sound leads
  pass-through rs s e q =
      let b : Bench = at t.benches s in
      let x : List ℕ = at t.texts s in
      let lies : Bool = leb b.opening (length x) && leb b.length (length x) && zeros (drop b.length x) in
      let u = both lies (leads b (pass_at t rs s)) (sym (pass-sound b t.used s rs x) ∙ e) in
      false≢true (sym (ap (leads b) q) ∙ u.1)

side-at : (s : Side) → side_at (number_of s) ≡ s
side-at first = refl
side-at second = refl

-- benches that were found sound for the calls of one of them
pub record Fit (t : State) (s : Side) (p : Pass) : Type 0 where
  pub short : long t ≡ false
  pub short-first : length t.texts.bench0 ≤ limit
  pub short-second : length t.texts.bench1 ≤ limit
  pub short-history : length t.history ≤ limit
  pub rs : List Record
  pub found : records t ≡ Some rs
  pub tiled : Tiled t rs
  pub passes : pass_at t rs s ≡ Some p

module _ (t : State) where
  fit-cases :
      (p : Pass) (s : Side) (l : Bool) (x : Option (List Record)) → long t ≡ l → records t ≡ x → Whole (Tiled t) x →
      cond l (unfit OverLimit limit) (sound_by (judged_at t (number_of s) x)) ≡ Ok p → Fit t s p
  fit-cases p s true x q r w e = let z : ◌≡◌ {A = ℕ} 0 1 = cc in absurd (omega arith)
  fit-cases p s false None q r w e = let z : ◌≡◌ {A = ℕ} 0 1 = cc in absurd (omega arith)
  fit-cases p s false (Some rs) q r w e =
      let o = or_parts (over t.texts.bench0) (over t.texts.bench1 || over t.history) q in
      let u = or_parts (over t.texts.bench1) (over t.history) o.1 in
      record {
        short = q;
        short-first = ltb-false limit (length t.texts.bench0) o.0;
        short-second = ltb-false limit (length t.texts.bench1) u.0;
        short-history = ltb-false limit (length t.history) u.1;
        rs = rs;
        found = r;
        tiled = w;
        passes = through (pass_at t rs s) (rw (side-at s) at e);
      }
    where
      through : (x : Passed) → sound_by x ≡ Ok p → x ≡ Some p
      through None e = let z : ◌≡◌ {A = ℕ} 0 1 = cc in absurd (omega arith)
      through (Some q) e = let z : q ≡ p = cc in ap Some z

  module _ {j : Judged} {p : Pass} (n : ℕ) (d : j ≡ judge_of t n) (e : j ≡ Ok p) where
    fit-side : (s : Side) → side_of n ≡ Some s → Fit t s p
    unfolding judge_of
    fit-side s q =
        fit-cases p s (long t) (records t) refl refl (records-tiled t)
        (ap (λ (x : Option Side). cond (long t) (unfit OverLimit limit) (named_by t x)) (sym q) ∙ sym d ∙ e)

    -- the caller is bench 0, or else bench 1
    pub fit-first : n ≡ 0 → Fit t first p
    fit-first q = fit-side first (ap side_of q)

    pub second-named : (n ≡ 0 → ⊥) → side_of n ≡ Some second
    unfolding judge_of
    second-named q = by n q (sym d ∙ e)
      where
        never : (l : Bool) → cond l (unfit OverLimit limit) (unfit NoSuchBench 0) ≡ Ok p → ⊥
        never true e = let z : ◌≡◌ {A = ℕ} 0 1 = cc in omega arith
        never false e = let z : ◌≡◌ {A = ℕ} 0 1 = cc in omega arith

        by : (n : ℕ) → (n ≡ 0 → ⊥) →
            cond (long t) (unfit OverLimit limit) (named_by t (side_of n)) ≡ Ok p → side_of n ≡ Some second
        by zero q e = absurd (q refl)
        by (suc zero) q e = refl
        by (suc (suc n)) q e = absurd (never (long t) e)

    pub fit-second : (n ≡ 0 → ⊥) → Fit t second p
    fit-second q = fit-side second (second-named q)

  -- benches that were refused: every call, and the question, gives that answer by its way to refuse
  module _
      (a : Refused)
      {R : Type 0}
      (refuse : Verdict → R)
      (call : Side → Option (List Record) → R)
      (none-refused : (s : Side) → call s None ≡ refuse (numbered 14 0)) where
    abbrev called : Option Side → R
    called None = cond (long t) (refuse too_long) (refuse (numbered 20 0))
    called (Some s) = cond (long t) (refuse too_long) (call s (records t))

    refused_as : (b : Answer) → b ≡ Err a → refuse (in_numbers b) ≡ refuse (in_numbers (Err a))
    refused_as b z = ap (λ (b : Answer). refuse (in_numbers b)) z

    unfit-named :
        (s : Side) (l : Bool) (x : Option (List Record)) → Whole (Tiled t) x →
        cond l (unfit OverLimit limit) (sound_by (judged_at t (number_of s) x)) ≡ Err a →
        cond l (refuse too_long) (call s x) ≡ refuse (in_numbers (Err a))
    unfit-named s true x w e = refused_as (refused_at OverLimit limit) (cc)
    unfit-named s false None w e = none-refused s ∙ refused_as (refused_at Unsound 0) (cc)
    unfit-named s false (Some rs) w e = absurd (broken (pass_at t rs s) refl (rw (side-at s) at e))
      where
        broken : (x : Passed) → pass_at t rs s ≡ x → sound_by x ≡ Err a → ⊥
        broken None q e = pass-through t rs s (w.sound s) q
        broken (Some p) q e = let z : ◌≡◌ {A = ℕ} 0 1 = cc in omega arith

    unfit-nobody :
        (l : Bool) → cond l (unfit OverLimit limit) (unfit NoSuchBench 0) ≡ Err a →
        cond l (refuse too_long) (refuse (numbered 20 0)) ≡ refuse (in_numbers (Err a))
    unfit-nobody true e = refused_as (refused_at OverLimit limit) (cc)
    unfit-nobody false e = refused_as (refused_at NoSuchBench 0) (cc)

    unfit-side :
        (x : Option Side) → cond (long t) (unfit OverLimit limit) (named_by t x) ≡ Err a →
        called x ≡ refuse (in_numbers (Err a))
    unfit-side None e = unfit-nobody (long t) e
    unfit-side (Some s) e = unfit-named s (long t) (records t) (records-tiled t) e

    unsound : {j : Judged} (n : ℕ) → j ≡ judge_of t n → j ≡ Err a → called (side_of n) ≡ refuse (in_numbers (Err a))
    unfolding judge_of
    unsound n d e = unfit-side (side_of n) (sym d ∙ e)

  module _ (c : editor.Call) where
    abbrev call : Side → Option (List Record) → Outcome
    call s x = call_on (bench s) t c (editor_for t s x)

    call_none : (s : Side) → call s None ≡ refusing t (output_of c) (numbered 14 0)
    unfolding call_on
    call_none s = refl

    call-named :
        (a : Refused) → overlong c ≡ false → (x : Option Side) →
        outcome_at t x c ≡ called a (refusing t (output_of c)) call call_none x
    unfolding outcome_at layout.outcome_of
    call-named a few None = rw few
    call-named a few (Some s) = rw few

    pub call-unfit :
        {j : Judged} {a : Refused} (n : ℕ) → overlong c ≡ false → j ≡ judge_of t n → j ≡ Err a →
        outcome_at t (side_of n) c ≡ refusing t (output_of c) (in_numbers (Err a))
    call-unfit {a = a} n few d e =
        call-named a few (side_of n) ∙ unsound a (refusing t (output_of c)) call call_none n d e

  abbrev refuse : Verdict → Reply
  refuse v = record { verdict = v; unchanged = false }

  abbrev ask : Side → Option (List Record) → Reply
  ask s x = ask_on (bench s) t (editor_for t s x)

  ask-none : (s : Side) → ask s None ≡ refuse (numbered 14 0)
  ask-none s = refl

  ask-named : (a : Refused) (x : Option Side) → reply_at t x ≡ called a refuse ask ask-none x
  unfolding reply_at layout.reply_of
  ask-named a None = refl
  ask-named a (Some s) = refl

  pub ask-unfit :
      {j : Judged} {a : Refused} (n : ℕ) → j ≡ judge_of t n → j ≡ Err a → reply_at t (side_of n) ≡ refuse (in_numbers (Err a))
  ask-unfit {a = a} n d e = ask-named a (side_of n) ∙ unsound a refuse ask ask-none n d e
