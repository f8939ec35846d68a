-- Demand 2. Assumes nothing.
use Prim.Native.Nat.{ℕ, suc, ◌≤◌, ◌<◌, ◌^◌}
use mathlib.Core.Path.{◌≡◌, refl, sym, ap, ◌∙◌, subst}
use mathlib.Core.Bool.{Bool, true, false, cond, not, false≢true}
use mathlib.Core.List.{List, [], ◌∷◌}
use native.Mathlib.Omega.{arith}
use lib.ListN.{length}
use lib.Dec.{ltb}
use borrow.Author.Tests.{ltb-true, ltb-false, not-false}
use Rattle.answer.specs.Answer.{numbered, limit}
use Rattle.answer.specs.Output.{Outcome, refusing, deliver, written}
use Rattle.answer.specs.Lists.{Each}
use Rattle.answer.proofs.Below.{cond-case}
use Rattle.reading.specs.Reading.{Ending, accepted, fault, on_ending}
use Rattle.utf7.specs.Sets.{member}
use Rattle.utf7.specs.Writing.{writing, first_over, write_into}
use Rattle.utf7.specs.declared.Style.TheVariants.{Header, Body, Name}
use Rattle.utf7.proofs.ReadsBack as utf7-back
use Rattle.jp2.specs.Table.{first_where}
use Rattle.jp2.specs.Writable.{first_foreign}
use Rattle.jp2.specs.Writing as jp2-writing
use Rattle.jp2.proofs.ReadsBack as jp2-back
use Rattle.mailbox.proofs.ReadsBack as mailbox-back
use Rattle.codec.specs.declared.Format.{Format}
use Rattle.codec.specs.declared.Format.TheVariants.{Utf7, Jp2, Mailbox}
use Rattle.codec.specs.declared.Kind.{Kind}
use Rattle.codec.specs.declared.Kind.TheVariants as kind
use Rattle.codec.specs.Kinds.{format_of, reading_of, read_in, first_unwritable, write_in}
use Rattle.codec.specs.Demand.{given, Exactly, Within, Room, faults_in, Reads, is_unit, writable_in}
use Rattle.codec.specs.Demand.{Writer, in_kind, in_names, AllWritable, first_bad, ReadsBack, Writes, Demand2}
use Rattle.codec.proofs.ByKind.{read-form, write-form}
use Rattle.codec.proofs.Faults.{choose, KnownEnd, known}

abbrev number_in : Outcome → ℕ
number_in o = o.verdict.number

-- this is left, and the condition holds; or another number is given, and it does not
yes : {C : Type 0} {left : Outcome} → C → Exactly left C left
yes c = record { when = ((λ _. c), (λ _. refl)); leaves = λ _. refl }

no : {C : Type 0} {o left : Outcome} → (number_in o ≡ number_in left → ⊥) → (C → ⊥) → Exactly o C left
no other not = record { when = ((λ e. absurd (other e)), (λ c. absurd (not c))); leaves = λ c. absurd (not c) }

-- a condition that holds besides
beside : {C D : Type 0} {o left : Outcome} → C → Exactly o D left → Exactly o (C × D) left
beside c d = record { when = ((λ z. (c, d.when.0 z)), (λ h. d.when.1 h.1)); leaves = λ h. d.leaves h.1 }

-- a test between two outcomes: exactly when the first is left, and the second, and what may be left where the second is
module _ (x y : ℕ) (one two : Outcome) where
  first : (number_in two ≡ number_in one → ⊥) → Exactly (cond (ltb x y) one two) (x < y) one
  first other =
      cond-case (λ o. Exactly o (x < y) one) (ltb x y) (λ e. yes (ltb-true x y e))
      (λ e. no other (λ h. omega (arith, ltb-false x y e, h)))

  second : (number_in one ≡ number_in two → ⊥) → Exactly (cond (ltb x y) one two) (y ≤ x) two
  second other =
      cond-case (λ o. Exactly o (y ≤ x) two) (ltb x y) (λ e. no other (λ h. omega (arith, ltb-true x y e, h)))
      (λ e. yes (ltb-false x y e))

  then :
      {D : Type 0} {left : Outcome} → (number_in one ≡ number_in left → ⊥) → Exactly two D left →
      Exactly (cond (ltb x y) one two) ((y ≤ x) × D) left
  then {D} {left} other d =
      cond-case (λ o. Exactly o ((y ≤ x) × D) left) (ltb x y)
      (λ e. no other (λ h. omega (arith, ltb-true x y e, h.0))) (λ e. beside (ltb-false x y e) d)

-- elements go to an output, or lack room
module _ (elements out : List ℕ) where
  gives : Exactly (deliver elements out) (Room elements out) (given elements out)
  unfolding deliver
  gives = second (length out) (length elements) _ _ (λ z. omega (arith, z))

  cramps : Exactly (deliver elements out) (length out < length elements) (refusing (numbered 9 (length elements)) out)
  unfolding deliver
  cramps = first (length out) (length elements) _ _ (λ z. omega (arith, z))

  delivers : (P : ℕ → Type 0) → P 0 → P 9 → P (number_in (deliver elements out))
  unfolding deliver
  delivers P p q = choose (λ o. P (number_in o)) (ltb (length out) (length elements)) q p

-- the ending is no fault of this number
abbrev Not : ℕ → Ending → Type 0
Not n e = (k place : ℕ) → e ≡ fault k place → k ≡ n → ⊥

module _ (cells out : List ℕ) where
  ended :
      {D : Type 0} {left : Outcome} (e : Ending) → Not (number_in left) e → Exactly (deliver cells out) D left →
      Exactly (on_ending e cells out) ((e ≡ accepted) × D) left
  ended accepted other d = beside refl d
  ended (fault k place) other d = no (other k place refl) (λ h. let z : ◌≡◌ {A = ℕ} 0 1 = cc in omega arith)

  not-over : (e : Ending) → Not 16 e → number_in (on_ending e cells out) ≡ 16 → ⊥
  not-over accepted other = delivers cells out (λ n. n ≡ 16 → ⊥) (λ z. omega (arith, z)) (λ z. omega (arith, z))
  not-over (fault k place) other = other k place refl

unused :
    (f : Format) →
    (member (faults_in f) 0 ≡ false) × (member (faults_in f) 9 ≡ false) × (member (faults_in f) 16 ≡ false)
unused Utf7 = (refl, refl, refl)
unused Jp2 = (refl, refl, refl)
unused Mailbox = (refl, refl, refl)

module _ (format : Format) (text out : List ℕ) where
  abbrev end : Ending
  end = (reading_of format text).ending

  numbers : (k place : ℕ) → end ≡ fault k place → member (faults_in format) k ≡ true
  numbers k place e = subst (KnownEnd (faults_in format)) e (known format text)

  other : (n : ℕ) → member (faults_in format) n ≡ false → Not n end
  other n none k place e z = false≢true (sym none ∙ (rw z at (numbers k place e)))

  reads : Reads format text out
  reads =
      let cells = (reading_of format text).cells in
      let size = length text in
      let none = unused format in
      let form = read-form format text out in
      record {
        accepts =
            rw form
            (then limit size _ _ (λ z. omega (arith, z)) (ended cells out end (other 0 none.0) (gives cells out)));
        over = rw form (first limit size _ _ (not-over cells out end (other 16 none.2)));
        faulty =
            λ k place e.
            (rw (form, e) (second limit size _ _ (λ z. other 16 none.2 k place e (sym z))), numbers k place e);
        cramped =
            rw form
            (then limit size _ _ (λ z. omega (arith, z)) (ended cells out end (other 9 none.1) (cramps cells out)));
      }

-- the same condition in other words
mapped : {C D : Type 0} {o left : Outcome} → (C → D) → (D → C) → Exactly o C left → Exactly o D left
mapped f g e = record { when = ((λ z. f (e.when.0 z)), (λ d. e.when.1 (g d))); leaves = λ d. e.leaves (g d) }

-- no cell is bad exactly if each is good
module _ (good : ℕ → Bool) where
  none-bad : (cells : List ℕ) → Each (λ v. good v ≡ true) cells → length cells ≤ first_where (λ v. not (good v)) cells
  unfolding first_where
  none-bad [] h = omega arith
  none-bad (x ∷ xs) h = rw h.0 (omega (arith, none-bad xs h.1))

  all-good : (cells : List ℕ) → length cells ≤ first_where (λ v. not (good v)) cells → Each (λ v. good v ≡ true) cells
  unfolding first_where
  all-good [] h = tt
  all-good (x ∷ xs) h =
      cond-case (λ (n : ℕ). suc (length xs) ≤ n → Each (λ v. good v ≡ true) (x ∷ xs)) (not (good x))
      (λ t k. absurd (omega arith)) (λ t k. (not-false (good x) t, all-good xs (omega arith))) h

-- one of the numbers of writing
abbrev Told : ℕ → Type 0
Told n = member (0 ∷ 9 ∷ 10 ∷ 16 ∷ []) n ≡ true

module _ (w : Writer) (cells out : List ℕ) where
  abbrev bytes : List ℕ
  bytes = w.writing cells

  abbrev bad : ℕ
  bad = first_bad w cells out

  late : (n : ℕ) → (0 ≡ n → ⊥) → (9 ≡ n → ⊥) → number_in (deliver bytes out) ≡ n → ⊥
  late n = delivers bytes out (λ k. k ≡ n → ⊥)

  -- what follows 16 and 10
  after :
      {D : Type 0} {left : Outcome} → (16 ≡ number_in left → ⊥) → (10 ≡ number_in left → ⊥) →
      Exactly (deliver bytes out) D left →
      Exactly (written cells bad bytes out) (Within cells × (AllWritable w cells out × D)) left
  after a b d =
      then limit (length cells) _ _ a
      (mapped (λ h. (all-good w.writable cells h.0, h.1)) (λ h. (none-bad w.writable cells h.0, h.1))
      (then bad (length cells) _ _ b d))

  writes :
      w.write cells out ≡ written cells bad bytes out → ReadsBack w cells out (w.write cells out) →
      Writes w cells out
  writes form back =
      let size = length cells in
      record {
        accepts = rw form (after (λ z. omega (arith, z)) (λ z. omega (arith, z)) (gives bytes out));
        over =
            rw form
            (first limit size _ _
            (choose (λ o. number_in o ≡ 16 → ⊥) (ltb bad size) (λ z. omega (arith, z))
            (late 16 (λ z. omega (arith, z)) (λ z. omega (arith, z)))));
        unwritable =
            rw form
            (then limit size _ _ (λ z. omega (arith, z))
            (mapped (λ h all. omega (arith, h, none-bad w.writable cells all))
            (λ h. let some : size ≤ bad → ⊥ = λ z. h (all-good w.writable cells z) in omega (arith, some))
            (first bad size _ _ (late 10 (λ z. omega (arith, z)) (λ z. omega (arith, z))))));
        cramped = rw form (after (λ z. omega (arith, z)) (λ z. omega (arith, z)) (cramps bytes out));
        only =
            rw form
            (choose (λ o. Told (number_in o)) (ltb limit size) refl
            (choose (λ o. Told (number_in o)) (ltb bad size) refl (delivers bytes out Told refl refl)));
        back = back;
      }

-- the first cell that is no unit is the first that is not writable
either_way : (t : Bool) {m n : ℕ} → m ≡ n → cond t (suc m) 0 ≡ cond (not t) 0 (suc n)
either_way true e = ap suc e
either_way false e = refl

first-over : (cells : List ℕ) → first_over cells ≡ first_where (λ v. not (is_unit v)) cells
unfolding first_over first_where
first-over [] = refl
first-over (x ∷ xs) = either_way (ltb x (2 ^ 16)) (first-over xs)

first-bad : (k : Kind) (cells : List ℕ) → first_unwritable k cells ≡ first_where (λ v. not (writable_in k v)) cells
unfolding first_unwritable first_foreign
first-bad kind.Utf7Header cells = first-over cells
first-bad kind.Utf7Body cells = first-over cells
first-bad kind.Jp2 cells = refl

-- the call as the laws of the formats have it
accepted-as : (o : Outcome) → number_in o ≡ 0 → o ≡ record { verdict = numbered 0 o.verdict.place; out = o.out }
accepted-as o e = ap (λ (n : ℕ). record { verdict = numbered n o.verdict.place; out = o.out }) e

kind-back : (k : Kind) (cells out : List ℕ) → ReadsBack (in_kind k) cells out (write_in k cells out)
unfolding format_of read_in write_in
kind-back kind.Utf7Header cells out e few room =
    let o = write_into Header cells out in
    utf7-back.reads-back Header tt cells out o.out room o.verdict.place (accepted-as o e) few
kind-back kind.Utf7Body cells out e few room =
    let o = write_into Body cells out in
    utf7-back.reads-back Body tt cells out o.out room o.verdict.place (accepted-as o e) few
kind-back kind.Jp2 cells out e few room =
    let o = jp2-writing.write_into cells out in
    jp2-back.reads-back cells out o.out room o.verdict.place (accepted-as o e) few

module _ (cells out : List ℕ) where
  names-back : ReadsBack in_names cells out (write_into Name cells out)
  unfolding read_in
  names-back e few room =
      let o = write_into Name cells out in
      mailbox-back.reads-back cells out o.out room o.verdict.place (accepted-as o e) few

  names-form : write_into Name cells out ≡ written cells (first_bad in_names cells out) (writing Name cells) out
  unfolding write_into
  names-form = rw first-over

pub demand2 : Demand2
demand2 =
    record {
      reads = reads;
      writes =
          λ k cells out. writes (in_kind k) cells out (rw (write-form, first-bad)) (kind-back k cells out);
      names = λ cells out. writes in_names cells out (names-form cells out) (names-back cells out);
    }
