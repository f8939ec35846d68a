-- Bytes that become Q text where they stand, from the last back. Assumes nothing.
use Prim.Native.Nat.{ℕ, zero, suc, ◌+◌, ◌-◌, ◌<◌, ◌≤◌}
use mathlib.Core.Path.{◌≡◌, refl, sym, ap, ◌∙◌}
use mathlib.Core.Bool.{Bool, true, false, cond}
use mathlib.Core.List.{List, [], ◌∷◌, ◌++◌, map, append_assoc, append-nil}
use native.Mathlib.Omega.{arith}
use native.Mathlib.Numerals.{add-one}
use lib.ListN.{length, get_or, take, drop, length-append, length-map, take-append-drop, drop_of_length-le}
use lib.Seq.{sets, sets-eq, length-take-le, take-take, drop_at, drop-cons, get_or-take, take-append-le}
use lib.Dec.{eqb}
use Rattle.answer.specs.Output.{filled}
use Rattle.answer.proofs.Put.{put_as}
use Rattle.utf7_write.proofs.Several.{put-from, put-sets}
use Rattle.parsing.specs.Digits.{digits}
use Rattle.encoded_word.specs.Writing.{itself, spelled, q_text}
use Rattle.encoded_word_write.specs.Inner.{Puts, shown_as}
use Rattle.encoded_word_write.proofs.Spelling.{q-both, q-least, q-upto, q-more-size}

-- a byte spelled, where it is told whether it is a space and whether it stands for itself
abbrev text : ℕ → Bool → Bool → List ℕ
text b s t = cond s (95 ∷ []) (cond t (b ∷ []) (61 ∷ digits 16 2 b))

-- as many characters as bytes: each is shown as one
one_each : (l : List ℕ) → length (q_text l) ≡ length l → q_text l ≡ map shown_as l
unfolding q_text spelled digits
one_each [] h = refl
one_each (b ∷ l) h = by (eqb b 32) (itself b) refl (one_each l)
  where
    rest :
        (s t : Bool) → text b (eqb b 32) (itself b) ≡ text b s t → length (text b s t) ≡ 1 →
        length (q_text l) ≡ length l
    rest s t e n = omega (arith, h, length-append (text b (eqb b 32) (itself b)) (q_text l), ap length e)

    by :
        (s t : Bool) → text b (eqb b 32) (itself b) ≡ text b s t →
        (length (q_text l) ≡ length l → q_text l ≡ map shown_as l) →
        text b s t ++ q_text l ≡ cond s 95 b ∷ map shown_as l
    by true t e f = ap (λ (r : List ℕ). 95 ∷ r) (f (rest true t e refl))
    by false true e f = ap (λ (r : List ℕ). b ∷ r) (f (rest false true e refl))
    by false false e f =
        absurd (omega (arith, h, length-append (text b (eqb b 32) (itself b)) (q_text l), ap length e, q-least l))

-- a part that is put, as it then stands
pub puts-sets :
    (part : List ℕ) (at : ℕ) (out out' : List ℕ) → at + length part ≤ length out → Puts part at out out' →
    out' ≡ sets out at part
puts-sets part at out out' h p =
    (put-sets out part at h
    (p.1 (take at out ++ part) out [] (put_as (sym (append-nil part)) (put-from out part at h)))).1

-- the first i bytes are as they were, and from a place on stands the Q text of the others
pub record Spelt (out₀ : List ℕ) (n : ℕ) (out : List ℕ) (i to : ℕ) : Type 0 where
  pub upto : i ≤ n
  pub place : to ≡ length (q_text (take i out₀))
  pub same : length out ≡ length out₀
  pub front : take i out ≡ take i out₀
  pub back : drop to out ≡ q_text (drop i (take n out₀)) ++ drop (length (q_text (take n out₀))) out₀

module _ (out₀ : List ℕ) (n size : ℕ) (few : n ≤ length out₀) (room : size ≤ length out₀)
    (e : size ≡ length (q_text (take n out₀))) where
  -- what stands behind the Q text
  abbrev rest : List ℕ
  rest = drop (length (q_text (take n out₀))) out₀

  pub spelt-start : Spelt out₀ n out₀ n size
  unfolding q_text
  spelt-start =
      record {
        upto = omega arith;
        place = e;
        same = refl;
        front = refl;
        back = rw (drop_of_length-le (take n out₀) {i = n} (omega (arith, length-take-le n out₀ few)), e);
      }

  module _ {out : List ℕ} {i to : ℕ} (s : Spelt out₀ n out i to) where
    least : i ≤ to
    least =
        omega (arith, q-least (take i out₀), s.place, length-take-le i out₀ (omega (arith, s.upto)))

    most : to ≤ size
    most =
        let k : i + (n - i) ≡ n = omega (arith, s.upto) in
        omega (arith, e, s.place, rw k at (q-upto out₀ i (n - i)))

    pub spelt-some : i < to → 0 < i
    unfolding q_text
    spelt-some h = by i refl
      where
        by : (m : ℕ) → i ≡ m → 0 < i
        by zero q = absurd (omega (arith, h, s.place ∙ ap (λ (m : ℕ). length (q_text (take m out₀))) q))
        by (suc m) q = omega arith

    pub spelt-done :
        {out' : List ℕ} → to ≤ i → out' ≡ filled (map shown_as (take i out)) out →
        out' ≡ filled (q_text (take n out₀)) out₀
    spelt-done {out'} h q =
        let l : length (take i out₀) ≡ i = length-take-le i out₀ (omega (arith, s.upto)) in
        let t : i ≡ to = omega (arith, least) in
        let one : q_text (take i out₀) ≡ map shown_as (take i out₀) = one_each (take i out₀) (omega (arith, s.place)) in
        let m : length (map shown_as (take i out)) ≡ to =
        length-map (take i out) shown_as ∙ ap length s.front ∙ l ∙ t in
        let w : q_text (take n out₀) ≡ q_text (take i out₀) ++ q_text (drop i (take n out₀)) =
        ap q_text (sym (take-append-drop i (take n out₀))) ∙ q-both (take i (take n out₀)) (drop i (take n out₀))
        ∙ ap (λ (r : List ℕ). q_text r ++ q_text (drop i (take n out₀))) (take-take i n out₀ s.upto) in
        q
        ∙ ap (λ (k : ℕ). map shown_as (take i out) ++ drop k out) m
        ∙ ap (λ (r : List ℕ). map shown_as (take i out) ++ r) s.back
        ∙ ap (λ (r : List ℕ). map shown_as r ++ (q_text (drop i (take n out₀)) ++ rest)) s.front
        ∙ ap (λ (r : List ℕ). r ++ (q_text (drop i (take n out₀)) ++ rest)) (sym one)
        ∙ sym (append_assoc (q_text (take i out₀)) (q_text (drop i (take n out₀))) rest)
        ∙ ap (λ (r : List ℕ). r ++ rest) (sym w)

  -- the last of them
  module _ {out : List ℕ} {to : ℕ} (i : ℕ) (s : Spelt out₀ n out (i + 1) to) where
    abbrev b : ℕ
    b = get_or out i 0

    here : i < length out₀
    here = omega (arith, s.upto)

    same_byte : get_or out i 0 ≡ get_or out₀ i 0
    same_byte =
        sym (get_or-take (i + 1) out i 0 (omega arith)) ∙ ap (λ (l : List ℕ). get_or l i 0) s.front
        ∙ get_or-take (i + 1) out₀ i 0 (omega arith)

    before : to ≡ length (q_text (take i out₀)) + length (spelled b)
    before = s.place ∙ q-more-size out₀ i here ∙ rw same_byte

    pub spelt-room : (length (spelled b) ≤ to) × (to - length (spelled b) + length (spelled b) ≤ length out)
    spelt-room = (omega (arith, before), omega (arith, before, most s, s.same))

    pub spelt-next :
        (out' : List ℕ) → Puts (spelled b) (to - length (spelled b)) out out' →
        Spelt out₀ n out' i (to - length (spelled b))
    unfolding q_text
    spelt-next out' p =
        let at = to - length (spelled b) in
        let back : at + length (spelled b) ≡ to = omega (arith, before) in
        let g : out' ≡ take at out ++ spelled b ++ drop to out =
        puts-sets (spelled b) at out out' spelt-room.1 p ∙ sets-eq (spelled b) out at spelt-room.1
        ∙ ap (λ (k : ℕ). take at out ++ spelled b ++ drop k out) back in
        let l : length (take at out) ≡ at = length-take-le at out (omega (arith, spelt-room.1)) in
        let k : i ≤ at =
        omega (arith, before, q-least (take i out₀), length-take-le i out₀ (omega (arith, here))) in
        let a : out' ≡ take at out ++ (spelled b ++ drop to out) =
        g ∙ append_assoc (take at out) (spelled b) (drop to out) in
        record {
          upto = omega (arith, s.upto);
          place = omega (arith, before);
          same = p.0 ∙ s.same;
          front =
              ap (take i) a ∙ take-append-le i (take at out) (spelled b ++ drop to out) (omega (arith, l))
              ∙ take-take i at out k ∙ sym (take-take i (i + 1) out (omega arith)) ∙ ap (take i) s.front
              ∙ take-take i (i + 1) out₀ (omega arith);
          back =
              ap (drop at) a ∙ drop_at (take at out) (spelled b ++ drop to out) at l
              ∙ ap (λ (r : List ℕ). spelled b ++ r) s.back
              ∙ sym (append_assoc (spelled b) (q_text (drop (i + 1) (take n out₀))) rest)
              ∙ ap (λ (r : List ℕ). r ++ rest) (sym last);
        }
      where
        last : q_text (drop i (take n out₀)) ≡ spelled b ++ q_text (drop (i + 1) (take n out₀))
        last =
            ap q_text (drop-cons (take n out₀) i 0 (omega (arith, length-take-le n out₀ few, s.upto)))
            ∙ rw (get_or-take n out₀ i 0 (omega (arith, s.upto)), same_byte, add-one i)
