-- The front of a text, where what a plain one may not have stands nowhere before an end.
use Rattle.std.proofs.Common.{◌≡◌, ◌≢◌, ℕ, ◌+◌, ◌-◌, ◌<◌, ◌≤◌, List, length, take, drop, slice_index, arith, sym, ap, subst, ◌∙◌, length-take, take-take, get_or-take}
use Rattle.std.specs.Io.{StartsWith}
use Rattle.std.proofs.lemmas.List.{drop-take}
use Rattle.std.proofs.Transfers.{starts_with_length}
use Rattle.complain.specs.Said.{IsPlain, number_mark}

-- before its first n bytes end, a text has no NUL, and the library's mark begins nowhere
pub record PlainTo (n : ℕ) (text : List ℕ) : Type 0 where
  pub unended : (k : ℕ) → k < n → slice_index text k ≢ 0
  pub unmarked : (k : ℕ) → k < n → ¬ (StartsWith (drop k text) number_mark)

-- the front of a list, from a place on
front_from : (k n : ℕ) (text : List ℕ) → k < n → drop k (take n text) ≡ take (n - k) (drop k text)
front_from k n text h =
    let same : k + (n - k) ≡ n = omega arith in
    ap (λ m. drop k (take m text)) (sym same) ∙ drop-take k (n - k) text

-- a list begins as its front does
begins_as_front : (n : ℕ) (text mark : List ℕ) → StartsWith (take n text) mark → StartsWith text mark
begins_as_front n text mark h =
    let fits : length mark ≤ n = omega (arith, starts_with_length (take n text) mark h, length-take n text) in
    sym (take-take (length mark) n text fits) ∙ h

pub front_plain : (n : ℕ) (text : List ℕ) → n ≤ length text → PlainTo n text → IsPlain (take n text)
front_plain n text within p =
    let size : length (take n text) ≤ n = omega (arith, length-take n text) in
    record {
      unended = λ k h z. p.unended k (omega (arith, h, size)) (sym (get_or-take n text k 0 (omega (arith, h, size))) ∙ z);
      unmarked = λ k h m.
          let below : k < n = omega (arith, h, size) in
          p.unmarked k below
          (begins_as_front (n - k) (drop k text) number_mark (subst (λ l. StartsWith l number_mark) (front_from k n text below) m));
    }
