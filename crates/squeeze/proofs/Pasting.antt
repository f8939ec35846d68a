-- Cells put over what stands in a buffer, a part after another. Assumes nothing.
use Prim.Native.Nat.{ℕ, ◌+◌, ◌-◌, ◌≤◌}
use mathlib.Core.Path.{◌≡◌, sym, ap, ◌∙◌}
use mathlib.Core.Bool.{true}
use mathlib.Core.List.{List, [], ◌∷◌, ◌++◌, append-nil, append_assoc}
use native.Mathlib.Omega.{arith}
use native.Mathlib.Nat.{zero-add}
use lib.ListN.{length, take, drop, replicate, length-append, length-take, length-drop, drop_of_length-le}
use lib.Seq.{paste, paste-zero, take-paste, drop-paste, length-paste, take-add, take-take, take-length, drop-drop}
use lib.Seq.{length-take-le}
use lib.Seq.{take-append_seam, drop-append_seam, drop-append-add}
use borrow.Author.Tests.{le-leb}
use Rattle.answer.specs.Output.{filled}
use Rattle.ledger.specs.Words.{words_of}
use Rattle.splice.specs.Splice.{spliced, cleared, fitting, used_after, spliced_in}

-- cells put after others
pub paste_more :
    (d t s : List ℕ) (at j c : ℕ) → at + (j + c) ≤ length d → j + c ≤ length t → take c s ≡ take c (drop j t) →
    paste (paste d at t j) (at + j) s c ≡ paste d at t (j + c)
paste_more d t s at j c room part same =
    let first : take (at + j) (paste d at t j) ≡ take at d ++ take j t =
    take-paste d at t j (omega arith) (omega arith) in
    let sum : at + j + c ≡ at + (j + c) = omega arith in
    let last : drop (at + j + c) (paste d at t j) ≡ drop (at + (j + c)) d =
    sym (drop-drop c (at + j) (paste d at t j))
    ∙ ap (drop c) (drop-paste d at t j (omega arith) (omega arith))
    ∙ drop-drop c (at + j) d
    ∙ ap (λ (n : ℕ). drop n d) sum in
    (λ i. first i ++ same i ++ last i) ∙ rw (append_assoc (take at d) (take j t) (take c (drop j t)), ← take-add j c t)

-- what a splice at the end of what is in use leaves
module _ (work cells : List ℕ) (at : ℕ) (room : at + length cells ≤ length work) where
  fits : fitting at at 0 (length cells) (length work) ≡ true
  unfolding fitting
  fits =
      let here : at + 0 ≤ at = omega arith in
      let after : at - 0 + length cells ≤ length work = omega arith in
      rw (
        le-leb (at + 0) at here,
        le-leb at (length work) (omega arith),
        le-leb (at - 0 + length cells) (length work) after,
      )

  abbrev put : List ℕ
  put = spliced at 0 cells (take at work) ++ drop (at - 0 + length cells) work

  put_is : put ≡ paste work at cells (length cells)
  put_is =
      let n : at - 0 + length cells ≡ at + length cells = omega arith in
      rw (
        take-take at at work (omega arith),
        drop_of_length-le (take at work) {i = at + 0} (omega (arith, length-take at work)),
        append-nil,
        n,
        take-length cells,
      )

  pub append-is :
      (r : ℕ) (w : List ℕ) →
      (r ≡ used_after at at 0 (length cells) (length work)) × (w ≡ spliced_in at at 0 cells work) →
      (r ≡ at + length cells) × (w ≡ paste work at cells (length cells))
  unfolding used_after spliced_in
  append-is r w e =
      let none : at - (at - 0 + length cells) ≡ 0 = omega arith in
      let n : at - 0 + length cells ≡ at + length cells = omega arith in
      let e₀ : r ≡ at - 0 + length cells = rw fits at e.0 in
      let e₁ : w ≡ cleared (at - 0 + length cells) at put = rw fits at e.1 in
      (e₀ ∙ n, e₁ ∙ rw none (sym (paste-zero put (at - 0 + length cells) (replicate (length put) 0))) ∙ put_is)

-- a part of some cells, put so
pub put-part :
    (work cells : List ℕ) (at first count : ℕ) → first + count ≤ length cells → at + count ≤ length work →
    (r : ℕ) (w : List ℕ) →
    (r ≡ used_after at at 0 (length (take (first + count - first) (drop first cells))) (length work))
    × (w ≡ spliced_in at at 0 (take (first + count - first) (drop first cells)) work) →
    (r ≡ at + count) × (w ≡ paste work at (drop first cells) count)
put-part work cells at first count part room r w e =
    let n : first + count - first ≡ count = omega arith in
    let some : List ℕ = take count (drop first cells) in
    let long : length some ≡ count = length-take-le count (drop first cells) (omega (arith, length-drop first cells)) in
    let p = append-is work some at (omega (arith, long)) r w (rw n at e) in
    (p.0 ∙ ap (◌+◌ at) long, p.1 ∙ rw (take-length some, long))

-- a turn of the loop that puts parts of a text one after another
pub turned :
    (work₀ work w text cells : List ℕ) (start size at count r : ℕ) → size ≡ length text → start + size ≤ length work₀ →
    (start ≤ at) × (at ≤ start + size) × (length work ≡ length work₀) × (work ≡ paste work₀ start text (at - start)) →
    count ≤ start + size - at → take count cells ≡ take count (drop (at - start) text) →
    (r ≡ at + count) × (w ≡ paste work at cells count) →
    (start ≤ r) × (r ≤ start + size) × (length w ≡ length work₀) × (w ≡ paste work₀ start text (r - start))
turned work₀ work w text cells start size at count r all room i few same e =
    let j : ℕ = at - start in
    let here : at ≡ start + j = omega arith in
    let next : j + count ≡ r - start = omega (arith, e.0) in
    let is : w ≡ paste work₀ start text (j + count) =
    e.1
    ∙ (λ k. paste (i.3 k) (here k) cells count)
    ∙ paste_more work₀ text cells start j count (omega arith) (omega arith) same in
    let long : length w ≡ length work₀ =
    ap length is ∙ length-paste work₀ start text (j + count) (omega arith) (omega arith) in
    (omega (arith, e.0), omega (arith, e.0), long, is ∙ ap (paste work₀ start text) next)

paste-front : (work l : List ℕ) → paste work 0 l (length l) ≡ filled l work
paste-front work l = rw (take-length l, zero-add (length l))

-- the words of a record at the front of a buffer, one part after another
module _ (work removed added : List ℕ) (opening len : ℕ) where
  abbrev head : List ℕ
  head = 0 ∷ opening ∷ len ∷ []

  abbrev all : List ℕ
  all = words_of (record { place = 0; removed = removed; added = added })

  module _
      (o : opening ≡ length removed)
      (l : len ≡ length added)
      (room : 3 + opening + len ≤ length work)
      (n : ℕ)
      (w₁ : List ℕ)
      (e : (n ≡ used_after 0 0 0 3 (length work)) × (w₁ ≡ spliced_in 0 0 0 head work)) where
    first : (n ≡ 0 + 3) × (w₁ ≡ paste work 0 head 3)
    first = append-is work head 0 (omega arith) n w₁ e

    pub three : n ≡ 3
    three = first.0

    long : length all ≡ 3 + opening + len
    long = simp length-append (omega arith)

    first-is : w₁ ≡ paste work 0 all 3
    first-is = first.1 ∙ (λ i. paste work 0 (0 ∷ o i ∷ l i ∷ (removed ++ added)) 3)

    pub first-long : length w₁ ≡ length work
    first-long = ap length first-is ∙ length-paste work 0 all 3 (omega arith) (omega (arith, long))

    module _ (w₂ : List ℕ) (e₂ : w₂ ≡ paste w₁ n removed opening) where
      second_is : w₂ ≡ paste work 0 all (3 + opening)
      second_is =
          e₂
          ∙ (λ i. paste (first-is i) (three i) removed opening)
          ∙ paste_more work all removed 0 3 opening (omega arith) (omega (arith, long))
          (rw o (take-length removed ∙ sym (take-append_seam removed added)))

      pub second-long : length w₂ ≡ length work
      second-long = ap length second_is ∙ length-paste work 0 all (3 + opening) (omega arith) (omega (arith, long))

      pub record_is : (w₃ : List ℕ) → w₃ ≡ paste w₂ (n + opening) added len → w₃ ≡ filled all work
      record_is w₃ e₃ =
          let rest : drop (3 + opening) all ≡ added =
          ap (λ (k : ℕ). drop (3 + k) all) o
          ∙ drop-append-add (0 ∷ length removed ∷ length added ∷ []) (removed ++ added) (length removed)
          ∙ drop-append_seam removed added in
          e₃
          ∙ (λ i. paste (second_is i) (three i + opening) added len)
          ∙ ap (λ (k : ℕ). paste (paste work 0 all (3 + opening)) k added len) (sym (zero-add (3 + opening)))
          ∙ paste_more work all added 0 (3 + opening) len (omega arith) (omega (arith, long)) (ap (take len) (sym rest))
          ∙ ap (paste work 0 all) (sym long)
          ∙ paste-front work all
