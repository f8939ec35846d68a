-- Steps in another text buffer, and records by their words. Assumes nothing.
use Prim.Native.Nat.{ℕ, ◌+◌, ◌≤◌}
use mathlib.Core.Path.{◌≡◌, sym, ap, subst}
use mathlib.Core.Bool.{Bool, true, ◌&&◌}
use mathlib.Core.List.{List, [], ◌∷◌}
use Rattle.std.specs.Prelude.{Some}
use native.Mathlib.Omega.{arith}
use lib.ListN.{length, length-append, length-take, length-drop}
use lib.Dec.{leb}
use borrow.Author.Tests.{leb-true}
use Rattle.answer.proofs.Below.{both}
use Rattle.editor.specs.Ledger.{Step}
use Rattle.editor.specs.Records.{Entry, length_after, lengths_fit}
use Rattle.editor.proofs.Steps.{stepped, record_of, records_of, Fits}
use Rattle.ledger.specs.Words.{records_in}
use Rattle.ledger.proofs.Words.{words, records-words}

-- words are of one list of records
pub same-words : (es fs : List Entry) → words es ≡ words fs → es ≡ fs
same-words es fs e =
    let n : ℕ = length (words es) in
    let here : records_in n (words es) ≡ Some es = records-words n es (omega arith) in
    let there : records_in n (words fs) ≡ Some fs = records-words n fs (omega (arith, ap length e)) in
    cc

-- steps that fit one room, whose records fit another, fit that
pub refits :
    (room other : ℕ) (text : List ℕ) (steps : List Step) → Fits room text steps → length text ≤ other →
    lengths_fit other (length text) (records_of text steps) ≡ true →
    Fits other text steps
unfolding lengths_fit
refits room other text [] f h t = h
refits room other text (x ∷ rest) f h t =
    let e : Entry = record_of text x in
    let after : ℕ = length_after (length text) e in
    let inside : Bool = leb (e.place + length e.removed) (length text) in
    let p = both (inside && leb after other) (lengths_fit other after (records_of (stepped x text) rest)) t in
    let q = both inside (leb after other) p.0 in
    let within = f.1 in
    let long : length (stepped x text) ≡ after = simp (length-append, length-take, length-drop) (omega arith) in (
      h,
      f.1,
      refits room other (stepped x text) rest f.2 (omega (arith, leb-true after other q.1))
          (subst (λ (n : ℕ). lengths_fit other n (records_of (stepped x text) rest) ≡ true) (sym long) p.1),
    )

pub fits_more :
    (room other : ℕ) → room ≤ other → (text : List ℕ) (steps : List Step) → Fits room text steps →
    Fits other text steps
fits_more room other h text [] f = omega arith
fits_more room other h text (x ∷ rest) f =
    let here = f.0 in
    (omega arith, f.1, fits_more room other h (stepped x text) rest f.2)
