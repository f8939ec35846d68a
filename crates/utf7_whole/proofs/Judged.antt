-- A text judged a token at a time: what each kind adds. Assumes nothing.
use Prim.Native.Nat.{ℕ, ◌+◌, ◌-◌, ◌*◌, ◌/◌}
use mathlib.Core.Path.{◌≡◌, ◌∙◌}
use mathlib.Core.List.{List}
use native.Mathlib.Omega.{arith}
use lib.ListN.{length, get_or}
use lib.Seq.{slice, length-slice}
use Rattle.alphabet.specs.Letters.{slash}
use Rattle.reading.proofs.Laws.{Left}
use Rattle.reading.proofs.Strides.{left-stride}
use Rattle.utf7.specs.Sets.{direct}
use Rattle.utf7.specs.Rule.{outside, utf7}
use Rattle.utf7_whole.specs.Quick.{Span, Run, One, past}
use Rattle.utf7_whole.proofs.Tokens.{length-units, some_at, direct-stride, sign-stride, run-stride}
use Rattle.utf7_whole.proofs.Buffers.{slash-dash, one-run, one-units, one-past}

module _ {s : List ℕ} {at n : ℕ} (l : Left utf7 s at outside n) where
  pub left-direct : (k : ℕ) → Span direct s at (at + k) → Left utf7 s (at + k) outside (n + k)
  left-direct k p =
      let e : length (slice at (at + k) s) ≡ k = length-slice at (at + k) s p.within ∙ omega arith in
      rw e at (left-stride (direct-stride p) l)

  module _ (sign : get_or s at 0 ≡ 43) where
    pub left-sign : get_or s (at + 1) 0 ≡ 45 → Left utf7 s (at + 2) outside (n + 1)
    left-sign g = left-stride (sign-stride (some_at s (at + 1) (omega arith)) sign g) l

    pub left-run : {to : ℕ} → Run slash s (at + 1) to → Left utf7 s (past s to) outside (n + (to - (at + 1)) * 6 / 16)
    left-run {to} r = rw (length-units slash s (at + 1) to r.letters.within) at (left-stride (run-stride sign r) l)

    pub left_one : {unit : ℕ} → One slash s (at + 1) unit → Left utf7 s (at + 5) outside (n + 1)
    left_one o =
        let p : past s (at + 1 + 3) ≡ at + 5 = one-past o ∙ omega arith in
        rw (one-units slash-dash o, p) at (left-stride (run-stride sign (one-run slash-dash o)) l)

pub left_as : {s : List ℕ} {at n to m : ℕ} → Left utf7 s at outside n → at ≡ to → n ≡ m → Left utf7 s to outside m
left_as l e q = rw (← e, ← q) l
