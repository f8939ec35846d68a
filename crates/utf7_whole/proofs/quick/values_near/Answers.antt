use lib.ListN.{length-set, get_or-replicate}
use Rattle.std.proofs.Common.{◌≡◌, ◌+◌, ◌∙◌, ℕ, refl, get_or, get_or-set_other, arith}
use Rattle.alphabet.specs.Letters.{value_of}
use Rattle.utf7_whole.proofs.Tokens.{set_more}
use Rattle.utf7_whole.proofs.Buffers.{near-done}
use Rattle.utf7_whole.proofs.quick.values_near.Goals as goal

pub loop-k-init : goal.loop-k-init
loop-k-init c = (refl, λ j h. absurd (omega arith), λ j h l. get_or-replicate 32 j 64 0 l)

pub returns-then-text-at : goal.returns-then-text-at
returns-then-text-at c = let i = c.loop-k.invariant in near-done _ i.1 i.2 c.if-text-at.true c.requires.0

pub loop-k-preserved : goal.loop-k-preserved
loop-k-preserved c =
    let a = c.args in
    let i = c.loop-k.invariant in
    let Q : ℕ → ℕ → Type 0 = λ j x. x ≡ value_of a.last (get_or a.text.now (a.at + j) 0) in (
      simp length-set i.0,
      set_more c.loop-k.x c.loop-k.k c.value.result Q (omega (arith, i.0, c.loop-k-test.true)) i.1 c.value.ensures,
      λ j h m. get_or-set_other c.loop-k.x c.loop-k.k j c.value.result 0 (λ e. omega (arith, e, h)) ∙ i.2 j (omega arith) m,
    )

pub returns : goal.returns
returns c = let i = c.loop-k.invariant in record { so = λ k h. i.1 k (omega (arith, h, c.loop-k-test.false)) }
