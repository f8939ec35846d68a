use Prim.Native.Nat.{ℕ, ◌/◌, ◌<◌}
use mathlib.Core.Path.{◌∙◌}
use mathlib.Core.List.{[], ◌∷◌}
use native.Mathlib.Omega.{arith}
use lib.ListN.{length-set}
use Rattle.answer.proofs.Put.{Put, put-start, put_as, put-lt, put_next, put-end, put-done}
use Rattle.listing.specs.Listing.{decimal}
use Rattle.listing.proofs.Digits.{decimal-one, decimal-more, decimal-size}
use Rattle.listing.proofs.Lines.{put_first}
use borrow.Author.Rules.{rules}
use borrow.Fn.Kinds.{In}
use borrow.Fn.PlainCycle.{Measures, is, falls, and}
use Rattle.listing.proofs.put_decimal.Reads as put-decimal
use Rattle.listing.proofs.put_decimal.Kinds as put-decimal-kinds
use Rattle.listing.proofs.+put_decimal.Lts-put_decimal as put-decimal-lts
use Rattle.listing.proofs.digit_of.Reads as digit-of-reads
use Rattle.listing.proofs.+put_decimal.{statement}
use Rattle.listing.proofs.+put_decimal.Tie.{close}

-- the measure is the number
abbrev μ-put-decimal : Measures 1 put-decimal-kinds.ps ℕ
μ-put-decimal κs a = a.0

module _ (t : ℕ) where
  abbrev at-t : In 1 put-decimal-kinds.ps
  at-t = and 1 put-decimal-kinds.ps (is 1 put-decimal-kinds.ps μ-put-decimal t) put-decimal.Pre

  abbrev told : put-decimal-lts.Claims
  told =
      (digit-of-reads.Asked, digit-of-reads.Learnt, and 1 put-decimal-kinds.ps (falls 1 put-decimal-kinds.ps ◌<◌ μ-put-decimal t) put-decimal.Pre, put-decimal.Post)

  -- the only digit, and the last behind the others
  only :
      (c : put-decimal-lts.After-digit_of told at-t put-decimal.Post) → let s = c.before.before.before in
      Put (decimal s.args.n) s.args.out.now s.args.out.now 0 (c.digit_of.result ∷ [])
  only c =
      let s = c.before.before.before in
      put_as (decimal-one s.args.n c.if-n-lt10.true ∙ rw c.digit_of.ensures) (put-start _ _ s.requires.1)

  last :
      (c : put-decimal-lts.After-digit_of-2 told at-t put-decimal.Post) → let p = c.before.before.before in
      let s = p.before.before.before.before in
      Put (decimal s.args.n) s.args.out.now p.put_decimal-at.new.out p.put_decimal-at.result (c.digit_of-2.result ∷ [])
  last c =
      let p = c.before.before.before in
      let s = p.before.before.before.before in
      put_first (decimal (s.args.n / 10)) _
      (decimal-more s.args.n (omega arith) p.if-n-lt10.false ∙ rw c.digit_of-2.ensures)
      s.requires.1 p.put_decimal-at.ensures

  cast-digit-of : put-decimal-lts.Need-overflow_cast-n told at-t put-decimal.Post
  cast-digit-of c = search rules

  digit-of-requires : put-decimal-lts.Need-digit_of-requires told at-t put-decimal.Post
  digit-of-requires c κs = search rules

  slice-write-out : put-decimal-lts.Need-bounds-out-0 told at-t put-decimal.Post
  slice-write-out c = put-lt (only c)

  same_length : put-decimal-lts.Need-shape_of-out-then-n-lt10 told at-t put-decimal.Post
  same_length c = simp length-set

  returns : put-decimal-lts.Need-returns-then-n-lt10 told at-t put-decimal.Post
  returns c = let p = put_next (only c) in (put-end p, put-done p)

  put-decimal-requires : put-decimal-lts.Need-put_decimal-at-requires told at-t put-decimal.Post
  put-decimal-requires c κs =
      let s = c.before.before.before in
      let e = decimal-size s.args.n (omega arith) c.if-n-lt10.false in
      omega arith

  cast-digit-of-2 : put-decimal-lts.Need-overflow_cast-n-2 told at-t put-decimal.Post
  cast-digit-of-2 c = search rules

  digit-of-requires-2 : put-decimal-lts.Need-digit_of-requires-2 told at-t put-decimal.Post
  digit-of-requires-2 c κs = search rules

  slice-write-out-2 : put-decimal-lts.Need-bounds-out-at told at-t put-decimal.Post
  slice-write-out-2 c = put-lt (last c)

  add-result : put-decimal-lts.Need-overflow_add-result told at-t put-decimal.Post
  add-result c = let h = put-lt (last c) in search rules

  same-length-2 : put-decimal-lts.Need-shape_of-out told at-t put-decimal.Post
  same-length-2 c = (put_next (last c)).same

  returns-2 : put-decimal-lts.Need-returns told at-t put-decimal.Post
  returns-2 c = let p = put_next (last c) in (put-end p, put-done p)

pub +put_decimal_spec : {M : Type 1} → statement M
+put_decimal_spec =
    close μ-put-decimal λ t. put-decimal-lts.spec (told t) (at-t t) put-decimal.Post (cast-digit-of t) (digit-of-requires t) (slice-write-out t)
    (same_length t) (returns t) (put-decimal-requires t) (cast-digit-of-2 t) (digit-of-requires-2 t) (slice-write-out-2 t) (add-result t)
    (same-length-2 t) (returns-2 t)
