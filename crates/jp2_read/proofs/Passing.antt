-- Cells of one byte, two and three, by the laws of `reading` for a step's loop. Assumes nothing.
use Prim.Native.Nat.{ℕ, ◌+◌, ◌-◌, ◌*◌, ◌<◌, ◌≤◌}
use mathlib.Core.Path.{◌≡◌, refl, sym}
use mathlib.Core.Bool.{Bool, true, false, ◌||◌, true≢false}
use mathlib.Core.List.{List, [], ◌∷◌}
use native.Mathlib.Omega.{arith}
use lib.ListN.{length, get_or}
use lib.Dec.{eqb}
use Rattle.reading.specs.Reading.{give, go}
use Rattle.reading.specs.Spans.{up_to}
use Rattle.std.specs.declared.option.Option.TheVariants.{Some}
use Rattle.reading.specs.Decoding.{step_from, Gets}
use Rattle.reading.specs.declared.Marked.{Marked}
use Rattle.reading.proofs.Steps.{Going, going-give, going-go}
use Rattle.reading.proofs.Decoding.{begun}
use Rattle.jp2.specs.Rule as rule
use Rattle.jp2.specs.Rule.{state, plain, first, shifted, escape, graphic, cell_of, single_does, between_does, byte_does, jp2}
use Rattle.jp2.specs.Spans.{span_in}
use Rattle.jp2.proofs.Sets.{differs, graphic-ascii, single}
use Rattle.jp2.proofs.Round.{byte-single, byte-first, byte-second, byte-n, byte-shifted}
use Rattle.jp2_read.specs.Cursor.{state_of, jp2_code}
use Rattle.jp2_read.specs.Passing.{at_rest, marked_at, Hands}
use Rattle.jp2_read.specs.declared.State.{State}

-- the byte at `to` completes a cell that begins at `at`
hands-give :
    {text : List ℕ} {at : ℕ} (count : ℕ) {to value : ℕ} {st : State} {st' : rule.State} → to + 1 ≡ at + count → at ≤ to → to < length text →
    ((handed : ℕ) → Going jp2 span_in text to handed st' (step_from jp2_code text at st handed)) → byte_does st' (get_or text to 0) ≡ give value (state_of st) →
    span_in st' (get_or text to 0) to ≡ up_to count to → Hands text at st (marked_at value at count)
hands-give {text} {at} count e l h g d s =
    let z : at + count - count ≡ at = omega arith in
    record {
      some = omega arith;
      within = omega arith;
      so = λ handed. sym (rw (s, e, z) at (going-give (g handed) h d));
    }

-- such a cell is where a reader gets to
pub gets-hands : {text : List ℕ} {at : ℕ} {st : State} {m : Marked} → Hands text at st m → Gets jp2_code text at st (record { cell = Some m; at = m.end; state = st })
gets-hands h = record { on = omega (arith, h.some); more = (h.some, h.within); settled = tt; same = h.so }

neither : (s t : Bool) → (s || t) ≡ false → (s ≡ false) × (t ≡ false)
neither true t e = absurd (true≢false e)
neither false t e = (refl, e)

-- a byte of a single-byte set, and a space
module _ (g0 g2 b : ℕ) (s : single g0 ≡ true) where
  pub single-code : graphic b ≡ true → byte_does (state g0 g2 plain) b ≡ give (cell_of g0 b) (state g0 g2 plain)
  unfolding graphic
  single-code e = rw (differs graphic b 13 e refl) at (byte-single g0 g2 b false s (graphic-ascii b e) (rw e))

  pub single-space : b ≡ 32 → byte_does (state g0 g2 plain) b ≡ give (cell_of 6 b) (state g0 g2 plain)
  unfolding byte_does between_does single_does graphic
  single-space e = rw (e, s)

module _ {text : List ℕ} {at : ℕ} (g0 g2 : ℕ) (h : at + 3 ≤ length text) where
  pub hands-single :
      {value : ℕ} → byte_does (state g0 g2 plain) (get_or text at 0) ≡ give value (state g0 g2 plain) → Hands text at (at_rest g0 g2) (marked_at value at 1)
  unfolding span_in
  hands-single d = hands-give 1 refl (omega arith) (omega arith) (begun jp2_code at (at_rest g0 g2)) d refl

  -- a pair
  pub hands-pair :
      single g0 ≡ false → graphic (get_or text at 0) ≡ true → graphic (get_or text (at + 1) 0) ≡ true →
      Hands text at (at_rest g0 g2) (marked_at (cell_of g0 (get_or text at 0 * 256 + get_or text (at + 1) 0)) at 2)
  unfolding span_in
  hands-pair s e f =
      let b = get_or text at 0 in
      let o = neither (eqb g0 6) (eqb g0 14) s in
      let here : at < length text = omega arith in
      hands-give 2 {to = at + 1} (omega arith) (omega arith) (omega arith)
      (λ handed. going-go (begun jp2_code at (at_rest g0 g2) handed) here (byte-first g0 g2 b e false o.0 o.1)) (byte-second g0 g2 _ f b) refl

  -- ESC N and a byte
  pub hands-shifted :
      get_or text at 0 ≡ 27 → (get_or text (at + 1) 0 ≡ 78) × (eqb g2 0 ≡ false) × (32 ≤ get_or text (at + 2) 0) × (get_or text (at + 2) 0 ≤ 127) →
      Hands text at (at_rest g0 g2) (marked_at (cell_of g2 (get_or text (at + 2) 0)) at 3)
  unfolding span_in byte_does between_does
  hands-shifted e f =
      let two : at + 1 + 1 ≡ at + 2 = omega arith in
      let here : at < length text = omega arith in
      let more : at + 1 < length text = omega arith in
      let escaped : byte_does (state g0 g2 plain) (get_or text at 0) ≡ go (state g0 g2 (escape (27 ∷ []))) = rw e in
      let shifts : byte_does (state g0 g2 (escape (27 ∷ []))) (get_or text (at + 1) 0) ≡ go (state g0 g2 shifted) = rw f.0 (byte-n g0 g2 f.1) in
      let passed : (handed : ℕ) → Going jp2 span_in text (at + 1 + 1) handed (state g0 g2 shifted) (step_from jp2_code text at (at_rest g0 g2) handed) =
      λ handed. going-go (going-go (begun jp2_code at (at_rest g0 g2) handed) here escaped) more shifts in
      hands-give 3 {to = at + 2} (omega arith) (omega arith) (omega arith)
      (λ handed. rw two at (passed handed))
      (byte-shifted g0 g2 _ f.2 f.3) refl
