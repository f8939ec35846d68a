-- Several bytes of a text read at once: what moves a loop over the text on by more than one byte. Assumes nothing.
use Prim.Native.Nat.{ℕ, ◌+◌, ◌-◌, ◌<◌, ◌≤◌}
use mathlib.Core.Path.{◌≡◌, refl, sym, ap, ◌∙◌}
use mathlib.Core.List.{List, [], ◌∷◌, ◌++◌, append_assoc}
use native.Mathlib.Omega.{arith}
use lib.ListN.{length, get_or, take, drop, set, length-append, length-drop}
use lib.Seq.{drop-drop, drop_at}
use borrow.Rule.Slice.PartMut.{put_mid}
use Rattle.answer.specs.Output.{filled}
use Rattle.answer.proofs.Put.{Put, put_as, put-lt, put_next, put-lent-room, put-lent}
use Rattle.reading.specs.Reading.{give, go, Rule, Reading, read_from, reading}
use Rattle.reading.proofs.Laws.{Left, read_by}
use Rattle.reading.proofs.Filling.{Filling}
use Rattle.reading.proofs.Walk.{Walk, stay, gives, goes, push_all, walk-read}

-- from a place, in a state, reading gives some cells and goes on from a later place in a state
pub record Stride {S : Type 0} (rule : Rule S) (s : List ℕ) (at : ℕ) (st : S) (to : ℕ) (cs : List ℕ) (st' : S) : Type 0 where
  pub within : to ≤ length s
  pub few : at + length cs ≤ to
  pub same : read_from rule (drop at s) at st ≡ push_all cs (read_from rule (drop to s) to st')

module _ {S : Type 0} {rule : Rule S} {s : List ℕ} {at : ℕ} {st : S} where
  pub stride-stay : at ≤ length s → Stride rule s at st at [] st
  stride-stay h = record { within = h; few = omega arith; same = refl }

  pub stride-give : {v : ℕ} {st' : S} → at < length s → rule.byte st (get_or s at 0) ≡ give v st' → Stride rule s at st (at + 1) (v ∷ []) st'
  stride-give {v} {st'} h e = record { within = omega arith; few = omega arith; same = read_by rule s at st (give v st') h e }

  pub stride-go : {st' : S} → at < length s → rule.byte st (get_or s at 0) ≡ go st' → Stride rule s at st (at + 1) [] st'
  stride-go {st'} h e = record { within = omega arith; few = omega arith; same = read_by rule s at st (go st') h e }

  module _ {to : ℕ} {cs : List ℕ} {st' : S} (a : Stride rule s at st to cs st') where
    pub stride_on : {to' : ℕ} {cs' : List ℕ} {st'' : S} → Stride rule s to st' to' cs' st'' → Stride rule s at st to' (cs ++ cs') st''
    stride_on {to'} {cs'} {st''} b =
        record {
          within = b.within;
          few = omega (arith, a.few, b.few, length-append cs cs');
          same = a.same ∙ rw (b.same, append_assoc cs cs' (read_from rule (drop to' s) to' st'').cells);
        }

    -- the state after it, where another reads the same from there on
    pub stride-as : {st'' : S} → read_from rule (drop to s) to st' ≡ read_from rule (drop to s) to st'' → Stride rule s at st to cs st''
    stride-as e = record { within = a.within; few = a.few; same = a.same ∙ ap (push_all cs) e }

    pub stride-to : {to' : ℕ} → to ≡ to' → Stride rule s at st to' cs st'
    stride-to e = rw e at a

    pub left-stride : {n : ℕ} → Left rule s at st n → Left rule s to st' (n + length cs)
    left-stride {n} l =
        let c = l.cells ∙ ap (λ (x : Reading). x.cells) a.same in
        let r = (read_from rule (drop to s) to st').cells in
        record {
          within = a.within;
          few = omega (arith, l.few, a.few);
          inside = omega (arith, ap length c, length-drop n (reading rule s).cells, length-append cs r, l.inside);
          cells = sym (drop-drop (length cs) n (reading rule s).cells) ∙ ap (drop (length cs)) c ∙ drop_at cs r (length cs) refl;
          ending = l.ending ∙ ap (λ (x : Reading). x.ending) a.same;
        }

    module _ {n : ℕ} {out₀ out : List ℕ} (f : Filling rule s at st n out₀ out) where
      put-cells : Put (reading rule s).cells out₀ out n (cs ++ (read_from rule (drop to s) to st').cells)
      put-cells = put_as (ap (λ (x : Reading). x.cells) a.same) f.put

      -- its cells, put into the rest of the output that was lent as `&mut out[n..]`
      pub filling-room : length cs ≤ length (take (length out - n) (drop n out))
      filling-room = put-lent-room cs _ put-cells

      pub filling-part :
          {y : List ℕ} → y ≡ filled cs (take (length out - n) (drop n out)) →
          Filling rule s to st' (n + length cs) out₀ (put_mid n (length out - n) out y)
      filling-part e = record { left = left-stride f.left; put = put-lent cs _ put-cells e }

  -- no cell, and one cell
  pub left-none : {to : ℕ} {st' : S} {n : ℕ} → Left rule s at st n → Stride rule s at st to [] st' → Left rule s to st' n
  left-none {n = n} l a =
      let z : n + 0 ≡ n = omega arith in
      rw z at (left-stride a l)

  module _ {to : ℕ} {st' : S} {n : ℕ} {out₀ out : List ℕ} (f : Filling rule s at st n out₀ out) where
    pub filling-none : Stride rule s at st to [] st' → Filling rule s to st' n out₀ out
    filling-none a = record { left = left-none f.left a; put = put-cells a f }

    module _ {v : ℕ} (a : Stride rule s at st to (v ∷ []) st') where
      pub filling-place : n < length out
      filling-place = put-lt (put-cells a f)

      pub filling-one : Filling rule s to st' (n + 1) out₀ (set out n v)
      filling-one = record { left = left-stride a f.left; put = put_next (put-cells a f) }

-- a walk over the bytes that stand at a place
walk-few : {S : Type 0} {rule : Rule S} {st end : S} {bs cs : List ℕ} → Walk rule st bs cs end → length cs ≤ length bs
walk-few stay = omega arith
walk-few (gives e w) = omega (arith, walk-few w)
walk-few (goes e w) = omega (arith, walk-few w)

pub stride-walk :
    {S : Type 0} {rule : Rule S} {s : List ℕ} {at : ℕ} {st end : S} {bs cs : List ℕ} (rest : List ℕ) → Walk rule st bs cs end → drop at s ≡ bs ++ rest →
    at ≤ length s → Stride rule s at st (at + length bs) cs end
stride-walk {rule = rule} {s} {at} {st} {end} {bs} {cs} rest w e h =
    let d : drop (at + length bs) s ≡ rest = sym (drop-drop (length bs) at s) ∙ ap (drop (length bs)) e ∙ drop_at bs rest (length bs) refl in
    record {
      within = omega (arith, ap length e, length-append bs rest, length-drop at s);
      few = omega (arith, walk-few w);
      same = rw (e, d) (walk-read w rest at (at + length bs) refl);
    }
