-- An output that is written by blocks: what each step of the writing leaves. Assumes nothing.
use Prim.Native.Nat.{ℕ, suc, ◌+◌, ◌-◌, ◌<◌, ◌≤◌}
use mathlib.Core.Path.{◌≡◌, refl, sym, ap, ◌∙◌}
use mathlib.Core.List.{List, [], ◌∷◌, ◌++◌, append_assoc}
use native.Mathlib.Omega.{arith}
use lib.ListN.{length, get_or, take, drop, set, length-append, length-drop, take-append-drop}
use lib.Seq.{sets, sets-eq, paste, length-paste, drop-paste, length-take-le, take_at, drop_at, drop-drop, drop-cons, take-add, take-append-le, take-take}
use lib.Dec.{eqb}
use borrow.Rule.Slice.PartMut.{put_mid}
use Rattle.answer.specs.Output.{filled}
use Rattle.answer.proofs.Below.{cond-case}
use Rattle.answer.proofs.Put.{Put, put-start, put_as, put-lt, put_next, put-lent-room, put-lent, put-end, put-done}
use Rattle.utf7.specs.Sets.{sign_of, own}
use Rattle.utf7.specs.Writing.{Piece, self, sign, stretch, extend, pieces, spell, spell_all, writing}
use Rattle.utf7.specs.declared.Style.{Style}
use Rattle.utf7.proofs.Pieces.{length_run}
use Rattle.answer.specs.Ahead.{Ahead}
use Rattle.utf7_write.specs.Ahead.{Own}
use Rattle.utf7_write.specs.Begun.{Reach, Begun}
use Rattle.utf7_write.proofs.Two.{Two, put_two}
use Rattle.utf7_write.proofs.Several.{put-several, put-block}
use Rattle.utf7_write.proofs.Blocks.{write-block}
use Rattle.utf7_write.proofs.Stretches.{Stretched, Itself, write-end, write-sign}

-- each unit takes a byte at least
extend-least : (style : Style) (u : ℕ) (ps : List Piece) → suc (length (spell_all style ps)) ≤ length (spell_all style (extend u ps))
unfolding spell_all
extend-least style u [] = simp (length-append, length_run) (omega arith)
extend-least style u (self v ∷ ps) = simp (length-append, length_run) (omega arith)
extend-least style u (sign ∷ ps) = simp (length-append, length_run) (omega arith)
extend-least style u (stretch us ∷ ps) = simp (length-append, length_run) (omega arith)

size-least : (style : Style) (us : List ℕ) → length us ≤ length (writing style us)
unfolding writing pieces spell_all spell
size-least style [] = omega arith
size-least style (u ∷ us) =
    let ih = size-least style us in
    let enough : List Piece → Type 0 = λ ps. suc (length us) ≤ length (spell_all style ps) in
    cond-case enough (own style u) (λ _. omega arith)
    (λ _. cond-case enough (eqb u (sign_of style)) (λ _. omega arith) (λ _. omega (arith, extend-least style u (pieces style us))))

-- lists that are alike from a place on are alike further on
further : (l k : List ℕ) (m n : ℕ) → m ≤ n → drop m l ≡ drop m k → drop n l ≡ drop n k
further l k m n h e =
    let q : m + (n - m) ≡ n = omega arith in
    rw q at (sym (drop-drop (n - m) m l) ∙ ap (drop (n - m)) e ∙ drop-drop (n - m) m k)

-- what is next stands already
put-stands :
    {text base out : List ℕ} {at : ℕ} (part r : List ℕ) → Put text base out at (part ++ r) → at + length part ≤ length out →
    take (length part) (drop at out) ≡ part → Put text base out (at + length part) r
put-stands {out = out} {at = at} part r p h e =
    let n = length part in
    let q : sets out at part ≡ out =
    sets-eq part out at h
    ∙ ap (λ (l : List ℕ). l ++ drop (at + n) out) (ap (λ (l : List ℕ). take at out ++ l) (sym e) ∙ sym (take-add at n out))
    ∙ take-append-drop (at + n) out in
    rw q at (put-several part r out at p)

module _ {text out₀ out todo : List ℕ} {at until : ℕ} (r : Reach text out₀ out at todo until) where
  reach-length : at + length todo ≤ length out
  reach-length = omega (arith, ap length r.put.left, length-drop at text, r.put.upto, r.put.room, r.put.same)

  reach-on : {out' todo' : List ℕ} {at' until' : ℕ} → Put text r.base out' at' todo' → until ≤ until' → Reach text out₀ out' at' todo' until'
  reach-on {until' = until'} p h =
      record { base = r.base; put = p; kept = further r.base out₀ until until' h r.kept; whole = r.whole }

  -- n elements go where others are put later
  reach-over : (bs : List ℕ) (n : ℕ) → n ≤ length bs → n ≤ length todo → at + n ≤ until → Reach text out₀ (paste out at bs n) at todo until
  reach-over bs n h k u =
      let p = r.put in
      let b = r.base in
      let t : length (take at text) ≡ at = length-take-le at text p.upto in
      let w : at + n ≤ length b = omega (arith, reach-length, p.same) in
      let f : take at out ≡ take at text = rw p.front (take_at (take at text) (drop at b) at t) in
      let g : drop (at + n) out ≡ drop (at + n) b =
      further out b at (at + n) (omega arith) (rw p.front (drop_at (take at text) (drop at b) at t)) in
      record {
        base = paste b at bs n;
        put =
            record {
              room = rw (length-paste b at bs n w h) p.room;
              upto = p.upto;
              left = p.left;
              front =
                  rw (
                    f,
                    g,
                    append_assoc (take at text) (take n bs) (drop (at + n) b),
                    append_assoc (take at b) (take n bs) (drop (at + n) b),
                    drop_at (take at b) (take n bs ++ drop (at + n) b) at (length-take-le at b (omega arith)),
                  );
              same = length-paste out at bs n (omega (arith, p.same)) h ∙ p.same ∙ sym (length-paste b at bs n w h);
            };
        kept = further (paste b at bs n) b (at + n) until u (drop-paste b at bs n (omega arith) h) ∙ r.kept;
        whole = length-paste b at bs n w h ∙ r.whole;
      }

pub begun-start : (style : Style) (us out : List ℕ) → length (writing style us) ≤ length out → Begun style us out out 0 0
begun-start style us out h = record { inside = omega arith; reach = record { base = out; put = put-start _ _ h; kept = refl; whole = refl } }

module _ {style : Style} {us out₀ out : List ℕ} {i at : ℕ} (b : Begun style us out₀ out i at) where
  -- each unit that is left has its place
  pub begun-room : at + (length us - i) ≤ length out
  begun-room = omega (arith, reach-length b.reach, size-least style (drop i us), length-drop i us)

  pub begun-same : length out ≡ length out₀
  begun-same = b.reach.put.same ∙ b.reach.whole

  pub begun-upto : at ≤ length out₀
  begun-upto = omega (arith, begun-room, begun-same)

  pub begun-done : length us ≤ i → (at ≡ length (writing style us)) × (out ≡ filled (writing style us) out₀)
  begun-done h =
      let r = b.reach in
      let p = put_as (write-end style us i h) r.put in
      let e = put-end p in
      let n : at + (length us - i) ≡ length (writing style us) = omega arith in
      (e, put-done p ∙ ap (λ (l : List ℕ). writing style us ++ l) (rw n at r.kept))

  begun-on :
      {out' : List ℕ} {j at' : ℕ} → Put (writing style us) b.reach.base out' at' (writing style (drop j us)) → j ≤ length us →
      j + at ≤ i + at' → Begun style us out₀ out' j at'
  begun-on p h k = record { inside = h; reach = reach-on b.reach p (omega (arith, b.inside)) }

  -- units that are written as themselves
  pub begun-copy :
      (n : ℕ) → i + n ≤ length us → Ahead (Own style) us i n → {out' : List ℕ} → out' ≡ paste out at (drop i us) n → Begun style us out₀ out' (i + n) (at + n)
  begun-copy n h a e =
      rw e
      (begun-on (put-block (drop i us) (writing style (drop (i + n) us)) n (omega (arith, length-drop i us)) (put_as (write-block style us n i h a) b.reach.put)) h
      (omega arith))

  -- a block of n bytes is stored
  begun-over : (n : ℕ) (bs : List ℕ) → i + n ≤ length us → n ≤ length bs → Begun style us out₀ (paste out at bs n) i at
  begun-over n bs h l =
      record { inside = b.inside; reach = reach-over b.reach bs n l (omega (arith, size-least style (drop i us), length-drop i us)) (omega arith) }

  module _ (h : i < length us) where
    -- a sign
    two : {s : ℕ} → s ≡ sign_of style → get_or us i 0 ≡ s → Two (writing style us) b.reach.base out at s 45 (writing style (drop (i + 1) us))
    two q e = put_two (put_as (write-sign style us i h q e) b.reach.put)

    pub begun-sign : {s : ℕ} → s ≡ sign_of style → get_or us i 0 ≡ s → (at + 1 < length out) × Begun style us out₀ (set (set out at s) (at + 1) 45) (i + 1) (at + 2)
    begun-sign q e = ((two q e).room, begun-on (two q e).put (omega arith) (omega arith))

    -- a unit that is written as itself
    pub begun-own : Itself style us i → (at < length out) × Begun style us out₀ (set out at (get_or us i 0)) (i + 1) (at + 1)
    begun-own o =
        let p = put_as o.cut b.reach.put in
        (put-lt p, begun-on (put_next p) (omega arith) (omega arith))

  -- a run
  module _ (j : ℕ) (s : Stretched style us i j) where
    abbrev run : List ℕ
    run = spell style (stretch (take (j - i) (drop i us)))

    next : Put (writing style us) b.reach.base out at (run ++ writing style (drop j us))
    next = put_as s.cut b.reach.put

    pub run_room : length run ≤ length (take (length out - at) (drop at out))
    run_room = put-lent-room run (writing style (drop j us)) next

    pub begun-run :
        {n : ℕ} {y : List ℕ} → n ≡ length run → y ≡ filled run (take (length out - at) (drop at out)) →
        Begun style us out₀ (put_mid at (length out - at) out y) j (at + n)
    begun-run q e =
        rw q
        (begun-on (put-lent run (writing style (drop j us)) next e) s.inside
        (omega (arith, s.bytes, s.on, rw (s.cut, length-append run (writing style (drop j us))) at s.bytes)))

-- a run of one unit
module _ {style : Style} {us out₀ out : List ℕ} {i at : ℕ} (b : Begun style us out₀ out i at) (s : Stretched style us i (i + 1)) where
  abbrev alone : List ℕ
  alone = spell style (stretch (get_or us i 0 ∷ []))

  one-run : spell style (stretch (take (i + 1 - i) (drop i us))) ≡ alone
  one-run =
      let n : i + 1 - i ≡ 1 = omega arith in
      let h : i < length us = omega (arith, s.inside) in
      rw (n, drop-cons us i 0 h)

  pub one-room : length alone ≤ length (take (length out - at) (drop at out))
  one-room = rw one-run at (run_room b (i + 1) s)

  pub begun-one : {y : List ℕ} → y ≡ filled alone (take (length out - at) (drop at out)) → Begun style us out₀ (put_mid at (length out - at) out y) (i + 1) (at + 5)
  begun-one {y} e = begun-run b (i + 1) s {n = 5} {y = y} (rw (one-run, length_run style (get_or us i 0 ∷ []))) (rw one-run e)

-- a block of n bytes is stored, of which the first k stand
pub begun-block :
    {style : Style} {us out₀ out : List ℕ} {i at : ℕ} → Begun style us out₀ out i at → (n : ℕ) (bs : List ℕ) → i + n ≤ length us → length bs ≡ n →
    (k : ℕ) → k ≤ n → Ahead (Own style) us i k → take k bs ≡ take k (drop i us) → {out' : List ℕ} → out' ≡ paste out at bs n →
    Begun style us out₀ out' (i + k) (at + k)
begun-block {style} {us} {out₀} {out} {i} {at} b n bs h l k q o same f =
    let c = begun-over b n bs h (omega arith) in
    let part : List ℕ = take k (drop i us) in
    let e : length part ≡ k = length-take-le k (drop i us) (omega (arith, length-drop i us)) in
    let t : at + n ≤ length out = omega (arith, begun-room b) in
    let z : take k (drop at (paste out at bs n)) ≡ part =
    rw (append_assoc (take at out) (take n bs) (drop (at + n) out), drop_at (take at out) (take n bs ++ drop (at + n) out) at (length-take-le at out (omega arith)), take-append-le k (take n bs) (drop (at + n) out) (rw (length-take-le n bs (omega arith)) q), take-take k n bs q)
    same in
    rw f
    (begun-on c (rw e at (put-stands part (writing style (drop (i + k) us)) (put_as (write-block style us k i (omega arith) o) c.reach.put) (rw (e, length-paste out at bs n t (omega arith)) (omega arith)) (rw e z)))
    (omega arith) (omega arith))
