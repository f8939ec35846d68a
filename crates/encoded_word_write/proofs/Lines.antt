-- A word by its parts, and a line by its words. Assumes nothing.
use Prim.Native.Nat.{ℕ, ◌+◌, ◌-◌, ◌<◌, ◌≤◌}
use mathlib.Core.Path.{◌≡◌, refl, sym, ap, ◌∙◌}
use mathlib.Core.Bool.{Bool, cond}
use mathlib.Core.List.{List, ◌++◌}
use native.Mathlib.Omega.{arith}
use lib.ListN.{length, take, drop, length-append, length-take, length-drop}
use lib.Seq.{take_at, drop_at, drop-drop}
use lib.Dec.{ltb}
use Rattle.answer.specs.Answer.{limit}
use Rattle.answer.specs.Lists.{Each}
use Rattle.answer.specs.Output.{filled}
use Rattle.answer.proofs.Below.{each_take}
use Rattle.answer.proofs.Put.{Put, put_as, put-lent-room}
use Rattle.utf7.specs.Writing.{IsUnit, writing}
use Rattle.utf7.specs.declared.Style.TheVariants.{Header}
use Rattle.encoded_word.specs.Writing.{q_text, word_start, share_of, line_of}
use Rattle.encoded_word.specs.Inner.{q_size, end_of, word_and}
use Rattle.encoded_word.proofs.Shares.{rest-whole, step-asked, step-taken, step_line, step-size}
use Rattle.encoded_word_write.specs.Inner.{Puts}
use Rattle.encoded_word_write.proofs.Putting.{puts-on}
use Rattle.encoded_word_write.proofs.Spelling.{q-least}

-- the Q text of units has its place where they are written as UTF-7, and is what the UTF-7 becomes
module _ (us out out' : List ℕ) (size n : ℕ) (s : size ≡ q_size us) (room : size ≤ length out) where
  pub written-room : length (writing Header us) ≤ length out
  unfolding q_size
  written-room = omega (arith, q-least (writing Header us))

  module _ (e : n ≡ length (writing Header us)) (f : out' ≡ filled (writing Header us) out) where
    its-text : take n out' ≡ writing Header us
    its-text = rw f (take_at (writing Header us) (drop (length (writing Header us)) out) n (sym e))

    same_length : length out' ≡ length out
    same_length =
        ap length f ∙ length-append (writing Header us) (drop (length (writing Header us)) out)
        ∙ omega (arith, length-drop (length (writing Header us)) out, written-room)

    pub text-asked : (n ≤ length out') × (size ≤ length out') × (size ≡ length (q_text (take n out')))
    unfolding q_size
    text-asked =
        let q = s ∙ ap (λ (l : List ℕ). length (q_text l)) (sym its-text) in
        (omega (arith, same_length, written-room), omega (arith, same_length), q)

    pub text-filled :
        {out'' : List ℕ} → out'' ≡ filled (q_text (take n out')) out' → out'' ≡ filled (q_text (writing Header us)) out
    unfolding q_size
    text-filled g =
        let w = length (writing Header us) in
        let q = q_text (writing Header us) in
        let k : length q ≡ w + (length q - w) = omega (arith, q-least (writing Header us)) in
        g
        ∙ ap (λ (l : List ℕ). q_text l ++ drop (length (q_text l)) out') its-text
        ∙ ap (λ (l : List ℕ). q ++ l)
        (ap (λ (m : ℕ). drop m out') k ∙ sym (drop-drop (length q - w) w out')
        ∙ ap (drop (length q - w)) (ap (drop w) f ∙ drop_at (writing Header us) (drop w out) w refl)
        ∙ drop-drop (length q - w) w out ∙ ap (λ (m : ℕ). drop m out) (sym k))

-- a word's parts, one behind another
module _ (us : List ℕ) (more : Bool) (size at from : ℕ) (out out' : List ℕ) (e : size ≡ q_size us)
    (fit : at + length (word_and more us) ≤ length out) (begun : from ≡ at + 10) (p : Puts word_start at out out') where
  text-room : from + length (q_text (writing Header us)) + length (end_of more) ≤ length out'
  unfolding word_and
  text-room = omega (arith, fit, begun, p.0, length-append (q_text (writing Header us)) (end_of more))

  pub text-fits : from + length (q_text (writing Header us)) ≤ length out'
  text-fits = omega (arith, text-room)

  pub rest-asked : size ≤ length (take (length out' - from) (drop from out'))
  unfolding q_size
  rest-asked = rw (rest-whole out' from) (omega (arith, text-room, length-drop from out'))

  module _ (out'' : List ℕ) (q : Puts (q_text (writing Header us)) from out' out'') where
    pub end-asked : from + size + length (end_of more) ≤ length out''
    unfolding q_size
    end-asked = omega (arith, text-room, q.0)

    pub word-put :
        (end : ℕ) (last : List ℕ) → (end ≡ from + size + length (end_of more)) →
        Puts (end_of more) (from + size) out'' last →
        (end ≡ at + length (word_and more us)) × Puts (word_and more us) at out last
    unfolding word_and q_size
    word-put end last stop r =
        let w : List ℕ = q_text (writing Header us) in
        let t = puts-on w (end_of more) from (from + size) out' out'' last q (ap (λ (m : ℕ). from + m) e) r in
        let u = puts-on word_start (w ++ end_of more) at from out out' last p begun t in
        (omega (arith, length-append w (end_of more)), u)

-- a line's next word, where its share is found
module _ (units : List ℕ) (i count : ℕ) (good : Each IsUnit units) (h : i < length units)
    (e : count ≡ share_of (drop i units)) where
  abbrev word : List ℕ
  word = take (i + count - i) (drop i units)

  abbrev more : Bool
  more = ltb (i + count) (length units)

  same_count : i + count - i ≡ share_of (drop i units)
  same_count = omega arith

  pub word-asked :
      (size : ℕ) → size ≡ q_size (take (share_of (drop i units)) (drop i units)) → length units ≤ limit →
      Each IsUnit word × (length word ≤ limit) × (size ≡ q_size word)
  word-asked size f few =
      let s = step-asked units i good h few in
      let k : length word ≤ limit = omega (arith, length-take (i + count - i) (drop i units), s.2) in
      (each_take IsUnit (drop i units) (i + count - i) s.0, k, rw same_count f)

  pub word_line : line_of (drop i units) ≡ word_and more word ++ line_of (drop (i + count) units)
  word_line = rw (same_count, e) (step_line units i good h)

  pub word_on : (0 < count) × (i + count ≤ length units)
  word_on = let t = step-taken units i good h in (omega (arith, t.0), omega (arith, t.1))

  pub word_room :
      {first out : List ℕ} {at : ℕ} → Put (line_of units) first out at (line_of (drop i units)) →
      at + length (word_and more word) ≤ length out
  word_room {out = out} {at = at} p =
      let r = put-lent-room (word_and more word) (line_of (drop (i + count) units)) (put_as word_line p) in
      omega (arith, r, length-take (length out - at) (drop at out), length-drop at out, p.upto, p.room, p.same)

  -- the bytes of the line so far
  pub word_bytes :
      (total size : ℕ) → size ≡ q_size (take (share_of (drop i units)) (drop i units)) →
      total + length (line_of (drop i units)) ≡ length (line_of units) →
      total + (12 + size + cond more 3 0) + length (line_of (drop (i + count) units)) ≡ length (line_of units)
  word_bytes total size f inv = rw (e, f) (omega (arith, step-size units i good h, inv))
