-- Mailbox names read a token at a time: what each kind of token reads as, and what it lays into an output. Assumes nothing.
use Prim.Native.Nat.{ℕ, suc, ◌+◌, ◌-◌, ◌<◌, ◌≤◌}
use mathlib.Core.Path.{◌≡◌, refl, sym, ap, ◌∙◌}
use mathlib.Core.Bool.{Bool, true, false, ◌&&◌, ◌||◌, and-true, false≢true}
use mathlib.Core.List.{List, [], ◌∷◌, ◌++◌, append-nil}
use native.Mathlib.Nat.{add-zero, zero-add}
use native.Mathlib.Omega.{arith}
use lib.ListN.{length, get_or, take, drop, set, length-append, length-drop, take-append-drop}
use lib.Seq.{slice, length-slice, length-take-le, get_or-take, get_or-drop, drop_at, drop-drop, drop-append-add, take-take, take_at}
use lib.Dec.{ltb, eqb}
use borrow.Author.Tests.{ltb-true, eqb-true, eqb-false, ne_eqb}
use Rattle.answer.specs.Lists.{Each}
use Rattle.answer.specs.Output.{filled}
use Rattle.answer.proofs.Below.{both}
use Rattle.answer.proofs.Laid.{Laid, laid_one, laid_on}
use Rattle.bits.specs.Bits.{all_zero, left_over}
use Rattle.alphabet.specs.Letters.{value_of, set_b, comma}
use Rattle.reading.specs.Reading.{give, go, read_from, reading}
use Rattle.reading.specs.Matching.{same_cells, accepted_as, reads_as}
use Rattle.reading.proofs.Laws.{left-start}
use Rattle.reading.proofs.Walk.{Walk, stay, gives}
use Rattle.reading.proofs.Strides.{Stride, stride-stay, stride-give, stride-go, stride_on, stride-to, stride-walk, left-stride}
use Rattle.utf7.specs.Sets.{printable, own}
use Rattle.utf7.specs.Rule.{may_end}
use Rattle.utf7.specs.declared.Style.TheVariants.{Name}
use Rattle.mailbox.specs.Rule.{outside, opening, run, byte_does, mailbox}
use Rattle.mailbox.proofs.Round.{Other, self-given, sign-opens, sign-closes, run-closes, whole_run}
use Rattle.utf7_whole.specs.Quick.{Padded, Span, Run, One, bits_in, units_between}
use Rattle.utf7_whole.specs.Mailbox.{Goes, Puts, Stands, Holds, Matches}
use Rattle.utf7_whole.specs.declared.names.Stand.{Stand}
use Rattle.utf7_whole.proofs.Tokens.{span-each, slice-rest, some_at, each-by, at-cons}
use Rattle.utf7_whole.proofs.Agreed.{joined}
use Rattle.utf7_whole.proofs.Buffers.{span-padded, slice-padded, run-padded, filled-stride, one-run, one-units, laid-room, filled_in}

-- neither of two tests
neither : (a b : Bool) → (a || b) ≡ false → (a ≡ false) × (b ≡ false)
neither true b e = absurd (false≢true (sym e))
neither false b e = (refl, e)

pub none_more :
    (units : List ℕ) (from k : ℕ) (some t : Bool) → (some ≡ false → (i : ℕ) → from ≤ i → i < k → printable (get_or units i 0) ≡ false) → t ≡ printable (get_or units k 0) →
    (some || t) ≡ false → (i : ℕ) → from ≤ i → i < k + 1 → printable (get_or units i 0) ≡ false
none_more units from k some t f e q i h l = at (eqb i k) refl
  where
    at : (b : Bool) → eqb i k ≡ b → printable (get_or units i 0) ≡ false
    at true z = rw (eqb-true i k z) (sym e ∙ (neither some t q).1)
    at false z = f (neither some t q).0 i h (omega (arith, eqb-false i k z))

-- no byte stood for itself since a run was closed
pub none-since : (after : Bool) (k : ℕ) → 0 < k → (after && eqb k 0) ≡ false
none-since true k h = ne_eqb k 0 (omega arith)
none-since false k h = refl

-- bytes that stand for themselves
plain_walk : (after : Bool) (bs : List ℕ) → Each (λ b. own Name b ≡ true) bs → Walk mailbox (outside after) bs bs (outside (after && eqb (length bs) 0))
plain_walk after [] h = rw (and-true after) stay
plain_walk after (b ∷ bs) h = rw (none-since after (suc (length bs)) (omega arith)) (gives (self-given after b h.0) (plain_walk false bs h.1))

plain-stride : (after : Bool) {s : List ℕ} {at : ℕ} (k : ℕ) → Span (own Name) s at (at + k) → Stride mailbox s at (outside after) (at + k) (slice at (at + k) s) (outside (after && eqb k 0))
plain-stride after {s} {at} k p =
    let e : length (slice at (at + k) s) ≡ k = length-slice at (at + k) s p.within ∙ omega arith in
    let q : Stride mailbox s at (outside after) (at + length (slice at (at + k) s)) (slice at (at + k) s) (outside (after && eqb (length (slice at (at + k) s)) 0)) =
    stride-walk (drop (at + k) s) (plain_walk after (slice at (at + k) s) (span-each p)) (slice-rest s at (at + k) p.ordered p.within) (omega (arith, p.within)) in
    rw e at q

-- the sign by itself
sign-stride : (after : Bool) {s : List ℕ} {at : ℕ} → at + 1 < length s → get_or s at 0 ≡ 38 → get_or s (at + 1) 0 ≡ 45 → Stride mailbox s at (outside after) (at + 2) (38 ∷ []) (outside false)
sign-stride after {s} {at} h a b =
    let o : byte_does (outside after) (get_or s at 0) ≡ go (opening after) = rw a (sign-opens after) in
    let c : byte_does (opening after) (get_or s (at + 1) 0) ≡ give 38 (outside false) = rw b (sign-closes after) in
    stride-to (stride_on (stride-go (omega arith) o) (stride-give h c)) (omega arith)

-- a run
may-close : (f : List Bool) → may_end f ≡ true → byte_does (run f) 45 ≡ go (outside true)
unfolding may_end
may-close f e =
    let q = both (all_zero f) (ltb (length f) 6) e in
    run-closes f q.0 (ltb-true (length f) 6 q.1)

module _ {s : List ℕ} {at to : ℕ} (sign : get_or s at 0 ≡ 38) (r : Run comma s (at + 1) to) (dash : get_or s to 0 ≡ 45) (other : Each Other (units_between comma s (at + 1) to)) where
  letters-stride : Stride mailbox s at (outside false) to (units_between comma s (at + 1) to) (run (left_over 16 (bits_in comma s (at + 1) to)))
  letters-stride =
      let ls = slice (at + 1) to s in
      let w = r.letters.within in
      let n : length ls ≡ to - (at + 1) = length-slice (at + 1) to s w in
      let d : drop at s ≡ 38 ∷ (ls ++ drop to s) =
      at-cons s at (omega (arith, r.some, w)) ∙ rw (sign, slice-rest s (at + 1) to (omega (arith, r.some)) w) in
      stride-to (stride-walk (drop to s) (whole_run ls (omega (arith, r.some)) (span-each r.letters) other) d (omega (arith, r.some, w)))
      (omega (arith, r.some))

  run-stride : Stride mailbox s at (outside false) (to + 1) (units_between comma s (at + 1) to) (outside true)
  run-stride =
      let c : byte_does (run (left_over 16 (bits_in comma s (at + 1) to))) (get_or s to 0) ≡ go (outside true) = rw dash (may-close _ r.ends) in
      rw append-nil at (stride_on letters-stride (stride-go (some_at s to (omega (arith, dash))) c))

-- as the contracts say it
module _ {s : List ℕ} {at : ℕ} {after : Bool} {to : ℕ} {cs : List ℕ} {after' : Bool} where
  goes : Stride mailbox s at (outside after) to cs (outside after') → Goes s at after to cs after'
  goes q = record { within = q.within; few = q.few; same = q.same }

  strides : Goes s at after to cs after' → Stride mailbox s at (outside after) to cs (outside after')
  strides q = record { within = q.within; few = q.few; same = q.same }

pub puts-stay : {s : List ℕ} (from : Stand) {a b : List ℕ} → from.at ≤ length s → Laid [] from.n a b → Puts s from a from b
puts-stay from h l = record { cells = []; goes = goes (stride-stay h); laid = l; count = sym (add-zero from.n) }

module _ {s : List ℕ} {from r : Stand} {a b : List ℕ} (p : Puts s from a r b) where
  pub puts-on : {t : Stand} {c : List ℕ} → Puts s r b t c → Puts s from a t c
  puts-on q =
      record {
        cells = p.cells ++ q.cells;
        goes = goes (stride_on (strides p.goes) (strides q.goes));
        laid = laid_on p.laid p.count q.laid;
        count = omega (arith, p.count, q.count, length-append p.cells q.cells);
      }

  pub puts-as : {at n : ℕ} {after : Bool} → r.at ≡ at → r.n ≡ n → r.after ≡ after → Puts s from a (record { at = at; n = n; after = after }) b
  puts-as e f g = record { cells = p.cells; goes = rw (← e, ← g) p.goes; laid = p.laid; count = rw (← f) p.count }

  pub puts-in : from.n ≤ length a → r.n ≤ length b
  puts-in h = omega (arith, p.count, laid-room p.laid h)

  -- a buffer that holds the cells so far, and a reader that counts them only
  pub holds_on : Holds s from a → Holds s r b
  holds_on f = rw (← p.count) at (filled-stride f (strides p.goes) p.laid)

pub holds-start : (s : List ℕ) (r : Stand) (a : List ℕ) → r.at ≡ 0 → r.n ≡ 0 → r.after ≡ false → Holds s r a
holds-start s r a e f g = rw (e, f, g) (record { left = left-start mailbox s; front = refl })

-- copied to the front of an output
pub holds-copy : {s : List ℕ} {r : Stand} {a b : List ℕ} (out : List ℕ) (n : ℕ) → Holds s r a → b ≡ filled (take r.n a) out → r.n ≤ n → Holds s r (take n b)
holds-copy {r = r} {a} {b} out n h e l =
    let k : length (take r.n a) ≡ r.n = length-take-le r.n a (filled_in h) in
    record { left = h.left; front = take-take r.n n b l ∙ rw e (take_at (take r.n a) _ r.n k) ∙ h.front }

pub filled-behind : (xs out : List ℕ) (n : ℕ) → length xs ≤ n → drop n (filled xs out) ≡ drop n out
filled-behind xs out n h =
    let e : length xs + (n - length xs) ≡ n = omega arith in
    let q : drop (length xs + (n - length xs)) (filled xs out) ≡ drop (length xs + (n - length xs)) out =
    drop-append-add xs (drop (length xs) out) (n - length xs) ∙ drop-drop (n - length xs) (length xs) out in
    rw e at q

-- a standing by its parts
pub puts-from : {s : List ℕ} (from : Stand) {r : Stand} {a b : List ℕ} → Puts s (record { at = from.at; n = from.n; after = from.after }) a r b → Puts s from a r b
puts-from from p = record { cells = p.cells; goes = p.goes; laid = p.laid; count = p.count }

pub stands_on : {s : List ℕ} {at n : ℕ} {after : Bool} {r : Stand} {a b : List ℕ} → Stands s (record { at = at; n = n; after = after }) → Puts s (record { at = at; n = 0; after = after }) a r b → Stands s (record { at = r.at; n = n + r.n; after = r.after })
stands_on {n = n} {r = r} l p =
    let e : n + length p.cells ≡ n + r.n = omega (arith, p.count) in
    rw e at (left-stride (strides p.goes) l)

-- what each kind of token puts
zero-plain : own Name 0 ≡ false
unfolding own
zero-plain = refl

comma-zero : set_b comma 0 ≡ false
unfolding set_b value_of
comma-zero = refl

comma-dash : set_b comma 45 ≡ false
unfolding set_b value_of
comma-dash = refl

module _ {s room : List ℕ} (p : Padded s room) where
  pub puts_plain :
      {at n : ℕ} {after : Bool} (k : ℕ) {a b : List ℕ} → at ≤ length s → Span (own Name) room at (at + k) → Laid (slice at (at + k) room) n a b →
      Puts s (record { at = at; n = n; after = after }) a (record { at = at + k; n = n + k; after = after && eqb k 0 }) b
  puts_plain {at} {n} {after} k h q l =
      let d = span-padded p (own Name) zero-plain q h in
      let e : length (slice at (at + k) s) ≡ k = length-slice at (at + k) s d.within ∙ omega arith in
      record { cells = slice at (at + k) s; goes = goes (plain-stride after k d); laid = rw (slice-padded p at (at + k) d.within q.within) at l; count = rw e refl }

  module _ (from : Stand) (sign : get_or room from.at 0 ≡ 38) where
    sign-here : get_or s from.at 0 ≡ 38
    sign-here = rw (p.same from.at) at sign

    pub sign-in : from.at < length s
    sign-in = some_at s from.at (omega (arith, sign-here))

    pub puts-sign : {a : List ℕ} → from.n < length a → get_or room (from.at + 1) 0 ≡ 45 → Puts s from a (record { at = from.at + 2; n = from.n + 1; after = false }) (set a from.n 38)
    puts-sign {a} h g =
        let e : get_or s (from.at + 1) 0 ≡ 45 = rw (p.same (from.at + 1)) at g in
        record { cells = 38 ∷ []; goes = goes (sign-stride from.after (some_at s (from.at + 1) (omega (arith, e))) sign-here e); laid = laid_one from.n 38 a h; count = refl }

    module _ (first : from.after ≡ false) where
      pub puts-run :
          {to m : ℕ} {a b : List ℕ} → Run comma room (from.at + 1) to → get_or room to 0 ≡ 45 → Each Other (units_between comma room (from.at + 1) to) →
          Laid (units_between comma room (from.at + 1) to) from.n a b → m ≡ from.n + length (units_between comma room (from.at + 1) to) →
          Puts s from a (record { at = to + 1; n = m; after = true }) b
      puts-run {to} r dash other l q =
          let d = run-padded p comma-zero r (omega (arith, sign-in)) in
          let e = slice-padded p (from.at + 1) to d.letters.within r.letters.within in
          record {
            cells = units_between comma s (from.at + 1) to;
            goes = rw first (goes (run-stride sign-here d (rw (p.same to) at dash) (rw e at other)));
            laid = rw e at l;
            count = rw e at q;
          }

      pub puts_one : {unit : ℕ} {a : List ℕ} → from.n < length a → One comma room (from.at + 1) unit → printable unit ≡ false → Puts s from a (record { at = from.at + 5; n = from.n + 1; after = true }) (set a from.n unit)
      puts_one {unit} {a} h o z =
          let u = one-units comma-dash o in
          let five : from.at + 1 + 3 + 1 ≡ from.at + 5 = omega arith in
          let q : Puts s from a (record { at = from.at + 1 + 3 + 1; n = from.n + 1; after = true }) (set a from.n unit) =
          puts-run (one-run comma-dash o) o.over (rw u (z, tt)) (rw u (laid_one from.n unit a h)) (rw u) in
          rw five at q

-- units that were laid, of which none is printable
laid-at : {us : List ℕ} {n : ℕ} {a b : List ℕ} → Laid us n a b → n ≤ length a → (i : ℕ) → i < length us → get_or b (n + i) 0 ≡ get_or us i 0
laid-at {us} {n} {a} {b} l h i k =
    let q : drop n (take (n + length us) b) ≡ us = ap (drop n) l.front ∙ drop_at (take n a) us n (length-take-le n a h) in
    sym (get_or-take (n + length us) b (n + i) 0 (omega arith)) ∙ sym (get_or-drop n (take (n + length us) b) i 0) ∙ ap (λ (x : List ℕ). get_or x i 0) q

pub others :
    (us : List ℕ) {n : ℕ} {a b : List ℕ} → Laid us n a b → n ≤ length a → ((i : ℕ) → n ≤ i → i < n + length us → printable (get_or b i 0) ≡ false) → Each Other us
others us {n} {a} {b} l h f =
    each-by Other us
    (λ i k. rw (laid-at l h i k) at (f (n + i) (omega arith) (omega arith)))

-- comparing with cells: none yet, and those that were put
pub matches-start : (s cells : List ℕ) → Matches s cells (record { at = 0; n = 0; after = false })
unfolding reads_as reading
matches-start s cells = record { within = omega arith; few = omega arith; inside = omega arith; so = refl }

module _ {s cells : List ℕ} {at n : ℕ} {after : Bool} (g : Matches s cells (record { at = at; n = n; after = after })) {r : Stand} {a b : List ℕ} (p : Puts s (record { at = at; n = 0; after = after }) a r b) where
  pub matches-on : n + r.n ≤ length cells → same_cells (take r.n b) (take r.n (drop n cells)) ≡ true → Matches s cells (record { at = r.at; n = n + r.n; after = r.after })
  matches-on h e =
      let cs = p.cells in
      let rest = read_from mailbox (drop r.at s) r.at (outside r.after) in
      let own = take r.n (drop n cells) in
      let k : r.n ≡ length cs = p.count ∙ zero-add (length cs) in
      let f : take r.n b ≡ cs = rw k (rw (zero-add (length cs)) at p.laid.front) in
      let l : length cs ≡ length own = sym k ∙ sym (length-take-le r.n (drop n cells) (omega (arith, length-drop n cells))) in
      let same : same_cells cs own ≡ true = rw f at e in
      let j = joined rest.ending cs own rest.cells (drop r.n (drop n cells)) l in
      let w : accepted_as rest.ending (cs ++ rest.cells) (drop n cells) ≡ reads_as mailbox s cells = rw p.goes.same at g.so in
      let t : accepted_as rest.ending (cs ++ rest.cells) (drop n cells) ≡ accepted_as rest.ending rest.cells (drop r.n (drop n cells)) =
      rw (same, take-append-drop r.n (drop n cells)) at j in
      record {
        within = p.goes.within;
        few = omega (arith, g.few, p.goes.few, k);
        inside = h;
        so = rw (← drop-drop r.n n cells) (sym t ∙ w);
      }
