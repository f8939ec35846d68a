-- Texts cut behind line ends are read as their blocks are. Assumes nothing.
use Prim.Native.Nat.{ℕ, suc, ◌+◌, ◌-◌, ◌<◌, ◌≤◌}
use mathlib.Core.Path.{◌≡◌, refl, sym, ap, ◌∙◌}
use mathlib.Core.Bool.{Bool, true, false, cond, false≢true}
use mathlib.Core.List.{List, [], ◌∷◌, ◌++◌}
use native.Mathlib.Omega.{arith}
use native.Mathlib.Numerals.{add-one}
use lib.ListN.{length, get_or, take, drop, take-append-drop}
use lib.Seq.{take-add, take-suc, take_all, get_or-take, length-take-le}
use lib.Dec.{eqb}
use borrow.Author.Tests.{eqb-true}
use Rattle.std.specs.declared.result.Result.TheVariants.{Ok}
use Rattle.answer.specs.Output.{Outcome, leaves}
use Rattle.answer.specs.Answer.{in_numbers, Answer}
use Rattle.answer.proofs.Below.{cond-case}
use Rattle.bits.specs.Bits.{bits, number, all_zero}
use Rattle.alphabet.specs.Letters.{value_of, set_b}
use Rattle.reading.specs.Reading.{accepted, fault, Ending, Rule, Reading, read_from, reading}
use Rattle.reading.specs.Matching.{same_cells, accepted_as}
use Rattle.reading.specs.Located.{on_state, state_after}
use Rattle.reading.specs.Joined.{end_state}
use Rattle.reading.proofs.Walk.{walk-state, no-fault, accepted-walk}
use Rattle.reading.proofs.Joined.{read-accepted}
use Rattle.utf7.specs.Sets.{alphanumeric, set_d, set_o, direct}
use Rattle.utf7.specs.Rule.{Shift, outside, opening, run, outside_does, may_end, end_does, low_does, byte_does, ends_in, utf7}
use Rattle.utf7.specs.Joined.{EndsOutside}
use Rattle.utf7.proofs.Joined as utf7-joined
use Rattle.utf7.proofs.Kept.{utf7-kept}
use Rattle.jp2.specs.Rule as j
use Rattle.jp2.proofs.Joined as jp2-joined
use Rattle.jp2.proofs.Kept.{jp2-kept}
use Rattle.mailbox.proofs.Kept.{mailbox-kept}
use Rattle.codec.specs.declared.Format.{Format}
use Rattle.codec.specs.declared.Format.TheVariants.{Utf7, Jp2, Mailbox}
use Rattle.codec.specs.Kinds as kinds
use Rattle.stepper.specs.Stepper.{reading_of}
use Rattle.comparer.specs.Cutting.{Ended, ReadAlike, Cut}
use Rattle.comparer.proofs.Judging.{same-reading}

abbrev AcceptedIn : Format → List ℕ → Type 0
AcceptedIn f text = (reading_of f text).ending ≡ accepted

abbrev cells_in : Format → List ℕ → List ℕ
cells_in f text = (reading_of f text).cells

-- a text that another may follow
abbrev Clean : Format → List ℕ → Type 0
Clean Utf7 text = EndsOutside text
Clean Jp2 text = Unit
Clean Mailbox text = ⊥

joined :
    (f : Format) (front block : List ℕ) → AcceptedIn f front → Clean f front → AcceptedIn f block →
    reading_of f (front ++ block) ≡ record { cells = cells_in f front ++ cells_in f block; ending = accepted }
joined Utf7 front block a c b = (utf7-joined.letters-joined).reads front block a c b
joined Jp2 front block a c b = (jp2-joined.letters-joined).reads front block a b
joined Mailbox front block a c b = absurd c

-- behind a line end UTF-7 is outside a run
state-snoc :
    {S : Type 0} (rule : Rule S) (st : S) (bytes : List ℕ) (b : ℕ) →
    state_after rule st (bytes ++ b ∷ [])
    ≡ on_state (rule.byte (state_after rule st bytes) b) (state_after rule st bytes)
unfolding state_after
state-snoc rule st [] b = refl
state-snoc rule st (x ∷ xs) b = state-snoc rule (on_state (rule.byte st x) st) xs b

run-over :
    (t : Bool) (pending : List Bool) (size : ℕ) → may_end pending ≡ t →
    ends_in size (on_state (end_does t 10) (run pending)) ≡ accepted → on_state (end_does t 10) (run pending) ≡ outside
unfolding end_does outside_does direct set_d set_o alphanumeric ends_in
run-over true pending size e h = refl
run-over false pending size e h = no-fault 4 size (rw e at h)

line-over :
    (st : Shift) (size : ℕ) → ends_in size (on_state (byte_does st 10) st) ≡ accepted →
    on_state (byte_does st 10) st ≡ outside
unfolding byte_does low_does outside_does direct set_d set_o alphanumeric set_b value_of ends_in
line-over outside size h = refl
line-over opening size h = no-fault 2 size h
line-over (run pending) size h = run-over (may_end pending) pending size refl h

clean : (f : Format) (text : List ℕ) (n : ℕ) → Cut f → AcceptedIn f (take (n + 1) text) → n < length text →
    get_or text n 0 ≡ 10 → Clean f (take (n + 1) text)
clean Utf7 text n c a h e =
    let w = accepted-walk utf7 (take (n + 1) text) a in
    let l = rw (← walk-state w.walk) at w.last in
    let s : take (n + 1) text ≡ take n text ++ 10 ∷ [] = rw add-one (take-suc text n 0 h ∙ rw e) in
    let q = ap (state_after utf7 outside) s ∙ state-snoc utf7 outside (take n text) 10 in
    q ∙ line-over (state_after utf7 outside (take n text)) (length (take (n + 1) text)) (rw q at l)
clean Jp2 text n c a h e = tt
clean Mailbox text n c a h e = absurd c

-- both texts are read up to a place in each, as the same cells
pub record Halved (f : Format) (first second : List ℕ) (a b : ℕ) : Type 0 where
  pub left : a ≤ length first
  pub right : b ≤ length second
  pub read : ReadAlike f (take a first) (take b second)
  pub before : Clean f (take a first)
  pub beside : Clean f (take b second)

none_read : (f : Format) → Cut f → AcceptedIn f []
unfolding reading read_from ends_in j.ends_in
none_read Utf7 c = refl
none_read Jp2 c = refl
none_read Mailbox c = absurd c

none-clean : (f : Format) → Cut f → Clean f []
unfolding state_after
none-clean Utf7 c = refl
none-clean Jp2 c = tt
none-clean Mailbox c = absurd c

pub halved-start : (f : Format) (first second : List ℕ) → Cut f → Halved f first second 0 0
halved-start f first second c =
    record {
      left = omega arith;
      right = omega arith;
      read = record { one = none_read f c; two = none_read f c; cells = refl };
      before = none-clean f c;
      beside = none-clean f c;
    }

module _ {f : Format} {first second : List ℕ} {a b : ℕ} (h : Halved f first second a b) where
  both :
      (p q : List ℕ) → ReadAlike f p q → ReadAlike f (take a first ++ p) (take b second ++ q)
  both p q r =
      let x = joined f (take a first) p h.read.one h.before r.one in
      let y = joined f (take b second) q h.read.two h.beside r.two in
      record {
        one = ap (λ (z : Reading). z.ending) x;
        two = ap (λ (z : Reading). z.ending) y;
        cells =
            ap (λ (z : Reading). z.cells) x ∙ rw (h.read.cells, r.cells)
            (sym (ap (λ (z : Reading). z.cells) y));
      }

  pub halved-end : ReadAlike f (drop a first) (drop b second) → ReadAlike f first second
  halved-end r = rw (take-append-drop, take-append-drop) at (both (drop a first) (drop b second) r)

-- the next blocks, behind line ends
module _
    {f : Format} {first second : List ℕ} {a b : ℕ} (h : Halved f first second a b) (cut : Cut f) (c d : ℕ)
    (ac : a < c) (cl : c ≤ length first) (bd : b < d) (dl : d ≤ length second) (x : get_or first (c - 1) 0 ≡ 10)
    (y : get_or second (d - 1) 0 ≡ 10)
    (r : ReadAlike f (take (c - a) (drop a first)) (take (d - b) (drop b second))) where
  further : ReadAlike f (take c first) (take d second)
  further =
      let i : a + (c - a) ≡ c = omega arith in
      let k : b + (d - b) ≡ d = omega arith in
      rw (← take-add a (c - a) first, ← take-add b (d - b) second, i, k) at (both h _ _ r)

  ended : (text : List ℕ) (n : ℕ) → 0 < n → n ≤ length text → get_or text (n - 1) 0 ≡ 10 → AcceptedIn f (take n text) →
      Clean f (take n text)
  ended text n o l e q =
      let z : n - 1 + 1 ≡ n = omega arith in
      rw z at (clean f text (n - 1) cut (rw z q) (omega arith) e)

  pub halved-next : Halved f first second c d
  halved-next =
      record {
        left = cl;
        right = dl;
        read = further;
        before = ended first c (omega arith) cl x further.one;
        beside = ended second d (omega arith) dl y further.two;
      }

-- what reading into a buffer, and reading as what it holds, say of two texts
same-means : (xs ys : List ℕ) → same_cells xs ys ≡ true → xs ≡ ys
unfolding same_cells
same-means [] [] = λ h. refl
same-means [] (y ∷ ys) = λ h. absurd (false≢true h)
same-means (x ∷ xs) [] = λ h. absurd (false≢true h)
same-means (x ∷ xs) (y ∷ ys) =
    cond-case (λ (b : Bool). b ≡ true → x ∷ xs ≡ y ∷ ys) (eqb x y)
    (λ e h i. eqb-true x y e i ∷ same-means xs ys h i) (λ _ h. absurd (false≢true h))

accepted-means :
    (e : Ending) (read cells : List ℕ) → accepted_as e read cells ≡ true → (e ≡ accepted) × (read ≡ cells)
accepted-means accepted read cells h = (refl, same-means read cells h)
accepted-means (fault k place) read cells h = absurd (false≢true h)

block_read :
    (f : Format) (text out out' : List ℕ) (n : ℕ) → leaves (Ok n) out' ≡ kinds.read_in f text out →
    AcceptedIn f text × (take n out' ≡ cells_in f text)
unfolding kinds.read_in
block_read Utf7 text out out' n e =
    let r = read-accepted utf7-kept text out (sym (ap (λ (o : Outcome). o.verdict.number) e)) in
    (r.0, ap (λ (o : Outcome). take o.verdict.place o.out) e ∙ r.1)
block_read Jp2 text out out' n e =
    let r = read-accepted jp2-kept text out (sym (ap (λ (o : Outcome). o.verdict.number) e)) in
    (r.0, ap (λ (o : Outcome). take o.verdict.place o.out) e ∙ r.1)
block_read Mailbox text out out' n e =
    let r = read-accepted mailbox-kept text out (sym (ap (λ (o : Outcome). o.verdict.number) e)) in
    (r.0, ap (λ (o : Outcome). take o.verdict.place o.out) e ∙ r.1)

pub block-alike :
    (f : Format) (first second out out' : List ℕ) (n : ℕ) → leaves (Ok n) out' ≡ kinds.read_in f first out →
    kinds.reads_in f second (take n out') ≡ true → ReadAlike f first second
unfolding kinds.reads_in
block-alike f first second out out' n e h =
    let r = block_read f first out out' n e in
    let q =
    accepted-means (reading_of f second).ending (reading_of f second).cells (take n out')
    (rw (same-reading f second) at h)
    in
    record { one = r.0; two = q.0; cells = sym r.1 ∙ sym q.1 }
