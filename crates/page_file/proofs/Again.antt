-- What is kept of any sound page is in form; read in buffers of the same lengths it gives that very page back. Assumes
-- nothing.
use Prim.Native.Nat.{ℕ, ◌+◌, ◌-◌, ◌≤◌, ◌<◌, ◌^◌}
use mathlib.Core.Path.{◌≡◌, refl, sym, ap, ◌∙◌, subst}
use mathlib.Core.Bool.{Bool, true, false, ◌&&◌, ◌||◌, false≢true}
use mathlib.Core.List.{List, [], ◌∷◌, ◌++◌, map, reverse_aux}
use native.Mathlib.Omega.{arith}
use lib.ListN.{length, take, drop, replicate, length-drop, take-append-drop}
use lib.Seq.{length-take-le, take-append_seam}
use lib.Dec.{ltb, leb, eqb}
use borrow.Author.Tests.{leb-true, ltb-false, eqb-true, le-ltb}
use Rattle.answer.specs.Answer.{numbered, limit}
use Rattle.std.specs.Prelude.{None, Some, Option}
use Rattle.answer.specs.Output as output
use Rattle.answer.specs.Output.{deliver}
use Rattle.answer.proofs.Below.{both, cond-case, each_take}
use Rattle.editor.specs.Marks.{Mark}
use Rattle.editor.specs.Ledger.{Step, weight_of}
use Rattle.editor.specs.Records.{Entry, step_of, ends_at, mark_fits}
use Rattle.ledger.specs.Words.{Parted, in_words, sizes, zeros, pad}
use Rattle.ledger.specs.Page.{State, state_of, framed, records}
use Rattle.ledger.specs.Calls.{over}
use Rattle.ledger.proofs.Words.{Whole, length-words, sizes-reverse}
use Rattle.ledger.proofs.Marks.{weight-sizes}
use Rattle.ledger.proofs.Sound.{Sound, records-sound}
use Rattle.editor.proofs.Steps.{or_parts}
use Rattle.page_file.specs.File.{form_for, mark_within, InForm, file_of}
use Rattle.page_file.specs.Calls.{content_of, belongs, keep_parted, keep_of, state_from, read_parted, read_fitting}
use Rattle.page_file.specs.Calls.{read_parsed, read_of}
use Rattle.page_file.specs.Promises.{Files, Calls, Typed, ReadsAgain}
use Rattle.page_file.proofs.Laws.{wide, due-form, file-reads, parse-right, only-there, one-spelling}
use Rattle.page_file.proofs.Calls.{belongs-means, keep-leaves, read_stays, same-again}

-- an end among steps is not beyond all of them
or_case : {P : Type 0} (a b : Bool) → (a || b) ≡ true → (a ≡ true → P) → (b ≡ true → P) → P
or_case true b h f g = f h
or_case false b h f g = g h

ends-below :
    (weigh : Step → ℕ) (steps : List Step) (n : ℕ) → ends_at weigh steps n ≡ true → n ≤ weight_of weigh steps
unfolding ends_at
ends-below weigh [] n h = omega (arith, eqb-true n 0 h)
ends-below weigh (x ∷ rest) n h =
    or_case (eqb n 0) (leb (weigh x) n && ends_at weigh rest (n - weigh x)) h (λ t. omega (arith, eqb-true n 0 t))
    (λ t.
    let q = both (leb (weigh x) n) (ends_at weigh rest (n - weigh x)) t in
    omega (arith, leb-true (weigh x) n q.0, ends-below weigh rest (n - weigh x) q.1))

pub mark-within :
    (m : Mark) (es : List Entry) → mark_fits in_words m (map step_of es) ≡ true → sizes es ≤ limit →
    mark_within wide m
mark-within None es h k = tt
mark-within (Some n) es h k = omega (arith, ends-below in_words (map step_of es) n h, weight-sizes es)

-- the parts of a page's frame
pub record Framed (s : State) : Type 0 where
  pub opening : s.page.opening ≤ length s.text
  pub size : s.page.length ≤ length s.text
  pub used : s.page.used ≤ length s.history
  pub text : zeros (drop s.page.length s.text) ≡ true
  pub history : zeros (drop s.page.used s.history) ≡ true

pub frame-of : (s : State) → framed s ≡ true → Framed s
unfolding framed
frame-of s f =
    let a : Bool = leb s.page.opening (length s.text) in
    let b : Bool = leb s.page.length (length s.text) in
    let c : Bool = leb s.page.used (length s.history) in
    let d : Bool = zeros (drop s.page.length s.text) in
    let e : Bool = zeros (drop s.page.used s.history) in
    let q = both (a && b && c && d) e f in
    let r = both (a && b && c) d q.0 in
    let t = both (a && b) c r.0 in
    let u = both a b t.0 in
    record {
      opening = leb-true s.page.opening (length s.text) u.0;
      size = leb-true s.page.length (length s.text) u.1;
      used = leb-true s.page.used (length s.history) t.1;
      text = r.1;
      history = q.1;
    }

-- what is 0 past its end is its front, filled up
zeros-are : (l : List ℕ) → zeros l ≡ true → l ≡ replicate (length l) 0
unfolding zeros
zeros-are [] e = refl
zeros-are (x ∷ xs) e =
    let q = both (eqb x 0) (zeros xs) e in
    rw (eqb-true x 0 q.0) (ap (λ (l : List ℕ). 0 ∷ l) (zeros-are xs q.1))

pad-again : (n : ℕ) (l : List ℕ) → n ≤ length l → zeros (drop n l) ≡ true → pad (length l) (take n l) ≡ l
pad-again n l h z =
    let e : length l - length (take n l) ≡ length (drop n l) = rw (length-take-le n l h, length-drop n l) in
    ap (λ (k : ℕ). take n l ++ replicate k 0) e
    ∙ ap (λ (r : List ℕ). take n l ++ r) (sym (zeros-are (drop n l) z))
    ∙ take-append-drop n l

-- what an accepted keeping is: the file of a sound page to which the bytes belong
pub record Keeps (s : State) (bytes : List ℕ) (o : output.Outcome) : Type 0 where
  pub parted : Parted
  pub found : records s ≡ Some parted
  pub same : belongs (content_of s bytes) parted.standing ≡ true
  pub written : take o.verdict.place o.out ≡ file_of (content_of s bytes)
  pub few : length bytes ≤ limit
  pub few-text : length s.text ≤ limit
  pub few-history : length s.history ≤ limit

module _ (s : State) (bytes out : List ℕ) where
  abbrev Finds : output.Outcome → Type 0
  Finds o = eqb o.verdict.number 0 ≡ true → Keeps s bytes o

  module _ (b : length bytes ≤ limit) (t : length s.text ≤ limit) (h : length s.history ≤ limit) where
    parted-finds : (x : Option Parted) → records s ≡ x → Finds (keep_parted (content_of s bytes) out x)
    unfolding keep_parted deliver
    parted-finds None e = λ ok. absurd (false≢true ok)
    parted-finds (Some v) e =
        let file : List ℕ = file_of (content_of s bytes) in
        cond-case Finds (belongs (content_of s bytes) v.standing)
        (λ q. cond-case Finds (ltb (length out) (length file)) (λ _ ok. absurd (false≢true ok))
        (λ _ _.
        record {
          parted = v;
          found = e;
          same = q;
          written = take-append_seam file (drop (length file) out);
          few = b;
          few-text = t;
          few-history = h;
        }))
        (λ _ ok. absurd (false≢true ok))

  pub keeps : Finds (keep_of s bytes out)
  unfolding keep_of
  keeps =
      cond-case Finds (over bytes || (over s.text || over s.history)) (λ _ ok. absurd (false≢true ok))
      (λ q.
      let p = or_parts (over bytes) (over s.text || over s.history) q in
      let r = or_parts (over s.text) (over s.history) p.1 in
      parted-finds (ltb-false limit (length bytes) p.0) (ltb-false limit (length s.text) r.0)
      (ltb-false limit (length s.history) r.1) (records s) refl)

  module _ (typed : Typed s bytes) (o : output.Outcome) (k : Keeps s bytes o) where
    sound : Sound s k.parted
    sound = subst (Whole (Sound s)) k.found (records-sound s)

    pub sound-in-form : InForm (form_for (content_of s bytes)) (content_of s bytes)
    sound-in-form =
        let f = frame-of s sound.frame in
        let v = k.parted in
        let size : length (take s.page.used s.history) ≡ s.page.used =
        length-take-le s.page.used s.history f.used in
        let all : sizes (reverse_aux v.standing v.undone) ≡ s.page.used =
        sym (length-words (reverse_aux v.standing v.undone)) ∙ ap length sound.tiles ∙ size in
        let parted : sizes (reverse_aux v.standing v.undone) ≡ sizes v.standing + sizes v.undone =
        sizes-reverse v.standing v.undone in
        let used : s.page.used ≤ limit = omega (arith, f.used, k.few-history) in
        due-form (content_of s bytes)
        (record {
          opening = omega (arith, f.opening, k.few-text);
          size = omega (arith, f.size, k.few-text);
          used = used;
          done = omega (arith, sound.end);
          saved = mark-within s.page.saved (reverse_aux v.standing v.undone) sound.mark (omega arith);
          few = k.few;
          text = length-take-le s.page.length s.text f.size;
          history = size;
          bytes = typed.bytes;
          cells = each_take (λ w. w < 2 ^ 32) s.text s.page.length typed.cells;
          words = each_take (λ w. w < 2 ^ 32) s.history s.page.used typed.words;
        })

    module _ (arrived text history : List ℕ) where
      abbrev there : State
      there = state_from arrived text history (content_of s bytes)

      same-page : length text ≡ length s.text → length history ≡ length s.history → there ≡ s
      same-page t h =
          let f = frame-of s sound.frame in
          let x : pad (length text) (take s.page.length s.text) ≡ s.text =
          rw t (pad-again s.page.length s.text f.size f.text) in
          let y : pad (length history) (take s.page.used s.history) ≡ s.history =
          rw h (pad-again s.page.used s.history f.used f.history) in
          λ i. state_of s.page (x i) (y i)

      again :
          length bytes ≤ length arrived → length arrived ≤ limit → length text ≡ length s.text →
          length history ≡ length s.history →
          read_of arrived text history (file_of (content_of s bytes))
          ≡ record { verdict = numbered 0 (length bytes); state = s; output = pad (length arrived) bytes }
      unfolding read_of read_parsed read_fitting read_parted
      again a l t h =
          let f = frame-of s sound.frame in
          let e : there ≡ s = same-page t h in
          let found : records there ≡ Some k.parted = ap records e ∙ k.found in
          let cells : length (take s.page.length s.text) ≡ s.page.length =
          length-take-le s.page.length s.text f.size in
          let words : length (take s.page.used s.history) ≡ s.page.used =
          length-take-le s.page.used s.history f.used in
          rw (
            file-reads (content_of s bytes) sound-in-form,
            le-ltb limit (length arrived) l,
            le-ltb limit (length text) (omega (arith, k.few-text)),
            le-ltb limit (length history) (omega (arith, k.few-history)),
            le-ltb (length arrived) (length bytes) a,
            le-ltb (length text) (length (take s.page.length s.text)) (omega (arith, f.size)),
            le-ltb (length history) (length (take s.page.used s.history)) (omega (arith, f.used)),
            found,
            k.same,
            e,
          )

reads-again : ReadsAgain
reads-again s bytes out typed ok arrived text history a l t h =
    let k = keeps s bytes out ok in
    rw k.written (again s bytes out typed _ k arrived text history a l t h)

pub files : Files
files =
    record { reads-back = file-reads; right = parse-right; one_place = only-there; one-file = one-spelling }

pub calls : Calls
unfolding keep_of read_of
calls =
    record {
      keep-long = λ s arrived out long. rw long;
      read-long = λ arrived text history file long. rw long;
      fifteen = belongs-means;
      keep-refused = keep-leaves;
      read-refused = read_stays;
      same-again = same-again;
      reads-again = reads-again;
    }
