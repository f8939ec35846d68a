-- Keeping and reading page files: 16 first, what 15 asks, refusals change nothing, and a file that is read is kept
-- again as the same bytes. Assumes nothing.
use Prim.Native.Nat.{ℕ, ◌≤◌}
use native.Mathlib.Omega.{arith}
use mathlib.Core.Path.{◌≡◌, refl, sym, ap, ◌∙◌}
use mathlib.Core.Bool.{Bool, true, false, ◌&&◌, ◌||◌, false≢true}
use mathlib.Core.List.{List, [], ◌∷◌, cons≢nil}
use Rattle.std.specs.Prelude.{Option, None, Some}
use mathlib.Core.Logic.{◌↔◌}
use lib.ListN.{length, take}
use lib.Dec.{ltb, eqb}
use borrow.Author.Tests.{ltb-false, le-ltb, eqb-true, eq-eqb}
use Rattle.answer.specs.Answer.{Verdict, limit}
use Rattle.answer.specs.Output as output
use Rattle.answer.specs.Output.{deliver}
use Rattle.answer.proofs.Below.{both, cond-case}
use Rattle.reading.specs.Reading.{Ending, accepted, fault}
use Rattle.reading.specs.Matching.{same_cells, accepted_as}
use Rattle.codec.specs.declared.Kind.TheVariants.{Utf7Header}
use Rattle.codec.specs.declared.Kind.{Kind}
use Rattle.codec.specs.Kinds.{reading_in, reads_in, reads_as}
use Rattle.editor.specs.Layout.{taken}
use Rattle.editor.specs.Demand.{Unchanged}
use Rattle.editor.proofs.Steps.{and-true}
use Rattle.ledger.specs.Words.{Entry, Parted, pad}
use Rattle.ledger.specs.Page.{State, state_of, records, Outcome}
use Rattle.ledger.specs.Calls.{over, no_page}
use Rattle.ledger.proofs.Words.{take-pad, length-pad}
use Rattle.editor.proofs.Steps.{or_parts}
use Rattle.parsing.specs.Parsing.{Whole, whole, broken}
use Rattle.page_file.specs.File.{Content, file_of, IsFile}
use Rattle.page_file.specs.Reading.{parse}
use Rattle.page_file.specs.Calls.{content_of, count_is, counted, text_is, belongs, keep_parted, keep_of, unread}
use Rattle.page_file.specs.Calls.{state_from, given, read_parted, read_fitting, read_parsed, read_of}
use Rattle.page_file.specs.Promises.{SameAgain, Belongs}
use Rattle.page_file.proofs.Laws.{spelled}

-- what reading as cells means
same-means : (xs ys : List ℕ) → same_cells xs ys ≡ true → xs ≡ ys
unfolding same_cells
same-means [] [] = λ h. refl
same-means [] (y ∷ ys) = λ h. absurd (false≢true h)
same-means (x ∷ xs) [] = λ h. absurd (false≢true h)
same-means (x ∷ xs) (y ∷ ys) =
    cond-case (λ (b : Bool). b ≡ true → x ∷ xs ≡ y ∷ ys) (eqb x y)
    (λ e h i. eqb-true x y e i ∷ same-means xs ys h i) (λ _ h. absurd (false≢true h))

accepted-means :
    (e : Ending) (read cells : List ℕ) → accepted_as e read cells ≡ true → (e ≡ accepted) × (read ≡ cells)
accepted-means accepted read cells h = (refl, same-means read cells h)
accepted-means (fault k place) read cells h = absurd (false≢true h)

pub reads-means :
    (kind : Kind) (text cells : List ℕ) → reads_as kind text cells ≡ true →
    ((reading_in kind text).ending ≡ accepted) × ((reading_in kind text).cells ≡ cells)
unfolding reads_in
reads-means kind text cells h = accepted-means (reading_in kind text).ending (reading_in kind text).cells cells h

-- what 15 is not given for
count-is : (n : ℕ) (e : Ending) (cells : List ℕ) → count_is n e cells ≡ true → (e ≡ accepted) × (length cells ≡ n)
count-is n accepted cells h = (refl, eqb-true (length cells) n h)
count-is n (fault k place) cells h = absurd (false≢true h)

is-count : (n : ℕ) (e : Ending) (cells : List ℕ) → e ≡ accepted → length cells ≡ n → count_is n e cells ≡ true
is-count n e cells h k = rw h (eq-eqb (length cells) n k)

and-false : (a : Bool) → (a && false) ≡ false
and-false true = refl
and-false false = refl

module _ (c : Content) where
  text-is :
      (standing : List Entry) → text_is c standing ≡ true → standing ≡ [] →
      reads_as c.page.kind c.arrived c.text ≡ true
  text-is [] h e = h
  text-is (x ∷ back) h e = absurd (cons≢nil e)

  is-text :
      (standing : List Entry) → (standing ≡ [] → reads_as c.page.kind c.arrived c.text ≡ true) →
      text_is c standing ≡ true
  is-text [] h = h refl
  is-text (x ∷ back) h = refl

  pub belongs-means : (standing : List Entry) → (belongs c standing ≡ true) ↔ Belongs c standing
  unfolding belongs
  belongs-means standing = (
    (λ h.
        let b = both (counted c.page.opening (reading_in c.page.kind c.arrived)) (text_is c standing) h in
        let n = count-is c.page.opening _ _ b.0 in
        (n.0, n.1, text-is standing b.1)),
    (λ (e, n, t). and-true _ _ (is-count c.page.opening _ _ e n) (is-text standing t)),
  )

  -- with nothing standing, bytes that read as the text read as opening cells, where it is as long as it was
  pub belongs-nothing :
      length c.text ≡ c.page.opening → belongs c [] ≡ reads_as c.page.kind c.arrived c.text
  unfolding belongs
  belongs-nothing same = by-reading (reads_as c.page.kind c.arrived c.text) refl
    where
      by-reading : (t : Bool) → reads_as c.page.kind c.arrived c.text ≡ t → belongs c [] ≡ t
      by-reading true e =
          let r = reads-means c.page.kind c.arrived c.text e in
          (belongs-means []).1 (r.0, ap length r.1 ∙ same, (λ _. e))
      by-reading false e = rw e (and-false (counted c.page.opening (reading_in c.page.kind c.arrived)))

-- keeping fills an output with the file, or leaves it
abbrev Leaves : List ℕ → output.Outcome → Type 0
Leaves out o = eqb o.verdict.number 0 ≡ false → o.out ≡ out

deliver-leaves : (file out : List ℕ) → Leaves out (deliver file out)
unfolding deliver
deliver-leaves file out =
    cond-case (Leaves out) (ltb (length out) (length file)) (λ _ _. refl) (λ _ q. absurd (false≢true (sym q)))

parted-leaves : (c : Content) (out : List ℕ) (x : Option Parted) → Leaves out (keep_parted c out x)
unfolding keep_parted
parted-leaves c out None = λ _. refl
parted-leaves c out (Some v) =
    cond-case (Leaves out) (belongs c v.standing) (λ _. deliver-leaves (file_of c) out) (λ _ _. refl)

pub keep-leaves : (s : State) (arrived out : List ℕ) → Leaves out (keep_of s arrived out)
unfolding keep_of
keep-leaves s arrived out =
    cond-case (Leaves out) (over arrived || (over s.text || over s.history)) (λ _ _. refl)
    (λ _. parted-leaves (content_of s arrived) out (records s))

module _ (arrived text history : List ℕ) where
  abbrev Stays : Outcome → Type 0
  Stays o = taken o ≡ false → Unchanged (state_of (no_page Utf7Header) text history) arrived o

  stays : (v : Verdict) → Stays (unread arrived text history v)
  stays v _ = record { state = refl; output = refl }

  parted-stays : (c : Content) (x : Option Parted) → Stays (read_parted arrived text history c x)
  unfolding read_parted
  parted-stays c None = stays _
  parted-stays c (Some v) =
      cond-case Stays (belongs c v.standing) (λ _ q. absurd (false≢true (sym q))) (λ _. stays _)

  parsed-stays : (p : Whole Content) → Stays (read_parsed arrived text history p)
  unfolding read_parsed read_fitting
  parsed-stays (broken place) = stays _
  parsed-stays (whole c) =
      cond-case Stays (ltb (length arrived) (length c.arrived)) (λ _. stays _)
      (λ _. cond-case Stays (ltb (length text) (length c.text)) (λ _. stays _)
      (λ _. cond-case Stays (ltb (length history) (length c.history)) (λ _. stays _)
      (λ _. parted-stays c (records (state_from arrived text history c)))))

  pub read_stays : (file : List ℕ) → Stays (read_of arrived text history file)
  unfolding read_of
  read_stays file =
      cond-case Stays (over arrived || (over text || over history)) (λ _. stays _) (λ _. parsed-stays (parse file))

-- what an accepted reading is: the file's content, in form, in the buffers, with its records and bytes that belong
pub record Accepts (arrived text history file : List ℕ) (o : Outcome) : Type 0 where
  pub content : Content
  pub parsed : parse file ≡ whole content
  pub parted : Parted
  pub sound : records (state_from arrived text history content) ≡ Some parted
  pub same : belongs content parted.standing ≡ true
  pub outcome : o ≡ given arrived text history content
  pub arrived-room : length content.arrived ≤ length arrived
  pub text-room : length content.text ≤ length text
  pub history-room : length content.history ≤ length history
  pub arrived-few : length arrived ≤ limit
  pub text-few : length text ≤ limit
  pub history-few : length history ≤ limit

module _ (arrived text history file : List ℕ) where
  abbrev Finds : Outcome → Type 0
  Finds o = taken o ≡ true → Accepts arrived text history file o

  module _
      (c : Content)
      (e : parse file ≡ whole c)
      (af : length arrived ≤ limit)
      (tf : length text ≤ limit)
      (hf : length history ≤ limit) where
    parted-finds :
        length c.arrived ≤ length arrived → length c.text ≤ length text → length c.history ≤ length history →
        (x : Option Parted) → records (state_from arrived text history c) ≡ x →
        Finds (read_parted arrived text history c x)
    unfolding read_parted
    parted-finds a t h None s = λ ok. absurd (false≢true ok)
    parted-finds a t h (Some v) s =
        cond-case Finds (belongs c v.standing)
        (λ b _.
        record {
          content = c;
          parsed = e;
          parted = v;
          sound = s;
          same = b;
          outcome = refl;
          arrived-room = a;
          text-room = t;
          history-room = h;
          arrived-few = af;
          text-few = tf;
          history-few = hf;
        })
        (λ _ ok. absurd (false≢true ok))

    fitting-finds : Finds (read_fitting arrived text history c)
    unfolding read_fitting
    fitting-finds =
        cond-case Finds (ltb (length arrived) (length c.arrived)) (λ _ ok. absurd (false≢true ok))
        (λ a. cond-case Finds (ltb (length text) (length c.text)) (λ _ ok. absurd (false≢true ok))
        (λ t. cond-case Finds (ltb (length history) (length c.history)) (λ _ ok. absurd (false≢true ok))
        (λ h. parted-finds (ltb-false _ _ a) (ltb-false _ _ t) (ltb-false _ _ h)
        (records (state_from arrived text history c)) refl)))

  parsed-finds :
      length arrived ≤ limit → length text ≤ limit → length history ≤ limit → (p : Whole Content) → parse file ≡ p →
      Finds (read_parsed arrived text history p)
  unfolding read_parsed
  parsed-finds af tf hf (broken place) e = λ ok. absurd (false≢true ok)
  parsed-finds af tf hf (whole c) e = fitting-finds c e af tf hf

  pub accepts : Finds (read_of arrived text history file)
  unfolding read_of
  accepts =
      cond-case Finds (over arrived || (over text || over history)) (λ _ ok. absurd (false≢true ok))
      (λ q.
      let a = or_parts (over arrived) (over text || over history) q in
      let p = or_parts (over text) (over history) a.1 in
      parsed-finds (ltb-false limit (length arrived) a.0) (ltb-false limit (length text) p.0)
      (ltb-false limit (length history) p.1) (parse file) refl)

  module _ (out : List ℕ) where
    again :
        {o : Outcome} → Accepts arrived text history file o →
        keep_of o.state (take o.verdict.place o.output) out ≡ deliver file out
    unfolding keep_of keep_parted
    again a =
        let c : Content = a.content in
        let is : IsFile c file = spelled file c a.parsed in
        let cells : take c.page.length (pad (length text) c.text) ≡ c.text =
        rw (← is.0.text) (take-pad (length text) c.text) in
        let words : take c.page.used (pad (length history) c.history) ≡ c.history =
        rw (← is.0.history) (take-pad (length history) c.history) in
        let same : content_of (state_from arrived text history c) c.arrived ≡ c =
        λ i. record { page = c.page; arrived = c.arrived; text = cells i; history = words i } in
        rw (
          a.outcome,
          take-pad (length arrived) c.arrived,
          le-ltb limit (length c.arrived) (omega (arith, a.arrived-room, a.arrived-few)),
          length-pad (length text) c.text a.text-room,
          le-ltb limit (length text) a.text-few,
          length-pad (length history) c.history a.history-room,
          le-ltb limit (length history) a.history-few,
          a.sound,
          same,
          a.same,
          ← is.1,
        )

pub same-again : SameAgain
same-again arrived text history file out ok = again arrived text history file out (accepts arrived text history file ok)
