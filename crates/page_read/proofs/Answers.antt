-- What reading a file answers, and what it leaves. Assumes nothing.
use Prim.Native.Nat.{ℕ, ◌≤◌, ◌<◌}
use mathlib.Core.Path.{◌≡◌, refl, sym, ap, ◌∙◌}
use mathlib.Core.Bool.{Bool, true, false, cond}
use mathlib.Core.List.{List}
use Rattle.std.specs.Prelude.{Option, None, Some}
use native.Mathlib.Omega.{arith}
use lib.ListN.{length, take, drop, length-append, length-drop}
use lib.Seq.{take_at}
use borrow.Author.Tests.{lt-ltb, le-ltb}
use Rattle.answer.specs.Answer.{numbered, in_numbers, too_long, Answer}
use Rattle.answer.specs.Output.{filled}
use Rattle.codec.specs.declared.Kind.TheVariants.{Utf7Header}
use Rattle.ledger.specs.declared.Edited.{Edited}
use Rattle.ledger.specs.Words.{Parted, pad}
use Rattle.ledger.specs.Page.{records, keeps}
use Rattle.ledger.specs.Calls.{over, no_page}
use Rattle.ledger.proofs.Words.{Whole}
use Rattle.ledger.proofs.Sound as sound
use Rattle.parsing.specs.Parsing.{whole, broken}
use Rattle.page_file.specs.File.{Content}
use Rattle.page_file.specs.Reading.{parse}
use Rattle.page_file.specs.Calls.{unread, state_from, given, read_parted, read_fitting, read_parsed, read_of}
use Rattle.page_file.specs.Inner.{belongs_by}
use Rattle.page_file.proofs.Belonging.{belongs-by}
use Rattle.std.specs.Option.{is_some}

-- elements in front, and zeros behind them
module _ (l out₀ out₁ : List ℕ) (n : ℕ) (e : length l ≡ n) (h : n ≤ length out₀) (f : out₁ ≡ filled l out₀) where
  same_length : length out₁ ≡ length out₀
  same_length = ap length f ∙ length-append l (drop (length l) out₀) ∙ omega (arith, length-drop (length l) out₀)

  front : take n out₁ ≡ l
  front = ap (take n) f ∙ take_at l (drop (length l) out₀) n e

  pub pads-words : {out : List ℕ} → out ≡ pad (length out₁) (take n out₁) → out ≡ pad (length out₀) l
  pads-words g = g ∙ rw (front, same_length)

  pub still-room : n ≤ length out₁
  still-room = omega (arith, same_length)

-- refused
pub refused_as :
    (a : Answer) (r : Edited) (arrived text history : List ℕ) → r ≡ record { answer = a; page = no_page Utf7Header } →
    keeps r text history arrived ≡ unread arrived text history (in_numbers a)
refused_as a r arrived text history e = rw e

module _ (arrived text history : List ℕ) (c : Content) where
  -- 14 and 15
  parted-by : (x : Option Parted) → is_some x ≡ false → read_parted arrived text history c x ≡ unread arrived text
      history (numbered 14 0)
  unfolding read_parted
  parted-by None e = refl
  parted-by (Some v) e = let z : ◌≡◌ {A = ℕ} 0 1 = cc in absurd (omega arith)

  pub is-unsound : false ≡ is_some (records (state_from arrived text history c)) → read_parted arrived text history c
      (records (state_from arrived text history c)) ≡ unread arrived text history (numbered 14 0)
  is-unsound e = parted-by (records (state_from arrived text history c)) (sym e)

  sound-by :
      (x : Option Parted) → is_some x ≡ true → Whole (sound.Sound (state_from arrived text history c)) x → length
      c.text ≡ c.page.length →
      read_parted arrived text history c x
      ≡ cond (belongs_by c.page c.text c.arrived) (given arrived text history c)
      (unread arrived text history (numbered 15 0))
  unfolding read_parted
  sound-by None e w h = let z : ◌≡◌ {A = ℕ} 0 1 = cc in absurd (omega arith)
  sound-by (Some v) e w h =
      ap (λ (t : Bool). cond t (given arrived text history c) (unread arrived text history (numbered 15 0)))
      (belongs-by c v.standing w.end w.reach h)

  pub is-sound :
      true ≡ is_some (records (state_from arrived text history c)) → length c.text ≡ c.page.length →
      read_parted arrived text history c (records (state_from arrived text history c))
      ≡ cond (belongs_by c.page c.text c.arrived) (given arrived text history c)
      (unread arrived text history (numbered 15 0))
  is-sound e h = sound-by (records (state_from arrived text history c)) (sym e)
      (sound.records-sound (state_from arrived text history c)) h

  -- 9
  module _ {a t h : ℕ} (ea : length c.arrived ≡ a) (et : length c.text ≡ t) (eh : length c.history ≡ h) where
    pub no-arrived : length arrived < a → read_fitting arrived text history c ≡ unread arrived text history
        (numbered 9 a)
    unfolding read_fitting
    no-arrived q = rw (lt-ltb (length arrived) (length c.arrived) (omega arith), ea)

    module _ (ra : a ≤ length arrived) where
      pub no_text : length text < t → read_fitting arrived text history c ≡ unread arrived text history (numbered 9 t)
      unfolding read_fitting
      no_text q = rw (
        le-ltb (length arrived) (length c.arrived) (omega arith),
        lt-ltb (length text)
            (length c.text) (omega arith),
        et,
      )

      module _ (rt : t ≤ length text) where
        pub no-history : length history < h → read_fitting arrived text history c ≡ unread arrived text history
            (numbered 9 h)
        unfolding read_fitting
        no-history q =
            rw (
              le-ltb (length arrived) (length c.arrived) (omega arith),
              le-ltb (length text) (length c.text)
                  (omega arith),
              lt-ltb (length history) (length c.history) (omega arith),
              eh,
            )

        pub all_fit : h ≤ length history → read_fitting arrived text history c ≡ read_parted arrived text history c
            (records (state_from arrived text history c))
        unfolding read_fitting
        all_fit q =
            rw (
              le-ltb (length arrived) (length c.arrived) (omega arith),
              le-ltb (length text) (length c.text)
                  (omega arith),
              le-ltb (length history) (length c.history) (omega arith),
            )

-- 16 and 18
module _ (arrived text history file : List ℕ) where
  pub long-arrived : over arrived ≡ true → read_of arrived text history file ≡ unread arrived text history too_long
  unfolding read_of
  long-arrived q = rw q

  module _ (qa : over arrived ≡ false) where
    pub long-text : over text ≡ true → read_of arrived text history file ≡ unread arrived text history too_long
    unfolding read_of
    long-text q = rw (qa, q)

    module _ (qt : over text ≡ false) where
      pub long-history : over history ≡ true → read_of arrived text history file ≡ unread arrived text history too_long
      unfolding read_of
      long-history q = rw (qa, qt, q)

      module _ (qh : over history ≡ false) where
        pub bad-file : {place : ℕ} → broken place ≡ parse file → read_of arrived text history file ≡ unread arrived text
            history (numbered 18 place)
        unfolding read_of read_parsed
        bad-file e = rw (qa, qt, qh, ← e)

        pub good-file : (c : Content) → whole c ≡ parse file → read_of arrived text history file ≡ read_fitting arrived
            text history c
        unfolding read_of read_parsed
        good-file c e = rw (qa, qt, qh, ← e)
