-- The desk's turns, its loop, and its work on a page that was opened. Assumes nothing.
use Prim.Native.Nat.{ℕ, suc, ◌+◌, ◌-◌, ◌<◌, ◌≤◌}
use mathlib.Core.Path.{◌≡◌, refl, sym, ap, ◌∙◌, subst}
use mathlib.Core.Bool.{Bool, true, false, ◌||◌, false≢true}
use mathlib.Core.List.{List}
use native.Mathlib.Omega.{arith}
use native.Mathlib.Numerals.{add-one}
use lib.ListN.{length, take}
use lib.Seq.{length-take-le}
use lib.Dec.{eqb}
use borrow.Author.Tests.{eq-eqb, ne_eqb}
use Rattle.std.specs.declared.result.Result.TheVariants.{Ok, Err}
use Rattle.answer.specs.declared.Refused.{Refused}
use Rattle.answer.specs.Answer.{in_numbers, number_of, Answer}
use Rattle.answer.specs.declared.Refusal.{Refusal}
use Rattle.answer.proofs.Once.{number-pos}
use Rattle.codec.specs.declared.Kind.{Kind}
use Rattle.ledger.specs.Words.{pad}
use Rattle.ledger.specs.Page.{Outcome, leaves, keeps}
use Rattle.ledger.specs.declared.Page.{Page}
use Rattle.ledger.specs.declared.Edited.{Edited}
use Rattle.ledger.specs.Calls.{open_of}
use Rattle.ledger.specs.Running.{taken}
use Rattle.ledger.proofs.Words.{length-pad}
use Rattle.page_file.specs.Calls.{read_of}
use Rattle.page_file.proofs.Calls.{accepts}
use Rattle.desk_lines.specs.Desk.{file_room, Desk, after_line, Turn, obeys, passes, waits, Turns, none_yet, then}
use Rattle.desk.specs.Hands.{desk_in, sitting, Took, passed, obeyed, closed, Worked}
use Rattle.desk.specs.Hands.{Sits, ReadFrom, OpenedBy, KeptBy}
use Rattle.desk.specs.declared.lines.Hand.{Hand}

-- a line that was taken is a turn, and so is a page that stays
pub took-turn : {letter line : List ℕ} {d e : Desk} {passing : Bool} → Took letter line d e passing → Turn letter d e
took-turn (passed q) = passes q
took-turn {line = line} (obeyed put q) = obeys (record { line = line; put = put }) q

pub hand-waits :
    {letter : List ℕ} (h r : Hand) {text history : List ℕ} → r.page ≡ h.page → r.warned ≡ h.warned → r.left ≡ false →
    Turn letter (sitting h.page h.warned text history) (desk_in r text history)
hand-waits h r p w l = waits (rw (p, w, l))

-- a turn does not ask whether the desk was left
sat-turn :
    {letter : List ℕ} (h : Hand) {text history : List ℕ} {e : Desk} →
    Turn letter (sitting h.page h.warned text history) e → Turn letter (desk_in h text history) e
unfolding after_line
sat-turn h (obeys c q) = obeys c q
sat-turn h (passes q) = passes q
sat-turn h (waits q) = waits q

or-false : (a b : Bool) → (a || b) ≡ false → a ≡ false
or-false true b e = e
or-false false b e = refl

or-true : (a : Bool) → (a || true) ≡ true
or-true true = refl
or-true false = refl

-- the loop after some turns, of which none left the desk
pub record Going (letter : List ℕ) (from : Desk) (hand : Hand) (text history : List ℕ) (turns : ℕ) : Type 0 where
  pub led : Turns letter from turns (desk_in hand text history)
  pub stays : hand.left ≡ false

pub going-begun :
    {letter : List ℕ} (h : Hand) {text history : List ℕ} → h.left ≡ false →
    Going letter (desk_in h text history) h text history 0
going-begun h e = record { led = none_yet; stays = e }

module _
    {letter : List ℕ} {from : Desk} {before hand : Hand} {text history text' history' : List ℕ} {turns : ℕ}
    (g : Going letter from before text history turns)
    (turn : Turn letter (sitting before.page before.warned text history) (desk_in hand text' history')) where
  pub going-again : closed hand ≡ false → Going letter from hand text' history' (turns + 1)
  going-again e =
      rw add-one (record { led = then g.led g.stays (sat-turn before turn); stays = or-false hand.left _ e })

  pub going-closed : closed hand ≡ true → Worked letter from (desk_in hand text' history') hand
  going-closed e =
      record {
        turns = suc turns;
        led = then g.led g.stays (sat-turn before turn);
        until = ap (λ (b : Bool). b || eqb (suc turns) 18446744073709551615) e;
      }

pub going-over :
    {letter : List ℕ} {from : Desk} {hand : Hand} {text history : List ℕ} {turns : ℕ} →
    Going letter from hand text history turns → turns ≡ 18446744073709551615 → Worked letter from (desk_in hand text history) hand
going-over {hand = hand} {turns = turns} g h =
    record {
      turns = turns;
      led = g.led;
      until =
          ap (λ (b : Bool). closed hand || b) (eq-eqb turns 18446744073709551615 h)
          ∙ or-true (closed hand);
    }

-- nothing is in hand at first
abbrev pub empty : Page → Hand
empty p = record { page = p; from = 0; to = 0; passing = false; ended = false; warned = false; left = false }

pub worked-from :
    {letter : List ℕ} {p : Page} {h : Hand} {text history : List ℕ} {to : Desk} {hand : Hand} → h ≡ empty p →
    Worked letter (desk_in h text history) to hand → Worked letter (sitting p false text history) to hand
worked-from e w = rw e at w

-- what is done with a page that FILE gave, by its answer
module _ (letter text history : List ℕ) (r : Edited) where
  answered : (a : Answer) → r.answer ≡ a → taken (leaves r text history) ≡ eqb (in_numbers a).number 0
  answered a e = ap (λ (x : Answer). eqb (in_numbers x).number 0) e

  pub sits-worked :
      {to : Desk} {hand : Hand} (n : ℕ) → r.answer ≡ Ok n →
      Worked letter (sitting r.page false text history) to hand → Sits (leaves r text history) letter to hand
  sits-worked n a w =
      record { refused = λ e. absurd (false≢true (sym e ∙ answered (Ok n) a)); worked = λ _. w }

  not_taken : {deny : Refused} → r.answer ≡ Err deny → taken (leaves r text history) ≡ false
  not_taken {deny} a =
      answered (Err deny) a ∙ ne_eqb (number_of deny.0) 0 (λ z. omega (arith, number-pos deny.0))

  pub sits-idle :
      {hand : Hand} (deny : Refused) → r.answer ≡ Err deny → hand ≡ empty r.page →
      Sits (leaves r text history) letter (desk_in hand text history) hand
  sits-idle deny a e =
      record {
        refused = λ _. ap (λ (x : Hand). desk_in x text history) e;
        worked = λ y. absurd (false≢true (sym (not_taken a) ∙ y));
      }

-- the first elements of a list that has as many
pub counted : (n : ℕ) (l : List ℕ) → n ≤ length l → n ≡ length (take n l)
counted n l h = sym (length-take-le n l h)

-- of a page file that is not too long
pub few-of : (n : ℕ) (l : List ℕ) → n ≤ length l → n ≤ file_room → length (take n l) ≤ file_room
few-of n l h few = omega (arith, counted n l h, few)

-- the page of a letter
pub opens_by :
    {kind : Kind} (letter : List ℕ) {text history : List ℕ} (r : Edited) (n : ℕ) {text' history' : List ℕ}
    {to : Desk} {hand : Hand} → leaves r text' history' ≡ open_of kind (take n letter) text history →
    Sits (leaves r text' history') (take n letter) to hand →
    OpenedBy kind letter text history to hand
opens_by letter r n {to = to} {hand = hand} o sits =
    record { size = n; served = subst (λ (x : Outcome). Sits x (take n letter) to hand) o sits }

-- the page of a page file
module _ (r : Edited) (letter text history letter' text' history' : List ℕ) where
  pub keeps-by :
      (n : ℕ) {to : Desk} {hand : Hand} → ReadFrom r n letter text history letter' text' history' →
      Sits (leaves r text' history') (take n letter') to hand →
      KeptBy letter text history to hand
  keeps-by n {to} {hand} from sits =
      let given : Sits (keeps r text' history' letter') (take (in_numbers r.answer).place letter') to hand =
      record { refused = sits.refused; worked = λ ok. rw (← from.ends ok) (sits.worked ok) } in
      record {
        file = from.file;
        short = from.short;
        resumed =
            subst (λ (o : Outcome). Sits o (take o.verdict.place o.output) to hand) from.reads given;
      }

  module _ (file : List ℕ) (few : length file ≤ file_room)
      (o : keeps r text' history' letter' ≡ read_of letter text history file) where
    -- the letter that is given back lies in its buffer
    pub given-within : {n : ℕ} → r.answer ≡ Ok n → n ≤ length letter'
    given-within {n} e =
        let ok : taken (read_of letter text history file) ≡ true =
        ap taken (sym o) ∙ answered letter text' history' r (Ok n) e in
        let q = accepts letter text history file ok in
        let p : n ≡ length q.content.arrived =
        sym (ap (λ (x : Answer). (in_numbers x).place) e)
        ∙ (ap (λ (x : Outcome). x.verdict.place) o ∙ ap (λ (x : Outcome). x.verdict.place) q.outcome) in
        let l : letter' ≡ pad (length letter) q.content.arrived =
        ap (λ (x : Outcome). x.output) o ∙ ap (λ (x : Outcome). x.output) q.outcome in
        omega (
          arith,
          p,
          ap length l,
          length-pad (length letter) q.content.arrived q.arrived-room,
          q.arrived-room,
        )

    pub read-accepted :
        {n : ℕ} → r.answer ≡ Ok n →
        (n ≤ length letter') × ReadFrom r n letter text history letter' text' history'
    read-accepted {n} e = (
      given-within e,
      record {
        file = file;
        short = few;
        reads = o;
        ends = λ _. sym (ap (λ (x : Answer). (in_numbers x).place) e);
      },
    )

    pub read-refused :
        {deny : Refused} → r.answer ≡ Err deny →
        (0 ≤ length letter') × ReadFrom r 0 letter text history letter' text' history'
    read-refused e = (
      omega arith,
      record {
        file = file;
        short = few;
        reads = o;
        ends = λ ok. absurd (false≢true (sym (not_taken letter text' history' r e) ∙ ok));
      },
    )
