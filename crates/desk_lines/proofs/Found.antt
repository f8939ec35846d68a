-- A replace's numbers: a reading has no more cells than bytes, so those of a line fit; and what they ask for. And what
-- a squeeze's number asks for. Assumes nothing.
use Prim.Native.Nat.{ℕ, suc, ◌+◌, ◌-◌, ◌<◌, ◌≤◌}
use mathlib.Core.Path.{◌≡◌, refl, ap, ◌∙◌}
use mathlib.Core.Bool.{Bool, true, false}
use mathlib.Core.List.{List, [], ◌∷◌}
use Rattle.std.specs.declared.result.Result.TheVariants.{Ok, Err}
use Rattle.answer.specs.declared.Refused.{Refused}
use Rattle.std.specs.Prelude.{Option, None}
use native.Mathlib.Omega.{arith}
use lib.ListN.{length, get_or, take, drop, replicate, length-drop, length-replicate}
use lib.Seq.{take_all, take-append_seam}
use borrow.Author.Tests.{le-ltb, ne_eqb}
use Rattle.answer.specs.Answer.{numbered, in_numbers, number_of, limit, refused_at, Answer}
use Rattle.answer.specs.Output.{Outcome, leaves, filled, deliver}
use Rattle.answer.specs.declared.Refusal.{Refusal}
use Rattle.answer.proofs.Once.{number-pos}
use Rattle.reading.specs.Reading.{Ending, accepted, fault, on_ending, reading, read_into}
use Rattle.reading.proofs.Laws.{SoundEnd, good-reading}
use Rattle.reading.proofs.Filling.{few-cells}
use Rattle.ledger.specs.Page.{State}
use Rattle.ledger.specs.Calls.{replace_of, squeeze_of}
use Rattle.ledger.specs.Ledger.{Call}
use Rattle.commands.specs.Lines.{stretch, said_in}
use Rattle.commands.specs.Numbers.{numbers}
use Rattle.commands.proofs.Words.{stretch-most, end-within}
use Rattle.commands.proofs.Kept.{numbers-kept}
use Rattle.commands.specs.declared.Said.{Said}
use Rattle.commands.specs.declared.Verb.TheVariants.{Replace}
use Rattle.desk_lines.specs.Desk.{line_room, history_room, file_room}
use Rattle.desk_lines.specs.Desk.{replacing, work_room, squeezing, room, saving, asked, after_call}
use Rattle.desk_lines.specs.Desk.{Desk, begun, after_command, after_line}

-- the page after one call is that after the same call
pub same-call : (s : State) {a b : Option Call} → a ≡ b → after_call a s ≡ after_call b s
same-call s e = ap (λ (call : Option Call). after_call call s) e

-- a place and a count are needed, and the rest are the cells
pub too_few : (numbers : List ℕ) → length numbers < 2 → None ≡ replacing accepted numbers
too_few [] h = refl
too_few (place ∷ []) h = refl
too_few (place ∷ count ∷ cells) h = absurd (omega arith)

pub replaces :
    (s : State) (numbers : List ℕ) {place count : ℕ} {cells : List ℕ} → 2 ≤ length numbers → place ≡ get_or numbers 0 0 →
    count ≡ get_or numbers 1 0 → cells ≡ drop 2 numbers → (replace_of s place count cells).state ≡ after_call (replacing accepted numbers) s
replaces s [] h p c l = absurd (omega arith)
replaces s (x ∷ []) h p c l = absurd (omega arith)
replaces s (x ∷ y ∷ rest) h p c l = rw (p, c, l)

-- what an output with room for all holds after an answer
module _ (out o : List ℕ) where
  accepted-by :
      (e : Ending) (cells : List ℕ) (n : ℕ) → SoundEnd e → length cells ≤ length out → leaves (Ok n) o ≡ on_ending e cells out →
      (n ≡ length cells) × (replacing accepted (take n o) ≡ replacing e cells)
  unfolding deliver
  accepted-by accepted cells n w room q =
      let d : leaves (Ok n) o ≡ record { verdict = numbered 0 (length cells); out = filled cells out } =
      rw (le-ltb (length out) (length cells) room) at q in
      let k : n ≡ length cells = ap (λ (v : Outcome). v.verdict.place) d in
      let f : o ≡ filled cells out = ap (λ (v : Outcome). v.out) d in
      (k, rw (k, f, take-append_seam cells (drop (length cells) out)))
  accepted-by (fault k p) cells n w room q = absurd (omega (arith, w, ap (λ (v : Outcome). v.verdict.number) q))

  refused-by :
      (e : Ending) (cells : List ℕ) (why : Refusal) (place : ℕ) → length cells ≤ length out → leaves (refused_at why place) o ≡ on_ending e cells out →
      replacing e cells ≡ None
  unfolding deliver
  refused-by accepted cells why place room q =
      let d : leaves (refused_at why place) o ≡ record { verdict = numbered 0 (length cells); out = filled cells out } =
      rw (le-ltb (length out) (length cells) room) at q in
      absurd (omega (arith, number-pos why, ap (λ (v : Outcome). v.verdict.number) d))
  refused-by (fault k p) cells why place room q = refl

-- the room that the desk has for them
pub wide_room : line_room ≤ length {A = ℕ} (replicate line_room 0)
wide_room = omega (arith, length-replicate {A = ℕ} line_room 0)

-- a line's numbers, read into an output with room for as many as a line has bytes
module _ (words out o : List ℕ) (short : length words ≤ line_room) (wide : line_room ≤ length out) where
  fits : length (reading (numbers 2) words).cells ≤ length out
  fits = omega (arith, few-cells (numbers 2) words)

  by : (v : Outcome) → v ≡ read_into (numbers 2) words out → v ≡ on_ending (reading (numbers 2) words).ending (reading (numbers 2) words).cells out
  unfolding read_into limit
  by v q = rw (le-ltb limit (length words) (omega (arith, short))) at q

  module _ {a : Answer} (q : leaves a o ≡ read_into (numbers 2) words out) where
    module _ {m n : ℕ} (e : a ≡ Ok m) (k : n ≡ (in_numbers a).place) where
      known : (n ≡ length (reading (numbers 2) words).cells) × (replacing accepted (take n o) ≡ asked None Replace words)
      known =
          let s : n ≡ m = k ∙ ap (λ (x : Answer). (in_numbers x).place) e in
          rw s (accepted-by out o (reading (numbers 2) words).ending (reading (numbers 2) words).cells m (good-reading (numbers-kept 2) words).1 fits (rw e at (by _ q)))

      pub found-few : n ≤ line_room
      found-few = omega (arith, known.0, few-cells (numbers 2) words)

      pub found_all : replacing accepted (take n o) ≡ asked None Replace words
      found_all = known.1

    pub found_none : {deny : Refused} → a ≡ Err deny → asked None Replace words ≡ None
    found_none {deny} e =
        refused-by out o (reading (numbers 2) words).ending (reading (numbers 2) words).cells deny.0 deny.1 fits (rw e at (by _ q))

-- a squeeze's number, by the answer of reading it: it is read, or there is none
module _ (s : State) {read : Outcome} {a : Answer} {found : List ℕ} (q : leaves a found ≡ read) where
  pub squeezes :
      {n k : ℕ} {work : List ℕ} → a ≡ Ok n → k ≡ get_or found 0 0 → work ≡ work_room →
      (squeeze_of s k work).state ≡ after_call (squeezing read) s
  squeezes e k w = rw (← q, e, k, w)

  pub squeezes-none : {deny : Refused} → a ≡ Err deny → s ≡ after_call (squeezing read) s
  squeezes-none {deny} e = rw (← q, e, ne_eqb (number_of deny.0) 0 (λ z. omega (arith, number-pos deny.0)))

-- the work buffer that it is lent
pub zeros-work : (n : ℕ) → n ≡ history_room → replicate n 0 ≡ work_room
unfolding work_room
zeros-work n e = ap (λ (k : ℕ). replicate k 0) e

-- the output that a save is lent
pub zeros-room : (n : ℕ) → n ≡ file_room → replicate n 0 ≡ room
unfolding room
zeros-room n e = ap (λ (k : ℕ). replicate k 0) e

pub in-room :
    (s : State) (letter : List ℕ) (put : Bool) {d : Desk} {out : List ℕ} → out ≡ room →
    d ≡ begun (after_call (saving letter out put) s) → d ≡ begun (after_call (saving letter room put) s)
in-room s letter put e saved = rw e at saved

-- a part to the end
pub to_end : (n : ℕ) (l : List ℕ) → take (length l - n) (drop n l) ≡ drop n l
to_end n l = take_all (length l - n) (drop n l) (omega (arith, length-drop n l))

-- what follows a command's name begins within its line
pub rest-within : (line : List ℕ) → (said_in line).rest ≤ length line
unfolding said_in
rest-within line =
    let from : ℕ = stretch true line in
    let to : ℕ = from + stretch false (drop from line) in
    end-within true line to (end-within false line from (stretch-most true line))

pub line-done :
    (letter line : List ℕ) (put : Bool) (d : Desk) {said : Said} → said ≡ said_in line →
    after_command (saving letter room put) d said.verb (take (length line - said.rest) (drop said.rest line))
    ≡ after_line letter d (record { line = line; put = put })
unfolding after_line
line-done letter line put d e = rw (e, to_end (said_in line).rest line)
