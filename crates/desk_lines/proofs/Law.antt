-- The desk keeps demand 3, from run to run where a page is kept: its lines are a list of calls on its page. And a line
-- leaves it only where the ledger calls the page saved, or the last command was a `quit` too. Assumes nothing.
use Prim.Native.Nat.{ℕ, ◌≤◌}
use mathlib.Core.Path.{◌≡◌, refl, sym, ap, ◌∙◌, subst₂}
use mathlib.Core.Bool.{Bool, true, false, ◌&&◌, ◌||◌, false≢true}
use mathlib.Core.List.{List, [], ◌∷◌, ◌++◌, map}
use Rattle.std.specs.Prelude.{Option, None, Some}
use native.Mathlib.Omega.{arith}
use lib.ListN.{length, take, drop}
use lib.Seq.{take-append_seam}
use lib.Dec.{eqb, lit≤}
use borrow.Author.Tests.{eq-eqb, ltb-false}
use Rattle.answer.specs.Answer.{limit}
use Rattle.answer.specs.Output as output
use Rattle.codec.specs.declared.Kind.{Kind}
use Rattle.editor.specs.Editor.{over}
use Rattle.editor.proofs.Steps.{or_parts}
use Rattle.editor.proofs.Ends.{Fills, leaves, fills, deliver-fills}
use Rattle.ledger.specs.Page.{State}
use Rattle.ledger.specs.Calls.{Reply}
use Rattle.ledger.specs.Ledger.{Ledger, Call}
use Rattle.ledger.specs.Running.{taken, after, heard}
use Rattle.ledger.specs.Demand.{Promised}
use Rattle.ledger.proofs.Lying.{page-lays}
use Rattle.page_file.specs.Calls.{keep_of, read_of}
use Rattle.sessions.specs.Books as books
use Rattle.sessions.specs.Books.{restore, opening, told}
use Rattle.sessions.specs.Sessions.{begins}
use Rattle.sessions.specs.Demand.{RoomFor, file_for}
use Rattle.sessions.proofs.Restores.{keep-accepted}
use Rattle.sessions.proofs.Sessions.{Holds, Shelved, Together, together, calls_alone}
use Rattle.sessions.proofs.Demand.{begins-together, goes_on}
use Rattle.commands.specs.Lines.{said_in}
use Rattle.commands.specs.declared.Verb.{Verb}
use Rattle.commands.specs.declared.Verb.TheVariants.{Nothing, Show, Replace, Undo, Redo, Save, Quit}
use Rattle.commands.specs.declared.Verb.TheVariants.{Squeeze, Keep, Unknown}
use Rattle.desk_lines.specs.Desk.{Desk, begun, free, leaving, Came, call_in, after_call, after_line, after_lines}
use Rattle.desk_lines.specs.Desk.{history_room, with_call, calls_in}
use Rattle.desk_lines.specs.Desk.{Turn, obeys, passes, waits, Turns, none_yet, then}
use Rattle.desk_lines.specs.Runs.{Put, Reached, opens, works, resumes, Demand3}
use Rattle.desk_lines.specs.Demand.{Keeps, Left}

-- a line's call comes before those of the lines that follow
call-first :
    (s : State) (call : Option Call) (calls : List Call) →
    after (after_call call s) calls ≡ after s (with_call call calls)
call-first s None calls = refl
call-first s (Some call) calls = refl

-- the page after a line is that after its call
state-after :
    (letter : List ℕ) (d : Desk) (c : Came) → (after_line letter d c).state ≡ after_call (call_in letter c) d.state
unfolding after_line call_in
state-after letter d c = refl

module _ (letter : List ℕ) where
  pub lines-call : (s : State) (lines : List Came) → after_lines letter s lines ≡ after s (calls_in letter lines)
  lines-call s [] = refl
  lines-call s (c ∷ rest) =
      lines-call (after_call (call_in letter c) s) rest ∙ call-first s (call_in letter c) (calls_in letter rest)

  -- the lines that some turns obeyed
  record Along (from to : State) : Type 0 where
    lines : List Came
    arrive : after_lines letter from lines ≡ to

  lines_then :
      (s : State) (a b : List Came) → after_lines letter s (a ++ b) ≡ after_lines letter (after_lines letter s a) b
  lines_then s [] b = refl
  lines_then s (c ∷ a) b = lines_then (after_call (call_in letter c) s) a b

  along-turn : {from : State} {d e : Desk} → Along from d.state → Turn letter d e → Along from e.state
  along-turn {from} {d} a (obeys c q) =
      record {
        lines = a.lines ++ c ∷ [];
        arrive =
            lines_then from a.lines (c ∷ [])
            ∙ (ap (λ (x : State). after_call (call_in letter c) x) a.arrive
            ∙ (sym (state-after letter d c) ∙ sym (ap (λ (x : Desk). x.state) q)));
      }
  along-turn a (passes q) = record { lines = a.lines; arrive = a.arrive ∙ sym (ap (λ (x : Desk). x.state) q) }
  along-turn a (waits q) = record { lines = a.lines; arrive = a.arrive ∙ sym (ap (λ (x : Desk). x.state) q) }

  along : {from to : Desk} {n : ℕ} → Turns letter from n to → Along from.state to.state
  along none_yet = record { lines = []; arrive = refl }
  along (then turns stays turn) = along-turn (along turns) turn

-- an output that was filled, and not refused, has the file at its front
filled-file :
    (out file : List ℕ) (o : output.Outcome) → Fills out file o → o.verdict.number ≡ 0 →
    take o.verdict.place o.out ≡ file
filled-file out file o (leaves v n) e = absurd (false≢true (sym n ∙ eq-eqb v.number 0 e))
filled-file out file o fills e = take-append_seam file (drop (length file) out)

module _ {letter : List ℕ} {s : State} {l : Ledger} (h : Holds letter s l) where
  alone : Together letter (begins s letter) (opening l)
  alone = record { now = h; same_bytes = refl; shelf = tt }

  -- what was put is the page's file
  put_is : {file : List ℕ} → Put s letter file → file ≡ file_for s letter
  put_is put =
      put.bytes
      ∙ filled-file put.out (file_for s letter) (keep_of s letter put.out)
      (rw (keep-accepted h.kept put.out) (deliver-fills put.out (file_for s letter))) put.accepted

  -- a list of actions reads it
  module _ {file : List ℕ} (put : Put s letter file) (arrived text history : List ℕ) where
    read : taken (read_of arrived text history file) ≡ true →
        Holds letter (read_of arrived text history file).state l
        × (take (read_of arrived text history file).verdict.place (read_of arrived text history file).output ≡ letter)
    unfolding told
    read ok =
        let shelved : Shelved letter file l = record { state = s; holds = h; is = put_is put } in
        let held : Together letter (record { state = s; arrived = letter; files = file ∷ [] })
        (record { ledger = l; kept = l ∷ [] }) = record { now = h; same_bytes = refl; shelf = (shelved, tt) } in
        let t = rw ok at (together letter held (restore 0 arrived text history ∷ [])) in
        (t.now, t.same_bytes)

  short : (length s.text ≤ limit) × (length s.history ≤ limit)
  short =
      let q = or_parts (over s.text) (over s.history) (page-lays.short h.kept.lies) in
      (ltb-false limit (length s.text) q.0, ltb-false limit (length s.history) q.1)

  room_for :
      (arrived text history : List ℕ) → length arrived ≡ limit → length text ≡ limit →
      length s.history ≤ length history → length history ≤ limit →
      RoomFor s letter arrived text history
  room_for arrived text history a t w few =
      record {
        for-arrived = (omega (arith, h.kept.good.few, a), omega (arith, a));
        for-text = (omega (arith, short.0, t), omega (arith, t));
        for-history = (w, few);
      }

  -- lines are a list of actions
  worked : (lines : List Came) → Holds letter (after_lines letter s lines) (heard l s (calls_in letter lines))
  worked lines =
      let q = calls_alone s letter l (calls_in letter lines) in
      rw (lines-call letter s lines)
      (subst₂ (Together letter) q.0 q.1 (together letter alone (map books.call (calls_in letter lines)))).now

desk-history : history_room ≤ limit
unfolding limit
desk-history = lit≤ tt

-- a page that runs of desk lead to is the one that its ledger determines
reached-holds : {kind : Kind} {letter : List ℕ} {s : State} {l : Ledger} → Reached kind letter s l → Holds letter s l
reached-holds {kind} {letter} (opens text history ok) = (begins-together kind letter text history ok).now
reached-holds (works r lines) = worked (reached-holds r) lines
reached-holds (resumes r put arrived text history ok) = (read (reached-holds r) put arrived text history ok).0

pub runs_on : Demand3
runs_on kind letter s l r =
    let h = reached-holds r in
    let g = goes_on (alone h) in
    record {
      promised = g.promised;
      keeps = g.keeps;
      reads = λ file put arrived text history room.
          ap taken (ap (read_of arrived text history) (put_is h put) ∙ g.restores arrived text history room);
      room = λ arrived text history a t w.
          room_for h arrived text history a t (omega (arith, (short h).1, w)) (omega (arith, w));
      desk-room = λ arrived text history a t few w.
          room_for h arrived text history a t (omega (arith, few, w)) (omega (arith, w, desk-history));
      letter-back = λ file put arrived text history ok. (read h put arrived text history ok).1;
    }

module _ {kind : Kind} {letter : List ℕ} {s : State} {l : Ledger} (r : Reached kind letter s l) where
  -- after every list of lines on such a page, whatever became of their files, all that demand 3 promises holds of it
  -- and of the ledger that heard their calls
  pub desk-keeps :
      (lines : List Came) → Promised letter (after_lines letter s lines) (heard l s (calls_in letter lines))
  desk-keeps lines = (runs_on kind letter _ _ (works r lines)).promised

  -- so it does at every desk that turns lead to
  pub turns-keep : {to : Desk} {n : ℕ} → Turns letter (begun s) n to → Keeps letter s l to.state
  turns-keep turns =
      let a = along letter turns in
      record { lines = a.lines; arrive = a.arrive; promised = rw a.arrive at (desk-keeps a.lines) }

-- a second `quit` leaves the desk
pub quit-again : (d : Desk) → d.warned ≡ true → free d ≡ true
quit-again d e = rw e

and_right : (a b : Bool) → (a && b) ≡ true → b ≡ true
and_right true b e = e
and_right false b e = absurd (false≢true e)

-- only a desk that may be left is
leaves_free : (may : Bool) (verb : Verb) (words : List ℕ) → leaving may verb words ≡ true → may ≡ true
leaves_free may Quit words e = and_right (eqb (length words) 0) may e
leaves_free may Nothing words e = absurd (false≢true e)
leaves_free may Show words e = absurd (false≢true e)
leaves_free may Replace words e = absurd (false≢true e)
leaves_free may Undo words e = absurd (false≢true e)
leaves_free may Redo words e = absurd (false≢true e)
leaves_free may Save words e = absurd (false≢true e)
leaves_free may Squeeze words e = absurd (false≢true e)
leaves_free may Keep words e = absurd (false≢true e)
leaves_free may Unknown words e = absurd (false≢true e)

line-leaves : (letter : List ℕ) (d : Desk) (c : Came) → (after_line letter d c).left ≡ true → free d ≡ true
unfolding after_line
line-leaves letter d c e = leaves_free (free d) (said_in c.line).verb _ e

turn-leaves : {letter : List ℕ} {d e : Desk} → Turn letter d e → e.left ≡ true → free d ≡ true
turn-leaves {letter} {d} (obeys c q) l = line-leaves letter d c (sym (ap (λ (x : Desk). x.left) q) ∙ l)
turn-leaves (passes q) l = absurd (false≢true (sym (ap (λ (x : Desk). x.left) q) ∙ l))
turn-leaves (waits q) l = absurd (false≢true (sym (ap (λ (x : Desk). x.left) q) ∙ l))

-- a desk that a line left was asked about
pub left-asked :
    {kind : Kind} {letter : List ℕ} {s : State} {l : Ledger} {to : Desk} {n : ℕ} → Reached kind letter s l →
    Turns letter (begun s) n to → to.left ≡ true →
    Left letter s l to
left-asked r none_yet e = absurd (false≢true e)
left-asked r (then {n} {d} turns stays turn) e =
    let k = turns-keep r turns in
    record {
      turns = n;
      before = d;
      led = turns;
      turn = turn;
      keeps = k;
      asked = rw (ap (λ (r : Reply). r.unchanged) k.promised.asks) at (turn-leaves turn e);
    }
