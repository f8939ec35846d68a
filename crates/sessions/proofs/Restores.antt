-- A page that a ledger determines is kept, wherever there is room; and an accepted reading of its file gives the page
-- that the ledger determines in the lent buffers, and the bytes opened on. Assumes nothing.
use Prim.Native.Nat.{ℕ, ◌≤◌}
use mathlib.Core.Path.{◌≡◌, refl, sym, ap, ◌∙◌, subst}
use mathlib.Core.Bool.{true}
use mathlib.Core.List.{List, reverse_aux}
use native.Mathlib.Omega.{arith}
use lib.ListN.{length, take}
use borrow.Author.Tests.{le-ltb}
use Rattle.answer.specs.Answer.{limit}
use Rattle.answer.specs.Output.{deliver}
use Rattle.editor.specs.Ledger.{Step, Ledger}
use Rattle.editor.specs.Layout.{taken}
use Rattle.editor.proofs.Steps.{records_of, records-in-order}
use Rattle.editor.proofs.Ends.{entries}
use Rattle.editor.proofs.Held.{Frame, editor_of, Good, legal-of}
use Rattle.editor.proofs.Promises.{Kept}
use Rattle.ledger.specs.Words.{Parted, in_words}
use Rattle.ledger.specs.Page.{State}
use Rattle.ledger.proofs.Words.{Whole, words, take-pad, length-pad}
use Rattle.ledger.proofs.Sound.{Sound, records-sound}
use Rattle.ledger.proofs.Lying.{page-lays}
use Rattle.parsing.specs.Parsing as parsing
use Rattle.page_file.specs.File.{Content, file_of}
use Rattle.page_file.specs.Reading.{parse}
use Rattle.page_file.specs.Calls.{content_of, keep_parted, keep_of, state_from, given, read_parted, read_fitting}
use Rattle.page_file.specs.Calls.{read_parsed, read_of}
use Rattle.page_file.proofs.Laws.{file-reads}
use Rattle.page_file.proofs.Calls.{accepts}
use Rattle.page_file.proofs.Again.{frame-of}
use Rattle.sessions.specs.Demand.{RoomFor, file_for}
use Rattle.sessions.proofs.Cells.{Words}
use Rattle.sessions.proofs.Rooms.{same-words, refits, fits_more}
use Rattle.sessions.proofs.Contents.{kept, kept-is, in-form, belongs-here, found_here}

-- the same frame in another text buffer
abbrev in_room : {arrived : List ℕ} → Frame arrived → ℕ → Frame arrived
in_room o room = record { kind = o.kind; reading = o.reading; room = room; mark = o.mark }

module _ {bytes : List ℕ} {s : State} {l : Ledger} (k : Kept page-lays bytes s l) where
  abbrev steps : List Step
  steps = reverse_aux k.back k.undone

  abbrev all : List ℕ
  all = words (entries (editor_of k.frame k.back k.undone))

  pub keep-accepted : (out : List ℕ) → keep_of s bytes out ≡ deliver (file_for s bytes) out
  unfolding keep_of keep_parted
  keep-accepted out =
      let v = found_here k in
      rw (
        le-ltb limit (length bytes) k.good.few,
        page-lays.short k.lies,
        v.1,
        v.2,
        kept-is k,
        belongs-here k,
      )

  module _ (arrived text history : List ℕ) where
    abbrev there : State
    there = state_from arrived text history (kept k)

    abbrev o' : Frame bytes
    o' = in_room k.frame (length text)

    -- the page in the lent buffers
    abbrev kept_there :
        Good o' in_words steps → length all ≤ length history → length text ≤ limit → length history ≤ limit →
        Kept page-lays bytes there l
    kept_there good few t h =
        record {
          frame = o';
          back = k.back;
          undone = k.undone;
          ledger = k.ledger;
          lies =
              record {
                space = length history;
                state = refl;
                few = few;
                small-text = t;
                small-history = h;
                legal = legal-of in_words o' k.back k.undone good;
              };
          good = good;
        }

    -- sound there, the steps fit there
    good-there : length (kept k).text ≤ length text → (v : Parted) → Sound there v → Good o' in_words steps
    good-there t v h =
        let long : length there.text ≡ length text = length-pad (length text) (kept k).text t in
        let same : reverse_aux v.standing v.undone ≡ records_of k.frame.reading steps =
        same-words _ _ (h.tiles ∙ take-pad (length history) all)
        ∙ sym (records-in-order k.frame.reading k.back k.undone) in
        let opens : length k.frame.reading ≤ length there.text = (frame-of there h.frame).opening in
        record {
          fits =
              refits k.frame.room (length text) k.frame.reading steps k.good.fits (omega arith)
              (rw (long, same) at h.fits);
          few = k.good.few;
          reads = k.good.reads;
          marked = k.good.marked;
        }

    module _ (w : Words l) where
      parsed-is : (c : Content) → parse (file_for s bytes) ≡ parsing.whole c → c ≡ kept k
      parsed-is c e =
          let f : parse (file_for s bytes) ≡ parsing.whole (kept k) =
          ap (λ (c : Content). parse (file_of c)) (kept-is k) ∙ file-reads (kept k) (in-form k w) in
          whole_is (sym e ∙ f)
        where
          whole_is : {a b : Content} → parsing.whole a ≡ parsing.whole b → a ≡ b
          whole_is e = cc

      pub restore-kept :
          taken (read_of arrived text history (file_for s bytes)) ≡ true →
          Kept page-lays bytes (read_of arrived text history (file_for s bytes)).state l
          × (take (read_of arrived text history (file_for s bytes)).verdict.place
          (read_of arrived text history (file_for s bytes)).output
          ≡ bytes)
      restore-kept ok =
          let a = accepts arrived text history (file_for s bytes) ok in
          let c : a.content ≡ kept k = parsed-is a.content a.parsed in
          let t : length (kept k).text ≤ length text = rw c at a.text-room in
          let h : length all ≤ length history = rw c at a.history-room in
          let sound : Sound there a.parted =
          subst (Whole (Sound there)) (rw c at a.sound) (records-sound there) in
          rw (a.outcome, c) (
            kept_there (good-there t a.parted sound) h a.text-few a.history-few,
            take-pad (length arrived) bytes,
          )

      pub restore-accepted :
          RoomFor s bytes arrived text history →
          read_of arrived text history (file_for s bytes) ≡ given arrived text history (content_of s bytes)
      unfolding read_of read_parsed read_fitting read_parted
      restore-accepted room =
          let legal = k.lies.legal in
          let wide : length s.text ≡ k.frame.room =
          ap (λ (s : State). length s.text) k.lies.state
          ∙ length-pad k.frame.room (kept k).text legal.room in
          let space : length s.history ≡ k.lies.space =
          ap (λ (s : State). length s.history) k.lies.state ∙ length-pad k.lies.space all k.lies.few in
          let more : k.frame.room ≤ length text = omega (arith, room.for-text.0) in
          let good : Good o' in_words steps =
          record {
            fits = fits_more k.frame.room (length text) more k.frame.reading steps k.good.fits;
            few = k.good.few;
            reads = k.good.reads;
            marked = k.good.marked;
          } in
          let few : length all ≤ length history = omega (arith, k.lies.few, room.for-history.0) in
          let k' : Kept page-lays bytes there l = kept_there good few room.for-text.1 room.for-history.1 in
          let v = found_here k' in
          subst (λ (c : Content). read_of arrived text history (file_of c) ≡ given arrived text history c)
          (sym (kept-is k))
          (rw (
            le-ltb limit (length arrived) room.for-arrived.1,
            le-ltb limit (length text) room.for-text.1,
            le-ltb limit (length history) room.for-history.1,
            file-reads (kept k) (in-form k w),
            le-ltb (length arrived) (length bytes) room.for-arrived.0,
            le-ltb (length text) (length (kept k).text) (omega (arith, legal.room)),
            le-ltb (length history) (length all) few,
            v.1,
            v.2,
            belongs-here k',
          ))
