-- Document 02, order 7: a text is accepted as JP-2 exactly when its lines follow RFC 1554's syntax. Assumes nothing.
use Prim.Native.Nat.{ℕ, ◌≤◌}
use mathlib.Core.Path.{◌≡◌, refl}
use mathlib.Core.List.{List}
use mathlib.Core.Logic.{◌↔◌}
use native.Mathlib.Omega.{arith}
use lib.ListN.{length}
use borrow.Author.Tests.{le-ltb}
use Rattle.answer.specs.Answer.{limit}
use Rattle.answer.specs.Output.{deliver}
use Rattle.reading.specs.Reading.{Ending, accepted, fault, on_ending, reading, read_into}
use Rattle.reading.proofs.Laws.{SoundEnd, good-reading}
use Rattle.reading.proofs.Walk.{no-fault}
use Rattle.jp2.specs.Rule.{jp2}
use Rattle.jp2.proofs.Kept.{jp2-kept}
use Rattle.jp2_grammar.specs.ByGrammar.{AcceptedByGrammar}
use Rattle.jp2_grammar.proofs.Leads.{follows-accepted}
use Rattle.jp2_grammar.proofs.Parsing.{accepted-follows}

-- with room for the cells, a call is accepted just where its reading is
by-ending :
    (e : Ending) (cells out : List ℕ) → SoundEnd e → length cells ≤ length out →
    ((on_ending e cells out).verdict.number ≡ 0) ↔ (e ≡ accepted)
unfolding deliver
by-ending accepted cells out w h = (λ _. refl, λ _. rw (le-ltb (length out) (length cells) h))
by-ending (fault k place) cells out w h = (λ e. absurd (omega arith), λ e. no-fault k place e)

accepted-call :
    (s out : List ℕ) → length s ≤ limit → length (reading jp2 s).cells ≤ length out →
    ((read_into jp2 s out).verdict.number ≡ 0) ↔ ((reading jp2 s).ending ≡ accepted)
unfolding read_into
accepted-call s out fits room =
    rw (le-ltb limit (length s) fits)
    (by-ending (reading jp2 s).ending (reading jp2 s).cells out (good-reading jp2-kept s).1 room)

pub by-grammar : AcceptedByGrammar
by-grammar =
    record {
      of-rule = λ s. (accepted-follows s, follows-accepted s);
      of-call = λ s out fits room.
          let a = accepted-call s out fits room in
          (λ e. accepted-follows s (a.0 e), λ g. a.1 (follows-accepted s g));
    }
