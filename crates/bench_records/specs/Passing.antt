-- Soundness of a bench by one pass over all records, the other bench's passed over: what the code computes.
-- proofs/Passes.antt: it is order 13's.
use Rattle.std.specs.Prelude.{ℕ, zero, suc, ◌+◌, Bool, false, cond, ◌&&◌, List, [], ◌∷◌, length, drop, leb, ltb, eqb, Option, None, Some}
use Rattle.editor.specs.Records.{Entry, length_after}
use Rattle.ledger.specs.Words.{zeros}
use Rattle.ledger.specs.Parts.{mark_within}
use Rattle.benches.specs.declared.Bench.{Bench}
use Rattle.benches.specs.Words.{Side, same, Record, size_of}
use Rattle.bench_records.specs.declared.Pass.{Pass}

-- what a pass finds: where it stands at the end of the records, or none where they do not fit
abbrev pub Passed : Type 0
Passed = Option Pass

-- an own record more, of so many words, which begins at a word and leads to a length
abbrev pub onward : ℕ → ℕ → Pass → ℕ → ℕ → Pass
onward standing at p after size =
    cond (ltb p.seen standing)
    (record { seen = p.seen + 1; len = after; stood = after; last = at; next = p.next; spare = p.spare })
    (record {
      seen = p.seen + 1;
      len = after;
      stood = p.stood;
      last = p.last;
      next = cond (eqb p.seen standing) at p.next;
      spare = p.spare + size;
    })

module _ (room standing : ℕ) (s : Side) where
  abbrev pub owned : ℕ → Pass → Entry → Pass
  owned at p e = onward standing at p (length_after p.len e) (size_of e)

  -- the records that begin at a word
  unfoldable pub passed : ℕ → Pass → List Record → Passed
  passed at p [] = Some p
  passed at p (r ∷ rs) =
      cond (same s r.bench)
      (cond
      (leb (r.entry.place + length r.entry.removed) p.len && leb (length_after p.len r.entry) room)
      (passed (at + size_of r.entry) (owned at p r.entry) rs)
      None)
      (passed (at + size_of r.entry) p rs)

-- before the first record; where none is undone, the next would begin after the words used
abbrev pub begun : ℕ → ℕ → Pass
begun opening used = record { seen = 0; len = opening; stood = opening; last = 0; next = used; spare = 0 }

-- as many stand as the bench says, they lead to its length, and the mark is at most the number of all
unfoldable pub leads : Bench → Passed → Bool
leads b None = false
leads b (Some p) = leb b.standing p.seen && mark_within p.seen b.saved && eqb p.stood b.length

unfoldable pub pass_sound : Bench → List ℕ → ℕ → Side → List Record → Bool
pass_sound b text used s rs =
    leb b.opening (length text)
    && leb b.length (length text)
    && zeros (drop b.length text)
    && leads b (passed (length text) b.standing s 0 (begun b.opening used) rs)

-- the word where a bench's own record begins, counted from 0
abbrev pub begins : Side → ℕ → List Record → ℕ
begins s n [] = 0
begins s zero (r ∷ rs) = cond (same s r.bench) 0 (size_of r.entry + begins s zero rs)
begins s (suc n) (r ∷ rs) =
    size_of r.entry + cond (same s r.bench) (begins s n rs) (begins s (suc n) rs)
