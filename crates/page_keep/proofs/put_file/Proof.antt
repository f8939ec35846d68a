use Prim.Native.Nat.{ℕ}
use mathlib.Core.Path.{ap, ◌∙◌}
use mathlib.Core.List.{List, ◌++◌}
use native.Mathlib.Omega.{arith}
use lib.ListN.{length, length-append}
use Rattle.parsing.specs.Digits.{groups}
use Rattle.page_file.specs.File.{line}
use Rattle.page_keep.specs.Inner.{head_of, lists_of, content_by}
use Rattle.page_file.specs.File.{file_of}
use Rattle.page_keep.proofs.Puts.{sets_then, length-groups}
use Rattle.page_keep.proofs.Keeping.{file-is, lists-size, line-size, put_whole}
use borrow.Author.Rules.{rules}
use Rattle.page_keep.proofs.put_file.Statement.{statement}
use Rattle.page_keep.proofs.put_file.Tie as tie

put-head-requires : tie.Need-put_head-head-requires
put-head-requires c κs =
    let a = c.args in
    let p = c.requires in
    omega (
      arith,
      ap length (file-is a.two a.page a.cells.now a.words.now a.arrived.now p.0),
      length-append
          (head_of a.two a.page) (lists_of a.arrived.now a.cells.now a.words.now),
      lists-size a.arrived.now
          a.cells.now a.words.now,
    )

put-arrived-requires : tie.Need-put_arrived-text-requires
put-arrived-requires c κs =
    let a = c.args in
    let p = c.requires in
    omega (
      arith,
      ap length (file-is a.two a.page a.cells.now a.words.now a.arrived.now p.0),
      length-append
          (head_of a.two a.page) (lists_of a.arrived.now a.cells.now a.words.now),
      lists-size a.arrived.now
          a.cells.now a.words.now,
    )

put-words-requires : tie.Need-put_words-history-requires
put-words-requires c κs =
    let a = c.args in
    let p = c.requires in
    omega (
      arith,
      ap length (file-is a.two a.page a.cells.now a.words.now a.arrived.now p.0),
      length-append
          (head_of a.two a.page) (lists_of a.arrived.now a.cells.now a.words.now),
      lists-size a.arrived.now
          a.cells.now a.words.now,
    )

put-words-requires-2 : tie.Need-put_words-requires
put-words-requires-2 c κs =
    let a = c.args in
    let p = c.requires in
    omega (
      arith,
      ap length (file-is a.two a.page a.cells.now a.words.now a.arrived.now p.0),
      length-append
          (head_of a.two a.page) (lists_of a.arrived.now a.cells.now a.words.now),
      lists-size a.arrived.now
          a.cells.now a.words.now,
    )

same_length : tie.Need-shape_of-out
same_length c = search rules

returns : tie.Need-returns
returns c =
    let pre' = c.requires in
    let a = c.args in
    let put-head' = c.put_head-head in
    let put-arrived' = c.put_arrived-text in
    let put-words' = c.put_words-history in
    let put-words2' = c.put_words in
    let h : List ℕ = head_of a.two a.page in
    let l1 : List ℕ = line "arrived" (groups 2 a.arrived.now) in
    let l2 : List ℕ = line "text" (groups 8 a.cells.now) in
    let l3 : List ℕ = line "history" (groups 8 a.words.now) in
    sets_then a.out.now _ _ h (l1 ++ (l2 ++ l3)) 0 put-head'.result put-head'.ensures.1 (omega arith)
    (sets_then put-head'.new.out _ _ l1 (l2 ++ l3) put-head'.result put-arrived'.result
    put-arrived'.ensures.1 (omega (
      arith,
      line-size "arrived" (groups 2 a.arrived.now),
      length-groups 2
          a.arrived.now,
    ))
    (sets_then put-arrived'.new.out _ _ l2 l3 put-arrived'.result put-words'.result
    put-words'.ensures.1 (omega (
      arith,
      line-size "text" (groups 8 a.cells.now),
      length-groups 8
          a.cells.now,
    ))
    put-words2'.ensures.1))
    ∙ rw (← file-is a.two a.page a.cells.now a.words.now a.arrived.now pre'.0)
    (put_whole a.out.now (file_of (content_by a.page a.cells.now a.words.now a.arrived.now))
    pre'.1)

pub put_file_spec : {M : Type 1} → statement M
put_file_spec =
    tie.close
    (tie.spec
    put-head-requires
    put-arrived-requires
    put-words-requires
    put-words-requires-2
    same_length
    returns)
