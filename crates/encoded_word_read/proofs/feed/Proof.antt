use Rattle.encoded_word.specs.Rule.{part_does}
use Rattle.encoded_word_read.proofs.Texts.{digit-none, digit-some, digit-small}
use borrow.Author.Rules.{rules}
use Rattle.encoded_word_read.proofs.feed.Statement.{statement}
use Rattle.encoded_word_read.proofs.feed.Tie as tie

enum_told : tie.Need-enum_told-1
enum_told c = search rules

must-be-requires : tie.Need-must_be-requires
must-be-requires c κs = search rules

enum-known-p : tie.Need-enum_known-p
enum-known-p c = search rules

in-head-requires : tie.Need-in_head-requires
in-head-requires c κs = search rules

enum-known-p-2 : tie.Need-enum_known-p-in-Text-1
enum-known-p-2 c = search rules

in-text-requires : tie.Need-in_text-requires
in-text-requires c κs = search rules

enum-known-p-3 : tie.Need-enum_known-p-in-Equals-1
enum-known-p-3 c = search rules

digit-value-requires : tie.Need-digit_value-d-requires
digit-value-requires c κs = search rules

returns : tie.Need-returns-then-d-gt15
unfolding part_does
returns c =
    rw (c.in-Equals.is, ← c.digit_value-d.ensures, digit-none _ c.if-d-gt15.true)

enum-known-p-4 : tie.Need-enum_known-p-in-Half-1
enum-known-p-4 c = search rules

in-pair-requires : tie.Need-in_pair-requires
in-pair-requires c κs = search rules

enum-told-2 : tie.Need-enum_told-in-Tail
enum-told-2 c = search rules

must-be-requires-2 : tie.Need-must_be-requires-in-Tail
must-be-requires-2 c κs = search rules

enum-told-3 : tie.Need-enum_told-in-Behind
enum-told-3 c = search rules

must-be-requires-3 : tie.Need-must_be-requires-in-Behind
must-be-requires-3 c κs = search rules

returns-2 : tie.Need-returns-in-Start
unfolding part_does
returns-2 c = rw c.in-Start.is c.must_be.ensures

returns-3 : tie.Need-returns-in-Head
returns-3 c = rw c.in-Head.is c.in_head.ensures

returns-4 : tie.Need-returns-in-Text
unfolding part_does
returns-4 c = rw c.in-Text.is c.in_text.ensures

returns-5 : tie.Need-returns-else-d-gt15
unfolding part_does
returns-5 c =
    rw (c.in-Equals.is, ← c.digit_value-d.ensures, digit-some _ c.if-d-gt15.false, digit-small _ c.if-d-gt15.false)

returns-6 : tie.Need-returns-in-Half
returns-6 c = rw c.in-Half.is c.in_pair.ensures

returns-7 : tie.Need-returns-in-Tail
unfolding part_does
returns-7 c = rw c.in-Tail.is c.must_be-in-Tail.ensures

returns-8 : tie.Need-returns-in-Behind
unfolding part_does
returns-8 c = rw c.in-Behind.is c.must_be-in-Behind.ensures

pub feed_spec : {M : Type 1} → statement M
feed_spec =
    tie.close
    (tie.spec
    enum_told
    must-be-requires
    enum-known-p
    in-head-requires
    enum-known-p-2
    in-text-requires
    enum-known-p-3
    digit-value-requires
    returns
    enum-known-p-4
    in-pair-requires
    enum-told-2
    must-be-requires-2
    enum-told-3
    must-be-requires-3
    returns-2
    returns-3
    returns-4
    returns-5
    returns-6
    returns-7
    returns-8)
