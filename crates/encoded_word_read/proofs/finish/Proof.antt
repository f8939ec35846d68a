use Rattle.encoded_word.specs.Rule.{ends_in}
use borrow.Author.Rules.{rules}
use Rattle.encoded_word_read.proofs.finish.Statement.{statement}
use Rattle.encoded_word_read.proofs.finish.Tie as tie

enum_told : tie.Need-enum_told-1
enum_told c = search rules

enum-told-2 : tie.Need-enum_told-in-Behind
enum-told-2 c = search rules

enum-told-3 : tie.Need-enum_told-in-Head
enum-told-3 c = search rules

enum-told-4 : tie.Need-enum_told-in-Text
enum-told-4 c = search rules

enum-told-5 : tie.Need-enum_told-in-Equals
enum-told-5 c = search rules

enum-told-6 : tie.Need-enum_told-in-Half
enum-told-6 c = search rules

enum-told-7 : tie.Need-enum_told-in-Tail
enum-told-7 c = search rules

returns : tie.Need-returns-in-Start
unfolding ends_in
returns c = rw c.in-Start.is

returns-2 : tie.Need-returns-in-Behind
unfolding ends_in
returns-2 c = rw c.in-Behind.is

returns-3 : tie.Need-returns-in-Head
unfolding ends_in
returns-3 c = rw c.in-Head.is

returns-4 : tie.Need-returns-in-Text
unfolding ends_in
returns-4 c = rw c.in-Text.is

returns-5 : tie.Need-returns-in-Equals
unfolding ends_in
returns-5 c = rw c.in-Equals.is

returns-6 : tie.Need-returns-in-Half
unfolding ends_in
returns-6 c = rw c.in-Half.is

returns-7 : tie.Need-returns-in-Tail
unfolding ends_in
returns-7 c = rw c.in-Tail.is

pub finish_spec : {M : Type 1} → statement M
finish_spec =
    tie.close
    (tie.spec
    enum_told
    enum-told-2
    enum-told-3
    enum-told-4
    enum-told-5
    enum-told-6
    enum-told-7
    returns
    returns-2
    returns-3
    returns-4
    returns-5
    returns-6
    returns-7)
