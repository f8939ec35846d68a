use borrow.Author.Rules.{rules}
use Rattle.jp2.specs.Rule.{ends_in}
use Rattle.jp2_read.proofs.finish.Statement.{statement}
use Rattle.jp2_read.proofs.finish.Tie as tie

enum_told : tie.Need-enum_told-1
enum_told c = search rules

finish-plain-requires : tie.Need-finish_plain-requires
finish-plain-requires c κs = search rules

enum-told-2 : tie.Need-enum_told-in-Return
enum-told-2 c = search rules

finish-plain-requires-2 : tie.Need-finish_plain-requires-in-Return
finish-plain-requires-2 c κs = search rules

enum-told-3 : tie.Need-enum_told-in-First
enum-told-3 c = search rules

enum-told-4 : tie.Need-enum_told-in-Shifted
enum-told-4 c = search rules

enum-told-5 : tie.Need-enum_told-in-Escape
enum-told-5 c = search rules

enum-told-6 : tie.Need-enum_told-in-Escape1
enum-told-6 c = search rules

enum-told-7 : tie.Need-enum_told-in-Escape2
enum-told-7 c = search rules

returns : tie.Need-returns-in-Plain
unfolding ends_in
returns c = rw c.in-Plain.is c.finish_plain.ensures

returns-2 : tie.Need-returns-in-Return
unfolding ends_in
returns-2 c = rw c.in-Return.is c.finish_plain-in-Return.ensures

returns-3 : tie.Need-returns-in-First
unfolding ends_in
returns-3 c = rw c.in-First.is

returns-4 : tie.Need-returns-in-Shifted
unfolding ends_in
returns-4 c = rw c.in-Shifted.is

returns-5 : tie.Need-returns-in-Escape
unfolding ends_in
returns-5 c = rw c.in-Escape.is

returns-6 : tie.Need-returns-in-Escape1
unfolding ends_in
returns-6 c = rw c.in-Escape1.is

returns-7 : tie.Need-returns-in-Escape2
unfolding ends_in
returns-7 c = rw c.in-Escape2.is

pub finish_spec : {M : Type 1} → statement M
finish_spec =
    tie.close
    (tie.spec
    enum_told
    finish-plain-requires
    enum-told-2
    finish-plain-requires-2
    enum-told-3
    enum-told-4
    enum-told-5
    enum-told-6
    enum-told-7
    returns
    returns-2
    returns-3
    returns-4
    returns-5
    returns-6
    returns-7)
