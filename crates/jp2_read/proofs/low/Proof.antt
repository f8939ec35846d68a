use borrow.Author.Rules.{rules}
use Rattle.jp2_read.proofs.low.Statement.{statement}
use Rattle.jp2_read.proofs.low.Tie as tie

enum_told : tie.Need-enum_told-1
enum_told c = search rules

between-requires : tie.Need-between-requires
between-requires c κs = search rules

enum-told-2 : tie.Need-enum_told-in-Return
enum-told-2 c = search rules

between-requires-2 : tie.Need-between-requires-in-Return
between-requires-2 c κs = search rules

enum-known-phase : tie.Need-enum_known-phase
enum-known-phase c = search rules

second-requires : tie.Need-second-requires
second-requires c κs = search rules

enum-told-3 : tie.Need-enum_told-in-Shifted
enum-told-3 c = search rules

shifted-requires : tie.Need-shifted-requires
shifted-requires c κs = search rules

enum-told-4 : tie.Need-enum_told-in-Escape
enum-told-4 c = search rules

slice-aggregate-escape : tie.Need-slice_bounds-escape-end
slice-aggregate-escape c = search rules

escape-requires : tie.Need-escape-requires
escape-requires c κs = search rules

enum-known-phase-2 : tie.Need-enum_known-phase-in-Escape1-1
enum-known-phase-2 c = search rules

slice-aggregate-escape-2 : tie.Need-slice_bounds-escape-end-in-Escape1
slice-aggregate-escape-2 c = search rules

escape-requires-2 : tie.Need-escape-requires-in-Escape1
escape-requires-2 c κs = search rules

enum-known-phase-3 : tie.Need-enum_known-phase-in-Escape2-1
enum-known-phase-3 c = search rules

slice-aggregate-escape-3 : tie.Need-slice_bounds-escape-end-in-Escape2
slice-aggregate-escape-3 c = search rules

escape-requires-3 : tie.Need-escape-requires-in-Escape2
escape-requires-3 c κs = search rules

returns : tie.Need-returns-in-Plain
returns c = rw c.in-Plain.is c.between.ensures

returns-2 : tie.Need-returns-in-Return
returns-2 c = rw c.in-Return.is c.between-in-Return.ensures

returns-3 : tie.Need-returns-in-First
returns-3 c = rw c.in-First.is c.second.ensures

returns-4 : tie.Need-returns-in-Shifted
returns-4 c = rw c.in-Shifted.is c.shifted.ensures

returns-5 : tie.Need-returns-in-Escape
returns-5 c = rw c.in-Escape.is c.escape.ensures

returns-6 : tie.Need-returns-in-Escape1
returns-6 c = rw c.in-Escape1.is c.escape-in-Escape1.ensures

returns-7 : tie.Need-returns-in-Escape2
returns-7 c = rw c.in-Escape2.is c.escape-in-Escape2.ensures

pub low_spec : {M : Type 1} → statement M
low_spec =
    tie.close
    (tie.spec
    enum_told
    between-requires
    enum-told-2
    between-requires-2
    enum-known-phase
    second-requires
    enum-told-3
    shifted-requires
    enum-told-4
    slice-aggregate-escape
    escape-requires
    enum-known-phase-2
    slice-aggregate-escape-2
    escape-requires-2
    enum-known-phase-3
    slice-aggregate-escape-3
    escape-requires-3
    returns
    returns-2
    returns-3
    returns-4
    returns-5
    returns-6
    returns-7)
