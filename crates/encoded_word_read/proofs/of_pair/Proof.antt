use borrow.Author.Rules.{rules}
use Rattle.encoded_word_read.proofs.of_pair.Statement.{statement}
use Rattle.encoded_word_read.proofs.of_pair.Tie as tie

enum-known-m : tie.Need-enum_known-m
enum-known-m c = search rules

enum-known-m-2 : tie.Need-enum_known-m-in-Go-1
enum-known-m-2 c = search rules

enum-known-m-3 : tie.Need-enum_known-m-in-Bad-1
enum-known-m-3 c = search rules

returns : tie.Need-returns-in-Give
returns c = rw c.in-Give.is

returns-2 : tie.Need-returns-in-Go
returns-2 c = rw c.in-Go.is

returns-3 : tie.Need-returns-in-Bad
returns-3 c = rw c.in-Bad.is

pub of_pair_spec : {M : Type 1} → statement M
of_pair_spec =
    tie.close (tie.spec enum-known-m enum-known-m-2 enum-known-m-3 returns returns-2 returns-3)
