use mathlib.Core.Bool.{false≢true}
use borrow.Author.Rules.{rules}
use Rattle.utf7_write.proofs.is_long.Statement.{statement}
use Rattle.utf7_write.proofs.is_long.Tie as tie

enum_told : tie.Need-enum_told-1
enum_told c = search rules

enum-told-2 : tie.Need-enum_told-in-Body
enum-told-2 c = search rules

enum-told-3 : tie.Need-enum_told-in-Name
enum-told-3 c = search rules

returns : tie.Need-returns-in-Header
returns c = λ e. absurd (false≢true e)

returns-2 : tie.Need-returns-in-Body
returns-2 c = λ _. c.in-Body.is

returns-3 : tie.Need-returns-in-Name
returns-3 c = λ e. absurd (false≢true e)

pub is_long_spec : {M : Type 1} → statement M
is_long_spec = tie.close (tie.spec enum_told enum-told-2 enum-told-3 returns returns-2 returns-3)
