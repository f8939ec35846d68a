use Rattle.utf7.specs.Sets.{own}
use borrow.Author.Rules.{rules}
use Rattle.utf7.proofs.is_own.Statement.{statement}
use Rattle.utf7.proofs.is_own.Tie as tie

enum_told : tie.Need-enum_told-1
enum_told c = search rules

is-header-requires : tie.Need-is_header-requires
is-header-requires c κs = search rules

enum-told-2 : tie.Need-enum_told-in-Body
enum-told-2 c = search rules

is-direct-requires : tie.Need-is_direct-requires
is-direct-requires c κs = search rules

enum-told-3 : tie.Need-enum_told-in-Name
enum-told-3 c = search rules

is-name-requires : tie.Need-is_name-requires
is-name-requires c κs = search rules

returns : tie.Need-returns-in-Header
returns c = simp c.in-Header.is c.is_header.ensures

returns-2 : tie.Need-returns-in-Body
unfolding own
returns-2 c = simp c.in-Body.is c.is_direct.ensures

returns-3 : tie.Need-returns-in-Name
returns-3 c = simp c.in-Name.is c.is_name.ensures

pub is_own_spec : {M : Type 1} → statement M
is_own_spec =
    tie.close
    (tie.spec enum_told is-header-requires enum-told-2 is-direct-requires enum-told-3 is-name-requires returns returns-2 returns-3)
