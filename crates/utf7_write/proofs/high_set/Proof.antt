use mathlib.Core.Path.{refl}
use Rattle.answer.proofs.Below.{all_below}
use Rattle.utf7.specs.Sets.{alphanumeric, set_d, set_o, direct, own}
use Rattle.utf7.specs.declared.Style.TheVariants.{Header, Body, Name}
use Rattle.utf7_write.proofs.Blocks.{own-from}
use borrow.Author.Rules.{rules}
use Rattle.utf7_write.proofs.high_set.Statement.{statement}
use Rattle.utf7_write.proofs.high_set.Tie as tie

enum_told : tie.Need-enum_told-1
enum_told c = search rules

enum-told-2 : tie.Need-enum_told-in-Body
enum-told-2 c = search rules

enum-told-3 : tie.Need-enum_told-in-Name
enum-told-3 c = search rules

returns : tie.Need-returns-in-Header
unfolding own direct set_d set_o alphanumeric all_below
returns c = simp c.in-Header.is (own-from Header 64 _ refl)

returns-2 : tie.Need-returns-in-Body
unfolding own direct set_d set_o alphanumeric all_below
returns-2 c = simp c.in-Body.is (own-from Body 64 _ refl)

returns-3 : tie.Need-returns-in-Name
unfolding own direct set_d set_o alphanumeric all_below
returns-3 c = simp c.in-Name.is (own-from Name 64 _ refl)

pub high_set_spec : {M : Type 1} → statement M
high_set_spec = tie.close (tie.spec enum_told enum-told-2 enum-told-3 returns returns-2 returns-3)
