use borrow.Author.Rules.{rules}
use lib.Seq.{take_all}
use Rattle.commands.proofs.Words.{same-pointwise}
use Rattle.commands.proofs.is_word.Goals as goal

-- of a part of the word too, where that is all of it: word_begun falls for what it takes, and not for its form
pub returns : goal.returns
returns c = search (rules, same-pointwise, take_all)
