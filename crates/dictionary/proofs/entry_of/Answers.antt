-- A bit of a message is answered as the message's own function answers it, and of any other type nothing is listed. Assumes nothing.
use borrow.Author.Tests.{ne_eqb}
use Rattle.dictionary.specs.Dictionary.{entry_of}
use Rattle.dictionary.proofs.entry_of.Goals as goal

pub returns-in_default : goal.returns-in_default
unfolding entry_of
returns-in_default c = search ne_eqb
