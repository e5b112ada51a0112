-- A bit of this message is answered as its list says: at each arm one of the laws serves. Assumes nothing.
use Rattle.dictionary.proofs.Arms.{arms}
use Rattle.dictionary.proofs.acknowledgment.Goals as goal

pub returns-in-1 : goal.returns-in-1
returns-in-1 c = search arms

pub returns-in-2 : goal.returns-in-2
returns-in-2 c = search arms

pub returns-in-3 : goal.returns-in-3
returns-in-3 c = search arms

pub returns-in-7 : goal.returns-in-7
returns-in-7 c = search arms

pub returns-in_default-bit : goal.returns-in_default-bit
returns-in_default-bit c = search arms

pub returns-in_default : goal.returns-in_default
returns-in_default c = search arms
