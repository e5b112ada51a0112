-- A bit of this message is answered as its list says: at each arm one of the laws serves. Assumes nothing.
use Rattle.dictionary.proofs.Arms.{arms}
use Rattle.dictionary.proofs.cancel_order.Goals as goal

pub returns-in-0 : goal.returns-in-0
returns-in-0 c = search arms

pub returns-in_default-bit : goal.returns-in_default-bit
returns-in_default-bit c = search arms

pub returns-in_default : goal.returns-in_default
returns-in_default c = search arms
