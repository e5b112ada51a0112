-- A bit of this message is answered as its list says: at each arm one of the laws serves. Assumes nothing.
use Rattle.dictionary.proofs.Arms.{arms}
use Rattle.dictionary.proofs.new_order.Goals as goal

pub returns-in-0 : goal.returns-in-0
returns-in-0 c = search arms

pub returns-in-1-bit : goal.returns-in-1-bit
returns-in-1-bit c = search arms

pub returns-in-2-bit : goal.returns-in-2-bit
returns-in-2-bit c = search arms

pub returns-in-3-bit : goal.returns-in-3-bit
returns-in-3-bit c = search arms

pub returns-in-4 : goal.returns-in-4
returns-in-4 c = search arms

pub returns-in-5 : goal.returns-in-5
returns-in-5 c = search arms

pub returns-in-6-bit : goal.returns-in-6-bit
returns-in-6-bit c = search arms

pub returns-in-7 : goal.returns-in-7
returns-in-7 c = search arms

pub returns-in_default-bit : goal.returns-in_default-bit
returns-in_default-bit c = search arms

pub returns-in-0-bit : goal.returns-in-0-bit
returns-in-0-bit c = search arms

pub returns-in-1-bit-2 : goal.returns-in-1-bit-2
returns-in-1-bit-2 c = search arms

pub returns-in-6-bit-2 : goal.returns-in-6-bit-2
returns-in-6-bit-2 c = search arms

pub returns-in-7-bit : goal.returns-in-7-bit
returns-in-7-bit c = search arms

pub returns-in_default-bit-2 : goal.returns-in_default-bit-2
returns-in_default-bit-2 c = search arms

pub returns-in-0-bit-2 : goal.returns-in-0-bit-2
returns-in-0-bit-2 c = search arms

pub returns-in-6-bit-3 : goal.returns-in-6-bit-3
returns-in-6-bit-3 c = search arms

pub returns-in-7-bit-2 : goal.returns-in-7-bit-2
returns-in-7-bit-2 c = search arms

pub returns-in_default-bit-3 : goal.returns-in_default-bit-3
returns-in_default-bit-3 c = search arms

pub returns-in-0-bit-3 : goal.returns-in-0-bit-3
returns-in-0-bit-3 c = search arms

pub returns-in-1-bit-3 : goal.returns-in-1-bit-3
returns-in-1-bit-3 c = search arms

pub returns-in-4-bit : goal.returns-in-4-bit
returns-in-4-bit c = search arms

pub returns-in-5-bit : goal.returns-in-5-bit
returns-in-5-bit c = search arms

pub returns-in_default-bit-4 : goal.returns-in_default-bit-4
returns-in_default-bit-4 c = search arms

pub returns-in-1-bit-4 : goal.returns-in-1-bit-4
returns-in-1-bit-4 c = search arms

pub returns-in_default-bit-5 : goal.returns-in_default-bit-5
returns-in_default-bit-5 c = search arms

pub returns-in_default : goal.returns-in_default
returns-in_default c = search arms
