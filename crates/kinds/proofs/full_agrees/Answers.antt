-- `kinds::full_agrees` meets its contract: in each arm the kind is known, and `every` is asked for it. Assumes nothing.
use Rattle.kinds.proofs.full_agrees.Goals as goal

pub returns-in-OfA : goal.returns-in-OfA
returns-in-OfA c = rw c.in-OfA.is c.every.ensures

pub returns-in-OfN : goal.returns-in-OfN
returns-in-OfN c = rw c.in-OfN.is c.every-in-OfN.ensures

pub returns-in-OfT : goal.returns-in-OfT
returns-in-OfT c = rw c.in-OfT.is c.every-in-OfT.ensures
