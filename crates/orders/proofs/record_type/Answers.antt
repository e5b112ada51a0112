-- `orders::record_type` meets its contract: in each arm the market is known. Assumes nothing.
use Rattle.orders.proofs.record_type.Goals as goal

pub returns-in-Options : goal.returns-in-Options
returns-in-Options c = rw c.in-Options.is c.options_type.ensures
