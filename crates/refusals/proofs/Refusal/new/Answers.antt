-- `refusals::Refusal::new` meets its contract. Assumes nothing.
use Rattle.refusals.specs.ReasonLaws.{number_is_refusal}
use Rattle.refusals.proofs.Refusal.new.Goals as goal

pub invariant_of-result : goal.invariant_of-result
invariant_of-result c = rw (c.number.ensures) (number_is_refusal c.args.reason)
