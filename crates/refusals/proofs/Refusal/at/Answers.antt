-- `refusals::Refusal::at` meets its contract. Assumes nothing.
use Rattle.refusals.specs.ReasonLaws.{told_is_refusal}
use Rattle.refusals.proofs.Refusal.at.Goals as goal

pub invariant_of-result : goal.invariant_of-result
invariant_of-result c = rw (c.told.ensures, c.number.ensures) (told_is_refusal c.args.reason c.args.place c.requires)
