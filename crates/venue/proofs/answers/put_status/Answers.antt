-- `venue::answers::put_status` meets its contract. Assumes nothing.
use mathlib.Core.Path.{ap, ◌∙◌}
use Rattle.numbers.specs.Numbers.{patched}
use Rattle.venue.proofs.answers.put_status.Goals as goal

pub returns : goal.returns
unfolding patched
returns c = c.copy-2.ensures ∙ ap (patched c.args.tail.now 0) c.copy.ensures
