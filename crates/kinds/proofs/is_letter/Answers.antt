-- `kinds::is_letter` meets its contract: what `is_within` answers for the capital letters decides, and else its answer for the small ones is returned.
-- Assumes nothing.
use mathlib.Core.Path.{◌≡◌, sym, ◌∙◌}
use mathlib.Core.Bool.{true, false}
use Rattle.kinds.specs.Kinds.{within}
use Rattle.kinds.proofs.is_letter.Goals as goal

pub returns-then-is_within : goal.returns-then-is_within
returns-then-is_within c =
    let capital : within 65 90 c.args.b ≡ true = sym c.is_within.ensures ∙ c.if-is_within.true in
    rw capital

pub returns : goal.returns
returns c =
    let capital : within 65 90 c.args.b ≡ false = sym c.is_within.ensures ∙ c.if-is_within.false in
    rw capital c.is_within-2.ensures
