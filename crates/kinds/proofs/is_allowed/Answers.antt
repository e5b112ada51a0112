-- `kinds::is_allowed` meets its contract: in each arm the kind is known, and the definition is what the function called there ensures.
-- Assumes nothing.
use mathlib.Core.Path.{◌≡◌, sym, ◌∙◌}
use mathlib.Core.Bool.{true, false}
use Rattle.kinds.specs.Kinds.{digit}
use Rattle.kinds.proofs.is_allowed.Goals as goal

pub returns-then-is_within : goal.returns-then-is_within
returns-then-is_within c =
    let number : digit c.args.b ≡ true = sym c.is_within.ensures ∙ c.if-is_within.true in
    rw (c.in-Alphanumeric.is, number)

pub returns-in-Letters : goal.returns-in-Letters
returns-in-Letters c = rw c.in-Letters.is c.is_letter.ensures

pub returns-else-is_within : goal.returns-else-is_within
returns-else-is_within c =
    let number : digit c.args.b ≡ false = sym c.is_within.ensures ∙ c.if-is_within.false in
    rw (c.in-Alphanumeric.is, number) c.is_letter-in-Alphanumeric.ensures

pub returns-in-Text : goal.returns-in-Text
returns-in-Text c = rw c.in-Text.is c.is_within-in-Text.ensures

pub returns-in-Identifier : goal.returns-in-Identifier
returns-in-Identifier c = rw c.in-Identifier.is c.is_identifier.ensures

pub returns-in-FilledText : goal.returns-in-FilledText
returns-in-FilledText c = rw c.in-FilledText.is c.is_within-in-FilledText.ensures
