-- `order_reader::check_head` meets its contract: each arm is the branch of the definition that its type chooses, with the numbers
-- that the definition computes for the type. Assumes nothing.
use Rattle.refusals.specs.Outcomes.{outcome}
use Rattle.orders.proofs.Refusing.{tells}
use native.Mathlib.Omega.{arith}
use Rattle.order_reader.proofs.Heads.{known_under, unknown_under}
use Rattle.orders.specs.Shapes.{count_at, most_of}
use mathlib.Core.Path.{refl, ap, ◌∙◌}
use Rattle.order_reader.proofs.check_head.Goals as goal

pub returns-in-56 : goal.returns-in-56
unfolding count_at most_of
returns-in-56 c =
    let start = c in
    c.check_type.ensures ∙ ap outcome (known_under start.args.m.now start.args.message start.requires 0x38 c.in-56.is refl)

pub returns-in-57 : goal.returns-in-57
unfolding count_at most_of
returns-in-57 c =
    let start = c in
    c.check_type-in-57.ensures ∙ ap outcome (known_under start.args.m.now start.args.message start.requires 0x39 c.in-57.is refl)

pub returns-in-37 : goal.returns-in-37
unfolding count_at most_of
returns-in-37 c =
    let start = c in
    c.check_type-in-37.ensures ∙ ap outcome (known_under start.args.m.now start.args.message start.requires 0x25 c.in-37.is refl)

pub returns-in-44 : goal.returns-in-44
unfolding count_at most_of
returns-in-44 c =
    let start = c in
    c.check_type-in-44.ensures ∙ ap outcome (known_under start.args.m.now start.args.message start.requires 0x2C c.in-44.is refl)

pub returns-in-38 : goal.returns-in-38
unfolding count_at most_of
returns-in-38 c =
    let start = c in
    c.check_type-in-38.ensures ∙ ap outcome (known_under start.args.m.now start.args.message start.requires 0x26 c.in-38.is refl)

pub returns-in-41 : goal.returns-in-41
unfolding count_at most_of
returns-in-41 c =
    let start = c in
    c.check_type-in-41.ensures ∙ ap outcome (known_under start.args.m.now start.args.message start.requires 0x29 c.in-41.is refl)

pub returns-in-43 : goal.returns-in-43
unfolding count_at most_of
returns-in-43 c =
    let start = c in
    c.check_type-in-43.ensures ∙ ap outcome (known_under start.args.m.now start.args.message start.requires 0x2B c.in-43.is refl)

pub returns-in-58 : goal.returns-in-58
unfolding count_at most_of
returns-in-58 c =
    let start = c in
    c.check_type-in-58.ensures ∙ ap outcome (known_under start.args.m.now start.args.message start.requires 0x3A c.in-58.is refl)

pub returns-in-71 : goal.returns-in-71
unfolding count_at most_of
returns-in-71 c =
    let start = c in
    c.check_type-in-71.ensures ∙ ap outcome (known_under start.args.m.now start.args.message start.requires 0x47 c.in-71.is refl)

pub returns-in-184 : goal.returns-in-184
unfolding count_at most_of
returns-in-184 c =
    let start = c in
    c.check_type-in-184.ensures ∙ ap outcome (known_under start.args.m.now start.args.message start.requires 0xB8 c.in-184.is refl)

pub returns-in_default : goal.returns-in_default
returns-in_default c =
    let start = c in
    let o = c.in_default.in_default-own.rest in
    let n = o.0.0.0 in
    tells (c.new.ensures ∙ unknown_under start.args.m.now start.args.message start.requires n.0.0.0.0.0.0.1 n.0.0.0.0.0.1 n.0.0.0.0.1 n.0.0.0.1 n.0.0.1 n.0.1 n.1 o.0.0.1 o.0.1 o.1) (λ z. omega (arith, c.new.ensures, z))
