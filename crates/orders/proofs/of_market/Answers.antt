-- `orders::of_market` meets its contract: the market's New Order first, then the types that both markets have. Assumes nothing.
use mathlib.Core.Path.{sym, ◌∙◌}
use borrow.Author.Tests.{eq-eqb, ne_eqb}
use Rattle.orders.proofs.of_market.Goals as goal

pub returns-then-message-new_order_of : goal.returns-then-message-new_order_of
returns-then-message-new_order_of c = rw (eq-eqb _ _ (c.if-message-new_order_of.true ∙ c.new_order_of.ensures))

pub returns-in-57 : goal.returns-in-57
returns-in-57 c =
    let other = ne_eqb _ _ (λ e. c.if-message-new_order_of.false (e ∙ sym c.new_order_of.ensures)) in
    rw (other, eq-eqb _ _ c.in-57.is)

pub returns-in-58 : goal.returns-in-58
returns-in-58 c =
    let other = ne_eqb _ _ (λ e. c.if-message-new_order_of.false (e ∙ sym c.new_order_of.ensures)) in
    rw (other, c.in-58.is)

pub returns-in-71 : goal.returns-in-71
returns-in-71 c =
    let other = ne_eqb _ _ (λ e. c.if-message-new_order_of.false (e ∙ sym c.new_order_of.ensures)) in
    rw (other, c.in-71.is)

pub returns-in_default : goal.returns-in_default
returns-in_default c =
    let other = ne_eqb _ _ (λ e. c.if-message-new_order_of.false (e ∙ sym c.new_order_of.ensures)) in
    rw (other, ne_eqb _ _ c.in_default.in_default-own.rest.1, ne_eqb _ _ c.in_default.in_default-own.rest.0.1, ne_eqb _ _ c.in_default.in_default-own.rest.0.0.1)
