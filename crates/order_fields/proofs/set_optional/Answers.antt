-- `order_fields::set_optional` meets its contract. Assumes nothing.
use Rattle.order_fields.proofs.Answers.{set_selected, set_unselected}
use Rattle.order_fields.specs.Named.{setting_of}
use Prim.Native.Nat.{ℕ}
use mathlib.Core.List.{List}
use mathlib.Core.Path.{ap, ◌∙◌}
use borrow.Author.Rules.{rules}
use Rattle.order_fields.proofs.set_optional.Goals as goal

pub returns-in-Some : goal.returns-in-Some
returns-in-Some g c =
    let a = c.args in
    set_selected a.message a.byte a.bit _ c.bytes-bytes.result a.r (search rules) c.settable.ensures.0 c.in-Some.is c.with_slot.ensures c.with_selected.ensures
    ∙ ap (λ (l : List ℕ). setting_of a.message a.byte a.bit l a.r) c.bytes-bytes.ensures

pub returns-in-None : goal.returns-in-None
returns-in-None g c =
    let a = c.args in
    set_unselected a.message a.byte a.bit _ c.bytes-bytes.result a.r (search rules) c.settable.ensures.0 c.in-None.is
    ∙ ap (λ (l : List ℕ). setting_of a.message a.byte a.bit l a.r) c.bytes-bytes.ensures
