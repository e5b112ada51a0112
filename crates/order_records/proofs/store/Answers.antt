-- `order_records::store` meets its contract. Assumes nothing.
use Rattle.order_records.specs.RecordLaws.{store_short, store_whole}
use Rattle.orders.proofs.Refusing.{tells, tells_none}
use mathlib.Core.Path.{◌∙◌}
use native.Mathlib.Omega.{arith}
use Rattle.order_records.proofs.store.Goals as goal

pub returns-then-out-lt-RECORD : goal.returns-then-out-lt-RECORD
returns-then-out-lt-RECORD c =
    let a = c.args in
    let k = store_short a.r a.out.now (omega (arith, c.if-out-lt-RECORD.true)) in
    (tells (c.new.ensures ∙ k.0) (λ z. omega (arith, c.new.ensures, z)), k.1)

pub returns : goal.returns
returns c =
    let a = c.args in
    let k = store_whole a.r a.out.now (omega (arith, c.if-out-lt-RECORD.false)) c.pack.ensures in
    (tells_none k.0, k.1)
