-- `order_records::load` meets its contract. Assumes nothing.
use Rattle.order_records.specs.RecordLaws.{load_short, load_whole}
use Rattle.refusals.specs.Outcomes.{outcome_with}
use Rattle.std.specs.Prelude.{Ok, Err}
use native.Mathlib.Omega.{arith}
use mathlib.Core.Path.{ap}
use Prim.Native.Nat.{ℕ}
use Rattle.orders.specs.declared.Record.{Record}
use Rattle.order_records.proofs.load.Goals as goal

pub returns-then-s-lt-RECORD : goal.returns-then-s-lt-RECORD
unfolding outcome_with
returns-then-s-lt-RECORD c = rw (load_short c.args.s.now (omega (arith, c.if-s-lt-RECORD.true))) (ap (λ (n : ℕ). Err n) c.new.ensures)

pub returns : goal.returns
unfolding outcome_with
returns c = rw (load_whole c.args.s.now (omega (arith, c.if-s-lt-RECORD.false))) (ap (λ (r : Record). Ok r) c.unpack.ensures)
