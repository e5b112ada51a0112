-- `block_write::look_all` meets its contract: without a bitfield byte nothing is looked at, and the message of each arm is the one that its bytes are of.
-- Assumes nothing.
use mathlib.Core.Path.{refl}
use native.Mathlib.Omega.{arith}
use Rattle.block.specs.Walk.{look_entry}
use Rattle.block.specs.Loops.{bytes_end}
use Rattle.block_write.specs.State.{unseen}
use Rattle.block_write.proofs.look_all.Goals as goal

pub returns-then-count-eq0 : goal.returns-then-count-eq0
returns-then-count-eq0 c =
    let a = c.args in
    bytes_end look_entry a.message a.count a.bits.now 0 (unseen a.rest.now) _ (omega arith) refl

pub returns-in-56 : goal.returns-in-56
returns-in-56 c = rw c.in-56.is c.look_new_order.ensures

pub returns-in-57 : goal.returns-in-57
returns-in-57 c = rw c.in-57.is c.look_cancel_order.ensures

pub returns-in-37 : goal.returns-in-37
returns-in-37 c = rw c.in-37.is c.look_acknowledgment.ensures

pub returns-in-44 : goal.returns-in-44
returns-in-44 c = rw c.in-44.is c.look_execution.ensures
