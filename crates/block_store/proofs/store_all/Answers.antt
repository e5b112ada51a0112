-- `block_store::store_all` meets its contract: no byte stores nothing, the message of each arm is the one that its bytes are of, and any other goes
-- through the loop. Assumes nothing.
use mathlib.Core.Path.{refl, ap}
use Prim.Native.Nat.{ℕ}
use native.Mathlib.Omega.{arith}
use Rattle.block.specs.Walk.{any_byte, store_entry}
use Rattle.block.specs.Loops.{bytes_end}
use Rattle.block.specs.Fits.{left}
use Rattle.block.specs.Sizes.{all_places}
use Rattle.block_store.specs.State.{storing}
use Rattle.block_store.proofs.store_all.Goals as goal

pub returns-then-count-eq0 : goal.returns-then-count-eq0
returns-then-count-eq0 c =
    let a = c.args in
    bytes_end (any_byte (store_entry a.msg.now)) a.message a.count a.bits.now 0 (storing 0 a.layout.now) _ (omega arith) refl

pub new_order_bytes-requires : goal.new_order_bytes-requires
new_order_bytes-requires c =
    let a = c.args in
    omega (arith, ap (λ (n : ℕ). left n a.count a.bits.now all_places 0) c.in-56.is)

pub cancel_order_bytes-requires : goal.cancel_order_bytes-requires
cancel_order_bytes-requires c =
    let a = c.args in
    omega (arith, ap (λ (n : ℕ). left n a.count a.bits.now all_places 0) c.in-57.is)

pub acknowledgment_bytes-requires : goal.acknowledgment_bytes-requires
acknowledgment_bytes-requires c =
    let a = c.args in
    omega (arith, ap (λ (n : ℕ). left n a.count a.bits.now all_places 0) c.in-37.is)

pub execution_bytes-requires : goal.execution_bytes-requires
execution_bytes-requires c =
    let a = c.args in
    omega (arith, ap (λ (n : ℕ). left n a.count a.bits.now all_places 0) c.in-44.is)

pub returns-in-56 : goal.returns-in-56
returns-in-56 c = rw c.in-56.is c.new_order_bytes.ensures

pub returns-in-57 : goal.returns-in-57
returns-in-57 c = rw c.in-57.is c.cancel_order_bytes.ensures

pub returns-in-37 : goal.returns-in-37
returns-in-37 c = rw c.in-37.is c.acknowledgment_bytes.ensures

pub returns-in-44 : goal.returns-in-44
returns-in-44 c = rw c.in-44.is c.execution_bytes.ensures
