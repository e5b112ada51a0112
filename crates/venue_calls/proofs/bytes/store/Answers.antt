-- `venue_calls::bytes::store` meets its contract: the front as a book, what the login wants, and two bytes. Assumes nothing.
use native.Mathlib.Omega.{arith}
use mathlib.Core.Path.{◌∙◌}
use lib.ListN.{length-set}
use Rattle.venue_calls.proofs.VenueBytesLaws.{venue_put}
use Rattle.venue_calls.proofs.bytes.store.Goals as goal

pub bounds-state-401 : goal.bounds-state-401
bounds-state-401 c = simp length-set (omega arith)

pub shape_of-state : goal.shape_of-state
shape_of-state c =
    let wants = c in
    let front = wants in
    simp length-set (wants.store_thresholds.auto.state ∙ front.store.auto.state)

pub returns : goal.returns
returns c =
    let wants = c in
    let front = wants in
    let start = front in
    venue_put start.args.v start.args.state.now _ _ start.requires front.store.ensures wants.store_thresholds.ensures
