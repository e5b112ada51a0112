-- `order_records::put_head` meets its contract. Assumes nothing.
use Rattle.numbers.specs.Numbers.{bytes_of}
use Rattle.order_records.specs.RecordLaws.{head_put}
use mathlib.Core.Path.{ap, ◌∙◌}
use mathlib.Core.List.{◌∷◌}
use Rattle.numbers.specs.NumberLaws.{patched-length}
use lib.ListN.{length, length-set}
use native.Mathlib.Omega.{arith}
use Rattle.order_records.proofs.put_head.Goals as goal

pub bounds-out-1 : goal.bounds-out-1
bounds-out-1 c = simp length-set (omega (arith, c.requires))

pub shape_of-out : goal.shape_of-out
shape_of-out c =
    let start = c in
    let a = start.args in
    ap length (head_put a.out.now _ a.message a.unit a.number start.requires c.write_u32.ensures.1)
    ∙ patched-length a.out.now 0 (a.message ∷ a.unit ∷ bytes_of 4 a.number) (omega (arith, start.requires))

pub returns : goal.returns
returns c =
    let start = c in
    let a = start.args in
    head_put a.out.now _ a.message a.unit a.number start.requires c.write_u32.ensures.1
