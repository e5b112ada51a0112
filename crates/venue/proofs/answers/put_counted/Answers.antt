-- `venue::answers::put_counted` meets its contract. Assumes nothing.
use mathlib.Core.Path.{refl, ap, ◌∙◌}
use mathlib.Core.List.{[], ◌∷◌, ◌++◌}
use native.Mathlib.Omega.{arith}
use lib.ListN.{length, length-set}
use Rattle.numbers.specs.Numbers.{bytes_of}
use Rattle.numbers.specs.NumberLaws.{patched-length}
use Rattle.numbers.proofs.Tail.{puts_then, tail_length}
use Rattle.venue.specs.VenueStages.{lists_part}
use Rattle.venue.proofs.LoginLaws.{head_kept, head_put, lists_long}
use Rattle.venue.proofs.answers.put_counted.Goals as goal

pub bounds-tail-5 : goal.bounds-tail-5
bounds-tail-5 c =
    let start = c in
    let a = start.args in
    omega (arith, start.requires, head_kept a.tail.now _ a.flag a.v.received.0 c.write_u32.ensures.1)

pub slice_bounds-put_lists-count : goal.slice_bounds-put_lists-count
slice_bounds-put_lists-count c =
    let start = c in
    let a = start.args in
    simp length-set (omega (arith, start.requires, head_kept a.tail.now _ a.flag a.v.received.0 c.write_u32.ensures.1))

pub slice_bounds-put_lists-start : goal.slice_bounds-put_lists-start
slice_bounds-put_lists-start c =
    let start = c in
    let a = start.args in
    simp length-set (omega (arith, start.requires, head_kept a.tail.now _ a.flag a.v.received.0 c.write_u32.ensures.1))

pub put_lists-requires : goal.put_lists-requires
put_lists-requires c =
    let start = c in
    let a = start.args in
    let p = head_put a.tail.now _ a.flag a.v.received.0 (omega (arith, start.requires)) c.write_u32.ensures.1 in
    let t = tail_length a.tail.now _ (a.flag ∷ (bytes_of 4 a.v.received.0 ++ (32 ∷ []))) (lists_part a.v.table a.groups.now) 6 refl (omega (arith, start.requires, lists_long a.v.table a.groups.now)) p in
    omega (arith, t, start.requires)

pub shape_of-tail : goal.shape_of-tail
shape_of-tail c =
    let start = c in
    let a = start.args in
    let n = lists_long a.v.table a.groups.now in
    let p = head_put a.tail.now _ a.flag a.v.received.0 (omega (arith, start.requires)) c.write_u32.ensures.1 in
    let t = puts_then a.tail.now _ (a.flag ∷ (bytes_of 4 a.v.received.0 ++ (32 ∷ []))) (lists_part a.v.table a.groups.now) 6 refl (omega (arith, start.requires, n)) p c.put_lists.ensures in
    ap length t ∙ patched-length a.tail.now 0 _ (omega (arith, start.requires, n))

pub returns : goal.returns
returns c =
    let start = c in
    let a = start.args in
    let n = lists_long a.v.table a.groups.now in
    let p = head_put a.tail.now _ a.flag a.v.received.0 (omega (arith, start.requires)) c.write_u32.ensures.1 in
    puts_then a.tail.now _ (a.flag ∷ (bytes_of 4 a.v.received.0 ++ (32 ∷ []))) (lists_part a.v.table a.groups.now) 6 refl (omega (arith, start.requires, n)) p c.put_lists.ensures
