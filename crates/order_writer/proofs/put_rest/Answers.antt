-- `order_writer::put_rest` meets its contract. Assumes nothing.
use mathlib.Core.Path.{◌≡◌, sym, ap, ◌∙◌}
use mathlib.Core.List.{List, ◌∷◌}
use Prim.Native.Nat.{ℕ, ◌+◌, ◌-◌, ◌≤◌}
use native.Mathlib.Omega.{arith}
use lib.ListN.{length, take, drop}
use lib.Seq.{length-take-le}
use Rattle.numbers.proofs.Tail.{puts_then, tail_length}
use Rattle.numbers.specs.Numbers.{patched}
use Rattle.orders.specs.Shapes.{count_at}
use Rattle.orders.proofs.OrderLaws.{count_bounds}
use Rattle.order_writer.specs.Stages.{field_bytes, rest_bytes}
use Rattle.order_writer.proofs.Held.{held_low, held-there, held_is_lem}
use Rattle.order_writer.proofs.Puts.{fields-length}
use Rattle.order_writer.proofs.put_rest.Goals.{After-count_at-n, Start}
use Rattle.order_writer.proofs.put_rest.Goals as goal

-- what is put is the same where the middle is taken from a list that is the same
put-held : (message count : ℕ) (bits v out : List ℕ) {held held' ys : List ℕ} → held ≡ held' → ys ≡ patched out 0 (count ∷ field_bytes message count bits held v)
    → ys ≡ patched out 0 (count ∷ field_bytes message count bits held' v)
put-held message count bits v out e q = q ∙ ap (λ (l : List ℕ). patched out 0 (count ∷ field_bytes message count bits l v)) e

-- the fixed part of the message, and all that follows it

-- how long the one is, and room for the other
front_length : (c : After-count_at-n) → length (take (count_at c.args.message - 10) c.args.fixed.now) ≡ c.count_at-n.result - 10
front_length c =
    let start = c in
    let a = start.args in
    length-take-le (count_at a.message - 10) a.fixed.now (omega (arith, start.requires.1, (count_bounds a.message).high)) ∙ ap (λ (i : ℕ). i - 10) (sym c.count_at-n.ensures)

room : (c : After-count_at-n) → c.count_at-n.result - 10 + length (let a = c.args in a.count ∷ field_bytes a.message a.count a.bits.now (drop (count_at a.message - 10) a.fixed.now) a.slots.now) ≤ length c.args.tail.now
room c =
    let start = c in
    let a = start.args in
    let p = start.requires in
    let n = fields-length a.message a.count a.bits.now (drop (count_at a.message - 10) a.fixed.now) a.slots.now p.2 p.4 (omega (arith, p.0, p.3)) in
    omega (arith, p.5, n, c.count_at-n.ensures)

pub overflow_sub-n : goal.overflow_sub-n
overflow_sub-n c =
    let start = c in
    held_low start.args.message start.args.fixed.now start.requires.1 c.count_at-n.ensures

pub slice_bounds-put_count-count : goal.slice_bounds-put_count-count
slice_bounds-put_count-count c =
    let at = c in
    let start = at in
    held-there start.args.message start.args.fixed.now start.requires.1 at.count_at-n.ensures

pub slice_bounds-put_count-start : goal.slice_bounds-put_count-start
slice_bounds-put_count-start c =
    let at = c in
    let start = at in
    omega (arith, held-there start.args.message start.args.fixed.now start.requires.1 at.count_at-n.ensures)

pub put_count-requires : goal.put_count-requires
put_count-requires c =
    let fixed = c in
    let at = fixed in
    let start = at in
    let a = start.args in
    let p = start.requires in
    let e = held_is_lem a.message a.fixed.now p.1 at.count_at-n.ensures in
    let t = tail_length a.tail.now _ (take (count_at start.args.message - 10) start.args.fixed.now) (let a = start.args in a.count ∷ field_bytes a.message a.count a.bits.now (drop (count_at a.message - 10) a.fixed.now) a.slots.now) (at.count_at-n.result - 10) (front_length (goal.at.put_count-requires c).After-count_at-n) (room (goal.at.put_count-requires c).After-count_at-n) fixed.put_fixed.ensures in
    (p.0, p.2, p.3, rw e p.4, rw e (omega (arith, t, p.5, at.count_at-n.ensures, (count_bounds a.message).low)))

pub returns : goal.returns
unfolding rest_bytes
returns c =
    let put = c in
    let fixed = put in
    let at = fixed in
    let start = at in
    let a = start.args in
    let e = held_is_lem a.message a.fixed.now start.requires.1 at.count_at-n.ensures in
    puts_then a.tail.now _ (take (count_at start.args.message - 10) start.args.fixed.now) (let a = start.args in a.count ∷ field_bytes a.message a.count a.bits.now (drop (count_at a.message - 10) a.fixed.now) a.slots.now) (at.count_at-n.result - 10) (front_length (goal.at.returns c).After-count_at-n) (room (goal.at.returns c).After-count_at-n) fixed.put_fixed.ensures (put-held a.message a.count a.bits.now a.slots.now _ e put.put_count.ensures)
