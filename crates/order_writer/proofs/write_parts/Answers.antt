-- `order_writer::write_parts` meets its contract: where nothing is refused by what was seen, the middle is good, so that the message is small. Assumes
-- nothing.
use Rattle.refusals.specs.OutcomeLaws.{passed}
use Rattle.orders.proofs.Refusing.{tells, tells_none, passes_with}
use Rattle.orders.specs.Middle.{middle_size, middle_good}
use Rattle.orders.specs.declared.Record.{Record}
use Rattle.order_writer.specs.Stages.{seen_refusal, record_from}
use Rattle.order_writer.proofs.Held.{middle-held}
use Rattle.order_writer.proofs.Writing.{count_fits, seen-middle, bad_near, wrong_near, seen_stops, room_decides, size_is, total_small, buffer_kept, buffer_written, bytes_are, top_stops}
use Rattle.refusals.specs.Names.{no_room}
use Rattle.numbers.specs.Numbers.{patched}
use Rattle.numbers.specs.NumberLaws.{patched-whole}
use Rattle.block_write.specs.State.{looking, unseen, look_walk}
use Rattle.orders.specs.Shapes.{count_at}
use Rattle.orders.specs.Orders.{write_slots, write_rest, size_of, write_refusal}
use Rattle.orders.proofs.OrderLaws.{middle-fits}
use lib.Dec.{ltb}
use lib.ListN.{length, drop}
use borrow.Author.Tests.{lt-ltb, le-ltb}
use native.Mathlib.Omega.{arith}
use Prim.Native.Nat.{ℕ, ◌+◌, ◌-◌, ◌≤◌}
use mathlib.Core.Bool.{Bool, true, cond}
use mathlib.Core.List.{List}
use mathlib.Core.Path.{◌≡◌, refl, sym, ap, ◌∙◌}
use Rattle.block.specs.Sizes.{all_places, layout_size, most_bitfields}
use Rattle.order_writer.proofs.write_parts.Goals.{After-copy_layout, After-look_all-s}
use Rattle.order_writer.proofs.write_parts.Goals as goal

-- a layout copied over zeros
whole_layout : (v z : List ℕ) → length z ≡ layout_size → length v ≡ layout_size → patched z 0 v ≡ v
whole_layout v z e l = patched-whole z v (e ∙ sym l)

-- past the top
few : (c : After-copy_layout) → c.args.count ≤ most_bitfields
few c = count_fits c.args.message c.args.unit c.args.number c.args.count (passed _ _ c.check_top.ensures c.in_ok-check_top.was)

-- what was looked at is a copy of the layout
looked_at : (c : After-look_all-s) → looking c.look_all-s.result c.look_all-s.new.rest ≡ look_walk c.args.message c.args.count c.args.bits.now all_places 0 (unseen c.args.slots.now)
looked_at c =
    let a = c.args in
    c.look_all-s.ensures ∙ ap (λ (l : List ℕ). look_walk a.message a.count a.bits.now all_places 0 (unseen l)) (c.copy_layout.ensures ∙ whole_layout a.slots.now _ refl c.requires.1)

-- the record of the parts
abbrev made : (c : After-look_all-s) → Record
made c = record_from c.args.message c.args.unit c.args.number c.args.fixed.now c.args.count c.args.bits.now c.args.slots.now

few_bytes : (c : After-look_all-s) → c.look_all-s.result.total ≤ layout_size
few_bytes c = total_small (made c) c.look_all-s.result _ c.requires.1 (looked_at c)

-- where nothing is refused of what was seen, the room decides, and the middle is good
module _ (c : After-look_all-s) (z : seen_refusal c.args.message c.args.count c.args.fixed.now c.args.bits.now c.args.slots.now c.look_all-s.new.rest c.look_all-s.result ≡ 0) where
  decided : write_refusal (made c) (length c.args.out.now) ≡ cond (ltb (length c.args.out.now) (size_of (made c))) no_room 0
  decided = room_decides (made c) c.look_all-s.result _ c.requires.1 (looked_at c) (length c.args.out.now) (passed _ _ c.check_top.ensures c.in_ok-check_top.was) z

  good : middle_good c.args.message c.args.count c.args.bits.now (drop (count_at c.args.message - 10) c.args.fixed.now) ≡ true
  good = seen-middle c.args.message c.args.count c.args.fixed.now c.args.bits.now c.args.slots.now _ c.look_all-s.result z

  -- the size
  module _ (n : ℕ) (e : n ≡ count_at c.args.message + 1 + c.args.count + (middle_size c.args.message c.args.count c.args.bits.now (drop (count_at c.args.message - 10) c.args.fixed.now) + c.look_all-s.result.total)) where
    size : n ≡ size_of (made c)
    size = size_is (made c) c.look_all-s.result _ c.requires.1 (looked_at c) e

    small : n ≤ 2048
    small =
        let few = count_fits c.args.message c.args.unit c.args.number c.args.count (passed _ _ c.check_top.ensures c.in_ok-check_top.was) in
        omega (arith, e, middle-fits c.args.message c.args.count c.args.bits.now (drop (count_at c.args.message - 10) c.args.fixed.now) good, few, few_bytes c)

pub returns-in_err-check_top : goal.returns-in_err-check_top
returns-in_err-check_top c =
    let a = c.args in
    let r = record_from a.message a.unit a.number a.fixed.now a.count a.bits.now a.slots.now in
    passes_with _ c.check_top.ensures c.in_err-check_top.was c.from_residual.ensures.1
    (λ h. let e = top_stops r (length a.out.now) h in (e, buffer_kept r a.out.now e h))

pub look_all-s-requires : goal.look_all-s-requires
look_all-s-requires c =
    let n = few (goal.at.look_all-s-requires c).After-copy_layout in
    (ap length (c.copy_layout.ensures ∙ whole_layout c.args.slots.now _ refl c.requires.1) ∙ c.requires.1, omega (arith, n, c.requires.2), n)

pub check_seen-requires : goal.check_seen-requires
check_seen-requires c =
    let k = (goal.at.check_seen-requires c).After-look_all-s in
    let p = c.requires in
    let near = bad_near (made k) c.look_all-s.result _ p.1 (looked_at k) in
    let close = wrong_near (made k) c.look_all-s.result _ p.1 (looked_at k) in
    let long = c.look_all-s.auto.rest ∙ ap length (c.copy_layout.ensures ∙ whole_layout c.args.slots.now _ refl p.1) ∙ p.1 in
    (p.0, p.2, few (goal.at.check_seen-requires c).After-copy_layout, near, close, p.1, long)

pub returns-in_err-check_seen : goal.returns-in_err-check_seen
returns-in_err-check_seen c =
    let k = (goal.at.returns-in_err-check_seen c).After-look_all-s in
    passes_with _ c.check_seen.ensures c.in_err-check_seen.was c.from_residual-in_err-check_seen.ensures.1
    (λ h.
    let e = seen_stops (made k) c.look_all-s.result _ c.requires.1 (looked_at k) (length c.args.out.now) (passed _ _ c.check_top.ensures c.in_ok-check_top.was) h in
    (e, buffer_kept (made k) c.args.out.now e h))

pub size_of-size-requires : goal.size_of-size-requires
size_of-size-requires c = (c.requires.0, few_bytes (goal.at.size_of-size-requires c).After-look_all-s)

pub returns-then-out-size : goal.returns-then-out-size
returns-then-out-size c =
    let k = (goal.at.returns-then-out-size c).After-look_all-s in
    let z = passed _ _ c.check_seen.ensures c.in_ok-check_seen.was in
    let e : 13 ≡ write_refusal (made k) (length c.args.out.now) =
    sym (decided k z ∙ ap (λ (b : Bool). cond b no_room 0) (lt-ltb (length c.args.out.now) (size_of (made k)) (omega (arith, size k z _ c.size_of-size.ensures, c.if-out-size.true)))) in
    (tells (c.new.ensures ∙ e) (λ y. omega (arith, c.new.ensures, y)), buffer_kept (made k) c.args.out.now e (λ y. omega (arith, y)))

pub put_order-requires : goal.put_order-requires
unfolding size_of write_slots write_rest
put_order-requires c =
    let k = (goal.at.put_order-requires c).After-look_all-s in
    let a = c.args in
    let p = c.requires in
    let z = passed _ _ c.check_seen.ensures c.in_ok-check_seen.was in
    (few (goal.at.put_order-requires c).After-copy_layout, p.0, p.1, p.2, middle-held a.message a.count a.fixed.now a.bits.now p.0 (good k z), size k z _ c.size_of-size.ensures, c.if-out-size.false, small k z _ c.size_of-size.ensures)

pub returns : goal.returns
returns c =
    let k = (goal.at.returns c).After-look_all-s in
    let out = c.args.out.now in
    let s = passed _ _ c.check_seen.ensures c.in_ok-check_seen.was in
    let n = size k s _ c.size_of-size.ensures in
    let z : write_refusal (made k) (length out) ≡ 0 = decided k s ∙ ap (λ (b : Bool). cond b no_room 0) (le-ltb (length out) (size_of (made k)) (omega (arith, n, c.if-out-size.false))) in
    (tells_none (sym z), buffer_written (made k) out z (c.put_order.ensures ∙ ap (patched out 0) (bytes_are (made k) n)))
