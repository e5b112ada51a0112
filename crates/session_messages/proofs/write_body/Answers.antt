-- `session_messages::write_body` meets its contract: the head, the body, and the room. Assumes nothing.
use Rattle.std.proofs.Common.{◌≡◌, ◌≤◌, ◌<◌, ◌+◌, length, arith, refl, ◌∙◌, lt-ltb, le-ltb}
use Rattle.refusals.specs.OutcomeLaws.{passed, value_of, good}
use Rattle.session_messages.specs.Sessions.{size_of, write_refusal}
use Rattle.session_messages.proofs.Passing.{stops, some, goes, refuses}
use Rattle.session_messages.proofs.Stages.{Held, held, head_is, held_as, write_stages, buffer_kept, buffer_written}
use Rattle.session_messages.proofs.write_body.Goals.{In_ok-size}
use Rattle.session_messages.proofs.write_body.Goals as goal

-- past the body's refusals
holds : (c : In_ok-size) → Held c.args.message c.args.body.now
holds c = held c.args.message c.args.body.now (passed _ _ (held_as c.args.message c.args.body.now (head_is c.args.message c.args.unit c.args.number c.check_head.ensures c.in_ok-kind.was) c.held_size.ensures) c.in_ok-size.was)

size_is : (c : In_ok-size) → c.in_ok-size.size ≡ size_of c.args.message c.args.body.now
size_is c = value_of _ _ (held_as c.args.message c.args.body.now (head_is c.args.message c.args.unit c.args.number c.check_head.ensures c.in_ok-kind.was) c.held_size.ensures) c.in_ok-size.was

pub returns-in_err-kind : goal.returns-in_err-kind
returns-in_err-kind c = (stops _ _ _ _ c.check_head.ensures c.in_err-kind.was c.from_residual.ensures.1 (write_stages c.args.message c.args.unit c.args.number c.args.body.now (length c.args.out.now)), buffer_kept c.args.message c.args.unit c.args.number c.args.body.now c.args.out.now _ refl (some _ _ _ c.check_head.ensures c.in_err-kind.was (write_stages c.args.message c.args.unit c.args.number c.args.body.now (length c.args.out.now))))

pub returns-in_err-size : goal.returns-in_err-size
returns-in_err-size c =
    let s = goes _ _ c.check_head.ensures c.in_ok-kind.was (write_stages c.args.message c.args.unit c.args.number c.args.body.now (length c.args.out.now)) in
    let h = held_as c.args.message c.args.body.now (head_is c.args.message c.args.unit c.args.number c.check_head.ensures c.in_ok-kind.was) c.held_size.ensures in
    (stops _ _ _ _ h c.in_err-size.was c.from_residual-in_err-size.ensures.1 s, buffer_kept c.args.message c.args.unit c.args.number c.args.body.now c.args.out.now _ refl (some _ _ _ h c.in_err-size.was s))

pub overflow_add-size : goal.overflow_add-size
overflow_add-size c = omega (arith, size_is (goal.at.overflow_add-size c).In_ok-size, (holds (goal.at.overflow_add-size c).In_ok-size).most)

pub returns-then-out-size : goal.returns-then-out-size
returns-then-out-size c =
    let s = goes _ _ (held_as c.args.message c.args.body.now (head_is c.args.message c.args.unit c.args.number c.check_head.ensures c.in_ok-kind.was) c.held_size.ensures) c.in_ok-size.was (goes _ _ c.check_head.ensures c.in_ok-kind.was (write_stages c.args.message c.args.unit c.args.number c.args.body.now (length c.args.out.now))) in
    let l : length c.args.out.now < 10 + size_of c.args.message c.args.body.now = omega (arith, size_is (goal.at.returns-then-out-size c).In_ok-size, c.if-out-size.true) in
    let e : write_refusal c.args.message c.args.unit c.args.number c.args.body.now (length c.args.out.now) ≡ 13 = s ∙ rw (lt-ltb _ _ l) refl in
    (refuses _ c.new.ensures (omega arith) e, buffer_kept c.args.message c.args.unit c.args.number c.args.body.now c.args.out.now _ refl (λ z. omega (arith, e, z)))

pub put_session-requires : goal.put_session-requires
put_session-requires c =
    let w = holds (goal.at.put_session-requires c).In_ok-size in
    let v = size_is (goal.at.put_session-requires c).In_ok-size in
    (omega (arith, v, w.most), omega (arith, v, w.inside), c.if-out-size.false)

pub returns : goal.returns
returns c =
    let s = goes _ _ (held_as c.args.message c.args.body.now (head_is c.args.message c.args.unit c.args.number c.check_head.ensures c.in_ok-kind.was) c.held_size.ensures) c.in_ok-size.was (goes _ _ c.check_head.ensures c.in_ok-kind.was (write_stages c.args.message c.args.unit c.args.number c.args.body.now (length c.args.out.now))) in
    let v = size_is (goal.at.returns c).In_ok-size in
    let l : 10 + size_of c.args.message c.args.body.now ≤ length c.args.out.now = omega (arith, v, c.if-out-size.false) in
    let z : write_refusal c.args.message c.args.unit c.args.number c.args.body.now (length c.args.out.now) ≡ 0 = s ∙ rw (le-ltb _ _ l) refl in
    (good _ _ z, buffer_written c.args.message c.args.unit c.args.number c.args.body.now c.args.out.now z c.in_ok-size.size v _ c.put_session.ensures)
