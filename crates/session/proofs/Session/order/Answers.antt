-- `session::Session::order` meets its contract. Assumes nothing.
use Rattle.std.proofs.Common.{refl, arith}
use Rattle.refusals.specs.OutcomeLaws.{passed}
use Rattle.session.specs.Stages.{gate_refusal}
use Rattle.session.proofs.Passing.{passes_answer, accepts_answer}
use Rattle.session.proofs.OrderLaws.{admitted, gate_stops, writer_stops, goes-out}
use Rattle.session.proofs.Session.order.Goals as goal

pub returns-in_err-check_gate : goal.returns-in_err-check_gate
unfolding gate_refusal
returns-in_err-check_gate c =
    let a = c.args in
    passes_answer _ _ c.check_gate.ensures c.in_err-check_gate.was c.from_residual.ensures.1 (gate_stops a.self a.given.now a.out.now)

pub overflow_add-number : goal.overflow_add-number
unfolding gate_refusal
overflow_add-number c =
    let a = c.args in
    let ok = admitted a.self a.given.now (passed _ _ c.check_gate.ensures c.in_ok-check_gate.was) in
    omega (arith, ok.unused, c.struct_known-1.given)

pub write_numbered-requires : goal.write_numbered-requires
unfolding gate_refusal
write_numbered-requires c =
    let a = c.args in
    (admitted a.self a.given.now (passed _ _ c.check_gate.ensures c.in_ok-check_gate.was)).long

pub returns-in_err-write_numbered : goal.returns-in_err-write_numbered
unfolding gate_refusal
returns-in_err-write_numbered c =
    let a = c.args in
    let ok = admitted a.self a.given.now (passed _ _ c.check_gate.ensures c.in_ok-check_gate.was) in
    let wrote = c.write_numbered.ensures in
    passes_answer _ _ wrote.0 c.in_err-write_numbered.was c.from_residual-in_err-write_numbered.ensures.1 (λ z k. writer_stops a.self a.given.now a.out.now ok (z, wrote.1) k)

pub returns : goal.returns
unfolding gate_refusal
returns c =
    let a = c.args in
    let ok = admitted a.self a.given.now (passed _ _ c.check_gate.ensures c.in_ok-check_gate.was) in
    let wrote = c.write_numbered.ensures in
    accepts_answer (goes-out a.self a.given.now a.out.now ok (refl, wrote.1) (passed _ _ wrote.0 c.in_ok-write_numbered.was))
