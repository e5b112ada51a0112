-- `session_calls::order` meets its contract. Assumes nothing.
use Rattle.std.proofs.Common.{ℕ, ◌+◌, refl, sym, ap, ◌∙◌, length, arith}
use Rattle.refusals.specs.OutcomeLaws.{passed}
use Rattle.orders.specs.Orders.{write_refusal, write_buffer}
use Rattle.book_calls.proofs.Passing.{passes_on_two, refuses_with_two, accepts_with_two}
use Rattle.session.specs.Sessions.{numbered, order_of}
use Rattle.session.proofs.OrderLaws.{admitted, gate_stops, writer_stops, goes-out}
use Rattle.session_calls.specs.SessionBytes.{session_of}
use Rattle.session_calls.proofs.SessionBytesLaws.{short-called, short_back, short-kept, long_back, long_leaves, leaves_refused, leaves_stored, gate_is, sent-there}
use Rattle.session_calls.proofs.order.Goals as goal

pub returns-then-state-lt278 : goal.returns-then-state-lt278
returns-then-state-lt278 c =
    let s = c.args.state.now in
    let h = c.if-state-lt278.true in
    refuses_with_two _ c.new.ensures (omega arith) (short-called s h _, short_back s h _ _, short-kept s h _ _)

pub returns-in_err-check_gate : goal.returns-in_err-check_gate
returns-in_err-check_gate c =
    let a = c.args in
    let s = a.state.now in
    let p = c.phase_in-phase.ensures in
    let n = c.outgoing_in-outgoing.ensures in
    let m = c.market_in-market.ensures in
    let h = c.if-state-lt278.false in
    passes_on_two _ _ _ c.check_gate.ensures c.in_err-check_gate.was c.from_residual.ensures.1 (λ z k.
    (let b = gate_stops (session_of s) a.given.now a.out.now (gate_is (session_of s) a.given.now p n m z) k in
    let l = long_leaves s h (order_of (session_of s) a.given.now (length a.out.now)) (leaves_refused s (session_of s) k b.0) in
    (l.0, b.1 ∙ long_back s h _ _, l.1)))

pub overflow_add-next : goal.overflow_add-next
overflow_add-next c =
    let a = c.args in
    let s = a.state.now in
    let p = c.phase_in-phase.ensures in
    let n = c.outgoing_in-outgoing.ensures in
    let m = c.market_in-market.ensures in
    let ok = admitted (session_of s) a.given.now (sym (gate_is (session_of s) a.given.now p n m refl) ∙ passed _ _ c.check_gate.ensures c.in_ok-check_gate.was) in
    omega (arith, ok.unused, n, c.struct_known-1.given)

pub write_numbered-requires : goal.write_numbered-requires
write_numbered-requires c =
    let a = c.args in
    let s = a.state.now in
    let p = c.phase_in-phase.ensures in
    let n = c.outgoing_in-outgoing.ensures in
    let m = c.market_in-market.ensures in
    let ok = admitted (session_of s) a.given.now (sym (gate_is (session_of s) a.given.now p n m refl) ∙ passed _ _ c.check_gate.ensures c.in_ok-check_gate.was) in
    ok.long

pub returns-in_err-write_numbered : goal.returns-in_err-write_numbered
returns-in_err-write_numbered c =
    let a = c.args in
    let s = a.state.now in
    let p = c.phase_in-phase.ensures in
    let n = c.outgoing_in-outgoing.ensures in
    let m = c.market_in-market.ensures in
    let ok = admitted (session_of s) a.given.now (sym (gate_is (session_of s) a.given.now p n m refl) ∙ passed _ _ c.check_gate.ensures c.in_ok-check_gate.was) in
    let h = c.if-state-lt278.false in
    let wrote = c.write_numbered.ensures in
    let e = ap (λ (x : ℕ). x + 1) n in
    passes_on_two _ _ _ wrote.0 c.in_err-write_numbered.was c.from_residual-in_err-write_numbered.ensures.1 (λ z k.
    (let b =
    writer_stops (session_of s) a.given.now a.out.now ok
    (z ∙ ap (λ (x : ℕ). write_refusal (numbered a.given.now x) (length a.out.now)) e, wrote.1 ∙ ap (λ (x : ℕ). write_buffer (numbered a.given.now x) a.out.now) e) k in
    let l = long_leaves s h (order_of (session_of s) a.given.now (length a.out.now)) (leaves_refused s (session_of s) k b.0) in
    (l.0, b.1 ∙ long_back s h _ _, l.1)))

pub returns : goal.returns
returns c =
    let a = c.args in
    let s = a.state.now in
    let p = c.phase_in-phase.ensures in
    let n = c.outgoing_in-outgoing.ensures in
    let m = c.market_in-market.ensures in
    let ok = admitted (session_of s) a.given.now (sym (gate_is (session_of s) a.given.now p n m refl) ∙ passed _ _ c.check_gate.ensures c.in_ok-check_gate.was) in
    let h = c.if-state-lt278.false in
    let wrote = c.write_numbered.ensures in
    let e = ap (λ (x : ℕ). x + 1) n in
    let b =
    goes-out (session_of s) a.given.now a.out.now ok
    (ap (λ (x : ℕ). write_refusal (numbered a.given.now x) (length a.out.now)) e, wrote.1 ∙ ap (λ (x : ℕ). write_buffer (numbered a.given.now x) a.out.now) e)
    (passed _ _ wrote.0 c.in_ok-write_numbered.was) in
    let q = sent-there s (λ i. omega (arith, c.slice_known-2-1.given i)) h p e m c.put.ensures in
    let l = long_leaves s h (order_of (session_of s) a.given.now (length a.out.now)) (leaves_stored s _ q b.0) in
    accepts_with_two _ (l.0, b.1 ∙ long_back s h _ _, l.1)
