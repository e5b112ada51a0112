-- `session_calls::receive` meets its contract. Assumes nothing.
use Rattle.std.proofs.Common.{ℕ, refl, sym, ap, ◌∙◌, length, arith}
use Rattle.refusals.specs.OutcomeLaws.{passed}
use Rattle.wire.specs.Frame.{framed}
use Rattle.session.specs.Sessions.{is_closed, told_of, receive_of}
use Rattle.session.proofs.SessionLaws.{deaf, unreadable}
use Rattle.session_calls.specs.Judged.{type_in-bytes, unframed, judged-framed}
use Rattle.session_calls.specs.SessionBytes.{session_of, told_number}
use Rattle.session_calls.proofs.Passing.{passes_on_three, refuses_with_three, accepts_with_three}
use Rattle.session_calls.proofs.SessionBytesLaws.{short-called, short_back, short-kept, long_back, long_leaves, leaves_refused, told-kept, told-put, told_is}
use Rattle.session_calls.proofs.receive.Goals as goal

pub returns-then-state-lt278 : goal.returns-then-state-lt278
returns-then-state-lt278 c =
    let s = c.args.state.now in
    let h = c.if-state-lt278.true in
    refuses_with_three _ c.new.ensures (omega arith) (short-called s h _, told-kept _ _ _ (λ z. omega (arith, short-called s h _ ∙ z)), short_back s h _ _, short-kept s h _ _)

pub returns-then-is_closed : goal.returns-then-is_closed
returns-then-is_closed c =
    let a = c.args in
    let s = a.state.now in
    let xs = a.buffer.now in
    let bs = a.bytes.now in
    let h = c.if-state-lt278.false in
    let e = sym (ap is_closed c.phase_in-phase.ensures) ∙ sym c.is_closed.ensures ∙ c.if-is_closed.true in
    let w = deaf (session_of s) xs bs e in
    let l = long_leaves s h (receive_of (session_of s) (length xs) bs) (leaves_refused s (session_of s) (λ z. omega (arith, z)) w.0) in
    refuses_with_three _ c.new-then-is_closed.ensures (omega arith) (l.0, told-kept _ _ _ (λ z. omega (arith, l.0 ∙ z)), w.1 ∙ long_back s h _ _, l.1)

pub returns-in_err-check_frame : goal.returns-in_err-check_frame
returns-in_err-check_frame c =
    let a = c.args in
    let s = a.state.now in
    let xs = a.buffer.now in
    let bs = a.bytes.now in
    let h = c.if-state-lt278.false in
    let e = sym (ap is_closed c.phase_in-phase.ensures) ∙ sym c.is_closed.ensures ∙ c.if-is_closed.false in
    passes_on_three _ _ _ c.check_frame.ensures c.in_err-check_frame.was c.from_residual.ensures.1 (λ q k.
    (let w = unreadable (session_of s) xs bs e (unframed bs q k) k in
    let l = long_leaves s h (receive_of (session_of s) (length xs) bs) (leaves_refused s (session_of s) k w.0) in
    (l.0, told-kept _ _ _ (λ z. k (l.0 ∙ z)), w.1 ∙ long_back s h _ _, l.1)))

pub returns-in_err-check_whole : goal.returns-in_err-check_whole
returns-in_err-check_whole c =
    let a = c.args in
    let s = a.state.now in
    let xs = a.buffer.now in
    let bs = a.bytes.now in
    let h = c.if-state-lt278.false in
    let e = sym (ap is_closed c.phase_in-phase.ensures) ∙ sym c.is_closed.ensures ∙ c.if-is_closed.false in
    let j = judged-framed bs (passed _ _ c.check_frame.ensures c.in_ok-check_frame.was) c.frame-m.ensures refl in
    passes_on_three _ _ _ c.check_whole.ensures c.in_err-check_whole.was c.from_residual-in_err-check_whole.ensures.1 (λ q k.
    (let w = unreadable (session_of s) xs bs e (q ∙ j) k in
    let l = long_leaves s h (receive_of (session_of s) (length xs) bs) (leaves_refused s (session_of s) k w.0) in
    (l.0, told-kept _ _ _ (λ z. k (l.0 ∙ z)), w.1 ∙ long_back s h _ _, l.1)))

pub take-requires : goal.take-requires
take-requires c = (
  c.if-state-lt278.false,
  c.phase_in-phase.ensures,
  sym c.is_closed.ensures ∙ c.if-is_closed.false,
  sym (judged-framed c.args.bytes.now (passed _ _ c.check_frame.ensures c.in_ok-check_frame.was) c.frame-m.ensures refl) ∙ passed _ _ c.check_whole.ensures c.in_ok-check_whole.was,
  c.frame-m.ensures,
)

pub returns-in_err-take : goal.returns-in_err-take
returns-in_err-take c =
    let a = c.args in
    let s = a.state.now in
    let xs = a.buffer.now in
    let bs = a.bytes.now in
    let h = c.if-state-lt278.false in
    let w = c.take.ensures in
    passes_on_three _ _ _ w.0 c.in_err-take.was c.from_residual-in_err-take.ensures.1 (λ q k.
    (let l = long_leaves s h (receive_of (session_of s) (length xs) bs) (q, w.2) in
    (l.0, told-kept _ _ _ (λ z. k (l.0 ∙ z)), w.1 ∙ long_back s h _ _, l.1)))

pub returns : goal.returns
returns c =
    let a = c.args in
    let s = a.state.now in
    let xs = a.buffer.now in
    let bs = a.bytes.now in
    let h = c.if-state-lt278.false in
    let w = c.take.ensures in
    let z = passed _ _ w.0 c.in_ok-take.was in
    let l = long_leaves s h (receive_of (session_of s) (length xs) bs) (sym z, w.2) in
    let j = judged-framed bs (passed _ _ c.check_frame.ensures c.in_ok-check_frame.was) c.frame-m.ensures refl in
    let r = sym j ∙ passed _ _ c.check_whole.ensures c.in_ok-check_whole.was in
    let t = c.told_number.ensures ∙ ap (λ (x : ℕ). told_number (told_of x)) (c.byte_at.ensures ∙ type_in-bytes bs r) ∙ ap told_number (told_is (receive_of (session_of s) (length xs) bs) (framed bs) z) in
    accepts_with_three _ (l.0, t ∙ told-put _ _ _ (sym l.0), w.1 ∙ long_back s h _ _, l.1)
