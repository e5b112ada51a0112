-- `session_calls::take` meets its contract. Assumes nothing.
use Rattle.std.proofs.Common.{ℕ, List, refl, sym, ap, ◌∙◌, length, arith}
use Rattle.wire.specs.Frame.{framed}
use Rattle.numbers.specs.Numbers.{patched}
use Rattle.wire.specs.Header.{type_of}
use Rattle.orders.specs.Shapes.{sequenced}
use Rattle.book_calls.proofs.Passing.{refuses_with_two, accepts_with_two, answers_as_two}
use Rattle.session.specs.declared.Phase.{Phase}
use Rattle.session.specs.Sessions.{is_closed, passes}
use Rattle.session.specs.Stages.{heard_by, heard_buffer}
use Rattle.session.proofs.SessionLaws.{untimely, by_message, by_session}
use Rattle.session_calls.specs.SessionBytes.{session_of, session_bytes}
use Rattle.session_calls.proofs.SessionBytesLaws.{leaves_refused, leaves_stored, good_leaves, good_buffer_lem}
use Rattle.session_calls.proofs.take.Goals as goal

pub returns-then-not-passes : goal.returns-then-not-passes
returns-then-not-passes c =
    let a = c.args in
    let s = a.state.now in
    let xs = a.buffer.now in
    let bs = a.bytes.now in
    let f = c.requires.4 in
    let t = c.type_of-message.ensures ∙ ap type_of f in
    let p = c.requires.1 in
    let runs = ap is_closed (sym p) ∙ c.requires.2 in
    let z = c.requires.3 in
    let e = ap (λ (q : Phase). passes q (type_of (framed bs))) (sym p) ∙ ap (passes a.phase) (sym t) ∙ sym c.passes.ensures ∙ c.if-not-passes.true in
    let w = untimely (session_of s) xs bs runs z e in
    let l = leaves_refused s (session_of s) (λ k. omega (arith, k)) w.0 in
    refuses_with_two _ c.new.ensures (omega arith) (l.0, w.1, l.1)

pub returns-then-is_sequenced : goal.returns-then-is_sequenced
returns-then-is_sequenced c =
    let a = c.args in
    let s = a.state.now in
    let xs = a.buffer.now in
    let bs = a.bytes.now in
    let f = c.requires.4 in
    let t = c.type_of-message.ensures ∙ ap type_of f in
    let p = c.requires.1 in
    let runs = ap is_closed (sym p) ∙ c.requires.2 in
    let z = c.requires.3 in
    let e = ap (λ (q : Phase). passes q (type_of (framed bs))) (sym p) ∙ ap (passes a.phase) (sym t) ∙ sym c.passes.ensures ∙ c.if-not-passes.false in
    let v = ap sequenced (sym t) ∙ sym c.is_sequenced.ensures ∙ c.if-is_sequenced.true in
    let booked = c.book.ensures in
    let w = by_message (session_of s) xs bs runs z e v (refl, good_buffer_lem s xs bs z v c.requires.0 f booked.1) in
    let l = good_leaves s xs bs z v c.requires.0 f refl booked.1 booked.2 w.0 in
    answers_as_two _ booked.0 (l.0, w.1, l.1)

pub returns : goal.returns
returns c =
    let a = c.args in
    let s = a.state.now in
    let xs = a.buffer.now in
    let bs = a.bytes.now in
    let f = c.requires.4 in
    let t = c.type_of-message.ensures ∙ ap type_of f in
    let p = c.requires.1 in
    let runs = ap is_closed (sym p) ∙ c.requires.2 in
    let z = c.requires.3 in
    let e = ap (λ (q : Phase). passes q (type_of (framed bs))) (sym p) ∙ ap (passes a.phase) (sym t) ∙ sym c.passes.ensures ∙ c.if-not-passes.false in
    let v = ap sequenced (sym t) ∙ sym c.is_sequenced.ensures ∙ c.if-is_sequenced.false in
    let heard = c.hear.ensures in
    let w = by_session (session_of s) xs bs runs z e v (refl, heard.0 ∙ ap (heard_buffer (session_of s) xs) f) in
    let l = leaves_stored s (heard_by (session_of s) (length xs) (framed bs)) (heard.1 ∙ ap (λ (m : List ℕ). patched s 0 (session_bytes (heard_by (session_of s) (length xs) m))) f) w.0 in
    accepts_with_two _ (l.0, w.1, l.1)
