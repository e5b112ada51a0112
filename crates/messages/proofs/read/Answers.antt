-- `messages::read` meets its contract: framing's refusal, the type's, then the message's own and 13 by its record's size. Assumes nothing.
use Rattle.orders.specs.Orders as orders
use Rattle.order_records.specs.Records.{record_bytes}
use Rattle.session_messages.specs.Sessions as sessions
use Rattle.session_messages.specs.Sizes.{session_record_size}
use Rattle.block.specs.Sizes.{record_size}
use Rattle.refusals.specs.OutcomeLaws.{passed}
use Rattle.messages.specs.Messages.{is_session, carries, session_record_bytes}
use Rattle.messages.specs.Stages.{placed_refusal, placed_record}
use Rattle.orders.specs.Markets.{typed}
use Rattle.messages.proofs.Heard.{long_enough, as_typed, heard_type, named, session_heard}
use Rattle.messages.proofs.MessageLaws.{frame_stops, type_stops, session_reads, order_reads}
use Rattle.messages.proofs.Passing.{passes_on, refuses_with, answers_as}
use mathlib.Core.List.{List}
use Prim.Native.Nat.{ℕ}
use lib.ListN.{length}
use mathlib.Core.Path.{sym, ap, ap₂, ◌∙◌}
use native.Mathlib.Omega.{arith}
use Rattle.messages.proofs.read.Goals as goal

pub returns-in_err-check_frame : goal.returns-in_err-check_frame
returns-in_err-check_frame c =
    let a = c.args in
    passes_on _ _ _ c.check_frame.ensures c.in_err-check_frame.was c.from_residual.ensures.1 (frame_stops a.direction a.bytes.now a.buffer.now)

pub returns-then-not-carries : goal.returns-then-not-carries
returns-then-not-carries c =
    let a = c.args in
    let z = passed _ _ c.check_frame.ensures c.in_ok-check_frame.was in
    let t = named a.direction a.bytes.now z c.frame-m.ensures c.type_of.ensures c.type_in-message.ensures in
    refuses_with _ c.new.ensures (omega arith) (type_stops a.direction a.bytes.now a.buffer.now z (ap (carries a.direction) (sym t) ∙ sym c.carries.ensures ∙ c.if-not-carries.true))

pub returns-then-is_session : goal.returns-then-is_session
returns-then-is_session c =
    let a = c.args in
    let z = passed _ _ c.check_frame.ensures c.in_ok-check_frame.was in
    let t = named a.direction a.bytes.now z c.frame-m.ensures c.type_of.ensures c.type_in-message.ensures in
    let session = ap is_session (sym t) ∙ sym c.is_session.ensures ∙ c.if-is_session.true in
    let it = c.frame-m.ensures ∙ sym (session_heard a.direction a.bytes.now z session) in
    let read = c.read_session.ensures in
    answers_as _ read.0 (
    session_reads a.direction a.bytes.now a.buffer.now z (ap (carries a.direction) (sym t) ∙ sym c.carries.ensures ∙ c.if-not-carries.false) session (
      ap (λ (m : List ℕ). placed_refusal (sessions.read_refusal m) session_record_size (length a.buffer.now)) it,
      read.1 ∙ ap (λ (m : List ℕ). placed_record (sessions.read_refusal m) session_record_size (session_record_bytes (sessions.record_of m)) a.buffer.now) it,
    )
    )

pub read_order-requires : goal.read_order-requires
read_order-requires c =
    let a = c.args in
    omega (arith, ap length c.frame-m.ensures, long_enough a.direction a.bytes.now (passed _ _ c.check_frame.ensures c.in_ok-check_frame.was))

pub returns : goal.returns
returns c =
    let a = c.args in
    let s = a.bytes.now in
    let z = passed _ _ c.check_frame.ensures c.in_ok-check_frame.was in
    let t = named a.direction s z c.frame-m.ensures c.type_of.ensures c.type_in-message.ensures in
    let it = ap₂ typed (t ∙ heard_type a.direction s z) c.frame-m.ensures ∙ as_typed a.direction s z in
    let read = c.read_order.ensures in
    answers_as _ read.0 (
    order_reads a.direction s a.buffer.now z (ap (carries a.direction) (sym t) ∙ sym c.carries.ensures ∙ c.if-not-carries.false)
    (ap is_session (sym t) ∙ sym c.is_session.ensures ∙ c.if-is_session.false) (
      ap (λ (m : List ℕ). placed_refusal (orders.read_refusal m) record_size (length a.buffer.now)) it,
      read.1 ∙ ap (λ (m : List ℕ). placed_record (orders.read_refusal m) record_size (record_bytes (orders.record_of m)) a.buffer.now) it,
    )
    )
