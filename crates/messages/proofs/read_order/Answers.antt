-- `messages::read_order` meets its contract. Assumes nothing.
use Rattle.order_reader.specs.Stages.{read_record}
use Rattle.refusals.specs.OutcomeLaws.{passed}
use Rattle.messages.proofs.Passing.{passes_on, refuses_with, answers_as}
use Rattle.messages.proofs.Stages.{judged_stops, room_stops, roomy_reads}
use native.Mathlib.Omega.{arith}
use mathlib.Core.Path.{refl}
use Rattle.messages.proofs.read_order.Goals as goal

pub read_as-requires : goal.read_as-requires
read_as-requires c = (c.requires, omega (arith, c.if-buffer-ge-RECORD.true))

pub returns-then-buffer-ge-RECORD : goal.returns-then-buffer-ge-RECORD
unfolding read_record
returns-then-buffer-ge-RECORD c =
    let read = c.read_as.ensures in
    answers_as _ read.0 (roomy_reads _ _ _ c.args.buffer.now (omega (arith, c.if-buffer-ge-RECORD.true)) (refl, read.1))

pub returns-in_err-check_as : goal.returns-in_err-check_as
returns-in_err-check_as c = passes_on _ _ _ c.check_as.ensures c.in_err-check_as.was c.from_residual.ensures.1 (judged_stops _ _ _ c.args.buffer.now)

pub returns : goal.returns
returns c =
    let z = passed _ _ c.check_as.ensures c.in_ok-check_as.was in
    refuses_with _ c.new.ensures (omega arith) (room_stops _ _ _ c.args.buffer.now z (omega (arith, c.if-buffer-ge-RECORD.false)))
