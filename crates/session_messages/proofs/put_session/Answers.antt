-- `session_messages::put_session` meets its contract: the header, and the body in the tail after it. Assumes nothing.
use Rattle.std.proofs.Common.{arith, refl, ◌∙◌, ◌+◌, take}
use Rattle.numbers.specs.NumberLaws.{put_stores}
use Rattle.numbers.proofs.Tail.{puts_then}
use Rattle.wire.specs.Header.{header_bytes}
use lib.Seq.{length-take-le}
use Rattle.session_messages.proofs.put_session.Goals as goal

pub returns : goal.returns
returns c =
    let a = c.args in
    let n = length-take-le a.size a.b.now c.requires.1 in
    let header = header_bytes (8 + a.size) a.message a.unit a.number in
    puts_then a.out.now _ header (take a.size a.b.now) 10 refl (omega (arith, n, c.requires.2))
    (c.write_header.ensures.1 ∙ put_stores a.out.now 0 header (omega (arith, c.requires.2)))
    c.copy_front.ensures
