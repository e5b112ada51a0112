-- `session_logins::put_both` meets its contract: one group, and the other in the tail after it. Assumes nothing.
use mathlib.Core.Path.{sym}
use native.Mathlib.Omega.{arith}
use Rattle.numbers.proofs.Tail.{puts_then, tail_length}
use Rattle.session_logins.specs.LoginRequests.{bits_part}
use Rattle.session_logins.proofs.Parts.{first-there}
use Rattle.session_logins.proofs.LoginRequestLaws.{bits_most}
use Rattle.session_logins.proofs.put_both.Goals as goal

pub slice_bounds-put_bits-count : goal.slice_bounds-put_bits-count
slice_bounds-put_bits-count c =
    let start = c in
    let a = start.args in
    first-there a.tail.now _ (bits_part 0x25 a.acknowledgments) _ c.put_bits-n.ensures.0 (omega (arith, bits_most 0x25 a.acknowledgments, start.requires)) c.put_bits-n.ensures.1

pub slice_bounds-put_bits-start : goal.slice_bounds-put_bits-start
slice_bounds-put_bits-start c =
    let start = c in
    let a = start.args in
    first-there a.tail.now _ (bits_part 0x25 a.acknowledgments) _ c.put_bits-n.ensures.0 (omega (arith, bits_most 0x25 a.acknowledgments, start.requires)) c.put_bits-n.ensures.1

pub put_bits-requires : goal.put_bits-requires
put_bits-requires c =
    let start = c in
    let a = start.args in
    let n = c.put_bits-n.ensures.0 in
    let t = tail_length a.tail.now _ (bits_part 0x25 a.acknowledgments) (bits_part 0x2C a.executions) _ (sym n) (omega (arith, n, bits_most 0x25 a.acknowledgments, bits_most 0x2C a.executions, start.requires)) c.put_bits-n.ensures.1 in
    omega (arith, t, n, bits_most 0x25 a.acknowledgments, start.requires)

pub returns : goal.returns
returns c =
    let start = c in
    let a = start.args in
    let n = c.put_bits-n.ensures.0 in
    puts_then a.tail.now _ (bits_part 0x25 a.acknowledgments) (bits_part 0x2C a.executions) _ (sym n) (omega (arith, n, bits_most 0x25 a.acknowledgments, bits_most 0x2C a.executions, start.requires)) c.put_bits-n.ensures.1 c.put_bits.ensures.1
