-- `session_logins::put_groups` meets its contract: the group of units, and the others in the tail after it. Assumes nothing.
use mathlib.Core.Path.{sym}
use mathlib.Core.List.{◌++◌}
use native.Mathlib.Omega.{arith}
use Rattle.numbers.proofs.Tail.{puts_then, tail_length}
use Rattle.session_logins.specs.LoginRequests.{units_part, bits_part}
use Rattle.session_logins.proofs.Parts.{first-there}
use Rattle.session_logins.proofs.LoginRequestLaws.{units_most, both_most}
use Rattle.session_logins.proofs.put_groups.Goals as goal

pub slice_bounds-put_both-count : goal.slice_bounds-put_both-count
slice_bounds-put_both-count c =
    let start = c in
    let a = start.args in
    first-there a.tail.now _ (units_part a.table a.choice) _ c.put_units-n.ensures.0 (omega (arith, units_most a.table a.choice, start.requires)) c.put_units-n.ensures.1

pub slice_bounds-put_both-start : goal.slice_bounds-put_both-start
slice_bounds-put_both-start c =
    let start = c in
    let a = start.args in
    first-there a.tail.now _ (units_part a.table a.choice) _ c.put_units-n.ensures.0 (omega (arith, units_most a.table a.choice, start.requires)) c.put_units-n.ensures.1

pub put_both-requires : goal.put_both-requires
put_both-requires c =
    let start = c in
    let a = start.args in
    let n = c.put_units-n.ensures.0 in
    let t = tail_length a.tail.now _ (units_part a.table a.choice) (bits_part 0x25 a.acknowledgments ++ bits_part 0x2C a.executions) _ (sym n) (omega (arith, n, units_most a.table a.choice, both_most a.acknowledgments a.executions, start.requires)) c.put_units-n.ensures.1 in
    omega (arith, t, n, units_most a.table a.choice, start.requires)

pub returns : goal.returns
returns c =
    let start = c in
    let a = start.args in
    let n = c.put_units-n.ensures.0 in
    puts_then a.tail.now _ (units_part a.table a.choice) (bits_part 0x25 a.acknowledgments ++ bits_part 0x2C a.executions) _ (sym n) (omega (arith, n, units_most a.table a.choice, both_most a.acknowledgments a.executions, start.requires)) c.put_units-n.ensures.1 c.put_both.ensures
