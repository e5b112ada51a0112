-- `kinds::identifies` meets its contract: one of 20 bytes that begins with NUL is blank or no identifier, and for any other of 20 the answer of `long_name` is
-- returned. A field of another length is tested as one that is never blank. Assumes nothing.
use mathlib.Core.Path.{sym}
use native.Mathlib.Omega.{arith}
use Rattle.kinds.proofs.KindLaws.{first_nul}
use Rattle.kinds.proofs.Walk.{nul_no}
use Rattle.kinds.proofs.identifies.Goals as goal

pub returns-then-s-eq0 : goal.returns-then-s-eq0
returns-then-s-eq0 c =
    let s = c.args.s.now in
    sym (first_nul s (omega arith) c.if-s-eq0.true)

pub returns-then-s-eq20 : goal.returns-then-s-eq20
returns-then-s-eq20 c =
    let filled = c in
    let s = filled.args.s.now in
    rw (nul_no s 0 (omega arith) filled.if-s-eq0.false) c.long_name.ensures
