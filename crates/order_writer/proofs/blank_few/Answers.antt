-- `order_writer::blank_few` meets its contract: the first and the last bytes are two windows of the whole, and fewer than four are one number.
-- Assumes nothing.
use Rattle.order_writer.proofs.Windows.{number_nul, windows_from}
use native.Mathlib.Omega.{arith}
use lib.Dec.{eqb}
use lib.ListN.{length}
use Prim.Native.Nat.{ℕ, ◌-◌}
use mathlib.Core.Path.{ap, ◌∙◌}
use Rattle.order_writer.proofs.blank_few.Goals as goal

pub returns-then-n-ge16 : goal.returns-then-n-ge16
returns-then-n-ge16 c =
    let then = c in
    let start = then in
    let s = start.args.s.now in
    c.two_blank.ensures ∙ windows_from 0 16 (length s - 16) (length s - (length s - 16)) s (omega (arith, then.if-n-ge16.true)) (omega arith) (omega (arith, start.requires))

pub returns-then-n-ge8 : goal.returns-then-n-ge8
returns-then-n-ge8 c =
    let then = c in
    let else = then in
    let s = else.args.s.now in
    c.two_blank-then-n-ge8.ensures ∙ windows_from 0 8 (length s - 8) (length s - (length s - 8)) s (omega (arith, then.if-n-ge8.true)) (omega arith) (omega (arith, else.if-n-ge16.false))

pub returns-then-n-ge4 : goal.returns-then-n-ge4
returns-then-n-ge4 c =
    let then = c in
    let else = then in
    let s = else.args.s.now in
    c.two_blank-then-n-ge4.ensures ∙ windows_from 0 4 (length s - 4) (length s - (length s - 4)) s (omega (arith, then.if-n-ge4.true)) (omega arith) (omega (arith, else.if-n-ge8.false))

pub returns : goal.returns
returns c =
    let else = c in
    let s = else.args.s.now in
    ap (λ (x : ℕ). eqb x 0) c.read_u32.ensures ∙ number_nul 4 s (omega (arith, else.if-n-ge4.false))
