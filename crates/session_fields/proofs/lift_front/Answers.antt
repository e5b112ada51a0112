-- `session_fields::lift_front` meets its contract. Assumes nothing.
use native.Mathlib.Omega.{arith}
use Prim.Native.Nat.{◌+◌}
use mathlib.Core.Path.{refl}
use Rattle.session_fields.proofs.Lifts.{front-short, front-full, front_copied}
use Rattle.session_fields.proofs.lift_front.Goals as goal

pub returns-then-s-at : goal.returns-then-s-at
returns-then-s-at c =
    let a = c.args in
    front-short a.n a.at a.s.now a.to.now (omega arith)

pub returns-then-s-at-2 : goal.returns-then-s-at-2
returns-then-s-at-2 c =
    let a = c.args in
    front-short a.n a.at a.s.now a.to.now (omega arith)

pub returns-then-to-n : goal.returns-then-to-n
returns-then-to-n c =
    let a = c.args in
    front-full a.n a.at a.s.now a.to.now (omega arith) (omega arith)

pub returns : goal.returns
returns c =
    let a = c.args in
    front_copied a.n a.at a.s.now a.to.now (omega arith) (omega arith) (a.at + a.n) refl c.copy.ensures
