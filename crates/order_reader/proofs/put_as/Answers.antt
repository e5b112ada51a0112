-- `order_reader::put_as` meets its contract: a message that is not refused is stored whole. Assumes nothing.
use Rattle.order_reader.proofs.Typed.{there-under, total_under, read_under}
use mathlib.Core.Path.{refl}
use native.Mathlib.Omega.{arith}
use Rattle.order_reader.proofs.put_as.Goals as goal

pub bounds-m-at : goal.bounds-m-at
bounds-m-at c =
    let k = there-under c.args.m.now c.args.message _ _ c.requires.0 c.count_at-at.ensures refl c.requires.1 in
    omega (arith, k.fits)

pub put_there-requires : goal.put_there-requires
put_there-requires c =
    let m = c.args.m.now in
    let there = c.count_at-at.ensures in
    let k = there-under m c.args.message _ _ c.requires.0 there refl c.requires.1 in
    let whole = total_under m c.args.message _ _ c.requires.0 there refl c.requires.1 in
    (k.at_least, k.fits, k.few, there, whole.0, whole.1, c.requires.2)

pub returns : goal.returns
returns c = (read_under c.args.m.now c.args.message _ _ c.requires.0 c.count_at-at.ensures refl c.requires.1 c.args.buffer.now c.put_there.ensures).1
