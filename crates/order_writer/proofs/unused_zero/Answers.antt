-- `order_writer::unused_zero` meets its contract. Assumes nothing.
use Rattle.order_writer.specs.Stages.{unused_zero}
use Rattle.kinds.specs.Kinds.{all_nul}
use Rattle.numbers.proofs.Tail.{tail_is}
use Rattle.order_writer.proofs.Windows.{windows_from}
use native.Mathlib.Omega.{arith}
use lib.ListN.{drop}
use mathlib.Core.Path.{◌≡◌, sym, ap, ◌∙◌}
use Rattle.order_writer.proofs.unused_zero.Goals as goal

pub returns-then-not-fixed_blank : goal.returns-then-not-fixed_blank
unfolding unused_zero
returns-then-not-fixed_blank c = rw (sym c.fixed_blank.ensures ∙ c.if-not-fixed_blank.true)

pub returns-then-not-blank_few : goal.returns-then-not-blank_few
unfolding unused_zero
returns-then-not-blank_few c =
    let blank = c in
    let else = blank in
    let start = else in
    let a = start.args in
    let e : _ ≡ all_nul (drop a.count a.bits.now) = blank.blank_few.ensures ∙ ap all_nul (tail_is a.bits.now a.count (omega (arith, start.requires.1, start.requires.2))) in
    rw (sym else.fixed_blank.ensures ∙ else.if-not-fixed_blank.false, sym e ∙ c.if-not-blank_few.true)

pub returns : goal.returns
unfolding unused_zero
returns c =
    let then = c in
    let blank = then in
    let else = blank in
    let start = else in
    let a = start.args in
    let e : _ ≡ all_nul (drop a.count a.bits.now) = blank.blank_few.ensures ∙ ap all_nul (tail_is a.bits.now a.count (omega (arith, start.requires.1, start.requires.2))) in
    rw (sym else.fixed_blank.ensures ∙ else.if-not-fixed_blank.false, sym e ∙ then.if-not-blank_few.false)
    (c.two_blank.ensures ∙ windows_from 0 160 159 16 a.rest.now start.requires.3 (omega arith) (omega arith))
