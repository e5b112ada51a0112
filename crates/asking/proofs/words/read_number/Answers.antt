-- `asking::words::read_number` meets its contract: each digit is judged, and what does not fit 64 bits is above `most` too. Assumes nothing.
use Rattle.std.proofs.Common.{◌≡◌, ℕ, ◌+◌, ◌*◌, ◌-◌, ◌<◌, get_or, drop, sym, ap, ◌∙◌, arith, drop_of_length-le}
use Rattle.std.proofs.lemmas.Bool.{eqb-true, eqb-false}
use Rattle.asking.specs.WordLaws.{number_from, reading_begins, too_short, too_long, digit_read, no_digit, too_great, all_read}
use Rattle.asking.proofs.words.read_number.Goals as goal
use Rattle.asking.proofs.words.read_number.Goals.{then-is_empty-via-then-is_empty, then-is_empty-via-else-is_empty+then-word-gt20}

pub returns-then-is_empty-clause-value : goal.returns-then-is_empty-clause-value
returns-then-is_empty-clause-value c =
    let w = c.args.word.now in
    elim c.then-is_empty.branch [
      | then-is_empty-via-then-is_empty b ↦ sym (too_short w c.args.most (eqb-true _ _ (sym c.is_empty.ensures ∙ b.if-is_empty.true)))
      | then-is_empty-via-else-is_empty+then-word-gt20 b ↦ sym (too_long w c.args.most b.if-word-gt20.true)
    ]

pub loop-b-init : goal.loop-b-init
loop-b-init c = reading_begins c.args.word.now c.args.most (omega (arith, eqb-false _ _ (sym c.is_empty.ensures ∙ c.if-is_empty.false))) c.if-word-gt20.false

pub returns-then-not-is_ascii_digit-clause-value : goal.returns-then-not-is_ascii_digit-clause-value
returns-then-not-is_ascii_digit-clause-value c =
    sym (no_digit c.args.most c.loop-b.value c.args.word.now c.loop-b.b-index c.loop-b-test.true (sym c.is_ascii_digit.ensures.value ∙ c.if-not-is_ascii_digit.true)) ∙ c.loop-b.invariant

pub returns-in_err-checked_mul-clause-value : goal.returns-in_err-checked_mul-clause-value
returns-in_err-checked_mul-clause-value c =
    let w = c.args.word.now in
    let i = c.loop-b.b-index in
    let e = sym c.is_ascii_digit.ensures.value ∙ c.if-not-is_ascii_digit.false in
    let big : c.args.most < c.loop-b.value * 10 + (get_or w i 0 - 48) = omega (arith, c.in_err-checked_mul.ensures, c.ranges.most) in
    c.from_residual.ensures
    ∙ sym (digit_read c.args.most c.loop-b.value w i c.loop-b-test.true e ∙ too_great c.args.most _ (drop (i + 1) w) big)
    ∙ c.loop-b.invariant

pub returns-in_err-value-clause-value : goal.returns-in_err-value-clause-value
returns-in_err-value-clause-value c =
    let w = c.args.word.now in
    let i = c.loop-b.b-index in
    let e = sym c.is_ascii_digit.ensures.value ∙ c.if-not-is_ascii_digit.false in
    let big : c.args.most < c.loop-b.value * 10 + (get_or w i 0 - 48) = omega (arith, c.in_err-value.ensures, c.in_ok-checked_mul.ensures, c.ranges.most) in
    c.from_residual-in_err-value.ensures
    ∙ sym (digit_read c.args.most c.loop-b.value w i c.loop-b-test.true e ∙ too_great c.args.most _ (drop (i + 1) w) big)
    ∙ c.loop-b.invariant

pub loop-b-preserved : goal.loop-b-preserved
loop-b-preserved c =
    let w = c.args.word.now in
    let i = c.loop-b.b-index in
    let e = sym c.is_ascii_digit.ensures.value ∙ c.if-not-is_ascii_digit.false in
    let next : c.in_ok-value.value ≡ c.loop-b.value * 10 + (get_or w i 0 - 48) = omega (arith, c.in_ok-value.ensures, c.in_ok-checked_mul.ensures) in
    ap (λ (v : ℕ). number_from c.args.most v (drop (i + 1) w)) next ∙ sym (digit_read c.args.most c.loop-b.value w i c.loop-b-test.true e) ∙ c.loop-b.invariant

pub returns-clause-value : goal.returns-clause-value
returns-clause-value c =
    c.then_some.ensures
    ∙ all_read c.args.most c.loop-b.value
    ∙ sym (ap (number_from c.args.most c.loop-b.value) (drop_of_length-le c.args.word.now c.loop-b-test.false))
    ∙ c.loop-b.invariant
