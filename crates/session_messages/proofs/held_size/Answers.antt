-- `session_messages::held_size` meets its contract: the fixed part, the values, the lists, and what follows them. Assumes nothing.
use Rattle.std.proofs.Common.{◌≡◌, ◌≤◌, ◌-◌, ℕ, length, take, drop, arith, refl, sym, ap, ◌∙◌, Ok}
use Rattle.numbers.proofs.Tail.{tail_is}
use Rattle.refusals.specs.OutcomeLaws.{passed, value_of, good}
use Rattle.kinds.specs.Kinds.{all_nul}
use Rattle.session_messages.specs.Types.{type_byte}
use Rattle.session_messages.specs.Sessions.{size_of}
use Rattle.session_messages.proofs.Passing.{stops, goes, refuses}
use Rattle.session_messages.proofs.Stages.{held_of, held_short, held_stages, unused_some, lists_pass}
use Rattle.session_messages.proofs.held_size.Goals.{In_ok-size}
use Rattle.session_messages.proofs.held_size.Goals as goal

-- the lists end within the body
inside : (c : In_ok-size) → (c.in_ok-size.size ≡ size_of (type_byte c.args.message) c.args.b.now) × (c.in_ok-size.size ≤ length c.args.b.now)
inside c =
    let v = value_of _ _ c.body_size.ensures c.in_ok-size.was in
    let w = held_of (type_byte c.args.message) c.args.b.now (omega (arith, c.fixed_size.ensures, c.if-b-fixed_size.false)) (lists_pass (type_byte c.args.message) c.args.b.now (passed _ _ c.body_size.ensures c.in_ok-size.was)) in
    (v, omega (arith, v, w.inside))

-- what follows them, as a part
rest : (c : In_ok-size) → all_nul (take (length c.args.b.now - c.in_ok-size.size) (drop c.in_ok-size.size c.args.b.now)) ≡ all_nul (drop (size_of (type_byte c.args.message) c.args.b.now) c.args.b.now)
rest c =
    let i = inside c in
    ap all_nul (tail_is c.args.b.now c.in_ok-size.size i.1 ∙ ap (λ (k : ℕ). drop k c.args.b.now) i.0)

pub returns-then-b-fixed_size : goal.returns-then-b-fixed_size
returns-then-b-fixed_size c = refuses _ c.new.ensures (omega arith) (held_short (type_byte c.args.message) c.args.b.now (omega (arith, c.fixed_size.ensures, c.if-b-fixed_size.true)))

pub returns-in_err-check_values : goal.returns-in_err-check_values
returns-in_err-check_values c = stops _ _ _ _ c.check_values.ensures c.in_err-check_values.was c.from_residual.ensures.1 (held_stages (type_byte c.args.message) c.args.b.now (omega (arith, c.fixed_size.ensures, c.if-b-fixed_size.false)))

pub returns-in_err-size : goal.returns-in_err-size
returns-in_err-size c = stops _ _ _ _ c.body_size.ensures c.in_err-size.was c.from_residual-in_err-size.ensures.1 (goes _ _ c.check_values.ensures c.in_ok-check_values.was (held_stages (type_byte c.args.message) c.args.b.now (omega (arith, c.fixed_size.ensures, c.if-b-fixed_size.false))))

pub slice_bounds-is_blank-count : goal.slice_bounds-is_blank-count
slice_bounds-is_blank-count c = (inside (goal.at.slice_bounds-is_blank-count c).In_ok-size).1

pub slice_bounds-is_blank-start : goal.slice_bounds-is_blank-start
slice_bounds-is_blank-start c = (inside (goal.at.slice_bounds-is_blank-start c).In_ok-size).1

pub returns-then-not-is_blank : goal.returns-then-not-is_blank
returns-then-not-is_blank c =
    let s = goes _ _ c.body_size.ensures c.in_ok-size.was (goes _ _ c.check_values.ensures c.in_ok-check_values.was (held_stages (type_byte c.args.message) c.args.b.now (omega (arith, c.fixed_size.ensures, c.if-b-fixed_size.false)))) in
    let q = sym (rest (goal.at.returns-then-not-is_blank c).In_ok-size) ∙ sym c.is_blank.ensures ∙ c.if-not-is_blank.true in
    refuses _ (c.new-then-not-is_blank.ensures ∙ c.unused_reason.ensures) (unused_some (type_byte c.args.message)) (s ∙ rw q refl)

pub returns : goal.returns
returns c =
    let s = goes _ _ c.body_size.ensures c.in_ok-size.was (goes _ _ c.check_values.ensures c.in_ok-check_values.was (held_stages (type_byte c.args.message) c.args.b.now (omega (arith, c.fixed_size.ensures, c.if-b-fixed_size.false)))) in
    let q = sym (rest (goal.at.returns c).In_ok-size) ∙ sym c.is_blank.ensures ∙ c.if-not-is_blank.false in
    ap Ok (inside (goal.at.returns c).In_ok-size).0 ∙ good _ _ (s ∙ rw q refl)
