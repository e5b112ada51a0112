-- `orders::check_new_order` meets its contract. Assumes nothing.
use Rattle.numbers.specs.Numbers.{number_at}
use Rattle.refusals.specs.Outcomes.{outcome_with}
use Rattle.std.specs.Prelude.{Err}
use borrow.Author.Tests.{le-leb, lt-leb}
use lib.ListN.{get_or, take, drop}
use lib.Seq.{get_or-take, get_or-drop}
use native.Mathlib.Omega.{arith}
use Prim.Native.Nat.{ℕ, ◌+◌, ◌<◌}
use mathlib.Core.Path.{◌≡◌, sym, ap, ◌∙◌}
use mathlib.Core.List.{List}
use Rattle.orders.proofs.check_new_order.Goals as goal

-- OrderQty, read from its own four bytes
quantity_is : (f : List ℕ) → number_at 4 0 (take 4 (drop 21 f)) ≡ number_at 4 21 f
quantity_is f =
    let byte : (j : ℕ) → j < 4 → get_or (take 4 (drop 21 f)) j 0 ≡ get_or f (21 + j) 0 = λ j h. get_or-take 4 (drop 21 f) j 0 h ∙ get_or-drop 21 f j 0 in
    rw (byte 0 (omega arith), byte 1 (omega arith), byte 2 (omega arith), byte 3 (omega arith))

pub returns-then-quantity-lt1 : goal.returns-then-quantity-lt1
unfolding outcome_with
returns-then-quantity-lt1 c =
    let read = c in
    let first = read in
    let f = first.args.f.now in
    let n = read.read_u32-quantity.ensures ∙ quantity_is f in
    rw (sym first.agrees_filled.ensures ∙ read.if-not-agrees_filled.false, lt-leb 1 (number_at 4 21 f) (omega (arith, n, c.if-quantity-lt1.true))) (ap (λ (k : ℕ). Err k) c.at-then-quantity-lt1.ensures)

pub returns-then-quantity-gt999999 : goal.returns-then-quantity-gt999999
unfolding outcome_with
returns-then-quantity-gt999999 c =
    let read = c in
    let first = read in
    let f = first.args.f.now in
    let n = read.read_u32-quantity.ensures ∙ quantity_is f in
    rw (sym first.agrees_filled.ensures ∙ read.if-not-agrees_filled.false, le-leb 1 (number_at 4 21 f) (omega (arith, n, c.if-quantity-lt1.false)), lt-leb (number_at 4 21 f) 999999 (omega (arith, n, c.if-quantity-gt999999.true))) (ap (λ (k : ℕ). Err k) c.at-then-quantity-gt999999.ensures)
