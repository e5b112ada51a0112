-- `orders::check_fixed` meets its contract: that of Purge Orders has nothing to test; every other one is its identifier and, in six types, more to test. Assumes nothing.
use Rattle.dictionary.specs.Dictionary.{is_new_order}
use Rattle.dictionary.proofs.NewOrders.{a-new_order, no_new_order}
use Rattle.orders.specs.Shapes.{count_at}
use Rattle.orders.specs.FixedFields.{new_order_fields, cancel_order_fields, modify_order_fields, acknowledgment_fields, execution_fields, rejection_fields, fixed_fields, fixed_wrong}
use Rattle.refusals.specs.FirstBad.{first_bad}
use Rattle.orders.specs.Rests.{name_at, new_order_rest, modify_order_rest, execution_rest, rejection_rest}
use Rattle.kinds.specs.declared.Kind.TheVariants.{Identifier}
use Rattle.kinds.specs.Kinds.{agrees_filled_of}
use mathlib.Core.Path.{◌≡◌, refl, sym, ap, ap₂, ◌∙◌}
use mathlib.Core.Bool.{Bool, true, false, cond, true≢false}
use mathlib.Core.List.{List}
use Prim.Native.Nat.{ℕ, ◌+◌, ◌-◌, ◌≤◌}
use native.Mathlib.Omega.{arith}
use lib.Dec.{eqb}
use lib.ListN.{take, drop}
use borrow.Author.Tests.{ne_eqb, eqb-true}
use Rattle.orders.proofs.OrderLaws.{in_new_order, in_execution, in_modify_order, in_others}
use Rattle.refusals.specs.Outcomes.{outcome_with, outcome}
use Rattle.std.specs.Prelude.{⊤, Result}
use Rattle.orders.specs.Rests.{bad_at}
use Rattle.orders.proofs.Refusing.{bad_told}
use Rattle.orders.proofs.check_fixed.Goals as goal

-- what is answered of a place
abbrev at_place : ℕ → Result ⊤ ℕ
at_place n = outcome (bad_at n)

-- the identifier lies within the fixed part
name_fits : (message n : ℕ) → (message ≡ 0x47 → ⊥) → count_at message ≤ n + 10 → name_at message + 20 ≤ n
unfolding count_at name_at
name_fits message n p h = by (is_new_order message) (eqb message 0x39) (eqb message 0x25) (eqb message 0x2C) (eqb message 0x3A) (rw (ne_eqb message 0x47 p) at h)
  where
    by : (a b d e f : Bool) → cond a 35 (cond b 30 (cond d 47 (cond e 69 (cond f 50 100)))) ≤ n + 10 → cond a 0 (cond b 0 (cond f 0 8)) + 20 ≤ n
    by true b d e f h = omega (arith, h)
    by false true d e f h = omega (arith, h)
    by false false true e true h = omega (arith, h)
    by false false true e false h = omega (arith, h)
    by false false false true true h = omega (arith, h)
    by false false false true false h = omega (arith, h)
    by false false false false true h = omega (arith, h)
    by false false false false false h = omega (arith, h)

name_near : (message : ℕ) → name_at message ≤ 8
unfolding name_at
name_near message = by (is_new_order message) (eqb message 0x39) (eqb message 0x3A)
  where
    by : (a b f : Bool) → cond a 0 (cond b 0 (cond f 0 8)) ≤ 8
    by true b f = omega arith
    by false true f = omega arith
    by false false true = omega arith
    by false false false = omega arith

-- the first bad field after it
unfoldable rest_wrong : ℕ → List ℕ → ℕ
rest_wrong message f =
    cond (is_new_order message) (new_order_rest f) (cond (eqb message 0x39) 0 (cond (eqb message 0x25) 0 (cond (eqb message 0x2C) (execution_rest f) (cond (eqb message 0x3A) (modify_order_rest f) (rejection_rest f)))))

-- no number is two types

apart : (message x y : ℕ) → eqb message x ≡ true → eqb x y ≡ false → eqb message y ≡ false
apart message x y e d = let k : message ≡ x = eqb-true message x e in rw k d

in_two : (message : ℕ) (f : List ℕ) → (message ≡ 0x47 → ⊥) → fixed_wrong message f ≡ cond (agrees_filled_of Identifier (take 20 (drop (name_at message) f))) (rest_wrong message f) (10 + name_at message)
unfolding fixed_wrong fixed_fields name_at rest_wrong
in_two message f p = rw (ne_eqb message 0x47 p) (by (is_new_order message) (eqb message 0x39) (eqb message 0x25) (eqb message 0x2C) (eqb message 0x3A) (λ e. apart message 0x25 0x3A e refl) (λ e. apart message 0x2C 0x3A e refl))
  where
    by : (a b d e g : Bool) → (d ≡ true → g ≡ false) → (e ≡ true → g ≡ false)
        → first_bad (cond a (new_order_fields f) (cond b (cancel_order_fields f) (cond d (acknowledgment_fields f) (cond e (execution_fields f) (cond g (modify_order_fields f) (rejection_fields f))))))
        ≡ cond (agrees_filled_of Identifier (take 20 (drop (cond a 0 (cond b 0 (cond g 0 8))) f)))
        (cond a (new_order_rest f) (cond b 0 (cond d 0 (cond e (execution_rest f) (cond g (modify_order_rest f) (rejection_rest f)))))) (10 + cond a 0 (cond b 0 (cond g 0 8)))
    by true b d e g x y = refl
    by false true d e g x y = refl
    by false false true e true x y = absurd (true≢false (x refl))
    by false false true e false x y = refl
    by false false false true true x y = absurd (true≢false (y refl))
    by false false false true false x y = refl
    by false false false false true x y = refl
    by false false false false false x y = refl

-- so once the identifier is tested, it is told or the rest decides
once_named : (message at : ℕ) (f : List ℕ) (r b : Bool) → (message ≡ 0x47 → ⊥) → at ≡ name_at message → r ≡ agrees_filled_of Identifier (take (at + 20 - at) (drop at f)) → r ≡ b
    → fixed_wrong message f ≡ cond b (rest_wrong message f) (10 + name_at message)
once_named message at f r b p e h t =
    let n : at + 20 - at ≡ 20 = omega arith in
    in_two message f p
    ∙ ap (λ (x : Bool). cond x (rest_wrong message f) (10 + name_at message)) (sym (ap₂ (λ (k i : ℕ). agrees_filled_of Identifier (take k (drop i f))) n e) ∙ sym h ∙ t)

pub returns-then-message-eq71 : goal.returns-then-message-eq71
unfolding fixed_wrong fixed_fields outcome_with
returns-then-message-eq71 c = rw c.if-message-eq71.true

pub overflow_add-at : goal.overflow_add-at
overflow_add-at c = omega (arith, c.name_at-at.ensures, name_near c.args.message)

pub slice_bounds-identifies-end : goal.slice_bounds-identifies-end
slice_bounds-identifies-end c = omega (arith, c.name_at-at.ensures, name_fits _ _ c.if-message-eq71.false c.requires)

pub at-requires : goal.at-requires
at-requires c = omega (arith, c.name_at-at.ensures, name_near c.args.message)

pub returns-then-not-identifies : goal.returns-then-not-identifies
returns-then-not-identifies c =
    let named = c in
    let other = named in
    let a = other.args in
    let whole = once_named a.message _ a.f.now _ false other.if-message-eq71.false named.name_at-at.ensures named.identifies.ensures c.if-not-identifies.true in
    bad_told _ c.at.ensures (omega arith) ∙ ap at_place (ap (λ (i : ℕ). 10 + i) named.name_at-at.ensures ∙ sym whole)

pub check_new_order-requires : goal.check_new_order-requires
check_new_order-requires c = omega (arith, c.requires, in_new_order _ c.in-56.is)

pub check_execution-requires : goal.check_execution-requires
check_execution-requires c = omega (arith, c.requires, in_execution _ c.in-44.is)

pub check_modify_order-requires : goal.check_modify_order-requires
check_modify_order-requires c = omega (arith, c.requires, in_modify_order _ c.in-58.is)

pub check_rejection-requires : goal.check_rejection-requires
check_rejection-requires c =
    let start = c in
    let r = c.in_default.in_default-own.rest in
    omega (arith, start.requires, in_others _ r.0.0.0.0.1 r.0.0.0.1 r.0.0.1 r.0.1 r.1 start.if-message-eq71.false)

pub returns-in-56 : goal.returns-in-56
unfolding rest_wrong
returns-in-56 c =
    let named = c in
    let other = named in
    let a = other.args in
    let whole = once_named a.message _ a.f.now _ true other.if-message-eq71.false named.name_at-at.ensures named.identifies.ensures c.if-not-identifies.false in
    c.check_new_order.ensures ∙ ap at_place (sym (whole ∙ rw (a-new_order _ c.in-56.is)))

pub returns-in-57 : goal.returns-in-57
unfolding rest_wrong outcome_with
returns-in-57 c =
    let named = c in
    let other = named in
    let a = other.args in
    let whole = once_named a.message _ a.f.now _ true other.if-message-eq71.false named.name_at-at.ensures named.identifies.ensures c.if-not-identifies.false in
    let e : 0 ≡ fixed_wrong a.message a.f.now = sym (whole ∙ rw c.in-57.is) in
    ap at_place e

pub returns-in-37 : goal.returns-in-37
unfolding rest_wrong outcome_with
returns-in-37 c =
    let named = c in
    let other = named in
    let a = other.args in
    let whole = once_named a.message _ a.f.now _ true other.if-message-eq71.false named.name_at-at.ensures named.identifies.ensures c.if-not-identifies.false in
    let e : 0 ≡ fixed_wrong a.message a.f.now = sym (whole ∙ rw c.in-37.is) in
    ap at_place e

pub returns-in-44 : goal.returns-in-44
unfolding rest_wrong
returns-in-44 c =
    let named = c in
    let other = named in
    let a = other.args in
    let whole = once_named a.message _ a.f.now _ true other.if-message-eq71.false named.name_at-at.ensures named.identifies.ensures c.if-not-identifies.false in
    c.check_execution.ensures ∙ ap at_place (sym (whole ∙ rw c.in-44.is))

pub returns-in-58 : goal.returns-in-58
unfolding rest_wrong
returns-in-58 c =
    let named = c in
    let other = named in
    let a = other.args in
    let whole = once_named a.message _ a.f.now _ true other.if-message-eq71.false named.name_at-at.ensures named.identifies.ensures c.if-not-identifies.false in
    c.check_modify_order.ensures ∙ ap at_place (sym (whole ∙ rw c.in-58.is))

pub returns-in_default : goal.returns-in_default
unfolding rest_wrong
returns-in_default c =
    let named = c in
    let other = named in
    let a = other.args in
    let whole = once_named a.message _ a.f.now _ true other.if-message-eq71.false named.name_at-at.ensures named.identifies.ensures c.if-not-identifies.false in
    let r = c.in_default.in_default-own.rest in
    c.check_rejection.ensures ∙ ap at_place (sym (whole ∙ simp (ne_eqb _ _ r.1, ne_eqb _ _ r.0.1, ne_eqb _ _ r.0.0.1, ne_eqb _ _ r.0.0.0.1, no_new_order _ r.0.0.0.0.1)))
