-- What is judged of the bytes is the refusal of the optional block. Where the total differs, the kinds play no part. Assumes nothing.
use mathlib.Core.Path.{◌≡◌, refl, sym, ap, ap₂, ◌∙◌, subst}
use mathlib.Core.Bool.{Bool, true, false, cond, not}
use mathlib.Core.List.{List}
use Prim.Native.Nat.{ℕ, ◌+◌, ◌-◌, ◌≤◌}
use native.Mathlib.Omega.{arith}
use lib.Dec.{eqb}
use lib.ListN.{length, drop, length-drop}
use borrow.Author.Tests.{eqb-true, eq-eqb, ne_eqb, not-false}
use Rattle.refusals.specs.Names.{wrong_total, unlisted_bit, not_selected, bad_value}
use Rattle.refusals.specs.Told.{told}
use Rattle.refusals.specs.ToldLaws.{passed_told}
use Rattle.block.specs.Slots.{sum, takes, any_bad, bad_byte, agree_sent, wrong_sent}
use Rattle.block.specs.SlotLaws.{takes-below}
use Rattle.block.proofs.Dictionaries.{widths_fit}
use Rattle.block.proofs.FirstBad.{bad_found, wrong_found, bad_within, wrong_within}
use Rattle.block.specs.Places.{selected_at, entry_at, slots_of, has_required}
use Rattle.block.specs.Sizes.{all_places}
use Rattle.block_judge.specs.declared.Judged.{Judged}
use Rattle.block_judge.specs.Made.{JudgedAll}
use Rattle.orders.specs.Shapes.{count_at, fixed_good}
use Rattle.orders.specs.FixedFields.{fixed_wrong}
use Rattle.orders.proofs.FixedFieldLaws.{fixed-found}
use Rattle.orders.specs.Middle.{middle_size, middle_good}
use Rattle.orders.specs.Late.{late_refusal}
use Rattle.orders.specs.Orders.{block_refusal, body_refusal, layout_of}
use Rattle.order_reader.specs.Stages.{value_refusal, judged_of}

-- 8, 9 and then the rest, by the first bad bitfield byte
abbrev top : ℕ → Bool → ℕ → Bool → ℕ → ℕ → ℕ
top at bad byte required count rest = cond bad (told unlisted_bit (at + byte)) (cond (not required) (told not_selected (at + count)) rest)

-- 6 and then the rest, by whether the total is right
abbrev sized : Bool → ℕ → ℕ → ℕ
sized right total rest = cond (not right) (told wrong_total total) rest

sized_same : (right : Bool) (total a b : ℕ) → (right ≡ true → a ≡ b) → sized right total a ≡ sized right total b
sized_same true total a b h = h refl
sized_same false total a b h = refl

-- 10
value_is : (message count : ℕ) (bits fixed optional : List ℕ) (good : Bool) (last size wrong : ℕ) → wrong ≡ wrong_sent 0 (slots_of message count bits) optional
    → value_refusal last (fixed_wrong message fixed) good size wrong
    ≡ cond (not (fixed_good message fixed)) (told bad_value (fixed_wrong message fixed))
    (cond (not good) (told bad_value (last + 1))
    (cond (not (agree_sent (slots_of message count bits) optional)) (told bad_value (last + size + wrong_sent 0 (slots_of message count bits) optional))
    0))
unfolding value_refusal
value_is message count bits fixed optional good last size wrong e =
    let ss = slots_of message count bits in
    ap (λ (w : ℕ). value_by (eqb (fixed_wrong message fixed) 0) (eqb w 0) w) e
    ∙ ap₂ (λ (a b : Bool). value_by a b (wrong_sent 0 ss optional)) (fixed-found message fixed) (wrong_found 0 ss optional)
  where
    value_by : Bool → Bool → ℕ → ℕ
    value_by a b w = cond (not a) (told bad_value (fixed_wrong message fixed)) (cond (not good) (told bad_value (last + 1)) (cond (not b) (told bad_value (last + size + w)) 0))

-- a block that is not refused has the right total, its middle is good, and what is required is selected
pub total_right : (total message count : ℕ) (bits fixed rest : List ℕ) → block_refusal total message count bits fixed rest ≡ 0
    → (middle_size message count bits rest + sum takes (slots_of message count bits) ≡ length rest) × (middle_good message count bits rest ≡ true)
unfolding block_refusal
total_right total message count bits fixed rest z =
    let p1 = passed_told (any_bad (slots_of message count bits)) _ _ _ z in
    let p2 = passed_told (not (has_required message count bits)) _ _ _ p1.1 in
    let p3 = passed_told (not (eqb (middle_size message count bits rest + sum takes (slots_of message count bits)) (length rest))) _ _ _ p2.1 in
    let p4 = passed_told (not (fixed_good message fixed)) _ _ _ p3.1 in
    let p5 = passed_told (not (middle_good message count bits rest)) _ _ _ p4.1 in
    (eqb-true _ _ (not-false _ p3.0), not-false _ p5.0)

pub required_there : (total message count : ℕ) (bits fixed rest : List ℕ) → block_refusal total message count bits fixed rest ≡ 0 → has_required message count bits ≡ true
unfolding block_refusal
required_there total message count bits fixed rest z =
    let p1 = passed_told (any_bad (slots_of message count bits)) _ _ _ z in
    let p2 = passed_told (not (has_required message count bits)) _ _ _ p1.1 in
    not-false _ p2.0

module _ (total message count : ℕ) (bits fixed rest : List ℕ) (t : Judged) (k : JudgedAll (slots_of message count bits) (drop (middle_size message count bits rest) rest) t) where
  -- the optional bytes are as many as the set bits take where the middle and these are all that follows the bitfields
  optional_total : middle_size message count bits rest + sum takes (slots_of message count bits) ≡ length rest
      → sum takes (slots_of message count bits) ≡ length (drop (middle_size message count bits rest) rest)
  optional_total h = let d : length (drop (middle_size message count bits rest) rest) ≡ length rest - middle_size message count bits rest = length-drop (middle_size message count bits rest) rest in omega (arith, h, d)

  judged_as : judged_of total message count bits fixed t (middle_size message count bits rest) rest ≡ block_refusal total message count bits fixed rest
  unfolding judged_of block_refusal
  judged_as =
      let ss = slots_of message count bits in
      let at = count_at message in
      let req = has_required message count bits in
      let mid = middle_size message count bits rest in
      let good = middle_good message count bits rest in
      ap₂ (λ (n i : ℕ). top at (not (eqb n 0)) n req count (sized (eqb (mid + i) (length rest)) total (value_refusal (at + count) (fixed_wrong message fixed) good mid t.wrong))) k.bad_is k.total_is
      ∙ ap₂ (λ (b : Bool) (x : ℕ). top at b (bad_byte 0 ss) req count x) (bad_found 0 ss)
      (sized_same (eqb (mid + sum takes ss) (length rest)) total _ _ (λ h. value_is message count bits fixed (drop mid rest) good (at + count) mid t.wrong (k.wrong_is (optional_total (eqb-true _ _ h)))))

  -- what was found is near
  bad_close : t.bad ≤ 100
  bad_close = omega (arith, k.bad_is, bad_within (selected_at count bits) (entry_at message) all_places 0)

  total_close : t.at ≤ 1000
  total_close = omega (arith, k.total_is, takes-below (slots_of message count bits), widths_fit message count bits)

  wrong_close : middle_size message count bits rest + t.at ≡ length rest → t.wrong ≤ 1000
  wrong_close h =
      let ss = slots_of message count bits in
      let n : sum takes ss ≡ length (drop (middle_size message count bits rest) rest) = optional_total (omega (arith, h, k.total_is)) in
      omega (arith, k.wrong_is n, wrong_within 0 ss (drop (middle_size message count bits rest) rest), takes-below ss, widths_fit message count bits)

-- the same where the optional bytes are lent beside what follows the bitfields
module _ (total message count : ℕ) (bits fixed rest optional : List ℕ) (size : ℕ) (t : Judged) (es : size ≡ middle_size message count bits rest) (eo : optional ≡ drop size rest)
    (k : JudgedAll (slots_of message count bits) optional t) where
  there : JudgedAll (slots_of message count bits) (drop (middle_size message count bits rest) rest) t
  there = subst (λ (o : List ℕ). JudgedAll (slots_of message count bits) o t) (eo ∙ ap (λ (n : ℕ). drop n rest) es) k

  pub judged_is : {r : ℕ} → r ≡ judged_of total message count bits fixed t size rest → r ≡ block_refusal total message count bits fixed rest
  judged_is e = e ∙ ap (λ (n : ℕ). judged_of total message count bits fixed t n rest) es ∙ judged_as total message count bits fixed rest t there

  pub bad_near : t.bad ≤ 100
  bad_near = bad_close total message count bits fixed rest t there

  pub total_near : t.at ≤ 1000
  total_near = total_close total message count bits fixed rest t there

  pub wrong_near : size + t.at ≡ length rest → t.wrong ≤ 1000
  wrong_near h = wrong_close total message count bits fixed rest t there (omega (arith, es, h))

  -- a block that is refused is the body's refusal
  pub block_stops : {r : ℕ} → r ≡ judged_of total message count bits fixed t size rest → (r ≡ 0 → ⊥) → r ≡ body_refusal total message count bits fixed rest
  unfolding body_refusal
  block_stops e n = rw (ne_eqb (block_refusal total message count bits fixed rest) 0 (λ z. n (judged_is e ∙ z))) (judged_is e)

  -- and else the late one is
  pub late_decides : {r : ℕ} → judged_of total message count bits fixed t size rest ≡ 0 → r ≡ late_refusal message count bits (layout_of message count bits optional)
      → r ≡ body_refusal total message count bits fixed rest
  unfolding body_refusal
  late_decides z e =
      rw (eq-eqb (block_refusal total message count bits fixed rest) 0 (sym (judged_is refl) ∙ z))
      (e ∙ ap (λ (o : List ℕ). late_refusal message count bits (layout_of message count bits o)) (eo ∙ ap (λ (n : ℕ). drop n rest) es))

  -- a block that is not refused has as many optional bytes as its set bits take
  pub optional_right : judged_of total message count bits fixed t size rest ≡ 0 → sum takes (slots_of message count bits) ≡ length optional
  optional_right z =
      let q = total_right total message count bits fixed rest (sym (judged_is refl) ∙ z) in
      let d : length (drop size rest) ≡ length rest - size = length-drop size rest in
      omega (arith, q.0, es, ap length eo, d)

  -- and all that is required
  pub required_right : judged_of total message count bits fixed t size rest ≡ 0 → has_required message count bits ≡ true
  required_right z = required_there total message count bits fixed rest (sym (judged_is refl) ∙ z)
