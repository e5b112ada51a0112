-- Reading and writing in stages, as the functions have them: the head, then the body, then the room. Assumes nothing.
use mathlib.Core.Path.{◌≡◌, refl, sym, ap, ◌∙◌}
use mathlib.Core.Bool.{Bool, true, false, cond, not, ◌||◌}
use mathlib.Core.List.{List, ◌++◌}
use Prim.Native.Nat.{ℕ, zero, suc, ◌+◌, ◌-◌, ◌≤◌, ◌<◌}
use native.Mathlib.Omega.{arith}
use lib.Dec.{ltb, eqb}
use lib.ListN.{length, take, drop}
use borrow.Author.Tests.{lt-ltb, le-ltb, ltb-false, eq-eqb, ne_eqb, eqb-true, eqb-false, not-false}
use Rattle.refusals.specs.Names.{unknown_type, bad_unit, wrong_total, bad_value, bad_group, not_zero, no_room}
use Rattle.refusals.specs.Told.{told}
use Rattle.refusals.specs.ToldLaws.{passed_told, told_refuses}
use Rattle.kinds.specs.Kinds.{all_nul}
use Rattle.numbers.specs.Numbers.{patched}
use Rattle.numbers.proofs.Tail.{tail_is}
use Rattle.wire.specs.Header.{header_bytes, type_of, unit_of, number_of, total_of}
use Rattle.wire.proofs.FrameLaws.{passed}
use Rattle.block.specs.Slots.{zeros}
use Rattle.block.specs.SlotLaws.{put_in_zeros}
use Rattle.session_messages.specs.Sessions.{of_member, of_venue, unit_good, fixed_size, values_good, body_end, size_of, head_refusal, body_refusal, read_refusal, body_of, record_of, pick_reading, refuse, read_of, lists_refusal, values_refusal, unused_refusal, held_refusal, write_refusal, write_buffer}
use Rattle.session_messages.specs.ValueFields.{values_wrong}
use Rattle.session_messages.proofs.SessionLaws.{body-ends}
use Rattle.session_messages.specs.declared.Record.{Record}
use Rattle.session_messages.specs.declared.Message.{Message}
use Rattle.session_messages.specs.Types.{type_byte, message_as}
use Rattle.session_messages.proofs.TypeLaws.{found}
use Rattle.refusals.specs.Outcomes.{outcome_with}
use Rattle.refusals.specs.OutcomeLaws.{value_of, passed as passes}
use Rattle.std.specs.Prelude.{Result, Ok}

-- a chain that begins with 4 and 5: the head decides, or else what follows
by_head : (known unit : Bool) (x : ℕ)
    → cond (not known) unknown_type (cond (not unit) bad_unit x)
    ≡ cond (eqb (cond (not known) unknown_type (cond (not unit) bad_unit 0)) 0) x (cond (not known) unknown_type (cond (not unit) bad_unit 0))
by_head true true x = refl
by_head true false x = refl
by_head false unit x = refl

-- ---- reading

pub body_stages : (total message : ℕ) (b : List ℕ) → body_refusal total message b ≡ cond (eqb (values_refusal message b) 0)
    (cond (eqb (lists_refusal message b) 0) (cond (eqb (size_of message b) (length b)) 0 (told wrong_total total)) (lists_refusal message b))
    (values_refusal message b)
unfolding body_refusal values_refusal
body_stages total message b = by (values_good message b) (body_end message b)
  where
    last : (n : ℕ) (e : Bool) → eqb n (length b) ≡ e → cond (not (eqb (suc n) (length b + 1))) (told wrong_total total) 0 ≡ cond e 0 (told wrong_total total)
    last n true e = rw (eq-eqb (suc n) (length b + 1) (omega (arith, eqb-true _ _ e)))
    last n false e = rw (ne_eqb (suc n) (length b + 1) (λ z. eqb-false _ _ e (omega (arith, z))))

    by : (v : Bool) (n : ℕ) → cond (not v) (told bad_value (values_wrong message b)) (cond (eqb n 0) bad_group (cond (not (eqb n (length b + 1))) (told wrong_total total) 0))
        ≡ cond (eqb (cond v 0 (told bad_value (values_wrong message b))) 0)
        (cond (eqb (cond (eqb n 0) bad_group 0) 0) (cond (eqb (n - 1) (length b)) 0 (told wrong_total total)) (cond (eqb n 0) bad_group 0))
        (cond v 0 (told bad_value (values_wrong message b)))
    by false n = rw (told_refuses bad_value (values_wrong message b) (omega arith))
    by true zero = refl
    by true (suc n) =
        let k : n ≡ suc n - 1 = omega arith in
        rw (ne_eqb (suc n) 0 (λ z. omega (arith, z))) (last n (eqb n (length b)) refl ∙ ap (λ (i : ℕ). cond (eqb i (length b)) 0 (told wrong_total total)) k)

pub head_unknown : (message unit number : ℕ) → (of_member message || of_venue message) ≡ false → head_refusal message unit number ≡ unknown_type
unfolding head_refusal
head_unknown message unit number h = rw h refl

pub head_known : (message unit number : ℕ) (b : Bool) → (of_member message || of_venue message) ≡ true → unit_good unit number ≡ b → head_refusal message unit number ≡ cond b 0 bad_unit
unfolding head_refusal
head_known message unit number true h g = rw (h, g) refl
head_known message unit number false h g = rw (h, g) refl

-- a head that is not refused has the type of a message
head_typed : (message unit number : ℕ) → head_refusal message unit number ≡ 0 → type_byte (message_as message) ≡ message
unfolding head_refusal
head_typed message unit number z = found message (not-false _ (passed (not (of_member message || of_venue message)) _ _ z).0)

pub head_is : {r : Result Message ℕ} {k : Message} (message unit number : ℕ) → r ≡ outcome_with (head_refusal message unit number) (message_as message) → r ≡ Ok k → type_byte k ≡ message
head_is message unit number e g = ap type_byte (value_of _ _ e g) ∙ head_typed message unit number (passes _ _ e g)

pub read_stages : (m : List ℕ) (t u n : ℕ) → t ≡ type_of m → u ≡ unit_of m → n ≡ number_of m → read_refusal m ≡ cond (eqb (head_refusal t u n) 0)
    (cond (ltb (length m) (10 + fixed_size t)) (told wrong_total (total_of m)) (body_refusal (total_of m) t (drop 10 m)))
    (head_refusal t u n)
unfolding read_refusal head_refusal body_refusal
read_stages m t u n et eu en =
    rw (et, eu, en)
    (by_head (of_member (type_of m) || of_venue (type_of m)) (unit_good (unit_of m) (number_of m)) (cond (ltb (length m) (10 + fixed_size (type_of m))) (told wrong_total (total_of m)) (body_refusal (total_of m) (type_of m) (drop 10 m))))

-- what reading answers: the record, or the refusal
pub read_told : (m : List ℕ) → outcome_with (read_of m).refusal (read_of m).session ≡ outcome_with (read_refusal m) (record_of m)
unfolding read_of outcome_with
read_told m = by (read_refusal m)
  where
    by : (n : ℕ) → outcome_with (pick_reading (eqb n 0) (record { refusal = 0; session = record_of m }) (refuse n)).refusal (pick_reading (eqb n 0) (record { refusal = 0; session = record_of m }) (refuse n)).session
        ≡ outcome_with n (record_of m)
    by zero = refl
    by (suc n) = rw (ne_eqb (suc n) 0 (λ z. cc z)) refl

-- the body copied to the front of zeros
body_copied : (m : List ℕ) → 10 ≤ length m → patched (zeros 433) 0 (take (length m - 10) (drop 10 m)) ≡ body_of m
unfolding body_of
body_copied m h = ap (patched (zeros 433) 0) (tail_is m 10 h) ∙ put_in_zeros 433 (drop 10 m)

pub record_is : (m : List ℕ) → 10 ≤ length m → (t u n : ℕ) (b : List ℕ) → t ≡ type_of m → u ≡ unit_of m → n ≡ number_of m
    → b ≡ patched (zeros 433) 0 (take (length m - 10) (drop 10 m)) → ◌≡◌ {A = Record} (record { message = t; unit = u; number = n; body = b }) (record_of m)
record_is m h t u n b et eu en eb =
    let x : b ≡ body_of m = eb ∙ body_copied m h in
    cc

-- ---- a body that is held

-- what holds of a body that is not refused
pub record Held (message : ℕ) (b : List ℕ) : Type 0 where
  pub there : fixed_size message ≤ length b
  pub end : body_end message b ≡ suc (size_of message b)
  pub inside : size_of message b ≤ length b
  pub most : size_of message b ≤ 433

pub held_of : (message : ℕ) (b : List ℕ) → fixed_size message ≤ length b → (body_end message b ≡ 0 → ⊥) → Held message b
held_of message b l n =
    let e : body_end message b ≡ suc (size_of message b) = omega arith in
    let w = body-ends message b (size_of message b) l e in
    record { there = l; end = e; inside = w.inside; most = w.most }

pub held : (message : ℕ) (b : List ℕ) → held_refusal message b ≡ 0 → Held message b
unfolding held_refusal
held message b z =
    let ps = passed (ltb (length b) (fixed_size message)) _ _ z in
    let p10 = passed_told (not (values_good message b)) _ _ _ ps.1 in
    let p11 = passed (eqb (body_end message b) 0) _ _ p10.1 in
    held_of message b (ltb-false _ _ ps.0) (eqb-false _ _ p11.0)

pub held_stages : (message : ℕ) (b : List ℕ) → fixed_size message ≤ length b → held_refusal message b ≡ cond (eqb (values_refusal message b) 0)
    (cond (eqb (lists_refusal message b) 0) (cond (all_nul (drop (size_of message b) b)) 0 (unused_refusal message)) (lists_refusal message b))
    (values_refusal message b)
unfolding held_refusal values_refusal
held_stages message b l = rw (le-ltb (length b) (fixed_size message) l) (by (values_good message b) (eqb (body_end message b) 0) (all_nul (drop (size_of message b) b)))
  where
    by : (v n a : Bool) → cond (not v) (told bad_value (values_wrong message b)) (cond n bad_group (cond (not a) (unused_refusal message) 0))
        ≡ cond (eqb (cond v 0 (told bad_value (values_wrong message b))) 0) (cond (eqb (cond n bad_group 0) 0) (cond a 0 (unused_refusal message)) (cond n bad_group 0)) (cond v 0 (told bad_value (values_wrong message b)))
    by false n a = rw (told_refuses bad_value (values_wrong message b) (omega arith))
    by true true a = refl
    by true false true = refl
    by true false false = refl

pub held_short : (message : ℕ) (b : List ℕ) → length b < fixed_size message → held_refusal message b ≡ bad_group
unfolding held_refusal
held_short message b l = rw (lt-ltb _ _ l) refl

-- the same of a type that is equal
pub held_as : {r : Result ℕ ℕ} {t : ℕ} (message : ℕ) (b : List ℕ) → t ≡ message → r ≡ outcome_with (held_refusal t b) (size_of t b) → r ≡ outcome_with (held_refusal message b) (size_of message b)
held_as message b e h = h ∙ ap (λ (k : ℕ). outcome_with (held_refusal k b) (size_of k b)) e

-- 11 or 12
pub unused_some : (message : ℕ) → 0 < unused_refusal message
unused_some message = by (eqb (fixed_size message) 0)
  where
    by : (b : Bool) → 0 < cond b not_zero bad_group
    by true = omega arith
    by false = omega arith

-- where the lists are not refused
pub lists_pass : (message : ℕ) (b : List ℕ) → lists_refusal message b ≡ 0 → body_end message b ≡ 0 → ⊥
lists_pass message b h z = by (body_end message b) z h
  where
    by : (n : ℕ) → n ≡ 0 → cond (eqb n 0) bad_group 0 ≡ 0 → ⊥
    by n z h = let k : cond true bad_group 0 ≡ 0 = rw (eq-eqb n 0 z) at h in omega (arith, k)

-- ---- writing

-- a chain of the body's refusals, of which one has a place: they decide, or else what follows
by_held : (short values end nul alone : Bool) (place x : ℕ)
    → cond short bad_group (cond (not values) (told bad_value place) (cond end bad_group (cond (not nul) (cond alone not_zero bad_group) x)))
    ≡ cond (eqb (cond short bad_group (cond (not values) (told bad_value place) (cond end bad_group (cond (not nul) (cond alone not_zero bad_group) 0)))) 0) x
    (cond short bad_group (cond (not values) (told bad_value place) (cond end bad_group (cond (not nul) (cond alone not_zero bad_group) 0))))
by_held true values end nul alone place x = refl
by_held false false end nul alone place x = sym (ap (λ (b : Bool). cond b x (told bad_value place)) (told_refuses bad_value place (omega arith)))
by_held false true true nul alone place x = refl
by_held false true false false true place x = refl
by_held false true false false false place x = refl
by_held false true false true alone place x = refl

pub write_stages : (message unit number : ℕ) (b : List ℕ) (room : ℕ) → write_refusal message unit number b room ≡ cond (eqb (head_refusal message unit number) 0)
    (cond (eqb (held_refusal message b) 0) (cond (ltb room (10 + size_of message b)) no_room 0) (held_refusal message b))
    (head_refusal message unit number)
unfolding write_refusal head_refusal held_refusal
write_stages message unit number b room =
    by_head (of_member message || of_venue message) (unit_good unit number)
    (cond (ltb (length b) (fixed_size message)) bad_group (cond (not (values_good message b)) (told bad_value (values_wrong message b)) (cond (eqb (body_end message b) 0) bad_group (cond (not (all_nul (drop (size_of message b) b))) (unused_refusal message) (cond (ltb room (10 + size_of message b)) no_room 0)))))
    ∙ ap (λ (x : ℕ). cond (eqb (head_refusal message unit number) 0) x (head_refusal message unit number))
    (by_held (ltb (length b) (fixed_size message)) (values_good message b) (eqb (body_end message b) 0) (all_nul (drop (size_of message b) b)) (eqb (fixed_size message) 0) (values_wrong message b) (cond (ltb room (10 + size_of message b)) no_room 0))

-- what the buffer holds
module _ (message unit number : ℕ) (b out : List ℕ) where
  pub buffer_kept : (n : ℕ) → n ≡ write_refusal message unit number b (length out) → (n ≡ 0 → ⊥) → out ≡ write_buffer message unit number b out
  unfolding write_buffer
  buffer_kept n e z = rw (ne_eqb (write_refusal message unit number b (length out)) 0 (λ q. z (e ∙ q)))

  pub buffer_written : write_refusal message unit number b (length out) ≡ 0 → (n : ℕ) → n ≡ size_of message b → (ys : List ℕ) → ys ≡ patched out 0 (header_bytes (8 + n) message unit number ++ take n b)
      → ys ≡ write_buffer message unit number b out
  unfolding write_buffer
  buffer_written z n s ys e =
      rw (eq-eqb (write_refusal message unit number b (length out)) 0 z)
      (e ∙ ap (λ (k : ℕ). patched out 0 (header_bytes (8 + k) message unit number ++ take k b)) s)
