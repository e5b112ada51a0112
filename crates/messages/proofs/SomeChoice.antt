-- That there are choices of each type with bitfields, so that `every_choice_is_taken` is not empty.
--     a_fixed_part_is_good              there is a good fixed part of each type
--     all_listed_bits_are_a_choice      all listed bits of a type at once are a choice, with as many bitfields as it may have
--     an_order_of_each_type_is_taken    so an order of each type, with all listed bits, any unit that fits and any number, is taken both ways
-- Assumes nothing.
use Rattle.std.specs.Prelude.{◌≡◌, refl, Bool, true, false, ◌||◌, List, ◌∷◌, ◌++◌, ℕ, zero, suc, ◌+◌, ◌-◌, ◌≤◌, ◌<◌, length, get_or}
use Rattle.std.proofs.Common.{sym, ap, ap₂, ◌∙◌, subst, arith}
use Rattle.std.proofs.lemmas.Bool.{false≢true}
use Rattle.dictionary.specs.declared.Entry.{Entry}
use Rattle.dictionary.specs.declared.Entry.TheVariants.{Refused}
use Rattle.dictionary.specs.Dictionary.{entry_of, is_new_order}
use Rattle.wire.specs.HeaderLaws.{Bytes}
use Rattle.block.specs.Slots.{zeros, slot, bad_slot, any_bad}
use Rattle.block.specs.Places.{selected_at, entry_at, slots_from, slots_of}
use Rattle.block.specs.FieldPlaces.{AllListed}
use Rattle.block.specs.Sizes.{fixed_size, fixed_end, most_bitfields, all_places}
use Rattle.orders.specs.Shapes.{count_at, most_of, fixed_good}
use Rattle.messages.specs.ByteLaws.{bytes-front, bytes_append, zero_byte, bytes-zeros, below, bytes_below, ends_at}
use Rattle.messages.specs.OrderPlaces.{order_most}
use Rattle.messages.specs.Taken.{TakenBothWays}
use Rattle.messages.specs.ValidOrders.{order_of, UnitFits, GoodFixed, GoodBits, chosen_record, sample_fixed, all_bits}
use Rattle.messages.proofs.FieldPlace.{selected_small, by_type}
use Rattle.messages.proofs.EveryChoice.{known_type, every_choice_is_taken}

venue_bytes_lem : Bytes (zeros 8 ++ (65 ∷ zeros (fixed_size - 9)))
venue_bytes_lem = bytes_append (zeros 8) (65 ∷ zeros (fixed_size - 9)) (bytes-zeros 8) (bytes-front 65 (zeros (fixed_size - 9)) (omega arith) (bytes-zeros (fixed_size - 9)))

-- A FIXED PART IS GOOD: there is one of each type
pub a_fixed_part_is_good : (direction message : ℕ) → order_of direction message ≡ true → GoodFixed message (sample_fixed message)
unfolding fixed_good count_at
a_fixed_part_is_good direction message o =
    by_type message (known_type direction message o).is_order_lem (λ (x : ℕ). GoodFixed x (sample_fixed x))
    (new_order_lem 0x38 refl refl refl (λ o. omega (arith, o))) (new_order_lem 0xB8 refl refl refl (λ o. omega (arith, o)))
    (record {
      whole = refl;
      bytes = bytes-front 65 (zeros (fixed_size - 1)) (omega arith) (bytes-zeros (fixed_size - 1));
      good = refl;
      groups = λ o. absurd (omega (arith, o));
      ends = λ i h. ends_at 20 (fixed_size - 20) (65 ∷ zeros (fixed_size - 1)) refl i (omega arith);
    })
    (record {
      whole = refl;
      bytes = bytes_append (65 ∷ zeros 19) (65 ∷ zeros (fixed_size - 21)) (bytes-front 65 (zeros 19) (omega arith) (bytes-zeros 19)) (bytes-front 65 (zeros (fixed_size - 21)) (omega arith) (bytes-zeros (fixed_size - 21)));
      good = refl;
      groups = λ o. absurd (omega (arith, o));
      ends = λ i h. ends_at 40 (fixed_size - 40) (65 ∷ zeros 19 ++ (65 ∷ zeros (fixed_size - 21))) refl i (omega arith);
    })
    (record {
      whole = refl;
      bytes = bytes-zeros fixed_size;
      good = refl;
      groups = λ o. omega arith;
      ends = λ i h. zero_byte fixed_size i;
    })
    (record {
      whole = refl;
      bytes = venue_bytes_lem;
      good = refl;
      groups = λ o. absurd (omega (arith, o));
      ends = λ i h. ends_at 37 (fixed_size - 37) (zeros 8 ++ (65 ∷ zeros (fixed_size - 9))) refl i (omega arith);
    })
    (record {
      whole = refl;
      bytes = venue_bytes_lem;
      good = refl;
      groups = λ o. absurd (omega (arith, o));
      ends = λ i h. ends_at 59 (fixed_size - 59) (zeros 8 ++ (65 ∷ zeros (fixed_size - 9))) refl i (omega arith);
    })
    (rejection 0x26 refl refl refl (λ o. omega (arith, o))) (rejection 0x29 refl refl refl (λ o. omega (arith, o))) (rejection 0x2B refl refl refl (λ o. omega (arith, o)))
  where
    -- a New Order, of either market
    new_order_lem : (x : ℕ) → sample_fixed x ≡ 65 ∷ zeros 19 ++ (49 ∷ 1 ∷ zeros (fixed_size - 22)) → fixed_good x (sample_fixed x) ≡ true → count_at x ≡ 35 → (x ≡ 0x47 → ⊥) → GoodFixed x (sample_fixed x)
    new_order_lem x e g n o = record {
      whole = ap length e;
      bytes = subst Bytes (sym e) (bytes_append (65 ∷ zeros 19) (49 ∷ 1 ∷ zeros (fixed_size - 22)) (bytes-front 65 (zeros 19) (omega arith) (bytes-zeros 19)) (bytes-front 49 (1 ∷ zeros (fixed_size - 22)) (omega arith) (bytes-front 1 (zeros (fixed_size - 22)) (omega arith) (bytes-zeros (fixed_size - 22)))));
      good = g;
      groups = λ q. absurd (o q);
      ends = λ i h. ap (λ (l : List ℕ). get_or l i 0) e ∙ ends_at 25 (fixed_size - 25) (65 ∷ zeros 19 ++ (49 ∷ 1 ∷ zeros (fixed_size - 22))) refl i (omega (arith, n, h));
    }

    -- a rejection: its fixed part is the longest
    rejection : (x : ℕ) → sample_fixed x ≡ zeros 8 ++ (65 ∷ zeros (fixed_size - 9)) → fixed_good x (sample_fixed x) ≡ true → count_at x ≡ fixed_end → (x ≡ 0x47 → ⊥) → GoodFixed x (sample_fixed x)
    rejection x e g n o = record {
      whole = ap length e;
      bytes = subst Bytes (sym e) venue_bytes_lem;
      good = g;
      groups = λ q. absurd (o q);
      ends = λ i h. ap (λ (l : List ℕ). get_or l i 0) e ∙ ends_at fixed_size 0 (zeros 8 ++ (65 ∷ zeros (fixed_size - 9))) refl i (omega (arith, n, h));
    }

-- where no slot is bad, every set bit among them is listed
none_bad_listed : (set : ℕ → Bool) (entry : ℕ → Entry) (n k : ℕ) → any_bad (slots_from set entry n k) ≡ false → (i : ℕ) → i < n → set (k + i) ≡ true → entry (k + i) ≡ Refused → ⊥
unfolding slots_from
none_bad_listed set entry zero k z i h e q = absurd (omega (arith, h))
none_bad_listed set entry (suc n) k z zero h e q =
    let p : k + 0 ≡ k = omega arith in
    let e' : set k ≡ true = ap set (sym p) ∙ e in
    let q' : entry k ≡ Refused = ap entry (sym p) ∙ q in
    let y : (bad_slot (slot true Refused) || any_bad (slots_from set entry n (suc k))) ≡ false = sym (ap₂ (λ (b : Bool) (x : Entry). bad_slot (slot b x) || any_bad (slots_from set entry n (suc k))) e' q') ∙ z in
    absurd (false≢true (sym y))
none_bad_listed set entry (suc n) k z (suc i) h e q =
    let p : suc k + i ≡ k + suc i = omega arith in
    none_bad_listed set entry n (suc k) (rest (bad_slot (slot (set k) (entry k))) (any_bad (slots_from set entry n (suc k))) z) i (omega arith) (ap set p ∙ e) (ap entry p ∙ q)
  where
    rest : (a b : Bool) → (a || b) ≡ false → b ≡ false
    rest true b y = absurd (false≢true (sym y))
    rest false b y = y

all_listed : (message count : ℕ) (bits : List ℕ) → count ≤ most_bitfields → any_bad (slots_of message count bits) ≡ false → AllListed (selected_at count bits) (entry_at message)
all_listed message count bits few z k e q =
    let p : 0 + k ≡ k = omega arith in
    none_bad_listed (selected_at count bits) (entry_at message) all_places 0 z k (selected_small count bits k e few) (ap (selected_at count bits) p ∙ e) (ap (entry_at message) p ∙ q)

-- a type that requires no field
abbrev Plain : ℕ → Type 0
Plain x = (is_new_order x ≡ true → ⊥) × (x ≡ 0x3A → ⊥) × (x ≡ 0x47 → ⊥)

-- ALL LISTED BITS at once are a choice, of each type
pub all_listed_bits_are_a_choice : (direction message : ℕ) → order_of direction message ≡ true → GoodBits message (most_of message) (all_bits message)
unfolding most_of selected_at entry_at entry_of slots_from
all_listed_bits_are_a_choice direction message o =
    by_type message (known_type direction message o).is_order_lem (λ (x : ℕ). GoodBits x (most_of x) (all_bits x))
    (record {
      whole = refl;
      bytes = bytes_below (all_bits 0x38) refl;
      few = omega arith;
      ends = ends_at 10 (most_bitfields - 10) (all_bits 0x38) refl;
      listed = all_listed 0x38 10 (all_bits 0x38) (omega arith) refl;
      required = record { symbol = λ q. refl; capacity = λ q. refl; price_or_type = λ q. refl; quantity = λ q. absurd (omega (arith, q)); new_price_or_type = λ q. absurd (omega (arith, q)); instruction = λ q. absurd (omega (arith, q)) };
    })
    (record {
      whole = refl;
      bytes = bytes_below (all_bits 0xB8) refl;
      few = omega arith;
      ends = ends_at 10 (most_bitfields - 10) (all_bits 0xB8) refl;
      listed = all_listed 0xB8 10 (all_bits 0xB8) (omega arith) refl;
      required = record { symbol = λ q. refl; capacity = λ q. refl; price_or_type = λ q. refl; quantity = λ q. absurd (omega (arith, q)); new_price_or_type = λ q. absurd (omega (arith, q)); instruction = λ q. absurd (omega (arith, q)) };
    })
    (without 0x39 2 refl (λ q. false≢true q, λ q. omega (arith, q), λ q. omega (arith, q)) (omega arith) refl refl (ends_at 2 (most_bitfields - 2) (all_bits 0x39) refl) refl)
    (record {
      whole = refl;
      bytes = bytes_below (all_bits 0x3A) refl;
      few = omega arith;
      ends = ends_at 2 (most_bitfields - 2) (all_bits 0x3A) refl;
      listed = all_listed 0x3A 2 (all_bits 0x3A) (omega arith) refl;
      required = record { symbol = λ q. absurd (false≢true q); capacity = λ q. absurd (false≢true q); price_or_type = λ q. absurd (false≢true q); quantity = λ q. refl; new_price_or_type = λ q. refl; instruction = λ q. absurd (omega (arith, q)) };
    })
    (record {
      whole = refl;
      bytes = bytes_below (all_bits 0x47) refl;
      few = omega arith;
      ends = ends_at 2 (most_bitfields - 2) (all_bits 0x47) refl;
      listed = all_listed 0x47 2 (all_bits 0x47) (omega arith) refl;
      required = record { symbol = λ q. absurd (false≢true q); capacity = λ q. absurd (false≢true q); price_or_type = λ q. absurd (false≢true q); quantity = λ q. absurd (omega (arith, q)); new_price_or_type = λ q. absurd (omega (arith, q)); instruction = λ q. refl };
    })
    (without 0x25 15 refl (λ q. false≢true q, λ q. omega (arith, q), λ q. omega (arith, q)) (omega arith) refl refl (ends_at 15 (most_bitfields - 15) (all_bits 0x25) refl) refl)
    (without 0x2C 15 refl (λ q. false≢true q, λ q. omega (arith, q), λ q. omega (arith, q)) (omega arith) refl refl (ends_at 15 (most_bitfields - 15) (all_bits 0x2C) refl) refl)
    (without 0x26 19 refl (λ q. false≢true q, λ q. omega (arith, q), λ q. omega (arith, q)) (omega arith) refl refl (ends_at 19 (most_bitfields - 19) (all_bits 0x26) refl) refl)
    (without 0x29 19 refl (λ q. false≢true q, λ q. omega (arith, q), λ q. omega (arith, q)) (omega arith) refl refl (ends_at 19 (most_bitfields - 19) (all_bits 0x29) refl) refl)
    (without 0x2B 19 refl (λ q. false≢true q, λ q. omega (arith, q), λ q. omega (arith, q)) (omega arith) refl refl (ends_at 19 (most_bitfields - 19) (all_bits 0x2B) refl) refl)
  where
    -- a type that requires no field
    without : (x count : ℕ) → most_of x ≡ count → Plain x → count ≤ most_bitfields → length (all_bits x) ≡ most_bitfields → below (all_bits x) ≡ true → ((i : ℕ) → count ≤ i → get_or (all_bits x) i 0 ≡ 0)
        → any_bad (slots_of x count (all_bits x)) ≡ false → GoodBits x (most_of x) (all_bits x)
    without x count e none few long small ends z =
        subst (λ (n : ℕ). GoodBits x n (all_bits x)) (sym e)
        (record {
          whole = long;
          bytes = bytes_below (all_bits x) small;
          few = omega (arith, e);
          ends = ends;
          listed = all_listed x count (all_bits x) few z;
          required = record { symbol = λ q. absurd (none.0 q); capacity = λ q. absurd (none.0 q); price_or_type = λ q. absurd (none.0 q); quantity = λ q. absurd (none.1 q); new_price_or_type = λ q. absurd (none.1 q); instruction = λ q. absurd (none.2 q) };
        })

-- AN ORDER OF EACH TYPE IS TAKEN
pub an_order_of_each_type_is_taken : (direction message unit number : ℕ) → order_of direction message ≡ true → UnitFits message unit number → number < 4294967296 → (out : List ℕ) → order_most ≤ length out
    → TakenBothWays direction (chosen_record message unit number (sample_fixed message) (most_of message) (all_bits message)) out
an_order_of_each_type_is_taken direction message unit number o u n out h =
    every_choice_is_taken direction message unit number (sample_fixed message) (most_of message) (all_bits message) o u n (a_fixed_part_is_good direction message o) (all_listed_bits_are_a_choice direction message o) out h
