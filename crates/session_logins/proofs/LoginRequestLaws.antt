-- What is true of a Login Request that is built from the table.
--     said-most              234 bytes of room are enough for it
--     login_is_written       what is in order is written,
--     login-bytes            as the header and what the login says
--     whole_is_written       and that is so with the whole table in either form, with no choice given or the full list by name,
--     chosen_is_written      with a choice in order,
--     none_is_written        and with no group of units
--     flag-refused           a flag of 2 or more in the choice is 11
--     unit-refused           so is a unit twice, or one outside 1 to 32,
--     many-refused           and so are more than 32 units
-- Assumes nothing.
use Rattle.std.specs.Prelude.{◌≡◌, refl, ◌⊎◌, Bool, cond, ◌&&◌, leb, replicate}
use Rattle.std.proofs.Math.Path.{sym, ap, ap₂}
use Rattle.std.proofs.Common.{◌∙◌, subst, inl, inr, length-take-le}
use Rattle.std.proofs.Math.Bool.{true, false, and-eq-true_iff}
use mathlib.Core.List.{List, [], ◌∷◌, ◌++◌, append_assoc, append-nil}
use Prim.Native.Nat.{ℕ, zero, suc, ◌+◌, ◌-◌, ◌*◌, ◌≤◌, ◌<◌}
use native.Mathlib.Omega.{arith}
use Rattle.std.proofs.Math.Dec.{eqb}
use Rattle.std.proofs.Math.ListN.{length, get_or, take, drop, length-append}
use Rattle.std.proofs.Math.Seq.{drop_at, get_or_at, take-append_seam}
use borrow.Author.Tests.{leb-true, le-ltb, le-leb, lt-leb, lt-ltb, eq-eqb, ne_eqb, eqb-true}
use Rattle.numbers.specs.Numbers.{number_at, bytes_of}
use Rattle.numbers.specs.NumberLaws.{bytes-first}
use Rattle.wire.specs.Header.{header_bytes}
use Rattle.kinds.specs.Kinds.{all_nul}
use Rattle.block.specs.Slots.{zeros}
use Rattle.block.specs.SlotLaws.{zeros_are_nul}
use Rattle.table.specs.declared.Table.{Table}
use Rattle.table.specs.declared.Unit.{Unit}
use Rattle.table.specs.Table.{last_of}
use Rattle.session_groups.specs.Groups.{free, mark, unit_at, units_from, pairs_good, group_key, group_size, next_size, groups_from, groups_end}
use Rattle.session_groups.specs.Values.{Distinct, Pair, pair_bytes, pairs_bytes, units_of, PairsInOrder, Group, group_bytes, groups_bytes, kinds_of, InOrder, EachInOrder, GroupsInOrder, fresh}
use Rattle.session_groups.specs.Values.Group.{units, bits}
use Rattle.session_groups.proofs.NotTwice.{not_twice}
use Rattle.session_groups.proofs.ValueLaws.{pairs_length, a_value_is_groups}
use Rattle.session_groups.proofs.Ascending.{ascending_in_order, full_list}
use Rattle.session_messages.specs.Sessions.{names_good, values_good, fixed_size, flag_good, after, lists_end, body_end, size_of, write_refusal, record_refusal, session_bytes}
use Rattle.session_messages.proofs.SessionLaws.{names-front, is_written}
use Rattle.session_logins.specs.declared.Choice.{Choice}
use Rattle.session_logins.specs.declared.Bitfields.{Bitfields}
use Rattle.session_logins.proofs.UsedUnits.{used_pairs, used_few, filled_long, used_pairs_lem, used_ascends, used_fit}
use Rattle.session_logins.specs.LoginRequests.{used_from, used_units, whole_table, numbers_of, pick_choice, choice_of, least, pairs_for, units_group, bits_group, part, units_part, bits_part, one, group_count, groups_part, said_of, padded, login_record}

-- ---- the choice

-- given none, it is the units whose entry is above 0
pub choice_default : (t : Table) (c : Choice) → c.which ≡ 0 → used_units t ≡ choice_of t c
unfolding choice_of
choice_default t c z = sym (ap (λ (b : Bool). pick_choice b (used_units t) c) (eq-eqb c.which 0 z))

-- any other stays as it is
pub choice_kept : (t : Table) (c : Choice) → (c.which ≡ 0 → ⊥) → c ≡ choice_of t c
unfolding choice_of
choice_kept t c n = sym (ap (λ (b : Bool). pick_choice b (used_units t) c) (ne_eqb c.which 0 n))

pub least_first : (a b : ℕ) → a ≤ b → a ≡ least a b
least_first a b h = rw (le-leb a b h)

pub numbers_long : (us : List Unit) → length (numbers_of us) ≡ length us
numbers_long [] = refl
numbers_long (u ∷ us) = ap suc (numbers_long us)

pub pairs_many : (t : Table) (us : List ℕ) → length (pairs_for t us) ≡ length us
pairs_many t [] = refl
pairs_many t (u ∷ us) = ap suc (pairs_many t us)

-- ---- sizes

pub pairs_size : (t : Table) (us : List ℕ) → length (pairs_bytes (pairs_for t us)) ≡ 5 * length us
pairs_size t us = pairs_length (pairs_for t us) ∙ ap (λ (n : ℕ). 5 * n) (pairs_many t us)

pub take-most : (n : ℕ) (l : List ℕ) → length (take n l) ≤ n
take-most zero l = omega arith
take-most (suc n) [] = omega arith
take-most (suc n) (x ∷ l) = let h = take-most n l in omega arith

pub least-most : (a b : ℕ) → least a b ≤ b
least-most a b = by (leb a b) refl
  where
    by : (t : Bool) → leb a b ≡ t → cond t a b ≤ b
    by true e = leb-true a b e
    by false e = omega arith

module _ (t : Table) (c : Choice) where
  group-most : length (units_group t c) ≤ 165
  group-most =
      let n = pairs_size t (take (least c.count 32) (numbers_of c.units)) in
      let m = take-most (least c.count 32) (numbers_of c.units) in
      let k = least-most c.count 32 in
      omega arith

  pub units_most : length (units_part t c) ≤ 165
  unfolding units_part
  units_most = by (eqb c.which 1)
    where
      by : (b : Bool) → length (part b (units_group t c)) ≤ 165
      by true = group-most
      by false = omega arith

module _ (kind : ℕ) (b : Bitfields) where
  bits_group-most : length (bits_group kind b) ≤ 20
  bits_group-most =
      let m = take-most (least b.count 15) b.bits in
      let k = least-most b.count 15 in
      omega arith

  pub bits_most : length (bits_part kind b) ≤ 20
  unfolding bits_part
  bits_most = by b.given
    where
      by : (x : Bool) → length (part x (bits_group kind b)) ≤ 20
      by true = bits_group-most
      by false = omega arith

pub both_most : (a e : Bitfields) → length (bits_part 0x25 a ++ bits_part 0x2C e) ≤ 40
both_most a e = omega (arith, length-append (bits_part 0x25 a) (bits_part 0x2C e), bits_most 0x25 a, bits_most 0x2C e)

pub groups_most : (t : Table) (c : Choice) (a e : Bitfields) → length (groups_part t c a e) ≤ 205
groups_most t c a e =
    omega (arith, length-append (units_part t c) (bits_part 0x25 a ++ bits_part 0x2C e), both_most a e, units_most t c)

-- 234 bytes of room are enough for any Login Request
pub said-most : (table : Table) (c : Choice) (names : List ℕ) (acknowledgments executions : Bitfields) → length names ≡ 18 → 10 + length (said_of table c names acknowledgments executions) ≤ 234
said-most table c names a e h =
    omega (arith, length-append names (group_count c a e ∷ groups_part table c a e), groups_most table c a e, h)

-- ---- groups as values

-- a choice of units in order: flag 0 or 1, at most 32 units, each 1 to 32 and none twice
pub record ChoiceInOrder (table : Table) (c : Choice) : Type 0 where
  pub flag_is : c.flag < 2
  pub few : c.count ≤ 32
  pub there : length c.units ≡ 32
  pub pairs : PairsInOrder (pairs_for table (take c.count (numbers_of c.units)))

-- the whole table is, in either form
pub whole-in_order : (table : Table) → ((u : ℕ) → last_of table u < 4294967296) → (full : Bool) → ChoiceInOrder table (choice_of table (whole_table full))
unfolding choice_of
whole-in_order table fit true = record { flag_is = omega arith; few = omega arith; there = refl; pairs = full_list (last_of table) fit }
whole-in_order table fit false = record {
  flag_is = omega arith;
  few = used_few table 32 1;
  there = filled_long (used_from table 32 1) (used_few table 32 1);
  pairs = subst PairsInOrder (sym (used_pairs_lem table)) (ascending_in_order (used_pairs table) (used_ascends table) (used_fit table fit));
}

-- bitfields in order: at most 15 of them, each any byte
pub record BitsInOrder (b : Bitfields) : Type 0 where
  pub few : b.count ≤ 15
  pub there : length b.bits ≡ 15
  pub bytes : (i : ℕ) → get_or b.bits i 0 < 256

-- the groups as values
abbrev pub some : Bool → Group → List Group → List Group
some true g gs = g ∷ gs
some false g gs = gs

abbrev pub units_value : Table → Choice → Group
units_value table c = units c.flag (pairs_for table (take c.count (numbers_of c.units)))

abbrev pub bits_value : ℕ → Bitfields → Group
bits_value type b = bits type (take b.count b.bits)

abbrev pub groups_value : Table → Choice → Bitfields → Bitfields → List Group
groups_value table c a e = some (eqb c.which 1) (units_value table c) (some a.given (bits_value 0x25 a) (some e.given (bits_value 0x2C e) []))

pub units_bytes : (table : Table) (c : Choice) → c.count ≤ 32 → length c.units ≡ 32 → units_group table c ≡ group_bytes (units_value table c)
units_bytes table c few there =
    let l : length (pairs_for table (take c.count (numbers_of c.units))) ≡ c.count = pairs_many table (take c.count (numbers_of c.units)) ∙ length-take-le c.count (numbers_of c.units) (omega (arith, few, there, numbers_long c.units)) in
    ap (λ (k : ℕ). bytes_of 2 (5 + 5 * c.count) ++ (0x80 ∷ c.flag ∷ c.count ∷ pairs_bytes (pairs_for table (take k (numbers_of c.units))))) (sym (least_first c.count 32 few))
    ∙ ap (λ (k : ℕ). bytes_of 2 (5 + 5 * k) ++ (0x80 ∷ c.flag ∷ k ∷ pairs_bytes (pairs_for table (take c.count (numbers_of c.units))))) (sym l)

bits_bytes : (type : ℕ) (b : Bitfields) → BitsInOrder b → bits_group type b ≡ group_bytes (bits_value type b)
bits_bytes type b o =
    let l : length (take b.count b.bits) ≡ b.count = length-take-le b.count b.bits (omega (arith, o.few, o.there)) in
    ap (λ (k : ℕ). bytes_of 2 (5 + b.count) ++ (0x81 ∷ type ∷ b.count ∷ take k b.bits)) (sym (least_first b.count 15 o.few))
    ∙ ap (λ (k : ℕ). bytes_of 2 (5 + k) ++ (0x81 ∷ type ∷ k ∷ take b.count b.bits)) (sym l)

bits_in_order : (type : ℕ) (b : Bitfields) → (type ≡ 0x25) ⊎ (type ≡ 0x2C) → BitsInOrder b → InOrder (bits_value type b)
bits_in_order type b k o = (k, omega (arith, o.few, length-take-le b.count b.bits (omega (arith, o.few, o.there))), bytes-first b.count b.bits o.bytes)

module _ (table : Table) (c : Choice) (a e : Bitfields) where
  -- by what is there: the bytes, the count, and the rules
  bytes_by : (u v w : Bool) → (u ≡ true → ChoiceInOrder table c) → (v ≡ true → BitsInOrder a) → (w ≡ true → BitsInOrder e)
      → part u (units_group table c) ++ (part v (bits_group 0x25 a) ++ part w (bits_group 0x2C e))
      ≡ groups_bytes (some u (units_value table c) (some v (bits_value 0x25 a) (some w (bits_value 0x2C e) [])))
  bytes_by u v w p q r =
      let last : List Group = some w (bits_value 0x2C e) [] in
      let both : List Group = some v (bits_value 0x25 a) (some w (bits_value 0x2C e) []) in
      parts u (units_group table c) (units_value table c) _ both (λ h. units_bytes table c (p h).few (p h).there)
      (parts v (bits_group 0x25 a) (bits_value 0x25 a) _ last (λ h. bits_bytes 0x25 a (q h)) (alone w (bits_group 0x2C e) (bits_value 0x2C e) (λ h. bits_bytes 0x2C e (r h))))
    where
      parts : (x : Bool) (g : List ℕ) (y : Group) (s : List ℕ) (gs : List Group) → (x ≡ true → g ≡ group_bytes y) → s ≡ groups_bytes gs → part x g ++ s ≡ groups_bytes (some x y gs)
      parts true g y s gs h k = ap₂ (λ (i j : List ℕ). i ++ j) (h refl) k
      parts false g y s gs h k = k

      alone : (x : Bool) (g : List ℕ) (y : Group) → (x ≡ true → g ≡ group_bytes y) → part x g ≡ groups_bytes (some x y [])
      alone true g y h = h refl ∙ sym (append-nil (group_bytes y))
      alone false g y h = refl

  count_by : (u v w : Bool) → one u + (one v + one w) ≡ length (some u (units_value table c) (some v (bits_value 0x25 a) (some w (bits_value 0x2C e) [])))
  count_by true true true = refl
  count_by true true false = refl
  count_by true false true = refl
  count_by true false false = refl
  count_by false true true = refl
  count_by false true false = refl
  count_by false false true = refl
  count_by false false false = refl

  each_by : (x : Bool) (y : Group) (gs : List Group) → (x ≡ true → InOrder y) → EachInOrder gs → EachInOrder (some x y gs)
  each_by true y gs h k = (h refl, k)
  each_by false y gs h k = k

  fresh_by : (u v w : Bool) → (u ≡ true → c.flag < 2) → fresh (0 ∷ 0 ∷ 0 ∷ 0 ∷ []) (kinds_of (some u (units_value table c) (some v (bits_value 0x25 a) (some w (bits_value 0x2C e) [])))) ≡ true
  fresh_by true true true h = rw (lt-ltb c.flag 2 (h refl))
  fresh_by true true false h = rw (lt-ltb c.flag 2 (h refl))
  fresh_by true false true h = rw (lt-ltb c.flag 2 (h refl))
  fresh_by true false false h = rw (lt-ltb c.flag 2 (h refl))
  fresh_by false true true h = refl
  fresh_by false true false h = refl
  fresh_by false false true h = refl
  fresh_by false false false h = refl

  module _ (p : c.which ≡ 1 → ChoiceInOrder table c) (q : a.given ≡ true → BitsInOrder a) (r : e.given ≡ true → BitsInOrder e) where
    pub bytes_are : groups_part table c a e ≡ groups_bytes (groups_value table c a e)
    unfolding units_part bits_part
    bytes_are = bytes_by (eqb c.which 1) a.given e.given (λ h. p (eqb-true _ _ h)) q r

    pub count_is : group_count c a e ≡ length (groups_value table c a e)
    unfolding group_count
    count_is = count_by (eqb c.which 1) a.given e.given

    pub value_in_order : GroupsInOrder (groups_value table c a e)
    value_in_order = record {
      each =
          each_by (eqb c.which 1) (units_value table c) (some a.given (bits_value 0x25 a) (some e.given (bits_value 0x2C e) []))
          (λ h. ((p (eqb-true _ _ h)).flag_is, (p (eqb-true _ _ h)).pairs))
          (each_by a.given (bits_value 0x25 a) (some e.given (bits_value 0x2C e) [])
          (λ h. bits_in_order 0x25 a (inl refl) (q h))
          (each_by e.given (bits_value 0x2C e) [] (λ h. bits_in_order 0x2C e (inr refl) (r h)) tt));
      kinds = not_twice 3 (kinds_of (groups_value table c a e)) (fresh_by (eqb c.which 1) a.given e.given (λ h. (p (eqb-true _ _ h)).flag_is));
    }

-- ---- writing

-- names, a count and the bytes of as many groups in order, and zeros after them, are written where there is room
module _ (names : List ℕ) (gs : List Group) (k room : ℕ) (long : length names ≡ 18) (good : names_good names ≡ true) (o : GroupsInOrder gs)
    (has_room : 10 + (19 + length (groups_bytes gs)) ≤ room) where
  said : List ℕ
  said = names ++ (length gs ∷ groups_bytes gs)

  said-length : length said ≡ 19 + length (groups_bytes gs)
  unfolding said
  said-length = omega (arith, length-append names (length gs ∷ groups_bytes gs), long)

  as_parts : said ++ zeros k ≡ names ++ (length gs ∷ (groups_bytes gs ++ zeros k))
  unfolding said
  as_parts = append_assoc names (length gs ∷ groups_bytes gs) (zeros k)

  end_is : body_end 0x37 (said ++ zeros k) ≡ suc (19 + length (groups_bytes gs))
  unfolding body_end fixed_size flag_good lists_end
  end_is =
      let n : get_or (said ++ zeros k) 18 0 ≡ length gs = ap (λ (l : List ℕ). get_or l 18 0) as_parts ∙ get_or_at names (length gs) (groups_bytes gs ++ zeros k) 0 18 long in
      let b : names ++ (length gs ∷ (groups_bytes gs ++ zeros k)) ≡ (names ++ (length gs ∷ [])) ++ (groups_bytes gs ++ zeros k) = sym (append_assoc names (length gs ∷ []) (groups_bytes gs ++ zeros k)) in
      let d : drop 19 (said ++ zeros k) ≡ groups_bytes gs ++ zeros k =
      ap (drop 19) (as_parts ∙ b) ∙ drop_at (names ++ (length gs ∷ [])) (groups_bytes gs ++ zeros k) 19 (omega (arith, length-append names (length gs ∷ []), long)) in
      ap (after 19) (ap₂ groups_end n d ∙ a_value_is_groups gs (zeros k) o)

  pub size_is : size_of 0x37 ((names ++ (length gs ∷ groups_bytes gs)) ++ zeros k) ≡ 19 + length (groups_bytes gs)
  unfolding said
  size_is = omega (arith, end_is)

  values_are : values_good 0x37 (said ++ zeros k) ≡ true
  unfolding values_good
  values_are = ap names_good as_parts ∙ names-front names (length gs ∷ (groups_bytes gs ++ zeros k)) (omega (arith, long)) ∙ good

  pub body_is_written : record_refusal (record { message = 0x37; unit = 0; number = 0; body = (names ++ (length gs ∷ groups_bytes gs)) ++ zeros k }) room ≡ 0
  unfolding said fixed_size
  body_is_written =
      is_written 0x37 0 0 (said ++ zeros k) room
      (record {
        known = refl;
        no_unit = refl;
        no_number = refl;
        there = omega (arith, length-append said (zeros k), said-length);
        values = values_are;
        end = end_is ∙ ap suc (sym size_is);
        unused = ap (λ (n : ℕ). all_nul (drop n (said ++ zeros k))) (size_is ∙ sym said-length) ∙ ap all_nul (drop_at said (zeros k) (length said) refl) ∙ zeros_are_nul k;
        has_room = omega (arith, size_is, has_room);
      })

module _ (table : Table) (choice : Choice) (names : List ℕ) (acknowledgments executions : Bitfields) (room : ℕ) (long : length names ≡ 18) (good : names_good names ≡ true)
    (q : acknowledgments.given ≡ true → BitsInOrder acknowledgments) (r : executions.given ≡ true → BitsInOrder executions)
    (has_room : 10 + length (said_of table (choice_of table choice) names acknowledgments executions) ≤ room) where
  module _ (p : (choice_of table choice).which ≡ 1 → ChoiceInOrder table (choice_of table choice)) where
    abbrev gs : List Group
    gs = groups_value table (choice_of table choice) acknowledgments executions

    abbrev says : List ℕ
    says = said_of table (choice_of table choice) names acknowledgments executions

    says_is : says ≡ names ++ (length gs ∷ groups_bytes gs)
    says_is =
        ap₂ (λ (n : ℕ) (l : List ℕ). names ++ (n ∷ l)) (count_is table (choice_of table choice) acknowledgments executions p q r) (bytes_are table (choice_of table choice) acknowledgments executions p q r)

    says_long : length says ≡ 19 + length (groups_bytes gs)
    says_long = ap length says_is ∙ omega (arith, length-append names (length gs ∷ groups_bytes gs), long)

    in_order : GroupsInOrder gs
    in_order = value_in_order table (choice_of table choice) acknowledgments executions p q r

    -- LOGIN IS WRITTEN: names that agree with their kinds, a choice in order or none, and bitfields in order or none are not refused where there is room
    pub login_is_written : record_refusal (login_record table choice names acknowledgments executions) room ≡ 0
    unfolding login_record
    login_is_written =
        ap (λ (l : List ℕ). record_refusal (record { message = 0x37; unit = 0; number = 0; body = l ++ zeros (433 - length says) }) room) says_is
        ∙ body_is_written names gs (433 - length says) room long good in_order (omega (arith, says_long, has_room))

    -- LOGIN BYTES: its message is the header, and what the login says
    pub login-bytes : session_bytes (login_record table choice names acknowledgments executions) ≡ header_bytes (8 + length says) 0x37 0 0 ++ says
    unfolding login_record
    login-bytes =
        let n : size_of 0x37 (says ++ zeros (433 - length says)) ≡ length says =
        ap (λ (l : List ℕ). size_of 0x37 (l ++ zeros (433 - length says))) says_is ∙ size_is names gs (433 - length says) room long good in_order (omega (arith, says_long, has_room)) ∙ sym says_long in
        ap (λ (k : ℕ). header_bytes (8 + k) 0x37 0 0 ++ take k (says ++ zeros (433 - length says))) n
        ∙ ap (λ (l : List ℕ). header_bytes (8 + length says) 0x37 0 0 ++ l) (take-append_seam says (zeros (433 - length says)))

  -- with the whole table, in either form, whatever it holds
  pub whole_is_written : (full : Bool) → choice ≡ whole_table full → ((u : ℕ) → last_of table u < 4294967296) → record_refusal (login_record table choice names acknowledgments executions) room ≡ 0
  whole_is_written full e fit = login_is_written (λ h. subst (λ (c : Choice). ChoiceInOrder table (choice_of table c)) (sym e) (whole-in_order table fit full))

  -- with a choice that is in order
  pub chosen_is_written : choice.which ≡ 1 → ChoiceInOrder table choice → record_refusal (login_record table choice names acknowledgments executions) room ≡ 0
  chosen_is_written w o = login_is_written (λ h. subst (ChoiceInOrder table) (choice_kept table choice (λ z. omega (arith, w, z))) o)

  -- with no group of units
  pub none_is_written : 2 ≤ choice.which → record_refusal (login_record table choice names acknowledgments executions) room ≡ 0
  none_is_written w =
      login_is_written (λ h. absurd (let e : choice.which ≡ 1 = ap (λ (c : Choice). c.which) (choice_kept table choice (λ z. omega (arith, w, z))) ∙ h in omega (arith, w, e)))

-- ---- what is refused

-- names that agree, and groups against the rules: 11
groups_refused : (b : List ℕ) (room : ℕ) → 19 ≤ length b → values_good 0x37 b ≡ true → body_end 0x37 b ≡ 0 → record_refusal (record { message = 0x37; unit = 0; number = 0; body = b }) room ≡ 11
unfolding write_refusal fixed_size
groups_refused b room h v z = rw (le-ltb (length b) 19 h, v, z)

none_from : (n : ℕ) (s : List ℕ) → next_size (replicate 4 0) s ≡ 0 → groups_end (suc n) s ≡ 0
unfolding groups_from
none_from n s z = rw z

end_is_none : (names s : List ℕ) (n : ℕ) → length names ≡ 18 → next_size (replicate 4 0) s ≡ 0 → body_end 0x37 (names ++ (suc n ∷ s)) ≡ 0
unfolding body_end fixed_size flag_good lists_end
end_is_none names s n long z =
    let k : get_or (names ++ (suc n ∷ s)) 18 0 ≡ suc n = get_or_at names (suc n) s 0 18 long in
    let d : drop 19 (names ++ (suc n ∷ s)) ≡ s =
    ap (drop 19) (sym (append_assoc names (suc n ∷ []) s)) ∙ drop_at (names ++ (suc n ∷ [])) s 19 (omega (arith, length-append names (suc n ∷ []), long)) in
    ap (after 19) (ap₂ groups_end k d ∙ none_from n s z)

-- a group of units with a flag of 2 or more
flag-none : (v flag n : ℕ) (s : List ℕ) → 2 ≤ flag → next_size (replicate 4 0) (bytes_of 2 v ++ (0x80 ∷ flag ∷ n ∷ s)) ≡ 0
unfolding next_size group_key
flag-none v flag n s h =
    let z : 5 ≤ length (bytes_of 2 v ++ (0x80 ∷ flag ∷ n ∷ s)) = omega arith in
    rw (le-ltb _ _ z, le-ltb flag 2 h)

none_either : (b : Bool) → ◌≡◌ {A = ℕ} (cond b 0 0) 0
none_either true = refl
none_either false = refl

-- a group of units whose pairs are against the rules
pairs_none : (v flag n : ℕ) (s : List ℕ) → flag < 2 → pairs_good n s ≡ false → next_size (replicate 4 0) (bytes_of 2 v ++ (0x80 ∷ flag ∷ n ∷ s)) ≡ 0
unfolding next_size group_key group_size
pairs_none v flag n s h p =
    let z : 5 ≤ length (bytes_of 2 v ++ (0x80 ∷ flag ∷ n ∷ s)) = omega arith in
    rw (le-ltb _ _ z, lt-ltb flag 2 h, p) (none_either (eqb (number_at 2 0 (bytes_of 2 v ++ (0x80 ∷ flag ∷ n ∷ s))) (5 + 5 * n)))

too_many : (n : ℕ) (s : List ℕ) → 32 < n → pairs_good n s ≡ false
unfolding pairs_good
too_many n s h = rw (lt-leb n 32 h)

-- the walk over pairs is the walk over their units
units_walk : (ps : List Pair) (i : ℕ) (q t marks : List ℕ) → length q ≡ 5 * i → units_from (length ps) i (q ++ (pairs_bytes ps ++ t)) marks ≡ fresh marks (units_of ps)
unfolding units_from
units_walk [] i q t marks l = refl
units_walk (p ∷ ps) i q t marks l =
    let u : unit_at (q ++ (pairs_bytes (p ∷ ps) ++ t)) i ≡ p.unit = get_or_at q p.unit ((bytes_of 4 p.number ++ pairs_bytes ps) ++ t) 0 (5 * i) l in
    let j : (q ++ pair_bytes p) ++ (pairs_bytes ps ++ t) ≡ q ++ (pairs_bytes (p ∷ ps) ++ t) = append_assoc q (pair_bytes p) (pairs_bytes ps ++ t) in
    let m : length (q ++ pair_bytes p) ≡ 5 * suc i = omega (arith, length-append q (pair_bytes p), l) in
    ap (λ (x : ℕ). free marks x && units_from (length ps) (suc i) (q ++ (pairs_bytes (p ∷ ps) ++ t)) (mark marks x)) u
    ∙ ap (λ (b : Bool). free marks p.unit && b)
    (ap (λ (x : List ℕ). units_from (length ps) (suc i) x (mark marks p.unit)) (sym j) ∙ units_walk ps (suc i) (q ++ pair_bytes p) t (mark marks p.unit) m)

pairs_bad : (ps : List Pair) (t : List ℕ) → (Distinct 32 (units_of ps) → ⊥) → pairs_good (length ps) (pairs_bytes ps ++ t) ≡ false
unfolding pairs_good
pairs_bad ps t n = by (pairs_good (length ps) (pairs_bytes ps ++ t)) refl
  where
    by : (b : Bool) → pairs_good (length ps) (pairs_bytes ps ++ t) ≡ b → b ≡ false
    by false e = refl
    by true e =
        let r = ((and-eq-true_iff (leb (length ps) 32) _).0 e).1 in
        let f = ((and-eq-true_iff (leb (5 * length ps) (length (pairs_bytes ps ++ t))) _).0 r).1 in
        absurd (n (not_twice 32 (units_of ps) (sym (units_walk ps 0 [] t (replicate 33 0) refl) ∙ f)))

units_back : (table : Table) (us : List ℕ) → units_of (pairs_for table us) ≡ us
units_back table [] = refl
units_back table (u ∷ us) = ap (λ (l : List ℕ). u ∷ l) (units_back table us)

module _ (table : Table) (choice : Choice) (names : List ℕ) (acknowledgments executions : Bitfields) (room : ℕ) (long : length names ≡ 18) (good : names_good names ≡ true)
    (w : choice.which ≡ 1) where
  both : List ℕ
  both = bits_part 0x25 acknowledgments ++ bits_part 0x2C executions

  -- the record's body, the group of units first
  body_is : (k : ℕ) → said_of table choice names acknowledgments executions ++ zeros k ≡ names ++ (suc (one acknowledgments.given + one executions.given) ∷ (units_group table choice ++ (both ++ zeros k)))
  unfolding group_count units_part both
  body_is k =
      let b : eqb choice.which 1 ≡ true = eq-eqb choice.which 1 w in
      let n : 1 + (one acknowledgments.given + one executions.given) ≡ suc (one acknowledgments.given + one executions.given) = omega arith in
      ap (λ (x : Bool). (names ++ ((one x + (one acknowledgments.given + one executions.given)) ∷ (part x (units_group table choice) ++ (bits_part 0x25 acknowledgments ++ bits_part 0x2C executions)))) ++ zeros k) b
      ∙ append_assoc names _ (zeros k)
      ∙ ap₂ (λ (x : ℕ) (l : List ℕ). names ++ (x ∷ l)) n (append_assoc (units_group table choice) (bits_part 0x25 acknowledgments ++ bits_part 0x2C executions) (zeros k))

  values_of : (u : List ℕ) → values_good 0x37 (names ++ u) ≡ true
  unfolding values_good
  values_of u = names-front names u (omega (arith, long)) ∙ good

  units_refused : ((s : List ℕ) → next_size (replicate 4 0) (units_group table choice ++ s) ≡ 0) → record_refusal (login_record table choice names acknowledgments executions) room ≡ 11
  unfolding login_record
  units_refused z =
      let n : ℕ = one acknowledgments.given + one executions.given in
      let k : ℕ = 433 - length (said_of table choice names acknowledgments executions) in
      let s : List ℕ = units_group table choice ++ (both ++ zeros k) in
      let long_enough : 19 ≤ length (names ++ (suc n ∷ s)) = omega (arith, length-append names (suc n ∷ s), long) in
      ap (λ (c : Choice). record_refusal (record { message = 0x37; unit = 0; number = 0; body = padded (said_of table c names acknowledgments executions) }) room) (sym (choice_kept table choice (λ q. omega (arith, w, q))))
      ∙ ap (λ (l : List ℕ). record_refusal (record { message = 0x37; unit = 0; number = 0; body = l }) room) (body_is k)
      ∙ groups_refused (names ++ (suc n ∷ s)) room long_enough (values_of (suc n ∷ s)) (end_is_none names s n long (z (both ++ zeros k)))

  -- FLAG REFUSED: a choice with a flag of 2 or more is 11
  pub flag-refused : 2 ≤ choice.flag → record_refusal (login_record table choice names acknowledgments executions) room ≡ 11
  flag-refused h = units_refused (λ s. flag-none (5 + 5 * choice.count) choice.flag choice.count (pairs_bytes (pairs_for table (take (least choice.count 32) (numbers_of choice.units))) ++ s) h)

  -- UNITS REFUSED: a choice with a unit twice, or one outside 1 to 32, is 11
  pub unit-refused : choice.flag < 2 → choice.count ≤ 32 → length choice.units ≡ 32 → (Distinct 32 (take choice.count (numbers_of choice.units)) → ⊥)
      → record_refusal (login_record table choice names acknowledgments executions) room ≡ 11
  unit-refused f few there n =
      let us : List ℕ = take choice.count (numbers_of choice.units) in
      let ps : List Pair = pairs_for table us in
      let l : length ps ≡ choice.count = pairs_many table us ∙ length-take-le choice.count (numbers_of choice.units) (omega (arith, few, there, numbers_long choice.units)) in
      let d : Distinct 32 (units_of ps) → ⊥ = λ o. n (subst (Distinct 32) (units_back table us) o) in
      let k : choice.count ≡ least choice.count 32 = least_first choice.count 32 few in
      units_refused
      (λ s. pairs_none (5 + 5 * choice.count) choice.flag choice.count (pairs_bytes (pairs_for table (take (least choice.count 32) (numbers_of choice.units))) ++ s) f
      (ap₂ (λ (x y : ℕ). pairs_good x (pairs_bytes (pairs_for table (take y (numbers_of choice.units))) ++ s)) (sym l) (sym k) ∙ pairs_bad ps s d))

  -- MANY REFUSED: a choice of more than 32 units is 11
  pub many-refused : choice.flag < 2 → 32 < choice.count → record_refusal (login_record table choice names acknowledgments executions) room ≡ 11
  many-refused f h =
      units_refused
      (λ s. pairs_none (5 + 5 * choice.count) choice.flag choice.count (pairs_bytes (pairs_for table (take (least choice.count 32) (numbers_of choice.units))) ++ s) f
      (too_many choice.count (pairs_bytes (pairs_for table (take (least choice.count 32) (numbers_of choice.units))) ++ s) h))
