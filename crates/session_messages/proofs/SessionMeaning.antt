-- What a Login Request, a Login Response and a Logout that are read say, in the words of values, and that every value is said.
--     request_is_a_value, a_value_is_a_request       fixed part and count of groups, then the bytes of groups in order
--     logout_is_a_value, a_value_is_a_logout         fixed part and count of pairs, then the bytes of pairs in order
--     response_is_a_value, a_value_is_a_response     fixed part and count of pairs, the pairs, count of groups, the groups
-- Assumes nothing.
use Rattle.std.specs.Prelude.{◌≡◌, refl, ◌||◌, ltb, length, take}
use Rattle.std.proofs.Common.{sym, ap, ◌∙◌, arith, length-drop, get_or-drop, drop-drop, drop_at, take_all}
use Rattle.std.proofs.Math.Path.{ap₂, subst}
use Rattle.std.proofs.Math.Bool.{true, false, cond}
use mathlib.Core.List.{List, [], ◌∷◌, ◌++◌, append-nil}
use Prim.Native.Nat.{ℕ, suc, ◌+◌, ◌-◌, ◌*◌, ◌<◌}
use Rattle.std.proofs.Math.Dec.{eqb}
use Rattle.std.proofs.Math.ListN.{get_or, drop, length-append}
use Rattle.std.proofs.lemmas.List.{get_or_at}
use borrow.Author.Tests.{lt-ltb, ltb-true, ne_eqb}
use Rattle.numbers.specs.NumberLaws.{bytes-later}
use Rattle.wire.specs.Header.{header_bytes, type_of}
use Rattle.wire.specs.HeaderLaws.{Bytes, header_number}
use Rattle.session_groups.specs.Groups.{pairs_good, groups_end}
use Rattle.session_groups.proofs.GroupLaws.{at_front, taken_by}
use Rattle.session_groups.specs.Values.{Pair, pairs_bytes, PairsInOrder, Group, groups_bytes, GroupsInOrder}
use Rattle.session_groups.proofs.ValueLaws.{PairsValue, pairs_are_a_value, a_value_is_pairs, pairs_length, GroupsValue, groups_are_a_value, a_value_is_groups}
use Rattle.session_messages.specs.Sessions.{of_member, of_venue, fixed_size, values_good, flag_good, after, pairs_end, response_end, lists_end, body_end, read_refusal}
use Rattle.session_messages.proofs.SessionLaws.{after_of, values-front, flag-front, good, is_read}

-- ---- what is read

-- the lists of a body that is read end with it
module _ (message : ℕ) (b : List ℕ) (h : body_end message b ≡ suc (length b)) (some : 0 < fixed_size message) where
  flag_of : (flag_good message b ≡ true) × (after (fixed_size message) (lists_end message (get_or b (fixed_size message - 1) 0) (drop (fixed_size message) b)) ≡ suc (length b))
  unfolding body_end
  flag_of =
      let n : eqb (fixed_size message) 0 ≡ false = ne_eqb (fixed_size message) 0 (λ q. omega (arith, some, q)) in
      let k : cond (flag_good message b) (after (fixed_size message) (lists_end message (get_or b (fixed_size message - 1) 0) (drop (fixed_size message) b))) 0 ≡ suc (length b) = rw n at h in
      taken_by (flag_good message b) (after (fixed_size message) (lists_end message (get_or b (fixed_size message - 1) 0) (drop (fixed_size message) b))) (length b) k

  lists_of : lists_end message (get_or b (fixed_size message - 1) 0) (drop (fixed_size message) b) ≡ suc (length (drop (fixed_size message) b))
  lists_of =
      let a = after_of (fixed_size message) (lists_end message (get_or b (fixed_size message - 1) 0) (drop (fixed_size message) b)) (length b) flag_of.1 in
      a.was ∙ ap suc (omega (arith, a.sum, length-drop (fixed_size message) b))

groups_whole : (n : ℕ) (s : List ℕ) → Bytes s → groups_end n s ≡ suc (length s) → GroupsValue n s
groups_whole n s bs h = subst (GroupsValue n) (take_all (length s) s (omega arith)) (groups_are_a_value n (length s) s bs h)

module _ (m : List ℕ) (bytes : Bytes m) (z : read_refusal m ≡ 0) where
  later : (k : ℕ) → drop k (drop 10 m) ≡ drop (10 + k) m
  later k = drop-drop k 10 m

  count : (k : ℕ) → get_or (drop 10 m) k 0 ≡ get_or m (10 + k) 0
  count k = get_or-drop 10 m k 0

  total_as : (message : ℕ) → type_of m ≡ message → body_end message (drop 10 m) ≡ suc (length (drop 10 m))
  total_as message e = ap (λ (t : ℕ). body_end t (drop 10 m)) (sym e) ∙ (good m z).total

  -- REQUEST: the groups of a Login Request that is read are the bytes of a value
  pub request_is_a_value : type_of m ≡ 0x37 → GroupsValue (get_or m 28 0) (drop 29 m)
  unfolding fixed_size lists_end
  request_is_a_value e =
      let l : groups_end (get_or (drop 10 m) 18 0) (drop 19 (drop 10 m)) ≡ suc (length (drop 19 (drop 10 m))) = lists_of 0x37 (drop 10 m) (total_as 0x37 e) (omega arith) in
      let v : GroupsValue (get_or (drop 10 m) 18 0) (drop 19 (drop 10 m)) = groups_whole (get_or (drop 10 m) 18 0) (drop 19 (drop 10 m)) (bytes-later 19 (drop 10 m) (bytes-later 10 m bytes)) l in
      subst (λ (n : ℕ). GroupsValue n (drop 29 m)) (count 18) (subst (GroupsValue (get_or (drop 10 m) 18 0)) (later 19) v)

  -- LOGOUT: the pairs of a Logout that is read are the bytes of a value
  pub logout_is_a_value : type_of m ≡ 0x08 → PairsValue (get_or m 75 0) (drop 76 m)
  unfolding fixed_size lists_end
  logout_is_a_value e =
      let s : List ℕ = drop 66 (drop 10 m) in
      let n : ℕ = get_or (drop 10 m) 65 0 in
      let l : pairs_end (get_or (drop 10 m) 65 0) (drop 66 (drop 10 m)) ≡ suc (length (drop 66 (drop 10 m))) = lists_of 0x08 (drop 10 m) (total_as 0x08 e) (omega arith) in
      let y = taken_by (pairs_good (get_or (drop 10 m) 65 0) (drop 66 (drop 10 m))) (5 * get_or (drop 10 m) 65 0 + 1) (length (drop 66 (drop 10 m))) l in
      let v : PairsValue (get_or (drop 10 m) 65 0) (take (5 * get_or (drop 10 m) 65 0) (drop 66 (drop 10 m))) = pairs_are_a_value (get_or (drop 10 m) 65 0) (drop 66 (drop 10 m)) (bytes-later 66 (drop 10 m) (bytes-later 10 m bytes)) y.0 in
      let w : PairsValue (get_or (drop 10 m) 65 0) (drop 66 (drop 10 m)) = subst (PairsValue (get_or (drop 10 m) 65 0)) (take_all (5 * get_or (drop 10 m) 65 0) (drop 66 (drop 10 m)) (omega (arith, y.1))) v in
      subst (λ (k : ℕ). PairsValue k (drop 76 m)) (count 65) (subst (PairsValue (get_or (drop 10 m) 65 0)) (later 66) w)

-- what a Login Response says: a flag, pairs, and groups after them
pub record ResponseValue (flag n : ℕ) (s : List ℕ) : Type 0 where
  pub flag_is : flag < 2
  pub pairs : PairsValue n (take (5 * n) s)
  pub groups : GroupsValue (get_or s (5 * n) 0) (drop (5 * n + 1) s)

response_value : (flag n : ℕ) (s : List ℕ) → Bytes s → flag < 2 → response_end n s ≡ suc (length s) → ResponseValue flag n s
unfolding response_end
response_value flag n s bs f h =
    let y = taken_by (pairs_good n s) (cond (ltb (5 * n) (length s)) (after (5 * n + 1) (groups_end (get_or s (5 * n) 0) (drop (5 * n + 1) s))) 0) (length s) h in
    let y' = taken_by (ltb (5 * n) (length s)) (after (5 * n + 1) (groups_end (get_or s (5 * n) 0) (drop (5 * n + 1) s))) (length s) y.1 in
    let a = after_of (5 * n + 1) (groups_end (get_or s (5 * n) 0) (drop (5 * n + 1) s)) (length s) y'.1 in
    record {
      flag_is = f;
      pairs = pairs_are_a_value n s bs y.0;
      groups = groups_whole (get_or s (5 * n) 0) (drop (5 * n + 1) s) (bytes-later (5 * n + 1) s bs) (a.was ∙ ap suc (omega (arith, a.sum, length-drop (5 * n + 1) s)));
    }

-- RESPONSE: what follows the fixed part of a Login Response that is read are the bytes of pairs and of groups
pub response_is_a_value : (m : List ℕ) → Bytes m → read_refusal m ≡ 0 → type_of m ≡ 0x24 → ResponseValue (get_or m 71 0) (get_or m 76 0) (drop 77 m)
unfolding fixed_size lists_end flag_good
response_is_a_value m bytes z e =
    let l : response_end (get_or (drop 10 m) 66 0) (drop 67 (drop 10 m)) ≡ suc (length (drop 67 (drop 10 m))) = lists_of 0x24 (drop 10 m) (total_as m bytes z 0x24 e) (omega arith) in
    let f : ltb (get_or (drop 10 m) 61 0) 2 ≡ true = (flag_of 0x24 (drop 10 m) (total_as m bytes z 0x24 e) (omega arith)).0 in
    let v : ResponseValue (get_or (drop 10 m) 61 0) (get_or (drop 10 m) 66 0) (drop 67 (drop 10 m)) = response_value (get_or (drop 10 m) 61 0) (get_or (drop 10 m) 66 0) (drop 67 (drop 10 m)) (bytes-later 67 (drop 10 m) (bytes-later 10 m bytes)) (ltb-true _ _ f) l in
    subst (λ (i : ℕ). ResponseValue i (get_or m 76 0) (drop 77 m)) (count m bytes z 61)
    (subst (λ (k : ℕ). ResponseValue (get_or (drop 10 m) 61 0) k (drop 77 m)) (count m bytes z 66)
    (subst (ResponseValue (get_or (drop 10 m) 61 0) (get_or (drop 10 m) 66 0)) (later m bytes z 67) v))

-- ---- what is said

-- a fixed part p whose values agree, and lists s after it that end with it, are read under any length field
module _ (l message : ℕ) (p s : List ℕ) (known : (of_member message || of_venue message) ≡ true) (long : length p ≡ fixed_size message) (some : 0 < fixed_size message)
    (values : values_good message p ≡ true) (flag : flag_good message p ≡ true) (lists : lists_end message (get_or p (fixed_size message - 1) 0) s ≡ suc (length s)) where
  end_is : body_end message (p ++ s) ≡ suc (length (p ++ s))
  unfolding body_end
  end_is =
      let n : eqb (fixed_size message) 0 ≡ false = ne_eqb (fixed_size message) 0 (λ q. omega (arith, some, q)) in
      let f : flag_good message (p ++ s) ≡ true = flag-front p s message (omega (arith, long)) ∙ flag in
      let c : get_or (p ++ s) (fixed_size message - 1) 0 ≡ get_or p (fixed_size message - 1) 0 = at_front p s (fixed_size message - 1) (omega (arith, long, some)) in
      let e : lists_end message (get_or (p ++ s) (fixed_size message - 1) 0) (drop (fixed_size message) (p ++ s)) ≡ suc (length s) = ap₂ (lists_end message) c (drop_at p s (fixed_size message) long) ∙ lists in
      rw (n, f) (ap (after (fixed_size message)) e ∙ omega (arith, length-append p s, long))

  pub is_said : read_refusal (header_bytes l message 0 0 ++ (p ++ s)) ≡ 0
  is_said =
      is_read (header_bytes l message 0 0 ++ (p ++ s))
      (record {
        known = known;
        unit = refl;
        number = header_number l message 0 0 (p ++ s) (omega arith);
        there = omega (arith, length-append p s, long);
        values = values-front p s message (omega (arith, long)) ∙ values;
        total = end_is;
      })

-- A VALUE IS A REQUEST: a fixed part of 19 bytes, its count of groups last, and the bytes of groups in order
pub a_value_is_a_request : (l : ℕ) (p : List ℕ) (gs : List Group) → length p ≡ 19 → values_good 0x37 p ≡ true → get_or p 18 0 ≡ length gs → GroupsInOrder gs
    → read_refusal (header_bytes l 0x37 0 0 ++ (p ++ groups_bytes gs)) ≡ 0
unfolding fixed_size lists_end flag_good
a_value_is_a_request l p gs n v c o =
    is_said l 0x37 p (groups_bytes gs) refl n (omega arith) v refl
    (ap₂ groups_end c (sym (append-nil (groups_bytes gs))) ∙ a_value_is_groups gs [] o)

pairs_end_is : (n : ℕ) (ps : List Pair) → n ≡ length ps → PairsInOrder ps → pairs_end n (pairs_bytes ps) ≡ suc (length (pairs_bytes ps))
pairs_end_is n ps e o =
    let g : pairs_good n (pairs_bytes ps) ≡ true = ap₂ pairs_good e (sym (append-nil (pairs_bytes ps))) ∙ a_value_is_pairs ps [] o in
    rw g (omega (arith, pairs_length ps, e))

-- A VALUE IS A LOGOUT: a fixed part of 66 bytes, its count of pairs last, and the bytes of pairs in order
pub a_value_is_a_logout : (l : ℕ) (p : List ℕ) (ps : List Pair) → length p ≡ 66 → values_good 0x08 p ≡ true → get_or p 65 0 ≡ length ps → PairsInOrder ps
    → read_refusal (header_bytes l 0x08 0 0 ++ (p ++ pairs_bytes ps)) ≡ 0
unfolding fixed_size lists_end flag_good
a_value_is_a_logout l p ps n v c o = is_said l 0x08 p (pairs_bytes ps) refl n (omega arith) v refl (pairs_end_is (get_or p 65 0) ps c o)

response_end_is : (n : ℕ) (ps : List Pair) (gs : List Group) → n ≡ length ps → PairsInOrder ps → GroupsInOrder gs
    → response_end n (pairs_bytes ps ++ (length gs ∷ groups_bytes gs)) ≡ suc (length (pairs_bytes ps ++ (length gs ∷ groups_bytes gs)))
unfolding response_end
response_end_is n ps gs e o q =
    let s : List ℕ = pairs_bytes ps ++ (length gs ∷ groups_bytes gs) in
    let w : length (pairs_bytes ps) ≡ 5 * n = pairs_length ps ∙ ap (λ (k : ℕ). 5 * k) (sym e) in
    let t : length (pairs_bytes ps ++ (length gs ∷ groups_bytes gs)) ≡ 5 * n + suc (length (groups_bytes gs)) = length-append (pairs_bytes ps) (length gs ∷ groups_bytes gs) ∙ ap (λ (k : ℕ). k + suc (length (groups_bytes gs))) w in
    let g : pairs_good n (pairs_bytes ps ++ (length gs ∷ groups_bytes gs)) ≡ true = ap (λ (k : ℕ). pairs_good k (pairs_bytes ps ++ (length gs ∷ groups_bytes gs))) e ∙ a_value_is_pairs ps (length gs ∷ groups_bytes gs) o in
    let c : get_or (pairs_bytes ps ++ (length gs ∷ groups_bytes gs)) (5 * n) 0 ≡ length gs = get_or_at (pairs_bytes ps) (length gs) (groups_bytes gs) 0 (5 * n) w in
    let d : drop (5 * n + 1) (pairs_bytes ps ++ (length gs ∷ groups_bytes gs)) ≡ groups_bytes gs =
    sym (drop-drop 1 (5 * n) (pairs_bytes ps ++ (length gs ∷ groups_bytes gs))) ∙ ap (drop 1) (drop_at (pairs_bytes ps) (length gs ∷ groups_bytes gs) (5 * n) w) in
    let x : groups_end (get_or (pairs_bytes ps ++ (length gs ∷ groups_bytes gs)) (5 * n) 0) (drop (5 * n + 1) (pairs_bytes ps ++ (length gs ∷ groups_bytes gs))) ≡ suc (length (groups_bytes gs)) =
    ap₂ groups_end c (d ∙ sym (append-nil (groups_bytes gs))) ∙ a_value_is_groups gs [] q in
    rw (g, lt-ltb (5 * n) (length (pairs_bytes ps ++ (length gs ∷ groups_bytes gs))) (omega (arith, t)))
    (ap (after (5 * n + 1)) x ∙ omega (arith, t))

-- A VALUE IS A RESPONSE: a fixed part of 67 bytes with flag 0 or 1, its count of pairs last, the pairs, a count of groups, and the groups
pub a_value_is_a_response : (l : ℕ) (p : List ℕ) (ps : List Pair) (gs : List Group) → length p ≡ 67 → values_good 0x24 p ≡ true → get_or p 61 0 < 2 → get_or p 66 0 ≡ length ps
    → PairsInOrder ps → GroupsInOrder gs → read_refusal (header_bytes l 0x24 0 0 ++ (p ++ (pairs_bytes ps ++ (length gs ∷ groups_bytes gs)))) ≡ 0
unfolding fixed_size lists_end flag_good
a_value_is_a_response l p ps gs n v f c o q =
    is_said l 0x24 p (pairs_bytes ps ++ (length gs ∷ groups_bytes gs)) refl n (omega arith) v (lt-ltb (get_or p 61 0) 2 f) (response_end_is (get_or p 66 0) ps gs c o q)
