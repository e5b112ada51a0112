-- The response to a login that is read: its flag is 0 or 1, its body is in order, and it is refused for room alone.
-- Assumes nothing.
use Rattle.std.specs.Prelude.{◌≡◌, Bool, eqb, ltb, take, replicate, Option, None, Some, IfSome, unwrap_or}
use Rattle.std.proofs.Math.Path.{refl, ap}
use Rattle.std.proofs.Common.{sym, ap₂, ◌∙◌, length-append, length-drop, drop-drop, get_or-drop, drop-cons, drop_at, take_at, length-take-le}
use Rattle.std.proofs.Math.Bool.{true, false, cond, and-eq-true_iff}
use mathlib.Core.List.{List, [], ◌∷◌, ◌++◌, append_assoc, append-nil}
use Prim.Native.Nat.{ℕ, zero, suc, ◌+◌, ◌-◌, ◌≤◌, ◌<◌}
use native.Mathlib.Omega.{arith}
use Rattle.std.proofs.Math.ListN.{length, get_or, drop}
use borrow.Author.Tests.{ne_eqb, eqb-true, lt-ltb, le-ltb, le-leb, ltb-true}
use Rattle.kinds.specs.Kinds.{all_nul}
use Rattle.numbers.specs.Numbers.{number_at}
use Rattle.wire.specs.Header.{header_bytes, type_of}
use Rattle.block.specs.Slots.{zeros}
use Rattle.block.specs.SlotLaws.{length-zeros, zeros_are_nul}
use Rattle.table.specs.declared.Table.{Table}
use Rattle.session_groups.specs.Groups.{units_from, pairs_good, key_of, group_key, next_size, mark, groups_from, groups_end}
use Rattle.session_groups.proofs.GroupLaws.{first_of, taken_of, groups_steady}
use Rattle.session_groups.specs.Values.{pairs_bytes}
use Rattle.session_messages.specs.declared.Record.{Record}
use Rattle.session_messages.specs.Sessions.{fixed_size, flag_good, values_good, after, response_end, lists_end, body_end, size_of, read_refusal, body_of, record_of, write_refusal, record_refusal, session_bytes}
use Rattle.session_messages.proofs.SessionLaws.{After, after_of, body-steady, good}
use Rattle.session_messages.proofs.SessionTrip.{Sound}
use Rattle.session_logins.specs.LoginRequests.{up_from, pairs_for, padded}
use Rattle.session_logins.proofs.LoginRequestLaws.{pairs_size}
use Rattle.session_fields.specs.SessionFields.{group_is, group_from, request_group, flag_in, group_flag}
use Rattle.session_fields.specs.GroupFieldLaws.{same_step}
use Rattle.venue.specs.declared.Venue.{Venue}
use Rattle.session_fields.specs.AskedFor.{flag_of}
use Rattle.venue.specs.Venues.{response_record}
use Rattle.venue.specs.VenueStages.{lists_part, answer_part}

-- ---- the flag of a group that is accepted is 0 or 1

key_flag : (t x : ℕ) → t ≡ 0x80 → 0 < key_of t x → x < 2
key_flag t x e h = by (ltb x 2) refl (ap (λ (y : ℕ). key_of y x) e)
  where
    by : (b : Bool) → ltb x 2 ≡ b → key_of t x ≡ cond (ltb x 2) 1 0 → x < 2
    by true q k = ltb-true x 2 q
    by false q k = absurd (omega (arith, h, k ∙ ap (λ (c : Bool). cond c 1 0) q))

known_flag : (d : List ℕ) → get_or d 2 0 ≡ 0x80 → 0 < group_key d → get_or d 3 0 < 2
unfolding group_key
known_flag d e h = by (ltb (length d) 5) h
  where
    by : (b : Bool) → 0 < cond b 0 (key_of (get_or d 2 0) (get_or d 3 0)) → get_or d 3 0 < 2
    by true k = absurd (omega (arith, k))
    by false k = key_flag (get_or d 2 0) (get_or d 3 0) e k

-- the group of units that is found among groups in order, if there is one, has such a flag
abbrev Small : List ℕ → Option ℕ → Type 0
Small b p = IfSome p (λ at. get_or b (at + 3) 0 < 2)

flags : (n at k e : ℕ) (b marks : List ℕ) → groups_from n at (drop k b) marks ≡ suc e → Small b (group_from n 0x80 0 (k + at) b)
unfolding group_from
flags zero at k e b marks h = tt
flags (suc n) at k e b marks h =
    let f = first_of n marks (drop k b) at e h in
    let d : drop at (drop k b) ≡ drop (k + at) b = drop-drop at k b in
    let some : next_size marks (drop (k + at) b) ≡ 0 → ⊥ = λ z. f.some (ap (next_size marks) d ∙ z) in
    let one_more : next_size marks (drop (k + at) b) ≡ suc (next_size marks (drop (k + at) b) - 1) = more (next_size marks (drop (k + at) b)) some in
    let step : number_at 2 (k + at) b ≡ next_size marks (drop (k + at) b) = same_step marks b (k + at) _ one_more in
    let place : k + (at + next_size marks (drop at (drop k b))) ≡ k + at + number_at 2 (k + at) b = omega (arith, step, ap (next_size marks) d) in
    let later = flags n (at + next_size marks (drop at (drop k b))) k e b (mark marks (group_key (drop at (drop k b)))) f.others in
    let rest : Small b (group_from n 0x80 0 (k + at + number_at 2 (k + at) b) b) = rw place at later in
    by (ltb (k + at) 433) (group_is 0x80 0 (k + at) b) refl (taken_of marks (drop (k + at) b) some).some rest
  where
    more : (x : ℕ) → (x ≡ 0 → ⊥) → x ≡ suc (x - 1)
    more x n = omega arith

    by : (p q : Bool) → group_is 0x80 0 (k + at) b ≡ q → 0 < group_key (drop (k + at) b)
        → Small b (group_from n 0x80 0 (k + at + number_at 2 (k + at) b) b)
        → Small b (cond p (cond q (Some (k + at)) (group_from n 0x80 0 (k + at + number_at 2 (k + at) b) b)) None)
    by true true i g r =
        let t : get_or b (k + at + 2) 0 ≡ 0x80 = eqb-true _ _ ((and-eq-true_iff (eqb (get_or b (k + at + 2) 0) 0x80) _).0 i).0 in
        let x = known_flag (drop (k + at) b) (get_or-drop (k + at) b 2 0 ∙ t) g in
        omega (arith, x, get_or-drop (k + at) b 3 0)
    by true false i g r = r
    by false q i g r = tt

-- ---- a login that is read

-- the groups of a login's body
groups_of : (b : List ℕ) (e : ℕ) → body_end 0x37 b ≡ suc e → After 19 (groups_end (get_or b 18 0) (drop 19 b)) e
unfolding body_end fixed_size flag_good lists_end
groups_of b e h = after_of 19 (groups_end (get_or b 18 0) (drop 19 b)) e h

module _ (m : List ℕ) (typed : type_of m ≡ 0x37) (reads : read_refusal m ≡ 0) where
  end_of : body_end 0x37 (drop 10 m) ≡ suc (length (drop 10 m))
  end_of = ap (λ (t : ℕ). body_end t (drop 10 m)) (sym typed) ∙ (good m reads).total

  -- its groups and their count start at 28
  pub login_long : 29 ≤ length m
  unfolding fixed_size
  login_long = omega (arith, (good m reads).there, ap fixed_size typed)

  pub groups_end_lem : groups_end (get_or m 28 0) (drop 29 m) ≡ suc (length (drop 29 m))
  groups_end_lem =
      let a = groups_of (drop 10 m) (length (drop 10 m)) end_of in
      let l : a.rest ≡ length (drop 29 m) = omega (arith, a.sum, length-drop 10 m, length-drop 29 m, login_long) in
      ap₂ groups_end (sym (get_or-drop 10 m 18 0)) (sym (drop-drop 19 10 m)) ∙ a.was ∙ ap suc l

  -- and they take at most 206 bytes
  pub login-short : length m ≤ 234
  login-short = omega (arith, ((groups_steady (get_or m 28 0)).inside (drop 29 m) (length (drop 29 m)) groups_end_lem).1, length-drop 29 m)

  pub groups_there : drop 28 m ≡ get_or m 28 0 ∷ drop 29 m
  groups_there = drop-cons m 28 0 (omega (arith, login_long))

  -- FLAG: the flag that is echoed is 0 or 1
  pub flag_small : flag_of (record_of m) < 2
  unfolding body_of request_group group_flag
  flag_small =
      let b : List ℕ = drop 10 m ++ zeros (433 - length (drop 10 m)) in
      let s : body_end 0x37 b ≡ suc (length (drop 10 m)) = body-steady 0x37 (drop 10 m) [] (zeros (433 - length (drop 10 m))) (ap (body_end 0x37) (append-nil (drop 10 m)) ∙ end_of) in
      let a = groups_of b (length (drop 10 m)) s in
      let f = flags (get_or b 18 0) 0 19 a.rest b (replicate 4 0) a.was in
      at (eqb (type_of m) 0x37) (group_from (get_or b 18 0) 0x80 0 19 b) f
    where
      at : (t : Bool) (p : Option ℕ) → Small (drop 10 m ++ zeros (433 - length (drop 10 m))) p
          → unwrap_or (flag_in (cond t p None) (drop 10 m ++ zeros (433 - length (drop 10 m)))) 0 < 2
      at true (Some k) f = f
      at true None f = omega arith
      at false p f = omega arith

-- ---- the body of a response

pairs_walk : (table : Table) (t : List ℕ) → units_from 32 0 (pairs_bytes (pairs_for table (up_from 32 1)) ++ t) (replicate 33 0) ≡ true
unfolding units_from
pairs_walk table t = refl

pairs_long : (table : Table) (t : List ℕ) → length (pairs_bytes (pairs_for table (up_from 32 1)) ++ t) ≡ 160 + length t
pairs_long table t = length-append (pairs_bytes (pairs_for table (up_from 32 1))) t ∙ ap (λ (n : ℕ). n + length t) (pairs_size table (up_from 32 1))

pairs_all : (table : Table) (t : List ℕ) → pairs_good 32 (pairs_bytes (pairs_for table (up_from 32 1)) ++ t) ≡ true
unfolding pairs_good
pairs_all table t = rw (le-leb 160 (length (pairs_bytes (pairs_for table (up_from 32 1)) ++ t)) (omega (arith, pairs_long table t))) (pairs_walk table t)

lists_end_lem : (table : Table) (n k : ℕ) (gs : List ℕ) → groups_end n gs ≡ suc (length gs) → response_end 32 (lists_part table (n ∷ gs) ++ zeros k) ≡ suc (161 + length gs)
unfolding response_end
lists_end_lem table n k gs h =
    let ps : List ℕ = pairs_bytes (pairs_for table (up_from 32 1)) in
    let t : List ℕ = n ∷ (gs ++ zeros k) in
    let s : lists_part table (n ∷ gs) ++ zeros k ≡ ps ++ t = append_assoc ps (n ∷ gs) (zeros k) in
    let l : ltb 160 (length (ps ++ t)) ≡ true = lt-ltb 160 (length (ps ++ t)) (omega (arith, pairs_long table t)) in
    let g : groups_end n (gs ++ zeros k) ≡ suc (length gs) = (groups_steady n).same gs [] (zeros k) (ap (groups_end n) (append-nil gs) ∙ h) in
    ap (response_end 32) s
    ∙ ap₂ (λ (x y : Bool). cond x (cond y (after 161 (groups_end n (gs ++ zeros k))) 0) 0) (pairs_all table t) l
    ∙ ap (after 161) g

module _ (flag received n k : ℕ) (table : Table) (gs : List ℕ) where
  abbrev whole : List ℕ
  whole = answer_part flag received table (n ∷ gs) ++ zeros k

  answer_long : length (answer_part flag received table (n ∷ gs)) ≡ 228 + length gs
  answer_long = omega (arith, pairs_long table (n ∷ gs))

  answer_end : flag < 2 → groups_end n gs ≡ suc (length gs) → body_end 0x24 whole ≡ suc (228 + length gs)
  unfolding body_end fixed_size flag_good lists_end
  answer_end f h =
      ap (λ (b : Bool). cond b (after 67 (response_end 32 (lists_part table (n ∷ gs) ++ zeros k))) 0) (lt-ltb flag 2 f)
      ∙ ap (after 67) (lists_end_lem table n k gs h)
      ∙ ap suc (omega arith)

  answer-values : values_good 0x24 whole ≡ true
  unfolding values_good
  answer-values = refl

-- ---- a login's response

module _ (v : Venue) (m : List ℕ) (typed : type_of m ≡ 0x37) (reads : read_refusal m ≡ 0) where
  abbrev flag : ℕ
  flag = flag_of (record_of m)

  abbrev said : List ℕ
  said = answer_part flag v.received.0 v.table (get_or m 28 0 ∷ drop 29 m)

  said_long : length said ≡ 199 + length m
  said_long = omega (arith, answer_long flag v.received.0 (get_or m 28 0) 0 v.table (drop 29 m), length-drop 29 m, login_long m typed reads)

  -- the response's record
  pub response_is : response_record v m ≡ record { message = 0x24; unit = 0; number = 0; body = padded said }
  unfolding response_record
  response_is = ap (λ (gs : List ℕ). record { message = 0x24; unit = 0; number = 0; body = padded (answer_part flag v.received.0 v.table gs) }) (groups_there m typed reads)

  said_end : body_end 0x24 (padded said) ≡ suc (length said)
  said_end =
      answer_end flag v.received.0 (get_or m 28 0) (433 - length said) v.table (drop 29 m) (flag_small m typed reads) (groups_end_lem m typed reads)
      ∙ ap suc (sym (answer_long flag v.received.0 (get_or m 28 0) 0 v.table (drop 29 m)))

  said-size : size_of 0x24 (padded said) ≡ length said
  said-size = omega (arith, said_end)

  padded_long : length (padded said) ≡ 433
  padded_long = omega (arith, length-append said (zeros (433 - length said)), length-zeros (433 - length said), said_long, login-short m typed reads)

  said_unused : all_nul (drop (size_of 0x24 (padded said)) (padded said)) ≡ true
  said_unused = ap (λ (n : ℕ). all_nul (drop n (padded said))) said-size ∙ ap all_nul (drop_at said (zeros (433 - length said)) (length said) refl) ∙ zeros_are_nul (433 - length said)

  -- RESPONSE REFUSED FOR ROOM ALONE: it is written where its bytes fit, and else it is 13
  pub response_refusal_lem : (room : ℕ) → record_refusal (response_record v m) room ≡ cond (ltb room (209 + length m)) 13 0
  unfolding write_refusal fixed_size
  response_refusal_lem room =
      let n : 10 + size_of 0x24 (padded said) ≡ 209 + length m = omega (arith, said-size, said_long) in
      ap (λ (r : Record). record_refusal r room) response_is
      ∙ rw (
        le-ltb (length (padded said)) 67 (omega (arith, padded_long)),
        answer-values flag v.received.0 (get_or m 28 0) (433 - length said) v.table (drop 29 m),
        ne_eqb (body_end 0x24 (padded said)) 0 (λ z. omega (arith, said_end, z)),
        said_unused,
        n,
      )

  -- RESPONSE LENGTH: what a login is answered with is as long as its names' place, text, pairs and the login's groups make it
  pub response_length : length (session_bytes (response_record v m)) ≡ 209 + length m
  response_length =
      let n : length (take (size_of 0x24 (padded said)) (padded said)) ≡ size_of 0x24 (padded said) = length-take-le (size_of 0x24 (padded said)) (padded said) (omega (arith, said-size, padded_long, said_long, login-short m typed reads)) in
      ap (λ (r : Record). length (session_bytes r)) response_is ∙ omega (arith, n, said-size, said_long)

  -- the body has its record's length
  pub response_sound : Sound (response_record v m)
  response_sound = record { body-length = ap (λ (r : Record). length r.body) response_is ∙ padded_long }

  -- the bytes are a header and what is said
  pub response_bytes : session_bytes (response_record v m) ≡ header_bytes (8 + length said) 0x24 0 0 ++ said
  response_bytes =
      ap session_bytes response_is
      ∙ ap (λ (n : ℕ). header_bytes (8 + n) 0x24 0 0 ++ take n (padded said)) said-size
      ∙ ap (λ (l : List ℕ). header_bytes (8 + length said) 0x24 0 0 ++ l) (take_at said (zeros (433 - length said)) (length said) refl)
