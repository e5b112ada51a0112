-- Setting a field that stands before the groups leaves them as they were: where each stands, and what is read of it. The scan for a group steps
-- as the one that accepts groups does. Assumes nothing.
use Rattle.std.specs.Prelude.{◌≡◌, Bool, true, false, ◌&&◌, ◌||◌, List, ◌++◌, leb, ltb, length, get_or, take, drop, Option, None, Some, IfSome, option_map}
use Rattle.std.proofs.Math.Path.{refl, sym, ap, ap₂}
use Rattle.std.proofs.Common.{◌∙◌, inl, arith, get_or-drop, eqb-true}
use Rattle.std.proofs.Math.Bool.{cond}
use Prim.Native.Nat.{ℕ, zero, suc, ◌+◌, ◌-◌, ◌*◌, ◌≤◌, ◌<◌}
use Rattle.std.proofs.Math.Dec.{eqb}
use Rattle.numbers.specs.Numbers.{number_at}
use Rattle.session_groups.specs.Groups.{free, group_key, size_by, list_good, group_size, next_size}
use Rattle.block.specs.Slots.{zeros}
use Rattle.session_messages.specs.declared.Record.{Record}
use Rattle.session_fields.specs.declared.Bits.{Bits}
use Rattle.session_fields.specs.SessionFields.{is_of, group_is, group_from, request_group, response_group, response_count, flag_in, group_flag}
use Rattle.session_fields.specs.SessionFields.{has_entry, entry_in, group_pair, listed_from, entry_number, listed_in, group_listed, has_bits, bits_at, bits_in, group_bits, setting_of}
use Rattle.session_fields.specs.SessionFieldLaws.{Part, pair, byte_stays, same_bytes, same_type, set-length}

-- ---- a group that is found stands at the place from which it is sought, or after it

abbrev pub From : ℕ → Option ℕ → Type 0
From q p = IfSome p (λ at. q ≤ at)

later : (q at : ℕ) → q ≤ at → (p : Option ℕ) → From at p → From q p
later q at h (Some k) f = omega (arith, h, f)
later q at h None f = tt

found_by : (b c : Bool) (at : ℕ) (rest : Option ℕ) → From at rest → From at (cond b (cond c (Some at) rest) None)
found_by true true at rest h = omega arith
found_by true false at rest h = h
found_by false c at rest h = tt

pub found_after : (n t x at : ℕ) (s : List ℕ) → From at (group_from n t x at s)
unfolding group_from
found_after zero t x at s = tt
found_after (suc n) t x at s =
    let rest = group_from n t x (at + number_at 2 at s) s in
    found_by (ltb at 433) (group_is t x at s) at rest (later at (at + number_at 2 at s) (omega arith) rest (found_after n t x (at + number_at 2 at s) s))

-- ---- two bodies that have the same bytes from a place on

module _ (s u : List ℕ) (q : ℕ) (same : (j : ℕ) → q ≤ j → get_or s j 0 ≡ get_or u j 0) where
  number_alike : (n j : ℕ) → q ≤ j → number_at n j s ≡ number_at n j u
  number_alike zero j h = refl
  number_alike (suc n) j h = ap₂ (λ (x y : ℕ). x + 256 * y) (same j h) (number_alike n (j + 1) (omega (arith, h)))

  scan_alike : (n t x at : ℕ) → q ≤ at → group_from n t x at s ≡ group_from n t x at u
  unfolding group_from
  scan_alike zero t x at h = refl
  scan_alike (suc n) t x at h =
      let e : group_is t x at s ≡ group_is t x at u = ap₂ (λ (v w : ℕ). eqb v t && (eqb t 0x80 || eqb w x)) (same (at + 2) (omega (arith, h))) (same (at + 3) (omega (arith, h))) in
      let f : group_from n t x (at + number_at 2 at s) s ≡ group_from n t x (at + number_at 2 at u) u = ap (λ (m : ℕ). group_from n t x (at + m) s) (number_alike 2 at h) ∙ scan_alike n t x (at + number_at 2 at u) (omega (arith, h)) in
      ap₂ (λ (b : Bool) (m : Option ℕ). cond (ltb at 433) (cond b (Some at) m) None) e f

  flag_alike : (p : Option ℕ) → From q p → flag_in p s ≡ flag_in p u
  flag_alike (Some at) h = ap (λ (x : ℕ). Some x) (same (at + 3) (omega (arith, h)))
  flag_alike None h = refl

  pair_alike : (i : ℕ) (p : Option ℕ) → From q p → entry_in p i s ≡ entry_in p i u
  pair_alike i (Some at) h =
      let k = at + 5 + 5 * i in
      let e : has_entry at i s ≡ has_entry at i u = ap (λ (x : ℕ). ltb i x && ltb i 32) (same (at + 4) (omega (arith, h))) in
      ap₂ (λ (b : Bool) (x : ℕ). cond b (Some (pair x (number_at 4 (k + 1) s))) None) e (same k (omega (arith, h)))
      ∙ ap (λ (x : ℕ). cond (has_entry at i u) (Some (pair (get_or u k 0) x)) None) (number_alike 4 (k + 1) (omega (arith, h)))
  pair_alike i None h = refl

  listing_alike : (n unit i at : ℕ) → q ≤ at → listed_from n unit i at s ≡ listed_from n unit i at u
  unfolding listed_from
  listing_alike zero unit i at h = refl
  listing_alike (suc n) unit i at h =
      ap₂ (λ (x : ℕ) (m : Option ℕ). cond (eqb x unit) (Some i) m) (same (at + 5 * i) (omega (arith, h))) (listing_alike n unit (suc i) at h)

  -- the number of the pair that is found
  told_alike : (at : ℕ) → q ≤ at → (k : Option ℕ) → option_map (entry_number at s) k ≡ option_map (entry_number at u) k
  told_alike at h (Some i) = ap (λ (x : ℕ). Some (record { 0 = x })) (number_alike 4 (at + 6 + 5 * i) (omega (arith, h)))
  told_alike at h None = refl

  listed_alike : (unit : ℕ) (p : Option ℕ) → From q p → listed_in p unit s ≡ listed_in p unit u
  listed_alike unit (Some at) h =
      ap (λ (n : ℕ). option_map (entry_number at s) (listed_from n unit 0 (at + 5) s)) (same (at + 4) (omega (arith, h)))
      ∙ ap (λ (k : Option ℕ). option_map (entry_number at s) k) (listing_alike (get_or u (at + 4) 0) unit 0 (at + 5) (omega (arith, h)))
      ∙ told_alike at h (listed_from (get_or u (at + 4) 0) unit 0 (at + 5) u)
  listed_alike unit None h = refl

  bits_alike : (p : Option ℕ) → length s ≡ length u → From q p → bits_in p s ≡ bits_in p u
  bits_alike (Some at) len h =
      let m = get_or u (at + 4) 0 in
      let e : get_or s (at + 4) 0 ≡ m = same (at + 4) (omega (arith, h)) in
      let f : has_bits at s ≡ has_bits at u = ap₂ (λ (x y : ℕ). leb x 15 && leb (at + 5 + x) y) e len in
      let g : take m (drop (at + 5) s) ≡ take m (drop (at + 5) u) = same_bytes s u (at + 5) m len (λ (j : ℕ) (a : at + 5 ≤ j) (b : j < at + 5 + m). same j (omega (arith, a, h))) in
      ap₂ (λ (b : Bool) (x : ℕ). cond b (Some (bits_at x (at + 5) s)) None) f e
      ∙ ap (λ (x : List ℕ). cond (has_bits at u) (Some (bits m (x ++ zeros (15 - m)))) None) g
    where
      bits : ℕ → List ℕ → Bits
      bits n x = record { count = n; bits = x }
  bits_alike None len h = refl

-- ---- a group that is found stands after the count: of a Login Request's groups, at 18, and of a Login Response's pairs, at 66

sought : (b : Bool) (n t x at q : ℕ) (s : List ℕ) → q ≤ at → From q (cond b (group_from n t x at s) None)
sought true n t x at q s h = later q at h (group_from n t x at s) (found_after n t x at s)
sought false n t x at q s h = tt

pub request_after : (t x : ℕ) (r : Record) → From 19 (request_group t x r)
unfolding request_group
request_after t x r = sought (is_of 0x37 r) (get_or r.body 18 0) t x 19 19 r.body (omega arith)

pub response_after : (t x : ℕ) (r : Record) → From 67 (response_group t x r)
unfolding response_group
response_after t x r = sought (is_of 0x24 r) (get_or r.body (response_count r.body) 0) t x (response_count r.body + 1) 67 r.body (omega arith)

-- ---- a field that is set before them

module _ {message at w : ℕ} {r : Record} (i : Part message at w r) (bytes : List ℕ) (l : length bytes ≡ w) where
  same_from : (q : ℕ) → at + w ≤ q → (j : ℕ) → q ≤ j → get_or (setting_of message at bytes r).body j 0 ≡ get_or r.body j 0
  same_from q h j g = byte_stays i bytes l j (inl (omega (arith, h, g)))

  -- the groups stand where they stood
  pub request_group-kept : at + w ≤ 18 → (t x : ℕ) → request_group t x (setting_of message at bytes r) ≡ request_group t x r
  unfolding request_group
  request_group-kept before t x =
      let o = setting_of message at bytes r in
      let e : group_from (get_or o.body 18 0) t x 19 o.body ≡ group_from (get_or r.body 18 0) t x 19 r.body = ap (λ (n : ℕ). group_from n t x 19 o.body) (same_from 18 before 18 (omega arith)) ∙ scan_alike o.body r.body 18 (same_from 18 before) (get_or r.body 18 0) t x 19 (omega arith) in
      ap₂ (λ (b : Bool) (p : Option ℕ). cond b p None) (same_type i bytes l 0x37) e

  pub response_group-kept : at + w ≤ 66 → (t x : ℕ) → response_group t x (setting_of message at bytes r) ≡ response_group t x r
  unfolding response_group
  response_group-kept before t x =
      let o = setting_of message at bytes r in
      let k = response_count r.body in
      let c : response_count o.body ≡ k = ap (λ (n : ℕ). 67 + 5 * n) (same_from 66 before 66 (omega arith)) in
      let e : group_from (get_or o.body (response_count o.body) 0) t x (response_count o.body + 1) o.body ≡ group_from (get_or r.body k 0) t x (k + 1) r.body = ap (λ (m : ℕ). group_from (get_or o.body m 0) t x (m + 1) o.body) c ∙ ap (λ (n : ℕ). group_from n t x (k + 1) o.body) (same_from 66 before k (omega arith)) ∙ scan_alike o.body r.body 66 (same_from 66 before) (get_or r.body k 0) t x (k + 1) (omega arith) in
      ap₂ (λ (b : Bool) (p : Option ℕ). cond b p None) (same_type i bytes l 0x24) e

  -- and what is read of a group at the same place is the same
  module _ (q : ℕ) (before : at + w ≤ q) {p p' : Option ℕ} (kept : p' ≡ p) (after : From q p) where
    pub group_flag-kept : group_flag p' (setting_of message at bytes r) ≡ group_flag p r
    unfolding group_flag
    group_flag-kept =
        let o = setting_of message at bytes r in
        ap (λ (m : Option ℕ). flag_in m o.body) kept ∙ flag_alike o.body r.body q (same_from q before) p after

    pub group_pair-kept : (k : ℕ) → group_pair p' k (setting_of message at bytes r) ≡ group_pair p k r
    unfolding group_pair
    group_pair-kept k =
        let o = setting_of message at bytes r in
        ap (λ (m : Option ℕ). entry_in m k o.body) kept ∙ pair_alike o.body r.body q (same_from q before) k p after

    pub group_listed-kept : (unit : ℕ) → group_listed p' unit (setting_of message at bytes r) ≡ group_listed p unit r
    unfolding group_listed
    group_listed-kept unit =
        let o = setting_of message at bytes r in
        ap (λ (m : Option ℕ). listed_in m unit o.body) kept ∙ listed_alike o.body r.body q (same_from q before) unit p after

    pub group_bits-kept : group_bits p' (setting_of message at bytes r) ≡ group_bits p r
    unfolding group_bits
    group_bits-kept =
        let o = setting_of message at bytes r in
        ap (λ (m : Option ℕ). bits_in m o.body) kept ∙ bits_alike o.body r.body q (same_from q before) p (set-length i bytes l ∙ sym i.whole) after

-- ---- the steps are those of the scan that accepts: where it takes a group, its length is the one that the group tells

step_by : (f e g : Bool) (n size k : ℕ) → eqb n size ≡ e → cond f (cond e (cond g size 0) 0) 0 ≡ suc k → n ≡ cond f (cond e (cond g size 0) 0) 0
step_by true true true n size k q h = eqb-true n size q
step_by true true false n size k q h = absurd (omega (arith, h))
step_by true false g n size k q h = absurd (omega (arith, h))
step_by false e g n size k q h = absurd (omega (arith, h))

told-there : (at : ℕ) (s : List ℕ) → number_at 2 at s ≡ number_at 2 0 (drop at s)
told-there at s =
    let z : at ≡ at + 0 = omega arith in
    ap₂ (λ (x y : ℕ). x + 256 * (y + 256 * 0)) (ap (λ (j : ℕ). get_or s j 0) z ∙ sym (get_or-drop at s 0 0)) (sym (get_or-drop at s 1 0))

pub same_step : (marks s : List ℕ) (at k : ℕ) → next_size marks (drop at s) ≡ suc k → number_at 2 at s ≡ next_size marks (drop at s)
unfolding next_size group_size
same_step marks s at k h =
    let d = drop at s in
    let key = group_key d in
    told-there at s
    ∙ step_by (free marks key) (eqb (number_at 2 0 d) (size_by key (get_or d 4 0))) (list_good key (get_or d 4 0) (drop 5 d)) (number_at 2 0 d) (size_by key (get_or d 4 0)) k refl h
