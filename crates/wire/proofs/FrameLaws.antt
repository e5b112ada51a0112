-- What is true of framing. Assumes nothing.
use Rattle.std.specs.Prelude.{ℕ, suc, ◌+◌, ◌≤◌, ◌<◌, ◌⊎◌, ◌≡◌, refl, List, [], ◌++◌, Bool, true, false, cond, not, ◌&&◌, ◌||◌, length, get_or, take, leb, ltb, eqb}
use Rattle.std.proofs.Common.{inl, inr, ⊎_elim, arith, sym, ap, ◌∙◌, length-take-le, take_at, length-append}
use Rattle.std.proofs.Math.Seq.{get_or-take}
use Rattle.std.proofs.Math.ListN.{get_or-append}
use borrow.Author.Tests.{ltb-true, ltb-false, lt-ltb, le-ltb, le-leb, lt-leb, eq-eqb, ne_eqb, eqb-true}
use Rattle.wire.specs.Header.{length_of, total_of}
use Rattle.wire.specs.Frame.{not_ba, starts_bad, length_bad, cut_short, frame_refusal, framed}

-- ---- a chain of refusals

-- a refusal that was not given: its test failed, and the later ones decide
pub passed : (b : Bool) (k x : ℕ) → cond b (suc k) x ≡ 0 → (b ≡ false) × (x ≡ 0)
passed true k x h = absurd (omega (arith, h))
passed false k x h = (refl, h)

neither : (a b : Bool) → (a || b) ≡ false → (a ≡ false) × (b ≡ false)
neither true b h = let z : ◌≡◌ {A = ℕ} 0 1 = cc in absurd (omega arith)
neither false b h = (refl, h)

lt_by : (b : Bool) (i j : ℕ) → ltb i j ≡ b → (i < j) ⊎ (j ≤ i)
lt_by true i j e = inl (ltb-true i j e)
lt_by false i j e = inr (ltb-false i j e)

pub lt_or_le : (i j : ℕ) → (i < j) ⊎ (j ≤ i)
lt_or_le i j = lt_by (ltb i j) i j refl

-- ---- what framing accepts

-- a run of bytes that starts with a whole message
pub record Whole (s : List ℕ) : Type 0 where
  pub ba0 : get_or s 0 0 ≡ 186
  pub ba1 : get_or s 1 0 ≡ 186
  pub least : 8 ≤ length_of s
  pub most : length_of s ≤ 2046
  pub fits : total_of s ≤ length s

-- a byte that is there and is not not-BA is BA
is_ba : (s : List ℕ) (i : ℕ) → i < length s → not_ba s i ≡ false → get_or s i 0 ≡ 186
unfolding not_ba
is_ba s i h e = by (eqb (get_or s i 0) 186) refl (rw (lt-ltb i (length s) h) at e)
  where
    by : (b : Bool) → eqb (get_or s i 0) 186 ≡ b → not b ≡ false → get_or s i 0 ≡ 186
    by true q z = eqb-true (get_or s i 0) 186 q
    by false q z = let y : ◌≡◌ {A = ℕ} 0 1 = cc in absurd (omega arith)

ba_is : (s : List ℕ) (i : ℕ) → get_or s i 0 ≡ 186 → not_ba s i ≡ false
unfolding not_ba
ba_is s i e = rw e (by (ltb i (length s)))
  where
    by : (b : Bool) → (b && false) ≡ false
    by true = refl
    by false = refl

absent : (s : List ℕ) (i : ℕ) → length s ≤ i → not_ba s i ≡ false
unfolding not_ba
absent s i h = rw (le-ltb i (length s) h)

-- what framing accepts is whole
pub whole : (s : List ℕ) → frame_refusal s ≡ 0 → Whole s
unfolding frame_refusal starts_bad length_bad cut_short
whole s h =
    let p1 = passed (not_ba s 0 || not_ba s 1) _ _ h in
    let p2 = passed (leb 4 (length s) && (ltb (length_of s) 8 || ltb 2046 (length_of s))) _ _ p1.1 in
    let p3 = passed (ltb (length s) 4 || ltb (length s) (total_of s)) _ _ p2.1 in
    let ba = neither (not_ba s 0) (not_ba s 1) p1.0 in
    let n = neither (ltb (length s) 4) (ltb (length s) (total_of s)) p3.0 in
    let four : 4 ≤ length s = ltb-false _ _ n.0 in
    let m = neither (ltb (length_of s) 8) (ltb 2046 (length_of s)) (rw (le-leb 4 (length s) four) at p2.0) in
    record {
      ba0 = is_ba s 0 (omega arith) ba.0;
      ba1 = is_ba s 1 (omega arith) ba.1;
      least = ltb-false _ _ m.0;
      most = ltb-false _ _ m.1;
      fits = ltb-false _ _ n.1;
    }

-- and what is whole is accepted
pub accepted : (s : List ℕ) → Whole s → frame_refusal s ≡ 0
unfolding frame_refusal starts_bad length_bad cut_short total_of
accepted s w =
    let f : length_of s + 2 ≤ length s = w.fits in
    rw (
      ba_is s 0 w.ba0,
      ba_is s 1 w.ba1,
      le-leb 4 (length s) (omega arith),
      le-ltb (length_of s) 8 w.least,
      le-ltb 2046 (length_of s) w.most,
      le-ltb (length s) 4 (omega arith),
      le-ltb (length s) (length_of s + 2) f,
    )

-- ---- the part that framing answers

-- an accepted message is the front of the buffer, as long as its total
pub framed_is : (s : List ℕ) → frame_refusal s ≡ 0 → framed s ≡ take (total_of s) s
unfolding framed
framed_is s h = rw (eq-eqb _ _ h)

pub framed-length : (s : List ℕ) → frame_refusal s ≡ 0 → length (framed s) ≡ total_of s
framed-length s h = ap length (framed_is s h) ∙ length-take-le (total_of s) s (whole s h).fits

-- a refused part is empty
pub refused_is_empty : (s : List ℕ) → (frame_refusal s ≡ 0 → ⊥) → framed s ≡ []
unfolding framed
refused_is_empty s n = rw (ne_eqb _ _ n)

-- ---- bytes after the message play no part

module _ (m s : List ℕ) (z : frame_refusal m ≡ 0) (same : (i : ℕ) → i < 10 → get_or s i 0 ≡ get_or m i 0) where
  pub same_length : length_of s ≡ length_of m
  unfolding length_of
  same_length = omega (arith, same 2 (omega arith), same 3 (omega arith))

  pub same_total : total_of s ≡ total_of m
  unfolding total_of
  same_total = omega (arith, same_length)

  -- what starts with the bytes of a whole message is accepted, if it is long enough
  pub same_accepted : total_of m ≤ length s → frame_refusal s ≡ 0
  same_accepted fits =
      let w = whole m z in
      let l = same_length in
      let t = same_total in
      accepted s (record {
        ba0 = same 0 (omega arith) ∙ w.ba0;
        ba1 = same 1 (omega arith) ∙ w.ba1;
        least = omega arith;
        most = omega arith;
        fits = omega arith;
      })

module _ (m t : List ℕ) (z : frame_refusal m ≡ 0) where
  at_least : 10 ≤ total_of m
  unfolding total_of
  at_least = omega (arith, (whole m z).least)

  header : (i : ℕ) → i < 10 → get_or (framed m ++ t) i 0 ≡ get_or m i 0
  header i h =
      rw (framed_is m z)
      (get_or-append (take (total_of m) m) t 0 i (omega (arith, length-take-le (total_of m) m (whole m z).fits, at_least))
      ∙ get_or-take (total_of m) m i 0 (omega (arith, at_least)))

  -- a whole message is accepted whatever stands after it
  pub framed_accepted : frame_refusal (framed m ++ t) ≡ 0
  framed_accepted = same_accepted m (framed m ++ t) z header (omega (arith, length-append (framed m) t, framed-length m z))

  -- and it is framed the same: a definition over `framed s` alone needs no other law about the bytes after a message
  pub framed-again : framed (framed m ++ t) ≡ framed m
  framed-again =
      framed_is (framed m ++ t) framed_accepted
      ∙ take_at (framed m) t (total_of (framed m ++ t)) (framed-length m z ∙ sym (same_total m (framed m ++ t) z header))

-- ---- a message that is cut is refused with 3

module _ (m : List ℕ) (j : ℕ) (z : frame_refusal m ≡ 0) (cut : j < total_of m) where
  cut-length : length (take j m) ≡ j
  cut-length = let w = whole m z in length-take-le j m (omega arith)

  cut_ba : (i : ℕ) → get_or m i 0 ≡ 186 → not_ba (take j m) i ≡ false
  cut_ba i e = ⊎_elim
      (λ (l : i < j). ba_is (take j m) i (get_or-take j m i 0 l ∙ e))
      (λ (l : j ≤ i). absent (take j m) i (omega (arith, cut-length)))
      (lt_or_le i j)

  cut_under_four : j < 4 → frame_refusal (take j m) ≡ 3
  unfolding frame_refusal starts_bad length_bad cut_short
  cut_under_four h =
      let w = whole m z in
      rw (cut_ba 0 w.ba0, cut_ba 1 w.ba1, cut-length, lt-leb 4 j h, lt-ltb j 4 h)

  cut_later : 4 ≤ j → frame_refusal (take j m) ≡ 3
  unfolding frame_refusal starts_bad length_bad cut_short total_of length_of
  cut_later h =
      let w = whole m z in
      let e2 = get_or-take j m 2 0 (omega arith) in
      let e3 = get_or-take j m 3 0 (omega arith) in
      simp (
        cut_ba 0 w.ba0,
        cut_ba 1 w.ba1,
        cut-length,
        e2,
        e3,
        le-leb 4 j h,
        le-ltb j 4 h,
        le-ltb (length_of m) 8 w.least,
        le-ltb 2046 (length_of m) w.most,
        lt-ltb j (total_of m) cut,
      )

  pub cut-refused : frame_refusal (take j m) ≡ 3
  cut-refused = ⊎_elim cut_under_four cut_later (lt_or_le j 4)
