-- What is true of the calendar. Assumes nothing.
use Rattle.std.specs.Prelude.{◌≡◌, refl, Bool, true, false, cond, ◌&&◌, ◌||◌, ◌⊎◌, ℕ, ◌≤◌, leb, eqb}
use Rattle.std.proofs.Math.Bool.{and-eq-true_iff}
use Rattle.std.proofs.Common.{inl, inr, arith, leb-true}
use Rattle.calendar.specs.Calendar.{leap, days_in, year_of, month_of, day_of, is_day, day_refusal}

-- what a day's year, month and day of the month are
pub record Parts (n : ℕ) : Type 0 where
  pub from_1970 : 1970 ≤ year_of n
  pub to_2099 : year_of n ≤ 2099
  pub from_january : 1 ≤ month_of n
  pub to_december : month_of n ≤ 12
  pub from_first : 1 ≤ day_of n
  pub to_last : day_of n ≤ days_in (year_of n) (month_of n)

both : (a b : ℕ) (u : Bool) → leb a b && u ≡ true → (a ≤ b) × (u ≡ true)
both a b u h =
    let s = (and-eq-true_iff (leb a b) u).0 h in
    (leb-true a b s.0, s.1)

-- a day has such a year, month and day of the month
pub day-parts : (n : ℕ) → is_day n ≡ true → Parts n
unfolding is_day
day-parts n h =
    let y = both 1970 (year_of n) _ h in
    let z = both (year_of n) 2099 _ y.1 in
    let m = both 1 (month_of n) _ z.1 in
    let o = both (month_of n) 12 _ m.1 in
    let d = both 1 (day_of n) _ o.1 in
    record {
      from_1970 = y.0;
      to_2099 = z.0;
      from_january = m.0;
      to_december = o.0;
      from_first = d.0;
      to_last = leb-true (day_of n) _ d.1;
    }

most : (feb leaps short : Bool) → cond feb (cond leaps 29 28) (cond short 30 31) ≤ 31
most true true short = omega arith
most true false short = omega arith
most false leaps true = omega arith
most false leaps false = omega arith

-- no month has more than 31 days
pub month_most : (y m : ℕ) → days_in y m ≤ 31
unfolding days_in
month_most y m = most (eqb m 2) (leap y) (eqb m 4 || (eqb m 6 || (eqb m 9 || eqb m 11)))

-- a day lies between 1 January 1970 and 31 December 2099
pub day_in_range : (n : ℕ) → is_day n ≡ true → (19700101 ≤ n) × (n ≤ 20991231)
day_in_range n h =
    let p = day-parts n h in
    let l = month_most (year_of n) (month_of n) in
    (omega arith, omega arith)

one_of : (b : Bool) (k : ℕ) → (cond b 0 k ≡ 0) ⊎ (cond b 0 k ≡ k)
one_of true k = inl refl
one_of false k = inr refl

-- a number is refused by 19, or not at all
pub refusal_is_19_or_0 : (n : ℕ) → (day_refusal n ≡ 0) ⊎ (day_refusal n ≡ 19)
unfolding day_refusal
refusal_is_19_or_0 n = one_of (is_day n) 19
