-- What is true of the bytes in which a desk gives a login: how they are loaded. Assumes nothing.
use Rattle.std.specs.Prelude.{◌≡◌, refl, Bool, true, false, not, List, ℕ, zero, suc, ◌+◌, ◌-◌, ◌≤◌, ◌<◌, eqb, length, get_or, set, take, drop}
use Rattle.std.proofs.Common.{sym, ap, ap₂, ◌∙◌, le_of_suc-le-suc, not-suc-le-zero, arith, length-set, ext_get_or, get_or-set_same, get_or-set_other, eqb-true}
use Rattle.std.proofs.lemmas.Bool.{eqb-false}
use Rattle.numbers.specs.Numbers.{patched}
use Rattle.numbers.specs.NumberLaws.{patched-part}
use Rattle.table.specs.declared.Table.{Table}
use Rattle.table.specs.declared.Unit.{Unit}
use Rattle.session_logins.specs.declared.Choice.{Choice}
use Rattle.session_logins.specs.declared.Bitfields.{Bitfields}
use Rattle.session_logins.specs.LoginRequests.{blank_units, login_record}
use Rattle.session_calls.specs.LoginBytes.{login_size, names_in, bits_in, units_from, choice_in, given_record}

-- ---- the units, one after the other

abbrev no_unit : Unit
no_unit = record { 0 = 0 }

abbrev unit_at : List ℕ → ℕ → Unit
unit_at g k = record { 0 = get_or g (55 + k) 0 }

units_long : (k at : ℕ) (g : List ℕ) → length (units_from k at g) ≡ k
units_long zero at g = refl
units_long (suc k) at g = ap suc (units_long k (suc at) g)

units_at_lem : (k at j : ℕ) (g : List ℕ) → j < k → get_or (units_from k at g) j no_unit ≡ record { 0 = get_or g (at + j) 0 }
units_at_lem zero at j g h = absurd (not-suc-le-zero h)
units_at_lem (suc k) at zero g h = let e : at + 0 ≡ at = omega arith in rw e
units_at_lem (suc k) at (suc j) g h =
    let e : suc at + j ≡ at + suc j = omega arith in
    units_at_lem k (suc at) j g (le_of_suc-le-suc h) ∙ ap (λ (n : ℕ). record { 0 = get_or g n 0 }) e

-- units of which the first i are those given
pub record Chosen (g : List ℕ) (us : List Unit) (i : ℕ) : Type 0 where
  pub long : length us ≡ 32
  pub first : (k : ℕ) → k < i → get_or us k no_unit ≡ unit_at g k

pub choose_starts : (g : List ℕ) → Chosen g blank_units 0
choose_starts g = record { long = refl; first = λ k h. absurd (not-suc-le-zero h) }

pub choose-more : (g : List ℕ) (us : List Unit) (i : ℕ) → i < 32 → Chosen g us i → {n : ℕ} → n ≡ get_or g (55 + i) 0 → Chosen g (set us i (record { 0 = n })) (i + 1)
choose-more g us i h l {n} e = record {
  long = length-set us i (record { 0 = n }) ∙ l.long;
  first = λ k f. by k f (eqb k i) refl;
}
  where
    by : (k : ℕ) → k < i + 1 → (q : Bool) → eqb k i ≡ q → get_or (set us i (record { 0 = n })) k no_unit ≡ unit_at g k
    by k f true d =
        let o = eqb-true k i d in
        ap (λ (j : ℕ). get_or (set us i (record { 0 = n })) j no_unit) o
        ∙ get_or-set_same us i (record { 0 = n }) no_unit (omega (arith, h, l.long))
        ∙ ap (λ (x : ℕ). record { 0 = x }) e ∙ ap (unit_at g) (sym o)
    by k f false d =
        let o = eqb-false k i d in
        get_or-set_other us i k (record { 0 = n }) no_unit o ∙ l.first k (omega (arith, f, o))

choose-ends : (g : List ℕ) (us : List Unit) (i : ℕ) → 32 ≤ i → Chosen g us i → us ≡ units_from 32 55 g
choose-ends g us i h l =
    ext_get_or no_unit us (units_from 32 55 g) (l.long ∙ sym (units_long 32 55 g))
    (λ k f. l.first k (omega (arith, f, h, l.long)) ∙ sym (units_at_lem 32 55 k g (omega (arith, f, l.long))))

pub choice_is : (g : List ℕ) (us : List Unit) (i : ℕ) → 32 ≤ i → Chosen g us i → {w f n : ℕ} → w ≡ get_or g 52 0 → f ≡ get_or g 53 0 → n ≡ get_or g 54 0
    → record { which = w; flag = f; count = n; units = us } ≡ choice_in g
choice_is g us i h l {w} {f} {n} ew ef en =
    ap (λ (x : ℕ). record { which = x; flag = f; count = n; units = us }) ew
    ∙ ap₂ (λ (x y : ℕ). record { which = get_or g 52 0; flag = x; count = y; units = us }) ef en
    ∙ ap (λ (x : List Unit). record { which = get_or g 52 0; flag = get_or g 53 0; count = get_or g 54 0; units = x }) (choose-ends g us i h l)

-- ---- bitfields and names, parts of what is given

pub bits_are : (g z : List ℕ) (at : ℕ) {a n : ℕ} {bs : List ℕ} → length z ≡ 15 → at + 17 ≤ length g → a ≡ get_or g at 0 → n ≡ get_or g (at + 1) 0
    → bs ≡ patched z 0 (take (at + 17 - (at + 2)) (drop (at + 2) g)) → record { given = not (eqb a 0); count = n; bits = bs } ≡ bits_in at g
bits_are g z at {a} {n} {bs} lz h ea en eb =
    let ew : at + 17 - (at + 2) ≡ 15 = omega arith in
    let e = patched-part z g 15 (at + 2) lz (omega (arith, h)) (eb ∙ ap (λ (i : ℕ). patched z 0 (take i (drop (at + 2) g))) ew) in
    ap₂ (λ (x : ℕ) (y : List ℕ). record { given = not (eqb x 0); count = n; bits = y }) ea e
    ∙ ap (λ (x : ℕ). record { given = not (eqb (get_or g at 0) 0); count = x; bits = take 15 (drop (at + 2) g) }) en

pub names_are : (g z : List ℕ) {ns : List ℕ} → length z ≡ 18 → login_size ≤ length g → ns ≡ patched z 0 (take 18 (drop 0 g)) → ns ≡ names_in g
names_are g z lz h e = patched-part z g 18 0 lz (omega (arith, h)) e

-- the record, part by part
pub record_is : (g : List ℕ) {t t' : Table} {c : Choice} {ns : List ℕ} {a x : Bitfields} → t ≡ t' → c ≡ choice_in g → ns ≡ names_in g → a ≡ bits_in 18 g → x ≡ bits_in 35 g
    → login_record t c ns a x ≡ given_record t' g
record_is g {t} {t'} {c} {ns} {a} {x} et ec en ea ex =
    ap₂ (λ (k : Table) (l : Choice). login_record k l ns a x) et ec
    ∙ ap₂ (λ (k : List ℕ) (l : Bitfields). login_record t' (choice_in g) k l x) en ea
    ∙ ap (λ (k : Bitfields). login_record t' (choice_in g) (names_in g) (bits_in 18 g) k) ex
