-- What is true of the two markets: a message under another type is the same message but for that byte, and what is read under a record's type and what is
-- written from it are each other's. Assumes nothing.
use Rattle.std.specs.Prelude.{◌≡◌, refl, Bool, true, false, List, [], ◌∷◌, ◌++◌, ℕ, zero, suc, ◌≤◌, eqb, length, get_or, drop}
use Rattle.std.proofs.Common.{sym, ap, ◌∙◌, arith, take_at, eqb-true, ne_eqb}
use Rattle.wire.specs.Header.{type_of, unit_of, number_of, length_of, total_of}
use Rattle.wire.specs.Frame.{not_ba, starts_bad, length_bad, cut_short, frame_refusal, framed}
use Rattle.wire.proofs.FrameLaws.{framed_is, framed-length}
use Rattle.orders.specs.declared.Market.TheVariants.{Options}
use Rattle.orders.specs.Markets.{record_type, wire_type, typed, heard_in, on_wire}

-- ---- a message of at least five bytes under another type

-- what holds of every such message holds of its five bytes and those after them
pub by_bytes : (P : List ℕ → Type 0) → ((a b c d e : ℕ) (m : List ℕ) → P (a ∷ b ∷ c ∷ d ∷ e ∷ m)) → (m : List ℕ) → 5 ≤ length m → P m
by_bytes P f (a ∷ b ∷ c ∷ d ∷ e ∷ m) h = f a b c d e m
by_bytes P f [] h = absurd (omega (arith, h))
by_bytes P f (a ∷ []) h = absurd (omega (arith, h))
by_bytes P f (a ∷ b ∷ []) h = absurd (omega (arith, h))
by_bytes P f (a ∷ b ∷ c ∷ []) h = absurd (omega (arith, h))
by_bytes P f (a ∷ b ∷ c ∷ d ∷ []) h = absurd (omega (arith, h))

past : (n : ℕ) → 5 ≤ n → (P : ℕ → Type 0) → ((k : ℕ) → P (suc (suc (suc (suc (suc k)))))) → P n
past (suc (suc (suc (suc (suc n))))) h P f = f n
past zero h P f = absurd (omega (arith, h))
past (suc zero) h P f = absurd (omega (arith, h))
past (suc (suc zero)) h P f = absurd (omega (arith, h))
past (suc (suc (suc zero))) h P f = absurd (omega (arith, h))
past (suc (suc (suc (suc zero)))) h P f = absurd (omega (arith, h))

-- what another type leaves as it was
pub record SameBut (type : ℕ) (m : List ℕ) : Type 0 where
  pub long : length (typed type m) ≡ length m
  pub type_is : type_of (typed type m) ≡ type
  pub unit : unit_of (typed type m) ≡ unit_of m
  pub number : number_of (typed type m) ≡ number_of m
  pub total : total_of (typed type m) ≡ total_of m
  pub after : (n : ℕ) → 5 ≤ n → drop n (typed type m) ≡ drop n m
  pub byte_after : (n : ℕ) → 5 ≤ n → get_or (typed type m) n 0 ≡ get_or m n 0
  pub again : (other : ℕ) → typed other (typed type m) ≡ typed other m
  pub same : typed (type_of m) m ≡ m

pub same_but : (type : ℕ) (m : List ℕ) → 5 ≤ length m → SameBut type m
unfolding typed number_of total_of length_of
same_but type = by_bytes (SameBut type) (λ a b c d e m. record { long = refl; type_is = refl; unit = refl; number = refl; total = refl; after = λ n l. past n l (λ (k : ℕ). drop k (a ∷ b ∷ c ∷ d ∷ type ∷ m) ≡ drop k (a ∷ b ∷ c ∷ d ∷ e ∷ m)) (λ k. refl); byte_after = λ n l. past n l (λ (k : ℕ). get_or (a ∷ b ∷ c ∷ d ∷ type ∷ m) k 0 ≡ get_or (a ∷ b ∷ c ∷ d ∷ e ∷ m) k 0) (λ k. refl); again = λ other. refl; same = refl })

-- ---- framing goes by what stands before the type

pub frames_alike : (type : ℕ) (m t : List ℕ) → 5 ≤ length m → frame_refusal (typed type m ++ t) ≡ frame_refusal (m ++ t)
unfolding typed frame_refusal starts_bad not_ba length_bad cut_short length_of total_of
frames_alike type m t = by_bytes (λ (x : List ℕ). frame_refusal (typed type x ++ t) ≡ frame_refusal (x ++ t)) (λ a b c d e x. refl) m

pub total_alike : (type : ℕ) (m t : List ℕ) → 5 ≤ length m → total_of (typed type m ++ t) ≡ total_of (m ++ t)
unfolding typed length_of total_of
total_alike type m t = by_bytes (λ (x : List ℕ). total_of (typed type x ++ t) ≡ total_of (x ++ t)) (λ a b c d e x. refl) m

-- so a message under another type is framed as it stands
pub framed_alike : (type : ℕ) (m t : List ℕ) → 5 ≤ length m → frame_refusal (m ++ t) ≡ 0 → framed (m ++ t) ≡ m → framed (typed type m ++ t) ≡ typed type m
framed_alike type m t h z e =
    framed_is (typed type m ++ t) (frames_alike type m t h ∙ z)
    ∙ take_at (typed type m) t (total_of (typed type m ++ t))
    ((same_but type m h).long ∙ sym (ap length e) ∙ framed-length (m ++ t) z ∙ sym (total_alike type m t h))

-- ---- the types

-- in the options market a record's type and its message's are each other's
pub wire_of_record : (t : ℕ) → (record_type Options t ≡ 0 → ⊥) → wire_type (record_type Options t) ≡ t
wire_of_record t n = by (eqb t 0x38) (eqb t 0xB8) refl refl
  where
    by : (a b : Bool) → eqb t 0x38 ≡ a → eqb t 0xB8 ≡ b → wire_type (record_type Options t) ≡ t
    by true b p q = rw (eqb-true t 0x38 p)
    by false true p q = absurd (n (rw (p, q)))
    by false false p q =
        let k : record_type Options t ≡ t = rw (p, q) in
        ap wire_type k ∙ rw q

pub record_of_wire : (t : ℕ) → (t ≡ 0x38 → ⊥) → record_type Options (wire_type t) ≡ t
record_of_wire t n = by (eqb t 0xB8) refl
  where
    by : (b : Bool) → eqb t 0xB8 ≡ b → record_type Options (wire_type t) ≡ t
    by true q = rw (eqb-true t 0xB8 q)
    by false q =
        let k : wire_type t ≡ t = rw q in
        ap (record_type Options) k ∙ rw (q, ne_eqb t 0x38 n)

-- ---- messages

-- what was read in the options market stands on the wire as it stood
pub wired_as_heard : (m : List ℕ) → 5 ≤ length m → (type_of (heard_in Options m) ≡ 0 → ⊥) → on_wire (heard_in Options m) ≡ m
wired_as_heard m h n =
    let s = same_but (record_type Options (type_of m)) m h in
    ap (λ (t : ℕ). typed (wire_type t) (heard_in Options m)) s.type_is
    ∙ s.again (wire_type (record_type Options (type_of m)))
    ∙ ap (λ (t : ℕ). typed t m) (wire_of_record (type_of m) (λ z. n (s.type_is ∙ z)))
    ∙ s.same

-- and what stands on the wire is read under its record's type
pub heard_as_wired : (m : List ℕ) → 5 ≤ length m → (type_of m ≡ 0x38 → ⊥) → heard_in Options (on_wire m) ≡ m
heard_as_wired m h n =
    let s = same_but (wire_type (type_of m)) m h in
    ap (λ (t : ℕ). typed (record_type Options t) (on_wire m)) s.type_is
    ∙ s.again (record_type Options (wire_type (type_of m)))
    ∙ ap (λ (t : ℕ). typed t m) (record_of_wire (type_of m) n)
    ∙ s.same

-- every message but the options New Order stands on the wire as it is
pub wired_alike : (m : List ℕ) → 5 ≤ length m → (type_of m ≡ 0xB8 → ⊥) → on_wire m ≡ m
wired_alike m h n =
    let k : wire_type (type_of m) ≡ type_of m = rw (ne_eqb (type_of m) 0xB8 n) in
    ap (λ (t : ℕ). typed t m) k ∙ (same_but (type_of m) m h).same
