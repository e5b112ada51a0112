-- How an order goes out: the refusals before the writer's, the record under its number, and what the call answers. Assumes nothing.
use Rattle.std.specs.Prelude.{◌≡◌, Bool, List, [], ◌∷◌, ℕ, zero, suc, ◌+◌, ◌≤◌, ◌<◌, ◌-◌, eqb, ltb, length, get_or, take, drop}
use Rattle.std.proofs.Math.Path.{refl, ap}
use Rattle.std.proofs.Common.{sym, ap₂, ◌∙◌, arith, get_or-take, length-take-le}
use Rattle.std.proofs.Math.Bool.{true, false, cond}
use borrow.Author.Tests.{eq-eqb, ne_eqb, eqb-false, lt-ltb, le-ltb, ltb-false}
use Rattle.numbers.specs.Numbers.{bytes_of, patched, put_buffer}
use Rattle.numbers.specs.NumberLaws.{put_stores}
use Rattle.orders.specs.declared.Market.{Market}
use Rattle.orders.specs.Markets.{of_market, on_wire}
use Rattle.orders.specs.declared.Record.{Record}
use Rattle.orders.specs.Orders as orders
use Rattle.order_records.specs.Records.{record_at}
use Rattle.session.specs.declared.Phase.{Phase}
use Rattle.session.specs.declared.Session.{Session}
use Rattle.session.specs.Answer.{Answer}
use Rattle.session.specs.Sessions.{answer, is_live, numbered, next_outgoing, order_refusal, order_of, order_out}
use Rattle.session.specs.Stages.{gate_by, gate_refusal}
use Rattle.session.proofs.SessionLaws.{refuses, accepts}
use Rattle.block.specs.Sizes.{fixed_size, layout_size, record_size, most_bitfields, bits_place, slots_place}

-- ---- the record under its number

-- a part of the front is that part of the whole
part_of_front : (n a k : ℕ) (l : List ℕ) → a + n ≤ k → take n (drop a (take k l)) ≡ take n (drop a l)
part_of_front zero a k l h = refl
part_of_front (suc n) zero zero l h = absurd (omega (arith, h))
part_of_front (suc n) zero (suc k) [] h = refl
part_of_front (suc n) zero (suc k) (x ∷ l) h = ap (λ (y : List ℕ). x ∷ y) (part_of_front n zero k l (omega (arith, h)))
part_of_front (suc n) (suc a) zero l h = absurd (omega (arith, h))
part_of_front (suc n) (suc a) (suc k) [] h = refl
part_of_front (suc n) (suc a) (suc k) (x ∷ l) h = part_of_front (suc n) a k l (omega (arith, h))

-- records of the same parts
same : {m u n n' c c' : ℕ} {f f' b b' v v' : List ℕ} → n ≡ n' → f ≡ f' → c ≡ c' → b ≡ b' → v ≡ v'
    → ◌≡◌ {A = Record} (record { message = m; unit = u; number = n; fixed = f; count = c; bits = b; slots = v }) (record { message = m; unit = u; number = n'; fixed = f'; count = c'; bits = b'; slots = v' })
same {m} {u} {n} {n'} {c} {c'} {f} {f'} {b} {b'} {v} {v'} p q r s t =
    ap₂ (λ (x : ℕ) (y : List ℕ). record { message = m; unit = u; number = x; fixed = y; count = c; bits = b; slots = v }) p q
    ∙ ap₂ (λ (x : ℕ) (y : List ℕ). record { message = m; unit = u; number = n'; fixed = f'; count = x; bits = y; slots = v }) r s
    ∙ ap (λ (x : List ℕ). record { message = m; unit = u; number = n'; fixed = f'; count = c'; bits = b'; slots = x }) t

-- RECORD UNDER A NUMBER: the first `record_size` bytes given with the number put in its place are the record under that number
pub numbered_is : (given : List ℕ) (n : ℕ) → record_size ≤ length given → n < 4294967296 → record_at (put_buffer (take record_size given) 2 (bytes_of 4 n)) ≡ numbered given n
unfolding record_at patched
numbered_is (a ∷ b ∷ c ∷ d ∷ e ∷ f ∷ l) n h k =
    let given = a ∷ b ∷ c ∷ d ∷ e ∷ f ∷ l in
    let t : length (take record_size given) ≡ record_size = length-take-le record_size given h in
    ap record_at (put_stores (take record_size given) 2 (bytes_of 4 n) (omega (arith, t)))
    ∙ same (omega arith) (part_of_front fixed_size 0 (record_size - 6) l (omega arith)) (get_or-take (record_size - 6) l fixed_size 0 (omega arith)) (part_of_front most_bitfields (bits_place - 6) (record_size - 6) l (omega arith)) (part_of_front layout_size (slots_place - 6) (record_size - 6) l (omega arith))
numbered_is [] n h k = absurd (omega (arith, h))
numbered_is (a ∷ []) n h k = absurd (omega (arith, h))
numbered_is (a ∷ b ∷ []) n h k = absurd (omega (arith, h))
numbered_is (a ∷ b ∷ c ∷ []) n h k = absurd (omega (arith, h))
numbered_is (a ∷ b ∷ c ∷ d ∷ []) n h k = absurd (omega (arith, h))
numbered_is (a ∷ b ∷ c ∷ d ∷ e ∷ []) n h k = absurd (omega (arith, h))

-- ---- before the writer

module _ (p : Phase) (n : ℕ) (market : Market) (given : List ℕ) where
  pub not_live : is_live p ≡ false → 16 ≡ gate_by p n market given
  not_live e = rw e

  module _ (l : is_live p ≡ true) where
    pub used_up : n ≡ 4294967295 → 20 ≡ gate_by p n market given
    used_up e = rw (l, eq-eqb n 4294967295 e)

    module _ (u : n ≡ 4294967295 → ⊥) where
      pub short : length given < record_size → 13 ≡ gate_by p n market given
      short h = rw (l, ne_eqb n 4294967295 u, lt-ltb (length given) record_size h)

      pub no_order : record_size ≤ length given → of_market market (get_or given 0 0) ≡ false → 4 ≡ gate_by p n market given
      no_order h e = rw (l, ne_eqb n 4294967295 u, le-ltb (length given) record_size h, e)

      pub an_order : record_size ≤ length given → of_market market (get_or given 0 0) ≡ true → 0 ≡ gate_by p n market given
      an_order h e = rw (l, ne_eqb n 4294967295 u, le-ltb (length given) record_size h, e)

-- what an order that comes to the writer has
pub record Admitted (s : Session) (given : List ℕ) : Type 0 where
  pub live : is_live s.phase ≡ true
  pub unused : s.outgoing.0 ≡ 4294967295 → ⊥
  pub long : record_size ≤ length given
  pub order : of_market s.market (get_or given 0 0) ≡ true

pub admitted : (s : Session) (given : List ℕ) → gate_refusal s given ≡ 0 → Admitted s given
unfolding gate_refusal
admitted s given z = by (is_live s.phase) refl (eqb s.outgoing.0 4294967295) refl (ltb (length given) record_size) refl (of_market s.market (get_or given 0 0)) refl z
  where
    by : (p : Bool) → is_live s.phase ≡ p → (q : Bool) → eqb s.outgoing.0 4294967295 ≡ q → (r : Bool) → ltb (length given) record_size ≡ r → (t : Bool) → of_market s.market (get_or given 0 0) ≡ t
        → ◌≡◌ {A = ℕ} (cond p (cond q 20 (cond r 13 (cond t 0 4))) 16) 0 → Admitted s given
    by true p false q false r true t z = record { live = p; unused = eqb-false s.outgoing.0 4294967295 q; long = ltb-false (length given) record_size r; order = t }
    by true p false q false r false t z = absurd (omega (arith, z))
    by true p false q true r t u z = absurd (omega (arith, z))
    by true p true q r t u v z = absurd (omega (arith, z))
    by false p q r t u v w z = absurd (omega (arith, z))

-- ---- the call

module _ (s : Session) (given : List ℕ) where
  -- a refusal before the writer's is the call's
  gate_tells : (room : ℕ) → (gate_refusal s given ≡ 0 → ⊥) → gate_refusal s given ≡ order_refusal s given room
  unfolding gate_refusal order_refusal
  gate_tells room k = by (is_live s.phase) (eqb s.outgoing.0 4294967295) (ltb (length given) record_size) (of_market s.market (get_or given 0 0)) k
    where
      by : (p q r t : Bool) → (◌≡◌ {A = ℕ} (cond p (cond q 20 (cond r 13 (cond t 0 4))) 16) 0 → ⊥)
          → cond p (cond q 20 (cond r 13 (cond t 0 4))) 16 ≡ cond p (cond q 20 (cond r 13 (cond t (orders.write_refusal (numbered given (next_outgoing s)) room) 4))) 16
      by true false false true k = absurd (k refl)
      by true false false false k = refl
      by true false true t k = refl
      by true true r t k = refl
      by false q r t k = refl

  -- after it the writer's is
  writer_tells : (room : ℕ) → Admitted s given → orders.write_refusal (numbered given (next_outgoing s)) room ≡ order_refusal s given room
  unfolding order_refusal
  writer_tells room a = rw (a.live, ne_eqb s.outgoing.0 4294967295 a.unused, le-ltb (length given) record_size a.long, a.order)

-- the state after an order that went out
abbrev sent_by : Session → Session
sent_by s = record { phase = s.phase; outgoing = record { 0 = next_outgoing s }; market = s.market; book = s.book }

-- what an order answers
abbrev pub Orders : Session → List ℕ → List ℕ → Answer → List ℕ → Type 0
Orders s given out a to = (a ≡ order_of s given (length out)) × (to ≡ order_out s given out)

module _ (s : Session) (given out : List ℕ) where
  pub gate_stops : {n : ℕ} → n ≡ gate_refusal s given → (n ≡ 0 → ⊥) → Orders s given out (answer n s) out
  unfolding order_of order_out
  gate_stops {n} e k =
      let q : n ≡ order_refusal s given (length out) = e ∙ gate_tells s given (length out) (λ z. k (e ∙ z)) in
      (refuses (order_refusal s given (length out)) (sent_by s) s q k, rw (ne_eqb (order_refusal s given (length out)) 0 (λ z. k (q ∙ z))))

  module _ (a : Admitted s given) {n : ℕ} {to : List ℕ} (w : (n ≡ orders.write_refusal (numbered given (next_outgoing s)) (length out)) × (to ≡ orders.write_buffer (numbered given (next_outgoing s)) out)) where
    refusal_is : n ≡ order_refusal s given (length out)
    refusal_is = w.0 ∙ writer_tells s given (length out) a

    out_is : to ≡ order_out s given out
    unfolding order_out orders.write_buffer
    out_is = w.1 ∙ ap (λ (x : ℕ). cond (eqb x 0) (patched out 0 (on_wire (orders.order_bytes (numbered given (next_outgoing s))))) out) (writer_tells s given (length out) a)

    pub writer_stops : (n ≡ 0 → ⊥) → Orders s given out (answer n s) to
    unfolding order_of
    writer_stops k = (refuses (order_refusal s given (length out)) (sent_by s) s refusal_is k, out_is)

    pub goes-out : n ≡ 0 → Orders s given out (answer 0 (sent_by s)) to
    unfolding order_of
    goes-out z = (accepts (order_refusal s given (length out)) (sent_by s) s (sym refusal_is ∙ z) refl, out_is)
