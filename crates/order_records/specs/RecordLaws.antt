-- What is true of a record's bytes as they are stored: the head, the parts that make up a record, and a record loaded from any bytes or stored in any
-- buffer. Assumes nothing.
use Rattle.std.specs.Prelude.{◌≡◌, List, [], ◌∷◌, ℕ, ◌≤◌, ◌<◌, length, get_or, take, drop, set}
use Rattle.std.proofs.Common.{ap₂, ◌∙◌, arith, lt-ltb, le-ltb}
use Rattle.numbers.specs.Numbers.{number_at, bytes_of, patched, put_buffer}
use Rattle.numbers.specs.NumberLaws.{put_stores}
use Rattle.orders.specs.declared.Record.{Record}
use Rattle.orders.specs.Orders.{blank}
use Rattle.order_records.specs.Records.{record_bytes, record_at, load_of, store_refusal, store_buffer}
use Rattle.block.specs.Sizes.{fixed_size, layout_size, record_size, most_bitfields, count_place, bits_place, slots_place}

-- the first two bytes stored and the number put after them
pub head_put : (out out' : List ℕ) (m u n : ℕ) → 6 ≤ length out → out' ≡ put_buffer (set (set out 0 m) 1 u) 2 (bytes_of 4 n) → out' ≡ patched out 0 (m ∷ u ∷ bytes_of 4 n)
unfolding patched
head_put [] out' m u n h e = absurd (omega (arith, h))
head_put (x ∷ []) out' m u n h e = absurd (omega (arith, h))
head_put (x ∷ y ∷ out) out' m u n h e = e ∙ put_stores (m ∷ u ∷ out) 2 (bytes_of 4 n) (omega (arith, h))

-- the parts make up the record
pub record_is : (s : List ℕ) {n : ℕ} {f b v : List ℕ} → n ≡ number_at 4 2 s → f ≡ take fixed_size (drop 6 s) → b ≡ take most_bitfields (drop bits_place s) → v ≡ take layout_size (drop slots_place s)
    → record { message = get_or s 0 0; unit = get_or s 1 0; number = n; fixed = f; count = get_or s count_place 0; bits = b; slots = v } ≡ record_at s
unfolding record_at
record_is s {n} {f} {b} {v} p q t u =
    ap₂ (λ (x : ℕ) (y : List ℕ). record { message = get_or s 0 0; unit = get_or s 1 0; number = x; fixed = y; count = get_or s count_place 0; bits = b; slots = v }) p q
    ∙ ap₂ (λ (x y : List ℕ). record { message = get_or s 0 0; unit = get_or s 1 0; number = number_at 4 2 s; fixed = take fixed_size (drop 6 s); count = get_or s count_place 0; bits = x; slots = y }) t u

pub load_short : (s : List ℕ) → length s < record_size → load_of s ≡ record { refusal = 13; order = blank }
unfolding load_of store_refusal
load_short s h = rw (lt-ltb (length s) record_size h)

pub load_whole : (s : List ℕ) → record_size ≤ length s → load_of s ≡ record { refusal = 0; order = record_at s }
unfolding load_of store_refusal
load_whole s h = rw (le-ltb (length s) record_size h)

pub store_short : (r : Record) (out : List ℕ) → length out < record_size → (13 ≡ store_refusal (length out)) × (out ≡ store_buffer r out)
unfolding store_refusal store_buffer
store_short r out h =
    let a : 13 ≡ store_refusal (length out) = rw (lt-ltb (length out) record_size h) in
    let b : out ≡ store_buffer r out = rw (lt-ltb (length out) record_size h) in
    (a, b)

pub store_whole : (r : Record) (out : List ℕ) → record_size ≤ length out → {out' : List ℕ} → out' ≡ patched out 0 (record_bytes r) → (0 ≡ store_refusal (length out)) × (out' ≡ store_buffer r out)
unfolding store_refusal store_buffer
store_whole r out h {out'} e =
    let a : 0 ≡ store_refusal (length out) = rw (le-ltb (length out) record_size h) in
    let b : out' ≡ store_buffer r out = rw (le-ltb (length out) record_size h) e in
    (a, b)
