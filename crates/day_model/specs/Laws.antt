-- Lists of messages: by unit, counted, numbered. Assumes nothing.
use Rattle.std.specs.Prelude.{◌≡◌, refl, Bool, true, false, ℕ, suc, ◌+◌, ◌≤◌, eqb, length, take, drop}
use Rattle.std.proofs.Common.{sym, ap, ◌∙◌, arith, length-append, take-append-drop, eq-eqb}
use mathlib.Core.List.{List, [], ◌∷◌, ◌++◌, append_assoc, append-nil, Memᴰ}
use Rattle.day_model.specs.Model.{Msg, Item, mark, entry, keep, of_unit, count, onto, messages, pick}

keep_append : (b : Bool) (m : Msg) (r t : List Msg) → keep b m r ++ t ≡ keep b m (r ++ t)
keep_append true m r t = refl
keep_append false m r t = refl

pub of_unit_append : (u : ℕ) (a b : List Msg) → of_unit u (a ++ b) ≡ of_unit u a ++ of_unit u b
of_unit_append u [] b = refl
of_unit_append u (m ∷ a) b = rw (keep_append, of_unit_append u a b)

one : (b : Bool) (m : Msg) (n : ℕ) → n + length (keep b m []) ≡ pick b (suc n) n
one true m n = omega arith
one false m n = omega arith

-- one more message
pub count_snoc : (u : ℕ) (a : List Msg) (m : Msg) → count u (a ++ m ∷ []) ≡ pick (eqb u m.unit) (suc (count u a)) (count u a)
count_snoc u a m = rw (of_unit_append u a (m ∷ []), length-append) (one (eqb u m.unit) m (count u a))

onto_append : (i : Item) (r t : List Msg) → onto i r ++ t ≡ onto i (r ++ t)
onto_append (mark n) r t = refl
onto_append (entry m) r t = refl

pub messages_append : (a b : List Item) → messages (a ++ b) ≡ messages a ++ messages b
messages_append [] b = refl
messages_append (i ∷ a) b = rw (onto_append, messages_append a b)

-- ---- numbered: the messages of a unit in a log carry k + 1, k + 2, ..

abbrev pub NumberedFrom : ℕ → List Msg → Type 0
NumberedFrom k [] = Unit {0}
NumberedFrom k (m ∷ ms) = (m.num ≡ suc k) × NumberedFrom (suc k) ms

pub numbered_snoc : (k : ℕ) (l : List Msg) (m : Msg) → NumberedFrom k l → m.num ≡ suc (k + length l) → NumberedFrom k (l ++ m ∷ [])
numbered_snoc k [] m h e = (omega arith, tt)
numbered_snoc k (x ∷ l) m h e = (h.0, numbered_snoc (suc k) l m h.1 (omega arith))

-- a prefix, with what follows
pub record Prefix (a b : List Msg) : Type 0 where
  pub rest : List Msg
  pub is : a ++ rest ≡ b

above-first : (k : ℕ) (l : List Msg) (m : Msg) → NumberedFrom k l → Memᴰ m l → suc k ≤ m.num
above-first k [] m h x'' = elim x'' [ ]
above-first k (x ∷ l) m h (Memᴰ.head e) = let f : m.num ≡ x.num = ap (λ (y : Msg). y.num) e in omega arith
above-first k (x ∷ l) m h (Memᴰ.tail d) = let f = above-first (suc k) l m h.1 d in omega arith

-- the message with the next number is the next message
pub next_is : (k : ℕ) (a r : List Msg) (m : Msg) → NumberedFrom k (a ++ r) → Memᴰ m (a ++ r) → m.num ≡ suc (k + length a)
    → Prefix (a ++ m ∷ []) (a ++ r)
next_is k [] [] m h x6 q = elim x6 [ ]
next_is k [] (x ∷ r) m h (Memᴰ.head e) q = record { rest = r; is = ap (λ (y : Msg). y ∷ r) e }
next_is k [] (x ∷ r) m h (Memᴰ.tail d) q = let f = above-first (suc k) r m h.1 d in absurd (omega arith)
next_is k (x ∷ a) r m h (Memᴰ.head e) q = let f : m.num ≡ x.num = ap (λ (y : Msg). y.num) e in absurd (omega arith)
next_is k (x ∷ a) r m h (Memᴰ.tail d) q =
    let p = next_is (suc k) a r m h.1 d (omega arith) in
    record { rest = p.rest; is = ap (λ (l : List Msg). x ∷ l) p.is }

-- a message of the log is among those of its unit
pub mem_unit : (l : List Msg) (m : Msg) → Memᴰ m l → Memᴰ m (of_unit m.unit l)
mem_unit [] m x' = elim x' [ ]
mem_unit (x ∷ l) m (Memᴰ.head e) =
    rw (eq-eqb m.unit x.unit (ap (λ (y : Msg). y.unit) e)) (Memᴰ.head e)
mem_unit (x ∷ l) m (Memᴰ.tail d) = go (eqb m.unit x.unit) (mem_unit l m d)
  where
    go : (b : Bool) → Memᴰ m (of_unit m.unit l) → Memᴰ m (keep b x (of_unit m.unit l))
    go true h = Memᴰ.tail h
    go false h = h

pub prefix_trans : {a b c : List Msg} → Prefix a b → Prefix b c → Prefix a c
prefix_trans {a} {b} {c} h k = record { rest = h.rest ++ k.rest; is = rw (← append_assoc) (rw h.is k.is) }

pub prefix_refl : (a : List Msg) → Prefix a a
prefix_refl a = record { rest = []; is = append-nil a }

pub prefix_more : {a b : List Msg} (c : List Msg) → Prefix a b → Prefix a (b ++ c)
prefix_more {a} {b} c h = prefix_trans h (record { rest = c; is = refl })

pub prefix_length : {a b : List Msg} → Prefix a b → length a ≤ length b
prefix_length {a} {b} h = let e = ap length h.is in omega (arith, simp length-append at e)

-- two prefixes of one list with one length are the same
pub same_prefix : (a b c : List Msg) → Prefix a c → Prefix b c → length a ≡ length b → a ≡ b
same_prefix [] [] c h k e = refl
same_prefix [] (y ∷ b) c h k e = absurd (omega arith)
same_prefix (x ∷ a) [] c h k e = absurd (omega arith)
same_prefix (x ∷ a) (y ∷ b) c h k e =
    let p : x ∷ (a ++ h.rest) ≡ y ∷ (b ++ k.rest) = h.is ∙ sym k.is in
    let q : x ≡ y = cc in
    let t : a ++ h.rest ≡ b ++ k.rest = cc in
    let ih = same_prefix a b (a ++ h.rest) (record { rest = h.rest; is = refl }) (record { rest = k.rest; is = sym t }) (omega arith) in
    cc

pub prefix_unit : (u : ℕ) {a b : List Msg} → Prefix a b → Prefix (of_unit u a) (of_unit u b)
prefix_unit u {a} {b} h = record { rest = of_unit u h.rest; is = sym (of_unit_append u a h.rest) ∙ ap (of_unit u) h.is }

pub prefix_take : (n : ℕ) (b : List Item) → Prefix (messages (take n b)) (messages b)
prefix_take n b = record { rest = messages (drop n b); is = sym (messages_append (take n b) (drop n b)) ∙ ap messages (take-append-drop n b) }
