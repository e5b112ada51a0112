-- What the definitions of a login tell as numbers and records, stage by stage: of its type, of its reading, of its response. Assumes nothing.
use Rattle.std.specs.Prelude.{◌≡◌, Bool, List, ℕ}
use Rattle.std.proofs.Math.Path.{sym, ap, ap₂}
use Rattle.std.proofs.Common.{◌∙◌, arith}
use Rattle.std.proofs.Math.Bool.{true, false, cond}
use Rattle.std.proofs.Math.Dec.{eqb}
use Rattle.std.proofs.Math.ListN.{length}
use borrow.Author.Tests.{eq-eqb, ne_eqb}
use Rattle.refusals.specs.Names.{out_of_phase}
use Rattle.numbers.specs.Numbers.{patched}
use Rattle.wire.specs.Header.{type_of}
use Rattle.wire.specs.Frame.{frame_refusal, framed}
use Rattle.session_messages.specs.Reading.{Reading}
use Rattle.session_messages.specs.Sessions as logins
use Rattle.venue.specs.declared.Venue.{Venue}
use Rattle.venue.specs.Answer.{Answer}
use Rattle.venue.specs.Venues.{pick_answer, refused, login_read_refusal, response_record, logged_in, login_refusal, login_of, login_out}
use Rattle.venue.specs.VenueStages.{typed_refusal, answered_of, answered_out}
use Rattle.venue.proofs.LoginLaws as stages

-- ---- a login

module _ (s : List ℕ) where
  pub frame_stops : {n : ℕ} → n ≡ frame_refusal s → (n ≡ 0 → ⊥) → n ≡ typed_refusal s
  unfolding typed_refusal
  frame_stops e k = rw (ne_eqb (frame_refusal s) 0 (λ z. k (e ∙ z))) e

  pub type_stops : frame_refusal s ≡ 0 → (type_of (framed s) ≡ 0x37 → ⊥) → 4 ≡ typed_refusal s
  unfolding typed_refusal
  type_stops z n = rw (eq-eqb (frame_refusal s) 0 z, ne_eqb (type_of (framed s)) 0x37 n)

  pub typed : frame_refusal s ≡ 0 → type_of (framed s) ≡ 0x37 → 0 ≡ typed_refusal s
  unfolding typed_refusal
  typed z e = rw (eq-eqb (frame_refusal s) 0 z, eq-eqb (type_of (framed s)) 0x37 e)

  -- the reading refusals are these, and then the message's own
  read_stops : {n : ℕ} → n ≡ typed_refusal s → (n ≡ 0 → ⊥) → n ≡ login_read_refusal s
  unfolding typed_refusal login_read_refusal
  read_stops {n} e k = by (eqb (frame_refusal s) 0) (eqb (type_of (framed s)) 0x37) e
    where
      by : (p q : Bool) → n ≡ cond p (cond q 0 4) (frame_refusal s) → n ≡ cond p (cond q (logins.read_refusal (framed s)) 4) (frame_refusal s)
      by true true y = absurd (k y)
      by true false y = y
      by false b y = y

  read_tells : {n : ℕ} → typed_refusal s ≡ 0 → n ≡ logins.read_refusal (framed s) → n ≡ login_read_refusal s
  unfolding login_read_refusal
  read_tells z e = let o = stages.of_type s z in rw (eq-eqb (frame_refusal s) 0 o.0, eq-eqb (type_of (framed s)) 0x37 o.1) e

  module _ (v : Venue) (out : List ℕ) where
    unlogged : {n : ℕ} {a : Answer} → n ≡ login_refusal v s (length out) → (n ≡ 0 → ⊥) → a ≡ refused n v → (a ≡ login_of v s (length out)) × (out ≡ login_out v s out)
    unfolding login_of login_out
    unlogged {n} e k f =
        let q = ne_eqb (login_refusal v s (length out)) 0 (λ z. k (e ∙ z)) in (
          f ∙ ap (λ (x : ℕ). refused x v) e
              ∙ ap (λ (b : Bool). pick_answer b (record { refusal = 0; sent = length (logins.session_bytes (response_record v (framed s))); venue = logged_in v (framed s) }) (refused (login_refusal v s (length out)) v)) (sym q),
          rw q,
        )

    pub login_in_session : v.running ≡ true → {a : Answer} → a ≡ refused out_of_phase v → (a ≡ login_of v s (length out)) × (out ≡ login_out v s out)
    unfolding login_refusal
    login_in_session e f =
        let q : 16 ≡ login_refusal v s (length out) = rw e in
        unlogged q (λ x. omega (arith, x)) f

    pub login_unread : v.running ≡ false → {n : ℕ} {a : Answer} → n ≡ login_read_refusal s → (n ≡ 0 → ⊥) → a ≡ refused n v → (a ≡ login_of v s (length out)) × (out ≡ login_out v s out)
    unfolding login_refusal
    login_unread e {n} r k f =
        let q : n ≡ login_refusal v s (length out) = rw (e, ne_eqb (login_read_refusal s) 0 (λ z. k (r ∙ z))) r in
        unlogged q k f

    pub untyped : v.running ≡ false → {n : ℕ} {a : Answer} → n ≡ typed_refusal s → (n ≡ 0 → ⊥) → a ≡ refused n v → (a ≡ login_of v s (length out)) × (out ≡ login_out v s out)
    untyped e r k f = login_unread e (read_stops r k) k f

    pub unread : v.running ≡ false → {n : ℕ} {a : Answer} → typed_refusal s ≡ 0 → n ≡ logins.read_refusal (framed s) → (n ≡ 0 → ⊥) → a ≡ refused n v → (a ≡ login_of v s (length out)) × (out ≡ login_out v s out)
    unread e t r k f = login_unread e (read_tells t r) k f

    pub logs_in_lem : v.running ≡ false → typed_refusal s ≡ 0 → logins.read_refusal (framed s) ≡ 0 → {a : Answer} {ys : List ℕ}
        → a ≡ answered_of v (framed s) (length out) → ys ≡ answered_out v (framed s) out → (a ≡ login_of v s (length out)) × (ys ≡ login_out v s out)
    unfolding login_of login_out login_refusal answered_of answered_out
    logs_in_lem e t r p o =
        let z : login_read_refusal s ≡ 0 = sym (read_tells t (sym r)) in
        let y : login_refusal v s (length out) ≡ logins.record_refusal (response_record v (framed s)) (length out) = rw (e, eq-eqb (login_read_refusal s) 0 z) in (
          p ∙ ap (λ (n : ℕ). pick_answer (eqb n 0) (record { refusal = 0; sent = length (logins.session_bytes (response_record v (framed s))); venue = logged_in v (framed s) }) (refused n v)) (sym y),
          o ∙ ap (λ (n : ℕ). cond (eqb n 0) (patched out 0 (logins.session_bytes (response_record v (framed s)))) out) (sym y),
        )

-- what is read of a login
pub read_refusal_is : (m : List ℕ) {x : Reading} → x ≡ logins.read_of m → x.refusal ≡ logins.read_refusal m
read_refusal_is m e = ap (λ (y : Reading). y.refusal) e ∙ stages.read_refusal_is m

pub read_record_is : (m : List ℕ) {x : Reading} → x ≡ logins.read_of m → logins.read_refusal m ≡ 0 → x.session ≡ logins.record_of m
unfolding logins.read_of
read_record_is m e z =
    ap (λ (y : Reading). y.session) e
    ∙ ap (λ (b : Bool). (logins.pick_reading b (record { refusal = 0; session = logins.record_of m }) (logins.refuse (logins.read_refusal m))).session) (eq-eqb _ 0 z)

-- the response is written, or refused
module _ (v : Venue) (m out : List ℕ) where
  pub unanswered : {n : ℕ} {a : Answer} {ys : List ℕ} → n ≡ logins.record_refusal (response_record v m) (length out) → (n ≡ 0 → ⊥) → a ≡ refused n v → ys ≡ logins.record_buffer (response_record v m) out
      → (a ≡ answered_of v m (length out)) × (ys ≡ answered_out v m out)
  unfolding answered_of answered_out logins.write_buffer
  unanswered {n} e k f o =
      let q = ne_eqb (logins.record_refusal (response_record v m) (length out)) 0 (λ z. k (e ∙ z)) in (
        f ∙ ap (λ (x : ℕ). refused x v) e
            ∙ ap (λ (b : Bool). pick_answer b (record { refusal = 0; sent = length (logins.session_bytes (response_record v m)); venue = logged_in v m }) (refused (logins.record_refusal (response_record v m) (length out)) v)) (sym q),
        o,
      )

  pub answered : {k : ℕ} {w : Venue} {ys : List ℕ} → logins.record_refusal (response_record v m) (length out) ≡ 0 → k ≡ length (logins.session_bytes (response_record v m)) → w ≡ logged_in v m → ys ≡ logins.record_buffer (response_record v m) out
      → (record { refusal = 0; sent = k; venue = w } ≡ answered_of v m (length out)) × (ys ≡ answered_out v m out)
  unfolding answered_of answered_out logins.write_buffer
  answered z f g o =
      let q = eq-eqb (logins.record_refusal (response_record v m) (length out)) 0 z in (
        ap₂ (λ (n : ℕ) (x : Venue). record { refusal = 0; sent = n; venue = x }) f g
            ∙ ap (λ (b : Bool). pick_answer b (record { refusal = 0; sent = length (logins.session_bytes (response_record v m)); venue = logged_in v m }) (refused (logins.record_refusal (response_record v m) (length out)) v)) (sym q),
        o,
      )
