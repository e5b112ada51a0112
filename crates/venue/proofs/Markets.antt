-- 02, request 4: what the venue takes of a member, by the market that the call is told, and what the reader of that market's direction takes.
--     an_order_is_read       an order of the market is judged as it is read there: under its record's type
--     a_login_is_none        a Login Request is 4: no session takes one
--     refused-alike          any other bytes are refused as that reader refuses them, with the same refusal
--     as_messages_read       so what the venue takes that reader takes
--     read_as_messages       and an order of the market that this reader takes the venue takes
-- Assumes nothing.
use Rattle.std.specs.Prelude.{◌≡◌, refl, Bool, true, cond, ◌||◌, List, ℕ, eqb}
use Rattle.std.proofs.Common.{sym, ◌∙◌, arith}
use Rattle.std.proofs.Math.Path.{ap}
use Rattle.std.proofs.Math.Bool.{false}
use Rattle.std.proofs.lemmas.Bool.{false≢true}
use borrow.Author.Tests.{eq-eqb, ne_eqb, eqb-true, eqb-false}
use Rattle.wire.specs.Header.{type_of}
use Rattle.wire.specs.Frame.{frame_refusal, framed}
use Rattle.orders.specs.declared.Market.{Market}
use Rattle.orders.specs.declared.Market.TheVariants.{Equities, Options}
use Rattle.orders.specs.Markets.{of_market, record_type, heard_in}
use Rattle.orders.proofs.MarketLaws.{same_but}
use Rattle.orders.specs.Orders as orders
use Rattle.session_messages.specs.Sessions as logins
use Rattle.messages.specs.Messages.{is_session, carries, heard, own_refusal, read_refusal}
use Rattle.messages.proofs.Heard.{long_enough, session_heard}
use Rattle.venue.specs.Venues.{sent_read_refusal}

-- the direction of what a member of a market sends
abbrev pub direction_of : Market → ℕ
direction_of Equities = 0
direction_of Options = 2

-- ---- the types

-- an order's type is no session message's
one_of_four : (n t : ℕ) → is_session n ≡ false → (eqb t n || (eqb t 0x39 || (eqb t 0x3A || eqb t 0x47))) ≡ true → is_session t ≡ false
one_of_four n t f o = by (eqb t n) refl (eqb t 0x39) refl (eqb t 0x3A) refl (eqb t 0x47) refl o
  where
    by : (a : Bool) → eqb t n ≡ a → (b : Bool) → eqb t 0x39 ≡ b → (c : Bool) → eqb t 0x3A ≡ c → (d : Bool) → eqb t 0x47 ≡ d → (a || (b || (c || d))) ≡ true → is_session t ≡ false
    by true p b q c r d s y = ap is_session (eqb-true t n p) ∙ f
    by false p true q c r d s y = ap is_session (eqb-true t 0x39 q)
    by false p false q true r d s y = ap is_session (eqb-true t 0x3A r)
    by false p false q false r true s y = ap is_session (eqb-true t 0x47 s)
    by false p false q false r false s y = absurd (false≢true y)

order_no_session : (market : Market) (t : ℕ) → of_market market t ≡ true → is_session t ≡ false
order_no_session Equities t o = one_of_four 0x38 t refl o
order_no_session Options t o = one_of_four 0xB8 t refl o

-- a record's type is its message's, but for B8 and 0
type_back : (market : Market) (t k : ℕ) → (k ≡ 0xB8 → ⊥) → (k ≡ 0 → ⊥) → record_type market t ≡ k → t ≡ k
type_back Equities t k n z e = e
type_back Options t k n z e = by (eqb t 0x38) (eqb t 0xB8) e
  where
    by : (a b : Bool) → cond a 0xB8 (cond b 0 t) ≡ k → t ≡ k
    by true b y = absurd (n (sym y))
    by false true y = absurd (z (sym y))
    by false false y = y

-- a login and a heartbeat have their types in both markets
login_type : (market : Market) → record_type market 0x37 ≡ 0x37
login_type Equities = refl
login_type Options = refl

heartbeat_type : (market : Market) → record_type market 0x03 ≡ 0x03
heartbeat_type Equities = refl
heartbeat_type Options = refl

login_no_order : (market : Market) → of_market market 0x37 ≡ false
login_no_order Equities = refl
login_no_order Options = refl

-- what the direction carries: the market's orders, logins and heartbeats
carried : (market : Market) (t : ℕ) → carries (direction_of market) t ≡ (of_market market t || logins.of_member t)
unfolding carries
carried Equities t = refl
carried Options t = refl

-- what is heard in the direction is heard in the market
heard-there : (market : Market) (s : List ℕ) → heard (direction_of market) s ≡ heard_in market (framed s)
heard-there Equities s = refl
heard-there Options s = refl

module _ (market : Market) (s : List ℕ) where
  -- ---- what the venue takes

  module _ (z : frame_refusal s ≡ 0) where
    -- AN ORDER IS READ
    pub an_order_is_read : of_market market (record_type market (type_of (framed s))) ≡ true → sent_read_refusal market s ≡ orders.read_refusal (heard_in market (framed s))
    unfolding sent_read_refusal
    an_order_is_read o = rw (eq-eqb (frame_refusal s) 0 z, o)

    -- A LOGIN IS NONE
    pub a_login_is_none : type_of (framed s) ≡ 0x37 → sent_read_refusal market s ≡ 4
    unfolding sent_read_refusal
    a_login_is_none e =
        let o : of_market market (record_type market (type_of (framed s))) ≡ false =
        ap (λ (t : ℕ). of_market market (record_type market t)) e ∙ ap (of_market market) (login_type market) ∙ login_no_order market in
        rw (eq-eqb (frame_refusal s) 0 z, o, e)

    -- a heartbeat is read as it stands
    heartbeat_is_read : type_of (framed s) ≡ 0x03 → of_market market (record_type market (type_of (framed s))) ≡ false → sent_read_refusal market s ≡ logins.read_refusal (framed s)
    unfolding sent_read_refusal
    heartbeat_is_read e o = rw (eq-eqb (frame_refusal s) 0 z, o, eq-eqb (type_of (framed s)) 0x03 e)

    none_is_read : (type_of (framed s) ≡ 0x03 → ⊥) → of_market market (record_type market (type_of (framed s))) ≡ false → sent_read_refusal market s ≡ 4
    unfolding sent_read_refusal
    none_is_read n o = rw (eq-eqb (frame_refusal s) 0 z, o, ne_eqb (type_of (framed s)) 0x03 n)

    -- ---- what the reader takes

    type_there : type_of (heard (direction_of market) s) ≡ record_type market (type_of (framed s))
    type_there = by market
      where
        by : (k : Market) → type_of (heard (direction_of k) s) ≡ record_type k (type_of (framed s))
        by Equities = refl
        by Options = (same_but (record_type Options (type_of (framed s))) (framed s) (long_enough 2 s z)).type_is

    reads_carried : carries (direction_of market) (type_of (heard (direction_of market) s)) ≡ true → read_refusal (direction_of market) s ≡ own_refusal (heard (direction_of market) s)
    unfolding read_refusal
    reads_carried c = rw (eq-eqb (frame_refusal s) 0 z, c)

    reads_none : carries (direction_of market) (type_of (heard (direction_of market) s)) ≡ false → read_refusal (direction_of market) s ≡ 4
    unfolding read_refusal
    reads_none c = rw (eq-eqb (frame_refusal s) 0 z, c)

    own_order : is_session (type_of (heard (direction_of market) s)) ≡ false → own_refusal (heard (direction_of market) s) ≡ orders.read_refusal (heard (direction_of market) s)
    unfolding own_refusal
    own_order f = rw f

    own_session : is_session (type_of (heard (direction_of market) s)) ≡ true → own_refusal (heard (direction_of market) s) ≡ logins.read_refusal (heard (direction_of market) s)
    unfolding own_refusal
    own_session f = rw f

    -- ---- the two

    order_alike : of_market market (record_type market (type_of (framed s))) ≡ true → sent_read_refusal market s ≡ read_refusal (direction_of market) s
    order_alike o =
        let c : carries (direction_of market) (type_of (heard (direction_of market) s)) ≡ true =
        ap (carries (direction_of market)) type_there ∙ carried market (record_type market (type_of (framed s))) ∙ ap (λ (b : Bool). b || logins.of_member (record_type market (type_of (framed s)))) o in
        an_order_is_read o ∙ ap orders.read_refusal (sym (heard-there market s))
        ∙ sym (reads_carried c ∙ own_order (ap is_session type_there ∙ order_no_session market (record_type market (type_of (framed s))) o))

    heartbeat_alike : type_of (framed s) ≡ 0x03 → of_market market (record_type market (type_of (framed s))) ≡ false → sent_read_refusal market s ≡ read_refusal (direction_of market) s
    heartbeat_alike e o =
        let t : type_of (heard (direction_of market) s) ≡ 0x03 = type_there ∙ ap (record_type market) e ∙ heartbeat_type market in
        let f : is_session (type_of (heard (direction_of market) s)) ≡ true = ap is_session t in
        let c : carries (direction_of market) (type_of (heard (direction_of market) s)) ≡ true = ap (carries (direction_of market)) t ∙ carried market 0x03 ∙ yes market in
        heartbeat_is_read e o ∙ ap logins.read_refusal (sym (session_heard (direction_of market) s z f)) ∙ sym (reads_carried c ∙ own_session f)
      where
        yes : (k : Market) → (of_market k 0x03 || logins.of_member 0x03) ≡ true
        yes Equities = refl
        yes Options = refl

    none_alike : (type_of (framed s) ≡ 0x37 → ⊥) → (type_of (framed s) ≡ 0x03 → ⊥) → of_market market (record_type market (type_of (framed s))) ≡ false → sent_read_refusal market s ≡ read_refusal (direction_of market) s
    none_alike l n o =
        let t = record_type market (type_of (framed s)) in
        let m : logins.of_member t ≡ false =
        rw (
          ne_eqb t 0x37 (λ e. l (type_back market (type_of (framed s)) 0x37 (λ y. omega (arith, y)) (λ y. omega (arith, y)) e)),
          ne_eqb t 0x03 (λ e. n (type_back market (type_of (framed s)) 0x03 (λ y. omega (arith, y)) (λ y. omega (arith, y)) e)),
        ) in
        none_is_read n o
        ∙ sym (reads_none (ap (carries (direction_of market)) type_there ∙ carried market t ∙ ap (λ (b : Bool). b || logins.of_member t) o ∙ m))

  -- bytes that do not frame
  torn_alike : (frame_refusal s ≡ 0 → ⊥) → sent_read_refusal market s ≡ read_refusal (direction_of market) s
  unfolding sent_read_refusal read_refusal
  torn_alike n = rw (ne_eqb (frame_refusal s) 0 n)

  -- REFUSED ALIKE
  pub refused_alike : (type_of (framed s) ≡ 0x37 → ⊥) → sent_read_refusal market s ≡ read_refusal (direction_of market) s
  refused_alike l = by (eqb (frame_refusal s) 0) refl (of_market market (record_type market (type_of (framed s)))) refl (eqb (type_of (framed s)) 0x03) refl
    where
      by : (a : Bool) → eqb (frame_refusal s) 0 ≡ a → (b : Bool) → of_market market (record_type market (type_of (framed s))) ≡ b → (c : Bool) → eqb (type_of (framed s)) 0x03 ≡ c → sent_read_refusal market s ≡ read_refusal (direction_of market) s
      by false p b q c r = torn_alike (eqb-false _ _ p)
      by true p true q c r = order_alike (eqb-true _ _ p) q
      by true p false q true r = heartbeat_alike (eqb-true _ _ p) (eqb-true _ _ r) q
      by true p false q false r = none_alike (eqb-true _ _ p) l (eqb-false _ _ r) q

  -- AS MESSAGES READ: of equities direction 0, of options direction 2
  pub as_messages_read : sent_read_refusal market s ≡ 0 → read_refusal (direction_of market) s ≡ 0
  as_messages_read y = by (eqb (frame_refusal s) 0) refl (eqb (type_of (framed s)) 0x37) refl
    where
      by : (a : Bool) → eqb (frame_refusal s) 0 ≡ a → (b : Bool) → eqb (type_of (framed s)) 0x37 ≡ b → read_refusal (direction_of market) s ≡ 0
      by false p b q = sym (torn_alike (eqb-false _ _ p)) ∙ y
      by true p false q = sym (refused_alike (eqb-false _ _ q)) ∙ y
      by true p true q = absurd (omega (arith, y, a_login_is_none (eqb-true _ _ p) (eqb-true _ _ q)))

  -- READ AS MESSAGES: an order of the market
  pub read_as_messages : of_market market (record_type market (type_of (framed s))) ≡ true → read_refusal (direction_of market) s ≡ 0 → sent_read_refusal market s ≡ 0
  read_as_messages o y = refused_alike not-login ∙ y
    where
      not-login : type_of (framed s) ≡ 0x37 → ⊥
      not-login e = false≢true (sym (ap (λ (t : ℕ). of_market market (record_type market t)) e ∙ ap (of_market market) (login_type market) ∙ login_no_order market) ∙ o)
