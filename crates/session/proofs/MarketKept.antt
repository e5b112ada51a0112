-- 02, request 4: the session is told its market at opening and at restart, and keeps it.
--     closed_with-market                                  what opening and restart are told is its market
--     end_keeps_market                                    a session's end leaves it as it was
--     broken_keeps_market, response_keeps_market, message_keeps_market, receive_keeps_market, login_keeps_market,
--     heartbeat_keeps_market, order_keeps_market          so does each call, refused or not
--     market-kept                                         all calls in one, over all that they may be given
--     other_market_is_4                                   an order that is not of the session's market is 4, after 16, 20 and 13 for the record
--     options_order_in_equities, equities_order_in_options    the New Order of either market is no order of the other
-- Assumes nothing.
use Rattle.std.specs.Prelude.{◌≡◌, refl, Bool, true, false, List, ℕ, ◌≤◌, eqb, length, get_or}
use Rattle.std.proofs.Common.{ne_eqb, le-ltb}
use Rattle.wire.specs.Header.{type_of}
use Rattle.wire.specs.Frame.{framed}
use Rattle.orders.specs.Shapes.{sequenced}
use Rattle.orders.specs.Markets.{of_market}
use Rattle.orders.specs.declared.Market.{Market}
use Rattle.orders.specs.declared.Market.TheVariants.{Equities, Options}
use Rattle.session_messages.specs.declared.Record.{Record}
use Rattle.book.specs.declared.Book.{Book}
use Rattle.session.specs.declared.Session.{Session}
use Rattle.session.specs.Sessions.{pick_session, closed_with, is_closed, is_live, ended_by, broken_by, responded_by, status_in, received_in, response_refusal, response_of, message_refusal, message_of, receive_refusal, received_by, receive_of, receive_answer, login_refusal, login_of, heartbeat_of, order_refusal, order_of}
use Rattle.block.specs.Sizes.{record_size}

-- the market that it is told
pub closed_with-market : (market : Market) (b : Book) → (closed_with market b).market ≡ market
closed_with-market market b = refl

-- ---- what a call leaves

-- of two sessions with one market, by a test
either_keeps : (b : Bool) (x y : Session) (market : Market) → x.market ≡ market → y.market ≡ market → (pick_session b x y).market ≡ market
either_keeps true x y market p q = p
either_keeps false x y market p q = q

-- a session's end
pub end_keeps_market : (s : Session) (room : ℕ) → (ended_by s room).market ≡ s.market
unfolding ended_by
end_keeps_market s room = refl

-- what a Login Response leads to
responded_keeps : (s : Session) (status received room : ℕ) → (responded_by s status received room).market ≡ s.market
unfolding responded_by
responded_keeps s status received room = either_keeps (eqb status 65) _ _ s.market refl (end_keeps_market s room)

-- what any message that passes leads to
received_keeps : (s : Session) (room : ℕ) (m : List ℕ) → (received_by s room m).market ≡ s.market
unfolding received_by
received_keeps s room m =
    either_keeps (eqb (type_of m) 0x24) _ _ s.market (responded_keeps s (status_in m) (received_in m) room)
    (either_keeps (eqb (type_of m) 0x13) _ _ s.market refl
    (either_keeps (eqb (type_of m) 0x08) _ _ s.market (end_keeps_market s room)
    (either_keeps (sequenced (type_of m)) _ _ s.market refl
    refl)))

-- ---- the calls

pub broken_keeps_market : (s : Session) (room : ℕ) → (broken_by s room).market ≡ s.market
unfolding broken_by
broken_keeps_market s room = either_keeps (is_closed s.phase) _ _ s.market refl (end_keeps_market s room)

pub response_keeps_market : (s : Session) (room : ℕ) (bytes : List ℕ) → (response_of s room bytes).session.market ≡ s.market
unfolding response_of
response_keeps_market s room bytes =
    either_keeps (eqb (response_refusal s bytes) 0) _ _ s.market (responded_keeps s (status_in (framed bytes)) (received_in (framed bytes)) room) refl

pub message_keeps_market : (s : Session) (room : ℕ) (bytes : List ℕ) → (message_of s room bytes).session.market ≡ s.market
unfolding message_of
message_keeps_market s room bytes = either_keeps (eqb (message_refusal s room bytes) 0) _ _ s.market refl refl

pub receive_keeps_market : (s : Session) (room : ℕ) (bytes : List ℕ) → (receive_answer s room bytes).session.market ≡ s.market
unfolding receive_of
receive_keeps_market s room bytes = either_keeps (eqb (receive_refusal s room bytes) 0) _ _ s.market (received_keeps s room (framed bytes)) refl

pub login_keeps_market : (s : Session) (r : Record) (room : ℕ) → (login_of s r room).session.market ≡ s.market
unfolding login_of
login_keeps_market s r room = either_keeps (eqb (login_refusal s r room) 0) _ _ s.market refl refl

pub heartbeat_keeps_market : (s : Session) (room : ℕ) → (heartbeat_of s room).session.market ≡ s.market
unfolding heartbeat_of
heartbeat_keeps_market s room = refl

pub order_keeps_market : (s : Session) (given : List ℕ) (room : ℕ) → (order_of s given room).session.market ≡ s.market
unfolding order_of
order_keeps_market s given room = either_keeps (eqb (order_refusal s given room) 0) _ _ s.market refl refl

-- MARKET KEPT: of a session, whatever each call is given, and whatever it answers
pub record MarketKept (s : Session) : Type 0 where
  pub by_broken : (room : ℕ) → (broken_by s room).market ≡ s.market
  pub by_response : (room : ℕ) (bytes : List ℕ) → (response_of s room bytes).session.market ≡ s.market
  pub by_message : (room : ℕ) (bytes : List ℕ) → (message_of s room bytes).session.market ≡ s.market
  pub by_receive : (room : ℕ) (bytes : List ℕ) → (receive_answer s room bytes).session.market ≡ s.market
  pub by_login : (r : Record) (room : ℕ) → (login_of s r room).session.market ≡ s.market
  pub by_heartbeat : (room : ℕ) → (heartbeat_of s room).session.market ≡ s.market
  pub by_order : (given : List ℕ) (room : ℕ) → (order_of s given room).session.market ≡ s.market

pub market-kept : (s : Session) → MarketKept s
market-kept s = record {
  by_broken = broken_keeps_market s;
  by_response = response_keeps_market s;
  by_message = message_keeps_market s;
  by_receive = receive_keeps_market s;
  by_login = login_keeps_market s;
  by_heartbeat = heartbeat_keeps_market s;
  by_order = order_keeps_market s;
}

-- ---- an order of the other market

-- OTHER MARKET IS 4, whatever room there is
pub other_market_is_4 : (s : Session) (given : List ℕ) (room : ℕ) → is_live s.phase ≡ true → (s.outgoing.0 ≡ 4294967295 → ⊥) → record_size ≤ length given
    → of_market s.market (get_or given 0 0) ≡ false → order_refusal s given room ≡ 4
unfolding order_refusal
other_market_is_4 s given room l u h e = rw (l, ne_eqb s.outgoing.0 4294967295 u, le-ltb (length given) record_size h, e)

-- a record's type B8 is no order of the equities market, and 38 none of the options market
pub options_order_in_equities : of_market Equities 0xB8 ≡ false
options_order_in_equities = refl

pub equities_order_in_options : of_market Options 0x38 ≡ false
equities_order_in_options = refl
