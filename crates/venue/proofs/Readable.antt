-- What the venue sends is read.
--     any_readable_login     any login that is read is taken while no session runs, where there is room for 443 bytes
--     response_only_room     the response to a login that is read is refused for room alone, and 443 bytes are enough
--     response_is_read       what is written of it is read by the member's reader, whatever bytes follow
--     response-status        its status is A
--     response-received      it tells the last number received
--     complete_is_read       Replay Complete is read by the member's reader
--     step-sends             a step sends Replay Complete, nothing, or a whole message of the log
-- Assumes nothing.
use Rattle.std.specs.Prelude.{◌≡◌, ◌⊎◌, Bool, true, false, cond, ◌||◌, List, [], ◌∷◌, ◌++◌, ℕ, ◌+◌, ◌≤◌, ◌<◌, eqb, ltb, length, get_or, drop}
use Rattle.std.proofs.Math.Path.{refl}
use Rattle.std.proofs.Common.{sym, ap, ◌∙◌, inl, inr, ⊎_elim, append-nil, arith, eq-eqb, eqb-true, ltb-true}
use Rattle.std.proofs.lemmas.Bool.{eqb-false}
use Rattle.numbers.specs.Numbers.{number_at}
use Rattle.numbers.specs.NumberLaws.{number_back}
use Rattle.wire.specs.Header.{type_of, number_of, length_of, total_of}
use Rattle.wire.specs.Frame.{not_ba, starts_bad, length_bad, cut_short, frame_refusal, framed}
use Rattle.wire.proofs.FrameLaws.{refused_is_empty}
use Rattle.orders.specs.Shapes as order_types
use Rattle.orders.specs.Orders as orders
use Rattle.session_messages.specs.Sessions as logins
use Rattle.session_messages.proofs.SessionLaws.{header-alone}
use Rattle.session_messages.proofs.SessionTrip.{read_accepts, framed-after, framed_as_written}
use Rattle.messages.specs.Messages as messages
use Rattle.venue.specs.declared.Venue.{Venue}
use Rattle.venue.specs.Venues.{login_read_refusal, response_record, login_refusal, held, place_of, tells_at, complete_bytes, bytes_at, next_bytes}
use Rattle.venue.specs.VenueStages.{lists_part}
use Rattle.venue.proofs.Responses.{login-short, response_refusal_lem, response_sound, response_bytes}

-- a session message of the venue's that its own reader takes is read by the member's
read_by_member : (b t : List ℕ) → frame_refusal (b ++ t) ≡ 0 → framed (b ++ t) ≡ b → logins.of_venue (type_of b) ≡ true → logins.read_refusal b ≡ 0 → messages.read_refusal 1 (b ++ t) ≡ 0
unfolding messages.read_refusal messages.carries messages.own_refusal
read_by_member b t f g v r = rw (eq-eqb (frame_refusal (b ++ t)) 0 f, g, v) (by (order_types.of_venue (type_of b)) (logins.of_member (type_of b)))
  where
    by : (x y : Bool) → cond (x || true) (cond (y || true) (logins.read_refusal b) (orders.read_refusal b)) 4 ≡ 0
    by true true = r
    by true false = r
    by false true = r
    by false false = r

-- ---- the response

module _ (v : Venue) (m : List ℕ) (typed : type_of m ≡ 0x37) (reads : logins.read_refusal m ≡ 0) where
  -- RESPONSE ONLY ROOM
  pub response_only_room : (room : ℕ) → (logins.record_refusal (response_record v m) room ≡ 0) ⊎ ((logins.record_refusal (response_record v m) room ≡ 13) × (room < 443))
  response_only_room room = by (ltb room (209 + length m)) refl
    where
      by : (b : Bool) → ltb room (209 + length m) ≡ b → (logins.record_refusal (response_record v m) room ≡ 0) ⊎ ((logins.record_refusal (response_record v m) room ≡ 13) × (room < 443))
      by true e =
          inr (
            response_refusal_lem v m typed reads room ∙ ap (λ (b : Bool). cond b 13 0) e,
            omega (arith, ltb-true room (209 + length m) e, login-short m typed reads),
          )
      by false e = inl (response_refusal_lem v m typed reads room ∙ ap (λ (b : Bool). cond b 13 0) e)

  module _ (room : ℕ) (written : logins.record_refusal (response_record v m) room ≡ 0) where
    -- RESPONSE IS READ
    pub response_is_read : (t : List ℕ) → messages.read_refusal 1 (logins.session_bytes (response_record v m) ++ t) ≡ 0
    unfolding response_record
    response_is_read t =
        let o = response_sound v m typed reads in
        read_by_member (logins.session_bytes (response_record v m)) t
        (framed-after (response_record v m) room o written t) (framed_as_written (response_record v m) room o written t) refl (read_accepts (response_record v m) room o written)

  -- RESPONSE STATUS
  pub response_status : get_or (logins.session_bytes (response_record v m)) 10 0 ≡ 65
  response_status = ap (λ (l : List ℕ). get_or l 10 0) (response_bytes v m typed reads)

  -- RESPONSE RECEIVED
  pub response_received : v.received.0 < 4294967296 → number_at 4 72 (logins.session_bytes (response_record v m)) ≡ v.received.0
  response_received h = ap (number_at 4 72) (response_bytes v m typed reads) ∙ number_back 4 v.received.0 (32 ∷ lists_part v.table (get_or m 28 0 ∷ drop 29 m)) h

-- ANY READABLE LOGIN
login_read : (s : List ℕ) → login_read_refusal s ≡ 0 → (type_of (framed s) ≡ 0x37) × (logins.read_refusal (framed s) ≡ 0)
unfolding login_read_refusal
login_read s z = by (eqb (frame_refusal s) 0) (eqb (type_of (framed s)) 0x37) refl refl z
  where
    by : (p q : Bool) → eqb (frame_refusal s) 0 ≡ p → eqb (type_of (framed s)) 0x37 ≡ q → cond p (cond q (logins.read_refusal (framed s)) 4) (frame_refusal s) ≡ 0
        → (type_of (framed s) ≡ 0x37) × (logins.read_refusal (framed s) ≡ 0)
    by true true p q y = (eqb-true _ _ q, y)
    by true false p q y = absurd (omega (arith, y))
    by false q p r y = absurd (eqb-false _ _ p y)

pub any_readable_login : (v : Venue) (s : List ℕ) (room : ℕ) → v.running ≡ false → login_read_refusal s ≡ 0 → 443 ≤ room → login_refusal v s room ≡ 0
unfolding login_refusal response_record
any_readable_login v s room e z h =
    let r = login_read s z in
    rw (e, eq-eqb (login_read_refusal s) 0 z)
    (⊎_elim
    (λ (k : logins.record_refusal (response_record v (framed s)) room ≡ 0). k)
    (λ (k : (logins.record_refusal (response_record v (framed s)) room ≡ 13) × (room < 443)). absurd (omega (arith, h, k.1)))
    (response_only_room v (framed s) r.0 r.1 room))

-- ---- a step

complete_frames : frame_refusal complete_bytes ≡ 0
unfolding frame_refusal starts_bad not_ba length_bad cut_short length_of total_of
complete_frames = refl

complete_framed : framed complete_bytes ≡ complete_bytes
unfolding framed frame_refusal starts_bad not_ba length_bad cut_short length_of total_of
complete_framed = refl

-- COMPLETE IS READ
pub complete_is_read : messages.read_refusal 1 complete_bytes ≡ 0
unfolding number_of logins.fixed_size
complete_is_read =
    ap (messages.read_refusal 1) (sym (append-nil complete_bytes))
    ∙ read_by_member complete_bytes []
    (ap frame_refusal (append-nil complete_bytes) ∙ complete_frames)
    (ap framed (append-nil complete_bytes) ∙ complete_framed)
    refl
    (header-alone complete_bytes refl refl refl refl)

-- what stands whole at a place of the log
pub record WholeAt (s b : List ℕ) : Type 0 where
  pub place : ℕ
  pub frames : frame_refusal (drop place s) ≡ 0
  pub is : b ≡ framed (drop place s)

-- STEP SENDS
pub step-sends : (v : Venue) (log : List ℕ) → (next_bytes v log ≡ complete_bytes) ⊎ ((next_bytes v log ≡ []) ⊎ WholeAt (held v log) (next_bytes v log))
unfolding bytes_at
step-sends v log = by (tells_at v (place_of v (held v log))) (eqb (frame_refusal (drop (place_of v (held v log)) (held v log))) 0) refl
  where
    by : (b c : Bool) → eqb (frame_refusal (drop (place_of v (held v log)) (held v log))) 0 ≡ c
        → (cond b complete_bytes (framed (drop (place_of v (held v log)) (held v log))) ≡ complete_bytes)
        ⊎ ((cond b complete_bytes (framed (drop (place_of v (held v log)) (held v log))) ≡ []) ⊎ WholeAt (held v log) (cond b complete_bytes (framed (drop (place_of v (held v log)) (held v log)))))
    by true c e = inl refl
    by false true e = inr (inr (record { place = place_of v (held v log); frames = eqb-true _ _ e; is = refl }))
    by false false e = inr (inl (refused_is_empty _ (eqb-false _ _ e)))
