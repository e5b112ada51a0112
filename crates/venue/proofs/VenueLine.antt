-- What the bench puts on a line is read by the member's reader, and says what it is. Assumes nothing.
use Rattle.std.specs.Prelude.{ℕ, ◌⊎◌, ◌≡◌, refl, [], Bool, true, false, cond, ◌&&◌, ◌||◌, not, eqb, get_or}
use Rattle.std.proofs.Common.{arith, inl, inr, ⊎_elim, sym, ap, ◌∙◌, append-nil, eqb-true}
use Rattle.std.proofs.lemmas.Bool.{false≢true, eqb-false}
use Rattle.wire.specs.Header.{type_of, length_of, number_of, total_of}
use Rattle.wire.specs.Frame.{not_ba, starts_bad, length_bad, cut_short, frame_refusal, framed}
use Rattle.wire.proofs.FrameLaws.{framed_accepted, framed-again}
use Rattle.block.specs.SlotLaws.{both_true}
use Rattle.orders.specs.Shapes.{sequenced, unsequenced}
use Rattle.orders.specs.Orders as orders
use Rattle.session_messages.specs.Sessions as sessions
use Rattle.orders.proofs.OrderLaws.{either}
use Rattle.messages.specs.Messages.{is_session, carries, heard, own_refusal, read_refusal}
use Rattle.messages.proofs.MessageLaws.{own_refusal_lem}
use Rattle.book.specs.Books.{message_refusal}
use Rattle.book.proofs.BookLaws.{frames}
use Rattle.day_model.specs.Model.{Sent, response, message, complete, aside, logout}
use Rattle.day_model.specs.Story.{Bytes}
use Rattle.day_line.specs.Lines.{msg_of, says, Fine}
use Rattle.venue.specs.Venues.{complete_bytes}
use Rattle.venue.specs.VenueDay.{is_aside, is_bye, is_no}
use Rattle.venue.specs.VenueView.{Wholly}

-- ---- a message of the log

-- its type is one of two, and it is read as an order
record Read (m : Bytes) : Type 0 where
  pub type : (type_of (framed m) ≡ 0x25) ⊎ (type_of (framed m) ≡ 0x2C)
  pub own : orders.read_refusal (framed m) ≡ 0

type_by : (t : ℕ) (a b : Bool) → eqb t 0x25 ≡ a → eqb t 0x2C ≡ b → (a || b) ≡ true → (t ≡ 0x25) ⊎ (t ≡ 0x2C)
type_by t true b e f h = inl (eqb-true t 0x25 e)
type_by t false true e f h = inr (eqb-true t 0x2C f)
type_by t false false e f h = absurd (false≢true h)

is_message : (m : Bytes) → message_refusal m ≡ 0 → Read m
unfolding message_refusal
is_message m z = by (eqb (frame_refusal m) 0) refl (sequenced (type_of (framed m))) refl z
  where
    by : (a : Bool) → eqb (frame_refusal m) 0 ≡ a → (b : Bool) → sequenced (type_of (framed m)) ≡ b → cond a (cond b (orders.read_refusal (framed m)) 4) (frame_refusal m) ≡ 0 → Read m
    by true e true f y = record { type = type_by (type_of (framed m)) (eqb (type_of (framed m)) 0x25) (eqb (type_of (framed m)) 0x2C) refl refl f; own = y }
    by true e false f y = absurd (omega (arith, y))
    by false e b f y = absurd (eqb-false (frame_refusal m) 0 e y)

type_venue : (t : ℕ) → (t ≡ 0x25) ⊎ (t ≡ 0x2C) → carries 1 t ≡ true
unfolding carries
type_venue t = ⊎_elim (λ (e : t ≡ 0x25). ap (carries 1) e) (λ (e : t ≡ 0x2C). ap (carries 1) e)

type_order : (t : ℕ) → (t ≡ 0x25) ⊎ (t ≡ 0x2C) → is_session t ≡ false
type_order t = ⊎_elim (λ (e : t ≡ 0x25). ap is_session e) (λ (e : t ≡ 0x2C). ap is_session e)

pub message_fine : (m : Bytes) → Wholly m → Fine m
unfolding own_refusal
message_fine m w =
    let r = is_message m w.reads in
    record {
      reads = own_refusal_lem 1 m [] (frames m w.reads) (type_venue (type_of (framed m)) r.type) ∙ rw (type_order (type_of (framed m)) r.type) r.own;
      whole = w.alone;
    }

pub message_says : (m : Bytes) → Wholly m → says m ≡ message (msg_of m)
unfolding says
message_says m w =
    let r = is_message m w.reads in
    let t : type_of (framed m) ≡ type_of m = ap type_of w.alone in
    ⊎_elim
    (λ (e : type_of (framed m) ≡ 0x25). by 0x25 (sym t ∙ e) refl refl refl refl)
    (λ (e : type_of (framed m) ≡ 0x2C). by 0x2C (sym t ∙ e) refl refl refl refl)
    r.type
  where
    by : (t : ℕ) → type_of m ≡ t → eqb t 0x24 ≡ false → eqb t 0x13 ≡ false → eqb t 0x08 ≡ false → (eqb t 0x09 || unsequenced t) ≡ false → says m ≡ message (msg_of m)
    by t e a b c d = rw (e, a, b, c, d)

-- ---- what a step says, and its bytes again

-- the bytes of a message and of Replay Complete; a step says nothing else
abbrev pub spoken : Sent → Bytes
spoken (message m) = m.body
spoken complete = complete_bytes
spoken (response ok) = []
spoken aside = []
spoken logout = []

-- bytes that what they say determines
abbrev pub Clear : Bytes → Type 0
Clear b = spoken (says b) ≡ b

pub message_clear : (m : Bytes) → Wholly m → Clear m
message_clear m w = ap spoken (message_says m w)

-- ---- Replay Complete

pub complete_fine : Fine complete_bytes
unfolding read_refusal carries own_refusal sessions.read_refusal sessions.fixed_size sessions.values_good sessions.body_end number_of framed frame_refusal not_ba starts_bad length_bad cut_short length_of total_of
complete_fine = record { reads = refl; whole = refl }

pub complete_says : says complete_bytes ≡ complete
unfolding says
complete_says = refl

pub complete_clear : Clear complete_bytes
complete_clear = ap spoken complete_says

-- ---- what is read, and a Logout

-- what is read is framed
pub read_frames : (direction : ℕ) (b : Bytes) → read_refusal direction b ≡ 0 → frame_refusal b ≡ 0
unfolding read_refusal
read_frames direction b z = by (eqb (frame_refusal b) 0) refl z
  where
    by : (a : Bool) → eqb (frame_refusal b) 0 ≡ a → cond a (cond (carries direction (type_of (heard direction b))) (own_refusal (heard direction b)) 4) (frame_refusal b) ≡ 0 → frame_refusal b ≡ 0
    by true e y = eqb-true (frame_refusal b) 0 e
    by false e y = y

-- and what is read goes alone on the line
pub framed-fine : (b : Bytes) → read_refusal 1 b ≡ 0 → Fine (framed b)
unfolding read_refusal
framed-fine b z =
    let f = read_frames 1 b z in
    let a : framed (framed b) ≡ framed b = ap framed (sym (append-nil (framed b))) ∙ framed-again b [] f in
    let g : frame_refusal (framed b) ≡ 0 = ap frame_refusal (sym (append-nil (framed b))) ∙ framed_accepted b [] f in
    let r : read_refusal 1 (framed b) ≡ read_refusal 1 b = rw (g, f, a) in
    record { reads = r ∙ z; whole = a }

pub bye_fine : (b : Bytes) → is_bye b ≡ true → Fine (framed b)
bye_fine b h = framed-fine b (eqb-true _ _ (both_true (eqb (read_refusal 1 b) 0) (eqb (type_of (framed b)) 0x08) h).0)

pub bye_says : (b : Bytes) → is_bye b ≡ true → says (framed b) ≡ logout
unfolding says
bye_says b h =
    let t : type_of (framed b) ≡ 0x08 = eqb-true _ _ (both_true (eqb (read_refusal 1 b) 0) (eqb (type_of (framed b)) 0x08) h).1 in
    rw t

-- ---- a heartbeat or an unsequenced message

pub aside_fine : (b : Bytes) → is_aside b ≡ true → Fine (framed b)
aside_fine b h = framed-fine b (eqb-true _ _ (both_true (eqb (read_refusal 1 b) 0) (eqb (type_of (framed b)) 0x09 || unsequenced (type_of (framed b))) h).0)

pub aside_says : (b : Bytes) → is_aside b ≡ true → says (framed b) ≡ aside
unfolding says
aside_says b h =
    either (eqb (type_of (framed b)) 0x09) (at 0x09 refl refl refl refl)
    (either (eqb (type_of (framed b)) 0x26) (at 0x26 refl refl refl refl)
    (either (eqb (type_of (framed b)) 0x29) (at 0x29 refl refl refl refl)
    (at 0x2B refl refl refl refl)))
    (both_true (eqb (read_refusal 1 b) 0) (eqb (type_of (framed b)) 0x09 || unsequenced (type_of (framed b))) h).1
  where
    at : (x : ℕ) → eqb x 0x24 ≡ false → eqb x 0x13 ≡ false → eqb x 0x08 ≡ false → (eqb x 0x09 || unsequenced x) ≡ true → eqb (type_of (framed b)) x ≡ true → says (framed b) ≡ aside
    at x p q r s e = let t : type_of (framed b) ≡ x = eqb-true _ _ e in rw (t, p, q, r, s)

-- ---- a Login Response of another status than A

is_false : (b : Bool) → not b ≡ true → b ≡ false
is_false true e = sym e
is_false false e = refl

pub no_fine : (b : Bytes) → is_no b ≡ true → Fine (framed b)
no_fine b h = framed-fine b (eqb-true _ _ (both_true (eqb (read_refusal 1 b) 0) (eqb (type_of (framed b)) 0x24 && not (eqb (get_or (framed b) 10 0) 65)) h).0)

pub no_says : (b : Bytes) → is_no b ≡ true → says (framed b) ≡ response false
unfolding says
no_says b h =
    let k = both_true (eqb (type_of (framed b)) 0x24) (not (eqb (get_or (framed b) 10 0) 65)) (both_true (eqb (read_refusal 1 b) 0) (eqb (type_of (framed b)) 0x24 && not (eqb (get_or (framed b) 10 0) 65)) h).1 in
    let t : type_of (framed b) ≡ 0x24 = eqb-true _ _ k.0 in
    let n : eqb (get_or (framed b) 10 0) 65 ≡ false = is_false _ k.1 in
    rw (t, n)
