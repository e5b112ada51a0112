-- A step of document 01 (one message a step, what need not be sent is passed over) is some of the model's; and Replay Complete is sent in the end.
-- Assumes nothing.
use Rattle.std.specs.Prelude.{◌≡◌, refl, Bool, true, false, List, [], ◌∷◌, ◌++◌, ℕ, zero, suc, ◌+◌, ◌≤◌, ◌<◌, length, get_or}
use Rattle.std.proofs.Common.{sym, ap, subst, ◌∙◌, append-nil, append_assoc, arith, eq-eqb, ne_eqb, lt-ltb}
use Rattle.day_model.specs.Moments.{with_venue, with_queue, on_line}
use Rattle.day_model.specs.Model.{above, none-msg, Table, Sent, message, complete, Venue, Move, idle, tells, passes, move, moved, sends, World, Event, steps, apply, run}

-- where so many moves of the model lead, and what they put on the line
abbrev pub moves_to : ℕ → Venue → Venue
moves_to zero v = v
moves_to (suc n) v = moves_to n (moved (move v) v)

abbrev pub moves_send : ℕ → Venue → List Sent
moves_send zero v = []
moves_send (suc n) v = sends v.listed (move v) ++ moves_send n (moved (move v) v)

-- so many steps of the model's venue, and the world after them
abbrev pub many : ℕ → List Event
many zero = []
many (suc n) = steps ∷ many n

line_twice : (j : Bool) (q a b : List Sent) → on_line j (on_line j q a) b ≡ on_line j q (a ++ b)
line_twice true q a b = append_assoc q a b
line_twice false q a b = refl

line_none : (j : Bool) (q : List Sent) → on_line j q [] ≡ q
line_none true q = append-nil q
line_none false q = refl

abbrev pub stepped : Venue → List Sent → World → World
stepped v xs w = with_queue (on_line w.joined w.queue xs) (with_venue v w)

moved_running : (m : Move) (v : Venue) → (moved m v).running ≡ v.running
moved_running idle v = refl
moved_running tells v = refl
moved_running (passes m) v = refl

pub run-many : (n : ℕ) (w : World) → w.venue.running ≡ true → run (many n) w ≡ stepped (moves_to n w.venue) (moves_send n w.venue) w
run-many zero w e = rw line_none
run-many (suc n) w e =
    let v = stepped (moved (move w.venue) w.venue) (sends w.venue.listed (move w.venue)) w in
    let f : apply steps w ≡ v = rw e in
    ap (run (many n)) f ∙ run-many n v (moved_running (move w.venue) w.venue ∙ e)
    ∙ ap (λ (q : List Sent). with_queue q (with_venue (moves_to (suc n) w.venue) w))
    (line_twice w.joined w.queue (sends w.venue.listed (move w.venue)) (moves_send n (moved (move w.venue) w.venue)))

-- ---- document 01's step: pass over what is not above the listed number, send the first that is, or Replay Complete, or say idle

-- what a step sends, and the venue after it
pub record Stepped : Type 0 where
  pub sent : List Sent
  pub to : Venue

-- by whether the message that is passed is above the listed number
abbrev pub doc_on : (Venue → Stepped) → Bool → Move → Venue → Stepped
doc_on go a idle v = record { sent = []; to = v }
doc_on go a tells v = record { sent = complete ∷ []; to = moved tells v }
doc_on go true (passes m) v = record { sent = message m ∷ []; to = moved (passes m) v }
doc_on go false (passes m) v = go (moved (passes m) v)

abbrev pub above_move : Table → Move → Bool
above_move t idle = false
above_move t tells = false
above_move t (passes m) = above t m

-- at most so many messages are looked at; one more than the log has is enough
abbrev pub doc_step : ℕ → Venue → Stepped
doc_step zero v = record { sent = []; to = v }
doc_step (suc n) v = doc_on (doc_step n) (above_move v.listed (move v)) (move v) v

-- a step is so many moves
pub record IsMoves (v : Venue) (s : Stepped) : Type 0 where
  pub count : ℕ
  pub to : s.to ≡ moves_to count v
  pub sent : s.sent ≡ moves_send count v

pub doc_is : (n : ℕ) (v : Venue) → IsMoves v (doc_step n v)
doc_is zero v = record { count = 0; to = refl; sent = refl }
doc_is (suc n) v = go (move v) (above_move v.listed (move v)) refl refl (λ u. doc_is n u)
  where
    go : (m : Move) (b : Bool) → move v ≡ m → above_move v.listed m ≡ b → ((u : Venue) → IsMoves u (doc_step n u)) → IsMoves v (doc_on (doc_step n) b m v)
    go idle b e f ih = record { count = 0; to = refl; sent = refl }
    go tells b e f ih = record { count = 1; to = rw e; sent = rw e }
    go (passes m) true e f ih = record { count = 1; to = rw e; sent = rw (e, f) }
    go (passes m) false e f ih =
        let r = ih (moved (passes m) v) in
        record { count = suc r.count; to = rw e r.to; sent = rw (e, f) r.sent }

-- ---- Replay Complete is sent

pub move-tells : (v : Venue) → v.told ≡ false → v.at ≡ v.up_to → move v ≡ tells
move-tells v t e = rw (t, eq-eqb v.at v.up_to e)

pub move-passes : (v : Venue) → v.told ≡ false → v.at < v.up_to → v.up_to ≤ length v.log → move v ≡ passes (get_or v.log v.at none-msg)
move-passes v t l h = rw (t, ne_eqb v.at v.up_to (λ e. omega arith), lt-ltb v.at (length v.log) (omega arith))

pub tells_at-last : (d : ℕ) (v : Venue) → v.told ≡ false → v.at + d ≡ v.up_to → v.up_to ≤ length v.log → (moves_to (suc d) v).told ≡ true
tells_at-last zero v t e h = rw (move-tells v t (omega arith))
tells_at-last (suc d) v t e h =
    let m = get_or v.log v.at none-msg in
    subst (λ (x : Move). (moves_to (suc d) (moved x v)).told ≡ true) (sym (move-passes v t (omega arith) h)) (tells_at-last d (moved (passes m) v) t (omega arith) h)
