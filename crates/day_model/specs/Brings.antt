-- What a login brings on its line, as one list, and what may happen after it: the venue makes moves, and its log grows; and the same by the calls of
-- a venue's code. Definitions alone. Assumes nothing.
use Rattle.std.specs.Prelude.{ℕ, suc, ◌≡◌, List, [], ◌∷◌, ◌++◌, map, length, take}
use Rattle.day_model.specs.Model.{Msg, Table, keep, Sent, message, complete, Venue, above, move, moved, sends, logged, next_in_log}
use Rattle.day_model.specs.Steps.{moves_send, doc_step}
use Rattle.day_model.specs.Story.{Bytes}
use Rattle.day_model.specs.Halves.{VenueCode}

-- ---- the list

-- of a log, the messages above the listed numbers, in the log's order
abbrev pub above_of : Table → List Msg → List Msg
above_of t [] = []
above_of t (m ∷ l) = keep (above t m) m (above_of t l)

-- WHAT A LOGIN BRINGS, by the numbers that it lists, the log when it is taken, and what is logged later: the log's messages above the listed
-- numbers, Replay Complete, then all logged later
abbrev pub brings : Table → List Msg → List Msg → List Sent
brings t log later = map message (above_of t log) ++ complete ∷ map message later

-- ---- what may happen in a session

pub data Turn : Type 0 where
  -- the venue makes a move
  moves : Turn
  -- its log is offered a message, and takes it with the next number of its unit
  grows : Msg → Turn

abbrev pub turned : Turn → Venue → Venue
turned moves v = moved (move v) v
turned (grows m) v = logged (next_in_log m v) m v

abbrev pub put_out : Turn → Venue → List Sent
put_out moves v = sends v.listed (move v)
put_out (grows m) v = []

-- one after the other: the venue after them, and all that was sent
abbrev pub turns : List Turn → Venue → Venue
turns [] v = v
turns (t ∷ ts) v = turns ts (turned t v)

abbrev pub sent_in : List Turn → Venue → List Sent
sent_in [] v = []
sent_in (t ∷ ts) v = put_out t v ++ sent_in ts (turned t v)

-- ---- what is so at any time after a login with the numbers t, taken over a log: what was sent so far is a front of the list

pub record Brought (t : Table) (log : List Msg) (sent : List Sent) (now : Venue) : Type 0 where
  -- what was logged later: the log now is the log at the login and this
  pub later : List Msg
  pub grew : now.log ≡ log ++ later
  -- what is still to come
  pub rest : List Sent
  pub front : sent ++ rest ≡ brings t log later
  -- a step of document 01's sends the next of these, and is idle only where none is left
  pub next : (doc_step (suc (length now.log)) now).sent ≡ take 1 rest
  -- so many moves as the log has messages, and one, bring all of it
  pub enough : moves_send (suc (length now.log)) now ≡ rest

-- ---- a session by the calls of a venue's code

-- a number is the length of the buffer that is lent
pub data Call : Type 0 where
  -- the log is offered a message; the venue hears what a member sends; it makes a step
  offers : ℕ → Bytes → Call
  hears : ℕ → Bytes → Call
  steps : ℕ → Call

module _ (B : VenueCode) where
  abbrev pub called : Call → B.Ven → B.Ven
  called (offers room b) v = B.adds room b v
  called (hears market b) v = B.hears market b v
  called (steps room) v = B.step_to room v

  abbrev pub bytes_out : Call → B.Ven → List Bytes
  bytes_out (offers room b) v = []
  bytes_out (hears market b) v = []
  bytes_out (steps room) v = B.step_sends room v

  -- one after the other: the venue after them, and all that was sent
  abbrev pub calls : List Call → B.Ven → B.Ven
  calls [] v = v
  calls (c ∷ cs) v = calls cs (called c v)

  abbrev pub sent_by : List Call → B.Ven → List Bytes
  sent_by [] v = []
  sent_by (c ∷ cs) v = bytes_out c v ++ sent_by cs (called c v)
