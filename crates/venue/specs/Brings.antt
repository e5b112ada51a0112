-- What a login brings on the bench's line, as one list of messages in their bytes, and the states that the bench can come to. Definitions alone.
-- Assumes nothing.
use Rattle.std.specs.Prelude.{ℕ, ◌≤◌, ◌≡◌, Bool, true, false, not, List, [], ◌∷◌, ◌++◌, ltb, eqb, length, take, replicate, Option, None, Some}
use Rattle.wire.specs.Header.{unit_of, number_of}
use Rattle.wire.specs.Frame.{framed}
use Rattle.session_messages.specs.declared.Record.{Record}
use Rattle.session_messages.specs.Sessions as logins
use Rattle.table.specs.declared.UnitNumber.{UnitNumber}
use Rattle.session_fields.specs.SessionFields.{group_listed}
use Rattle.day_model.specs.Story.{Bytes}
use Rattle.day_model.specs.Brings.{Call, steps, called, sent_by}
use Rattle.session_fields.specs.AskedFor.{units_at, flag_of}
use Rattle.venue.specs.Venues.{complete_bytes}
use Rattle.venue.specs.VenueDay.{Bench, our_venue, empty, messages_in, takes_login, step_sends, stop}

-- ---- the list

-- 01, Session and replay: of a listed unit the login wants what is above the listed number; of an unlisted one nothing if its flag is 1, and all if the
-- flag is 0 or no group of units came
abbrev pub wanted_by : Option UnitNumber → ℕ → ℕ → Bool
wanted_by (Some listed) flag number = ltb listed.0 number
wanted_by None flag number = not (eqb flag 1)

abbrev pub wants : Record → Bytes → Bool
wants r m = wanted_by (group_listed (units_at r) (unit_of m) r) (flag_of r) (number_of m)

abbrev pub only_if : Bool → Bytes → List Bytes → List Bytes
only_if true m ms = m ∷ ms
only_if false m ms = ms

-- the messages of a log that it wants, in the log's order
abbrev pub wanted_of : Record → List Bytes → List Bytes
wanted_of r [] = []
wanted_of r (m ∷ ms) = only_if (wants r m) m (wanted_of r ms)

-- WHAT A LOGIN b BRINGS, by the log when it is taken and what is logged later: the messages of the log that it wants, Replay Complete, then all logged
-- later
abbrev pub list_for : Bytes → List Bytes → List Bytes → List Bytes
list_for b log later = wanted_of (logins.record_of (framed b)) log ++ complete_bytes ∷ later

-- ---- the states that the bench can come to: from a new log on, by whatever calls, taken or refused

-- a call of a session; a login, with a buffer of so many bytes lent for the answer; a break
pub data Use : Type 0 where
  call : Call → Use
  login : ℕ → Bytes → Use
  breaks : Use

abbrev pub used : Use → Bench → Bench
used (call c) w = called our_venue c w
used (login room b) w = takes_login room b w
used breaks w = stop w

abbrev pub used_all : List Use → Bench → Bench
used_all [] w = w
used_all (u ∷ us) w = used_all us (used u w)

abbrev pub bench : List Use → Bench
bench us = used_all us empty

-- ---- what is so at any time of the session of a login b, taken over a log: what was sent so far is a front of the list

pub record OnItsLine (b : Bytes) (log : List Bytes) (sent : List Bytes) (now : Bench) : Type 0 where
  -- what was logged later: the log now is the log at the login and this
  pub later : List Bytes
  pub grew : messages_in now.bytes ≡ log ++ later
  -- what is still to come
  pub rest : List Bytes
  pub front : sent ++ rest ≡ list_for b log later
  -- a step with room for the longest message sends the next of these, and is idle only where none is left
  pub next : (room : ℕ) → 2048 ≤ room → step_sends room now ≡ take 1 rest
  -- so many such steps as these are bring them all
  pub enough : (room n : ℕ) → 2048 ≤ room → length rest ≤ n → sent_by our_venue (replicate n (steps room)) now ≡ rest
