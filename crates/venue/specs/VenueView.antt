-- How the bench venue's state and log are seen as the model's venue, and which states are good. Definitions alone. Assumes nothing.
use Rattle.std.specs.Prelude.{ℕ, suc, ◌≤◌, ◌<◌, min, ◌≡◌, true, false, List, [], ◌++◌, ◌∷◌, map, length, get_or, take}
use Rattle.wire.specs.Header.{unit_of, number_of}
use Rattle.wire.specs.Frame.{framed}
use Rattle.table.specs.Table.{last_of}
use Rattle.book.specs.Books.{limit, message_refusal}
use Rattle.day_model.specs.Model.{Msg, Table, count, Venue}
use Rattle.day_model.specs.Story.{Bytes, All}
use Rattle.day_line.specs.Lines.{msg_of}
use Rattle.venue.specs.declared.Thresholds.{Thresholds}
use Rattle.venue.specs.declared.Venue as state
use Rattle.venue.specs.Venues.{wanted_above}
use Rattle.venue.specs.VenueDay.{Bench, messages_in}

-- ---- the view

-- how many messages stand before a place
abbrev pub index_of : List ℕ → ℕ → ℕ
index_of s p = length (messages_in (take p s))

-- the numbers above which messages are sent. A threshold above what the log held at the login means what the log held then: so the model's one test
-- serves for what is filtered, logged before, and for what is not, logged later
abbrev pub low : Thresholds → ℕ → List Msg → Table
low t j l u = min (wanted_above t u) (count u (take j l))

abbrev pub view_v : Bench → Venue
view_v w = record {
  log = map msg_of (messages_in w.bytes);
  running = w.venue.running;
  listed = low w.venue.thresholds (index_of w.bytes w.venue.upto) (map msg_of (messages_in w.bytes));
  at = index_of w.bytes w.venue.at;
  up_to = index_of w.bytes w.venue.upto;
  told = w.venue.told;
}

-- ---- good states

-- a run of messages
abbrev pub joined : List Bytes → List ℕ
joined [] = []
joined (m ∷ ms) = m ++ joined ms

-- where message k of a run begins
abbrev pub place_in : List Bytes → ℕ → ℕ
place_in ms k = length (joined (take k ms))

-- a message as the log holds it
pub record Wholly (m : Bytes) : Type 0 where
  pub reads : message_refusal m ≡ 0
  pub alone : framed m ≡ m

-- the log as messages, each numbered by those of its unit before it
pub record Log (v : state.Venue) (bytes : List ℕ) (ms : List Bytes) : Type 0 where
  pub is : bytes ≡ joined ms
  pub long : v.length ≡ length bytes
  pub within : v.length ≤ limit
  pub whole : All Wholly ms
  pub ordered : (k : ℕ) → k < length ms → number_of (get_or ms k []) ≡ suc (count (unit_of (get_or ms k [])) (take k (map msg_of ms)))
  pub full : length v.table.entries ≡ 32
  pub table : (u : ℕ) → last_of v.table u ≡ count u (map msg_of ms)

-- the session's places in it; outside a session there are none
pub record At (v : state.Venue) (ms : List Bytes) (k j : ℕ) : Type 0 where
  pub at : v.at ≡ place_in ms k
  pub upto : v.upto ≡ place_in ms j
  pub in_at : k ≤ length ms
  pub in_upto : j ≤ length ms
  pub before : v.told ≡ false → k ≤ j
  pub beyond : v.told ≡ true → j ≤ k
  pub outside : v.running ≡ false → (v.told ≡ false) × (k ≡ 0) × (j ≡ 0)

pub record GoodV (w : Bench) : Type 0 where
  pub messages : List Bytes
  pub cursor : ℕ
  pub mark : ℕ
  pub log : Log w.venue w.bytes messages
  pub places : At w.venue messages cursor mark

-- what a good state is seen as
abbrev pub seen_as : state.Venue → List Bytes → ℕ → ℕ → Venue
seen_as v ms k j = record { log = map msg_of ms; running = v.running; listed = low v.thresholds j (map msg_of ms); at = k; up_to = j; told = v.told }
