-- Days that compute: the line breaks during one replay and again during the next, the book is cut, and the third replay completes; a login is rejected, and
-- the next meets a Logout before its answer. Assumes nothing.
use Rattle.std.specs.Prelude.{◌≡◌, refl, true, false, List, [], ◌∷◌}
use Rattle.day_model.specs.Model.{Msg, mark, messages, closed, live, complete, Event, logs, logs_in, takes_it, rejects, steps, asides, logs_out, delivers, breaks, drops, cuts, World, run, start}

abbrev a : Msg
a = record { unit = 1; num = 1; body = 7 ∷ 7 ∷ [] }

abbrev b : Msg
b = record { unit = 2; num = 1; body = 8 ∷ [] }

abbrev c : Msg
c = record { unit = 1; num = 2; body = 9 ∷ [] }

-- a login, taken and answered
abbrev begins : List Event → List Event
begins es = logs_in ∷ takes_it ∷ delivers 99 ∷ es

-- the venue goes one message on in its log; what it sends is delivered
abbrev next : List Event → List Event
next es = steps ∷ delivers 99 ∷ es

-- a break that both sides see
abbrev broken : List Event → List Event
broken es = breaks 99 ∷ drops ∷ es

-- three messages are logged; a replay breaks after its first message, the next after its first, and of the book two items are kept: its first mark
-- and the first message. The third replay goes on up to Replay Complete
abbrev events : List Event
events = logs a ∷ logs b ∷ logs c ∷ begins (next (broken (begins (next (next (broken (cuts 2 ∷ begins (next (next (next (steps ∷ [])))))))))))

abbrev last : World
last = run events start

-- what the theorems ask for: none was refused for room, no Logout was sent, Replay Complete is what the line delivers next
pub the_premises_are_met : (last.refused ≡ false) × (last.left ≡ false) × (last.queue ≡ complete ∷ []) × (last.held ≡ a ∷ b ∷ c ∷ [])
the_premises_are_met = (refl, refl, refl, refl)

-- it ends live with a full book
pub the_day_ends_live : (run (delivers 99 ∷ []) last).member.phase ≡ live
the_day_ends_live = refl

pub the_book_is_full : messages (run (delivers 99 ∷ []) last).member.book ≡ a ∷ b ∷ c ∷ []
the_book_is_full = refl

-- with no room for the last message the replay completes all the same, and its refusal is told
abbrev tight : World
tight = run (cuts 3 ∷ drops ∷ logs_in ∷ takes_it ∷ steps ∷ steps ∷ steps ∷ steps ∷ delivers 19 ∷ delivers 19 ∷ delivers 19 ∷ delivers 19 ∷ []) last

pub a_refusal_is_told : tight.refused ≡ true
a_refusal_is_told = refl

-- a login is answered with another status, behind a heartbeat: the session ends with a mark, and no session began at the venue
abbrev rejected : World
rejected = run (logs a ∷ logs_in ∷ asides ∷ rejects ∷ delivers 99 ∷ delivers 99 ∷ []) start

pub a_rejected_login_ends_the_session : (rejected.member.phase ≡ closed) × (rejected.member.book ≡ mark 0 ∷ mark 0 ∷ []) × (rejected.venue.running ≡ false)
a_rejected_login_ends_the_session = (refl, refl, refl)

-- a Logout comes before the answer to the next login and ends that session; the one after it, with a heartbeat before its answer, completes
abbrev later : World
later = run (logs_in ∷ logs_out ∷ takes_it ∷ delivers 99 ∷ delivers 99 ∷ breaks 99 ∷ drops ∷ logs_in ∷ asides ∷ takes_it ∷ delivers 99 ∷ delivers 99 ∷ next (next [])) rejected

pub a_later_login_completes : (later.member.phase ≡ live) × (messages later.member.book ≡ a ∷ [])
a_later_login_completes = (refl, refl)
