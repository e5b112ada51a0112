-- A moment of a day: a venue, a member and the line between them, of whatever kind; and what may change of it. Definitions alone. Assumes nothing.
use Rattle.std.specs.Prelude.{Bool, true, false, ◌||◌, List, [], ◌++◌}

-- the states of a venue and of a member, a login under way, what a venue sends, and a message of its log
pub record MomentOf (Ven Mem Asked Said Kept : Type 0) : Type 0 where
  pub venue : Ven
  pub member : Mem
  -- the venue's session is on the member's present line
  pub joined : Bool
  -- a login stands on the line and is not yet answered, and which
  pub asks : Bool
  pub asking : Asked
  -- sent by the venue on this line and not yet delivered
  pub queue : List Said
  -- since the login a message was refused for room
  pub refused : Bool
  -- the log when the venue took the login of this line
  pub held : List Kept
  -- the venue put a Logout on this line
  pub left : Bool

-- what a session sends goes on the member's line, if it is on it
abbrev pub on_line : {Said : Type 0} → Bool → List Said → List Said → List Said
on_line true q xs = q ++ xs
on_line false q xs = q

module _ {Ven Mem Asked Said Kept : Type 0} where
  -- with another venue, another member, other things under way
  abbrev pub with_venue : Ven → MomentOf Ven Mem Asked Said Kept → MomentOf Ven Mem Asked Said Kept
  with_venue v w = record { venue = v; member = w.member; joined = w.joined; asks = w.asks; asking = w.asking; queue = w.queue; refused = w.refused; held = w.held; left = w.left }

  abbrev pub with_member : Mem → MomentOf Ven Mem Asked Said Kept → MomentOf Ven Mem Asked Said Kept
  with_member s w = record { venue = w.venue; member = s; joined = w.joined; asks = w.asks; asking = w.asking; queue = w.queue; refused = w.refused; held = w.held; left = w.left }

  abbrev pub with_queue : List Said → MomentOf Ven Mem Asked Said Kept → MomentOf Ven Mem Asked Said Kept
  with_queue q w = record { venue = w.venue; member = w.member; joined = w.joined; asks = w.asks; asking = w.asking; queue = q; refused = w.refused; held = w.held; left = w.left }

  -- the venue sends some more on this line
  abbrev pub sending : List Said → MomentOf Ven Mem Asked Said Kept → MomentOf Ven Mem Asked Said Kept
  sending xs w = with_queue (w.queue ++ xs) w

  -- a new line, on which a login stands
  abbrev pub new_line : Asked → MomentOf Ven Mem Asked Said Kept → MomentOf Ven Mem Asked Said Kept
  new_line a w = record { venue = w.venue; member = w.member; joined = false; asks = true; asking = a; queue = []; refused = false; held = w.held; left = false }

  -- no line: nothing is under way
  abbrev pub no_line : MomentOf Ven Mem Asked Said Kept → MomentOf Ven Mem Asked Said Kept
  no_line w = record { venue = w.venue; member = w.member; joined = false; asks = false; asking = w.asking; queue = []; refused = w.refused; held = w.held; left = w.left }

  -- the login on the line is taken: the session is on it, and that is what the log held
  abbrev pub joining : List Kept → MomentOf Ven Mem Asked Said Kept → MomentOf Ven Mem Asked Said Kept
  joining l w = record { venue = w.venue; member = w.member; joined = true; asks = false; asking = w.asking; queue = w.queue; refused = w.refused; held = l; left = w.left }

  -- the login on the line is answered, and no session begins
  abbrev pub turned_down : MomentOf Ven Mem Asked Said Kept → MomentOf Ven Mem Asked Said Kept
  turned_down w = record { venue = w.venue; member = w.member; joined = w.joined; asks = false; asking = w.asking; queue = w.queue; refused = w.refused; held = w.held; left = w.left }

  -- the venue's session, if any, is on no line of the member's
  abbrev pub apart : MomentOf Ven Mem Asked Said Kept → MomentOf Ven Mem Asked Said Kept
  apart w = record { venue = w.venue; member = w.member; joined = false; asks = w.asks; asking = w.asking; queue = w.queue; refused = w.refused; held = w.held; left = w.left }

  -- a message was refused for room, if the test says so
  abbrev pub refusing : Bool → MomentOf Ven Mem Asked Said Kept → MomentOf Ven Mem Asked Said Kept
  refusing r w = record { venue = w.venue; member = w.member; joined = w.joined; asks = w.asks; asking = w.asking; queue = w.queue; refused = w.refused || r; held = w.held; left = w.left }

  -- a Logout was put on the line
  abbrev pub leaving : MomentOf Ven Mem Asked Said Kept → MomentOf Ven Mem Asked Said Kept
  leaving w = record { venue = w.venue; member = w.member; joined = w.joined; asks = w.asks; asking = w.asking; queue = w.queue; refused = w.refused; held = w.held; left = true }
