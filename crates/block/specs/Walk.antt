-- A walk over the places, as the code goes: a selected place changes a state, an unselected one leaves it. And the four walks: judging a
-- message's fields, storing them in a layout, looking at a layout's, giving them to a message. Definitions alone. Assumes nothing.
use Rattle.std.specs.Prelude.{ℕ, zero, suc, ◌+◌, ◌/◌, ◌%◌, Bool, true, false, List, eqb, leb, length, take, drop}
use Rattle.kinds.specs.declared.Kind.{Kind}
use Rattle.kinds.specs.Kinds.{agrees_of}
use Rattle.numbers.specs.Numbers.{patched}
use Rattle.dictionary.specs.declared.Entry.{Entry}
use Rattle.dictionary.specs.declared.Entry.TheVariants.{Refused, Field}
use Rattle.dictionary.specs.Dictionary.{entry_of}
use Rattle.block.specs.Slots.{zeros}

-- the first where a test holds, else the second
abbrev pub pick : {S : Type 0} → Bool → S → S → S
pick true a b = a
pick false a b = b

-- n places from place k on
unfoldable pub walk : {S : Type 0} → (ℕ → Bool) → (ℕ → S → S) → ℕ → ℕ → S → S
walk selected change zero k st = st
walk selected change (suc n) k st = walk selected change n (suc k) (pick (selected k) (change k st) st)

-- the bits of one bitfield byte, n of them from bit i on; x is what is left of the byte there, its lowest bit first
unfoldable pub bits_from : {S : Type 0} → (Entry → S → S) → ℕ → ℕ → ℕ → ℕ → ℕ → S → S
bits_from change message byte zero i x st = st
bits_from change message byte (suc n) i x st = bits_from change message byte n (suc i) (x / 2) (pick (eqb (x % 2) 1) (change (entry_of message byte i) st) st)

-- all bits of bitfield byte `byte`, which is x
abbrev pub in_byte : {S : Type 0} → (Entry → S → S) → ℕ → ℕ → ℕ → S → S
in_byte change message byte x st = bits_from change message byte 8 0 x st

-- the first of what is found: what was found before, else this; 0 is nothing found
abbrev pub first_of : ℕ → ℕ → ℕ
first_of found this = pick (eqb found 0) this found

-- the first field that is against its kind: this one, which has `at` bytes before it, unless it agrees or one was found before it
abbrev pub worse_of : ℕ → ℕ → Bool → ℕ
worse_of at wrong agree = pick agree wrong (first_of wrong (at + 1))

-- a change that is the same in every bitfield byte
abbrev pub any_byte : {S : Type 0} → (Entry → S → S) → ℕ → Entry → S → S
any_byte change byte = change

-- ---- judging: a message's optional bytes where they stand

-- how many bytes the set bits take so far; which of them, counted from 1, is the first of the first field that is against its kind, and which bitfield byte,
-- counted from 1, has the first bad bit: 0 where there is none
pub record Judging : Type 0 where
  pub at : ℕ
  pub wrong : ℕ
  pub bad : ℕ

-- a field of width w and kind k; where the message ends before it, nothing is asked of its bytes
abbrev pub judge_field : List ℕ → ℕ → Kind → Judging → Judging
judge_field m w k st =
    record { at = st.at + w; wrong = pick (leb (st.at + w) (length m)) (worse_of st.at st.wrong (agrees_of k (take w (drop st.at m)))) st.wrong; bad = st.bad }

-- what a set bit of a bitfield byte selects; one that is not listed is bad
unfoldable pub judge_entry : List ℕ → ℕ → Entry → Judging → Judging
judge_entry m byte Refused st = record { at = st.at; wrong = st.wrong; bad = first_of st.bad byte }
judge_entry m byte (Field w k p) st = judge_field m w k st

-- the same within one bitfield byte, where a bad bit puts the byte's number whatever was there
unfoldable pub judge_here : List ℕ → ℕ → Entry → Judging → Judging
judge_here m byte Refused st = record { at = st.at; wrong = st.wrong; bad = byte }
judge_here m byte (Field w k p) st = judge_field m w k st

-- ---- storing: a message's optional bytes into a layout

-- how far the message is stored, and the layout
pub record Storing : Type 0 where
  pub at : ℕ
  pub layout : List ℕ

-- a field of width w, which goes to place p of the layout, where the message has its bytes
abbrev pub store_field : List ℕ → ℕ → ℕ → Storing → Storing
store_field m w p st =
    pick (leb (st.at + w) (length m))
    (record { at = st.at + w; layout = patched st.layout p (take w (drop st.at m)) })
    st

-- what a set bit stores; one that is not listed stores nothing
unfoldable pub store_entry : List ℕ → Entry → Storing → Storing
store_entry m Refused st = st
store_entry m (Field w k p) st = store_field m w p st

-- ---- looking: a record's selected fields

-- their bytes in all; which of these, counted from 1, is the first of the first field that is against its kind, and which bitfield byte has the first
-- bad bit, as in judging; and the layout with the fields that were looked at cleared
pub record Looking : Type 0 where
  pub total : ℕ
  pub wrong : ℕ
  pub bad : ℕ
  pub rest : List ℕ

-- a field of width w and kind k, which stands at place p of the layout
abbrev pub look_field : ℕ → Kind → ℕ → Looking → Looking
look_field w k p st =
    record {
      total = st.total + w;
      wrong = worse_of st.total st.wrong (agrees_of k (take w (drop p st.rest)));
      bad = st.bad;
      rest = patched st.rest p (zeros w);
    }

-- what a set bit of a bitfield byte adds; one that is not listed is bad
unfoldable pub look_entry : ℕ → Entry → Looking → Looking
look_entry byte Refused st = record { total = st.total; wrong = st.wrong; bad = first_of st.bad byte; rest = st.rest }
look_entry byte (Field w k p) st = look_field w k p st

-- the same within one bitfield byte
unfoldable pub look_here : ℕ → Entry → Looking → Looking
look_here byte Refused st = record { total = st.total; wrong = st.wrong; bad = byte; rest = st.rest }
look_here byte (Field w k p) st = look_field w k p st

-- ---- giving: a layout's selected fields into a message

-- where the next field goes, and the message's buffer
pub record Giving : Type 0 where
  pub at : ℕ
  pub buffer : List ℕ

-- a field of width w from place p of the layout v, where the buffer has room for it
abbrev pub give_field : List ℕ → ℕ → ℕ → Giving → Giving
give_field v w p st =
    pick (leb (st.at + w) (length st.buffer))
    (record { at = st.at + w; buffer = patched st.buffer st.at (take w (drop p v)) })
    st

-- what a set bit gives; one that is not listed gives nothing
unfoldable pub give_entry : List ℕ → Entry → Giving → Giving
give_entry v Refused st = st
give_entry v (Field w k p) st = give_field v w p st
