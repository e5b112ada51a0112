-- 02, request 1: what is judged after 10, since it hangs on the values of selected fields. One definition for reading and writing, over a message's
-- full layout. Definitions alone. Assumes nothing.
use Rattle.std.specs.Prelude.{ℕ, ◌+◌, Bool, false, cond, not, ◌&&◌, ◌||◌, List, eqb, get_or}
use Rattle.refusals.specs.Names.{not_selected, conflict}
use Rattle.refusals.specs.Told.{told}
use Rattle.block.specs.Places.{selected_at}
use Rattle.orders.specs.Shapes.{count_at}

-- OrdType's market value, and the characters of MassCancelInst that have a rule
abbrev pub market : ℕ
market = 0x31

abbrev pub char_f : ℕ
char_f = 0x46

abbrev pub char_s : ℕ
char_s = 0x53

abbrev pub char_b : ℕ
char_b = 0x42

abbrev pub char_l : ℕ
char_l = 0x4C

-- Modify Order: Price (byte 1, bit 8) may be absent where OrdType, which is then selected, has the market value
abbrev pub modify_order_lacks : ℕ → List ℕ → List ℕ → Bool
modify_order_lacks count bits slots = not (selected_at count bits 3) && not (eqb (get_or slots 16 0) market)

-- Purge Orders: F as the first character of MassCancelInst needs ClearingFirm (byte 1, bit 1), S or B as the second needs MassCancelID (byte 1, bit 16)
abbrev pub purge_orders_lacks : ℕ → List ℕ → List ℕ → Bool
purge_orders_lacks count bits slots =
    (eqb (get_or slots 4 0) char_f && not (selected_at count bits 0))
    || ((eqb (get_or slots 5 0) char_s || eqb (get_or slots 5 0) char_b) && not (selected_at count bits 4))

-- 23: L as the third needs F; Symbol (byte 2, bit 1) does not go together with a MatchingUnit (byte 2, bit 128) other than 0
abbrev pub purge_orders_conflicts : ℕ → List ℕ → List ℕ → Bool
purge_orders_conflicts count bits slots =
    (eqb (get_or slots 6 0) char_l && not (eqb (get_or slots 4 0) char_f))
    || (selected_at count bits 8 && (selected_at count bits 15 && not (eqb (get_or slots 56 0) 0)))

-- 9, late: a field not selected that the value of a selected one needs
unfoldable pub lacks : ℕ → ℕ → List ℕ → List ℕ → Bool
lacks message count bits slots =
    cond (eqb message 0x3A) (modify_order_lacks count bits slots)
    (cond (eqb message 0x47) (purge_orders_lacks count bits slots)
    false)

-- 23, which Purge Orders alone has
unfoldable pub conflicts : ℕ → ℕ → List ℕ → List ℕ → Bool
conflicts message count bits slots = eqb message 0x47 && purge_orders_conflicts count bits slots

-- the late 9, at the place of every 9; then 23, which has none
unfoldable pub late_refusal : ℕ → ℕ → List ℕ → List ℕ → ℕ
late_refusal message count bits slots =
    cond (lacks message count bits slots) (told not_selected (count_at message + count))
    (cond (conflicts message count bits slots) conflict
    0)
