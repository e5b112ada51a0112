-- The tests of a fixed part in two, as the code makes them: the identifier that each but that of Purge Orders has, and the first bad field of those after it. Definitions alone.
-- Assumes nothing.
use Rattle.std.specs.Prelude.{ℕ, cond, ◌&&◌, List, leb, eqb, take, drop}
use Rattle.kinds.specs.declared.Kind.TheVariants.{Alphanumeric, Text, Identifier}
use Rattle.kinds.specs.Kinds.{agrees_of, agrees_filled_of}
use Rattle.numbers.specs.Numbers.{number_at}
use Rattle.dictionary.specs.Dictionary.{is_new_order}
use Rattle.refusals.specs.Names.{bad_value}
use Rattle.refusals.specs.Told.{told}

-- 10 at the place of a bad field; 0 where the place is 0, which tells of none
abbrev pub bad_at : ℕ → ℕ
bad_at place = cond (eqb place 0) 0 (told bad_value place)

-- where the identifier stands in it: at 0 in the member's messages, at 8, after TransactionTime, in the venue's
unfoldable pub name_at : ℕ → ℕ
name_at message = cond (is_new_order message) 0 (cond (eqb message 0x39) 0 (cond (eqb message 0x3A) 0 8))

-- the first bad field of those that follow the identifier in New Order, in Modify Order, in Order Execution, and in the rejections
abbrev pub new_order_rest : List ℕ → ℕ
new_order_rest f =
    cond (agrees_filled_of Alphanumeric (take 1 (drop 20 f)))
    (cond (leb 1 (number_at 4 21 f) && leb (number_at 4 21 f) 999999) 0 31)
    30

abbrev pub modify_order_rest : List ℕ → ℕ
modify_order_rest f = cond (agrees_filled_of Identifier (take 20 (drop 20 f))) 0 30

abbrev pub execution_rest : List ℕ → ℕ
execution_rest f =
    cond (agrees_of Alphanumeric (take 1 (drop 52 f)))
    (cond (agrees_of Alphanumeric (take 1 (drop 53 f)))
    (cond (agrees_of Alphanumeric (take 4 (drop 54 f))) 0 64)
    63)
    62

abbrev pub rejection_rest : List ℕ → ℕ
rejection_rest f =
    cond (agrees_of Text (take 1 (drop 28 f)))
    (cond (agrees_of Text (take 60 (drop 29 f))) 0 39)
    38
