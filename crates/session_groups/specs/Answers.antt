-- How the functions answer what the definitions tell by numbers. Definitions alone. Assumes nothing.
use Rattle.std.specs.Prelude.{◌≡◌, ℕ, zero, suc, ◌<◌, List, Option, Some, None}
use Rattle.session_groups.specs.declared.Key.{Key}
use Rattle.session_groups.specs.declared.Key.TheVariants.{Units, Acknowledgments, Executions}
use Rattle.session_groups.specs.declared.Group.{Group}
use Rattle.session_groups.specs.Groups.{group_key, next_size}

-- bytes and one, or 0: the bytes, or none
abbrev pub end_of : ℕ → Option ℕ
end_of zero = None
end_of (suc e) = Some e

-- a size, or 0: the size, or none
abbrev pub some_of : ℕ → Option ℕ
some_of zero = None
some_of (suc n) = Some (suc n)

-- what a group is: 1 for the units, 2 for the bitfields of 0x25, 3 for those of 0x2C
abbrev pub key_number : Key → ℕ
key_number Units = 1
key_number Acknowledgments = 2
key_number Executions = 3

-- and 0 for what is neither
abbrev pub told_key : Option Key → ℕ
told_key None = 0
told_key (Some key) = key_number key

-- the group at the front and its bytes, or none where it is against the rules
abbrev pub Next : List ℕ → List ℕ → Option Group → Type 0
Next marks s None = next_size marks s ≡ 0
Next marks s (Some g) = (g.size ≡ next_size marks s) × (key_number g.key ≡ group_key s) × (0 < g.size)
