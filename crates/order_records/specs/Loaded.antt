-- What loading a record answers, as one value: the refusal, or 0, and the record. Definitions alone. Assumes nothing.
use Rattle.std.specs.Prelude.{ℕ}
use Rattle.orders.specs.declared.Record.{Record}

pub record Loaded : Type 0 where
  pub refusal : ℕ
  pub order : Record
