-- A reader or a writer with a count of its faults, as contracts see the adapters.
use Rattle.std.specs.Prelude.{ℕ}

-- what the adapter wraps, and the count of its faults, which never falls
pub record Counting (T : Type 0) : Type 0 where
  pub inner : T
  pub faults : ℕ
