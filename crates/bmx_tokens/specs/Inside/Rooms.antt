-- Rising names.
use Rattle.std.specs.Prelude.{ℕ, List}

-- names in rising order, and for how many more there is room
pub record Listed : Type 0 where
  pub names : List ℕ
  pub spare : ℕ
