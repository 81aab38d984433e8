-- A script's clock and words, as contracts see them.
use Rattle.std.specs.Prelude.{ℕ}

-- the moment that the clock tells
pub record SetClock : Type 0 where
  pub moment : ℕ

-- the word that was drawn last
pub record Seeded : Type 0 where
  pub x : ℕ
