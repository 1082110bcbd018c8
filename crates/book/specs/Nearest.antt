-- Rounding.
use Rattle.std.specs.Prelude.{ℕ, ◌+◌, ◌*◌, ◌/◌, ◌<◌, ◌≤◌}

-- the whole number nearest to n / d, halves upward
abbrev pub nearest : ℕ → ℕ → ℕ
nearest n d = (2 * n + d) / (2 * d)

-- two whole numbers are at most d apart
abbrev pub Within : ℕ → ℕ → ℕ → Type 0
Within d a b = (a ≤ b + d) × (b ≤ a + d)

-- g is the whole number nearest to n / d: twice the distance is at most d, and of two that are equally near g is the greater
pub record Nearest (n d g : ℕ) : Type 0 where
  pub near : Within d (2 * (g * d)) (2 * n)
  pub upward : 2 * n < 2 * (g * d) + d
