-- Looking a member of a list up by its number.
use Rattle.std.specs.Prelude.{ℕ, List, find, Option, ◌==◌}

-- the first member that has the number n, by a way to number them
abbrev pub found : {X : Type 0} → (X → ℕ) → ℕ → List X → Option X
found number n xs = find (λ x. n == number x) xs
