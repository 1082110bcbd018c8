-- The place of a member by its number.
use Rattle.std.specs.Prelude.{◌≡◌, ℕ, ◌<◌, List, length, Some, None, Option, ◌≢◌}
use Rattle.std.specs.List.{HoldsAt, AllWithin}

-- the place of the first member that has the number n, or nothing if none has it
abbrev pub Placed : {X : Type 0} → (X → ℕ) → List X → ℕ → Option ℕ → Type 0
Placed number xs n None = AllWithin (λ x. number x ≢ n) xs 0 (length xs)
Placed number xs n (Some i) = (i < length xs) × HoldsAt (λ x. number x ≡ n) xs i × AllWithin (λ x. number x ≢ n) xs 0 i
