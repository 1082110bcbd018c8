-- A member is found where its place is.
use Rattle.std.proofs.Common.{◌≡◌, ℕ, List, [], ◌∷◌, get_or, Some, None, sym, refl, arith}
use Rattle.std.proofs.lemmas.Bool.{eq-eqb, ne_eqb}
use Rattle.std.proofs.lemmas.List.Recursion.{found_at, found_nowhere}
use Rattle.std.specs.Prelude.{◌==◌}
use Rattle.factors.specs.Lookup.{found}
use Rattle.book.specs.Lookup.{Placed}

pub found_none : {X : Type 0} (number : X → ℕ) (xs : List X) (n : ℕ) → Placed number xs n None → found number n xs ≡ None
found_none number [] n h = refl
found_none number (x ∷ xs) n h =
    found_nowhere (found number n) (λ y. n == number y) Some None refl (λ _ _. refl) (x ∷ xs) x
    (λ k less. ne_eqb n (number (get_or (x ∷ xs) k x)) (λ e. h k x (omega arith) less (sym e)))

pub found_some : {X : Type 0} (number : X → ℕ) (xs : List X) (n : ℕ) (d : X) (i : ℕ) → Placed number xs n (Some i) → found number n xs ≡ Some (get_or xs i d)
found_some number xs n d i h =
    found_at (found number n) (λ x. n == number x) Some None refl (λ _ _. refl) xs i d h.0
    (λ k less. ne_eqb n (number (get_or xs k d)) (λ e. h.2 k d (omega arith) less (sym e)))
    (eq-eqb n (number (get_or xs i d)) (sym (h.1 d)))
