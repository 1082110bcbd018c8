-- What is volatilised, leached and kept is the whole.
use Rattle.std.proofs.Common.{◌≡◌, ℕ, ◌+◌, ◌-◌, ◌*◌, ◌≤◌, sym, ap, ◌∙◌, mul_comm, mul-add, arith}

pub parts_whole : (g v l : ℕ) → v + l ≤ 1000 → g * v + g * l + g * (1000 - v - l) ≡ 1000 * g
parts_whole g v l h =
    let whole : v + l + (1000 - v - l) ≡ 1000 = omega arith in
    sym (mul-add g (v + l) (1000 - v - l) ∙ ap (λ n. n + g * (1000 - v - l)) (mul-add g v l))
    ∙ (ap (λ n. g * n) whole ∙ mul_comm g 1000)
