-- Whole grams are at most half a gram from exact grams.
use Rattle.std.proofs.Common.{◌≡◌, ℕ, zero, suc, ◌+◌, ◌*◌, ◌/◌, ◌<◌, ◌≤◌, List, [], ◌∷◌, length, get_or, fold, Contains, Some, None, Option, refl, sym, ap, ◌∙◌, subst, mul-le-mul_right, mul_assoc, div-mul-le_self, arith}
use Prim.Native.Nat.{◌∣◌}
use native.Mathlib.Nat.{dvd_refl, dvd-mul_left, dvd-mul_right, dvd-mul_right_of_dvd, mul-dvd-mul, div-mul_cancel, lt-div-mul-add}
use Rattle.std.proofs.lemmas.Bool.Decides.{nat_tests}
use Rattle.std.proofs.lemmas.List.FromFn.{get_or-range_with_len}
use Rattle.book.specs.declared.crops.CropRow.{CropRow}
use Rattle.book.specs.declared.entry.Activity.{Activity}
use Rattle.book.specs.declared.entry.Activity.TheVariants.{Synthetic, Manure, Sludge, Grazing, Residues, Mineralised, Drained, Lime, Urea}
use Rattle.book.specs.declared.entry.CropResidues.{CropResidues}
use Rattle.book.specs.Common.{divisors, common, exact_shared, Weighed}
use Rattle.book.specs.Crops.{row_of}
use Rattle.book.specs.Grams.{exact, residues_exact, grams_of}
use Rattle.book.specs.Nearest.{nearest, Within, Nearest}
use Rattle.book.specs.Ranges.{range_fault}

still_divides : (x a : ℕ) (xs : List ℕ) → x ∣ a → x ∣ fold (λ a d. a * d) a xs
still_divides x a [] h = h
still_divides x a (y ∷ ys) h = still_divides x (a * y) ys (dvd-mul_right_of_dvd x h y)

from_place : (x a : ℕ) (xs : List ℕ) (k : ℕ) → k < length xs → get_or xs k x ≡ x → x ∣ fold (λ a d. a * d) a xs
from_place x a [] k low e = absurd (omega arith)
from_place x a (y ∷ ys) zero low e = still_divides x (a * y) ys (subst (λ z. x ∣ a * z) (sym e) (dvd-mul_left x a))
from_place x a (y ∷ ys) (suc k) low e = from_place x (a * y) ys k (omega arith) e

-- each member of a list divides the product, whatever the list
member_divides : (x : ℕ) (xs : List ℕ) → Contains xs x → x ∣ fold (λ a d. a * d) 1 xs
member_divides x xs among = from_place x 1 xs among.0 among.1 among.2

years_occur : (n : ℕ) → 1 ≤ n → n ≤ 20 → Contains divisors n
years_occur zero low high = absurd (omega arith)
years_occur (suc k) low high = (suc k, omega arith, get_or-range_with_len 1 20 k (suc k) (omega arith) ∙ omega arith)

-- a denominator that divides the common one
abbrev Divides : ℕ → Type 0
Divides d = (1 ≤ d) × (common / d * d ≡ common)

-- so does a power of ten that is not above the highest, times a divisor that occurs
divides_common : (ten d : ℕ) → ten ∣ 10000000000 → Contains divisors d → 1 ≤ ten * d → Divides (ten * d)
unfolding common
divides_common ten d tens among positive = (positive, div-mul_cancel (ten * d) (mul-dvd-mul ten d tens (member_divides d divisors among)))

whole : Divides 1
whole = divides_common 1 1 (dvd-mul_right 1 10000000000) (years_occur 1 (omega arith) (omega arith)) (omega arith)

thousandths : Divides 1000
thousandths = divides_common 1000 1 (dvd-mul_right 1000 10000000) (years_occur 1 (omega arith) (omega arith)) (omega arith)

fifteenths : Divides 15
fifteenths = divides_common 1 15 (dvd-mul_right 1 10000000000) (0, omega arith, refl) (omega arith)

by_row : (row : Option CropRow) (left : CropResidues) → 1 ≤ left.years → left.years ≤ 20 → Divides (residues_exact row left).denominator
by_row None left low high = whole
by_row (Some row) left low high = divides_common 10000000000 left.years (dvd_refl 10000000000) (years_occur left.years low high) (omega arith)

divides : (a : Activity) → range_fault a ≡ None → Divides (exact a).denominator
divides (Synthetic mass content) h = whole
divides (Manure m) h = whole
divides (Sludge mass content) h = thousandths
divides (Grazing herd) h = thousandths
divides (Residues left) h = by_row (row_of left.crop) left (grind (arith, nat_tests)) (grind (arith, nat_tests))
divides (Mineralised carbon) h = fifteenths
divides (Drained class area) h = whole
divides (Lime stone mass) h = whole
divides (Urea mass) h = whole

nearest_law : (n d : ℕ) → 1 ≤ d → Nearest n d (nearest n d)
nearest_law n d positive =
    let below = div-mul-le_self (2 * n + d) (2 * d) in
    let above = lt-div-mul-add {a = 2 * n + d} {b = 2 * d} (omega arith) in
    record { near = (omega arith, omega arith); upward = omega arith }

-- the law of rounding, with numerator and denominator multiplied by the same number
scaled : (n d g k : ℕ) → Nearest n d g → Within (k * d) (2 * (g * (k * d))) (2 * (n * k))
scaled n d g k law =
    let low = mul-le-mul_right k law.near.0 in
    let high = mul-le-mul_right k law.near.1 in
    (omega arith, omega arith)

common_positive : 0 < common
unfolding common
common_positive = omega arith

pub weighed : (a : Activity) → range_fault a ≡ None → Weighed a (grams_of a)
weighed a h =
    let n = (exact a).numerator in
    let d = (exact a).denominator in
    let shared : Divides d = divides a h in
    let law = nearest_law n d shared.0 in
    record {
      rounded = law;
      positive = common_positive;
      same_fraction = mul_assoc n (common / d) d ∙ ap (λ (z : ℕ). n * z) shared.1;
      half_gram = subst (λ (z : ℕ). Within z (2 * (grams_of a * z)) (2 * exact_shared a)) shared.1 (scaled n d (grams_of a) (common / d) law);
    }
