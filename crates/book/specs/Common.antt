-- Exact grams over one common denominator, and how far whole grams are from them.
use Rattle.std.specs.Prelude.{◌≡◌, ℕ, ◌*◌, ◌/◌, ◌<◌, List, ◌∷◌, fold}
use Rattle.std.specs.List.{range_with_len}
use Rattle.book.specs.declared.entry.Activity.{Activity}
use Rattle.book.specs.Grams.{exact}
use Rattle.book.specs.Nearest.{Within, Nearest}

-- the divisors of exact grams beside powers of ten: carbon to nitrogen in a soil, and the years over which residues are shared out
abbrev pub divisors : List ℕ
divisors = 15 ∷ range_with_len 1 20

-- one denominator for all exact grams, so that they can be added and compared as whole numbers: every divisor and the highest power of ten in the denominators, multiplied
unfoldable pub common : ℕ
common = 10000000000 * fold (λ a d. a * d) 1 divisors

-- an activity's exact grams over the common denominator
abbrev pub exact_shared : Activity → ℕ
exact_shared a = (exact a).numerator * (common / (exact a).denominator)

-- grams are the nearest to an activity's exact grams, and so at most half a gram from them, over the common denominator too
pub record Weighed (a : Activity) (grams : ℕ) : Type 0 where
  pub rounded : Nearest (exact a).numerator (exact a).denominator grams
  pub positive : 0 < common
  -- over the common denominator the fraction is the same
  pub same_fraction : exact_shared a * (exact a).denominator ≡ (exact a).numerator * common
  -- half of the common denominator is half a gram
  pub half_gram : Within common (2 * (grams * common)) (2 * exact_shared a)
