-- The ranges of an entry's numbers.
use Rattle.std.specs.Prelude.{ℕ, ◌+◌, Bool, not, ◌&&◌, List, [], ◌∷◌, is_some, position, Some, None, Ok, Err, Option, Result, nat_le}
use Rattle.std.specs.Option.{option_map}
use Rattle.factors.specs.Grounds.{refusal_on}
use Rattle.factors.specs.declared.ground.Ground.TheVariants.{FieldOutOfRange}
use Rattle.factors.specs.declared.ground.Refusal.{Refusal}
use Rattle.book.specs.declared.entry.Activity.{Activity}
use Rattle.book.specs.declared.entry.Activity.TheVariants.{Synthetic, Manure, Sludge, Grazing, Residues, Mineralised, Drained, Lime, Urea}
use Rattle.book.specs.declared.ranges.Range.{Range}

-- from the least to the greatest, both taken in
abbrev pub upto : ℕ → ℕ → Range
upto least greatest = record { least = least; greatest = greatest }

-- entry numbers
abbrev pub numbers : Range
numbers = upto 1 999999999

-- masses, harvests and soil carbon, in kg
abbrev pub kilograms : Range
kilograms = upto 1 10000000

-- areas
abbrev pub ares : Range
ares = upto 1 100000

-- shares, in thousandths
abbrev pub shares : Range
shares = upto 0 1000

-- shares, in hundredths
abbrev pub percents : Range
percents = upto 0 100

-- the place in a line at which the activity's numbers begin; a class letter or a crop code may stand before them
abbrev pub first_place : Activity → ℕ
first_place (Synthetic mass content) = 5
first_place (Manure m) = 5
first_place (Sludge mass content) = 5
first_place (Grazing herd) = 6
first_place (Residues left) = 6
first_place (Mineralised carbon) = 5
first_place (Drained class area) = 5
first_place (Lime stone mass) = 6
first_place (Urea mass) = 5

-- the activity's numbers in their order, each with its range
abbrev pub ranged : Activity → List (ℕ × Range)
ranged (Synthetic mass content) = (mass, kilograms) ∷ (content, upto 1 1000) ∷ []
ranged (Manure m) = (m.available, upto 1 1000000) ∷ (m.feed, shares) ∷ (m.fuel, shares) ∷ (m.building, shares) ∷ []
ranged (Sludge mass content) = (mass, kilograms) ∷ (content, upto 1 100000) ∷ []
ranged (Grazing herd) = (herd.heads, upto 1 1000000) ∷ (herd.grams_per_head, upto 1 500000) ∷ (herd.pasture, shares) ∷ []
ranged (Residues left) = (left.harvest, kilograms) ∷ (left.area, ares) ∷ (left.burnt, percents) ∷ (left.removed, percents) ∷ (left.years, upto 1 20) ∷ []
ranged (Mineralised carbon) = (carbon, kilograms) ∷ []
ranged (Drained class area) = (class, upto 1 5) ∷ (area, ares) ∷ []
ranged (Lime stone mass) = (mass, kilograms) ∷ []
ranged (Urea mass) = (mass, kilograms) ∷ []

-- a number is in a range
abbrev pub within : ℕ → Range → Bool
within n r = nat_le r.least n && nat_le n r.greatest

-- the place of the first number that is out of its range, where the first number stands at a place
abbrev pub outside : ℕ → List (ℕ × Range) → Option ℕ
outside place xs = option_map (λ i. place + i) (position (λ x. not (within x.0 x.1)) xs)

-- the place of the activity's first number that is out of its range
abbrev pub range_fault : Activity → Option ℕ
range_fault a = outside (first_place a) (ranged a)

-- all of the activity's numbers are in their ranges
abbrev pub in_ranges : Activity → Bool
in_ranges a = not (is_some (range_fault a))

-- what a check of ranges answers: done, or refused at the field that is out of its range
abbrev pub checked : Option ℕ → Result (Unit {0}) Refusal
checked None = Ok tt
checked (Some f) = Err (refusal_on FieldOutOfRange f)
