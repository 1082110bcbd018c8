-- The nitrogen that an activity brings, in grams.
use Rattle.std.specs.Prelude.{ℕ, ◌+◌, ◌-◌, ◌*◌, Some, None, Option}
use Rattle.book.specs.declared.crops.CropRow.{CropRow}
use Rattle.book.specs.declared.entry.Activity.{Activity}
use Rattle.book.specs.declared.entry.Activity.TheVariants.{Synthetic, Manure, Sludge, Grazing, Residues, Mineralised, Drained, Lime, Urea}
use Rattle.book.specs.declared.entry.CropResidues.{CropResidues}
use Rattle.book.specs.declared.fraction.Fraction.{Fraction}
use Rattle.book.specs.Crops.{row_of}
use Rattle.book.specs.Manure.{unspread}
use Rattle.book.specs.Nearest.{nearest}

-- a fraction of whole numbers
pub record Ratio : Type 0 where
  pub numerator : ℕ
  pub denominator : ℕ

-- n / d
abbrev pub over : ℕ → ℕ → Ratio
over n d = record { numerator = n; denominator = d }

-- the ratio that a fraction of the code is
abbrev pub ratio : Fraction → Ratio
ratio f = over f.numerator f.denominator

-- dry residue above ground, in tenths of a gram
abbrev pub above_ground : CropRow → CropResidues → ℕ
above_ground row left = left.harvest * row.dry * row.slope + 1000 * row.intercept * left.area

-- nitrogen of the tops that are neither burnt nor removed, in ten-thousand-millionths of a gram
abbrev pub tops : CropRow → CropResidues → ℕ
tops row left = above_ground row left * row.tops_nitrogen * (10000 - left.burnt * row.combusted) * (100 - left.removed)

-- nitrogen of the roots, in millionths of a gram; they go by all that grows above ground, the harvest too
abbrev pub roots : CropRow → CropResidues → ℕ
roots row left = (above_ground row left + 100 * left.harvest * row.dry) * row.root_ratio * row.roots_nitrogen

-- tops and roots, shared out over the years between renewals; a crop without a row brings nothing
abbrev pub residues_exact : Option CropRow → CropResidues → Ratio
residues_exact None left = over 0 1
residues_exact (Some row) left = over (tops row left + 10000 * roots row left) (10000000000 * left.years)

-- the exact grams of an activity, as a fraction of whole numbers
abbrev pub exact : Activity → Ratio
exact (Synthetic mass content) = over (mass * content) 1
exact (Manure m) = over (m.available * (1000 - unspread m)) 1
exact (Sludge mass content) = over (mass * content) 1000
exact (Grazing herd) = over (herd.heads * herd.grams_per_head * herd.pasture) 1000
exact (Residues left) = residues_exact (row_of left.crop) left
exact (Mineralised carbon) = over (1000 * carbon) 15
exact (Drained class area) = over 0 1
exact (Lime stone mass) = over 0 1
exact (Urea mass) = over 0 1

-- an activity's grams
abbrev pub grams_of : Activity → ℕ
grams_of a = nearest (exact a).numerator (exact a).denominator

-- no entry may bring more
abbrev pub most_grams : ℕ
most_grams = 500000000
