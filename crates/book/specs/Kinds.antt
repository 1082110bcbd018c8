-- What single kinds of activity ask, beside ranges.
use Rattle.std.specs.Prelude.{Bool, true, is_some, nat_le}
use Rattle.book.specs.declared.entry.Activity.{Activity}
use Rattle.book.specs.declared.entry.Activity.TheVariants.{Synthetic, Manure, Sludge, Grazing, Residues, Mineralised, Drained, Lime, Urea}
use Rattle.book.specs.Crops.{row_of}
use Rattle.book.specs.Manure.{unspread}

-- the crop has a row; other kinds have no crop
abbrev pub crop_known : Activity → Bool
crop_known (Synthetic mass content) = true
crop_known (Manure m) = true
crop_known (Sludge mass content) = true
crop_known (Grazing herd) = true
crop_known (Residues left) = is_some (row_of left.crop)
crop_known (Mineralised carbon) = true
crop_known (Drained class area) = true
crop_known (Lime stone mass) = true
crop_known (Urea mass) = true

-- the shares of manure add up to no more than the whole; other kinds have none
abbrev pub shares_fit : Activity → Bool
shares_fit (Synthetic mass content) = true
shares_fit (Manure m) = nat_le (unspread m) 1000
shares_fit (Sludge mass content) = true
shares_fit (Grazing herd) = true
shares_fit (Residues left) = true
shares_fit (Mineralised carbon) = true
shares_fit (Drained class area) = true
shares_fit (Lime stone mass) = true
shares_fit (Urea mass) = true
