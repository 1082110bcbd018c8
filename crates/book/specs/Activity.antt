-- Activities as they are kept, and as they were given.
use Rattle.std.specs.Prelude.{◌≡◌, ◌<◌, ◌≤◌, Ok, Err, Result}
use Rattle.factors.specs.Drained.{class_number}
use Rattle.factors.specs.declared.ground.Ground.{Ground}
use Rattle.factors.specs.declared.ground.Ground.TheVariants.{SharesAboveWhole}
use Rattle.book.specs.declared.activity.LawfulActivity.{LawfulActivity}
use Rattle.book.specs.declared.activity.LawfulActivity.TheVariants as kept
use Rattle.book.specs.declared.entry.Activity.{Activity}
use Rattle.book.specs.declared.entry.Activity.TheVariants.{Synthetic, Manure, Sludge, Grazing, Residues, Mineralised, Drained, Lime, Urea}
use Rattle.book.specs.declared.entry.CropResidues.{CropResidues}
use Rattle.book.specs.declared.entry.Manure as given
use Rattle.book.specs.declared.manure.LawfulManure.{LawfulManure}
use Rattle.book.specs.declared.residues.LawfulResidues.{LawfulResidues}
use Rattle.book.specs.Manure.{unspread}
use Rattle.book.specs.Residues.{left_by}

-- kept residues in the words of residues as given
abbrev pub given_of : LawfulResidues → CropResidues
given_of k = left_by k.row k.harvest k.area k.burnt k.removed k.years

-- a kept activity in the words of one as given, which has no proofs in it
abbrev pub as_given : LawfulActivity → Activity
as_given (kept.Synthetic mass content) = Synthetic mass content
as_given (kept.Manure k) = Manure k.given
as_given (kept.Sludge mass content) = Sludge mass content
as_given (kept.Grazing herd) = Grazing herd
as_given (kept.Residues k) = Residues (given_of k)
as_given (kept.Mineralised carbon) = Mineralised carbon
as_given (kept.Drained class area) = Drained (class_number class) area
as_given (kept.Lime stone mass) = Lime stone mass
as_given (kept.Urea mass) = Urea mass

-- what taking manure in answers: the same amount, where its shares to feed, fuel and building are at most the whole, or the ground of shares
abbrev pub ManureRead : given.Manure → Result LawfulManure Ground → Type 0
ManureRead m (Ok k) = (unspread m ≤ 1000) × (k.given ≡ m)
ManureRead m (Err g) = (1000 < unspread m) × (g ≡ SharesAboveWhole)
