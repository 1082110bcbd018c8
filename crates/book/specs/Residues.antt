-- Residues as they are kept, in the words of residues as given.
use Rattle.std.specs.Prelude.{ℕ}
use Rattle.book.specs.declared.crops.CropRow.{CropRow}
use Rattle.book.specs.declared.entry.CropResidues.{CropResidues}

-- what a crop of this row leaves behind
abbrev pub left_by : CropRow → ℕ → ℕ → ℕ → ℕ → ℕ → CropResidues
left_by row harvest area burnt removed years = record {
  crop = row.code;
  harvest = harvest;
  area = area;
  burnt = burnt;
  removed = removed;
  years = years;
}
