use Rattle.std.proofs.Common.{ℕ, sym, ◌∙◌}
use Rattle.book.specs.Crops.{crop_rows}
use Rattle.book.specs.declared.crops.CropRow.{CropRow}
use Rattle.book.proofs.Found.{found_none, found_some}
use Rattle.book.proofs.crops.crop_row.Goals as goal

abbrev code_of : CropRow → ℕ
code_of r = r.code

pub returns-in_err-i-clause-row : goal.returns-in_err-i-clause-row
returns-in_err-i-clause-row c = c.from_residual.ensures ∙ sym (found_none code_of crop_rows c.args.code c.in_err-i.ensures)

pub returns-clause-row : goal.returns-clause-row
returns-clause-row c = sym (found_some code_of crop_rows c.args.code _ c.in_ok-i.i c.in_ok-i.ensures)
