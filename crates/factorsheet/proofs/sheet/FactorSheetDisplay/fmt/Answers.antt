use Rattle.std.proofs.Common.{◌≡◌, true, refl}
use Rattle.std.proofs.Output.{has_written_append}
use Rattle.factorsheet.proofs.sheet.FactorSheetDisplay.fmt.Goals as goal

pub returns-clause-writes : goal.returns-clause-writes
returns-clause-writes g c = λ plain ok.
    let yes : true ≡ true = refl in
    let edition = rw c.EDITION-edition.ensures at (c.in_ok-writeln.ensures.writes plain yes) in
    let runoff = rw c.runoff-runoff.ensures at (c.in_ok-writeln-2.ensures.writes edition.plain yes) in
    let nitrogen = rw c.all.ensures at (c.in_ok-write_block.ensures runoff.plain yes) in
    let redeposited = rw c.all-2.ensures at (c.in_ok-write_block-2.ensures nitrogen.plain yes) in
    let drained = rw c.all-3.ensures at (c.in_ok-write_block-3.ensures redeposited.plain yes) in
    let carbon = rw c.all-4.ensures at (c.write_block-4.ensures drained.plain ok) in
    has_written_append _ _ _ _ _ _
    (has_written_append _ _ _ _ _ _
    (has_written_append _ _ _ _ _ _
    (has_written_append _ _ _ _ _ _
    (has_written_append _ _ _ _ _ _ edition runoff)
    nitrogen) redeposited) drained) carbon
