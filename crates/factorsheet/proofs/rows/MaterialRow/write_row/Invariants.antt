use Rattle.std.proofs.Common.{take}
use Rattle.std.specs.Fmt.{HasWritten, IsPlainFormatter}
use Rattle.std.specs.List.{flat_map}
use Rattle.factorsheet.specs.Sheet.{nitrogen_row}
use Rattle.factorsheet.proofs.rows.MaterialRow.write_row.Given as goal

abbrev pub invariant-loop-site : goal.invariant-loop-site
invariant-loop-site g l =
    IsPlainFormatter l.initial.f
    → HasWritten g.W.Write.write_str_gives l.initial.f (flat_map (nitrogen_row (g.F.FactorSet.table l.set) l.self) (take l.site-index l.site-items)) l.f
