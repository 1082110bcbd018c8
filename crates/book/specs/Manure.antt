-- Managed manure.
use Rattle.std.specs.Prelude.{ℕ, ◌+◌}
use Rattle.book.specs.declared.entry.Manure.{Manure}

-- the thousandths that are not spread
abbrev pub unspread : Manure → ℕ
unspread m = m.feed + m.fuel + m.building
