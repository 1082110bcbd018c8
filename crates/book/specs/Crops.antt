-- The table of crops.
use Rattle.std.specs.Prelude.{ℕ, ◌≤◌, List, [], ◌∷◌, IfSome, Option}
use Rattle.factors.specs.Lookup.{found}
use Rattle.book.specs.declared.crops.CropRow.{CropRow}

-- a row, in the order of the printed columns; the combusted share comes last
abbrev row : ℕ → ℕ → ℕ → ℕ → ℕ → ℕ → ℕ → ℕ → CropRow
row code dry slope intercept tops roots-to-tops roots combusted = record {
  code = code;
  dry = dry;
  slope = slope;
  intercept = intercept;
  tops_nitrogen = tops;
  root_ratio = roots-to-tops;
  roots_nitrogen = roots;
  combusted = combusted;
}

-- grains, maize, wheat, barley, soya, potatoes
abbrev pub crop_rows : List CropRow
crop_rows =
    row 1 88 109 88 6 22 9 80
    ∷ row 2 87 103 61 6 22 7 80
    ∷ row 3 89 151 52 6 24 9 90
    ∷ row 4 89 98 59 7 22 14 80
    ∷ row 5 91 93 135 8 19 8 80
    ∷ row 6 22 10 106 19 20 14 80
    ∷ []

-- the row with this code
abbrev pub row_of : ℕ → Option CropRow
row_of code = found (λ r. r.code) code crop_rows

-- no row has more combusted than there is
abbrev pub ShareLimit : Option CropRow → Type 0
ShareLimit r = IfSome r (λ row. row.combusted ≤ 100)
