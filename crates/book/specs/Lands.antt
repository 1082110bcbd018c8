-- The lands, and their letters.
use Rattle.std.specs.Prelude.{◌≡◌, ℕ, List, [], ◌∷◌, Some, None, Ok, Err, Option, Result, ◌≢◌}
use Rattle.factors.specs.Lookup.{found}
use Rattle.factors.specs.declared.ground.Ground.{Ground}
use Rattle.factors.specs.declared.ground.Ground.TheVariants.{UnknownLand}
use Rattle.book.specs.declared.land.Land.{Land}
use Rattle.book.specs.declared.land.Land.TheVariants.{Forest, Cropland, Grassland, Wetlands, Settlements, Other}

-- F, C, G, W, S or O
abbrev pub land_letter : Land → ℕ
land_letter Forest = 70
land_letter Cropland = 67
land_letter Grassland = 71
land_letter Wetlands = 87
land_letter Settlements = 83
land_letter Other = 79

-- the six lands
abbrev pub all_lands : List Land
all_lands = Forest ∷ Cropland ∷ Grassland ∷ Wetlands ∷ Settlements ∷ Other ∷ []

-- the land with this letter
abbrev pub land_of : ℕ → Option Land
land_of c = found land_letter c all_lands

-- what reading a letter answers: the land that has this letter, or the ground of an unknown land where none has it
abbrev pub LandRead : ℕ → Result Land Ground → Type 0
LandRead c (Ok l) = (land_of c ≡ Some l) × (c ≡ land_letter l)
LandRead c (Err g) = (land_of c ≡ None) × ((l : Land) → c ≢ land_letter l) × (g ≡ UnknownLand)
