-- The materials, their numbers and names.
use Rattle.std.specs.Prelude.{ℕ, List, [], ◌∷◌, codes}
use Rattle.factors.specs.declared.material.CarbonMaterial.{CarbonMaterial}
use Rattle.factors.specs.declared.material.CarbonMaterial.TheVariants.{Limestone, Dolomite, Urea}
use Rattle.factors.specs.declared.material.Material.{Material}
use Rattle.factors.specs.declared.material.Material.TheVariants.{Synthetic, Organic, Residue, Mineralised, CattlePoultryPigs, SheepAndOthers}

-- materials are told apart by their numbers
abbrev pub material_number : Material → ℕ
material_number Synthetic = 1
material_number Organic = 2
material_number Residue = 3
material_number Mineralised = 4
material_number CattlePoultryPigs = 5
material_number SheepAndOthers = 6

-- the six nitrogen materials, in the order of the numbers
abbrev pub all_materials : List Material
all_materials = Synthetic ∷ Organic ∷ Residue ∷ Mineralised ∷ CattlePoultryPigs ∷ SheepAndOthers ∷ []

-- the three carbon materials
abbrev pub all_carbon_materials : List CarbonMaterial
all_carbon_materials = Limestone ∷ Dolomite ∷ Urea ∷ []

-- a nitrogen material, in words
abbrev pub material_name : Material → List ℕ
material_name Synthetic = codes "synthetic"
material_name Organic = codes "organic"
material_name Residue = codes "residue"
material_name Mineralised = codes "mineralised"
material_name CattlePoultryPigs = codes "grazing cattle, poultry, pigs"
material_name SheepAndOthers = codes "grazing sheep and others"

-- a carbon material, in words
abbrev pub carbon_name : CarbonMaterial → List ℕ
carbon_name Limestone = codes "limestone"
carbon_name Dolomite = codes "dolomite"
carbon_name Urea = codes "urea"
