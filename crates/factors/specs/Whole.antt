-- No list of a small type misses a value: lemmas for the law of `Listed`, with their proofs.
use Rattle.std.specs.Prelude.{Contains, refl}
use Rattle.std.proofs.Common.{lit<}
use Rattle.factors.specs.declared.drained.DrainedClass.TheVariants.{TemperateCropGrass, TropicalCropGrass, TemperateForestRich, TemperateForestPoor, TropicalForest}
use Rattle.factors.specs.declared.drained.DrainedClass.{DrainedClass}
use Rattle.factors.specs.declared.material.CarbonMaterial.TheVariants.{Limestone, Dolomite, Urea}
use Rattle.factors.specs.declared.material.CarbonMaterial.{CarbonMaterial}
use Rattle.factors.specs.declared.material.Material.TheVariants.{Synthetic, Organic, Residue, Mineralised, CattlePoultryPigs, SheepAndOthers}
use Rattle.factors.specs.declared.material.Material.{Material}
use Rattle.factors.specs.declared.site.Climate.TheVariants.{Wet, Dry}
use Rattle.factors.specs.declared.site.Climate.{Climate}
use Rattle.factors.specs.declared.site.Leaching.TheVariants.{Occurs, Absent}
use Rattle.factors.specs.declared.site.Leaching.{Leaching}
use Rattle.factors.specs.declared.site.Site.{Site}
use Rattle.factors.specs.declared.site.Water.TheVariants.{Flooded, NotFlooded}
use Rattle.factors.specs.declared.site.Water.{Water}
use Rattle.factors.specs.Drained.{all_classes}
use Rattle.factors.specs.Materials.{all_materials, all_carbon_materials}
use Rattle.factors.specs.Site.{all_sites}

-- no nitrogen material is missing in the list
pub has_material : (m : Material) → Contains all_materials m
has_material Synthetic = (0, lit< tt, refl)
has_material Organic = (1, lit< tt, refl)
has_material Residue = (2, lit< tt, refl)
has_material Mineralised = (3, lit< tt, refl)
has_material CattlePoultryPigs = (4, lit< tt, refl)
has_material SheepAndOthers = (5, lit< tt, refl)

-- no carbon material is missing in the list
pub has_carbon_material : (m : CarbonMaterial) → Contains all_carbon_materials m
has_carbon_material Limestone = (0, lit< tt, refl)
has_carbon_material Dolomite = (1, lit< tt, refl)
has_carbon_material Urea = (2, lit< tt, refl)

-- no class is missing in the list
pub has_class : (c : DrainedClass) → Contains all_classes c
has_class TemperateCropGrass = (0, lit< tt, refl)
has_class TropicalCropGrass = (1, lit< tt, refl)
has_class TemperateForestRich = (2, lit< tt, refl)
has_class TemperateForestPoor = (3, lit< tt, refl)
has_class TropicalForest = (4, lit< tt, refl)

-- no site is missing, by its marks
has_marks : (w : Water) (c : Climate) (l : Leaching) → Contains all_sites (record { water = w; climate = c; leaching = l })
has_marks NotFlooded Wet Occurs = (0, lit< tt, refl)
has_marks NotFlooded Wet Absent = (1, lit< tt, refl)
has_marks NotFlooded Dry Occurs = (2, lit< tt, refl)
has_marks NotFlooded Dry Absent = (3, lit< tt, refl)
has_marks Flooded Wet Occurs = (4, lit< tt, refl)
has_marks Flooded Wet Absent = (5, lit< tt, refl)
has_marks Flooded Dry Occurs = (6, lit< tt, refl)
has_marks Flooded Dry Absent = (7, lit< tt, refl)

-- no site is missing in the list
pub has_site : (s : Site) → Contains all_sites s
has_site s = has_marks s.water s.climate s.leaching
