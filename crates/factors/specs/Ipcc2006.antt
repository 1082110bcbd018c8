-- The default factors of the 2006 IPCC Guidelines, Volume 4, Chapter 11, Tables 11.1 and 11.3, with the carbon of lime and urea.
use Rattle.std.specs.Prelude.{ℕ}
use Rattle.factors.specs.declared.drained.DrainedClass.{DrainedClass}
use Rattle.factors.specs.declared.drained.DrainedClass.TheVariants.{TemperateCropGrass, TropicalCropGrass, TemperateForestRich, TemperateForestPoor, TropicalForest}
use Rattle.factors.specs.declared.material.CarbonMaterial.{CarbonMaterial}
use Rattle.factors.specs.declared.material.CarbonMaterial.TheVariants.{Limestone, Dolomite, Urea}
use Rattle.factors.specs.declared.material.Material.{Material}
use Rattle.factors.specs.declared.material.Material.TheVariants.{Synthetic, Organic, Residue, Mineralised, CattlePoultryPigs, SheepAndOthers}
use Rattle.factors.specs.declared.site.Leaching.{Leaching}
use Rattle.factors.specs.declared.site.Leaching.TheVariants.{Occurs, Absent}
use Rattle.factors.specs.declared.site.Water.{Water}
use Rattle.factors.specs.declared.site.Water.TheVariants.{Flooded, NotFlooded}
use Rattle.factors.specs.Table.{Table}

-- EF1 is 0.01, and EF1FR for flooded rice 0.003; EF3PRP is 0.02 and 0.01
abbrev pub direct2006 : Material → Water → ℕ
direct2006 Synthetic Flooded = 30
direct2006 Synthetic NotFlooded = 100
direct2006 Organic Flooded = 30
direct2006 Organic NotFlooded = 100
direct2006 Residue Flooded = 30
direct2006 Residue NotFlooded = 100
direct2006 Mineralised Flooded = 30
direct2006 Mineralised NotFlooded = 100
direct2006 CattlePoultryPigs Flooded = 200
direct2006 CattlePoultryPigs NotFlooded = 200
direct2006 SheepAndOthers Flooded = 100
direct2006 SheepAndOthers NotFlooded = 100

-- FracGASF is 0.10 and FracGASM 0.20; residues and mineralised nitrogen lose none
abbrev pub volatilised2006 : Material → ℕ
volatilised2006 Synthetic = 100
volatilised2006 Organic = 200
volatilised2006 Residue = 0
volatilised2006 Mineralised = 0
volatilised2006 CattlePoultryPigs = 200
volatilised2006 SheepAndOthers = 200

-- FracLEACH is 0.30 where leaching occurs
abbrev pub leached2006 : Leaching → ℕ
leached2006 Occurs = 300
leached2006 Absent = 0

-- EF2 is 8, 16, 0.6, 0.1 and 8 kg per hectare
abbrev pub drained2006 : DrainedClass → ℕ
drained2006 TemperateCropGrass = 80
drained2006 TropicalCropGrass = 160
drained2006 TemperateForestRich = 6
drained2006 TemperateForestPoor = 1
drained2006 TropicalForest = 80

-- 0.12 and 0.13 for lime, 0.20 for urea
abbrev pub carbon2006 : CarbonMaterial → ℕ
carbon2006 Limestone = 120
carbon2006 Dolomite = 130
carbon2006 Urea = 200

-- the whole table; EF4 is 0.010 and EF5 is 0.0075
abbrev pub table2006 : Table
table2006 = record {
  direct = λ m s. direct2006 m s.water;
  volatilised = λ m s. volatilised2006 m;
  leached = λ m s. leached2006 s.leaching;
  redeposited = λ s. 100;
  runoff = 75;
  drained = drained2006;
  carbon = carbon2006;
}
