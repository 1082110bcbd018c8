-- The classes of drained organic soil, their numbers and names.
use Rattle.std.specs.Prelude.{◌≡◌, ℕ, List, [], ◌∷◌, codes, Some, None, Ok, Err, Option, Result, ◌≢◌}
use Rattle.factors.specs.Lookup.{found}
use Rattle.factors.specs.declared.ground.Ground.{Ground}
use Rattle.factors.specs.declared.ground.Ground.TheVariants.{FieldOutOfRange}
use Rattle.factors.specs.declared.drained.DrainedClass.{DrainedClass}
use Rattle.factors.specs.declared.drained.DrainedClass.TheVariants.{TemperateCropGrass, TropicalCropGrass, TemperateForestRich, TemperateForestPoor, TropicalForest}

-- the number that stands for a class in a line
abbrev pub class_number : DrainedClass → ℕ
class_number TemperateCropGrass = 1
class_number TropicalCropGrass = 2
class_number TemperateForestRich = 3
class_number TemperateForestPoor = 4
class_number TropicalForest = 5

-- the five classes, in the order of the numbers
abbrev pub all_classes : List DrainedClass
all_classes = TemperateCropGrass ∷ TropicalCropGrass ∷ TemperateForestRich ∷ TemperateForestPoor ∷ TropicalForest ∷ []

-- the class with this number
abbrev pub class_of : ℕ → Option DrainedClass
class_of n = found class_number n all_classes

-- what reading a number answers: the class with this number, or the ground of a field out of range, where no class has it
abbrev pub ClassRead : ℕ → Result DrainedClass Ground → Type 0
ClassRead n (Ok c) = (class_of n ≡ Some c) × (n ≡ class_number c)
ClassRead n (Err g) = (class_of n ≡ None) × ((c : DrainedClass) → n ≢ class_number c) × (g ≡ FieldOutOfRange)

-- a class of drained soil, in words
abbrev pub class_name : DrainedClass → List ℕ
class_name TemperateCropGrass = codes "temperate crop and grass"
class_name TropicalCropGrass = codes "tropical crop and grass"
class_name TemperateForestRich = codes "temperate forest, rich"
class_name TemperateForestPoor = codes "temperate forest, poor"
class_name TropicalForest = codes "tropical forest"
