-- The text of a factor sheet.
use Rattle.std.specs.Prelude.{ℕ, List, [], ◌∷◌, ◌++◌, codes, decimal}
use Rattle.std.specs.List.{flat_map}
use Rattle.factors.specs.declared.drained.DrainedClass.{DrainedClass}
use Rattle.factors.specs.declared.material.CarbonMaterial.{CarbonMaterial}
use Rattle.factors.specs.declared.material.Material.{Material}
use Rattle.factors.specs.declared.site.Site.{Site}
use Rattle.factors.specs.Drained.{all_classes, class_number, class_name}
use Rattle.factors.specs.Materials.{all_materials, all_carbon_materials, material_number, material_name, carbon_name}
use Rattle.factors.specs.Site.{all_sites, site_letters}
use Rattle.factors.specs.Table.{Table}

-- fields parted by tabs and closed by a line feed
abbrev pub tabbed : List ℕ → List (List ℕ) → List ℕ
tabbed field [] = field ++ 10 ∷ []
tabbed field (next ∷ fields) = field ++ 9 ∷ tabbed next fields

-- a material's factors at a site
abbrev pub nitrogen_row : Table → Material → Site → List ℕ
nitrogen_row t m s = tabbed (decimal (material_number m)) (material_name m ∷ site_letters s ∷ decimal (t.direct m s) ∷ decimal (t.volatilised m s) ∷ decimal (t.leached m s) ∷ [])

-- a material's factors, site by site
abbrev pub nitrogen_rows : Table → Material → List ℕ
nitrogen_rows t m = flat_map (nitrogen_row t m) all_sites

-- a site's redeposited factor
abbrev pub redeposited_row : Table → Site → List ℕ
redeposited_row t s = tabbed (site_letters s) (decimal (t.redeposited s) ∷ [])

-- a class's drained factor
abbrev pub drained_row : Table → DrainedClass → List ℕ
drained_row t c = tabbed (decimal (class_number c)) (class_name c ∷ decimal (t.drained c) ∷ [])

-- a carbon factor
abbrev pub carbon_row : Table → CarbonMaterial → List ℕ
carbon_row t m = tabbed (carbon_name m) (decimal (t.carbon m) ∷ [])

-- a heading, and the rows under it
abbrev pub block : {X : Type 0} → List ℕ → (X → List ℕ) → List X → List ℕ
block heading row xs = heading ++ flat_map row xs

-- the heading over the nitrogen materials and sites, with the units
abbrev pub nitrogen_heading : List ℕ
nitrogen_heading = tabbed (codes "number") (codes "material" ∷ codes "site" ∷ codes "direct /10000" ∷ codes "volatilised /1000" ∷ codes "leached /1000" ∷ [])

-- the heading over the sites
abbrev pub redeposited_heading : List ℕ
redeposited_heading = tabbed (codes "site") (codes "redeposited /10000" ∷ [])

-- the heading over the classes of drained soil
abbrev pub drained_heading : List ℕ
drained_heading = tabbed (codes "class") (codes "drained soil" ∷ codes "g N2O-N per are" ∷ [])

-- the heading over the carbon materials
abbrev pub carbon_heading : List ℕ
carbon_heading = tabbed (codes "material") (codes "carbon /1000" ∷ [])

-- the edition, and the factor that depends on nothing
abbrev pub sheet_front : ℕ → Table → List ℕ
sheet_front edition t = tabbed (codes "edition") (decimal edition ∷ []) ++ tabbed (codes "runoff /10000") (decimal t.runoff ∷ [])

-- the whole sheet
abbrev pub sheet_text : ℕ → Table → List ℕ
sheet_text edition t =
    sheet_front edition t
    ++ block nitrogen_heading (nitrogen_rows t) all_materials
    ++ block redeposited_heading (redeposited_row t) all_sites
    ++ block drained_heading (drained_row t) all_classes
    ++ block carbon_heading (carbon_row t) all_carbon_materials
