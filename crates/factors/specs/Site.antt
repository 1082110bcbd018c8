-- The sites, and their letters.
use Rattle.std.specs.Prelude.{◌≡◌, ℕ, List, [], ◌∷◌, ◌++◌, Some, None, Ok, Err, Option, Result, ◌≢◌}
use Rattle.factors.specs.declared.ground.Ground.{Ground}
use Rattle.factors.specs.declared.ground.Ground.TheVariants.{UnknownSite}
use Rattle.factors.specs.declared.site.Site.{Site}
use Rattle.factors.specs.declared.site.Water.{Water}
use Rattle.factors.specs.declared.site.Water.TheVariants.{Flooded, NotFlooded}
use Rattle.factors.specs.declared.site.Climate.{Climate}
use Rattle.factors.specs.declared.site.Climate.TheVariants.{Wet, Dry}
use Rattle.factors.specs.declared.site.Leaching.{Leaching}
use Rattle.factors.specs.declared.site.Leaching.TheVariants.{Occurs, Absent}
use Rattle.factors.specs.Lookup.{found}

-- R or U
abbrev pub water_letter : Water → ℕ
water_letter Flooded = 82
water_letter NotFlooded = 85

-- W or D
abbrev pub climate_letter : Climate → ℕ
climate_letter Wet = 87
climate_letter Dry = 68

-- L or N
abbrev pub leaching_letter : Leaching → ℕ
leaching_letter Occurs = 76
leaching_letter Absent = 78

-- the three letters, in their order
abbrev pub site_letters : Site → List ℕ
site_letters s = water_letter s.water ∷ climate_letter s.climate ∷ leaching_letter s.leaching ∷ []

-- the four sites with a flood mark
abbrev pub sites_with : Water → List Site
sites_with w =
    record { water = w; climate = Wet; leaching = Occurs }
    ∷ record { water = w; climate = Wet; leaching = Absent }
    ∷ record { water = w; climate = Dry; leaching = Occurs }
    ∷ record { water = w; climate = Dry; leaching = Absent }
    ∷ []

-- the eight sites: U before R, W before D, L before N
abbrev pub all_sites : List Site
all_sites = sites_with NotFlooded ++ sites_with Flooded

-- the flood mark with this letter
abbrev pub water_of : ℕ → Option Water
water_of c = found water_letter c (Flooded ∷ NotFlooded ∷ [])

-- the climate with this letter
abbrev pub climate_of : ℕ → Option Climate
climate_of c = found climate_letter c (Wet ∷ Dry ∷ [])

-- the leaching mark with this letter
abbrev pub leaching_of : ℕ → Option Leaching
leaching_of c = found leaching_letter c (Occurs ∷ Absent ∷ [])

-- the site with these marks, if each is there
abbrev pub with_marks : Option Water → Option Climate → Option Leaching → Option Site
with_marks None c l = None
with_marks (Some w) None l = None
with_marks (Some w) (Some c) None = None
with_marks (Some w) (Some c) (Some l) = Some (record { water = w; climate = c; leaching = l })

-- the site with these letters
abbrev pub site_of : List ℕ → Option Site
site_of [] = None
site_of (w ∷ []) = None
site_of (w ∷ c ∷ []) = None
site_of (w ∷ c ∷ l ∷ []) = with_marks (water_of w) (climate_of c) (leaching_of l)
site_of (w ∷ c ∷ l ∷ x ∷ xs) = None

-- what reading letters answers: the site with these letters, or the ground of an unknown site, where no site has them
abbrev pub SiteRead : List ℕ → Result Site Ground → Type 0
SiteRead letters (Ok s) = (site_of letters ≡ Some s) × (letters ≡ site_letters s)
SiteRead letters (Err g) = (site_of letters ≡ None) × ((s : Site) → letters ≢ site_letters s) × (g ≡ UnknownSite)
