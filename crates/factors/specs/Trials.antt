-- Plot trials: which are fit, and what they add up to.
use Rattle.std.specs.Prelude.{ℕ, Bool, ◌&&◌, List, length, sum_by, filter, ◌==◌, nat_le}
use Rattle.std.specs.List.{list_all}
use Rattle.factors.specs.declared.material.Material.{Material}
use Rattle.factors.specs.declared.site.Water.{Water}
use Rattle.factors.specs.declared.trial.Trial.{Trial}
use Rattle.factors.specs.Materials.{material_number}
use Rattle.factors.specs.Site.{water_letter}

-- each value is in its range
abbrev pub trial_fits : Trial → Bool
trial_fits t = nat_le 1 t.applied && nat_le t.applied 1000000 && nat_le t.treated 1000000000 && nat_le t.control 1000000000

-- each trial fits
abbrev pub each_fits : List Trial → Bool
each_fits ts = list_all trial_fits ts

-- there are at most 64, and each fits
abbrev pub trials_fit : List Trial → Bool
trials_fit ts = nat_le (length ts) 64 && each_fits ts

-- a trial of this material and flood mark
abbrev pub is_of : Material → Water → Trial → Bool
is_of m w t = material_number t.material == material_number m && water_letter t.water == water_letter w

-- the trials of one material and flood mark
abbrev pub chosen : Material → Water → List Trial → List Trial
chosen m w ts = filter (is_of m w) ts

-- grams applied in all
abbrev pub applied_in : List Trial → ℕ
applied_in ts = sum_by (λ t. t.applied) ts

-- milligrams from the treated plots in all
abbrev pub treated_in : List Trial → ℕ
treated_in ts = sum_by (λ t. t.treated) ts

-- milligrams from the control plots in all
abbrev pub control_in : List Trial → ℕ
control_in ts = sum_by (λ t. t.control) ts
