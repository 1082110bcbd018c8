-- What a factor set answers, and the limits that every set keeps.
use Rattle.std.specs.Prelude.{ℕ, ◌+◌, ◌-◌, ◌*◌, ◌≤◌}
use Rattle.factors.specs.declared.drained.DrainedClass.{DrainedClass}
use Rattle.factors.specs.declared.material.CarbonMaterial.{CarbonMaterial}
use Rattle.factors.specs.declared.material.Material.{Material}
use Rattle.factors.specs.declared.site.Site.{Site}

-- one number for each question and its arguments
pub record Table : Type 0 where
  -- ten-thousandths of the nitrogen
  pub direct : Material → Site → ℕ
  -- thousandths of the nitrogen
  pub volatilised : Material → Site → ℕ
  pub leached : Material → Site → ℕ
  -- ten-thousandths of the volatilised nitrogen
  pub redeposited : Site → ℕ
  -- ten-thousandths of the leached nitrogen
  pub runoff : ℕ
  -- grams of N2O-N per are
  pub drained : DrainedClass → ℕ
  -- thousandths of the mass
  pub carbon : CarbonMaterial → ℕ

-- every answer is within its limit, and no more nitrogen is lost than there was
pub record Lawful (t : Table) : Type 0 where
  pub direct_limit : (m : Material) (s : Site) → t.direct m s ≤ 1000
  pub volatilised_limit : (m : Material) (s : Site) → t.volatilised m s ≤ 1000
  pub leached_limit : (m : Material) (s : Site) → t.leached m s ≤ 1000
  pub sum_rule : (m : Material) (s : Site) → t.volatilised m s + t.leached m s ≤ 1000
  pub redeposited_limit : (s : Site) → t.redeposited s ≤ 1000
  pub runoff_limit : t.runoff ≤ 1000
  pub drained_limit : (c : DrainedClass) → t.drained c ≤ 500
  pub carbon_limit : (c : CarbonMaterial) → t.carbon c ≤ 1000

-- milligrams volatilised, leached and kept, of a mass in grams
abbrev pub partitioned : Table → Material → Site → ℕ → ℕ × ℕ × ℕ
partitioned t m s grams = (grams * t.volatilised m s, grams * t.leached m s, grams * (1000 - t.volatilised m s - t.leached m s))
