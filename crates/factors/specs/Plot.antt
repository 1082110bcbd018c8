-- The plot set: direct factors that trials bear.
use Rattle.std.specs.Prelude.{◌≡◌, ℕ, ◌+◌, ◌-◌, ◌*◌, ◌/◌, ◌<◌, ◌≤◌, min, cond, List, [], ◌∷◌, Some, None, Ok, Err, Option, Result}
use Rattle.factors.specs.declared.by_water.ByWater.{ByWater}
use Rattle.factors.specs.declared.fit_trials.FitTrials.{FitTrials}
use Rattle.factors.specs.declared.ground.Refusal.{Refusal}
use Rattle.factors.specs.declared.ground.Ground.TheVariants.{UnfitTrials}
use Rattle.factors.specs.declared.material.Material.{Material}
use Rattle.factors.specs.declared.material.Material.TheVariants.{Synthetic, Organic, Residue, Mineralised, CattlePoultryPigs, SheepAndOthers}
use Rattle.factors.specs.declared.plot.PlotSet.{PlotSet}
use Rattle.factors.specs.declared.fit_trials.Totals.{Totals}
use Rattle.factors.specs.declared.site.Site.{Site}
use Rattle.factors.specs.declared.site.Water.{Water}
use Rattle.factors.specs.declared.site.Water.TheVariants.{Flooded, NotFlooded}
use Rattle.factors.specs.declared.trial.Trial.{Trial}
use Rattle.factors.specs.Grounds.{check_on, first_fault}
use Rattle.factors.specs.Ipcc2006.{table2006, direct2006}
use Rattle.factors.specs.Table.{Table}
use Rattle.factors.specs.Trials.{trials_fit, chosen, applied_in, treated_in, control_in}

-- the sums over these trials
pub record Adds (ts : List Trial) (sums : Totals) : Type 0 where
  pub applied_sum : sums.applied ≡ applied_in ts
  pub treated_sum : sums.treated ≡ treated_in ts
  pub control_sum : sums.control ≡ control_in ts

-- ten times the net milligrams over the grams applied, rounded down and at most 1,000; `-` stops at 0, so a negative net gives 0
abbrev pub measured : List Trial → ℕ
measured ts = min (10 * (treated_in ts - control_in ts) / applied_in ts) 1000

-- what the trials of one material and flood mark say, or the 2006 answer where there is none
abbrev pub answer : Material → Water → List Trial → ℕ
answer m w [] = direct2006 m w
answer m w (t ∷ ts) = measured (t ∷ ts)

-- these direct answers, and all else as in the 2006 set
abbrev pub with_direct : (Material → Site → ℕ) → Table
with_direct direct = record {
  direct = direct;
  volatilised = table2006.volatilised;
  leached = table2006.leached;
  redeposited = table2006.redeposited;
  runoff = table2006.runoff;
  drained = table2006.drained;
  carbon = table2006.carbon;
}

-- the table of a set over trials
abbrev pub plot_table : List Trial → Table
plot_table ts = with_direct (λ m s. answer m s.water (chosen m s.water ts))

-- k ten-thousandths of the nitrogen applied are no more than the treated plots gave off above the control plots
abbrev pub Borne : List Trial → ℕ → Type 0
Borne ts k = k * applied_in ts + 10 * control_in ts ≤ 10 * treated_in ts

-- n is the largest number of ten-thousandths up to 1,000 that the trials bear, or 0 where they bear none
pub record LargestBorne (ts : List Trial) (n : ℕ) : Type 0 where
  pub within : n ≤ 1000
  pub borne : 0 < n → Borne ts n
  pub largest : (k : ℕ) → k ≤ 1000 → Borne ts k → k ≤ n

-- the law of one direct answer
abbrev pub Answers : Material → Water → List Trial → ℕ → Type 0
Answers m w [] n = n ≡ direct2006 m w
Answers m w (t ∷ ts) n = LargestBorne (t ∷ ts) n

-- the law of all direct answers
abbrev pub DirectLaw : List Trial → Table → Type 0
DirectLaw ts table = (m : Material) (s : Site) → Answers m s.water (chosen m s.water ts) (table.direct m s)

-- why no set is made over these trials
abbrev pub plot_refusal : List Trial → Option Refusal
plot_refusal ts = first_fault (check_on UnfitTrials (cond (trials_fit ts) None (Some 0)) ∷ [])

-- what taking trials in for a set answers: these trials, or the refusal
abbrev pub Admits : List Trial → Result FitTrials Refusal → Type 0
Admits ts (Ok f) = (plot_refusal ts ≡ None) × (f.trials.now ≡ ts)
Admits ts (Err e) = plot_refusal ts ≡ Some e

-- what a set keeps for a material
abbrev pub kept_for : PlotSet → Material → ByWater
kept_for p Synthetic = p.synthetic
kept_for p Organic = p.organic
kept_for p Residue = p.residue
kept_for p Mineralised = p.mineralised
kept_for p CattlePoultryPigs = p.cattle_poultry_pigs
kept_for p SheepAndOthers = p.sheep_and_others

-- of a material's two direct answers, the one at a flood mark
abbrev pub at_water : ByWater → Water → ℕ
at_water b Flooded = b.flooded
at_water b NotFlooded = b.not_flooded

-- a material's two direct answers
pub record Both (ts : List Trial) (m : Material) (b : ByWater) : Type 0 where
  pub at_flooded : b.flooded ≡ answer m Flooded (chosen m Flooded ts)
  pub at_others : b.not_flooded ≡ answer m NotFlooded (chosen m NotFlooded ts)

-- the table that a set has
abbrev pub table_of : PlotSet → Table
table_of p = with_direct (λ m s. at_water (kept_for p m) s.water)

-- what making a set over trials answers
abbrev pub Made : List Trial → Result PlotSet Refusal → Type 0
Made ts (Ok p) = (plot_refusal ts ≡ None) × (table_of p ≡ plot_table ts) × DirectLaw ts (table_of p)
Made ts (Err e) = plot_refusal ts ≡ Some e
