-- What trials bear, and the table that a set over them has.
use Rattle.std.proofs.Common.{◌≡◌, ℕ, ◌-◌, ◌*◌, ◌/◌, ◌<◌, ◌≤◌, true, leb, List, [], ◌∷◌, length, All, Ok, sym, refl, ap, subst, mul-le-mul_right, le-div_iff_mul-le, arith}
use mathlib.Core.Path.{fun_ext}
use native.Mathlib.Nat.{min-le_left, min-le_right, le-min}
use Rattle.std.proofs.lemmas.Bool.{and_parts}
use Rattle.std.proofs.lemmas.Bool.Decides.{nat_tests}
use Rattle.std.proofs.lemmas.List.Elements.{All-filter}
use Rattle.std.proofs.lemmas.List.Recursion.{and_at}
use Rattle.std.proofs.lemmas.List.Sums.{get_or-le-sum_by}
use Rattle.factors.specs.declared.by_water.ByWater.{ByWater}
use Rattle.factors.specs.declared.material.Material.{Material}
use Rattle.factors.specs.declared.plot.PlotSet.{PlotSet}
use Rattle.factors.specs.declared.site.Site.{Site}
use Rattle.factors.specs.declared.site.Water.{Water}
use Rattle.factors.specs.declared.site.Water.TheVariants.{Flooded, NotFlooded}
use Rattle.factors.specs.declared.trial.Trial.{Trial}
use Rattle.factors.specs.Ipcc2006.{direct2006}
use Rattle.factors.specs.Plot.{measured, answer, with_direct, kept_for, at_water, LargestBorne, Answers, Both, Made}
use Rattle.factors.specs.Trials.{trial_fits, each_fits, trials_fit, is_of, chosen, applied_in, treated_in, control_in}

-- the quotient of what is borne is the largest number that is
quotient_borne : (ts : List Trial) → 0 < applied_in ts → LargestBorne ts (measured ts)
quotient_borne ts some =
    let q : ℕ = 10 * (treated_in ts - control_in ts) / applied_in ts in
    record {
      within = min-le_right q 1000;
      borne = λ h.
          let n : ℕ = measured ts in
          let le : n * applied_in ts ≤ 10 * (treated_in ts - control_in ts) = (le-div_iff_mul-le some).0 (min-le_left q 1000) in
          let more : 1 * applied_in ts ≤ n * applied_in ts = mul-le-mul_right (applied_in ts) h in
          omega arith;
      largest = λ k h b. le-min ((le-div_iff_mul-le some).1 (omega arith)) h;
    }

-- each chosen trial is fit
pub chosen_fit : (m : Material) (w : Water) (ts : List Trial) → trials_fit ts ≡ true → All (λ t. trial_fits t ≡ true) (chosen m w ts)
chosen_fit m w ts fit =
    All-filter (is_of m w) (λ t. trial_fits t ≡ true) ts
    (λ i d h. and_at each_fits trial_fits refl (λ _ _. refl) ts i d h (and_parts (leb (length ts) 64) (each_fits ts) fit).1)

-- a fit trial has something applied, whatever others do
applied_positive : (t : Trial) (ts : List Trial) → trial_fits t ≡ true → 0 < applied_in (t ∷ ts)
applied_positive t ts fits =
    let some : 1 ≤ t.applied = grind (arith, nat_tests) in
    omega (arith, get_or-le-sum_by (λ t. t.applied) (t ∷ ts) 0 t (omega arith))

-- where nothing was applied there is no trial
pub answer_none : (m : Material) (w : Water) (ts : List Trial) → All (λ t. trial_fits t ≡ true) ts → applied_in ts ≡ 0 → direct2006 m w ≡ answer m w ts
answer_none m w [] each e = refl
answer_none m w (t ∷ ts) each e = absurd (omega (arith, applied_positive t ts (each 0 t (omega arith))))

answers : (m : Material) (w : Water) (ts : List Trial) → All (λ t. trial_fits t ≡ true) ts → Answers m w ts (answer m w ts)
answers m w [] each = refl
answers m w (t ∷ ts) each = quotient_borne (t ∷ ts) (applied_positive t ts (each 0 t (omega arith)))

at_both : (ts : List Trial) (m : Material) (b : ByWater) (w : Water) → Both ts m b → at_water b w ≡ answer m w (chosen m w ts)
at_both ts m b Flooded both = both.at_flooded
at_both ts m b NotFlooded both = both.at_others

pub made : (ts : List Trial) (p : PlotSet) → trials_fit ts ≡ true → ((m : Material) → Both ts m (kept_for p m)) → Made ts (Ok p)
made ts p fit both =
    let same : (m : Material) (s : Site) → at_water (kept_for p m) s.water ≡ answer m s.water (chosen m s.water ts) = λ m s. at_both ts m (kept_for p m) s.water (both m) in (
      simp fit,
      ap with_direct (fun_ext (λ m. fun_ext (λ s. same m s))),
      λ m s. subst (λ (n : ℕ). Answers m s.water (chosen m s.water ts) n) (sym (same m s)) (answers m s.water (chosen m s.water ts) (chosen_fit m s.water ts fit)),
    )
