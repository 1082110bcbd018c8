use Rattle.std.proofs.Common.{Ok, subst}
use Rattle.factors.specs.declared.material.Material.TheVariants.{Synthetic, Organic, Residue, Mineralised, CattlePoultryPigs, SheepAndOthers}
use Rattle.factors.specs.declared.plot.PlotSet.{PlotSet}
use Rattle.factors.specs.Plot.{Both, Made, kept_for}
use Rattle.factors.proofs.Borne.{made}
use Rattle.factors.proofs.plot.PlotSet.over.Goals as goal

pub returns : goal.returns
returns c =
    let p : PlotSet = record {
      synthetic = c.both_waters.result;
      organic = c.both_waters-2.result;
      residue = c.both_waters-3.result;
      mineralised = c.both_waters-4.result;
      cattle_poultry_pigs = c.both_waters-5.result;
      sheep_and_others = c.both_waters-6.result;
    } in
    let fit = c.in_ok-trials.trials in
    subst (λ ts. Made ts (Ok p)) c.in_ok-trials.ensures.1 (made fit.trials.now p fit.fit (λ m.
    elim m as (λ m. Both fit.trials.now m (kept_for p m)) [
      | Synthetic ↦ c.both_waters.ensures
      | Organic ↦ c.both_waters-2.ensures
      | Residue ↦ c.both_waters-3.ensures
      | Mineralised ↦ c.both_waters-4.ensures
      | CattlePoultryPigs ↦ c.both_waters-5.ensures
      | SheepAndOthers ↦ c.both_waters-6.ensures
    ]))
