use Rattle.std.proofs.Common.{sym, ◌∙◌}
use Rattle.factors.specs.Trials.{chosen}
use Rattle.factors.proofs.Borne.{answer_none, chosen_fit}
use Rattle.factors.proofs.fit_trials.FitTrials.direct.Goals as goal

pub returns-then-sums-eq0-clause-value : goal.returns-then-sums-eq0-clause-value
returns-then-sums-eq0-clause-value c =
    let m = c.args.material in
    let w = c.args.water in
    let fit = c.args.self.now in
    let ts = chosen m w fit.trials.now in
    c.direct_by_water.ensures ∙ answer_none m w ts (chosen_fit m w fit.trials.now fit.fit) (sym c.totals-sums.ensures.sums.applied_sum ∙ c.if-sums-eq0.true)
