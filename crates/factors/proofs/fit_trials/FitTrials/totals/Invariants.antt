use Rattle.std.proofs.Common.{◌*◌, ◌≤◌, take}
use Rattle.factors.specs.Plot.{Adds}
use Rattle.factors.specs.Trials.{chosen}
use Rattle.factors.proofs.fit_trials.FitTrials.totals.Given as goal

-- the sums over the trials seen so far, which have not passed what so many values can reach
abbrev pub invariant-loop-trial : goal.invariant-loop-trial
invariant-loop-trial l =
    Adds (chosen l.material l.water (take l.trial-index l.self.trials.now)) l.sums
    × (l.sums.applied ≤ l.trial-index * 1000000000)
    × (l.sums.treated ≤ l.trial-index * 1000000000)
    × (l.sums.control ≤ l.trial-index * 1000000000)
