use Rattle.std.proofs.Common.{◌+◌, ◌*◌, ◌≤◌, ap, ◌∙◌, arith}
use Rattle.factors.proofs.Partition.{parts_whole}
use Rattle.factors.proofs.set.FactorSet.partition.Goals as goal

pub returns-clause-whole : goal.returns-clause-whole
returns-clause-whole g c =
    let rule = (g.met.Self.FactorSet.lawful c.args.self.now).sum_rule c.args.material c.args.site in
    let within : c.from-volatilised.result + c.from-leached.result ≤ 1000 = omega (arith, c.volatilised.ensures, c.leached.ensures) in
    parts_whole c.from-grams.result c.from-volatilised.result c.from-leached.result within ∙ ap (λ n. 1000 * n) c.from-grams.ensures
