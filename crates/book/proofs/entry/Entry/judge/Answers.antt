use Rattle.std.proofs.Common.{◌<◌, ◌≤◌, Err, rules}
use Rattle.book.specs.Grams.{grams_of, most_grams}
use Rattle.book.specs.Judge.{Judged}
use Rattle.book.proofs.Judging.{front_passes, refused_activity, refused_heavy, accepted, law_accepted, law}
use Rattle.book.proofs.entry.Entry.judge.Goals as goal

pub returns-then-not-holds-clause-law : goal.returns-then-not-holds-clause-law
returns-then-not-holds-clause-law c = law c.args.self.now (Err c.at.result) (search rules)

pub returns-in_err-land-clause-law : goal.returns-in_err-land-clause-law
returns-in_err-land-clause-law c = law c.args.self.now c.from_residual.result (search rules)

pub returns-in_err-site-clause-law : goal.returns-in_err-site-clause-law
returns-in_err-site-clause-law c = law c.args.self.now c.from_residual-in_err-site.result (search rules)

pub returns-in_err-activity : goal.returns-in_err-activity
returns-in_err-activity c =
    let e = c.args.self.now in
    let front = front_passes e c.in_ok-land.land c.in_ok-site.site (search rules) (search rules) (search rules) in
    let refused = refused_activity e c.in_err-activity.field-0.0 front c.in_err-activity.ensures in
    let answer : Judged e c.from_residual-in_err-activity.result = search rules in
    record { answer = answer; law = law e c.from_residual-in_err-activity.result answer }

pub returns-then-grams-gt-MOST_GRAMS-clause-law : goal.returns-then-grams-gt-MOST_GRAMS-clause-law
returns-then-grams-gt-MOST_GRAMS-clause-law c =
    let e = c.args.self.now in
    let front = front_passes e c.in_ok-land.land c.in_ok-site.site (search rules) (search rules) (search rules) in
    let heavy : most_grams < grams_of e.activity = search rules in
    let refused = refused_heavy e front c.in_ok-activity.ensures.0 heavy in
    law e (Err c.at-then-grams-gt-MOST_GRAMS.result) (search rules)

pub returns-clause-law : goal.returns-clause-law
returns-clause-law c =
    let e = c.args.self.now in
    let front = front_passes e c.in_ok-land.land c.in_ok-site.site (search rules) (search rules) (search rules) in
    let few : grams_of e.activity ≤ most_grams = search rules in
    law_accepted e c.grams-grams.result (accepted e front c.in_ok-activity.ensures.0 few) (search rules)
