use Rattle.sleep_wake.proofs.SourceLaws.{tells_now}
use Rattle.sleep_wake.proofs.sets.Sets.know_told.Goals as goal

pub returns : goal.returns
returns g c = tells_now g.C.ConstraintId.number (g.T.TieSource.names c.args.source.now) (g.T.TieSource.ties c.args.source.now) c.args.self.now.acting c.know_consistent.ensures c.requires.ties c.requires.names
