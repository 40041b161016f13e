use Rattle.std.proofs.Common.{subst, sym}
use Rattle.world_desk.specs.Texts.{IsLoaded}
use Rattle.world_desk.proofs.desk.Desk.load.Goals as goal

pub returns-clause-loaded : goal.returns-clause-loaded
returns-clause-loaded c = subst (IsLoaded c.args.text.now) (sym c.with.ensures.world) c.in_ok-world.ensures.loaded
