use Rattle.world_lock.proofs.Replaying.{begun}
use Rattle.world_lock.proofs.journalled.JournalledWorld.new.Goals as goal

pub invariant_of-result : goal.invariant_of-result
invariant_of-result c = rw (c.requires.opening, c.requires.journal) (begun c.args.world c.requires.sound)
