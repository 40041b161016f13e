use Rattle.std.proofs.Common.{refl}
use Rattle.world_lock.proofs.shared.SharedWorld.close.Goals as goal

pub returns-then-not-has_all-clause-one_is_missing : goal.returns-then-not-has_all-clause-one_is_missing
returns-then-not-has_all-clause-one_is_missing g c = (rw (c.seats.ensures, c.as_slice.ensures.value) at c.if-not-has_all.ensures.missing) refl

pub returns-clause-all_are_there : goal.returns-clause-all_are_there
returns-clause-all_are_there g c = (rw (c.seats.ensures, c.as_slice.ensures.value) at c.if-not-has_all.ensures.all) refl
