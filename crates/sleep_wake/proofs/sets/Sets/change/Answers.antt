use Rattle.std.proofs.Common.{◌≤◌, ◌+◌, length, arith}
use Rattle.sleep_wake.proofs.sets.Sets.change.Goals as goal

pub begin_awake-requires-clause-can : goal.begin_awake-requires-clause-can
begin_awake-requires-clause-can g c = rw c.in-Begin.is at c.requires.can

pub begin_awake-requires-clause-room : goal.begin_awake-requires-clause-room
begin_awake-requires-clause-room g c = let room : length c.args.self.now.acting.ties + 1 ≤ c.args.self.now.room = rw c.in-Begin.is at c.requires.room in omega (arith, room)

pub returns-in-Begin-clause-acting : goal.returns-in-Begin-clause-acting
returns-in-Begin-clause-acting g c = rw c.in-Begin.is c.begin_awake.ensures.acting

pub end_awake-requires-clause-can : goal.end_awake-requires-clause-can
end_awake-requires-clause-can g c = rw c.in-End.is at c.requires.can

pub returns-in-End-clause-acting : goal.returns-in-End-clause-acting
returns-in-End-clause-acting g c = rw c.in-End.is c.end_awake.ensures.acting
