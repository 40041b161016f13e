use Rattle.std.proofs.Common.{arith, ap}
use Rattle.world_file_base.specs.declared.saved.Membership.{Membership}
use Rattle.world_file.proofs.Alone.{all_alone, done_more, rest_more}
use Rattle.world_file.proofs.components.list_alone.Goals as goal

pub loop-slot-preserved : goal.loop-slot-preserved
loop-slot-preserved c = record {
  done = done_more c.membership_at.result.island c.loop-slot.islands.labels c.add_if.new.islands.labels c.args.memberships.now c.loop-slot.slot c.add_if.ensures.labels (ap (λ (m : Membership). m.island) c.membership_at.ensures)
      c.loop-slot.invariant.done c.loop-slot.invariant.rest;
  rest = rest_more c.membership_at.result.island c.loop-slot.islands.labels c.add_if.new.islands.labels c.loop-slot.slot c.add_if.ensures.labels c.loop-slot.invariant.rest;
  room = omega (arith, c.add_if.ensures.room, c.loop-slot.invariant.room);
}

pub returns-clause-alone : goal.returns-clause-alone
returns-clause-alone c = all_alone c.loop-slot.islands.labels c.args.memberships.now c.loop-slot.slot c.loop-slot-test.false c.loop-slot.invariant.done c.loop-slot.invariant.rest
