use Rattle.std.proofs.Common.{arith}
use Rattle.loaded_text.proofs.SlotLaws.{body_more, bodies_end, no_body_yet}
use Rattle.loaded_text.proofs.body_slots.add_bodies.Goals as goal

pub loop-count-init : goal.loop-count-init
loop-count-init c = no_body_yet c.args.bodies.now _

pub loop-count-preserved : goal.loop-count-preserved
loop-count-preserved c = body_more c.loop-count.count c.args.bodies.now _ _ c.in_ok-slot.slot _ _ _ _ c.loop-count.invariant (c.in_ok-more.ensures.more c.if-not-more.false) c.in_ok-slot.ensures c.in_ok-keep_slot.ensures.slot_entries c.in_ok-keep_slot.ensures.bodies c.in_ok-keep_slot.ensures.memberships

pub returns-then-not-more : goal.returns-then-not-more
returns-then-not-more c = bodies_end c.args.lead.now c.loop-count.count c.args.bodies.now c.loop-count.bodies _ _ _ _ _ (omega (arith, c.loop-count-test.true)) c.in_ok-expect.ensures.taken c.in_ok-expect-2.ensures.taken c.loop-count.invariant (c.in_ok-more.ensures.end c.if-not-more.true)
