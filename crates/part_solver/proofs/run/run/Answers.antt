use Rattle.std.proofs.Common.{◌≡◌, ℕ, ◌+◌, ◌*◌, ◌^◌, length, arith, refl, subst}
use Rattle.colour_solver.specs.States.{as_vector}
use Rattle.colour_solver.specs.ConstraintVisits.{constraint_bounced}
use Rattle.colour_solver.specs.declared.phase.Phase.TheVariants.{Bounce}
use Rattle.part_runs.specs.Runs.{pass_given, ran_stand, stand_of, ticks_stand, ticks_sums, visited}
use Rattle.part_solver.specs.Mail.{ArePosted}
use Rattle.part_solver.specs.Running.{IsStanding, mail_before, sums_of}
use Rattle.part_solver.proofs.PassSteps.{visited_reached}
use Rattle.part_solver.proofs.TickSteps.{gain_within, part_done, part_in_range, standing_first}
use Rattle.part_solver.proofs.run.run.Goals as goal

pub loop-tick-init : goal.loop-tick-init
loop-tick-init g c =
    let t = c.args.step.now in
    let k = c.args.number in
    record {
      standing = standing_first t k c.args.lists.now c.parts_can_run.ensures c.bodies_are_hidden.ensures c.know.ensures.can c.requires.walked;
      posted = record { outs_count = c.requires.rings.outs.count; ins_count = c.requires.rings.ins.count; outs = c.requires.rings.outs.each; ins = c.requires.rings.ins.each };
      sums = refl;
      small = record {
        gravity = record { x = omega arith; y = omega arith };
        immovable = record { x = omega arith; y = omega arith };
        clamp = record { x = omega arith; y = omega arith };
      };
    }

pub run_tick-outcome-requires-clause-part : goal.run_tick-outcome-requires-clause-part
run_tick-outcome-requires-clause-part g c = rw c.loop-tick.invariant.posted.outs_count c.requires.part

pub run_tick-outcome-requires-clause-due : goal.run_tick-outcome-requires-clause-due
run_tick-outcome-requires-clause-due g c = omega (arith, c.loop-tick-test.true, c.count-count.ensures)

pub run_tick-outcome-requires-clause-posted : goal.run_tick-outcome-requires-clause-posted
run_tick-outcome-requires-clause-posted g c = rw c.loop-tick.invariant.posted.outs_count c.loop-tick.invariant.posted

pub loop-tick-preserved : goal.loop-tick-preserved
loop-tick-preserved g c =
    let made = c.run_tick-outcome.ensures in
    let same = c.loop-tick.invariant.posted.outs_count in
    record { standing = made.standing; posted = rw same at made.posted; sums = made.sums; small = made.small }

pub pass_all-bounced-requires-clause-part : goal.pass_all-bounced-requires-clause-part
pass_all-bounced-requires-clause-part g c = rw c.loop-tick.invariant.posted.outs_count c.requires.part

pub pass_all-bounced-requires-clause-due : goal.pass_all-bounced-requires-clause-due
pass_all-bounced-requires-clause-due g c = c.count-count.ensures

pub pass_all-bounced-requires-clause-standing : goal.pass_all-bounced-requires-clause-standing
pass_all-bounced-requires-clause-standing g c =
    let t = c.args.step.now in
    let last : c.loop-tick.tick ≡ c.count-count.result = omega (arith, c.loop-tick-test.false, c.loop-tick.auto.tick-end) in
    subst (λ (n : ℕ). IsStanding t c.args.number (ticks_stand n t.gravity (stand_of t)) c.loop-tick.lists) last c.loop-tick.invariant.standing

pub pass_all-bounced-requires-clause-posted : goal.pass_all-bounced-requires-clause-posted
pass_all-bounced-requires-clause-posted g c =
    let t = c.args.step.now in
    let last : c.loop-tick.tick ≡ c.count-count.result = omega (arith, c.loop-tick-test.false, c.loop-tick.auto.tick-end) in
    rw c.loop-tick.invariant.posted.outs_count (subst (λ (n : ℕ). ArePosted t (length c.args.ports.now.outs) c.args.number (mail_before t n Bounce) c.loop-tick.ports) last c.loop-tick.invariant.posted)

pub add-requires-clause-first : goal.add-requires-clause-first
add-requires-clause-first g c =
    gain_within (c.loop-tick.tick * 2 ^ 86) (2 ^ 100) c.loop-tick.outcome.sums.immovable (omega (arith, c.loop-tick.auto.tick-end, c.count-count.ensures, c.know.ensures.count)) c.loop-tick.invariant.small.immovable

pub add-requires-clause-second : goal.add-requires-clause-second
add-requires-clause-second g c = gain_within (2 ^ 85) (2 ^ 100) c.pass_all-bounced.result.given (omega arith) c.pass_all-bounced.ensures.small

pub returns-clause-run : goal.returns-clause-run
returns-clause-run g c =
    let t = c.args.step.now in
    let k = c.args.number in
    let lists = c.pass_all-bounced.new.lists in
    let given = as_vector c.pass_all-bounced.result.given in
    let many = c.count-count.ensures in
    let last : c.loop-tick.tick ≡ t.count = omega (arith, c.loop-tick-test.false, c.loop-tick.auto.tick-end, many) in
    part_done t k lists c.loop-tick.outcome.sums _ given (subst (λ (n : ℕ). IsStanding t k (visited constraint_bounced (ticks_stand n t.gravity (stand_of t))) lists) many c.pass_all-bounced.ensures.standing)
    (subst (λ (n : ℕ). sums_of c.loop-tick.outcome.sums ≡ ticks_sums t k n) last c.loop-tick.invariant.sums)
    (subst (λ (n : ℕ). given ≡ pass_given t k constraint_bounced (ticks_stand n t.gravity (stand_of t))) many c.pass_all-bounced.ensures.given) refl c.add.ensures.sum refl

pub returns-clause-range : goal.returns-clause-range
returns-clause-range g c =
    let t = c.args.step.now in
    let k = c.args.number in
    let lists = c.pass_all-bounced.new.lists in
    part_in_range t k lists (subst (λ (n : ℕ). IsStanding t k (visited constraint_bounced (ticks_stand n t.gravity (stand_of t))) lists) c.count-count.ensures c.pass_all-bounced.ensures.standing)
    (c.parts_at_home.ensures t k (ran_stand t.count t.gravity (stand_of t)) (visited_reached c.visits_are_fair.ensures c.ticks_are_reached.ensures c.stands_are_reached.ensures t t.count Bounce)) c.know.ensures.can.courses

pub returns-clause-small : goal.returns-clause-small
returns-clause-small g c =
    let few = c.loop-tick.auto.tick-end in
    let many = c.count-count.ensures in
    let most = c.know.ensures.count in
    let known = c.loop-tick.invariant.small in
    record {
      gravity = gain_within (c.loop-tick.tick * 2 ^ 86) (2 ^ 90) c.loop-tick.outcome.sums.gravity (omega (arith, few, many, most)) known.gravity;
      immovable = gain_within (c.loop-tick.tick * 2 ^ 86 + 2 ^ 85) (2 ^ 90) c.add.result (omega (arith, few, many, most)) (c.add.ensures.small (c.loop-tick.tick * 2 ^ 86) (2 ^ 85) known.immovable c.pass_all-bounced.ensures.small);
      clamp = gain_within (c.loop-tick.tick * 2 ^ 86) (2 ^ 90) c.loop-tick.outcome.sums.clamp (omega (arith, few, many, most)) known.clamp;
    }
