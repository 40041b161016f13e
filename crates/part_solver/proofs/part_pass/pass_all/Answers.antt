use Rattle.std.proofs.Common.{◌≡◌, ℕ, ◌+◌, ◌*◌, ◌^◌, length, arith, subst, ◌∙◌}
use Rattle.colour_solver.specs.States.{as_vector}
use Rattle.part_runs.specs.Runs.{pass_given}
use Rattle.part_runs.specs.Stages.{given_from}
use Rattle.part_solver.specs.Mail.{ArePosted}
use Rattle.part_solver.specs.Running.{IsBefore, mail_at, stand_at, visits}
use Rattle.part_solver.proofs.PassSteps.{before_first, given_first, given_last, given_next, posted_first, posted_last, stage_count, standing_last}
use Rattle.part_solver.proofs.TickSteps.{gain_within}
use Rattle.part_solver.proofs.part_pass.pass_all.Goals as goal

pub loop-index-init : goal.loop-index-init
loop-index-init g c =
    let t = c.args.step.now in
    let n = length c.args.ports.now.outs in
    let k = c.args.turn.number in
    let s = stand_at t c.args.turn.tick c.args.phase in
    record {
      before = before_first t k (visits c.args.phase) s c.args.lists.now c.requires.standing;
      posted = posted_first t n k c.args.turn.tick c.args.phase c.args.ports.now c.know_pass.ensures c.requires.posted;
      given = given_first t k (visits c.args.phase) s;
      small = record { x = omega arith; y = omega arith };
    }

pub loop-index-preserved : goal.loop-index-preserved
loop-index-preserved g c =
    let t = c.args.step.now in
    let k = c.args.turn.number in
    let f = visits c.args.phase in
    let s = stand_at t c.args.turn.tick c.args.phase in
    let i = c.loop-index.index in
    let known = c.loop-index.invariant in
    let made = c.pass_stage-made.ensures in
    let more = c.add-given.ensures.small (i * 2 ^ 78) (2 ^ 78) known.small made.small in
    record {
      before = made.before;
      posted = rw known.posted.outs_count at made.posted;
      given = given_next (as_vector c.loop-index.given) (as_vector c.pass_stage-made.result.given) (pass_given t k f s) (given_from t k f s i) (given_from t k f s (i + 1)) (as_vector c.add-given.result) known.given made.given c.add-given.ensures.sum;
      small = gain_within (i * 2 ^ 78 + 2 ^ 78) ((i + 1) * 2 ^ 78) c.add-given.result (omega arith) more;
    }

pub pass_stage-made-requires-clause-stage : goal.pass_stage-made-requires-clause-stage
pass_stage-made-requires-clause-stage g c =
    let many = stage_count c.args.step.now (length c.args.ports.now.outs) c.args.turn.number c.args.turn.tick c.args.phase c.args.lists.now c.know_pass.ensures c.requires.standing in
    omega (arith, many, c.colours-stages.ensures, c.loop-index-test.true)

pub add-given-requires-clause-first : goal.add-given-requires-clause-first
add-given-requires-clause-first g c =
    let many = stage_count c.args.step.now (length c.args.ports.now.outs) c.args.turn.number c.args.turn.tick c.args.phase c.args.lists.now c.know_pass.ensures c.requires.standing in
    let rows = c.know_pass.ensures.pass.rows in
    gain_within (c.loop-index.index * 2 ^ 78) (2 ^ 100) c.loop-index.given (omega (arith, many, rows, c.colours-stages.ensures, c.loop-index-test.true, c.know.ensures.colours)) c.loop-index.invariant.small

pub add-given-requires-clause-second : goal.add-given-requires-clause-second
add-given-requires-clause-second g c = gain_within (2 ^ 78) (2 ^ 100) c.pass_stage-made.result.given (omega arith) c.pass_stage-made.ensures.small

pub hand_on-waits-requires-clause-stage : goal.hand_on-waits-requires-clause-stage
hand_on-waits-requires-clause-stage g c =
    let many = stage_count c.args.step.now (length c.args.ports.now.outs) c.args.turn.number c.args.turn.tick c.args.phase c.args.lists.now c.know_pass.ensures c.requires.standing in
    let walks = c.know_pass.ensures.pass.walks in
    omega (arith, many, walks, c.colours-stages.ensures)

pub hand_on-waits-requires-clause-before : goal.hand_on-waits-requires-clause-before
hand_on-waits-requires-clause-before g c =
    let last : c.loop-index.index ≡ c.colours-stages.result = omega (arith, c.loop-index-test.false, c.loop-index.auto.index-end) in
    subst (λ (i : ℕ). IsBefore c.args.step.now c.args.turn.number (visits c.args.phase) (stand_at c.args.step.now c.args.turn.tick c.args.phase) i c.loop-index.lists) last c.loop-index.invariant.before

pub hand_on-waits-requires-clause-posted : goal.hand_on-waits-requires-clause-posted
hand_on-waits-requires-clause-posted g c =
    let last : c.loop-index.index ≡ c.colours-stages.result = omega (arith, c.loop-index-test.false, c.loop-index.auto.index-end) in
    let same : length c.loop-index.ports.outs ≡ length c.args.ports.now.outs = c.loop-index.invariant.posted.outs_count in
    rw same (subst (λ (i : ℕ). ArePosted c.args.step.now (length c.args.ports.now.outs) c.args.turn.number (mail_at c.args.step.now c.args.turn.tick c.args.phase i) c.loop-index.ports) last c.loop-index.invariant.posted)

pub returns-clause-standing : goal.returns-clause-standing
returns-clause-standing g c =
    let many = stage_count c.args.step.now (length c.args.ports.now.outs) c.args.turn.number c.args.turn.tick c.args.phase c.args.lists.now c.know_pass.ensures c.requires.standing in
    standing_last c.args.step.now (length c.args.ports.now.outs) c.args.turn.number c.args.turn.tick c.args.phase c.colours-stages.result c.hand_on-waits.new.lists c.know_pass.ensures (c.colours-stages.ensures ∙ many) c.hand_on-waits.ensures.handed

pub returns-clause-posted : goal.returns-clause-posted
returns-clause-posted g c =
    let many = stage_count c.args.step.now (length c.args.ports.now.outs) c.args.turn.number c.args.turn.tick c.args.phase c.args.lists.now c.know_pass.ensures c.requires.standing in
    let same : length c.loop-index.ports.outs ≡ length c.args.ports.now.outs = c.loop-index.invariant.posted.outs_count in
    posted_last c.args.step.now (length c.args.ports.now.outs) c.args.turn.number c.args.turn.tick c.args.phase c.colours-stages.result c.hand_on-waits.new.ports c.know_pass.ensures (c.colours-stages.ensures ∙ many) (rw same at c.hand_on-waits.ensures.posted)

pub returns-clause-given : goal.returns-clause-given
returns-clause-given g c =
    let many = stage_count c.args.step.now (length c.args.ports.now.outs) c.args.turn.number c.args.turn.tick c.args.phase c.args.lists.now c.know_pass.ensures c.requires.standing in
    let last : c.loop-index.index ≡ c.colours-stages.result = omega (arith, c.loop-index-test.false, c.loop-index.auto.index-end) in
    given_last c.args.step.now (length c.args.ports.now.outs) c.args.turn.number c.args.turn.tick c.args.phase c.loop-index.index (as_vector c.loop-index.given) c.know_pass.ensures (last ∙ c.colours-stages.ensures ∙ many) c.loop-index.invariant.given

pub returns-clause-small : goal.returns-clause-small
returns-clause-small g c =
    let many = stage_count c.args.step.now (length c.args.ports.now.outs) c.args.turn.number c.args.turn.tick c.args.phase c.args.lists.now c.know_pass.ensures c.requires.standing in
    let rows = c.know_pass.ensures.pass.rows in
    gain_within (c.loop-index.index * 2 ^ 78) (2 ^ 85) c.loop-index.given (omega (arith, many, rows, c.colours-stages.ensures, c.loop-index.auto.index-end, c.know.ensures.colours)) c.loop-index.invariant.small

pub pass_stage-made-requires-clause-part : goal.pass_stage-made-requires-clause-part
pass_stage-made-requires-clause-part g c = rw c.loop-index.invariant.posted.outs_count c.requires.part

pub pass_stage-made-requires-clause-posted : goal.pass_stage-made-requires-clause-posted
pass_stage-made-requires-clause-posted g c = rw c.loop-index.invariant.posted.outs_count c.loop-index.invariant.posted

pub hand_on-waits-requires-clause-part : goal.hand_on-waits-requires-clause-part
hand_on-waits-requires-clause-part g c = rw c.loop-index.invariant.posted.outs_count c.requires.part
