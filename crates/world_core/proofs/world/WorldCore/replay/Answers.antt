use Rattle.std.proofs.Common.{◌+◌}
use Rattle.world_rules.specs.Replay.{IsPartOf}
use Rattle.world_rules.proofs.ReplayLemmas.{exact, replay_more, answers_more, on_err}
use Rattle.world_core.proofs.world.WorldCore.replay.Goals as goal

pub returns-in_err-push-clause-err : goal.returns-in_err-push-clause-err
returns-in_err-push-clause-err c =
    let apply_changes = exact _ _ _ _ c.apply_one-answer.ensures.due (λ e. let known = c.if-is_want_of_memory.ensures.1 e in cc) in
    let part : IsPartOf c.args.self.now c.args.commands.now c.apply_one-answer.new.world = (c.loop-command.command-index + 1, replay_more _ _ _ c.args.commands.now c.loop-command.command-index c.command-item.result c.loop-command-test.true c.command-item.is c.loop-command.invariant.world apply_changes.world) in
    on_err _ _ part

pub loop-command-preserved : goal.loop-command-preserved
loop-command-preserved c =
    let apply_changes = exact _ _ _ _ c.apply_one-answer.ensures.due (λ e. let known = c.if-is_want_of_memory.ensures.1 e in cc) in
    record {
      world = replay_more _ _ _ c.args.commands.now c.loop-command.command-index c.command-item.result c.loop-command-test.true c.command-item.is c.loop-command.invariant.world apply_changes.world;
      grown = λ n small. c.apply_one-answer.ensures.grown n (c.loop-command.invariant.grown n small);
      answers = rw c.in_ok-push.ensures.items (answers_more _ _ c.args.commands.now c.loop-command.command-index c.command-item.result _ _ _ c.loop-command-test.true c.command-item.is apply_changes.world apply_changes.answer c.loop-command.invariant.answers);
    }
