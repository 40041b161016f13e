use Rattle.std.proofs.Common.{◌≡◌, ◌++◌, take, drop}
use Rattle.world_core.specs.Grown.{GrowsByCalls}
use Rattle.world_rules.specs.Replay.{replay, answers_to}
use Rattle.world_core.proofs.world.WorldCore.replay.Given as goal

abbrev pub invariant-loop-command : goal.invariant-loop-command
invariant-loop-command l = record {
  world : l.self ≡ replay l.fn.self (take l.command-index l.commands);
  answers : l.answers.items ++ answers_to l.self (drop l.command-index l.commands) ≡ answers_to l.fn.self l.commands;
  grown : GrowsByCalls l.fn.self l.self;
}
