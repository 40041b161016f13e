use Rattle.std.proofs.Common.{sym, subst, arith}
use Rattle.std.proofs.lemmas.Grind.{common_steps}
use Rattle.momenta.specs.ImpulseBounds.{AreStates}
use Rattle.world_core_base.proofs.GatherLaws.{are_states}
use Rattle.world_core_base.proofs.gather.ends_at.Goals as goal

pub returns-clause-value : goal.returns-clause-value
returns-clause-value c = grind (arith, common_steps)

pub returns-clause-states : goal.returns-clause-states
returns-clause-states c =
    subst AreStates (sym (returns-clause-value c)) (are_states c.args.states.now c.args.key c.requires.all_states c.requires.first c.requires.second)
