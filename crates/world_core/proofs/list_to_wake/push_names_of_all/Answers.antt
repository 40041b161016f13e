use Rattle.std.proofs.Common.{subst, take, take_all}
use Rattle.std.proofs.lemmas.List.Elements.{All-more}
use Rattle.plain_world.specs.declared.constraint.Constraint.{Constraint}
use Rattle.graph_colours.specs.declared.member.Movers.{Movers}
use Rattle.sleep_wake.specs.declared.change.Change.{Change}
use Rattle.world_core.specs.Waking.{HasName, OfBoth, movers_in}
use Rattle.world_core.proofs.SleeperLaws.{names_kept}
use Rattle.world_core.proofs.list_to_wake.push_names_of_all.Goals as goal

pub loop-place-preserved : goal.loop-place-preserved
loop-place-preserved c =
    let labels = c.args.sets.now.acting.labels in
    All-more (λ (d : Change Constraint). OfBoth (HasName labels c.push_names.new.names.items) (movers_in d)) c.args.changes.now c.loop-place.place _ c.loop-place-test.true
    (names_kept labels (take c.loop-place.place c.args.changes.now) c.loop-place.names.items c.push_names.new.names.items c.in_ok-push_names.ensures.extended c.loop-place.invariant)
    (subst (λ (m : Movers). OfBoth (HasName labels c.push_names.new.names.items) m) c.movers_in.ensures c.in_ok-push_names.ensures.names)

pub returns-clause-names : goal.returns-clause-names
returns-clause-names c = rw (take_all c.loop-place.place c.args.changes.now c.loop-place-test.false) at c.loop-place.invariant
