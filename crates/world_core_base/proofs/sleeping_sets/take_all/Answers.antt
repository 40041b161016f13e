use Rattle.std.proofs.Common.{refl, ap, sym, ◌∙◌, List, ℕ, map, subst}
use Rattle.std.specs.Prelude.{Contains}
use Rattle.packed_sets.specs.Packs.{list_at}
use Rattle.packed_sets.proofs.ItemLaws.{none_in}
use Rattle.world_core_base.specs.Sleeping.{woken}
use Rattle.world_core_base.proofs.SleepingLaws.{all_woken, first_in, none_first, still_woken}
use Rattle.world_core_base.proofs.sleeping_sets.take_all.Goals as goal

pub loop-next-init : goal.loop-next-init
loop-next-init c = record { kept = c.requires; first = c.first-next.ensures; woken = refl; sets = refl }

pub take-requires-clause-there : goal.take-requires-clause-there
take-requires-clause-there c = first_in (list_at c.loop-next.sets.sets c.args.name) c.in-Some.id (sym c.in-Some.is ∙ c.loop-next.invariant.first)

pub loop-next-preserved : goal.loop-next-preserved
loop-next-preserved c =
    let there = first_in (list_at c.loop-next.sets.sets c.args.name) c.in-Some.id (sym c.in-Some.is ∙ c.loop-next.invariant.first) in
    record {
      kept = c.take.ensures.kept;
      first = c.first-next-in-Some.ensures;
      woken = ap (map (woken c.args.name)) c.take.ensures.names ∙ still_woken c.loop-next.names.items c.args.name c.in-Some.id (c.loop-next.invariant.kept.known c.in-Some.id c.args.name there) ∙ c.loop-next.invariant.woken;
      sets = c.take.ensures.sets ∙ c.loop-next.invariant.sets;
    }

pub returns-clause-names : goal.returns-clause-names
returns-clause-names c =
    let none = none_first (list_at c.loop-next.sets.sets c.args.name) (sym c.in_default.is ∙ c.loop-next.invariant.first) in
    sym (all_woken c.loop-next.names.items c.args.name (λ id e. none_in id (subst (λ (l : List ℕ). Contains l id) none (c.loop-next.invariant.kept.there id c.args.name e)))) ∙ c.loop-next.invariant.woken
