use Rattle.std.proofs.Common.{◌≡◌, true, sym, ap, ◌∙◌, subst}
use Rattle.islands.specs.Labels.{label_at}
use Rattle.sleep_wake.specs.SleepPhase.{is_island}
use Rattle.sleep_wake.specs.Standing.{Standing}
use Rattle.sleep_wake.proofs.PhaseLemmas.{picked_is}
use Rattle.sleep_wake.proofs.sets.Sets.split_ready.Goals as goal

pub split-requires-clause-island : goal.split-requires-clause-island
split-requires-clause-island g c =
    let P : Standing g.row.C.Denot → Type 0 = λ v. is_island true c.in-Some.name (label_at v.acting.labels c.in-Some.name) ≡ true in
    subst P (sym c.pick_split.ensures.same) (picked_is c.args.self.now.acting.labels c.args.timers.now c.in-Some.name (sym c.pick_split.ensures.picked ∙ c.in-Some.is))

pub split-requires-clause-source : goal.split-requires-clause-source
split-requires-clause-source g c = c.requires.source ∙ sym (ap (λ (v : Standing g.row.C.Denot). v.acting.ties) c.pick_split.ensures.same)
