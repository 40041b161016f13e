-- The links that are listed of an island are inside it.
use Rattle.std.proofs.Common.{ℕ, List, inl, sym, ap, ◌∙◌}
use Rattle.graph_colours.specs.declared.member.Member.{Member}
use Rattle.islands.specs.Links.{Linked}
use Rattle.islands.specs.Labels.{Labels, label_at, is_in}
use Rattle.islands.specs.Partition.{AreIslands, Inside}
use Rattle.sleep_wake.specs.Acting.{links_of}
use Rattle.sleep_wake.specs.SleepPhase.{edges_in}
use Rattle.sleep_wake.proofs.ListLemmas.{filter_in}

-- both ends of each are in the island
pub edges_inside : {C : Type 0} (labels : Labels) (name : ℕ) (ties : List (Member C)) → AreIslands (Linked (links_of ties)) labels → Inside labels name (edges_in labels name ties)
edges_inside labels name ties w a b h =
    let o = filter_in (λ e. is_in (label_at labels e.0) name) (links_of ties) (a, b) h in
    let t = w.together a b (inl o.0) in
    (o.1, ap (λ v. is_in v name) (t.2 ∙ sym t.1) ∙ o.1)
