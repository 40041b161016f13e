use Rattle.std.proofs.Common.{◌≡◌, ℕ, ap, ◌∙◌, subst}
use Rattle.islands.specs.Standing.{IsPut, NodeEntries, node_at}
use Rattle.islands.proofs.StandingLemmas.{are_exchanged}
use Rattle.islands.proofs.thread_nodes.exchange.Goals as goal

pub returns-clause-exchanged : goal.returns-clause-exchanged
returns-clause-exchanged c =
    let m : c.node_of-m.result ≡ node_at c.args.node_entries.now.items c.args.a = c.node_of-m.ensures ∙ ap (λ (ps : NodeEntries). node_at ps c.args.a) c.deref.ensures.value in
    let n : c.node_of-n.result ≡ node_at c.args.node_entries.now.items c.args.b = c.node_of-n.ensures ∙ ap (λ (ps : NodeEntries). node_at ps c.args.b) c.deref-2.ensures.value in
    let F : ℕ → Type 0 = λ k. IsPut c.args.node_entries.now.items c.args.a k c.put.new.node_entries.items in
    let G : ℕ → Type 0 = λ k. IsPut c.put.new.node_entries.items c.args.b k c.put-2.new.node_entries.items in
    are_exchanged c.args.node_entries.now.items c.args.a c.args.b c.put.new.node_entries.items c.put-2.new.node_entries.items c.requires.inverse (subst F n c.put.ensures.put) (subst G m c.put-2.ensures.put)
