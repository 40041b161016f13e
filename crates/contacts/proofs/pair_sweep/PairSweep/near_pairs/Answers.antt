use Rattle.std.proofs.Common.{ℕ, List, sym, subst, arith}
use Rattle.std.proofs.lemmas.Grind.{common_steps}
use Rattle.contacts_base.specs.Proxies.{IsProxyList}
use Rattle.contacts.specs.Pairs.{ArePairs}
use Rattle.contacts.proofs.PairLemmas.{near_are_pairs}
use Rattle.contacts.proofs.pair_sweep.PairSweep.near_pairs.Goals as goal

pub returns-clause-value : goal.returns-clause-value
returns-clause-value c = grind (arith, common_steps)

pub returns-clause-pairs : goal.returns-clause-pairs
returns-clause-pairs c =
    let now = c.args.self.now in
    let list : IsProxyList now = rw (← c.self.view_is) c.self.invariant.list in
    subst (λ (codes : List ℕ). ArePairs now codes) (sym (returns-clause-value c)) (near_are_pairs now list)
