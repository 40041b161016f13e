use Rattle.std.proofs.Common.{eqb}
use Rattle.std.proofs.lemmas.List.{length-map}
use Rattle.std.proofs.lemmas.List.Filters.{dedup_is}
use Rattle.contacts_base.specs.declared.near.Proxy.{Proxy}
use Rattle.contacts.proofs.ProxyLemmas.{few}
use Rattle.contacts.proofs.StripLemmas.{places_in}
use Rattle.contacts.proofs.SweepLemmas.{sweep_is_scan}
use Rattle.contacts.proofs.sweep.near_pairs.Goals as goal

pub list_starts-requires-clause-few : goal.list_starts-requires-clause-few
list_starts-requires-clause-few c =
    let as_long = length-map c.args.proxies.now (λ (p : Proxy). p.fat) in
    let most = few _ c.requires.list in
    rw (c.requires.boxes, as_long) most

pub sweep-requires-clause-few : goal.sweep-requires-clause-few
sweep-requires-clause-few c = few _ c.requires.list

pub list_dynamics-requires : goal.list_dynamics-requires
list_dynamics-requires c =
    let listed = rw c.requires.boxes at c.in_ok-list_starts.ensures.permutation in
    rw c.deref.ensures.value (places_in c.strip_bits-bits.result _ _ (few _ c.requires.list) listed)

pub sweep-requires-clause-starts : goal.sweep-requires-clause-starts
sweep-requires-clause-starts c =
    let listed = rw c.requires.boxes at c.in_ok-list_starts.ensures.permutation in
    rw c.deref-2.ensures.value (places_in c.strip_bits-bits.result _ _ (few _ c.requires.list) listed)

pub returns-clause-value : goal.returns-clause-value
returns-clause-value c =
    let listed = rw c.requires.boxes at c.in_ok-list_starts.ensures.permutation in
    let moved = rw (c.in_ok-sweep.ensures.pushed, c.clear.ensures.items, c.deref-2.ensures.value) at c.sort_unstable.ensures.permutation in
    sweep_is_scan c.strip_bits-bits.result c.args.proxies.now c.list_starts.new.starts.items _ _ (few _ c.requires.list) listed c.in_ok-list_starts.ensures.sorted moved c.sort_unstable.ensures.sorted (dedup_is eqb _ _ c.dedup.ensures.filtered)
