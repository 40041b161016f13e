-- The near pairs are pairs of the list.
use Rattle.std.proofs.Common.{◌≡◌, ℕ, ◌+◌, ◌<◌, ◌≤◌, List, length, arith}
use Rattle.contacts_base.specs.declared.near.Proxy.{Proxy}
use Rattle.contacts_base.specs.NearCodes.{pair_code, near_from, near_codes}
use Rattle.contacts_base.specs.Proxies.{IsProxyList}
use Rattle.contacts.specs.declared.strips.TheConstants.{PLACES}
use Rattle.contacts.specs.Pairs.{IsPair, ArePairs}
use Rattle.contacts_base.proofs.Members.{each_from, all_from_each}
use Rattle.contacts_base.proofs.Rising.{increasing_from_rising}
use Rattle.contacts.proofs.NearLemmas.{IsNearFrom, from_is, from_rises}
use Rattle.contacts.proofs.ProxyLemmas.{few}

pair_from : (ps : List Proxy) (code : ℕ) → length ps ≤ PLACES → IsNearFrom 0 ps code → IsPair ps code
pair_from ps code few h =
    let e : code ≡ pair_code (0 + h.i) (0 + h.j) = h.is in
    let b : h.i < h.j = h.before in
    let w : h.j < length ps = h.within in
    record { before = omega arith; within = omega arith }

pub near_are_pairs : (ps : List Proxy) → IsProxyList ps → ArePairs ps (near_codes ps)
unfolding near_codes
near_are_pairs ps h =
    let n : length ps ≤ PLACES = few ps h in
    record {
      each = all_from_each (IsPair ps) (near_from 0 ps) (each_from (IsPair ps) (near_from 0 ps) (λ c i. pair_from ps c n (from_is 0 ps c i)));
      rising = increasing_from_rising (near_from 0 ps) (from_rises 0 ps (omega arith));
    }
