-- The numbers of a list of shapes: they rise, so there are not many.
use Rattle.std.proofs.Common.{◌≡◌, ℕ, zero, suc, ◌+◌, ◌*◌, ◌<◌, ◌≤◌, List, [], ◌∷◌, ◌++◌, length, map, get_or, arith}
use Rattle.std.specs.List.{All}
use Rattle.std.specs.List.Sorted.{IsStrictlyIncreasing}
use Rattle.std.proofs.lemmas.List.{get_or-map, length-map, map-append}
use Rattle.std.proofs.lemmas.List.Kept.{AllPairs-from_increasing}
use Rattle.std.proofs.lemmas.List.Elements.{All-push}
use Rattle.shapes.specs.declared.limits.TheConstants.{MAX_SHAPES}
use Rattle.contacts_base.specs.declared.near.Proxy.{Proxy}
use Rattle.contacts_base.specs.Proxies.{IsProxy, IsProxyList, number_of}
use Rattle.contacts.specs.declared.strips.TheConstants.{PLACES}
use Rattle.contacts_base.proofs.Members.{Each}
use Rattle.contacts_base.proofs.Rising.{increasing_from_rising, rising_append, rising_from_increasing}

pub numbers_later : (ps : List Proxy) → IsStrictlyIncreasing (map number_of ps) → (i j : ℕ) (d : Proxy) → i < j → j < length ps → number_of (get_or ps i d) < number_of (get_or ps j d)
numbers_later ps h i j d lt lj =
    let n : length (map number_of ps) ≡ length ps = length-map ps number_of in
    let li : i < length ps = omega arith in
    let p : get_or (map number_of ps) i 0 < get_or (map number_of ps) j 0 = AllPairs-from_increasing _ h i j 0 lt (omega arith) in
    let a : get_or (map number_of ps) i 0 ≡ number_of (get_or ps i d) = get_or-map number_of ps i d 0 li in
    let b : get_or (map number_of ps) j 0 ≡ number_of (get_or ps j d) = get_or-map number_of ps j d 0 lj in
    omega arith

-- a shape's number without gaps
abbrev close_number : Proxy → ℕ
close_number p = p.id.slot * MAX_SHAPES + p.id.index

at_least : (ps : List Proxy) → IsProxyList ps → (k : ℕ) (d : Proxy) → k < length ps → k ≤ close_number (get_or ps k d)
at_least ps h zero d lt = omega arith
at_least ps h (suc k) d lt =
    let a : k ≤ close_number (get_or ps k d) = at_least ps h k d (omega arith) in
    let b : number_of (get_or ps k d) < number_of (get_or ps (suc k) d) = numbers_later ps h.rising k (suc k) d (omega arith) lt in
    let p : IsProxy (get_or ps k d) = h.each k d (omega arith) in
    let q : IsProxy (get_or ps (suc k) d) = h.each (suc k) d lt in
    omega (arith, p.index, q.index)

few_from : (ps : List Proxy) (k : ℕ) (d : Proxy) → IsProxyList ps → length ps ≡ suc k → length ps ≤ PLACES
few_from ps k d h e =
    let a : k ≤ close_number (get_or ps k d) = at_least ps h k d (omega arith) in
    let p : IsProxy (get_or ps k d) = h.each k d (omega arith) in
    omega (arith, p.slot, p.index)

pub few : (ps : List Proxy) → IsProxyList ps → length ps ≤ PLACES
few [] h = omega arith
few (p ∷ ps) h = few_from (p ∷ ps) (length ps) p h (omega arith)

below_all : (b : ℕ) (ps : List Proxy) → All (λ o. number_of o < b) ps → Each (λ n. n < b) (map number_of ps)
below_all b [] h = tt
below_all b (p ∷ ps) h = (h 0 p (omega arith), below_all b ps (λ k d lt. h (suc k) d (omega arith)))

-- one more shape, above all others
pub push_kept : (ps : List Proxy) (p : Proxy) → IsProxyList ps → IsProxy p → All (λ o. number_of o < number_of p) ps → IsProxyList (ps ++ p ∷ [])
push_kept ps p h is last = record {
  each = All-push IsProxy ps p h.each is;
  rising = rw map-append (increasing_from_rising (map number_of ps ++ number_of p ∷ []) (rising_append (number_of p) (map number_of ps) (number_of p ∷ []) (rising_from_increasing (map number_of ps) h.rising) (tt, tt) (below_all (number_of p) ps last) (omega arith, tt)));
}
