-- The contacts of pairs of shapes are those of the pairs' codes.
use Rattle.std.proofs.Common.{◌≡◌, ℕ, suc, ◌+◌, ◌<◌, ◌≤◌, ◌^◌, Bool, true, false, cond, not, List, [], ◌∷◌, ◌++◌, length, map, refl, sym, ap, ap₂, ◌∙◌, arith}
use Rattle.std.specs.Prelude.{filter}
use Rattle.std.proofs.lemmas.List.{map-append}
use Rattle.contacts_base.specs.declared.near.Proxy.{Proxy}
use Rattle.contacts_base.specs.declared.contact.ContactEntry.{ContactEntry}
use Rattle.contacts_base.specs.Near.{is_near}
use Rattle.contacts_base.specs.NearCodes.{near_codes, near_from, near_with, pair_code}
use Rattle.contacts_base.specs.declared.body_pair.BodyPair.{BodyPair}
use Rattle.contacts_base.specs.ByPairs.{contacts_between, near_pairs}
use Rattle.contacts.specs.ByCodes.{contacts_of, entry_at, allowed_codes, is_allowed, ContactsByCodes}
use Rattle.contacts.specs.Pairs.{first_place, proxy_at, second_place}
use Rattle.contacts.proofs.KnownLemmas.{code_places}
use Rattle.contacts.proofs.ProxyLemmas.{few}
use Rattle.contacts_base.specs.Changes.{entry_of}
use Rattle.contacts_base.specs.Forbidden.{is_forbidden}

-- the two shapes that a code names
abbrev pair_at : List Proxy → ℕ → Proxy × Proxy
pair_at ps code = (proxy_at ps (first_place code), proxy_at ps (second_place code))

-- a shape with each of these
abbrev each_with : Proxy → List Proxy → List (Proxy × Proxy)
each_with p qs = map (λ q. (p, q)) qs

-- ---- near pairs

-- the list has these shapes from a place on
abbrev AreFrom : List Proxy → ℕ → List Proxy → Type 0
AreFrom all from qs = (k place : ℕ) → place ≡ from + k → k < length qs → proxy_at all place ≡ proxy_at qs k

later : (all : List Proxy) (from : ℕ) (q : Proxy) (qs : List Proxy) → AreFrom all from (q ∷ qs) → AreFrom all (suc from) qs
later all from q qs at = λ k place e lt. at (suc k) place (omega (arith, e)) (omega (arith, lt))

named : (all : List Proxy) (i j : ℕ) (p q : Proxy) → j < 2 ^ 32 → proxy_at all i ≡ p → proxy_at all j ≡ q → pair_at all (pair_code i j) ≡ (p, q)
named all i j p q small a b =
    let places : (first_place (pair_code i j) ≡ i) × (second_place (pair_code i j) ≡ j) = code_places i j (pair_code i j) small refl in
    let first : proxy_at all (first_place (pair_code i j)) ≡ p = ap (proxy_at all) places.0 ∙ a in
    let second : proxy_at all (second_place (pair_code i j)) ≡ q = ap (proxy_at all) places.1 ∙ b in
    λ k. (first k, second k)

with_step : (all : List Proxy) (t : Bool) (p q : Proxy) (code : ℕ) (codes : List ℕ) (qs : List Proxy) → pair_at all code ≡ (p, q) → map (pair_at all) codes ≡ each_with p qs → map (pair_at all) (cond t (code ∷ codes) codes) ≡ each_with p (cond t (q ∷ qs) qs)
with_step all true p q code codes qs e h = λ k. e k ∷ h k
with_step all false p q code codes qs e h = h

with_names : (all : List Proxy) (p : Proxy) (i j : ℕ) (qs : List Proxy) → proxy_at all i ≡ p → AreFrom all j qs → j + length qs ≤ 2 ^ 32 → map (pair_at all) (near_with p i j qs) ≡ map (λ (other : Proxy). (p, other)) (filter (is_near p) qs)
with_names all p i j [] a at small = refl
with_names all p i j (q ∷ qs) a at small =
    let here : proxy_at all j ≡ q = at 0 j (omega arith) (omega arith) in
    with_step all (is_near p q) p q (pair_code i j) (near_with p i (suc j) qs) (filter (is_near p) qs) (named all i j p q (omega (arith, small)) a here)
    (with_names all p i (suc j) qs a (later all j q qs at) (omega (arith, small)))

from_names : (all : List Proxy) (i : ℕ) (ps : List Proxy) → AreFrom all i ps → i + length ps ≤ 2 ^ 32 → map (pair_at all) (near_from i ps) ≡ near_pairs ps
from_names all i [] at small = refl
from_names all i (p ∷ ps) at small =
    let here : proxy_at all i ≡ p = at 0 i (omega arith) (omega arith) in
    let first : map (pair_at all) (near_with p i (suc i) ps) ≡ map (λ (other : Proxy). (p, other)) (filter (is_near p) ps) = with_names all p i (suc i) ps here (later all i p ps at) (omega (arith, small)) in
    let rest : map (pair_at all) (near_from (suc i) ps) ≡ near_pairs ps = from_names all (suc i) ps (later all i p ps at) (omega (arith, small)) in
    map-append (pair_at all) (near_with p i (suc i) ps) (near_from (suc i) ps) ∙ ap₂ (λ (xs ys : List (Proxy × Proxy)). xs ++ ys) first rest

codes_name : (ps : List Proxy) → length ps ≤ 2 ^ 32 → map (pair_at ps) (near_codes ps) ≡ near_pairs ps
unfolding near_codes
codes_name ps small = from_names ps 0 ps (λ k place e lt. let same : place ≡ k = omega (arith, e) in ap (proxy_at ps) same) (omega (arith, small))

-- ---- their contacts

fused_step : (old : List ContactEntry) (ps : List Proxy) (code : ℕ) (t : Bool) (pairs : List (Proxy × Proxy)) (codes : List ℕ) → map (λ (pair : Proxy × Proxy). entry_of old pair.0 pair.1) pairs ≡ contacts_of old ps codes
    → map (λ (pair : Proxy × Proxy). entry_of old pair.0 pair.1) (cond t (pair_at ps code ∷ pairs) pairs) ≡ contacts_of old ps (cond t (code ∷ codes) codes)
fused_step old ps code true pairs codes h = ap (λ (es : List ContactEntry). entry_at old ps code ∷ es) h
fused_step old ps code false pairs codes h = h

fused : (forbidden : List BodyPair) (ps : List Proxy) (old : List ContactEntry) (codes : List ℕ) → map (λ (pair : Proxy × Proxy). entry_of old pair.0 pair.1) (filter (λ (pair : Proxy × Proxy). not (is_forbidden forbidden pair.0 pair.1)) (map (pair_at ps) codes)) ≡ contacts_of old ps (filter (is_allowed forbidden ps) codes)
fused forbidden ps old [] = refl
fused forbidden ps old (code ∷ codes) =
    fused_step old ps code (is_allowed forbidden ps code) (filter (λ (pair : Proxy × Proxy). not (is_forbidden forbidden pair.0 pair.1)) (map (pair_at ps) codes)) (filter (is_allowed forbidden ps) codes) (fused forbidden ps old codes)

-- so it is where the codes can tell the places of all shapes apart
by_codes : (forbidden : List BodyPair) (ps : List Proxy) (old : List ContactEntry) → length ps ≤ 2 ^ 32 → contacts_between forbidden ps old ≡ contacts_of old ps (allowed_codes forbidden ps)
unfolding contacts_between
by_codes forbidden ps old small =
    ap (λ (pairs : List (Proxy × Proxy)). map (λ (pair : Proxy × Proxy). entry_of old pair.0 pair.1) (filter (λ (pair : Proxy × Proxy). not (is_forbidden forbidden pair.0 pair.1)) pairs)) (sym (codes_name ps small))
    ∙ fused forbidden ps old (near_codes ps)

pub contacts_by_codes-holds : ContactsByCodes
contacts_by_codes-holds forbidden ps old list = by_codes forbidden ps old (let most = few ps list in omega (arith, most))
