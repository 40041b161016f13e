-- The friction and the restitution of each contact are in their ranges.
use Rattle.std.proofs.Common.{◌≡◌, ℕ, ◌*◌, ◌<◌, ◌≤◌, ◌==◌, Bool, true, false, cond, ℤ, pos, ◌*ℤ◌, ◌≤ℤ◌, unsigned_abs, List, [], ◌∷◌, length, Option, Some, None, refl, subst, arith}
use Rattle.std.specs.Int.{int_max}
use Rattle.std.specs.List.{All}
use Rattle.std.proofs.lemmas.Int.{ints}
use Rattle.std.proofs.lemmas.List.Elements.{All-head, All-tail, All-map, All-weaker}
use Rattle.fixed_geom.specs.Numbers.{root, isqrt}
use Rattle.fixed_geom.proofs.RootLemmas.{root_is, root_below}
use Rattle.fixed_geom.proofs.Sizes.{product_le}
use Rattle.contacts_base.specs.declared.limits.TheConstants.{MAX_FRICTION, MAX_RESTITUTION}
use Rattle.contacts_base.specs.declared.near.Proxy.{Proxy}
use Rattle.contacts_base.specs.declared.key.ContactKey.{ContactKey}
use Rattle.contacts_base.specs.declared.contact.ContactEntry.{ContactEntry}
use Rattle.contacts_base.specs.declared.surface.Surface.{Surface}
use Rattle.contacts_base.specs.Keys.{key_number}
use Rattle.contacts_base.specs.Surfaces.{IsSurface, mixed}
use Rattle.contacts_base.specs.Proxies.{IsProxy, IsProxyList}
use Rattle.contacts_base.specs.Contacts.{number_of, lookup}
use Rattle.contacts.specs.Pairs.{IsPair, ArePairs, proxy_at, no_proxy, first_place, second_place}
use Rattle.contacts_base.specs.Changes.{surface_with, entry_with, entry_of, key_of}
use Rattle.contacts.specs.ByCodes.{entry_at, contacts_of}

record IsSmall (n : ℕ) (z : ℤ) : Type 0 where
  pub low : pos 0 ≤ℤ z
  pub high : unsigned_abs z ≤ n

root_small : (a b : ℤ) → unsigned_abs a ≤ MAX_FRICTION → unsigned_abs b ≤ MAX_FRICTION → IsSmall MAX_FRICTION (isqrt (a *ℤ b))
unfolding isqrt
root_small a b h k =
    let n : ℕ = unsigned_abs (a *ℤ b) in
    let size : unsigned_abs (a *ℤ b) ≤ MAX_FRICTION * MAX_FRICTION = product_le a b MAX_FRICTION MAX_FRICTION h k in
    let r : root n ≤ MAX_FRICTION = root_below n (root n) MAX_FRICTION (root_is n).below (omega (arith, size)) in
    record { low = omega (arith, ints); high = r }

greater_small : (a b : ℤ) → pos 0 ≤ℤ a → unsigned_abs a ≤ MAX_RESTITUTION → unsigned_abs b ≤ MAX_RESTITUTION → pos 0 ≤ℤ b → IsSmall MAX_RESTITUTION (int_max a b)
greater_small a b l h k m = record { low = grind (arith, ints); high = grind (arith, ints) }

pub mixed_small : (a b : Surface) → IsSurface a → IsSurface b → IsSurface (mixed a b)
mixed_small a b h k =
    let f : IsSmall MAX_FRICTION (isqrt (a.friction *ℤ b.friction)) = root_small a.friction b.friction h.friction_small k.friction_small in
    let r : IsSmall MAX_RESTITUTION (int_max a.restitution b.restitution) = greater_small a.restitution b.restitution h.restitution h.restitution_small k.restitution_small k.restitution in
    record { friction = f.low; friction_small = f.high; restitution = r.low; restitution_small = r.high }

-- the surface of a contact that is found
found_if : (P : ContactEntry → Type 0) (t : Bool) (x e : ContactEntry) (rest : Option ContactEntry) → P x → (rest ≡ Some e → P e) → cond t (Some x) rest ≡ Some e → P e
found_if P true x e rest here later h = let is : x ≡ e = cc in subst P is here
found_if P false x e rest here later h = later h

found : (P : ContactEntry → Type 0) (es : List ContactEntry) (key : ContactKey) (e : ContactEntry) → All P es → lookup es key ≡ Some e → P e
found P [] key e all h = cc
found P (x ∷ xs) key e all h = found_if P (number_of x == key_number key) x e (lookup xs key) (All-head P x xs all) (found P xs key e (All-tail P x xs all)) h

kept_or_mixed : (old : Option ContactEntry) (p q : Proxy) → ((e : ContactEntry) → old ≡ Some e → IsSurface e.surface) → IsProxy p → IsProxy q → IsSurface (surface_with old p q)
kept_or_mixed None p q f hp hq = mixed_small p.surface q.surface hp.surface hq.surface
kept_or_mixed (Some e) p q f hp hq = f e refl

entry_surface : (old : List ContactEntry) (p q : Proxy) → All (λ e. IsSurface e.surface) old → IsProxy p → IsProxy q → IsSurface (entry_of old p q).surface
unfolding entry_of entry_with
entry_surface old p q all hp hq = kept_or_mixed (lookup old (key_of p q)) p q (λ e h. found (λ f. IsSurface f.surface) old (key_of p q) e all h) hp hq

pub surfaces_of : (old : List ContactEntry) (ps : List Proxy) (codes : List ℕ) → All (λ e. IsSurface e.surface) old → IsProxyList ps → ArePairs ps codes → All (λ e. IsSurface e.surface) (contacts_of old ps codes)
surfaces_of old ps codes all list pairs =
    let P : ContactEntry → Type 0 = λ e. IsSurface e.surface in
    All-map P (entry_at old ps) codes (All-weaker (IsPair ps) (λ code. P (entry_at old ps code)) (λ code is.
    let second : second_place code < length ps = is.within in
    let first : first_place code < length ps = omega (arith, is.before, second) in
    entry_surface old (proxy_at ps (first_place code)) (proxy_at ps (second_place code)) all (list.each (first_place code) no_proxy first) (list.each (second_place code) no_proxy second)) codes pairs.each)
