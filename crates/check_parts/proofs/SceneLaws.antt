-- In a scene all bodies may stir, and all slots are marked.
use Rattle.std.proofs.Common.{◌≡◌, ℕ, zero, suc, ◌+◌, ◌<◌, ◌≤◌, List, [], ◌∷◌, ◌++◌, length, take, get_or, Bool, true, false, cond, is_some, not, Option, Some, None, inl, refl, sym, ap, ◌∙◌, subst, arith}
use Rattle.std.specs.Prelude.{◌/◌, All, replicate}
use Rattle.std.specs.List.{Contains}
use Rattle.std.proofs.lemmas.List.{take_all}
use Rattle.std.proofs.lemmas.List.Elements.{All-filter, All-more}
use Rattle.fixed_geom.specs.declared.boxes.Box2.{Box2}
use Rattle.fixed_geom.specs.Boxes.{overlaps}
use Rattle.contacts_base.specs.declared.near.Proxy.{Proxy}
use Rattle.contacts_base.specs.declared.contact.ContactEntry.{ContactEntry}
use Rattle.contacts_base.specs.ContactLists.{AreContacts}
use Rattle.contacts_base.specs.Contacts.{contacts_without, has_slot}
use Rattle.contacts_base.specs.Keys.{id_number}
use Rattle.contacts_base.specs.Proxies.{IsProxy, IsProxyList, number_of}
use Rattle.contacts_base.specs.Surfaces.{IsSurface}
use Rattle.contacts_base.specs.declared.body_pair.BodyPair.{BodyPair}
use Rattle.contacts_base.specs.ByPairs.{contacts_between}
use Rattle.contacts.specs.Known.{IsKnown, IsPairKey, found}
use Rattle.contacts.specs.Fates.{AreWithin, moved_by, stirs_in}
use Rattle.contacts.proofs.ByPairsLaws.{contacts_by_codes-holds}
use Rattle.contacts.proofs.KnownLemmas.{IsPlace, all_known_after-holds, place_of}
use Rattle.contacts_base.proofs.Members.{contains_from_in, in_from_contains, in_left, in_right}
use Rattle.check_parts.specs.Scenes.{ArePairs, IsListed, IsShown}

-- ---- one more slot

listed_later : (slots more : List ℕ) (s : ℕ) (p : Proxy) → more ≡ slots ++ s ∷ [] → IsListed slots p → IsListed more p
listed_later slots more s p is h = (rw is (contains_from_in (slots ++ s ∷ []) p.id.slot (in_left p.id.slot slots (s ∷ []) (in_from_contains slots p.id.slot h.0))), h.1)

all_later : (ps : List Proxy) (slots more : List ℕ) (s : ℕ) → more ≡ slots ++ s ∷ [] → All (IsListed slots) ps → All (IsListed more) ps
all_later ps slots more s is h = λ k d lt. listed_later slots more s (get_or ps k d) is (h k d lt)

pub slot_step : (ps : List Proxy) (k : ℕ) (p d : Proxy) (s : ℕ) (slots more : List ℕ) → k < length ps → p ≡ get_or ps k d → s ≡ p.id.slot → s < 64 → more ≡ slots ++ s ∷ [] → All (IsListed slots) (take k ps) → All (IsListed more) (take (k + 1) ps)
slot_step ps k p d s slots more lt at is small added h =
    let here : IsListed more p = (rw added (contains_from_in (slots ++ s ∷ []) p.id.slot (in_right p.id.slot slots (s ∷ []) (inl (sym is)))), subst (λ (n : ℕ). n < 64) is small) in
    All-more (IsListed more) ps k d lt (all_later (take k ps) slots more s added h) (subst (IsListed more) at here)

pub all_listed : (ps : List Proxy) (k : ℕ) (slots : List ℕ) → length ps ≤ k → All (IsListed slots) (take k ps) → All (IsListed slots) ps
all_listed ps k slots h a = rw (take_all k ps h) at a

-- ---- what a scene promises

pub slot_of : (ps : List Proxy) (slots : List ℕ) (n : ℕ) (o : Option Proxy) → IsShown ps slots → found ps n ≡ o → stirs_in o ≡ true → Contains slots (n / 256)
slot_of ps slots n None shown f h = cc
slot_of ps slots n (Some p) shown f h =
    let at : IsPlace ps n p = place_of ps n p f in
    let proxy : IsProxy p = subst IsProxy at.is (shown.list.each at.i _ at.within) in
    let there : Contains slots p.id.slot = subst (λ (q : Proxy). Contains slots q.id.slot) at.is (shown.listed at.i _ at.within) in
    let slot : p.id.slot ≡ n / 256 = let named : number_of p ≡ n = at.number in omega (arith, proxy.index) in
    subst (λ (m : ℕ). Contains slots m) slot there

within_by : (ps : List Proxy) (marks : List Bool) (n : ℕ) (o : Option Proxy) → IsProxyList ps → length marks ≡ 64 → ((i : ℕ) (d : Proxy) → i < length ps → (get_or ps i d).id.slot < 64) → found ps n ≡ o → is_some o ≡ true → n / 256 < length marks
within_by ps marks n None list count small f h = cc
within_by ps marks n (Some p) list count small f h =
    let at : IsPlace ps n p = place_of ps n p f in
    let proxy : IsProxy p = subst IsProxy at.is (list.each at.i _ at.within) in
    let low : p.id.slot < 64 = subst (λ (q : Proxy). q.id.slot < 64) at.is (small at.i _ at.within) in
    let named : number_of p ≡ n = at.number in
    omega (arith, proxy.index)

replicated : (n k : ℕ) → get_or (replicate n true) k true ≡ true
replicated zero k = refl
replicated (suc n) zero = refl
replicated (suc n) (suc k) = replicated n k

replicated_length : (n : ℕ) → length (replicate n true) ≡ n
replicated_length zero = refl
replicated_length (suc n) = ap (λ (m : ℕ). suc m) (replicated_length n)

pub within_marks : (ps : List Proxy) (slots : List ℕ) (marks : List Bool) → IsProxyList ps → All (IsListed slots) ps → marks ≡ replicate 64 true → AreWithin marks ps
within_marks ps slots marks list all is = λ n h. within_by ps marks n (found ps n) list (ap (λ (l : List Bool). length l) is ∙ replicated_length 64) (λ i d lt. (all i d lt).1) refl h

all_moved : (m t : Bool) → m ≡ true → cond m true t ≡ false → ⊥
all_moved true t e h = cc
all_moved false t e h = cc

pub nothing_known : (marks : List Bool) (pairs : List BodyPair) (ps : List Proxy) (es : List ContactEntry) → marks ≡ replicate 64 true → ArePairs es → IsKnown (moved_by marks) pairs ps es
nothing_known marks pairs ps es is keys = record {
  keys = keys;
  still = λ k pair s. absurd (all_moved (moved_by marks (id_number k.first)) (moved_by marks (id_number k.second)) (ap (λ (l : List Bool). get_or l (id_number k.first / 256) true) is ∙ replicated 64 (id_number k.first / 256)) s);
}

pub pairs_after : (pairs : List BodyPair) (ps : List Proxy) (old now : List ContactEntry) → IsProxyList ps → now ≡ contacts_between pairs ps old → ArePairs now
pairs_after pairs ps old now list is = subst ArePairs (sym (is ∙ contacts_by_codes-holds pairs ps old list)) (all_known_after-holds pairs ps old list).keys

pub pairs_left : (slot : ℕ) (old now : List ContactEntry) → now ≡ contacts_without slot old → ArePairs old → ArePairs now
pairs_left slot old now is pairs = subst ArePairs (sym is) (All-filter (λ e. not (has_slot slot e)) (λ e. IsPairKey e.key) old pairs)

-- ---- the scene

pub shown_of : (ps qs : List Proxy) (slots : List ℕ) → qs ≡ ps → IsProxyList qs → All (IsListed slots) qs → IsShown ps slots
shown_of ps qs slots is list all = record {
  list = subst IsProxyList is list;
  listed = subst (λ (l : List Proxy). All (λ p. Contains slots p.id.slot) l) is (λ k d lt. (all k d lt).0);
}

pub within_shown : (ps qs : List Proxy) (slots : List ℕ) (marks : List Bool) → qs ≡ ps → IsProxyList qs → All (IsListed slots) qs → marks ≡ replicate 64 true → AreWithin marks ps
within_shown ps qs slots marks is list all are = within_marks ps slots marks (subst IsProxyList is list) (subst (λ (l : List Proxy). All (IsListed slots) l) is all) are

pub all_overlapping : (ps : List Proxy) (slots copied source before : List ℕ) (wanted : Box2) → before ≡ [] → source ≡ slots → copied ≡ before ++ source → IsShown ps slots → All (λ p. overlaps p.fat wanted ≡ true → Contains copied p.id.slot) ps
all_overlapping ps slots copied source before wanted b s is shown = λ k d lt on. rw (is, b, s) (shown.listed k d lt)

-- ---- one contact

pub one_contact : (e : ContactEntry) → IsSurface e.surface → AreContacts (e ∷ [])
one_contact e is = record {
  rising = λ i within. absurd (omega (arith, within));
  surfaces = first;
}
  where
    first : All (λ (x : ContactEntry). IsSurface x.surface) (e ∷ [])
    first zero d lt = is
    first (suc k) d lt = absurd (omega (arith, lt))
