-- The contacts of a collide: those that stay, and those of the fresh pairs.
use Rattle.std.proofs.Common.{◌≡◌, ℕ, ◌<◌, List, [], ◌∷◌, length, map, filter, Bool, true, false, cond, not, Option, Some, None, ◌⊎◌, inl, inr, refl, sym, ap, ◌∙◌, subst, arith}
use Rattle.contacts_base.specs.declared.near.Proxy.{Proxy}
use Rattle.contacts_base.specs.declared.key.ShapeId.{ShapeId}
use Rattle.contacts_base.specs.declared.key.ContactKey.{ContactKey}
use Rattle.contacts_base.specs.declared.contact.ContactEntry.{ContactEntry}
use Rattle.contacts_base.specs.Keys.{id_number, key_number}
use Rattle.contacts_base.specs.Proxies.{IsProxyList, number_of}
use Rattle.contacts_base.specs.Contacts.{lookup, AreKeysRising, number_of as entry_number}
use Rattle.contacts_base.proofs.LookupLemmas.{lookup-here, lookup-later}
use Rattle.contacts_base.specs.declared.body_pair.BodyPair.{BodyPair}
use Rattle.contacts.specs.Pairs.{proxy_at, pair_key, first_place}
use Rattle.contacts_base.specs.Changes.{entry_of, entry_with, key_of}
use Rattle.contacts.specs.ByCodes.{entry_at, contacts_of, allowed_codes}
use Rattle.contacts.specs.Known.{found, near_key, has_key, IsPairKey, either_moved, IsKnown, stays, staying, is_fresh, fresh, code_number, again_of, again}
use Rattle.contacts_base.specs.Merge.{merged}
use Rattle.contacts_base.proofs.Members.{Each, IsIn, each_in}
use Rattle.contacts_base.proofs.Rising.{IsRising, rising_from_increasing}
use Rattle.contacts.proofs.ForbiddenLemmas.{allowed_are_pairs}
use Rattle.contacts.proofs.ChangeLemmas.{contacts_rise}
use Rattle.contacts.proofs.MergedMembers.{merged_has, merged_is, merged_rises, same_members}
use Rattle.contacts.proofs.KnownLemmas.{in_map, map_in, IsImage, in_filter, filter_in, found_at, IsNearKey, code_near, IsCodeOf, near_code, key_in, in_key, ids_same, number_of_entry, stays_as, stays_near, moved_if, each_from_all, IsAllowedFrom, in_codes}

-- ---- a part of a rising list rises, and so does a rising list evaluated anew

kept_above : (test : ContactEntry → Bool) (n : ℕ) (t : Bool) (e : ContactEntry) (es : List ContactEntry) → n < entry_number e → Each (λ m. n < m) (map entry_number es) → Each (λ m. n < m) (map entry_number (cond t (e ∷ es) es))
kept_above test n true e es lt a = (lt, a)
kept_above test n false e es lt a = a

filter_above : (test : ContactEntry → Bool) (n : ℕ) (es : List ContactEntry) → Each (λ m. n < m) (map entry_number es) → Each (λ m. n < m) (map entry_number (filter test es))
filter_above test n [] a = tt
filter_above test n (e ∷ es) a = kept_above test n (test e) e (filter test es) a.0 (filter_above test n es a.1)

kept_rises : (t : Bool) (e : ContactEntry) (es : List ContactEntry) → Each (λ m. entry_number e < m) (map entry_number es) → IsRising (map entry_number es) → IsRising (map entry_number (cond t (e ∷ es) es))
kept_rises true e es a r = (a, r)
kept_rises false e es a r = r

pub filter_rises : (test : ContactEntry → Bool) (es : List ContactEntry) → IsRising (map entry_number es) → IsRising (map entry_number (filter test es))
filter_rises test [] r = tt
filter_rises test (e ∷ es) r = kept_rises (test e) e (filter test es) (filter_above test (entry_number e) es r.0) (filter_rises test es r.1)

again_key_of : (e : ContactEntry) (o r : Option Proxy) → entry_number (again_of e o r) ≡ entry_number e
again_key_of e None r = refl
again_key_of e (Some p) None = refl
again_key_of e (Some p) (Some q) = refl

pub again_numbers : (ps : List Proxy) (es : List ContactEntry) → map entry_number (map (again ps) es) ≡ map entry_number es
again_numbers ps [] = refl
again_numbers ps (e ∷ es) = cc (again_key_of e (found ps (id_number e.key.first)) (found ps (id_number e.key.second)), again_numbers ps es)

-- ---- a contact evaluated in its place is that of its pair

abbrev shape_id : ℕ → ℕ → ShapeId
shape_id s n = record { slot = s; index = n }

pub id_by : (i j : ShapeId) → i.slot ≡ j.slot → i.index ≡ j.index → i ≡ j
id_by i j a b = ap (λ (s : ℕ). shape_id s i.index) a ∙ ap (λ (n : ℕ). shape_id j.slot n) b

abbrev contact_key : ShapeId → ShapeId → ContactKey
contact_key a b = record { first = a; second = b }

pub key_by : (k j : ContactKey) → k.first ≡ j.first → k.second ≡ j.second → k ≡ j
key_by k j a b = ap (λ (x : ShapeId). contact_key x k.second) a ∙ ap (λ (x : ShapeId). contact_key j.first x) b

id_of : (i j : ShapeId) → i.index < 256 → j.index < 256 → id_number i ≡ id_number j → i ≡ j
id_of i j a b e = let slot : i.slot ≡ j.slot = omega arith in let index : i.index ≡ j.index = omega arith in id_by i j slot index

pub key_from : (k j : ContactKey) → IsPairKey k → IsPairKey j → key_number k ≡ key_number j → k ≡ j
key_from k j a b e =
    let ids = ids_same k j a b e in
    let first : k.first ≡ j.first = id_of k.first j.first a.first_index b.first_index ids.0 in
    let second : k.second ≡ j.second = id_of k.second j.second a.second_index b.second_index ids.1 in
    key_by k j first second

number_differs : (e f : ContactEntry) (es : List ContactEntry) → Each (λ m. entry_number e < m) (map entry_number es) → IsIn f es → entry_number e ≡ entry_number f → ⊥
number_differs e f es a i q = let lt : entry_number e < entry_number f = each_in (λ m. entry_number e < m) (entry_number f) (map entry_number es) a (in_map entry_number f es i) in absurd (omega (arith, lt, q))

pub lookup_in : (es : List ContactEntry) (f : ContactEntry) → IsRising (map entry_number es) → IsIn f es → lookup es f.key ≡ Some f
lookup_in [] f r i = absurd i
lookup_in (e ∷ es) f r i =
    elim i [
      | inl p ↦ lookup-here e es f.key (ap entry_number (sym p)) ∙ ap (λ (x : ContactEntry). Some x) (sym p)
      | inr q ↦ lookup-later e es f.key (number_differs e f es r.0 q) ∙ lookup_in es f r.1 q
    ]

again_of_pair : (old : List ContactEntry) (f : ContactEntry) (p q : Proxy) → f.key ≡ key_of p q → lookup old f.key ≡ Some f → again_of f (Some p) (Some q) ≡ entry_of old p q
unfolding entry_of entry_with
again_of_pair old f p q k l = rw (← k, l) refl

again_at : (old : List ContactEntry) (ps : List Proxy) (f : ContactEntry) (i j : ℕ) → IsRising (map number_of ps) → i < length ps → j < length ps → f.key ≡ key_of (proxy_at ps i) (proxy_at ps j) → lookup old f.key ≡ Some f → again ps f ≡ entry_of old (proxy_at ps i) (proxy_at ps j)
again_at old ps f i j r wi wj k l =
    let a : found ps (id_number f.key.first) ≡ Some (proxy_at ps i) = ap (λ (x : ContactKey). found ps (id_number x.first)) k ∙ found_at ps i r wi in
    let b : found ps (id_number f.key.second) ≡ Some (proxy_at ps j) = ap (λ (x : ContactKey). found ps (id_number x.second)) k ∙ found_at ps j r wj in
    rw (a, b) (again_of_pair old f (proxy_at ps i) (proxy_at ps j) k l)

pub again_is : (old : List ContactEntry) (pairs : List BodyPair) (ps : List Proxy) (f : ContactEntry) (c : ℕ) → IsProxyList ps → IsRising (map entry_number old) → IsIn f old → IsPairKey f.key → IsIn c (allowed_codes pairs ps) → code_number ps c ≡ entry_number f → again ps f ≡ entry_at old ps c
again_is old pairs ps f c list rising among pair h same =
    let n : IsAllowedFrom pairs ps c = in_codes pairs ps c list h in
    let k : IsNearKey pairs ps (pair_key ps c) = code_near pairs ps c list h in
    let key : f.key ≡ pair_key ps c = key_from f.key (pair_key ps c) pair k.pair (sym same) in
    let here : f.key ≡ key_of (proxy_at ps n.i) (proxy_at ps n.j) = subst (λ (i : ℕ). f.key ≡ key_of (proxy_at ps i) (proxy_at ps n.j)) n.first (subst (λ (j : ℕ). f.key ≡ key_of (proxy_at ps (first_place c)) (proxy_at ps j)) n.second key) in
    let numbers : IsRising (map number_of ps) = rising_from_increasing (map number_of ps) list.rising in
    let first : n.i < length ps = omega (arith, n.before, n.within) in
    rw (n.first, n.second) (again_at old ps f n.i n.j numbers first n.within here (lookup_in old f rising among))

-- ---- the law

-- what is evaluated of a near pair is among the parts
by_contact : (moved : ℕ → Bool) (pairs : List BodyPair) (ps : List Proxy) (old : List ContactEntry) (c : ℕ) (t : Bool) → IsProxyList ps → IsRising (map entry_number old) → IsKnown moved pairs ps old → IsIn c (allowed_codes pairs ps) → has_key old (pair_key ps c) ≡ t → IsIn (entry_at old ps c) (contacts_of old ps (fresh moved pairs ps old)) ⊎ IsIn (entry_at old ps c) (map (again ps) (staying moved pairs ps old))
by_contact moved pairs ps old c true list rising known i h =
    let n : IsNearKey pairs ps (pair_key ps c) = code_near pairs ps c list i in
    let m : IsImage entry_number (code_number ps c) old = map_in entry_number (code_number ps c) old (key_in old (pair_key ps c) h) in
    let f : ContactEntry = m.from in
    let pair : IsPairKey f.key = each_in (λ (g : ContactEntry). IsPairKey g.key) f old (each_from_all old known.keys) m.among in
    let key : f.key ≡ pair_key ps c = key_from f.key (pair_key ps c) pair n.pair (sym m.is) in
    let near : near_key pairs ps f.key ≡ true = ap (near_key pairs ps) key ∙ n.near in
    let there : IsIn f (staying moved pairs ps old) = in_filter (stays moved pairs ps) f old m.among (stays_as moved pairs ps f near) in
    inr (subst (λ (e : ContactEntry). IsIn e (map (again ps) (staying moved pairs ps old))) (again_is old pairs ps f c list rising m.among pair i m.is) (in_map (again ps) f (staying moved pairs ps old) there))
by_contact moved pairs ps old c false list rising known i h =
    let n : IsNearKey pairs ps (pair_key ps c) = code_near pairs ps c list i in
    let gone : either_moved moved (pair_key ps c) ≡ true = moved_if (either_moved moved (pair_key ps c)) (λ s. sym n.near ∙ known.still (pair_key ps c) n.pair s ∙ h) in
    inl (in_map (entry_at old ps) c (fresh moved pairs ps old) (in_filter (is_fresh moved ps old) c (allowed_codes pairs ps) i (rw (gone, h) refl)))

-- a contact that stays is evaluated as its pair's
pub stays_is : (moved : ℕ → Bool) (pairs : List BodyPair) (ps : List Proxy) (old : List ContactEntry) (f : ContactEntry) → IsProxyList ps → IsRising (map entry_number old) → IsKnown moved pairs ps old → IsIn f old → stays moved pairs ps f ≡ true → IsIn (again ps f) (contacts_of old ps (allowed_codes pairs ps))
stays_is moved pairs ps old f list rising known i h =
    let p : IsPairKey f.key = each_in (λ (g : ContactEntry). IsPairKey g.key) f old (each_from_all old known.keys) i in
    let near : near_key pairs ps f.key ≡ true = stays_near moved pairs ps f (either_moved moved f.key) refl (λ s. known.still f.key p s ∙ in_key old f.key (in_map entry_number f old i)) h in
    let c : IsCodeOf pairs ps f.key = near_code pairs ps f.key list p near in
    subst (λ (e : ContactEntry). IsIn e (contacts_of old ps (allowed_codes pairs ps))) (sym (again_is old pairs ps f c.code list rising i p c.among c.number)) (in_map (entry_at old ps) c.code (allowed_codes pairs ps) c.among)

code_numbers : (old : List ContactEntry) (ps : List Proxy) (n : ℕ) (cs : List ℕ) → IsIn n (map entry_number (contacts_of old ps cs)) → IsImage (code_number ps) n cs
code_numbers old ps n cs i =
    let m : IsImage entry_number n (contacts_of old ps cs) = map_in entry_number n (contacts_of old ps cs) i in
    let l : IsImage (entry_at old ps) m.from cs = map_in (entry_at old ps) m.from cs m.among in
    record { from = l.from; among = l.among; is = m.is ∙ ap entry_number l.is ∙ number_of_entry old ps l.from }

-- a fresh pair has no contact
pub fresh_apart : (moved : ℕ → Bool) (ps : List Proxy) (old : List ContactEntry) (c : ℕ) (s t : Bool) → has_key old (pair_key ps c) ≡ t → cond s (not t) false ≡ true → has_key old (pair_key ps c) ≡ false
fresh_apart moved ps old c true true h e = cc
fresh_apart moved ps old c false true h e = cc
fresh_apart moved ps old c s false h e = h

-- nor is one among those that there were
pub fresh_not_among : (moved : ℕ → Bool) (pairs : List BodyPair) (ps : List Proxy) (old : List ContactEntry) (n : ℕ) → IsIn n (map entry_number (contacts_of old ps (fresh moved pairs ps old))) → IsIn n (map entry_number old) → ⊥
fresh_not_among moved pairs ps old n i j =
    let m : IsImage (code_number ps) n (fresh moved pairs ps old) = code_numbers old ps n (fresh moved pairs ps old) i in
    let f = filter_in (is_fresh moved ps old) m.from (allowed_codes pairs ps) m.among in
    let none : has_key old (pair_key ps m.from) ≡ false = fresh_apart moved ps old m.from (either_moved moved (pair_key ps m.from)) (has_key old (pair_key ps m.from)) refl f.1 in
    let some : has_key old (pair_key ps m.from) ≡ true = in_key old (pair_key ps m.from) (subst (λ (k : ℕ). IsIn k (map entry_number old)) m.is j) in
    let wrong : false ≡ true = sym none ∙ some in
    cc

pub staying_among : (moved : ℕ → Bool) (pairs : List BodyPair) (ps : List Proxy) (es : List ContactEntry) (n : ℕ) → IsIn n (map entry_number (map (again ps) (staying moved pairs ps es))) → IsIn n (map entry_number es)
staying_among moved pairs ps es n j =
    let l : IsImage entry_number n (staying moved pairs ps es) = map_in entry_number n (staying moved pairs ps es) (subst (λ (ns : List ℕ). IsIn n ns) (again_numbers ps (staying moved pairs ps es)) j) in
    let g = filter_in (stays moved pairs ps) l.from es l.among in
    subst (λ (k : ℕ). IsIn k (map entry_number es)) (sym l.is) (in_map entry_number l.from es g.0)

pub apart : (moved : ℕ → Bool) (pairs : List BodyPair) (ps : List Proxy) (old : List ContactEntry) (n : ℕ) → IsIn n (map entry_number (contacts_of old ps (fresh moved pairs ps old))) → IsIn n (map entry_number (map (again ps) (staying moved pairs ps old))) → ⊥
apart moved pairs ps old n i j = fresh_not_among moved pairs ps old n i (staying_among moved pairs ps old n j)

-- codes that are picked out of the near ones
picked_above : (old : List ContactEntry) (ps : List Proxy) (test : ℕ → Bool) (n : ℕ) (t : Bool) (c : ℕ) (cs : List ℕ) → n < entry_number (entry_at old ps c) → Each (λ m. n < m) (map entry_number (contacts_of old ps cs)) → Each (λ m. n < m) (map entry_number (contacts_of old ps (cond t (c ∷ cs) cs)))
picked_above old ps test n true c cs lt a = (lt, a)
picked_above old ps test n false c cs lt a = a

codes_above : (old : List ContactEntry) (ps : List Proxy) (test : ℕ → Bool) (n : ℕ) (cs : List ℕ) → Each (λ m. n < m) (map entry_number (contacts_of old ps cs)) → Each (λ m. n < m) (map entry_number (contacts_of old ps (filter test cs)))
codes_above old ps test n [] a = tt
codes_above old ps test n (c ∷ cs) a = picked_above old ps test n (test c) c (filter test cs) a.0 (codes_above old ps test n cs a.1)

picked_rises : (old : List ContactEntry) (ps : List Proxy) (t : Bool) (c : ℕ) (cs : List ℕ) → Each (λ m. entry_number (entry_at old ps c) < m) (map entry_number (contacts_of old ps cs)) → IsRising (map entry_number (contacts_of old ps cs)) → IsRising (map entry_number (contacts_of old ps (cond t (c ∷ cs) cs)))
picked_rises old ps true c cs a r = (a, r)
picked_rises old ps false c cs a r = r

pub codes_rise : (old : List ContactEntry) (ps : List Proxy) (test : ℕ → Bool) (cs : List ℕ) → IsRising (map entry_number (contacts_of old ps cs)) → IsRising (map entry_number (contacts_of old ps (filter test cs)))
codes_rise old ps test [] r = tt
codes_rise old ps test (c ∷ cs) r = picked_rises old ps (test c) c (filter test cs) (codes_above old ps test (entry_number (entry_at old ps c)) cs r.0) (codes_rise old ps test cs r.1)

pub contacts_in_parts-holds : (moved : ℕ → Bool) (pairs : List BodyPair) (ps : List Proxy) (old : List ContactEntry) → IsProxyList ps → AreKeysRising old → IsKnown moved pairs ps old → contacts_of old ps (allowed_codes pairs ps) ≡ merged entry_number (contacts_of old ps (fresh moved pairs ps old)) (map (again ps) (staying moved pairs ps old))
contacts_in_parts-holds moved pairs ps old list keys known =
    let rising : IsRising (map entry_number old) = rising_from_increasing (map entry_number old) keys in
    let all : IsRising (map entry_number (contacts_of old ps (allowed_codes pairs ps))) = rising_from_increasing (map entry_number (contacts_of old ps (allowed_codes pairs ps))) (contacts_rise old ps (allowed_codes pairs ps) list (allowed_are_pairs pairs ps list)) in
    let left : IsRising (map entry_number (map (again ps) (staying moved pairs ps old))) = subst (λ (ns : List ℕ). IsRising ns) (sym (again_numbers ps (staying moved pairs ps old))) (filter_rises (stays moved pairs ps) old rising) in
    let right : IsRising (map entry_number (contacts_of old ps (fresh moved pairs ps old))) = codes_rise old ps (is_fresh moved ps old) (allowed_codes pairs ps) all in
    same_members entry_number (contacts_of old ps (allowed_codes pairs ps)) (merged entry_number (contacts_of old ps (fresh moved pairs ps old)) (map (again ps) (staying moved pairs ps old))) all
    (merged_rises entry_number (contacts_of old ps (fresh moved pairs ps old)) (map (again ps) (staying moved pairs ps old)) right left (apart moved pairs ps old))
    (λ e i.
    let m : IsImage (entry_at old ps) e (allowed_codes pairs ps) = map_in (entry_at old ps) e (allowed_codes pairs ps) i in
    merged_has entry_number e (contacts_of old ps (fresh moved pairs ps old)) (map (again ps) (staying moved pairs ps old))
    (subst (λ (f : ContactEntry). IsIn f (contacts_of old ps (fresh moved pairs ps old)) ⊎ IsIn f (map (again ps) (staying moved pairs ps old))) (sym m.is) (by_contact moved pairs ps old m.from (has_key old (pair_key ps m.from)) list rising known m.among refl)))
    (λ e i. elim (merged_is entry_number e (contacts_of old ps (fresh moved pairs ps old)) (map (again ps) (staying moved pairs ps old)) i) [
      | inr a ↦
          let m : IsImage (again ps) e (staying moved pairs ps old) = map_in (again ps) e (staying moved pairs ps old) a in
          let f = filter_in (stays moved pairs ps) m.from old m.among in
          subst (λ (g : ContactEntry). IsIn g (contacts_of old ps (allowed_codes pairs ps))) (sym m.is) (stays_is moved pairs ps old m.from list rising known f.0 f.1)
      | inl b ↦
          let m : IsImage (entry_at old ps) e (fresh moved pairs ps old) = map_in (entry_at old ps) e (fresh moved pairs ps old) b in
          let f = filter_in (is_fresh moved ps old) m.from (allowed_codes pairs ps) m.among in
          subst (λ (g : ContactEntry). IsIn g (contacts_of old ps (allowed_codes pairs ps))) (sym m.is) (in_map (entry_at old ps) m.from (allowed_codes pairs ps) f.0)
    ])
