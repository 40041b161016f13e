-- Near pairs, by the keys of their shapes, and what is known of them from contacts.
use Rattle.std.proofs.Common.{◌≡◌, ℕ, zero, suc, ◌+◌, ◌^◌, ◌<◌, ◌≤◌, ◌==◌, List, [], ◌∷◌, length, map, filter, Bool, true, false, cond, not, Option, Some, None, is_some, ◌⊎◌, inl, inr, refl, sym, ap, ◌∙◌, subst, arith}
use Rattle.std.specs.List.{All}
use Rattle.std.proofs.lemmas.Bool.Decides.{nat_tests}
use Rattle.contacts_base.specs.declared.near.Proxy.{Proxy}
use Rattle.contacts_base.specs.declared.key.ContactKey.{ContactKey}
use Rattle.contacts_base.specs.declared.contact.ContactEntry.{ContactEntry}
use Rattle.contacts_base.specs.Keys.{id_number, key_number}
use Rattle.contacts_base.specs.Near.{is_near}
use Rattle.contacts_base.specs.NearCodes.{pair_code, near_codes}
use Rattle.contacts_base.specs.Proxies.{IsProxy, IsProxyList, number_of}
use Rattle.contacts_base.specs.Contacts.{lookup, number_of as entry_number}
use Rattle.contacts_base.specs.declared.body_pair.BodyPair.{BodyPair}
use Rattle.contacts.specs.Pairs.{proxy_at, pair_key, first_place, second_place}
use Rattle.contacts_base.specs.Changes.{entry_of, entry_with, key_of}
use Rattle.contacts.specs.ByCodes.{entry_at, contacts_of, is_allowed, allowed_codes}
use Rattle.contacts_base.specs.Forbidden.{is_forbidden}
use Rattle.contacts.specs.Known.{found, may_touch, both_near, near_key, has_key, IsPairKey, either_moved, IsKnown, IsSameOf, stays, staying, is_fresh, fresh, code_number, all_still}
use Rattle.contacts_base.proofs.Members.{Each, IsIn, each_in, each_from, all_from_each}
use Rattle.contacts_base.proofs.Rising.{IsRising, rising_from_increasing}
use Rattle.contacts.proofs.NearLemmas.{IsNearFrom, from_has, from_is}
use Rattle.contacts.proofs.ProxyLemmas.{few, numbers_later}

-- ---- members under maps and filters

pub in_map : {X Y : Type 0} (f : X → Y) (x : X) (xs : List X) → IsIn x xs → IsIn (f x) (map f xs)
in_map f x [] h = absurd h
in_map f x (y ∷ ys) h = elim h [ inl p ↦ inl (ap f p) | inr q ↦ inr (in_map f x ys q) ]

pub record IsImage {X Y : Type 0} (f : X → Y) (y : Y) (xs : List X) : Type 0 where
  pub from : X
  pub among : IsIn from xs
  pub is : y ≡ f from

pub map_in : {X Y : Type 0} (f : X → Y) (y : Y) (xs : List X) → IsIn y (map f xs) → IsImage f y xs
map_in f y [] h = absurd h
map_in f y (x ∷ xs) h =
    elim h [
      | inl p ↦ record { from = x; among = inl refl; is = p }
      | inr q ↦ let r : IsImage f y xs = map_in f y xs q in record { from = r.from; among = inr r.among; is = r.is }
    ]

passes_step : {X : Type 0} (e x : X) (t : Bool) (xs : List X) → (e ≡ x → t ≡ true) → ((e ≡ x) ⊎ IsIn e xs) → IsIn e (cond t (x ∷ xs) xs)
passes_step e x true xs f h = h
passes_step e x false xs f h = elim h [ inl p ↦ let q : false ≡ true = f p in cc | inr q ↦ q ]

pub in_filter : {X : Type 0} (test : X → Bool) (e : X) (xs : List X) → IsIn e xs → test e ≡ true → IsIn e (filter test xs)
in_filter test e [] h t = absurd h
in_filter test e (x ∷ xs) h t =
    passes_step e x (test x) (filter test xs) (λ p. ap test (sym p) ∙ t) (elim h [ inl p ↦ inl p | inr q ↦ inr (in_filter test e xs q t) ])

passed_step : {X : Type 0} (test : X → Bool) (e x : X) (t : Bool) (xs ys : List X) → test x ≡ t → (IsIn e ys → IsIn e xs × (test e ≡ true)) → IsIn e (cond t (x ∷ ys) ys) → IsIn e (x ∷ xs) × (test e ≡ true)
passed_step test e x true xs ys p f h = elim h [ inl q ↦ (inl q, ap test q ∙ p) | inr q ↦ (inr (f q).0, (f q).1) ]
passed_step test e x false xs ys p f h = (inr (f h).0, (f h).1)

pub filter_in : {X : Type 0} (test : X → Bool) (e : X) (xs : List X) → IsIn e (filter test xs) → IsIn e xs × (test e ≡ true)
filter_in test e [] h = absurd h
filter_in test e (x ∷ xs) h = passed_step test e x (test x) xs (filter test xs) refl (filter_in test e xs) h

-- ---- the shape with a number

found_here : (p : Proxy) (ps : List Proxy) (n : ℕ) → number_of p ≡ n → found (p ∷ ps) n ≡ Some p
found_here p ps n h = grind (arith, nat_tests)

found_later : (p : Proxy) (ps : List Proxy) (n : ℕ) → (number_of p ≡ n → ⊥) → found (p ∷ ps) n ≡ found ps n
found_later p ps n h = grind (arith, nat_tests)

number_among : (ps : List Proxy) (i : ℕ) → i < length ps → IsIn (number_of (proxy_at ps i)) (map number_of ps)
number_among [] i lt = absurd (omega arith)
number_among (p ∷ ps) zero lt = inl refl
number_among (p ∷ ps) (suc i) lt = inr (number_among ps i (omega arith))

pub found_at : (ps : List Proxy) (i : ℕ) → IsRising (map number_of ps) → i < length ps → found ps (number_of (proxy_at ps i)) ≡ Some (proxy_at ps i)
found_at [] i r lt = absurd (omega arith)
found_at (p ∷ ps) zero r lt = found_here p ps (number_of p) refl
found_at (p ∷ ps) (suc i) r lt =
    let low : number_of p < number_of (proxy_at ps i) = each_in (λ y. number_of p < y) (number_of (proxy_at ps i)) (map number_of ps) r.0 (number_among ps i (omega arith)) in
    found_later p ps (number_of (proxy_at ps i)) (λ q. omega arith) ∙ found_at ps i r.1 (omega arith)

-- where the shape with a number stands
pub record IsPlace (ps : List Proxy) (n : ℕ) (p : Proxy) : Type 0 where
  pub i : ℕ
  pub within : i < length ps
  pub is : proxy_at ps i ≡ p
  pub number : number_of p ≡ n

same_some : (p q : Proxy) → Some p ≡ Some q → p ≡ q
same_some p q h = cc

place_step : (p : Proxy) (ps : List Proxy) (n : ℕ) (q : Proxy) (t : Bool) → (t ≡ true → number_of p ≡ n) → (found ps n ≡ Some q → IsPlace ps n q) → cond t (Some p) (found ps n) ≡ Some q → IsPlace (p ∷ ps) n q
place_step p ps n q true e f h = let same : p ≡ q = same_some p q h in record { i = 0; within = omega arith; is = same; number = ap (λ (r : Proxy). number_of r) (sym same) ∙ e refl }
place_step p ps n q false e f h = let r : IsPlace ps n q = f h in record { i = suc r.i; within = omega (arith, r.within); is = r.is; number = r.number }

pub place_of : (ps : List Proxy) (n : ℕ) (q : Proxy) → found ps n ≡ Some q → IsPlace ps n q
place_of [] n q h = cc
place_of (p ∷ ps) n q h = place_step p ps n q (number_of p == n) (λ t. grind (arith, nat_tests)) (place_of ps n q) h

-- ---- near pairs by their codes and by their keys

proxy_small : (p : Proxy) → IsProxy p → number_of p < 2 ^ 40
proxy_small p h = omega (arith, h.slot, h.index)

both_so : (s t : Bool) → s ≡ true → t ≡ true → cond s t false ≡ true
both_so s t a b = rw a b

first_so : (s t : Bool) → cond s t false ≡ true → s ≡ true
first_so true t h = refl
first_so false t h = h

second_so : (s t : Bool) → cond s t false ≡ true → t ≡ true
second_so true t h = h
second_so false t h = cc

-- a near pair's code has its shapes' key
pub record IsNearKey (pairs : List BodyPair) (ps : List Proxy) (k : ContactKey) : Type 0 where
  pub pair : IsPairKey k
  pub near : near_key pairs ps k ≡ true

near_key_at : (pairs : List BodyPair) (ps : List Proxy) (i j : ℕ) → IsProxyList ps → i < j → j < length ps → may_touch pairs (proxy_at ps i) (proxy_at ps j) ≡ true → IsNearKey pairs ps (key_of (proxy_at ps i) (proxy_at ps j))
near_key_at pairs ps i j list b w h =
    let rising : IsRising (map number_of ps) = rising_from_increasing (map number_of ps) list.rising in
    let p : IsProxy (proxy_at ps i) = list.each i _ (omega arith) in
    let q : IsProxy (proxy_at ps j) = list.each j _ w in
    record {
      pair = record { before = numbers_later ps list.rising i j _ b w; small = proxy_small (proxy_at ps j) q; first_index = omega (arith, p.index); second_index = omega (arith, q.index) };
      near = rw (found_at ps i rising (omega arith), found_at ps j rising w) h;
    }

pub code_places : (i j c : ℕ) → j < 2 ^ 32 → c ≡ pair_code i j → (first_place c ≡ i) × (second_place c ≡ j)
code_places i j c lt e = (omega arith, omega arith)

-- a code of a pair that may touch: where its shapes stand
pub record IsAllowedFrom (pairs : List BodyPair) (ps : List Proxy) (c : ℕ) : Type 0 where
  pub i : ℕ
  pub j : ℕ
  pub before : i < j
  pub within : j < length ps
  pub first : first_place c ≡ i
  pub second : second_place c ≡ j
  pub touch : may_touch pairs (proxy_at ps i) (proxy_at ps j) ≡ true

allowed_at : (pairs : List BodyPair) (ps : List Proxy) (i j a b : ℕ) → a ≡ i → b ≡ j → not (is_forbidden pairs (proxy_at ps a) (proxy_at ps b)) ≡ true → not (is_forbidden pairs (proxy_at ps i) (proxy_at ps j)) ≡ true
allowed_at pairs ps i j a b p q h = rw (← p, ← q) h

near_place : (ps : List Proxy) (c : ℕ) → IsIn c (near_codes ps) → IsNearFrom 0 ps c
unfolding near_codes
near_place ps c h = from_is 0 ps c h

pub in_codes : (pairs : List BodyPair) (ps : List Proxy) (c : ℕ) → IsProxyList ps → IsIn c (allowed_codes pairs ps) → IsAllowedFrom pairs ps c
in_codes pairs ps c list h =
    let f : IsIn c (near_codes ps) × (is_allowed pairs ps c ≡ true) = filter_in (is_allowed pairs ps) c (near_codes ps) h in
    let n : IsNearFrom 0 ps c = near_place ps c f.0 in
    let most : length ps ≤ 2 ^ 20 = let l = few ps list in omega arith in
    let e : c ≡ pair_code (0 + n.i) (0 + n.j) = n.is in
    let at : (first_place c ≡ n.i) × (second_place c ≡ n.j) = code_places n.i n.j c (omega (arith, n.within)) (omega arith) in
    record {
      i = n.i;
      j = n.j;
      before = n.before;
      within = n.within;
      first = at.0;
      second = at.1;
      touch = both_so (is_near (proxy_at ps n.i) (proxy_at ps n.j)) (not (is_forbidden pairs (proxy_at ps n.i) (proxy_at ps n.j))) n.near (allowed_at pairs ps n.i n.j (first_place c) (second_place c) at.0 at.1 f.1);
    }

pub code_near : (pairs : List BodyPair) (ps : List Proxy) (c : ℕ) → IsProxyList ps → IsIn c (allowed_codes pairs ps) → IsNearKey pairs ps (pair_key ps c)
code_near pairs ps c list h =
    let n : IsAllowedFrom pairs ps c = in_codes pairs ps c list h in
    rw (n.first, n.second) (near_key_at pairs ps n.i n.j list n.before n.within n.touch)

-- the code of two near shapes, by the number of their key
pub record IsCodeOf (pairs : List BodyPair) (ps : List Proxy) (k : ContactKey) : Type 0 where
  pub code : ℕ
  pub among : IsIn code (allowed_codes pairs ps)
  pub number : code_number ps code ≡ key_number k
  pub first : id_number (pair_key ps code).first ≡ id_number k.first
  pub second : id_number (pair_key ps code).second ≡ id_number k.second

near_have : (ps : List Proxy) (i j : ℕ) → i < j → j < length ps → is_near (proxy_at ps i) (proxy_at ps j) ≡ true → IsIn (pair_code i j) (near_codes ps)
unfolding near_codes
near_have ps i j b w h = from_has 0 ps i j (pair_code i j) b w h (omega arith)

codes_have : (pairs : List BodyPair) (ps : List Proxy) (i j : ℕ) → i < j → j < length ps → first_place (pair_code i j) ≡ i → second_place (pair_code i j) ≡ j → may_touch pairs (proxy_at ps i) (proxy_at ps j) ≡ true → IsIn (pair_code i j) (allowed_codes pairs ps)
codes_have pairs ps i j b w first second h =
    let near : is_near (proxy_at ps i) (proxy_at ps j) ≡ true = first_so _ _ h in
    let free : not (is_forbidden pairs (proxy_at ps i) (proxy_at ps j)) ≡ true = second_so (is_near (proxy_at ps i) (proxy_at ps j)) _ h in
    in_filter (is_allowed pairs ps) (pair_code i j) (near_codes ps) (near_have ps i j b w near) (allowed_at pairs ps (first_place (pair_code i j)) (second_place (pair_code i j)) i j (sym first) (sym second) free)

in_order_from : (ps : List Proxy) (i j : ℕ) → IsProxyList ps → i < length ps → j < length ps → number_of (proxy_at ps i) < number_of (proxy_at ps j) → i < j
in_order_from ps i j list wi wj h =
    let not_after : j < i → ⊥ = λ lt. let l : number_of (proxy_at ps j) < number_of (proxy_at ps i) = numbers_later ps list.rising j i _ lt wi in omega arith in
    let not_same : j ≡ i → ⊥ = λ e. let l : number_of (proxy_at ps i) < number_of (proxy_at ps i) = rw e at h in omega arith in
    omega (arith, not_after, not_same)

code_at : (pairs : List BodyPair) (ps : List Proxy) (k : ContactKey) (i j : ℕ) → IsProxyList ps → IsPairKey k → i < length ps → j < length ps → number_of (proxy_at ps i) ≡ id_number k.first → number_of (proxy_at ps j) ≡ id_number k.second → may_touch pairs (proxy_at ps i) (proxy_at ps j) ≡ true → IsCodeOf pairs ps k
code_at pairs ps k i j list pair wi wj a b h =
    let most : length ps ≤ 2 ^ 20 = let l = few ps list in omega arith in
    let up : number_of (proxy_at ps i) < number_of (proxy_at ps j) = omega (arith, pair.before) in
    let before : i < j = in_order_from ps i j list wi wj up in
    let at : (first_place (pair_code i j) ≡ i) × (second_place (pair_code i j) ≡ j) = code_places i j (pair_code i j) (omega arith) refl in
    let first : id_number (pair_key ps (pair_code i j)).first ≡ id_number k.first = rw at.0 a in
    let second : id_number (pair_key ps (pair_code i j)).second ≡ id_number k.second = rw at.1 b in
    record { code = pair_code i j; among = codes_have pairs ps i j before wj at.0 at.1 h; number = omega arith; first = first; second = second }

code_found : (pairs : List BodyPair) (ps : List Proxy) (k : ContactKey) (o r : Option Proxy) → IsProxyList ps → IsPairKey k → found ps (id_number k.first) ≡ o → found ps (id_number k.second) ≡ r → both_near pairs o r ≡ true → IsCodeOf pairs ps k
code_found pairs ps k None r list pair a b h = cc
code_found pairs ps k (Some p) None list pair a b h = cc
code_found pairs ps k (Some p) (Some q) list pair a b h =
    let i : IsPlace ps (id_number k.first) p = place_of ps (id_number k.first) p a in
    let j : IsPlace ps (id_number k.second) q = place_of ps (id_number k.second) q b in
    code_at pairs ps k i.i j.i list pair i.within j.within (rw i.is i.number) (rw j.is j.number) (rw (i.is, j.is) h)

pub near_code : (pairs : List BodyPair) (ps : List Proxy) (k : ContactKey) → IsProxyList ps → IsPairKey k → near_key pairs ps k ≡ true → IsCodeOf pairs ps k
near_code pairs ps k list pair h = code_found pairs ps k (found ps (id_number k.first)) (found ps (id_number k.second)) list pair refl refl h

-- ---- contacts by the numbers of their keys

entry_step : (e : ContactEntry) (es : List ContactEntry) (k : ContactKey) (t : Bool) → t ≡ (entry_number e == key_number k) → (has_key es k ≡ true → IsIn (key_number k) (map entry_number es)) → is_some (cond t (Some e) (lookup es k)) ≡ true → IsIn (key_number k) (map entry_number (e ∷ es))
entry_step e es k true q f h = let same : entry_number e ≡ key_number k = grind (arith, nat_tests) in inl (sym same)
entry_step e es k false q f h = inr (f h)

pub key_in : (es : List ContactEntry) (k : ContactKey) → has_key es k ≡ true → IsIn (key_number k) (map entry_number es)
key_in [] k h = cc
key_in (e ∷ es) k h = entry_step e es k (entry_number e == key_number k) refl (key_in es k) h

has_step : (e : ContactEntry) (es : List ContactEntry) (k : ContactKey) (t : Bool) → (entry_number e ≡ key_number k → t ≡ true) → ((key_number k ≡ entry_number e) ⊎ (has_key es k ≡ true)) → is_some (cond t (Some e) (lookup es k)) ≡ true
has_step e es k true f h = refl
has_step e es k false f h = elim h [ inl p ↦ let q : false ≡ true = f (sym p) in cc | inr q ↦ q ]

pub in_key : (es : List ContactEntry) (k : ContactKey) → IsIn (key_number k) (map entry_number es) → has_key es k ≡ true
in_key [] k h = absurd h
in_key (e ∷ es) k h = has_step e es k (entry_number e == key_number k) (λ q. grind (arith, nat_tests)) (elim h [ inl p ↦ inl p | inr q ↦ inr (in_key es k q) ])

-- two keys with one number
pub lookup_same : (es : List ContactEntry) (k j : ContactKey) → key_number k ≡ key_number j → lookup es k ≡ lookup es j
lookup_same [] k j h = refl
lookup_same (e ∷ es) k j h = rw (h, lookup_same es k j h) refl

pub ids_same : (k j : ContactKey) → IsPairKey k → IsPairKey j → key_number k ≡ key_number j → (id_number k.first ≡ id_number j.first) × (id_number k.second ≡ id_number j.second)
ids_same k j a b h = (omega (arith, a.small, b.small), omega (arith, a.small, b.small))

-- ---- the law

both_true : (t : Bool) → cond t true true ≡ true
both_true true = refl
both_true false = refl

pub moved_if : (t : Bool) → (t ≡ false → true ≡ false) → t ≡ true
moved_if true f = refl
moved_if false f = sym (f refl)

pub each_from_all : (es : List ContactEntry) → All (λ e. IsPairKey e.key) es → Each (λ (e : ContactEntry). IsPairKey e.key) es
each_from_all [] h = tt
each_from_all (e ∷ es) h = (h 0 e (omega arith), each_from_all es (λ k d lt. h (suc k) d (omega arith)))

pub stays_as : (moved : ℕ → Bool) (pairs : List BodyPair) (ps : List Proxy) (e : ContactEntry) → near_key pairs ps e.key ≡ true → stays moved pairs ps e ≡ true
stays_as moved pairs ps e h = rw h (both_true (either_moved moved e.key))

-- a near key with a contact is one of those that stay
near_stays : (moved : ℕ → Bool) (pairs : List BodyPair) (ps : List Proxy) (old : List ContactEntry) (k : ContactKey) → IsKnown moved pairs ps old → IsPairKey k → near_key pairs ps k ≡ true → has_key old k ≡ true → IsIn (key_number k) (map entry_number (staying moved pairs ps old))
near_stays moved pairs ps old k known pair near has =
    let m : IsImage entry_number (key_number k) old = map_in entry_number (key_number k) old (key_in old k has) in
    let e : ContactEntry = m.from in
    let p : IsPairKey e.key = each_in (λ (f : ContactEntry). IsPairKey f.key) e old (each_from_all old known.keys) m.among in
    let ids = ids_same k e.key pair p m.is in
    let there : near_key pairs ps e.key ≡ true = rw (← ids.0, ← ids.1) near in
    rw (m.is) (in_map entry_number e (staying moved pairs ps old) (in_filter (stays moved pairs ps) e old m.among (stays_as moved pairs ps e there)))

-- a near key without a contact is of shapes of which one has moved
by_contact : (moved : ℕ → Bool) (pairs : List BodyPair) (ps : List Proxy) (old : List ContactEntry) (c : ℕ) (t : Bool) → IsProxyList ps → IsKnown moved pairs ps old → IsIn c (allowed_codes pairs ps) → has_key old (pair_key ps c) ≡ t → IsIn (code_number ps c) (map entry_number (staying moved pairs ps old)) ⊎ IsIn (code_number ps c) (map (code_number ps) (fresh moved pairs ps old))
by_contact moved pairs ps old c true list known i h = let n : IsNearKey pairs ps (pair_key ps c) = code_near pairs ps c list i in inl (near_stays moved pairs ps old (pair_key ps c) known n.pair n.near h)
by_contact moved pairs ps old c false list known i h =
    let n : IsNearKey pairs ps (pair_key ps c) = code_near pairs ps c list i in
    let gone : either_moved moved (pair_key ps c) ≡ true = moved_if (either_moved moved (pair_key ps c)) (λ s. sym n.near ∙ known.still (pair_key ps c) n.pair s ∙ h) in
    inr (in_map (code_number ps) c (fresh moved pairs ps old) (in_filter (is_fresh moved ps old) c (allowed_codes pairs ps) i (rw (gone, h) refl)))

pub near_in_parts : (moved : ℕ → Bool) (pairs : List BodyPair) (ps : List Proxy) (old : List ContactEntry) (n : ℕ) → IsProxyList ps → IsKnown moved pairs ps old → IsIn n (map (code_number ps) (allowed_codes pairs ps)) → IsIn n (map entry_number (staying moved pairs ps old)) ⊎ IsIn n (map (code_number ps) (fresh moved pairs ps old))
near_in_parts moved pairs ps old n list known h =
    let m : IsImage (code_number ps) n (allowed_codes pairs ps) = map_in (code_number ps) n (allowed_codes pairs ps) h in
    rw m.is (by_contact moved pairs ps old m.from (has_key old (pair_key ps m.from)) list known m.among refl)

pub stays_near : (moved : ℕ → Bool) (pairs : List BodyPair) (ps : List Proxy) (e : ContactEntry) (t : Bool) → either_moved moved e.key ≡ t → (t ≡ false → near_key pairs ps e.key ≡ true) → cond t (near_key pairs ps e.key) true ≡ true → near_key pairs ps e.key ≡ true
stays_near moved pairs ps e true q f h = h
stays_near moved pairs ps e false q f h = f refl

staying_near : (moved : ℕ → Bool) (pairs : List BodyPair) (ps : List Proxy) (old : List ContactEntry) (e : ContactEntry) → IsProxyList ps → IsKnown moved pairs ps old → IsIn e old → stays moved pairs ps e ≡ true → IsIn (entry_number e) (map (code_number ps) (allowed_codes pairs ps))
staying_near moved pairs ps old e list known i h =
    let p : IsPairKey e.key = each_in (λ (f : ContactEntry). IsPairKey f.key) e old (each_from_all old known.keys) i in
    let near : near_key pairs ps e.key ≡ true = stays_near moved pairs ps e (either_moved moved e.key) refl (λ s. known.still e.key p s ∙ in_key old e.key (in_map entry_number e old i)) h in
    let c : IsCodeOf pairs ps e.key = near_code pairs ps e.key list p near in
    rw (← c.number) (in_map (code_number ps) c.code (allowed_codes pairs ps) c.among)

pub parts_are_near : (moved : ℕ → Bool) (pairs : List BodyPair) (ps : List Proxy) (old : List ContactEntry) (n : ℕ) → IsProxyList ps → IsKnown moved pairs ps old → IsIn n (map entry_number (staying moved pairs ps old)) ⊎ IsIn n (map (code_number ps) (fresh moved pairs ps old)) → IsIn n (map (code_number ps) (allowed_codes pairs ps))
parts_are_near moved pairs ps old n list known h =
    elim h [
      | inl a ↦
          let m : IsImage entry_number n (staying moved pairs ps old) = map_in entry_number n (staying moved pairs ps old) a in
          let f : IsIn m.from old × (stays moved pairs ps m.from ≡ true) = filter_in (stays moved pairs ps) m.from old m.among in
          rw m.is (staying_near moved pairs ps old m.from list known f.0 f.1)
      | inr b ↦
          let m : IsImage (code_number ps) n (fresh moved pairs ps old) = map_in (code_number ps) n (fresh moved pairs ps old) b in
          let f : IsIn m.from (allowed_codes pairs ps) × (is_fresh moved ps old m.from ≡ true) = filter_in (is_fresh moved ps old) m.from (allowed_codes pairs ps) m.among in
          rw m.is (in_map (code_number ps) m.from (allowed_codes pairs ps) f.0)
    ]

-- ---- after a collide

pub key_of_entry : (old : List ContactEntry) (ps : List Proxy) (c : ℕ) → (entry_at old ps c).key ≡ pair_key ps c
unfolding entry_of entry_with
key_of_entry old ps c = refl

pub number_of_entry : (old : List ContactEntry) (ps : List Proxy) (c : ℕ) → entry_number (entry_at old ps c) ≡ code_number ps c
number_of_entry old ps c = ap (λ (k : ContactKey). key_number k) (key_of_entry old ps c)

same_truth : (s t : Bool) → (s ≡ true → t ≡ true) → (t ≡ true → s ≡ true) → s ≡ t
same_truth true t f g = sym (f refl)
same_truth false true f g = g refl
same_truth false false f g = refl

after_pairs : (pairs : List BodyPair) (ps : List Proxy) (old : List ContactEntry) (e : ContactEntry) → IsProxyList ps → IsIn e (contacts_of old ps (allowed_codes pairs ps)) → IsPairKey e.key
after_pairs pairs ps old e list h =
    let m : IsImage (entry_at old ps) e (allowed_codes pairs ps) = map_in (entry_at old ps) e (allowed_codes pairs ps) h in
    let n : IsNearKey pairs ps (pair_key ps m.from) = code_near pairs ps m.from list m.among in
    subst IsPairKey (sym (ap (λ (f : ContactEntry). f.key) m.is ∙ key_of_entry old ps m.from)) n.pair

near_has : (pairs : List BodyPair) (ps : List Proxy) (old : List ContactEntry) (k : ContactKey) → IsProxyList ps → IsPairKey k → near_key pairs ps k ≡ true → has_key (contacts_of old ps (allowed_codes pairs ps)) k ≡ true
near_has pairs ps old k list pair h =
    let c : IsCodeOf pairs ps k = near_code pairs ps k list pair h in
    let e : entry_number (entry_at old ps c.code) ≡ key_number k = number_of_entry old ps c.code ∙ c.number in
    let there : IsIn (entry_number (entry_at old ps c.code)) (map entry_number (contacts_of old ps (allowed_codes pairs ps))) = in_map entry_number (entry_at old ps c.code) (contacts_of old ps (allowed_codes pairs ps)) (in_map (entry_at old ps) c.code (allowed_codes pairs ps) c.among) in
    in_key (contacts_of old ps (allowed_codes pairs ps)) k (subst (λ (n : ℕ). IsIn n (map entry_number (contacts_of old ps (allowed_codes pairs ps)))) e there)

near_by_ids : (pairs : List BodyPair) (ps : List Proxy) (k j : ContactKey) → id_number k.first ≡ id_number j.first → id_number k.second ≡ id_number j.second → near_key pairs ps k ≡ near_key pairs ps j
near_by_ids pairs ps k j a b = rw (a, b) refl

has_near : (pairs : List BodyPair) (ps : List Proxy) (old : List ContactEntry) (k : ContactKey) → IsProxyList ps → IsPairKey k → has_key (contacts_of old ps (allowed_codes pairs ps)) k ≡ true → near_key pairs ps k ≡ true
has_near pairs ps old k list pair h =
    let m : IsImage entry_number (key_number k) (contacts_of old ps (allowed_codes pairs ps)) = map_in entry_number (key_number k) (contacts_of old ps (allowed_codes pairs ps)) (key_in (contacts_of old ps (allowed_codes pairs ps)) k h) in
    let l : IsImage (entry_at old ps) m.from (allowed_codes pairs ps) = map_in (entry_at old ps) m.from (allowed_codes pairs ps) m.among in
    let n : IsNearKey pairs ps (pair_key ps l.from) = code_near pairs ps l.from list l.among in
    let same : key_number (pair_key ps l.from) ≡ key_number k = sym (m.is ∙ ap entry_number l.is ∙ number_of_entry old ps l.from) in
    let ids = ids_same (pair_key ps l.from) k n.pair pair same in
    sym (near_by_ids pairs ps (pair_key ps l.from) k ids.0 ids.1) ∙ n.near

pub all_known_after-holds : (pairs : List BodyPair) (ps : List Proxy) (old : List ContactEntry) → IsProxyList ps → IsKnown all_still pairs ps (contacts_of old ps (allowed_codes pairs ps))
all_known_after-holds pairs ps old list = record {
  keys = all_from_each (λ (e : ContactEntry). IsPairKey e.key) (contacts_of old ps (allowed_codes pairs ps)) (each_from (λ (e : ContactEntry). IsPairKey e.key) (contacts_of old ps (allowed_codes pairs ps)) (λ e i. after_pairs pairs ps old e list i));
  still = λ k pair s. same_truth (near_key pairs ps k) (has_key (contacts_of old ps (allowed_codes pairs ps)) k) (near_has pairs ps old k list pair) (has_near pairs ps old k list pair);
}

-- ---- what keeps it

pub known_stays-holds : (moved after : ℕ → Bool) (pairs later : List BodyPair) (ps qs : List Proxy) (old now : List ContactEntry) → IsKnown moved pairs ps old → All (λ e. IsPairKey e.key) now → ((k : ContactKey) → IsPairKey k → either_moved after k ≡ false → IsSameOf moved pairs later ps qs old now k) → IsKnown after later qs now
known_stays-holds moved after pairs later ps qs old now known keys same = record {
  keys = keys;
  still = λ k pair s. let r : IsSameOf moved pairs later ps qs old now k = same k pair s in r.near ∙ known.still k pair r.unmoved ∙ sym r.contact;
}
