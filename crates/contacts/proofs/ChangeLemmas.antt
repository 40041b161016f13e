-- What a step of the lists of keys adds, and that the keys rise.
use Rattle.std.proofs.Common.{◌≡◌, ℕ, ◌+◌, ◌*◌, ◌^◌, ◌<◌, ◌≤◌, List, [], ◌∷◌, length, map, take, get_or, Option, None, Some, ◌⊎◌, inl, inr, refl, ap, ◌∙◌, arith, Bool, true, false, cond, nat_lt, ltb-true, ltb-false, sym, ◌++◌}
use Rattle.std.specs.List.{filter_map, cons_option}
use Rattle.std.specs.Option.{option_to_list}
use Rattle.std.proofs.lemmas.List.Elements.{filter_map-append}
use Rattle.std.proofs.lemmas.List.{get_or-map, length-map, map-append, take_more}
use Rattle.contacts_base.specs.declared.near.Proxy.{Proxy}
use Rattle.contacts_base.specs.declared.key.ContactKey.{ContactKey}
use Rattle.contacts_base.specs.declared.contact.ContactEntry.{ContactEntry}
use Rattle.contacts_base.specs.Keys.{id_number, key_number}
use Rattle.contacts_base.specs.Proxies.{IsProxy, IsProxyList}
use Rattle.contacts_base.specs.Contacts.{number_of, lookup, AreKeysRising}
use Rattle.contacts.specs.Pairs.{proxy_at, IsPair, ArePairs, first_place, second_place, pair_key}
use Rattle.contacts_base.specs.Changes.{entry_of, entry_with, key_if_touching, key_if_new, keys_touching_only_in}
use Rattle.contacts.specs.ByCodes.{entry_at, contacts_of}
use Rattle.contacts_base.specs.ChangedKeys.{key_unless_in, key_unless, keys_not_in, AreRising}
use Rattle.contacts_base.proofs.Members.{Each}
use Rattle.contacts_base.proofs.Rising.{IsRising, increasing_from_rising, rising_from_increasing}
use Rattle.contacts.proofs.ProxyLemmas.{numbers_later}

-- ---- the keys of the contacts rise

entry_number : (old : List ContactEntry) (p q : Proxy) → number_of (entry_of old p q) ≡ id_number p.id * 2 ^ 40 + id_number q.id
unfolding entry_of entry_with
entry_number old p q = refl

first_apart : (i k m n : ℕ) → i < k → m < 2 ^ 40 → i * 2 ^ 40 + m < k * 2 ^ 40 + n
first_apart i k m n h l = omega arith

by_places : (old : List ContactEntry) (ps : List Proxy) (i j k l : ℕ) → IsProxyList ps → i < length ps → j < length ps → k < length ps → l < length ps → (i < k) ⊎ ((i ≡ k) × (j < l)) → number_of (entry_of old (proxy_at ps i) (proxy_at ps j)) < number_of (entry_of old (proxy_at ps k) (proxy_at ps l))
by_places old ps i j k l list bi bj bk bl h =
    let pj : IsProxy (proxy_at ps j) = list.each j _ bj in
    let small : id_number (proxy_at ps j).id < 2 ^ 40 = omega (arith, pj.slot, pj.index) in
    rw (entry_number old (proxy_at ps i) (proxy_at ps j), entry_number old (proxy_at ps k) (proxy_at ps l))
    (elim h [
      | inl a ↦ let n : id_number (proxy_at ps i).id < id_number (proxy_at ps k).id = numbers_later ps list.rising i k _ a bk in first_apart _ _ _ _ n small
      | inr b ↦ let n : id_number (proxy_at ps j).id < id_number (proxy_at ps l).id = numbers_later ps list.rising j l _ b.1 bl in rw b.0 (omega arith)
    ])

by_codes_from : (c d : ℕ) (t : Bool) → nat_lt (first_place c) (first_place d) ≡ t → c < d → (first_place c < first_place d) ⊎ ((first_place c ≡ first_place d) × (second_place c < second_place d))
by_codes_from c d true e h = inl (ltb-true _ _ e)
by_codes_from c d false e h = let le : first_place d ≤ first_place c = ltb-false _ _ e in inr (omega arith, omega arith)

by_codes : (c d : ℕ) → c < d → (first_place c < first_place d) ⊎ ((first_place c ≡ first_place d) × (second_place c < second_place d))
by_codes c d h = by_codes_from c d (nat_lt (first_place c) (first_place d)) refl h

pub entry_rises : (old : List ContactEntry) (ps : List Proxy) (c d : ℕ) → IsProxyList ps → IsPair ps c → IsPair ps d → c < d → number_of (entry_at old ps c) < number_of (entry_at old ps d)
entry_rises old ps c d list pc pd h = by_places old ps (first_place c) (second_place c) (first_place d) (second_place d) list (omega (arith, pc.before, pc.within)) pc.within (omega (arith, pd.before, pd.within)) pd.within (by_codes c d h)

number_at : (old : List ContactEntry) (ps : List Proxy) (codes : List ℕ) (k : ℕ) → k < length codes → get_or (map number_of (contacts_of old ps codes)) k 0 ≡ number_of (entry_at old ps (get_or codes k 0))
number_at old ps codes k lt =
    let es = contacts_of old ps codes in
    let d = entry_at old ps 0 in
    let n : length (map (entry_at old ps) codes) ≡ length codes = length-map codes (entry_at old ps) in
    get_or-map number_of es k d 0 (omega arith) ∙ ap number_of (get_or-map (entry_at old ps) codes k 0 d lt)

pub contacts_rise : (old : List ContactEntry) (ps : List Proxy) (codes : List ℕ) → IsProxyList ps → ArePairs ps codes → AreKeysRising (contacts_of old ps codes)
contacts_rise old ps codes list pairs k lt =
    let n : length (map number_of (contacts_of old ps codes)) ≡ length codes = length-map (contacts_of old ps codes) number_of ∙ length-map codes (entry_at old ps) in
    let b : k + 1 < length codes = omega arith in
    rw (number_at old ps codes k (omega arith), number_at old ps codes (k + 1) b)
    (entry_rises old ps (get_or codes k 0) (get_or codes (k + 1) 0) list (pairs.each k 0 (omega arith)) (pairs.each (k + 1) 0 b) (pairs.rising k b))

-- ---- the keys that are picked out of ascending ones ascend

cons_each : (b : ℕ) (o : Option ContactKey) (keys : List ContactKey) → ((k : ContactKey) → o ≡ Some k → b < key_number k) → Each (λ n. b < n) (map key_number keys) → Each (λ n. b < n) (map key_number (cons_option o keys))
cons_each b None keys h a = a
cons_each b (Some k) keys h a = (h k refl, a)

cons_rising : (b : ℕ) (o : Option ContactKey) (keys : List ContactKey) → ((k : ContactKey) → o ≡ Some k → key_number k ≡ b) → Each (λ n. b < n) (map key_number keys) → IsRising (map key_number keys) → IsRising (map key_number (cons_option o keys))
cons_rising b None keys h a r = r
cons_rising b (Some k) keys h a r = let e : key_number k ≡ b = h k refl in (rw e a, r)

-- what the test picks of an entry is the entry's key
abbrev pub PicksKeys : (ContactEntry → Option ContactKey) → Type 0
PicksKeys pick = (e : ContactEntry) (k : ContactKey) → pick e ≡ Some k → key_number k ≡ number_of e

picked_above : (pick : ContactEntry → Option ContactKey) → PicksKeys pick → (b : ℕ) (es : List ContactEntry) → Each (λ n. b < n) (map number_of es) → Each (λ n. b < n) (map key_number (filter_map pick es))
picked_above pick f b [] a = tt
picked_above pick f b (e ∷ es) a =
    let low : b < number_of e = a.0 in
    cons_each b (pick e) (filter_map pick es) (λ k h. let same : key_number k ≡ number_of e = f e k h in omega arith) (picked_above pick f b es a.1)

pub picked_rising : (pick : ContactEntry → Option ContactKey) → PicksKeys pick → (es : List ContactEntry) → IsRising (map number_of es) → IsRising (map key_number (filter_map pick es))
picked_rising pick f [] r = tt
picked_rising pick f (e ∷ es) r = cons_rising (number_of e) (pick e) (filter_map pick es) (f e) (picked_above pick f (number_of e) es r.0) (picked_rising pick f es r.1)

pub picked_rise : (pick : ContactEntry → Option ContactKey) → PicksKeys pick → (es : List ContactEntry) → AreKeysRising es → AreRising (filter_map pick es)
picked_rise pick f es h = increasing_from_rising (map key_number (filter_map pick es)) (picked_rising pick f es (rising_from_increasing (map number_of es) h))

pub unless_step : (t : Bool) (k j : ContactKey) → cond t None (Some j) ≡ Some k → key_number k ≡ key_number j
unless_step true k j h = cc
unless_step false k j h = cc

pub if_step : (t : Bool) (o : Option ContactKey) (k j : ContactKey) → (o ≡ Some k → key_number k ≡ key_number j) → cond t o None ≡ Some k → key_number k ≡ key_number j
if_step true o k j f h = f h
if_step false o k j f h = cc

pub keys_not_in_rise : (others es : List ContactEntry) → AreKeysRising es → AreRising (keys_not_in others es)
unfolding key_unless_in key_unless
keys_not_in_rise others es h = picked_rise (key_unless_in others) (λ e k q. unless_step _ k e.key q) es h

pub keys_touching_rise : (others es : List ContactEntry) → AreKeysRising es → AreRising (keys_touching_only_in others es)
unfolding key_if_touching key_if_new
keys_touching_rise others es h = picked_rise (key_if_touching others) (λ e k q. if_step _ _ k e.key (unless_step _ k e.key) q) es h

-- ---- one more entry

one_picked : (o : Option ContactKey) → cons_option o [] ≡ option_to_list o
one_picked None = refl
one_picked (Some k) = refl

pub picked_more : (pick : ContactEntry → Option ContactKey) (es : List ContactEntry) (e : ContactEntry) (o : Option ContactKey) → pick e ≡ o → filter_map pick (es ++ e ∷ []) ≡ filter_map pick es ++ option_to_list o
picked_more pick es e o h = filter_map-append pick es (e ∷ []) ∙ ap (λ (ks : List ContactKey). filter_map pick es ++ ks) (one_picked (pick e) ∙ ap (λ (p : Option ContactKey). option_to_list p) h)

pub not_in_more : (others es : List ContactEntry) (e : ContactEntry) (found : Option ContactEntry) → found ≡ lookup others e.key → keys_not_in others (es ++ e ∷ []) ≡ keys_not_in others es ++ option_to_list (key_unless found e)
unfolding key_unless_in
not_in_more others es e found h = picked_more (key_unless_in others) es e (key_unless found e) (rw h refl)

pub touching_more : (others es : List ContactEntry) (e : ContactEntry) (found : Option ContactEntry) → found ≡ lookup others e.key → keys_touching_only_in others (es ++ e ∷ []) ≡ keys_touching_only_in others es ++ option_to_list (key_if_new found e)
unfolding key_if_touching
touching_more others es e found h = picked_more (key_if_touching others) es e (key_if_new found e) (rw h refl)

-- the contact of a pair, whose contact until now is given
abbrev pub pair_entry : Option ContactEntry → List Proxy → ℕ → ContactEntry
pair_entry old ps code = entry_with old (proxy_at ps (first_place code)) (proxy_at ps (second_place code))

-- the entry of a pair, of the contact that was found with its key
pub pair_entry_is : (old : List ContactEntry) (ps : List Proxy) (code : ℕ) (found : Option ContactEntry) → found ≡ lookup old (pair_key ps code) → pair_entry found ps code ≡ entry_at old ps code
unfolding entry_of
pair_entry_is old ps code found h = rw h refl

pub pair_entry_key : (ps : List Proxy) (code : ℕ) (found : Option ContactEntry) → (pair_entry found ps code).key ≡ pair_key ps code
unfolding entry_with
pair_entry_key ps code found = refl

pub contacts_more : (old : List ContactEntry) (ps : List Proxy) (codes : List ℕ) (code : ℕ) (found : Option ContactEntry) → found ≡ lookup old (pair_key ps code) → contacts_of old ps (codes ++ code ∷ []) ≡ contacts_of old ps codes ++ pair_entry found ps code ∷ []
contacts_more old ps codes code found h = map-append (entry_at old ps) codes (code ∷ []) ∙ ap (λ (e : ContactEntry). contacts_of old ps codes ++ e ∷ []) (sym (pair_entry_is old ps code found h))

-- the keys of one more entry, of the contact that was found with its key
pub not_in_step : (others es fs : List ContactEntry) (e : ContactEntry) (found : Option ContactEntry) (keys more : List ContactKey) → fs ≡ es ++ e ∷ [] → found ≡ lookup others e.key → keys ≡ keys_not_in others es → more ≡ keys ++ option_to_list (key_unless found e) → more ≡ keys_not_in others fs
not_in_step others es fs e found keys more p h a b = b ∙ ap (λ (ks : List ContactKey). ks ++ option_to_list (key_unless found e)) a ∙ sym (not_in_more others es e found h) ∙ ap (keys_not_in others) (sym p)

pub touching_step : (others es fs : List ContactEntry) (e : ContactEntry) (found : Option ContactEntry) (keys more : List ContactKey) → fs ≡ es ++ e ∷ [] → found ≡ lookup others e.key → keys ≡ keys_touching_only_in others es → more ≡ keys ++ option_to_list (key_if_new found e) → more ≡ keys_touching_only_in others fs
touching_step others es fs e found keys more p h a b = b ∙ ap (λ (ks : List ContactKey). ks ++ option_to_list (key_if_new found e)) a ∙ sym (touching_more others es e found h) ∙ ap (keys_touching_only_in others) (sym p)

pub contacts_step : (old : List ContactEntry) (ps : List Proxy) (codes : List ℕ) (k : ℕ) (found : Option ContactEntry) (now more : List ContactEntry) → k < length codes → found ≡ lookup old (pair_key ps (get_or codes k 0)) → now ≡ contacts_of old ps (take k codes) → more ≡ now ++ pair_entry found ps (get_or codes k 0) ∷ [] → more ≡ contacts_of old ps (take (k + 1) codes)
contacts_step old ps codes k found now more lt h a b =
    b ∙ ap (λ (es : List ContactEntry). es ++ pair_entry found ps (get_or codes k 0) ∷ []) a ∙ sym (contacts_more old ps (take k codes) (get_or codes k 0) found h) ∙ ap (contacts_of old ps) (sym (take_more codes k 0 lt))
