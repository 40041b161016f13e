-- The contacts after a collide, from what became of those that there were and from the fresh ones.
use Rattle.std.proofs.Common.{◌≡◌, ℕ, zero, suc, ◌+◌, ◌<◌, ◌≤◌, ◌==◌, List, [], ◌∷◌, ◌++◌, length, map, drop, get_or, Bool, true, false, cond, Option, Some, None, is_some, ◌⊎◌, inl, inr, refl, sym, ap, ◌∙◌, subst, arith, add-one}
use Rattle.std.specs.List.{filter_map, cons_option}
use Rattle.std.specs.List.Sorted.{IsStrictlyIncreasing}
use Rattle.std.proofs.lemmas.Bool.{cases_lt}
use Rattle.std.proofs.lemmas.Bool.Decides.{nat_tests}
use Rattle.contacts_base.specs.declared.near.Proxy.{Proxy}
use Rattle.contacts_base.specs.declared.key.ContactKey.{ContactKey}
use Rattle.contacts_base.specs.declared.contact.ContactEntry.{ContactEntry}
use Rattle.contacts_base.specs.Keys.{id_number, key_number}
use Rattle.contacts_base.specs.Proxies.{IsProxyList}
use Rattle.contacts_base.specs.Contacts.{lookup, AreKeysRising, number_of as entry_number}
use Rattle.contacts_base.specs.ContactLists.{AreContacts}
use Rattle.contacts_base.specs.declared.body_pair.BodyPair.{BodyPair}
use Rattle.contacts_base.specs.Changes.{key_if_new, key_if_touching, keys_touching_only_in}
use Rattle.contacts.specs.ByCodes.{contacts_of, entry_at, allowed_codes}
use Rattle.contacts_base.specs.ChangedKeys.{AreRising}
use Rattle.contacts.specs.Pairs.{pair_key}
use Rattle.contacts.specs.Known.{found, near_key, has_key, IsPairKey, either_moved, IsKnown, all_still, stays, staying, is_fresh, fresh, again_of, again}
use Rattle.contacts_base.specs.Merge.{AreAscending, below_of, merged, put_in}
use Rattle.contacts.specs.declared.fates.Fate.{Fate}
use Rattle.contacts.specs.Fates.{IsAdded, begun_keys, ended_keys, key_if_begun, outcome, after_fate}
use Rattle.contacts_base.proofs.Members.{Each, IsIn, each_in}
use Rattle.contacts_base.proofs.Rising.{IsRising, increasing_from_rising, rising_from_increasing}
use Rattle.contacts.proofs.ForbiddenLemmas.{allowed_are_pairs}
use Rattle.contacts.proofs.ChangeLemmas.{PicksKeys, contacts_rise, if_step, keys_touching_rise, unless_step}
use Rattle.contacts_base.proofs.MergeLaws.{drop_next, is_lower, merged_more, not_lower}
use Rattle.contacts.proofs.KnownLemmas.{IsImage, map_in, filter_in, each_from_all, all_known_after-holds, key_of_entry}
use Rattle.contacts.proofs.PartLemmas.{again_numbers, apart, codes_rise, contacts_in_parts-holds, filter_rises, fresh_apart, lookup_in, stays_is}
use Rattle.contacts.proofs.MergedMembers.{merged_has, merged_is, merged_rises, same_members}
use Rattle.contacts.proofs.SurfaceLemmas.{surfaces_of}

-- ---- what is picked of each is the same

pub picked_same : (pick other : ContactEntry → Option ContactKey) (es : List ContactEntry) → ((e : ContactEntry) → IsIn e es → pick e ≡ other e) → filter_map pick es ≡ filter_map other es
picked_same pick other [] h = refl
picked_same pick other (e ∷ es) h = rw (h e (inl refl), picked_same pick other es (λ f i. h f (inr i))) refl

none_if : (o : Option ContactEntry) → is_some o ≡ false → o ≡ None
none_if None h = refl
none_if (Some e) h = cc

-- ---- where a contact that there was is after the collide

again_key_of : (e : ContactEntry) (o r : Option Proxy) → (again_of e o r).key ≡ e.key
again_key_of e None r = refl
again_key_of e (Some p) None = refl
again_key_of e (Some p) (Some q) = refl

pub again_key : (ps : List Proxy) (e : ContactEntry) → (again ps e).key ≡ e.key
again_key ps e = again_key_of e (found ps (id_number e.key.first)) (found ps (id_number e.key.second))

not_near : (m n : Bool) → cond m n true ≡ false → n ≡ false
not_near true n h = h
not_near false n h = cc

-- the contacts after a collide
abbrev after : List BodyPair → List Proxy → List ContactEntry → List ContactEntry
after pairs ps old = contacts_of old ps (allowed_codes pairs ps)

pub after_rises : (pairs : List BodyPair) (ps : List Proxy) (old : List ContactEntry) → IsProxyList ps → IsRising (map entry_number (after pairs ps old))
after_rises pairs ps old list = rising_from_increasing (map entry_number (after pairs ps old)) (contacts_rise old ps (allowed_codes pairs ps) list (allowed_are_pairs pairs ps list))

lookup_by : (moved : ℕ → Bool) (pairs : List BodyPair) (ps : List Proxy) (old : List ContactEntry) (e : ContactEntry) (t : Bool) → IsProxyList ps → AreKeysRising old → IsKnown moved pairs ps old → IsIn e old → stays moved pairs ps e ≡ t → lookup (after pairs ps old) e.key ≡ cond t (Some (again ps e)) None
lookup_by moved pairs ps old e true list keys known i h =
    let now : List ContactEntry = after pairs ps old in
    let rising : IsRising (map entry_number old) = rising_from_increasing (map entry_number old) keys in
    let there : IsIn (again ps e) now = stays_is moved pairs ps old e list rising known i h in
    ap (lookup now) (sym (again_key ps e)) ∙ lookup_in now (again ps e) (after_rises pairs ps old list) there
lookup_by moved pairs ps old e false list keys known i h =
    let now : List ContactEntry = after pairs ps old in
    let pair : IsPairKey e.key = each_in (λ (f : ContactEntry). IsPairKey f.key) e old (each_from_all old known.keys) i in
    let far : near_key pairs ps e.key ≡ false = not_near (either_moved moved e.key) (near_key pairs ps e.key) h in
    let all : IsKnown all_still pairs ps now = all_known_after-holds pairs ps old list in
    none_if (lookup now e.key) (sym (all.still e.key pair refl) ∙ far)

pub lookup_after : (moved : ℕ → Bool) (pairs : List BodyPair) (ps : List Proxy) (old : List ContactEntry) (e : ContactEntry) → IsProxyList ps → AreKeysRising old → IsKnown moved pairs ps old → IsIn e old → lookup (after pairs ps old) e.key ≡ outcome moved pairs ps e
lookup_after moved pairs ps old e list keys known i = lookup_by moved pairs ps old e (stays moved pairs ps e) list keys known i refl

pub ended_is : (moved : ℕ → Bool) (pairs : List BodyPair) (ps : List Proxy) (old : List ContactEntry) → IsProxyList ps → AreKeysRising old → IsKnown moved pairs ps old → ended_keys moved pairs ps old ≡ keys_touching_only_in (after pairs ps old) old
unfolding key_if_touching
ended_is moved pairs ps old list keys known = picked_same _ _ old (λ e i. ap (λ (o : Option ContactEntry). key_if_new o e) (sym (lookup_after moved pairs ps old e list keys known i)))

-- ---- what is picked of two lists as one

abbrev pub put_option : Option ContactKey → List ContactKey → List ContactKey
put_option None ks = ks
put_option (Some k) ks = put_in key_number k ks

above_pick : (b : ℕ) (o : Option ContactKey) (ks : List ContactKey) → ((k : ContactKey) → o ≡ Some k → b < key_number k) → Each (λ n. b < n) (map key_number ks) → Each (λ n. b < n) (map key_number (cons_option o ks))
above_pick b None ks h a = a
above_pick b (Some k) ks h a = (h k refl, a)

picks_above : (pick : ContactEntry → Option ContactKey) → PicksKeys pick → (b : ℕ) (es : List ContactEntry) → Each (λ n. b < n) (map entry_number es) → Each (λ n. b < n) (map key_number (filter_map pick es))
picks_above pick f b [] a = tt
picks_above pick f b (e ∷ es) a =
    let low : b < entry_number e = a.0 in
    above_pick b (pick e) (filter_map pick es) (λ k h. let same : key_number k ≡ entry_number e = f e k h in omega (arith, low, same)) (picks_above pick f b es a.1)

first_of_keys : (k : ContactKey) (b : ℕ) (ks : List ContactKey) → key_number k ≤ b → Each (λ n. b < n) (map key_number ks) → put_in key_number k ks ≡ k ∷ ks
first_of_keys k b [] h a = refl
first_of_keys k b (j ∷ ks) h a = let low : b < key_number j = a.0 in rw (not_lower (key_number j) (key_number k) (omega (arith, low, h))) refl

-- the new one comes after the entry x
later_pick : (o p : Option ContactKey) (ks : List ContactKey) → ((k j : ContactKey) → o ≡ Some k → p ≡ Some j → key_number j < key_number k) → cons_option p (put_option o ks) ≡ put_option o (cons_option p ks)
later_pick None p ks h = refl
later_pick (Some k) None ks h = refl
later_pick (Some k) (Some j) ks h = rw (is_lower (key_number j) (key_number k) (h k j refl refl)) refl

-- the new one comes before the entry x
sooner_pick : (o p : Option ContactKey) (ks : List ContactKey) (b : ℕ) → ((k : ContactKey) → o ≡ Some k → key_number k ≤ b) → ((j : ContactKey) → p ≡ Some j → key_number j ≡ b) → Each (λ n. b < n) (map key_number ks) → cons_option o (cons_option p ks) ≡ put_option o (cons_option p ks)
sooner_pick None p ks b h q a = refl
sooner_pick (Some k) None ks b h q a = sym (first_of_keys k b ks (h k refl) a)
sooner_pick (Some k) (Some j) ks b h q a =
    let low : key_number k ≤ b = h k refl in
    let same : key_number j ≡ b = q j refl in
    rw (not_lower (key_number j) (key_number k) (omega (arith, low, same))) refl

one_pick : (o : Option ContactKey) → cons_option o [] ≡ put_option o []
one_pick None = refl
one_pick (Some k) = refl

pub picked_put : (pick : ContactEntry → Option ContactKey) → PicksKeys pick → (e : ContactEntry) (es : List ContactEntry) → IsRising (map entry_number es) → filter_map pick (put_in entry_number e es) ≡ put_option (pick e) (filter_map pick es)
picked_put pick f e [] r = one_pick (pick e)
picked_put pick f e (x ∷ es) r = elim (cases_lt (entry_number x) (entry_number e)) [
  | inl less ↦
      rw (is_lower (entry_number x) (entry_number e) less)
      (ap (λ (ks : List ContactKey). cons_option (pick x) ks) (picked_put pick f e es r.1) ∙ later_pick (pick e) (pick x) (filter_map pick es) (λ k j p q.
      let a : key_number k ≡ entry_number e = f e k p in
      let b : key_number j ≡ entry_number x = f x j q in
      omega (arith, a, b, less)))
  | inr more ↦
      rw (not_lower (entry_number x) (entry_number e) more)
      (sooner_pick (pick e) (pick x) (filter_map pick es) (entry_number x) (λ k p. let a : key_number k ≡ entry_number e = f e k p in omega (arith, a, more)) (λ j q. f x j q) (picks_above pick f (entry_number x) es r.0))
]

pub put_cons : (o : Option ContactKey) (ks rs : List ContactKey) → put_option o (merged key_number ks rs) ≡ merged key_number (cons_option o ks) rs
put_cons None ks rs = refl
put_cons (Some k) ks rs = refl

picked_merged : (pick : ContactEntry → Option ContactKey) → PicksKeys pick → (es rs : List ContactEntry) → IsRising (map entry_number es) → IsRising (map entry_number rs) → ((n : ℕ) → IsIn n (map entry_number es) → IsIn n (map entry_number rs) → ⊥) → filter_map pick (merged entry_number es rs) ≡ merged key_number (filter_map pick es) (filter_map pick rs)
picked_merged pick f [] rs r s n = refl
picked_merged pick f (e ∷ es) rs r s n =
    let apart_too : (m : ℕ) → IsIn m (map entry_number es) → IsIn m (map entry_number rs) → ⊥ = λ m i j. n m (inr i) j in
    picked_put pick f e (merged entry_number es rs) (merged_rises entry_number es rs r.1 s apart_too) ∙ ap (λ (ks : List ContactKey). put_option (pick e) ks) (picked_merged pick f es rs r.1 s apart_too) ∙ put_cons (pick e) (filter_map pick es) (filter_map pick rs)

pub touching_picks : (others : List ContactEntry) → PicksKeys (key_if_touching others)
unfolding key_if_touching key_if_new
touching_picks others e k q = if_step _ _ k e.key (unless_step _ k e.key) q

-- ---- both parts

-- the contacts of the fresh pairs, and those that stay, evaluated anew
abbrev pub new_ones : (ℕ → Bool) → List BodyPair → List Proxy → List ContactEntry → List ContactEntry
new_ones moved pairs ps old = contacts_of old ps (fresh moved pairs ps old)

abbrev pub old_ones : (ℕ → Bool) → List BodyPair → List Proxy → List ContactEntry → List ContactEntry
old_ones moved pairs ps old = map (again ps) (staying moved pairs ps old)

pub new_rise : (moved : ℕ → Bool) (pairs : List BodyPair) (ps : List Proxy) (old : List ContactEntry) → IsProxyList ps → IsRising (map entry_number (new_ones moved pairs ps old))
new_rise moved pairs ps old list = codes_rise old ps (is_fresh moved ps old) (allowed_codes pairs ps) (after_rises pairs ps old list)

pub old_rises : (moved : ℕ → Bool) (pairs : List BodyPair) (ps : List Proxy) (es : List ContactEntry) → IsRising (map entry_number es) → IsRising (map entry_number (old_ones moved pairs ps es))
old_rises moved pairs ps es rising = subst (λ (ns : List ℕ). IsRising ns) (sym (again_numbers ps (staying moved pairs ps es))) (filter_rises (stays moved pairs ps) es rising)

old_rise : (moved : ℕ → Bool) (pairs : List BodyPair) (ps : List Proxy) (old : List ContactEntry) → AreKeysRising old → IsRising (map entry_number (old_ones moved pairs ps old))
old_rise moved pairs ps old keys = old_rises moved pairs ps old (rising_from_increasing (map entry_number old) keys)

-- ---- what begins

begun_step : (old : List ContactEntry) (ps : List Proxy) (e : ContactEntry) (t : Bool) (es : List ContactEntry) (ks : List ContactKey) → filter_map (key_if_touching old) (map (again ps) es) ≡ ks → key_if_touching old (again ps e) ≡ key_if_new (Some e) (again ps e) → filter_map (key_if_touching old) (map (again ps) (cond t (e ∷ es) es)) ≡ cons_option (key_if_begun e (cond t (Some (again ps e)) None)) ks
begun_step old ps e true es ks rest first = rw (rest, first) refl
begun_step old ps e false es ks rest first = rest

lookup_known : (old : List ContactEntry) (ps : List Proxy) (e : ContactEntry) → IsRising (map entry_number old) → IsIn e old → key_if_touching old (again ps e) ≡ key_if_new (Some e) (again ps e)
unfolding key_if_touching
lookup_known old ps e rising i = ap (λ (o : Option ContactEntry). key_if_new o (again ps e)) (ap (lookup old) (again_key ps e) ∙ lookup_in old e rising i)

begun_among : (moved : ℕ → Bool) (pairs : List BodyPair) (ps : List Proxy) (old es : List ContactEntry) → IsRising (map entry_number old) → ((e : ContactEntry) → IsIn e es → IsIn e old) → filter_map (key_if_touching old) (map (again ps) (staying moved pairs ps es)) ≡ begun_keys moved pairs ps es
begun_among moved pairs ps old [] rising i = refl
begun_among moved pairs ps old (e ∷ es) rising i = begun_step old ps e (stays moved pairs ps e) (staying moved pairs ps es) (begun_keys moved pairs ps es) (begun_among moved pairs ps old es rising (λ f j. i f (inr j))) (lookup_known old ps e rising (i e (inl refl)))

begun_is : (moved : ℕ → Bool) (pairs : List BodyPair) (ps : List Proxy) (old : List ContactEntry) → AreKeysRising old → keys_touching_only_in old (old_ones moved pairs ps old) ≡ begun_keys moved pairs ps old
begun_is moved pairs ps old keys = begun_among moved pairs ps old old (rising_from_increasing (map entry_number old) keys) (λ e i. i)

pub fresh_none : (moved : ℕ → Bool) (pairs : List BodyPair) (ps : List Proxy) (old : List ContactEntry) (e : ContactEntry) → IsIn e (new_ones moved pairs ps old) → lookup old e.key ≡ None
fresh_none moved pairs ps old e i =
    let m : IsImage (entry_at old ps) e (fresh moved pairs ps old) = map_in (entry_at old ps) e (fresh moved pairs ps old) i in
    let f : IsIn m.from (allowed_codes pairs ps) × (is_fresh moved ps old m.from ≡ true) = filter_in (is_fresh moved ps old) m.from (allowed_codes pairs ps) m.among in
    let none : has_key old (pair_key ps m.from) ≡ false = fresh_apart moved ps old m.from (either_moved moved (pair_key ps m.from)) (has_key old (pair_key ps m.from)) refl f.1 in
    let key : e.key ≡ pair_key ps m.from = ap (λ (f : ContactEntry). f.key) m.is ∙ key_of_entry old ps m.from in
    ap (lookup old) key ∙ none_if (lookup old (pair_key ps m.from)) none

-- the keys of new contacts that touch
fresh_is : (moved : ℕ → Bool) (pairs : List BodyPair) (ps : List Proxy) (old : List ContactEntry) → filter_map (key_if_new None) (new_ones moved pairs ps old) ≡ keys_touching_only_in old (new_ones moved pairs ps old)
unfolding key_if_touching
fresh_is moved pairs ps old = picked_same _ _ (new_ones moved pairs ps old) (λ e i. ap (λ (o : Option ContactEntry). key_if_new o e) (sym (fresh_none moved pairs ps old e i)))

pub begin_is : (moved : ℕ → Bool) (pairs : List BodyPair) (ps : List Proxy) (old : List ContactEntry) → IsProxyList ps → AreKeysRising old → IsKnown moved pairs ps old → merged key_number (filter_map (key_if_new None) (contacts_of old ps (fresh moved pairs ps old))) (begun_keys moved pairs ps old) ≡ keys_touching_only_in old (contacts_of old ps (allowed_codes pairs ps))
begin_is moved pairs ps old list keys known =
    let F : List ContactEntry = new_ones moved pairs ps old in
    let K : List ContactEntry = old_ones moved pairs ps old in
    ap (λ (ks : List ContactKey). merged key_number ks (begun_keys moved pairs ps old)) (fresh_is moved pairs ps old) ∙ ap (λ (ks : List ContactKey). merged key_number (keys_touching_only_in old F) ks) (sym (begun_is moved pairs ps old keys))
    ∙ sym (picked_merged (key_if_touching old) (touching_picks old) F K (new_rise moved pairs ps old list) (old_rise moved pairs ps old keys) (apart moved pairs ps old)) ∙ ap (keys_touching_only_in old) (sym (contacts_in_parts-holds moved pairs ps old list keys known))

-- ---- lists that ascend

below_at : {X : Type 0} (number : X → ℕ) (b : ℕ) (l : List X) → Each (λ n. b < n) (map number l) → (k : ℕ) (d : X) → k < length l → b < number (get_or l k d)
below_at number b [] a k d lt = absurd (omega arith)
below_at number b (x ∷ l) a zero d lt = a.0
below_at number b (x ∷ l) a (suc k) d lt = below_at number b l a.1 k d (omega arith)

pub ascending : {X : Type 0} (number : X → ℕ) (l : List X) → IsRising (map number l) → AreAscending number l
ascending number [] r i j d lt w = absurd (omega arith)
ascending number (x ∷ l) r i zero d lt w = absurd (omega arith)
ascending number (x ∷ l) r zero (suc j) d lt w = below_at number (number x) l r.0 j d (omega arith)
ascending number (x ∷ l) r (suc i) (suc j) d lt w = ascending number l r.1 i j d (omega arith) (omega arith)

pub increasing_ascends : {X : Type 0} (number : X → ℕ) (l : List X) → IsStrictlyIncreasing (map number l) → AreAscending number l
increasing_ascends number l h = ascending number l (rising_from_increasing (map number l) h)

pub begun_ascend : (moved : ℕ → Bool) (pairs : List BodyPair) (ps : List Proxy) (old : List ContactEntry) → AreKeysRising old → AreAscending key_number (begun_keys moved pairs ps old)
begun_ascend moved pairs ps old keys = subst (λ (ks : List ContactKey). AreAscending key_number ks) (begun_is moved pairs ps old keys) (increasing_ascends key_number (keys_touching_only_in old (old_ones moved pairs ps old)) (keys_touching_rise old (old_ones moved pairs ps old) (increasing_from_rising (map entry_number (old_ones moved pairs ps old)) (old_rise moved pairs ps old keys))))

-- ---- the contacts themselves

pub after_are_contacts : (pairs : List BodyPair) (ps : List Proxy) (old : List ContactEntry) → IsProxyList ps → AreContacts old → AreContacts (contacts_of old ps (allowed_codes pairs ps))
after_are_contacts pairs ps old list are = record {
  rising = contacts_rise old ps (allowed_codes pairs ps) list (allowed_are_pairs pairs ps list);
  surfaces = surfaces_of old ps (allowed_codes pairs ps) are.surfaces list (allowed_are_pairs pairs ps list);
}

-- ---- as the code has them

pub begin_from : (moved : ℕ → Bool) (pairs : List BodyPair) (ps : List Proxy) (old new : List ContactEntry) (first second begin : List ContactKey) → IsProxyList ps → AreKeysRising old → IsKnown moved pairs ps old → new ≡ contacts_of old ps (fresh moved pairs ps old) → first ≡ filter_map (key_if_new None) new → second ≡ begun_keys moved pairs ps old → begin ≡ merged key_number first second → begin ≡ keys_touching_only_in old (contacts_of old ps (allowed_codes pairs ps))
begin_from moved pairs ps old new first second begin list keys known made one two is =
    is ∙ ap (λ (l : List ContactKey). merged key_number l second) (one ∙ ap (filter_map (key_if_new None)) made) ∙ ap (λ (l : List ContactKey). merged key_number (filter_map (key_if_new None) (contacts_of old ps (fresh moved pairs ps old))) l) two ∙ begin_is moved pairs ps old list keys known

pub begin_rises : (pairs : List BodyPair) (ps : List Proxy) (old : List ContactEntry) (begin : List ContactKey) → IsProxyList ps → begin ≡ keys_touching_only_in old (contacts_of old ps (allowed_codes pairs ps)) → AreRising begin
begin_rises pairs ps old begin list is = subst AreRising (sym is) (keys_touching_rise old (contacts_of old ps (allowed_codes pairs ps)) (contacts_rise old ps (allowed_codes pairs ps) list (allowed_are_pairs pairs ps list)))

pub end_rises : (pairs : List BodyPair) (ps : List Proxy) (old : List ContactEntry) (end : List ContactKey) → AreKeysRising old → end ≡ keys_touching_only_in (contacts_of old ps (allowed_codes pairs ps)) old → AreRising end
end_rises pairs ps old end keys is = subst AreRising (sym is) (keys_touching_rise (contacts_of old ps (allowed_codes pairs ps)) old keys)

-- ---- the list made anew

rising_drop : (n : ℕ) (es : List ContactEntry) → IsRising (map entry_number es) → IsRising (map entry_number (drop n es))
rising_drop zero es r = r
rising_drop (suc n) [] r = tt
rising_drop (suc n) (e ∷ es) r = rising_drop n es r.1

map_cond : (f : ContactEntry → ContactEntry) (t : Bool) (e : ContactEntry) (es : List ContactEntry) → map f (cond t (e ∷ es) es) ≡ cond t (f e ∷ map f es) (map f es)
map_cond f true e es = refl
map_cond f false e es = refl

merged_fate : (t : Bool) (a : ContactEntry) (es fresh all more whole : List ContactEntry) (place next : ℕ) → AreAscending entry_number (cond t (a ∷ es) es) → AreAscending entry_number fresh → IsAdded (cond t (Some a) None) fresh place next all more
    → (all ++ merged entry_number (cond t (a ∷ es) es) (drop place fresh)) ≡ whole → (more ++ merged entry_number es (drop next fresh)) ≡ whole
merged_fate true a es fresh all more whole place next first second added so =
    merged_more entry_number (a ∷ es) fresh all (all ++ below_of entry_number a (drop place fresh)) more whole 0 place next a a (omega arith) refl first second so refl added.1 added.0
merged_fate false a es fresh all more whole place next first second added so = rw (added.0, added.1) so

-- one more contact has had its fate
pub fate_more : (moved : ℕ → Bool) (pairs : List BodyPair) (ps : List Proxy) (old : List ContactEntry) (k : ℕ) (e d : ContactEntry) (fate : Fate) (new all more whole : List ContactEntry) (place next : ℕ) → k < length old → e ≡ get_or old k d → after_fate e fate ≡ outcome moved pairs ps e → AreKeysRising old → AreAscending entry_number new
    → IsAdded (after_fate e fate) new place next all more → (all ++ merged entry_number (map (again ps) (staying moved pairs ps (drop k old))) (drop place new)) ≡ whole → (more ++ merged entry_number (map (again ps) (staying moved pairs ps (drop (k + 1) old))) (drop next new)) ≡ whole
fate_more moved pairs ps old k e d fate new all more whole place next lt is fates keys rises added so =
    let rest : List ContactEntry = old_ones moved pairs ps (drop (suc k) old) in
    let head : drop k old ≡ e ∷ drop (suc k) old = drop_next old k d lt ∙ ap (λ (x : ContactEntry). x ∷ drop (suc k) old) (sym is) in
    let split : old_ones moved pairs ps (drop k old) ≡ cond (stays moved pairs ps e) (again ps e ∷ rest) rest = ap (λ (l : List ContactEntry). old_ones moved pairs ps l) head ∙ map_cond (again ps) (stays moved pairs ps e) e (staying moved pairs ps (drop (suc k) old)) in
    let from : AreAscending entry_number (old_ones moved pairs ps (drop k old)) = ascending entry_number (old_ones moved pairs ps (drop k old)) (old_rises moved pairs ps (drop k old) (rising_drop k old (rising_from_increasing (map entry_number old) keys))) in
    let first : AreAscending entry_number (cond (stays moved pairs ps e) (again ps e ∷ rest) rest) = subst (λ (l : List ContactEntry). AreAscending entry_number l) split from in
    rw add-one
    (merged_fate (stays moved pairs ps e) (again ps e) rest new all more whole place next first rises (subst (λ (o : Option ContactEntry). IsAdded o new place next all more) fates added) (ap (λ (l : List ContactEntry). all ++ merged entry_number l (drop place new)) (sym split) ∙ so))

swap : {A B : Type 0} → A ⊎ B → B ⊎ A
swap (inl a) = inr a
swap (inr b) = inl b

merged_swaps : (es fs : List ContactEntry) → IsRising (map entry_number es) → IsRising (map entry_number fs) → ((n : ℕ) → IsIn n (map entry_number es) → IsIn n (map entry_number fs) → ⊥) → merged entry_number es fs ≡ merged entry_number fs es
merged_swaps es fs r s n =
    same_members entry_number (merged entry_number es fs) (merged entry_number fs es) (merged_rises entry_number es fs r s n) (merged_rises entry_number fs es s r (λ m i j. n m j i)) (λ k i. merged_has entry_number k fs es (swap (merged_is entry_number k es fs i))) (λ k i. merged_has entry_number k es fs (swap (merged_is entry_number k fs es i)))

all_is : (moved : ℕ → Bool) (pairs : List BodyPair) (ps : List Proxy) (old : List ContactEntry) → IsProxyList ps → AreKeysRising old → IsKnown moved pairs ps old → merged entry_number (old_ones moved pairs ps old) (new_ones moved pairs ps old) ≡ contacts_of old ps (allowed_codes pairs ps)
all_is moved pairs ps old list keys known =
    merged_swaps (old_ones moved pairs ps old) (new_ones moved pairs ps old) (old_rise moved pairs ps old keys) (new_rise moved pairs ps old list) (λ m i j. apart moved pairs ps old m j i) ∙ sym (contacts_in_parts-holds moved pairs ps old list keys known)

pub all_from : (moved : ℕ → Bool) (pairs : List BodyPair) (ps : List Proxy) (old new all : List ContactEntry) → IsProxyList ps → AreKeysRising old → IsKnown moved pairs ps old → new ≡ contacts_of old ps (fresh moved pairs ps old) → all ≡ merged entry_number (map (again ps) (staying moved pairs ps old)) new → all ≡ contacts_of old ps (allowed_codes pairs ps)
all_from moved pairs ps old new all list keys known made are = are ∙ ap (λ (l : List ContactEntry). merged entry_number (old_ones moved pairs ps old) l) made ∙ all_is moved pairs ps old list keys known

-- ---- in the code

pub empty_of : {X : Type 0} (xs : List X) (n : ℕ) (t : Bool) → n ≡ length xs → t ≡ (n == 0) → t ≡ true → xs ≡ []
empty_of [] n t l h e = refl
empty_of (x ∷ xs) n t l h e = let none : n ≡ 0 = grind (arith, nat_tests) in absurd (omega arith)
