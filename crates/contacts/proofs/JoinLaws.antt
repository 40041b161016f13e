-- What a collide makes of the long list of contacts and of the short one makes what it is to make of both.
use Rattle.std.proofs.Common.{◌≡◌, ℕ, suc, ◌<◌, List, [], ◌∷◌, length, map, get_or, Bool, true, false, cond, Option, Some, None, Result, Ok, Err, inl, inr, refl, sym, ap, ◌∙◌, subst, arith}
use Rattle.std.specs.Prelude.{All, IfOk, OnOk, option_map}
use Rattle.std.specs.Option.{ForSome}
use Rattle.std.specs.List.{filter_map, cons_option}
use Rattle.std.proofs.lemmas.Bool.{cases_lt}
use Rattle.contacts_base.specs.declared.near.Proxy.{Proxy}
use Rattle.contacts_base.specs.declared.key.ContactKey.{ContactKey}
use Rattle.contacts_base.specs.declared.contact.ContactEntry.{ContactEntry}
use Rattle.contacts_base.specs.declared.split.Renewal.{Renewal}
use Rattle.contacts_base.specs.Keys.{key_number}
use Rattle.contacts_base.specs.Proxies.{IsProxyList}
use Rattle.contacts_base.specs.Surfaces.{IsSurface}
use Rattle.contacts_base.specs.Contacts.{AreKeysRising, number_of}
use Rattle.contacts_base.specs.ContactLists.{AreContacts}
use Rattle.contacts_base.specs.Merge.{AreAscending, merged, put_in}
use Rattle.contacts_base.specs.Split.{Split, carried, contacts_in, counting, or_kept, over_at, renewed}
use Rattle.contacts_base.proofs.LookupLemmas.{keys_later}
use Rattle.contacts_base.proofs.MergeLaws.{is_lower, not_lower, tail_ascends}
use Rattle.contacts_base.proofs.MergedLaws.{ascends_without, filter_merged, map_merged, merged_none}
use Rattle.contacts_base.specs.declared.body_pair.BodyPair.{BodyPair}
use Rattle.contacts.specs.declared.rebuild.Rebuilt.{Rebuilt}
use Rattle.contacts_base.specs.ByPairs.{contacts_between}
use Rattle.contacts_base.specs.Changes.{key_if_new, keys_touching_only_in}
use Rattle.contacts.specs.ByCodes.{contacts_of, allowed_codes}
use Rattle.contacts.specs.Known.{IsKnown, IsPairKey, again, stays, staying}
use Rattle.contacts.specs.Looked.{AreGoneIf, IsDone, IsLookedOver, IsRebuilt, IsRebuiltIf}
use Rattle.contacts.specs.SurveyValues.{Looks}
use Rattle.contacts.specs.Stirring.{AreQuiet, one_flagged}
use Rattle.contacts.specs.Fates.{begun_keys, ended_keys, gone_keys, key_if_begun, key_if_gone, moved_by, outcome}
use Rattle.contacts.proofs.ByPairsLaws.{contacts_by_codes-holds}
use Rattle.contacts.proofs.ChangeLemmas.{PicksKeys, if_step, picked_rise, picked_rising, unless_step}
use Rattle.contacts.proofs.KnownLemmas.{IsImage, in_map, map_in}
use Rattle.contacts_base.proofs.Members.{Each, IsIn, all_from_each, each_from, each_in}
use Rattle.contacts.proofs.MergedMembers.{merged_has, merged_rises}
use Rattle.contacts.proofs.PartLemmas.{fresh_not_among}
use Rattle.contacts_base.proofs.Rising.{IsRising, increasing_from_rising, rising_from_increasing}
use Rattle.contacts.proofs.StirringLaws.{none_new, quiet_outcome}
use Rattle.contacts.proofs.UpdateLemmas.{after_are_contacts, again_key, all_from, ascending, begin_from, begin_rises, end_rises, ended_is, increasing_ascends, new_ones, new_rise, old_ones, picked_put, put_cons, put_option}

-- ---- three lists as one, in any order

swap_lower : {X : Type 0} (number : X → ℕ) (x e : X) (m : List X) → number x < number e → put_in number x (put_in number e m) ≡ put_in number e (put_in number x m)
swap_lower number x e [] less = rw (not_lower (number e) (number x) (omega (arith, less)), is_lower (number x) (number e) less) refl
swap_lower {X} number x e (y ∷ m) less = elim (cases_lt (number y) (number x)) [
  | inl low ↦ rw (is_lower (number y) (number x) low, is_lower (number y) (number e) (omega (arith, less, low)), is_lower (number y) (number x) low) (ap (λ (l : List X). y ∷ l) (swap_lower number x e m less))
  | inr high ↦ elim (cases_lt (number y) (number e)) [
    | inl under ↦ rw (is_lower (number y) (number e) under, not_lower (number y) (number x) high, is_lower (number x) (number e) less, is_lower (number y) (number e) under) refl
    | inr above ↦ rw (not_lower (number y) (number e) above, not_lower (number y) (number x) high, is_lower (number x) (number e) less, not_lower (number e) (number x) (omega (arith, less)), not_lower (number y) (number e) above) refl
  ]
]

swap_put : {X : Type 0} (number : X → ℕ) (x e : X) (m : List X) → (number x ≡ number e → ⊥) → put_in number x (put_in number e m) ≡ put_in number e (put_in number x m)
swap_put number x e m off = elim (cases_lt (number x) (number e)) [
  | inl less ↦ swap_lower number x e m less
  | inr more ↦ sym (swap_lower number e x m (omega (arith, more, off)))
]

merged_put : {X : Type 0} (number : X → ℕ) (e : X) (l rest : List X) → merged number (put_in number e l) rest ≡ put_in number e (merged number l rest)
merged_put number e [] rest = refl
merged_put number e (x ∷ l) rest = elim (cases_lt (number x) (number e)) [
  | inl less ↦ rw (is_lower (number x) (number e) less) (ap (put_in number x) (merged_put number e l rest) ∙ swap_lower number x e (merged number l rest) less)
  | inr more ↦ rw (not_lower (number x) (number e) more) refl
]

merged_assoc : {X : Type 0} (number : X → ℕ) (es fs rest : List X) → merged number (merged number es fs) rest ≡ merged number es (merged number fs rest)
merged_assoc number [] fs rest = refl
merged_assoc number (e ∷ es) fs rest = merged_put number e (merged number es fs) rest ∙ ap (put_in number e) (merged_assoc number es fs rest)

put_through : {X : Type 0} (number : X → ℕ) (k : X) (es rest : List X) → (IsIn (number k) (map number es) → ⊥) → put_in number k (merged number es rest) ≡ merged number es (put_in number k rest)
put_through number k [] rest off = refl
put_through number k (e ∷ es) rest off = swap_put number k e (merged number es rest) (λ q. off (inl q)) ∙ ap (put_in number e) (put_through number k es rest (λ i. off (inr i)))

-- two lists of which no item of the one has the number of one of the other
merged_through : {X : Type 0} (number : X → ℕ) (ks es rest : List X) → ((n : ℕ) → IsIn n (map number ks) → IsIn n (map number es) → ⊥) → merged number ks (merged number es rest) ≡ merged number es (merged number ks rest)
merged_through number [] es rest off = refl
merged_through number (k ∷ ks) es rest off = ap (put_in number k) (merged_through number ks es rest (λ n i j. off n (inr i) j)) ∙ put_through number k es (merged number ks rest) (off (number k) (inl refl))

-- ---- lists that ascend

over_all : {X : Type 0} (number : X → ℕ) (n : ℕ) (l : List X) → ((k : ℕ) (d : X) → k < length l → n < number (get_or l k d)) → Each (λ m. n < m) (map number l)
over_all number n [] h = tt
over_all number n (x ∷ l) h = (h 0 x (omega arith), over_all number n l (λ k d lt. h (suc k) d (omega (arith, lt))))

rising_of : {X : Type 0} (number : X → ℕ) (l : List X) → AreAscending number l → IsRising (map number l)
rising_of number [] r = tt
rising_of number (x ∷ l) r = (over_all number (number x) l (λ k d lt. r 0 (suc k) d (omega arith) (omega (arith, lt))), rising_of number l (tail_ascends number x l r))

second_ascends : {X : Type 0} (number : X → ℕ) (es fs : List X) → AreAscending number (merged number es fs) → AreAscending number fs
second_ascends number [] fs r = r
second_ascends number (e ∷ es) fs r = second_ascends number es fs (ascends_without number e (merged number es fs) r)

counted_above : (n : ℕ) (o : Bool) (e : ContactEntry) (es : List ContactEntry) → n < number_of e → Each (λ m. n < m) (map number_of es) → Each (λ m. n < m) (map number_of (cond o es (e ∷ es)))
counted_above n true e es lt a = a
counted_above n false e es lt a = (lt, a)

counting_above : (n : ℕ) (over : List Bool) (es : List ContactEntry) → Each (λ m. n < m) (map number_of es) → Each (λ m. n < m) (map number_of (counting over es))
counting_above n over [] a = tt
counting_above n [] (e ∷ es) a = (a.0, counting_above n [] es a.1)
counting_above n (o ∷ over) (e ∷ es) a = counted_above n o e (counting over es) a.0 (counting_above n over es a.1)

counted_rises : (o : Bool) (e : ContactEntry) (es : List ContactEntry) → Each (λ m. number_of e < m) (map number_of es) → IsRising (map number_of es) → IsRising (map number_of (cond o es (e ∷ es)))
counted_rises true e es a r = r
counted_rises false e es a r = (a, r)

counting_rises : (over : List Bool) (es : List ContactEntry) → IsRising (map number_of es) → IsRising (map number_of (counting over es))
counting_rises over [] r = tt
counting_rises [] (e ∷ es) r = (counting_above (number_of e) [] es r.0, counting_rises [] es r.1)
counting_rises (o ∷ over) (e ∷ es) r = counted_rises o e (counting over es) (counting_above (number_of e) over es r.0) (counting_rises over es r.1)

counting_keys : (s : Split) → AreContacts s.long → AreKeysRising (counting s.over s.long)
counting_keys s are = increasing_from_rising (map number_of (counting s.over s.long)) (counting_rises s.over s.long (rising_from_increasing (map number_of s.long) are.rising))

-- ---- what is picked of both lists

picked_both : (pick : ContactEntry → Option ContactKey) → PicksKeys pick → (es rs : List ContactEntry) → AreAscending number_of (merged number_of es rs) → filter_map pick (merged number_of es rs) ≡ merged key_number (filter_map pick es) (filter_map pick rs)
picked_both pick f [] rs r = refl
picked_both pick f (e ∷ es) rs r =
    let rest : AreAscending number_of (merged number_of es rs) = ascends_without number_of e (merged number_of es rs) r in
    picked_put pick f e (merged number_of es rs) (rising_of number_of (merged number_of es rs) rest) ∙ ap (put_option (pick e)) (picked_both pick f es rs rest) ∙ put_cons (pick e) (filter_map pick es) (filter_map pick rs)

new_picks : (o : Option ContactEntry) → PicksKeys (key_if_new o)
unfolding key_if_new
new_picks o e k q = if_step _ _ k e.key (unless_step _ k e.key) q

begun_by : (ps : List Proxy) (e : ContactEntry) (k : ContactKey) (t : Bool) → key_if_begun e (cond t (Some (again ps e)) None) ≡ Some k → key_number k ≡ number_of e
begun_by ps e k true h = new_picks (Some e) (again ps e) k h ∙ ap key_number (again_key ps e)
begun_by ps e k false h = cc

begun_picks : (moved : ℕ → Bool) (pairs : List BodyPair) (ps : List Proxy) → PicksKeys (λ e. key_if_begun e (outcome moved pairs ps e))
begun_picks moved pairs ps e k q = begun_by ps e k (stays moved pairs ps e) q

ended_picks : (moved : ℕ → Bool) (pairs : List BodyPair) (ps : List Proxy) → PicksKeys (λ e. key_if_new (outcome moved pairs ps e) e)
ended_picks moved pairs ps e k q = new_picks (outcome moved pairs ps e) e k q

number_by : (o : Option ContactKey) (e : ContactEntry) (ks : List ContactKey) (es : List ContactEntry) (n : ℕ) → ((k : ContactKey) → o ≡ Some k → key_number k ≡ number_of e) → (IsIn n (map key_number ks) → IsIn n (map number_of es)) → IsIn n (map key_number (cons_option o ks)) → IsIn n (map number_of (e ∷ es))
number_by None e ks es n f h i = inr (h i)
number_by (Some k) e ks es n f h i = elim i [ inl p ↦ inl (p ∙ f k refl) | inr q ↦ inr (h q) ]

picked_number : (pick : ContactEntry → Option ContactKey) → PicksKeys pick → (n : ℕ) (es : List ContactEntry) → IsIn n (map key_number (filter_map pick es)) → IsIn n (map number_of es)
picked_number pick f n [] i = absurd i
picked_number pick f n (e ∷ es) i = number_by (pick e) e (filter_map pick es) es n (f e) (picked_number pick f n es) i

-- ---- the parts of the contacts

first_has : (n : ℕ) (es fs : List ContactEntry) → IsIn n (map number_of es) → IsIn n (map number_of (merged number_of es fs))
first_has n es fs i =
    let m : IsImage number_of n es = map_in number_of n es i in
    subst (λ (k : ℕ). IsIn k (map number_of (merged number_of es fs))) (sym m.is) (in_map number_of m.from (merged number_of es fs) (merged_has number_of m.from es fs (inl m.among)))

second_has : (n : ℕ) (es fs : List ContactEntry) → IsIn n (map number_of fs) → IsIn n (map number_of (merged number_of es fs))
second_has n es fs i =
    let m : IsImage number_of n fs = map_in number_of n fs i in
    subst (λ (k : ℕ). IsIn k (map number_of (merged number_of es fs))) (sym m.is) (in_map number_of m.from (merged number_of es fs) (merged_has number_of m.from es fs (inr m.among)))

kept_both : (moved : ℕ → Bool) (pairs : List BodyPair) (ps : List Proxy) (es fs : List ContactEntry) → AreAscending number_of (merged number_of es fs) → old_ones moved pairs ps (merged number_of es fs) ≡ merged number_of (old_ones moved pairs ps es) (old_ones moved pairs ps fs)
kept_both moved pairs ps es fs r =
    ap (map (again ps)) (filter_merged number_of (stays moved pairs ps) es fs r) ∙ map_merged number_of number_of (again ps) (λ e. ap key_number (again_key ps e)) (staying moved pairs ps es) (staying moved pairs ps fs)

-- the keys of the fresh ones are none of those that there were
new_apart : (moved : ℕ → Bool) (pairs : List BodyPair) (ps : List Proxy) (old es : List ContactEntry) (pick : ContactEntry → Option ContactKey) → PicksKeys pick → ((n : ℕ) → IsIn n (map number_of es) → IsIn n (map number_of old)) → (n : ℕ) → IsIn n (map key_number (filter_map (key_if_new None) (new_ones moved pairs ps old))) → IsIn n (map key_number (filter_map pick es)) → ⊥
new_apart moved pairs ps old es pick f among n i j =
    fresh_not_among moved pairs ps old n (picked_number (key_if_new None) (new_picks None) n (new_ones moved pairs ps old) i) (among n (picked_number pick f n es j))

-- ---- both lists ascend

pub record AreBothAscending (long_begin long_end short_begin short_end : List ContactKey) : Type 0 where
  pub first : AreAscending key_number long_begin
  pub second : AreAscending key_number long_end
  pub third : AreAscending key_number short_begin
  pub fourth : AreAscending key_number short_end

pub new_keys_ascend : (new : List ContactEntry) (keys : List ContactKey) → AreKeysRising new → keys ≡ filter_map (key_if_new None) new → AreAscending key_number keys
new_keys_ascend new keys rises is = subst (AreAscending key_number) (sym is) (increasing_ascends key_number (filter_map (key_if_new None) new) (picked_rise (key_if_new None) (new_picks None) new rises))

pub fresh_rises : (moved : ℕ → Bool) (pairs : List BodyPair) (ps : List Proxy) (old new : List ContactEntry) → IsProxyList ps → new ≡ new_ones moved pairs ps old → AreKeysRising new
fresh_rises moved pairs ps old new list made = subst AreKeysRising (sym made) (increasing_from_rising (map number_of (new_ones moved pairs ps old)) (new_rise moved pairs ps old list))

short_begin_rises : (moved : ℕ → Bool) (pairs : List BodyPair) (ps : List Proxy) (s : Split) → IsProxyList ps → AreContacts s.short → IsRising (map key_number (merged key_number (filter_map (key_if_new None) (new_ones moved pairs ps (contacts_in s))) (begun_keys moved pairs ps s.short)))
short_begin_rises moved pairs ps s list are =
    merged_rises key_number (filter_map (key_if_new None) (new_ones moved pairs ps (contacts_in s))) (begun_keys moved pairs ps s.short) (picked_rising (key_if_new None) (new_picks None) (new_ones moved pairs ps (contacts_in s)) (new_rise moved pairs ps (contacts_in s) list))
    (picked_rising (λ e. key_if_begun e (outcome moved pairs ps e)) (begun_picks moved pairs ps) s.short (rising_from_increasing (map number_of s.short) are.rising))
    (new_apart moved pairs ps (contacts_in s) s.short (λ e. key_if_begun e (outcome moved pairs ps e)) (begun_picks moved pairs ps) (λ n i. second_has n (counting s.over s.long) s.short i))

pub touches_ascend : (moved : ℕ → Bool) (pairs : List BodyPair) (ps : List Proxy) (s : Split) (notes : List Renewal) (ends : List ℕ) (new all : List ContactEntry) (long_begin long_end short_begin short_end : List ContactKey) → IsProxyList ps → AreContacts s.long → AreContacts s.short → new ≡ new_ones moved pairs ps (contacts_in s)
    → IsLookedOver moved pairs ps s notes ends long_begin long_end → IsRebuilt moved pairs ps s.short new all short_begin short_end → AreBothAscending long_begin long_end short_begin short_end
touches_ascend moved pairs ps s notes ends new all long_begin long_end short_begin short_end list long short made looked rebuilt =
    let begin : ContactEntry → Option ContactKey = λ e. key_if_begun e (outcome moved pairs ps e) in
    let end : ContactEntry → Option ContactKey = λ e. key_if_new (outcome moved pairs ps e) e in
    let counted : AreKeysRising (counting s.over s.long) = counting_keys s long in
    record {
      first = subst (AreAscending key_number) (sym looked.begin_is) (increasing_ascends key_number (begun_keys moved pairs ps (counting s.over s.long)) (picked_rise begin (begun_picks moved pairs ps) (counting s.over s.long) counted));
      second = subst (AreAscending key_number) (sym looked.end_is) (increasing_ascends key_number (ended_keys moved pairs ps (counting s.over s.long)) (picked_rise end (ended_picks moved pairs ps) (counting s.over s.long) counted));
      third =
          subst (AreAscending key_number) (sym (rebuilt.begin_is ∙ ap (λ (l : List ContactEntry). merged key_number (filter_map (key_if_new None) l) (begun_keys moved pairs ps s.short)) made))
          (ascending key_number (merged key_number (filter_map (key_if_new None) (new_ones moved pairs ps (contacts_in s))) (begun_keys moved pairs ps s.short)) (short_begin_rises moved pairs ps s list short));
      fourth = subst (AreAscending key_number) (sym rebuilt.end_is) (increasing_ascends key_number (ended_keys moved pairs ps s.short) (picked_rise end (ended_picks moved pairs ps) s.short short.rising));
    }

-- ---- both lists together

each_of : {X : Type 0} (P : X → Type 0) (xs : List X) → All P xs → Each P xs
each_of P [] h = tt
each_of P (x ∷ xs) h = (h 0 x (omega arith), each_of P xs (λ k d lt. h (suc k) d (omega (arith, lt))))

second_contacts : (es fs : List ContactEntry) → AreContacts (merged number_of es fs) → AreContacts fs
second_contacts es fs are =
    let P : ContactEntry → Type 0 = λ e. IsSurface e.surface in
    record {
      rising = increasing_from_rising (map number_of fs) (rising_of number_of fs (second_ascends number_of es fs (keys_later (merged number_of es fs) are.rising)));
      surfaces = all_from_each P fs (each_from P fs (λ x i. each_in P x (merged number_of es fs) (each_of P (merged number_of es fs) are.surfaces) (merged_has number_of x es fs (inr i))));
    }

some_is : {X : Type 0} (a b : X) → Some a ≡ Some b → a ≡ b
some_is a b h = cc

pub for_some_map : {X Y : Type 0} (f : X → Y) (P : Y → Type 0) (o : Option X) → ForSome (option_map f o) P → ForSome o (λ x. P (f x))
for_some_map f P o all = λ x h. all (f x) (ap (option_map f) h)

short_kept : (short : Option (List ContactEntry)) (es fs : List ContactEntry) → AreContacts (merged number_of es (or_kept short fs)) → ForSome short (λ l. AreContacts l)
short_kept None es fs are = λ x h. cc
short_kept (Some l) es fs are = λ x h. subst AreContacts (some_is l x h) (second_contacts es l are)

now_by : (moved : ℕ → Bool) (pairs : List BodyPair) (ps : List Proxy) (s : Split) (notes : List Renewal) (ends : List ℕ) (short : Option (List ContactEntry)) (new all : List ContactEntry) (long_begin long_end short_begin short_end : List ContactKey) → AreContacts (contacts_in s) → IsLookedOver moved pairs ps s notes ends long_begin long_end
    → IsRebuilt moved pairs ps s.short new all short_begin short_end → or_kept short s.short ≡ all → contacts_in (carried notes ends short s) ≡ merged number_of (old_ones moved pairs ps (contacts_in s)) new
now_by moved pairs ps s notes ends short new all long_begin long_end short_begin short_end are looked rebuilt so =
    let long : List ContactEntry = old_ones moved pairs ps (counting s.over s.long) in
    ap (λ (l : List ContactEntry). merged number_of l (or_kept short s.short)) looked.now_is
    ∙ ap (merged number_of long) (so ∙ rebuilt.now_is)
    ∙ sym (merged_assoc number_of long (old_ones moved pairs ps s.short) new)
    ∙ ap (λ (l : List ContactEntry). merged number_of l new) (sym (kept_both moved pairs ps (counting s.over s.long) s.short (keys_later (contacts_in s) are.rising)))

begin_by : (moved : ℕ → Bool) (pairs : List BodyPair) (ps : List Proxy) (s : Split) (notes : List Renewal) (ends : List ℕ) (new all : List ContactEntry) (long_begin long_end short_begin short_end begin : List ContactKey) → AreContacts (contacts_in s) → new ≡ new_ones moved pairs ps (contacts_in s) → IsLookedOver moved pairs ps s notes ends long_begin long_end
    → IsRebuilt moved pairs ps s.short new all short_begin short_end → begin ≡ merged key_number long_begin short_begin → begin ≡ merged key_number (filter_map (key_if_new None) new) (begun_keys moved pairs ps (contacts_in s))
begin_by moved pairs ps s notes ends new all long_begin long_end short_begin short_end begin are made looked rebuilt is =
    let pick : ContactEntry → Option ContactKey = λ e. key_if_begun e (outcome moved pairs ps e) in
    let fresh_keys : List ContactKey = filter_map (key_if_new None) (new_ones moved pairs ps (contacts_in s)) in
    let long : List ContactKey = begun_keys moved pairs ps (counting s.over s.long) in
    let short : List ContactKey = begun_keys moved pairs ps s.short in
    let same : filter_map (key_if_new None) new ≡ fresh_keys = ap (λ (l : List ContactEntry). filter_map (key_if_new None) l) made in
    is
    ∙ ap (λ (l : List ContactKey). merged key_number l short_begin) looked.begin_is
    ∙ ap (merged key_number long) (rebuilt.begin_is ∙ ap (λ (l : List ContactKey). merged key_number l short) same)
    ∙ sym (merged_through key_number fresh_keys long short (new_apart moved pairs ps (contacts_in s) (counting s.over s.long) pick (begun_picks moved pairs ps) (λ n i. first_has n (counting s.over s.long) s.short i)))
    ∙ ap (merged key_number fresh_keys) (sym (picked_both pick (begun_picks moved pairs ps) (counting s.over s.long) s.short (keys_later (contacts_in s) are.rising)))
    ∙ ap (λ (l : List ContactKey). merged key_number l (begun_keys moved pairs ps (contacts_in s))) (sym same)

end_by : (moved : ℕ → Bool) (pairs : List BodyPair) (ps : List Proxy) (s : Split) (notes : List Renewal) (ends : List ℕ) (new all : List ContactEntry) (long_begin long_end short_begin short_end end : List ContactKey) → AreContacts (contacts_in s) → IsLookedOver moved pairs ps s notes ends long_begin long_end → IsRebuilt moved pairs ps s.short new all short_begin short_end → end ≡ merged key_number long_end short_end
    → end ≡ ended_keys moved pairs ps (contacts_in s)
end_by moved pairs ps s notes ends new all long_begin long_end short_begin short_end end are looked rebuilt is =
    let pick : ContactEntry → Option ContactKey = λ e. key_if_new (outcome moved pairs ps e) e in
    is
    ∙ ap (λ (l : List ContactKey). merged key_number l short_end) looked.end_is
    ∙ ap (merged key_number (ended_keys moved pairs ps (counting s.over s.long))) rebuilt.end_is
    ∙ sym (picked_both pick (ended_picks moved pairs ps) (counting s.over s.long) s.short (keys_later (contacts_in s) are.rising))

-- what the collide makes of both lists
after_by : (moved : ℕ → Bool) (pairs : List BodyPair) (ps : List Proxy) (s : Split) (notes : List Renewal) (ends : List ℕ) (short : Option (List ContactEntry)) (new all : List ContactEntry) (long_begin long_end short_begin short_end : List ContactKey) → IsProxyList ps → AreContacts (contacts_in s) → IsKnown moved pairs ps (contacts_in s) → new ≡ new_ones moved pairs ps (contacts_in s)
    → IsLookedOver moved pairs ps s notes ends long_begin long_end → IsRebuilt moved pairs ps s.short new all short_begin short_end → or_kept short s.short ≡ all → contacts_in (carried notes ends short s) ≡ contacts_of (contacts_in s) ps (allowed_codes pairs ps)
after_by moved pairs ps s notes ends short new all long_begin long_end short_begin short_end list are known made looked rebuilt so =
    all_from moved pairs ps (contacts_in s) new (contacts_in (carried notes ends short s)) list are.rising known made (now_by moved pairs ps s notes ends short new all long_begin long_end short_begin short_end are looked rebuilt so)

-- the short list anew is one
pub rebuilt_contacts : (moved : ℕ → Bool) (pairs : List BodyPair) (ps : List Proxy) (s : Split) (notes : List Renewal) (ends : List ℕ) (new all : List ContactEntry) (long_begin long_end short_begin short_end : List ContactKey) → IsProxyList ps → AreContacts (contacts_in s) → IsKnown moved pairs ps (contacts_in s) → new ≡ new_ones moved pairs ps (contacts_in s)
    → IsLookedOver moved pairs ps s notes ends long_begin long_end → IsRebuilt moved pairs ps s.short new all short_begin short_end → AreContacts all
rebuilt_contacts moved pairs ps s notes ends new all long_begin long_end short_begin short_end list are known made looked rebuilt =
    let now : contacts_in (carried notes ends (Some all) s) ≡ contacts_of (contacts_in s) ps (allowed_codes pairs ps) =
    after_by moved pairs ps s notes ends (Some all) new all long_begin long_end short_begin short_end list are known made looked rebuilt refl in
    second_contacts (counting (over_at ends s.over) (renewed notes s.long)) all (subst AreContacts (sym now) (after_are_contacts pairs ps (contacts_in s) list are))

pub done_both : (moved : ℕ → Bool) (pairs : List BodyPair) (ps : List Proxy) (s : Split) (notes : List Renewal) (ends : List ℕ) (short : Option (List ContactEntry)) (new all : List ContactEntry) (long_begin long_end short_begin short_end begin end : List ContactKey) → IsProxyList ps → AreContacts (contacts_in s) → IsKnown moved pairs ps (contacts_in s) → new ≡ new_ones moved pairs ps (contacts_in s)
    → IsLookedOver moved pairs ps s notes ends long_begin long_end → IsRebuilt moved pairs ps s.short new all short_begin short_end → or_kept short s.short ≡ all → begin ≡ merged key_number long_begin short_begin → end ≡ merged key_number long_end short_end → IsDone pairs ps s notes ends short begin end
done_both moved pairs ps s notes ends short new all long_begin long_end short_begin short_end begin end list are known made looked rebuilt so begins finishes =
    let old : List ContactEntry = contacts_in s in
    let now : contacts_in (carried notes ends short s) ≡ contacts_of old ps (allowed_codes pairs ps) =
    after_by moved pairs ps s notes ends short new all long_begin long_end short_begin short_end list are known made looked rebuilt so in
    let all_are : AreContacts (contacts_in (carried notes ends short s)) = subst AreContacts (sym now) (after_are_contacts pairs ps old list are) in
    let begin_is : begin ≡ keys_touching_only_in old (contacts_of old ps (allowed_codes pairs ps)) =
    begin_from moved pairs ps old new (filter_map (key_if_new None) new) (begun_keys moved pairs ps old) begin list are.rising known made refl refl (begin_by moved pairs ps s notes ends new all long_begin long_end short_begin short_end begin are made looked rebuilt begins) in
    let end_is : end ≡ keys_touching_only_in (contacts_of old ps (allowed_codes pairs ps)) old =
    end_by moved pairs ps s notes ends new all long_begin long_end short_begin short_end end are looked rebuilt finishes ∙ ended_is moved pairs ps old list are.rising known in
    let same : contacts_of old ps (allowed_codes pairs ps) ≡ contacts_between pairs ps old = sym (contacts_by_codes-holds pairs ps old list) in
    record {
      short_is = short_kept short (counting (over_at ends s.over) (renewed notes s.long)) s.short all_are;
      contacts = all_are;
      made = record { now_is = now ∙ same; begin_is = begin_is ∙ ap (λ (es : List ContactEntry). keys_touching_only_in old es) same; end_is = end_is ∙ ap (λ (es : List ContactEntry). keys_touching_only_in es old) same };
      begin_rises = begin_rises pairs ps old begin list begin_is;
      end_rises = end_rises pairs ps old end are.rising end_is;
    }

-- what a look found is what is noted
pub looks_found : (moved : ℕ → Bool) (pairs : List BodyPair) (ps : List Proxy) (s : Split) (noted found : Looks) → noted ≡ found → IsLookedOver moved pairs ps s found.notes found.ends found.begin found.end → IsLookedOver moved pairs ps s noted.notes noted.ends noted.begin noted.end
looks_found moved pairs ps s noted found same h = subst (λ (l : Looks). IsLookedOver moved pairs ps s l.notes l.ends l.begin l.end) (sym same) h

-- the short list stays as it is: the keys are those of the long one
pub done_long : (moved : ℕ → Bool) (pairs : List BodyPair) (ps : List Proxy) (s : Split) (notes : List Renewal) (ends : List ℕ) (new : List ContactEntry) (begin end : List ContactKey) → IsProxyList ps → AreContacts s.long → AreContacts s.short → AreContacts (contacts_in s) → IsKnown moved pairs ps (contacts_in s) → new ≡ new_ones moved pairs ps (contacts_in s)
    → IsLookedOver moved pairs ps s notes ends begin end → IsRebuilt moved pairs ps s.short new s.short [] [] → IsDone pairs ps s notes ends None begin end
done_long moved pairs ps s notes ends new begin end list long short are known made looked rebuilt =
    let rise : AreBothAscending begin end [] [] = touches_ascend moved pairs ps s notes ends new s.short begin end [] [] list long short made looked rebuilt in
    done_both moved pairs ps s notes ends None new s.short begin end [] [] begin end list are known made looked rebuilt refl (sym (merged_none key_number begin rise.first)) (sym (merged_none key_number end rise.second))

-- ---- a short list of which no body may stir

still_by : (t : Bool) (ps : List Proxy) (e : ContactEntry) (es fs : List ContactEntry) → cond t (Some (again ps e)) None ≡ Some e → map (again ps) fs ≡ es → map (again ps) (cond t (e ∷ fs) fs) ≡ e ∷ es
still_by true ps e es fs h k = cc
still_by false ps e es fs h k = cc

abbrev AreStill : (ℕ → Bool) → List BodyPair → List Proxy → List ContactEntry → Type 0
AreStill moved pairs ps es = Each (λ e. outcome moved pairs ps e ≡ Some e) es

still_stay : (moved : ℕ → Bool) (pairs : List BodyPair) (ps : List Proxy) (es : List ContactEntry) → AreStill moved pairs ps es → old_ones moved pairs ps es ≡ es
still_stay moved pairs ps [] h = refl
still_stay moved pairs ps (e ∷ es) h = still_by (stays moved pairs ps e) ps e es (staying moved pairs ps es) h.0 (still_stay moved pairs ps es h.1)

none_begin : (moved : ℕ → Bool) (pairs : List BodyPair) (ps : List Proxy) (es : List ContactEntry) → AreStill moved pairs ps es → [] ≡ begun_keys moved pairs ps es
none_begin moved pairs ps [] h = refl
none_begin moved pairs ps (e ∷ es) h = none_begin moved pairs ps es h.1 ∙ ap (λ (o : Option ContactKey). cons_option o (begun_keys moved pairs ps es)) (none_new e ∙ ap (key_if_begun e) (sym h.0))

none_end : (moved : ℕ → Bool) (pairs : List BodyPair) (ps : List Proxy) (es : List ContactEntry) → AreStill moved pairs ps es → [] ≡ ended_keys moved pairs ps es
none_end moved pairs ps [] h = refl
none_end moved pairs ps (e ∷ es) h = none_end moved pairs ps es h.1 ∙ ap (λ (o : Option ContactKey). cons_option o (ended_keys moved pairs ps es)) (none_new e ∙ ap (λ (o : Option ContactEntry). key_if_new o e) (sym h.0))

none_gone : (moved : ℕ → Bool) (pairs : List BodyPair) (ps : List Proxy) (es : List ContactEntry) → AreStill moved pairs ps es → [] ≡ gone_keys moved pairs ps es
none_gone moved pairs ps [] h = refl
none_gone moved pairs ps (e ∷ es) h = none_gone moved pairs ps es h.1 ∙ ap (λ (o : Option ContactEntry). cons_option (key_if_gone e o) (gone_keys moved pairs ps es)) (sym h.0)

quiet_still : (flags marks : List Bool) (pairs : List BodyPair) (ps : List Proxy) (es : List ContactEntry) → AreQuiet flags marks ps → All (λ e. IsPairKey e.key) es → All (λ e. one_flagged flags e ≡ false) es → AreStill (moved_by marks) pairs ps es
quiet_still flags marks pairs ps [] quiet keys off = tt
quiet_still flags marks pairs ps (e ∷ es) quiet keys off =
    let both = quiet e (keys 0 e (omega arith)) (off 0 e (omega arith)) in
    (quiet_outcome (moved_by marks) pairs ps e both.0 both.1, quiet_still flags marks pairs ps es quiet (λ k d lt. keys (suc k) d (omega (arith, lt))) (λ k d lt. off (suc k) d (omega (arith, lt))))

pub short_stays : (flags marks : List Bool) (pairs : List BodyPair) (ps : List Proxy) (short new : List ContactEntry) → AreQuiet flags marks ps → AreContacts short → All (λ e. IsPairKey e.key) short → All (λ e. one_flagged flags e ≡ false) short → new ≡ [] → IsRebuilt (moved_by marks) pairs ps short new short [] []
short_stays flags marks pairs ps short new quiet are keys off none =
    let still : AreStill (moved_by marks) pairs ps short = quiet_still flags marks pairs ps short quiet keys off in
    record {
      now_is = sym (ap (merged number_of (old_ones (moved_by marks) pairs ps short)) none ∙ ap (λ (l : List ContactEntry). merged number_of l []) (still_stay (moved_by marks) pairs ps short still) ∙ merged_none number_of short (keys_later short are.rising));
      begin_is = none_begin (moved_by marks) pairs ps short still ∙ ap (λ (l : List ContactEntry). merged key_number (filter_map (key_if_new None) l) (begun_keys (moved_by marks) pairs ps short)) (sym none);
      end_is = none_end (moved_by marks) pairs ps short still;
    }

pub none_go : (flags marks : List Bool) (pairs : List BodyPair) (ps : List Proxy) (short : List ContactEntry) → AreQuiet flags marks ps → All (λ e. IsPairKey e.key) short → All (λ e. one_flagged flags e ≡ false) short → [] ≡ gone_keys (moved_by marks) pairs ps short
none_go flags marks pairs ps short quiet keys off = none_gone (moved_by marks) pairs ps short (quiet_still flags marks pairs ps short quiet keys off)

-- ---- the keys of both lists

pub long_pairs : (s : Split) → All (λ e. IsPairKey e.key) (contacts_in s) → All (λ e. IsPairKey e.key) (counting s.over s.long)
long_pairs s all =
    let P : ContactEntry → Type 0 = λ e. IsPairKey e.key in
    all_from_each P (counting s.over s.long) (each_from P (counting s.over s.long) (λ x i. each_in P x (contacts_in s) (each_of P (contacts_in s) all) (merged_has number_of x (counting s.over s.long) s.short (inl i))))

pub short_pairs : (s : Split) → All (λ e. IsPairKey e.key) (contacts_in s) → All (λ e. IsPairKey e.key) s.short
short_pairs s all =
    let P : ContactEntry → Type 0 = λ e. IsPairKey e.key in
    all_from_each P s.short (each_from P s.short (λ x i. each_in P x (contacts_in s) (each_of P (contacts_in s) all) (merged_has number_of x (counting s.over s.long) s.short (inr i))))

-- ---- as the code has them

pub rebuilt_none : (moved : ℕ → Bool) (pairs : List BodyPair) (ps : List Proxy) (short same new : List ContactEntry) (o : Option Rebuilt) → same ≡ short → o ≡ None → IsRebuiltIf moved pairs ps same new o → IsRebuilt moved pairs ps short new short [] []
rebuilt_none moved pairs ps short same new o is none h = subst (λ (l : List ContactEntry). IsRebuilt moved pairs ps l new l [] []) is (subst (IsRebuiltIf moved pairs ps same new) none h)

pub rebuilt_some : (moved : ℕ → Bool) (pairs : List BodyPair) (ps : List Proxy) (short same new : List ContactEntry) (o : Option Rebuilt) (r : Rebuilt) → same ≡ short → o ≡ Some r → IsRebuiltIf moved pairs ps same new o → IsRebuilt moved pairs ps short new r.all.items r.touches.begin.items r.touches.end.items
rebuilt_some moved pairs ps short same new o r is some h = subst (λ (l : List ContactEntry). IsRebuilt moved pairs ps l new r.all.items r.touches.begin.items r.touches.end.items) is (subst (IsRebuiltIf moved pairs ps same new) some h)

pub gone_none : (moved : ℕ → Bool) (pairs : List BodyPair) (ps : List Proxy) (short same : List ContactEntry) (o : Option Rebuilt) (gone : List ContactKey) → same ≡ short → o ≡ None → gone ≡ [] → AreGoneIf moved pairs ps same o → gone ≡ gone_keys moved pairs ps short
gone_none moved pairs ps short same o gone is none empty h = empty ∙ subst (AreGoneIf moved pairs ps same) none h ∙ ap (gone_keys moved pairs ps) is

pub gone_some : (moved : ℕ → Bool) (pairs : List BodyPair) (ps : List Proxy) (short same : List ContactEntry) (o : Option Rebuilt) (r : Rebuilt) → same ≡ short → o ≡ Some r → AreGoneIf moved pairs ps same o → r.gone.items ≡ gone_keys moved pairs ps short
gone_some moved pairs ps short same o r is some h = subst (AreGoneIf moved pairs ps same) some h ∙ ap (gone_keys moved pairs ps) is

pub if_ok_both : {X E : Type 0} (P Q R : X → Type 0) (r : Result X E) → ((x : X) → P x → Q x → R x) → IfOk r P → IfOk r Q → IfOk r R
if_ok_both P Q R (Ok x) f p q = f x p q
if_ok_both P Q R (Err e) f p q = tt

pub on_ok_known : {X E : Type 0} (A : Type 0) (r : Result X E) → A → OnOk r A
on_ok_known A (Ok x) a = a
on_ok_known A (Err e) a = tt
