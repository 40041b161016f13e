-- How a collide changes which contacts there are, from the lists that it makes.
use Rattle.std.proofs.Common.{◌≡◌, ◌==◌, ℕ, List, [], ◌∷◌, ◌++◌, map, not, Bool, true, false, cond, Option, Some, None, ◌⊎◌, inl, inr, refl, sym, ap, ◌∙◌, subst}
use Rattle.std.specs.Prelude.{All, Contains, filter, is_some, option_map}
use Rattle.std.specs.List.{cons_option, filter_map}
use Rattle.std.specs.List.Sorted.{IsStrictlyIncreasing}
use Rattle.std.proofs.lemmas.Option.{none-some, same_Some}
use Rattle.contacts_base.specs.declared.near.Proxy.{Proxy}
use Rattle.contacts_base.specs.declared.key.ContactKey.{ContactKey}
use Rattle.contacts_base.specs.declared.contact.ContactEntry.{ContactEntry}
use Rattle.contacts_base.specs.Evaluate.{touches}
use Rattle.contacts_base.specs.Keys.{key_number}
use Rattle.contacts_base.specs.Proxies.{IsProxyList}
use Rattle.contacts_base.specs.Contacts.{AreKeysRising, lookup, number_of}
use Rattle.contacts_base.specs.ContactLists.{AreContacts}
use Rattle.contacts_base.specs.ShortLists.{counted_in}
use Rattle.contacts_base.specs.Split.{Split, contacts_in, counting}
use Rattle.contacts.specs.declared.changes.Changes.{Changes}
use Rattle.contacts_base.specs.declared.body_pair.BodyPair.{BodyPair}
use Rattle.contacts.specs.declared.number_book.NumberedContact.{NumberedContact}
use Rattle.contacts.specs.declared.pending_update.PendingUpdate.{PendingUpdate}
use Rattle.contacts.specs.ByCodes.{contacts_of, allowed_codes, entry_at}
use Rattle.contacts_base.specs.ByPairs.{contacts_between}
use Rattle.contacts_base.specs.ChangedKeys.{AreRising, key_unless, key_unless_in, keys_not_in}
use Rattle.contacts_base.specs.Changes.{key_if_new, key_if_touching, keys_touching_only_in}
use Rattle.contacts.specs.Fates.{IsMade, gone_keys, key_if_gone, outcome}
use Rattle.contacts.specs.Known.{IsKnown, IsPairKey, again, fresh, is_fresh, stays, staying}
use Rattle.contacts.specs.Looked.{IsDone}
use Rattle.contacts.specs.Numbered.{numbered_of}
use Rattle.contacts.specs.NumberChanges.{IsChange, IsNoted, IsThere}
use Rattle.contacts.specs.PendingUpdates.{IsPendingUpdate, KeepLists, after, pending_contacts, whole_or}
use Rattle.contacts.proofs.ByPairsLaws.{contacts_by_codes-holds}
use Rattle.contacts.proofs.JoinLaws.{for_some_map, fresh_rises}
use Rattle.contacts.proofs.KnownLemmas.{IsImage, all_known_after-holds, each_from_all, filter_in, in_filter, in_map, lookup_same, map_in}
use Rattle.contacts_base.proofs.Members.{IsIn, contains_from_in, each_in, in_append, in_from_contains, in_left, in_right}
use Rattle.contacts.proofs.MergedMembers.{merged_has, merged_is}
use Rattle.contacts.proofs.PartLemmas.{contacts_in_parts-holds, filter_rises, key_from, lookup_in}
use Rattle.contacts_base.proofs.Rising.{IsRising, increasing_from_rising, rising_from_increasing}
use Rattle.contacts.proofs.UpdateLemmas.{after_rises, again_key, fresh_none, lookup_after, new_ones, old_ones, touching_picks}
use Rattle.packed_sets.proofs.ItemLaws.{equal_sizes}

-- ---- what is picked of a list

pub record IsPickOf {X Y : Type 0} (pick : X → Option Y) (xs : List X) (y : Y) : Type 0 where
  pub from : X
  pub among : IsIn from xs
  pub is : pick from ≡ Some y

pick_later : {X Y : Type 0} (pick : X → Option Y) (x : X) (xs : List X) (y : Y) → IsPickOf pick xs y → IsPickOf pick (x ∷ xs) y
pick_later pick x xs y p = record { from = p.from; among = inr p.among; is = p.is }

picked_by : {X Y : Type 0} (pick : X → Option Y) (x : X) (o : Option Y) (xs : List X) (y : Y) → pick x ≡ o → (IsIn y (filter_map pick xs) → IsPickOf pick xs y) → IsIn y (cons_option o (filter_map pick xs)) → IsPickOf pick (x ∷ xs) y
picked_by pick x None xs y is f i = pick_later pick x xs y (f i)
picked_by {X} {Y} pick x (Some z) xs y is f i = elim i [ inl same ↦ record { from = x; among = inl refl; is = is ∙ ap (λ (w : Y). Some w) (sym same) } | inr later ↦ pick_later pick x xs y (f later) ]

pub pick_of : {X Y : Type 0} (pick : X → Option Y) (xs : List X) (y : Y) → IsIn y (filter_map pick xs) → IsPickOf pick xs y
pick_of pick [] y i = absurd i
pick_of pick (x ∷ xs) y i = picked_by pick x (pick x) xs y refl (λ j. pick_of pick xs y j) i

in_cons : {Y : Type 0} (o : Option Y) (y : Y) (ys : List Y) → o ≡ Some y → IsIn y (cons_option o ys)
in_cons None y ys h = absurd (none-some y h)
in_cons (Some z) y ys h = inl (sym (same_Some z y h))

in_behind : {Y : Type 0} (o : Option Y) (y : Y) (ys : List Y) → IsIn y ys → IsIn y (cons_option o ys)
in_behind None y ys i = i
in_behind (Some z) y ys i = inr i

pub pick_in : {X Y : Type 0} (pick : X → Option Y) (x : X) (xs : List X) (y : Y) → IsIn x xs → pick x ≡ Some y → IsIn y (filter_map pick xs)
pick_in pick x [] y i h = absurd i
pick_in pick x (z ∷ xs) y i h =
    elim i [
      | inl same ↦ in_cons (pick z) y (filter_map pick xs) (ap pick (sym same) ∙ h)
      | inr later ↦ in_behind (pick z) y (filter_map pick xs) (pick_in pick x xs y later h)
    ]

-- ---- the contact with a key

-- a contact that was looked up
record IsFoundIn (es : List ContactEntry) (key : ContactKey) (f : ContactEntry) : Type 0 where
  among : IsIn f es
  number : number_of f ≡ key_number key

lookup_by : (e : ContactEntry) (es : List ContactEntry) (key : ContactKey) (f : ContactEntry) (t : Bool) → (number_of e == key_number key) ≡ t → (lookup es key ≡ Some f → IsFoundIn es key f) → cond t (Some e) (lookup es key) ≡ Some f → IsFoundIn (e ∷ es) key f
lookup_by e es key f true is rest h =
    let same : e ≡ f = same_Some e f h in
    record { among = inl (sym same); number = ap number_of (sym same) ∙ equal_sizes (number_of e) (key_number key) is }
lookup_by e es key f false is rest h = let r : IsFoundIn es key f = rest h in record { among = inr r.among; number = r.number }

lookup_found : (es : List ContactEntry) (key : ContactKey) (f : ContactEntry) → lookup es key ≡ Some f → IsFoundIn es key f
lookup_found [] key f h = absurd (none-some f h)
lookup_found (e ∷ es) key f h = lookup_by e es key f (number_of e == key_number key) refl (λ g. lookup_found es key f g) h

-- there is none with the key of a contact that is there
no_both : (es : List ContactEntry) (e : ContactEntry) (key : ContactKey) → IsRising (map number_of es) → IsIn e es → e.key ≡ key → lookup es key ≡ None → ⊥
no_both es e key rising i same none = none-some e (sym none ∙ ap (lookup es) (sym same) ∙ lookup_in es e rising i)

-- two contacts of a list with one number are one
pub same_entry : (es : List ContactEntry) (e f : ContactEntry) → IsRising (map number_of es) → IsIn e es → IsIn f es → number_of e ≡ number_of f → e ≡ f
same_entry es e f rising i j same = same_Some e f (sym (lookup_in es e rising i) ∙ lookup_same es e.key f.key same ∙ lookup_in es f rising j)

pair_of : (es : List ContactEntry) (e : ContactEntry) → All (λ x. IsPairKey x.key) es → IsIn e es → IsPairKey e.key
pair_of es e all i = each_in (λ (x : ContactEntry). IsPairKey x.key) e es (each_from_all es all) i

is_there : (es : List ContactEntry) (key : ContactKey) (f : ContactEntry) → All (λ x. IsPairKey x.key) es → IsPairKey key → lookup es key ≡ Some f → IsThere es key
is_there es key f all pair h =
    let r : IsFoundIn es key f = lookup_found es key f h in
    record { entry = f; there = contains_from_in es f r.among; has = key_from f.key key (pair_of es f all r.among) pair r.number }

-- ---- which begin to touch

new_key : (x y : ContactEntry) → touches y.contact ≡ true → touches x.contact ≡ false → key_if_new (Some x) y ≡ Some y.key
unfolding key_if_new
new_key x y on off = rw (on, off) refl

touch_cases : (s t : Bool) (k key : ContactKey) → cond s (cond t None (Some k)) None ≡ Some key → (s ≡ true) × (t ≡ false)
touch_cases true true k key h = absurd (none-some key h)
touch_cases true false k key h = (refl, refl)
touch_cases false t k key h = absurd (none-some key h)

new_touch : (x y : ContactEntry) (key : ContactKey) → key_if_new (Some x) y ≡ Some key → (touches y.contact ≡ true) × (touches x.contact ≡ false)
unfolding key_if_new
new_touch x y key h = touch_cases (touches y.contact) (touches x.contact) y.key key h

touching_is : (others : List ContactEntry) (x y : ContactEntry) → lookup others y.key ≡ Some x → key_if_touching others y ≡ key_if_new (Some x) y
unfolding key_if_touching
touching_is others x y h = ap (λ (o : Option ContactEntry). key_if_new o y) h

touch_in : (others es : List ContactEntry) (x y : ContactEntry) → IsRising (map number_of others) → IsIn x others → IsIn y es → y.key ≡ x.key → touches y.contact ≡ true → touches x.contact ≡ false → Contains (keys_touching_only_in others es) y.key
touch_in others es x y rising i j same on off =
    let there : lookup others y.key ≡ Some x = ap (lookup others) same ∙ lookup_in others x rising i in
    contains_from_in (keys_touching_only_in others es) y.key (pick_in (key_if_touching others) y es y.key j (touching_is others x y there ∙ new_key x y on off))

touch_of : (others es : List ContactEntry) (x y : ContactEntry) (key : ContactKey) → IsRising (map number_of others) → IsRising (map number_of es) → IsIn x others → IsIn y es → y.key ≡ x.key → key ≡ y.key → Contains (keys_touching_only_in others es) key → (touches y.contact ≡ true) × (touches x.contact ≡ false)
touch_of others es x y key first second i j same is h =
    let p : IsPickOf (key_if_touching others) es key = pick_of (key_if_touching others) es key (in_from_contains (keys_touching_only_in others es) key h) in
    let number : number_of p.from ≡ number_of y = sym (touching_picks others p.from key p.is) ∙ ap key_number is in
    let mine : p.from ≡ y = same_entry es p.from y second p.among j number in
    let there : lookup others y.key ≡ Some x = ap (lookup others) same ∙ lookup_in others x first i in
    new_touch x y key (sym (touching_is others x y there) ∙ subst (λ (e : ContactEntry). key_if_touching others e ≡ Some key) mine p.is)

-- ---- a change

-- both lists ascend, and their keys are those of pairs
pub record AreBoth (old new : List ContactEntry) : Type 0 where
  pub old_rises : IsRising (map number_of old)
  pub new_rises : IsRising (map number_of new)
  pub old_keys : All (λ e. IsPairKey e.key) old
  pub new_keys : All (λ e. IsPairKey e.key) new

-- these are the contacts that are made
pub record AreComing (old new entries : List ContactEntry) : Type 0 where
  pub only : (f : ContactEntry) → IsIn f entries → IsIn f new × (lookup old f.key ≡ None)
  pub each : (f : ContactEntry) → IsIn f new → lookup old f.key ≡ None → IsIn f entries

-- the key is that of one that goes
pub record IsGoing (old new : List ContactEntry) (key : ContactKey) : Type 0 where
  pub entry : ContactEntry
  pub among : IsIn entry old
  pub has : entry.key ≡ key
  pub none : lookup new entry.key ≡ None

-- and these are the keys of all that go
pub record AreGoing (old new : List ContactEntry) (gone : List ContactKey) : Type 0 where
  pub only : (key : ContactKey) → Contains gone key → IsGoing old new key
  pub each : (e : ContactEntry) → IsIn e old → lookup new e.key ≡ None → Contains gone e.key

pub change_is : (old new entries : List ContactEntry) (made : List NumberedContact) (gone begin end : List ContactKey) → AreBoth old new → made ≡ map numbered_of entries → AreComing old new entries → AreGoing old new gone → begin ≡ keys_touching_only_in old new → end ≡ keys_touching_only_in new old → IsChange old new made gone begin end
change_is old new entries made gone begin end both is coming going begin_is end_is = record {
  added = λ c h.
      let m : IsImage numbered_of c entries = of_made c h in
      contains_from_in (map numbered_of new) c (subst (λ (x : NumberedContact). IsIn x (map numbered_of new)) (sym m.is) (in_map numbered_of m.from new (coming.only m.from m.among).0));
  fresh = λ c e h i same.
      let m : IsImage numbered_of c entries = of_made c h in
      no_both old e m.from.key both.old_rises (in_from_contains old e i) (same ∙ ap (λ (x : NumberedContact). x.key) m.is) (coming.only m.from m.among).1;
  removed = λ f j h. let g : IsGoing old new f.key = going.only f.key h in no_both new f g.entry.key both.new_rises (in_from_contains new f j) (sym g.has) g.none;
  stay = λ e i. stays_by e (in_from_contains old e i) (lookup new e.key) refl;
  all = λ f j. comes_by f (in_from_contains new f j) (lookup old f.key) refl;
  begins = λ e f i j same on off. subst (λ (l : List ContactKey). Contains l e.key) (sym begin_is) (subst (λ (k : ContactKey). Contains (keys_touching_only_in old new) k) same (touch_in old new e f both.old_rises (in_from_contains old e i) (in_from_contains new f j) same on off));
  begun = λ e f i j same h. touch_of old new e f e.key both.old_rises both.new_rises (in_from_contains old e i) (in_from_contains new f j) same (sym same) (subst (λ (l : List ContactKey). Contains l e.key) begin_is h);
  ends = λ e f i j same off on. subst (λ (l : List ContactKey). Contains l e.key) (sym end_is) (touch_in new old f e both.new_rises (in_from_contains new f j) (in_from_contains old e i) (sym same) on off);
  ended = λ e f i j same h. let t = touch_of new old f e e.key both.new_rises both.old_rises (in_from_contains new f j) (in_from_contains old e i) (sym same) refl (subst (λ (l : List ContactKey). Contains l e.key) end_is h) in (t.1, t.0);
}
  where
    of_made : (c : NumberedContact) → Contains made c → IsImage numbered_of c entries
    of_made c h = map_in numbered_of c entries (in_from_contains (map numbered_of entries) c (subst (λ (l : List NumberedContact). Contains l c) is h))

    stays_by : (e : ContactEntry) → IsIn e old → (o : Option ContactEntry) → lookup new e.key ≡ o → Contains gone e.key ⊎ IsThere new e.key
    stays_by e i None h = inl (going.each e i h)
    stays_by e i (Some f) h = inr (is_there new e.key f both.new_keys (pair_of old e both.old_keys i) h)

    comes_by : (f : ContactEntry) → IsIn f new → (o : Option ContactEntry) → lookup old f.key ≡ o → Contains made (numbered_of f) ⊎ IsThere old f.key
    comes_by f j None h = inl (subst (λ (l : List NumberedContact). Contains l (numbered_of f)) (sym is) (contains_from_in (map numbered_of entries) (numbered_of f) (in_map numbered_of f entries (coming.each f j h))))
    comes_by f j (Some e) h = inr (is_there old f.key e both.old_keys (pair_of new f both.new_keys j) h)

-- the keys of those that are made ascend
numbers_of : (es : List ContactEntry) → map key_number (map (λ (c : NumberedContact). c.key) (map numbered_of es)) ≡ map number_of es
numbers_of [] = refl
numbers_of (e ∷ es) = ap (λ (l : List ℕ). number_of e ∷ l) (numbers_of es)

pub made_rises : (es : List ContactEntry) (made : List NumberedContact) → made ≡ map numbered_of es → AreKeysRising es → AreRising (map (λ (c : NumberedContact). c.key) made)
made_rises es made is rises = subst (λ (l : List NumberedContact). AreRising (map (λ (c : NumberedContact). c.key) l)) (sym is) (subst IsStrictlyIncreasing (sym (numbers_of es)) rises)

-- ---- nothing changes

pub nothing_changes : (es : List ContactEntry) → AreKeysRising es → IsChange es es [] [] [] []
nothing_changes es rises = record {
  added = λ c h. absurd (in_from_contains [] c h);
  fresh = λ c e h i same. in_from_contains [] c h;
  removed = λ f j h. in_from_contains [] f.key h;
  stay = λ e i. inr (record { entry = e; there = i; has = refl });
  all = λ f j. inr (record { entry = f; there = j; has = refl });
  begins = λ e f i j same on off. absurd (differ e f i j same on off);
  begun = λ e f i j same h. absurd (in_from_contains [] e.key h);
  ends = λ e f i j same off on. absurd (differ f e j i (sym same) on off);
  ended = λ e f i j same h. absurd (in_from_contains [] e.key h);
}
  where
    differ : (e f : ContactEntry) → Contains es e → Contains es f → f.key ≡ e.key → touches f.contact ≡ true → touches e.contact ≡ false → ⊥
    differ e f i j same on off =
        let one : f ≡ e = same_entry es f e (rising_from_increasing (map number_of es) rises) (in_from_contains es f j) (in_from_contains es e i) (ap key_number same) in
        let wrong : true ≡ false = sym on ∙ ap (λ (x : ContactEntry). touches x.contact) one ∙ off in
        cc

-- ---- a collide by what is known

known_coming : (moved : ℕ → Bool) (pairs : List BodyPair) (ps : List Proxy) (old : List ContactEntry) → IsProxyList ps → AreKeysRising old → IsKnown moved pairs ps old → AreComing old (contacts_of old ps (allowed_codes pairs ps)) (new_ones moved pairs ps old)
known_coming moved pairs ps old list rises known = record { only = λ f i. (in_all f i, fresh_none moved pairs ps old f i); each = λ f i none. of_all f i none }
  where
    in_all : (f : ContactEntry) → IsIn f (new_ones moved pairs ps old) → IsIn f (contacts_of old ps (allowed_codes pairs ps))
    in_all f i =
        let m : IsImage (entry_at old ps) f (fresh moved pairs ps old) = map_in (entry_at old ps) f (fresh moved pairs ps old) i in
        let g : IsIn m.from (allowed_codes pairs ps) × (is_fresh moved ps old m.from ≡ true) = filter_in (is_fresh moved ps old) m.from (allowed_codes pairs ps) m.among in
        subst (λ (x : ContactEntry). IsIn x (contacts_of old ps (allowed_codes pairs ps))) (sym m.is) (in_map (entry_at old ps) m.from (allowed_codes pairs ps) g.0)

    of_all : (f : ContactEntry) → IsIn f (contacts_of old ps (allowed_codes pairs ps)) → lookup old f.key ≡ None → IsIn f (new_ones moved pairs ps old)
    of_all f i none =
        elim (merged_is number_of f (new_ones moved pairs ps old) (old_ones moved pairs ps old) (subst (λ (l : List ContactEntry). IsIn f l) (contacts_in_parts-holds moved pairs ps old list rises known) i)) [
          | inl a ↦ a
          | inr b ↦
              let m : IsImage (again ps) f (staying moved pairs ps old) = map_in (again ps) f (staying moved pairs ps old) b in
              let g : IsIn m.from old × (stays moved pairs ps m.from ≡ true) = filter_in (stays moved pairs ps) m.from old m.among in
              let key : f.key ≡ m.from.key = ap (λ (x : ContactEntry). x.key) m.is ∙ again_key ps m.from in
              absurd (no_both old m.from f.key (rising_from_increasing (map number_of old) rises) g.0 (sym key) none)
        ]

gone_by : (e : ContactEntry) (o : Option ContactEntry) (key : ContactKey) → key_if_gone e o ≡ Some key → (o ≡ None) × (e.key ≡ key)
gone_by e None key h = (refl, same_Some e.key key h)
gone_by e (Some f) key h = absurd (none-some key h)

known_going : (moved : ℕ → Bool) (pairs : List BodyPair) (ps : List Proxy) (s : Split) (gone : List ContactKey) → IsProxyList ps → AreKeysRising (contacts_in s) → IsKnown moved pairs ps (contacts_in s) → gone ≡ gone_keys moved pairs ps s.short ++ gone_keys moved pairs ps (counting s.over s.long)
    → AreGoing (contacts_in s) (contacts_of (contacts_in s) ps (allowed_codes pairs ps)) gone
known_going moved pairs ps s gone list rises known is = record { only = λ key h. only key h; each = λ e i none. each e i none }
  where
    part : (es : List ContactEntry) (key : ContactKey) → ((x : ContactEntry) → IsIn x es → IsIn x (contacts_in s)) → IsIn key (gone_keys moved pairs ps es) → IsGoing (contacts_in s) (contacts_of (contacts_in s) ps (allowed_codes pairs ps)) key
    part es key within i =
        let p : IsPickOf (λ e. key_if_gone e (outcome moved pairs ps e)) es key = pick_of (λ e. key_if_gone e (outcome moved pairs ps e)) es key i in
        let r : (outcome moved pairs ps p.from ≡ None) × (p.from.key ≡ key) = gone_by p.from (outcome moved pairs ps p.from) key p.is in
        let among : IsIn p.from (contacts_in s) = within p.from p.among in
        record { entry = p.from; among = among; has = r.1; none = lookup_after moved pairs ps (contacts_in s) p.from list rises known among ∙ r.0 }

    only : (key : ContactKey) → Contains gone key → IsGoing (contacts_in s) (contacts_of (contacts_in s) ps (allowed_codes pairs ps)) key
    only key h =
        elim (in_append key (gone_keys moved pairs ps s.short) (gone_keys moved pairs ps (counting s.over s.long)) (in_from_contains (gone_keys moved pairs ps s.short ++ gone_keys moved pairs ps (counting s.over s.long)) key (subst (λ (l : List ContactKey). Contains l key) is h))) [
          | inl a ↦ part s.short key (λ x i. merged_has number_of x (counting s.over s.long) s.short (inr i)) a
          | inr b ↦ part (counting s.over s.long) key (λ x i. merged_has number_of x (counting s.over s.long) s.short (inl i)) b
        ]

    each : (e : ContactEntry) → IsIn e (contacts_in s) → lookup (contacts_of (contacts_in s) ps (allowed_codes pairs ps)) e.key ≡ None → Contains gone e.key
    each e i none =
        let goes : key_if_gone e (outcome moved pairs ps e) ≡ Some e.key = ap (key_if_gone e) (sym (lookup_after moved pairs ps (contacts_in s) e list rises known i) ∙ none) in
        let there : IsIn e.key (gone_keys moved pairs ps s.short ++ gone_keys moved pairs ps (counting s.over s.long)) =
        elim (merged_is number_of e (counting s.over s.long) s.short i) [
          | inl a ↦ in_right e.key (gone_keys moved pairs ps s.short) (gone_keys moved pairs ps (counting s.over s.long)) (pick_in (λ x. key_if_gone x (outcome moved pairs ps x)) e (counting s.over s.long) e.key a goes)
          | inr b ↦ in_left e.key (gone_keys moved pairs ps s.short) (gone_keys moved pairs ps (counting s.over s.long)) (pick_in (λ x. key_if_gone x (outcome moved pairs ps x)) e s.short e.key b goes)
        ] in
        subst (λ (l : List ContactKey). Contains l e.key) (sym is) (contains_from_in (gone_keys moved pairs ps s.short ++ gone_keys moved pairs ps (counting s.over s.long)) e.key there)

-- all that is noted of a collide
pub record AreAllNoted (moved : ℕ → Bool) (pairs : List BodyPair) (ps : List Proxy) (s : Split) (new : List ContactEntry) (was d : PendingUpdate) (begin end : List ContactKey) : Type 0 where
  pub done : IsDone pairs ps s was.notes.items was.ends.items (option_map counted_in was.short) begin end
  pub gone_is : was.gone.items ≡ gone_keys moved pairs ps s.short ++ gone_keys moved pairs ps (counting s.over s.long)
  pub made_is : was.made.items ≡ map numbered_of new
  pub whole_is : was.whole ≡ None
  pub any_is : was.any ≡ true
  pub keep : KeepLists was d
  pub begin_is : d.begin.items ≡ begin
  pub end_is : d.end.items ≡ end

-- what is pending once all is noted
pub record IsAllPending (pairs : List BodyPair) (ps : List Proxy) (s : Split) (d : PendingUpdate) (begin end : List ContactKey) : Type 0 where
  pub pending : IsPendingUpdate d s
  pub made : IsMade pairs ps (contacts_in s) (pending_contacts d s) begin end

pub all_pending : (moved : ℕ → Bool) (pairs : List BodyPair) (ps : List Proxy) (s : Split) (new : List ContactEntry) (was d : PendingUpdate) (begin end : List ContactKey) → IsProxyList ps → AreContacts (contacts_in s) → IsKnown moved pairs ps (contacts_in s) → new ≡ new_ones moved pairs ps (contacts_in s) → AreAllNoted moved pairs ps s new was d begin end
    → IsAllPending pairs ps s d begin end
all_pending moved pairs ps s new was d begin end list are known new_is n =
    let old : List ContactEntry = contacts_in s in
    let now : List ContactEntry = contacts_of old ps (allowed_codes pairs ps) in
    let keep : KeepLists was d = n.keep in
    let done : IsDone pairs ps s d.notes.items d.ends.items (option_map counted_in d.short) begin end = rw (keep.notes, keep.ends, keep.short) n.done in
    let same : contacts_between pairs ps old ≡ now = contacts_by_codes-holds pairs ps old list in
    let pending : pending_contacts d s ≡ contacts_in (after d s) = ap (λ (o : Option Split). contacts_in (whole_or o (after d s))) (keep.whole ∙ n.whole_is) in
    let there : pending_contacts d s ≡ now = pending ∙ done.made.now_is ∙ same in
    let both : AreBoth old now = record { old_rises = rising_from_increasing (map number_of old) are.rising; new_rises = after_rises pairs ps old list; old_keys = known.keys; new_keys = (all_known_after-holds pairs ps old list).keys } in
    let made : d.made.items ≡ map numbered_of (new_ones moved pairs ps old) = keep.made ∙ n.made_is ∙ ap (map numbered_of) new_is in
    let begins : d.begin.items ≡ keys_touching_only_in old now = n.begin_is ∙ done.made.begin_is ∙ ap (λ (es : List ContactEntry). keys_touching_only_in old es) same in
    let finishes : d.end.items ≡ keys_touching_only_in now old = n.end_is ∙ done.made.end_is ∙ ap (λ (es : List ContactEntry). keys_touching_only_in es old) same in
    let change : IsChange old now d.made.items d.gone.items d.begin.items d.end.items =
    change_is old now (new_ones moved pairs ps old) d.made.items d.gone.items d.begin.items d.end.items both made (known_coming moved pairs ps old list are.rising known) (known_going moved pairs ps s d.gone.items list are.rising known (keep.gone ∙ n.gone_is)) begins finishes in
    record {
      pending = record {
        short = for_some_map counted_in (λ es. AreContacts es) d.short done.short_is;
        contacts = done.contacts;
        idle = λ h. let wrong : true ≡ false = sym (keep.any ∙ n.any_is) ∙ h in cc;
        change = subst (λ (l : List ContactEntry). IsChange old l d.made.items d.gone.items d.begin.items d.end.items) (sym there) change;
        rising = made_rises (new_ones moved pairs ps old) d.made.items made (fresh_rises moved pairs ps old (new_ones moved pairs ps old) list refl);
      };
      made = subst (λ (l : List ContactEntry). IsMade pairs ps old l begin end) (sym pending) done.made;
    }

-- ---- a collide by all pairs

-- the others have no contact with the key
lacks : List ContactEntry → ContactEntry → Bool
lacks others e = not (is_some (lookup others e.key))

lacks_by : (o : Option ContactEntry) → not (is_some o) ≡ true → o ≡ None
lacks_by None h = refl
lacks_by (Some e) h = cc

lacks_none : (others : List ContactEntry) (e : ContactEntry) → lacks others e ≡ true → lookup others e.key ≡ None
unfolding lacks
lacks_none others e h = lacks_by (lookup others e.key) h

none_lacks : (others : List ContactEntry) (e : ContactEntry) → lookup others e.key ≡ None → lacks others e ≡ true
unfolding lacks
none_lacks others e h = ap (λ (o : Option ContactEntry). not (is_some o)) h

abbrev made_pick : List ContactEntry → ContactKey → Option NumberedContact
made_pick now key = option_map numbered_of (lookup now key)

made_by : (now : List ContactEntry) (t : Bool) (e : ContactEntry) (keys : List ContactKey) (fs : List ContactEntry) → made_pick now e.key ≡ Some (numbered_of e) → filter_map (made_pick now) keys ≡ map numbered_of fs → filter_map (made_pick now) (cons_option (cond t None (Some e.key)) keys) ≡ map numbered_of (cond (not t) (e ∷ fs) fs)
made_by now true e keys fs h rest = rest
made_by now false e keys fs h rest = ap (λ (o : Option NumberedContact). cons_option o (filter_map (made_pick now) keys)) h ∙ ap (λ (l : List NumberedContact). numbered_of e ∷ l) rest

made_among : (old now es : List ContactEntry) → IsRising (map number_of now) → ((x : ContactEntry) → IsIn x es → IsIn x now) → filter_map (made_pick now) (keys_not_in old es) ≡ map numbered_of (filter (lacks old) es)
unfolding key_unless_in key_unless lacks
made_among old now [] rising within = refl
made_among old now (e ∷ es) rising within =
    made_by now (is_some (lookup old e.key)) e (keys_not_in old es) (filter (lacks old) es) (ap (option_map numbered_of) (lookup_in now e rising (within e (inl refl)))) (made_among old now es rising (λ x i. within x (inr i)))

all_coming : (old now : List ContactEntry) → AreComing old now (filter (lacks old) now)
all_coming old now = record {
  only = λ f i. let g : IsIn f now × (lacks old f ≡ true) = filter_in (lacks old) f now i in (g.0, lacks_none old f g.1);
  each = λ f i none. in_filter (lacks old) f now i (none_lacks old f none);
}

unless_by : (o : Option ContactEntry) (k key : ContactKey) → cond (is_some o) None (Some k) ≡ Some key → (o ≡ None) × (k ≡ key)
unless_by None k key h = (refl, same_Some k key h)
unless_by (Some e) k key h = absurd (none-some key h)

unless_is : (others : List ContactEntry) (e : ContactEntry) (key : ContactKey) → key_unless_in others e ≡ Some key → (lookup others e.key ≡ None) × (e.key ≡ key)
unfolding key_unless_in key_unless
unless_is others e key h = unless_by (lookup others e.key) e.key key h

unless_has : (others : List ContactEntry) (e : ContactEntry) → lookup others e.key ≡ None → key_unless_in others e ≡ Some e.key
unfolding key_unless_in key_unless
unless_has others e h = ap (λ (o : Option ContactEntry). cond (is_some o) None (Some e.key)) h

all_going : (old now : List ContactEntry) (gone : List ContactKey) → gone ≡ keys_not_in now old → AreGoing old now gone
all_going old now gone is = record {
  only = λ key h.
      let p : IsPickOf (key_unless_in now) old key = pick_of (key_unless_in now) old key (in_from_contains (keys_not_in now old) key (subst (λ (l : List ContactKey). Contains l key) is h)) in
      let r : (lookup now p.from.key ≡ None) × (p.from.key ≡ key) = unless_is now p.from key p.is in
      record { entry = p.from; among = p.among; has = r.1; none = r.0 };
  each = λ e i none. subst (λ (l : List ContactKey). Contains l e.key) (sym is) (contains_from_in (keys_not_in now old) e.key (pick_in (key_unless_in now) e old e.key i (unless_has now e none)));
}

-- what is noted of a collide by all pairs is how it changes the contacts
pub record IsNotedChange (old : List ContactEntry) (c : Changes) (made : List NumberedContact) : Type 0 where
  pub change : IsChange old c.now made c.gone.items c.begin.items c.end.items
  pub rising : AreRising (map (λ (x : NumberedContact). x.key) made)

pub noted_change : (old : List ContactEntry) (c : Changes) (made : List NumberedContact) → AreContacts old → IsNoted old c → made ≡ filter_map (λ key. option_map numbered_of (lookup c.now key)) c.made.items → IsNotedChange old c made
noted_change old c made are noted is =
    let first : IsRising (map number_of old) = rising_from_increasing (map number_of old) are.rising in
    let second : IsRising (map number_of c.now) = rising_from_increasing (map number_of c.now) noted.now.rising in
    let both : AreBoth old c.now = record { old_rises = first; new_rises = second; old_keys = noted.keys; new_keys = noted.new_keys } in
    let made_is : made ≡ map numbered_of (filter (lacks old) c.now) = is ∙ ap (filter_map (made_pick c.now)) noted.made ∙ made_among old c.now c.now second (λ x i. i) in
    record {
      change = change_is old c.now (filter (lacks old) c.now) made c.gone.items c.begin.items c.end.items both made_is (all_coming old c.now) (all_going old c.now c.gone.items noted.gone) noted.begin noted.end;
      rising = made_rises (filter (lacks old) c.now) made made_is (increasing_from_rising (map number_of (filter (lacks old) c.now)) (filter_rises (lacks old) c.now second));
    }

-- and the contacts that it makes can take the place of those that there are, whatever was not noted
pub whole_pending : (d : PendingUpdate) (s whole : Split) (c : Changes) → AreContacts (contacts_in s) → IsNoted (contacts_in s) c → d.notes.items ≡ [] → d.ends.items ≡ [] → d.short ≡ None → d.whole ≡ Some whole → contacts_in whole ≡ c.now → d.any ≡ true
    → d.made.items ≡ filter_map (λ key. option_map numbered_of (lookup c.now key)) c.made.items → d.gone.items ≡ c.gone.items → d.begin.items ≡ c.begin.items → d.end.items ≡ c.end.items → IsPendingUpdate d s
whole_pending d s whole c are noted notes ends short whole_is now any made gone begin end =
    let same : after d s ≡ s = rw (notes, ends, short) refl in
    let pending : pending_contacts d s ≡ c.now = ap (λ (o : Option Split). contacts_in (whole_or o (after d s))) whole_is ∙ now in
    let n : IsNotedChange (contacts_in s) c d.made.items = noted_change (contacts_in s) c d.made.items are noted made in
    record {
      short = rw short (λ x is. cc);
      contacts = subst (λ (t : Split). AreContacts (contacts_in t)) (sym same) are;
      idle = λ h. let wrong : true ≡ false = sym any ∙ h in cc;
      change = rw (pending, gone, begin, end) n.change;
      rising = n.rising;
    }
