-- Which contacts are those of which a body may stir, by their places, and that the others stay as they are.
use Rattle.std.proofs.Common.{◌≡◌, ℕ, zero, suc, ◌+◌, ◌<◌, ◌≤◌, ◌||◌, ◌&&◌, List, [], ◌∷◌, ◌++◌, length, map, drop, get_or, Bool, true, false, true≢false, cond, Option, Some, None, ◌⊎◌, inl, inr, refl, sym, ap, ◌∙◌, subst, arith, add-one}
use Rattle.std.specs.Prelude.{◌/◌, All, slice_get}
use Rattle.std.specs.List.{Contains}
use Rattle.std.proofs.lemmas.List.Elements.{All-contains}
use Rattle.std.proofs.lemmas.Option.{none-some, same_Some}
use Rattle.contacts_base.specs.declared.near.Proxy.{Proxy}
use Rattle.contacts_base.specs.declared.key.ContactKey.{ContactKey}
use Rattle.contacts_base.specs.declared.key.ShapeId.{ShapeId}
use Rattle.contacts_base.specs.declared.contact.Contact.{Contact}
use Rattle.contacts_base.specs.declared.contact.ContactEntry.{ContactEntry}
use Rattle.contacts_base.specs.ContactLists.{contact_set}
use Rattle.contacts_base.specs.Evaluate.{touches}
use Rattle.contacts_base.specs.Keys.{id_number}
use Rattle.contacts_base.specs.declared.split.Renewal.{Renewal}
use Rattle.contacts_base.specs.declared.body_pair.BodyPair.{BodyPair}
use Rattle.contacts_base.specs.Changes.{key_if_new}
use Rattle.contacts.specs.Known.{again, either_moved, found, stays}
use Rattle.contacts.specs.declared.stirring.Stirring.{Stirring}
use Rattle.contacts.specs.Stirring.{AreHeld, AreQuiet, AreStirring, HaveKeys, is_flagged, one_flagged, passed_by}
use Rattle.contacts_base.specs.Split.{Split, counting_at, is_over, places_from, unless_over}
use Rattle.contacts.specs.Fates.{moved_by, one_stirs_of, outcome, stirs_in}
use Rattle.contacts_base.specs.Split.{renewed}
use Rattle.contacts_base.proofs.MergeLaws.{drop_next}
use Rattle.contacts.proofs.FateLemmas.{still_again}
use Rattle.packed_sets.specs.Marks.{AreListed}

-- ---- one that stays as it is begins and ends nothing

twice : (t : Bool) (o : Option ContactKey) → None ≡ cond t (cond t None o) None
twice true o = refl
twice false o = refl

pub none_new : (e : ContactEntry) → None ≡ key_if_new (Some e) e
unfolding key_if_new
none_new e = twice (touches e.contact) (Some e.key)

-- ---- the place after the last of some places

pub passed_more : (n : ℕ) (ks : List ℕ) (k : ℕ) → passed_by n (ks ++ k ∷ []) ≡ suc k
passed_more n [] k = refl
passed_more n (j ∷ ks) k = passed_more (suc j) ks k

-- ---- those of which no body is flagged stay as they are

stays_still : (moved near : Bool) → moved ≡ false → cond moved near true ≡ true
stays_still moved near h = rw h refl

stays_so : (t : Bool) (a e : ContactEntry) → t ≡ true → a ≡ e → cond t (Some a) None ≡ Some e
stays_so t a e h q = rw (h, q) refl

pub quiet_outcome : (moved : ℕ → Bool) (pairs : List BodyPair) (ps : List Proxy) (e : ContactEntry) → either_moved moved e.key ≡ false → one_stirs_of ps e.key ≡ false → outcome moved pairs ps e ≡ Some e
quiet_outcome moved pairs ps e a b = stays_so (stays moved pairs ps e) (again ps e) e (stays_still (either_moved moved e.key) _ a) (still_again ps e b)

-- ---- the places are listed

wanted_step : (t : Bool) (k : ℕ) (ks rest : List ℕ) → (ks ++ cond t (k ∷ []) []) ++ rest ≡ ks ++ cond t (k ∷ rest) rest
wanted_step true k [] rest = refl
wanted_step false k [] rest = refl
wanted_step true k (j ∷ ks) rest = ap (λ (l : List ℕ). j ∷ l) (wanted_step true k ks rest)
wanted_step false k (j ∷ ks) rest = ap (λ (l : List ℕ). j ∷ l) (wanted_step false k ks rest)

pub listed_step : (test : ContactEntry → Bool) (es : List ContactEntry) (k : ℕ) (e d : ContactEntry) (t : Bool) (ks more whole : List ℕ) → k < length es → e ≡ get_or es k d → t ≡ test e → more ≡ ks ++ cond t (k ∷ []) [] → (ks ++ places_from test k (drop k es)) ≡ whole → (more ++ places_from test (k + 1) (drop (k + 1) es)) ≡ whole
listed_step test es k e d t ks more whole lt is tests added so =
    let head : drop k es ≡ e ∷ drop (suc k) es = drop_next es k d lt ∙ ap (λ (x : ContactEntry). x ∷ drop (suc k) es) (sym is) in
    rw add-one (ap (λ (l : List ℕ). l ++ places_from test (suc k) (drop (suc k) es)) added ∙ wanted_step t k ks (places_from test (suc k) (drop (suc k) es)) ∙ ap (λ (b : Bool). ks ++ cond b (k ∷ places_from test (suc k) (drop (suc k) es)) (places_from test (suc k) (drop (suc k) es))) tests ∙ ap (λ (l : List ContactEntry). ks ++ places_from test k l) (sym head) ∙ so)

-- ---- contacts with the same keys have the same places

same_head : (f e : ContactEntry) (fs es : List ContactEntry) → f.key ∷ map (λ e. e.key) fs ≡ e.key ∷ map (λ e. e.key) es → f.key ≡ e.key
same_head f e fs es h = cc

same_tail : (f e : ContactEntry) (fs es : List ContactEntry) → f.key ∷ map (λ e. e.key) fs ≡ e.key ∷ map (λ e. e.key) es → map (λ e. e.key) fs ≡ map (λ e. e.key) es
same_tail f e fs es h = cc

pub same_places : (flags : List Bool) (lets_in : ContactKey → Bool) (n : ℕ) (es fs : List ContactEntry) → map (λ e. e.key) fs ≡ map (λ e. e.key) es → places_from (λ e. one_flagged flags e && lets_in e.key) n fs ≡ places_from (λ e. one_flagged flags e && lets_in e.key) n es
same_places flags lets_in n [] [] h = refl
same_places flags lets_in n [] (f ∷ fs) h = cc
same_places flags lets_in n (e ∷ es) [] h = cc
same_places flags lets_in n (e ∷ es) (f ∷ fs) h =
    let test : ContactEntry → Bool = λ x. one_flagged flags x && lets_in x.key in
    let key : f.key ≡ e.key = same_head f e fs es h in
    let rest : places_from test (suc n) fs ≡ places_from test (suc n) es = same_places flags lets_in (suc n) es fs (same_tail f e fs es h) in
    ap (λ (l : List ℕ). cond (test f) (n ∷ l) l) rest ∙ ap (λ (k : ContactKey). cond ((is_flagged flags k.first.slot || is_flagged flags k.second.slot) && lets_in k) (n ∷ places_from test (suc n) es) (places_from test (suc n) es)) key

later_set : (i : ℕ) (c : Contact) (e : ContactEntry) (es : List ContactEntry) (o : Option ContactEntry) → contact_set (suc i) c (e ∷ es) o ≡ e ∷ contact_set i c es o
later_set i c e es None = refl
later_set i c e es (Some f) = refl

pub set_keys : (es : List ContactEntry) (i : ℕ) (c : Contact) → map (λ e. e.key) (contact_set i c es (slice_get es i)) ≡ map (λ e. e.key) es
set_keys [] i c = refl
set_keys (e ∷ es) zero c = refl
set_keys (e ∷ es) (suc i) c = ap (λ (l : List ContactEntry). map (λ f. f.key) l) (later_set i c e es (slice_get es i)) ∙ ap (λ (l : List ContactKey). e.key ∷ l) (set_keys es i c)

pub renewed_keys : (rs : List Renewal) (es : List ContactEntry) → map (λ e. e.key) (renewed rs es) ≡ map (λ e. e.key) es
renewed_keys [] es = refl
renewed_keys (r ∷ rs) es = renewed_keys rs (contact_set r.place r.contact es (slice_get es r.place)) ∙ set_keys es r.place r.contact

-- a contact that counts had its key where it is, and counted
counted_before : (c d : Split) (place : ℕ) (e : ContactEntry) → HaveKeys c d → counting_at d place ≡ Some e → (f : ContactEntry) × ((counting_at c place ≡ Some f) × (f.key ≡ e.key))
counted_before c d place e have at = by (is_over d.over place) refl (is_over c.over place) refl (same_key d.long c.long place e have.keys)
  where
    same_key : (es fs : List ContactEntry) (place : ℕ) (e : ContactEntry) → map (λ (x : ContactEntry). x.key) es ≡ map (λ (x : ContactEntry). x.key) fs → slice_get es place ≡ Some e → (f : ContactEntry) × ((slice_get fs place ≡ Some f) × (f.key ≡ e.key))
    same_key [] fs place e h at = absurd (none-some e at)
    same_key (x ∷ es) [] place e h at = cc
    same_key (x ∷ es) (y ∷ fs) zero e h at = (y, (refl, sym (same_head x y es fs h) ∙ ap (λ (z : ContactEntry). z.key) (same_Some x e at)))
    same_key (x ∷ es) (y ∷ fs) (suc place) e h at = same_key es fs place e (same_tail x y es fs h) at

    by : (t : Bool) → is_over d.over place ≡ t → (u : Bool) → is_over c.over place ≡ u → (slice_get d.long place ≡ Some e → (f : ContactEntry) × ((slice_get c.long place ≡ Some f) × (f.key ≡ e.key))) → (f : ContactEntry) × ((counting_at c place ≡ Some f) × (f.key ≡ e.key))
    by true on u was there = absurd (none-some e (ap (λ (b : Bool). unless_over b (slice_get d.long place)) (sym on) ∙ at))
    by false off true was there = absurd (true≢false (sym (have.over place was) ∙ off))
    by false off false was there =
        let found : (f : ContactEntry) × ((slice_get c.long place ≡ Some f) × (f.key ≡ e.key)) = there (ap (λ (b : Bool). unless_over b (slice_get d.long place)) (sym off) ∙ at) in
        (found.0, (ap (λ (b : Bool). unless_over b (slice_get c.long place)) was ∙ found.1.0, found.1.1))

-- the places that are held serve for all contacts with the same keys
pub held_over : (s : Stirring) (c d : Split) → AreHeld s c → HaveKeys c d → AreHeld s d
held_over s c d held have = record {
  flagged = held.flagged;
  places = λ h.
      let are : AreStirring s.flags.items c s.places.items = held.places h in
      record {
        lets_in = are.lets_in;
        is = are.is ∙ sym (same_places s.flags.items are.lets_in 0 c.long d.long have.keys);
        counts = λ place e at.
            let was : (f : ContactEntry) × ((counting_at c place ≡ Some f) × (f.key ≡ e.key)) = counted_before c d place e have at in
            ap are.lets_in (sym was.1.1) ∙ are.counts place was.0 was.1.0;
      };
}

-- all places serve, whatever is over
and_true : (t : Bool) → t ≡ (t && true)
and_true true = refl
and_true false = refl

pub let_all_in : (flags : List Bool) (e : ContactEntry) (t : Bool) → t ≡ one_flagged flags e → t ≡ (one_flagged flags e && true)
let_all_in flags e t h = h ∙ and_true (one_flagged flags e)

-- ---- the flags have all that stirs and all that is marked

slot_is : (i : ShapeId) → i.index < 256 → id_number i / 256 ≡ i.slot
slot_is i small = omega arith

is_false : (t : Bool) → (t ≡ true → ⊥) → t ≡ false
is_false true f = absurd (f refl)
is_false false f = refl

first_false : (s t : Bool) → (s || t) ≡ false → s ≡ false
first_false true t h = cc
first_false false t h = refl

second_false : (s t : Bool) → (s || t) ≡ false → t ≡ false
second_false true t h = cc
second_false false t h = h

neither_moved : (s t : Bool) → s ≡ false → t ≡ false → cond s true t ≡ false
neither_moved s t a b = rw (a, b) refl

neither_stirs : (s t : Bool) → s ≡ false → t ≡ false → (s || t) ≡ false
neither_stirs s t a b = rw (a, b) refl

-- a slot that is flagged where it is listed isn't listed where it isn't flagged
unlisted : (flags : List Bool) (slots : List ℕ) (slot : ℕ) → All (λ s. is_flagged flags s ≡ true) slots → is_flagged flags slot ≡ false → Contains slots slot → ⊥
unlisted flags slots slot all h has = let a : is_flagged flags slot ≡ true = All-contains (λ s. is_flagged flags s ≡ true) slots slot all has in cc

within_flags : (flags : List Bool) (slot : ℕ) → get_or flags slot true ≡ false → slot < length flags
within_flags [] slot h = cc
within_flags (x ∷ flags) zero h = omega arith
within_flags (x ∷ flags) (suc slot) h = let lt : slot < length flags = within_flags flags slot h in omega arith

not_moved : (flags marks : List Bool) (marked : List ℕ) (i : ShapeId) → AreListed marks marked → length flags ≤ length marks → All (λ s. is_flagged flags s ≡ true) marked → i.index < 256 → is_flagged flags i.slot ≡ false → moved_by marks (id_number i) ≡ false
not_moved flags marks marked i listed few all small h =
    let inside : i.slot < length flags = within_flags flags i.slot h in
    is_false (moved_by marks (id_number i)) (λ t. unlisted flags marked i.slot all h (listed.all i.slot (omega arith) (ap (λ (n : ℕ). get_or marks n true) (sym (slot_is i small)) ∙ t)))

not_stirring : (flags : List Bool) (awake carried : List ℕ) (ps : List Proxy) (i : ShapeId) → All (λ s. is_flagged flags s ≡ true) awake → All (λ s. is_flagged flags s ≡ true) carried → ((n : ℕ) → stirs_in (found ps n) ≡ true → Contains awake (n / 256) ⊎ Contains carried (n / 256)) → i.index < 256 → is_flagged flags i.slot ≡ false → stirs_in (found ps (id_number i)) ≡ false
not_stirring flags awake carried ps i all both stirring small h =
    is_false (stirs_in (found ps (id_number i))) (λ t. elim (stirring (id_number i) t) [
      | inl a ↦ unlisted flags awake i.slot all h (subst (λ (n : ℕ). Contains awake n) (slot_is i small) a)
      | inr b ↦ unlisted flags carried i.slot both h (subst (λ (n : ℕ). Contains carried n) (slot_is i small) b)
    ])

pub quiet_if : (flags marks : List Bool) (marked awake carried : List ℕ) (ps : List Proxy) → AreListed marks marked → length flags ≤ length marks → All (λ s. is_flagged flags s ≡ true) marked → All (λ s. is_flagged flags s ≡ true) awake → All (λ s. is_flagged flags s ≡ true) carried → ((n : ℕ) → stirs_in (found ps n) ≡ true → Contains awake (n / 256) ⊎ Contains carried (n / 256)) → AreQuiet flags marks ps
quiet_if flags marks marked awake carried ps listed few all moving both stirring = λ e key h.
    let a : is_flagged flags e.key.first.slot ≡ false = first_false (is_flagged flags e.key.first.slot) (is_flagged flags e.key.second.slot) h in
    let b : is_flagged flags e.key.second.slot ≡ false = second_false (is_flagged flags e.key.first.slot) (is_flagged flags e.key.second.slot) h in (
      neither_moved _ _ (not_moved flags marks marked e.key.first listed few all key.first_index a) (not_moved flags marks marked e.key.second listed few all key.second_index b),
      neither_stirs _ _ (not_stirring flags awake carried ps e.key.first moving both stirring key.first_index a) (not_stirring flags awake carried ps e.key.second moving both stirring key.second_index b),
    )
