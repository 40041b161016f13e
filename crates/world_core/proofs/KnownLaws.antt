-- What is known from the contacts stays known under whatever marks all that it changes.
use Rattle.std.proofs.Common.{◌≡◌, ℕ, zero, suc, ◌<◌, ◌≤◌, ◌==◌, ◌||◌, Bool, true, false, cond, not, All, List, [], ◌∷◌, length, map, Option, Some, None, is_some, refl, sym, ap, ◌∙◌, subst, arith}
use Rattle.std.specs.Prelude.{◌/◌, option_map, slice_index_or}
use Rattle.std.proofs.lemmas.Bool.Decides.{nat_tests}
use Rattle.std.proofs.lemmas.List.Elements.{All-weaker}
use Rattle.body_handles.specs.declared.slot_table.TheConstants.{MAX_SLOTS}
use Rattle.contacts.specs.Known.{IsKnown, IsPairKey, all_still, has_key}
use Rattle.contacts.specs.Fates.{moved_by}
use Rattle.contacts.proofs.KnownLemmas.{all_known_after-holds, each_from_all, ids_same, known_stays-holds}
use Rattle.contacts_base.proofs.Members.{Each}
use Rattle.contacts_base.specs.Contacts.{contacts_without, has_slot, lookup, number_of}
use Rattle.contacts_base.specs.Keys.{id_number, key_number}
use Rattle.contacts_base.specs.declared.contact.ContactEntry.{ContactEntry}
use Rattle.contacts_base.specs.declared.key.ContactKey.{ContactKey}
use Rattle.contacts_base.specs.declared.key.ShapeId.{ShapeId}
use Rattle.plain_world.specs.declared.body.Body.{Body}
use Rattle.plain_world.specs.declared.joint.BodyJoint.{BodyJoint}
use Rattle.plain_world.specs.Bodies.{AreBodies}
use Rattle.plain_world.specs.Changes.{changed_at, disabled_body}
use Rattle.plain_world.specs.Joints.{forbidden_pairs}
use Rattle.plain_world.specs.Slots.{body_at}
use Rattle.world_core_base.specs.Awake.{Bodies}
use Rattle.world_core_base.specs.Marked.{AreMarked, AreShownAlike, IsUnchangedAt}
use Rattle.world_core_base.proofs.MarkedLaws.{marked_then}
use Rattle.world_core.specs.Inside.{AreKnown}
use Rattle.world_core.proofs.ForbiddenLaws.{HaveSamePairs}
use Rattle.world_core.proofs.RisingLaws.{after_by_codes, are_proxies}
use Rattle.world_core.proofs.ShownLaws.{near_same}
use Rattle.world_rules.specs.Collide.{contacts_after, proxies_of}
use Rattle.world_rules.specs.Sound.{HasBodies}

-- ---- tables, one after another

pub marked_after : (a b c : Bodies) → AreMarked a b → AreMarked b c → AreMarked a c
marked_after a b c first second = marked_then a.bodies a.marks b.bodies b.marks c.bodies c.marks first second

-- ---- slots that are marked

true_unless : (t : Bool) → (t ≡ false → ⊥) → t ≡ true
true_unless true f = refl
true_unless false f = absurd (f refl)

-- a slot whose body goes is marked
gone_apart : (o : Option Body) (b : Body) → o ≡ Some b → AreShownAlike o None → ⊥
gone_apart None b e h = cc
gone_apart (Some c) b e h = h

pub gone_marked : (old new : Bodies) (slot : ℕ) (b : Body) → AreMarked old new → body_at old.bodies slot ≡ Some b → body_at new.bodies slot ≡ None → slice_index_or new.marks slot true ≡ true
gone_marked old new slot b marked was now =
    true_unless (slice_index_or new.marks slot true) (λ off.
    gone_apart (body_at old.bodies slot) b was (subst (λ (o : Option Body). AreShownAlike (body_at old.bodies slot) o) now (marked slot off).alike))

-- and so is one whose body is disabled
halted_apart : (o p : Option Body) (b : Body) → o ≡ Some b → b.enabled ≡ true → AreShownAlike o (option_map disabled_body p) → ⊥
halted_apart None p b e on h = cc
halted_apart (Some c) None b e on h = h
halted_apart (Some c) (Some d) b e on h =
    let off : c.enabled ≡ false = h.enabled in
    let same : c ≡ b = cc in
    let up : c.enabled ≡ true = ap (λ (x : Body). x.enabled) same ∙ on in
    cc

changed_own : (f : Body → Body) (bodies : List (Option Body)) (slot : ℕ) → body_at (changed_at f bodies slot) slot ≡ option_map f (body_at bodies slot)
changed_own f [] slot = refl
changed_own f (o ∷ bodies) zero = refl
changed_own f (o ∷ bodies) (suc slot) = changed_own f bodies slot

pub halted_marked : (old new : Bodies) (slot : ℕ) (b : Body) (bodies : List (Option Body)) → AreMarked old new → body_at old.bodies slot ≡ Some b → b.enabled ≡ true → new.bodies ≡ changed_at disabled_body bodies slot → slice_index_or new.marks slot true ≡ true
halted_marked old new slot b bodies marked was on now =
    let there : body_at new.bodies slot ≡ option_map disabled_body (body_at bodies slot) = ap (λ (bs : List (Option Body)). body_at bs slot) now ∙ changed_own disabled_body bodies slot in
    true_unless (slice_index_or new.marks slot true) (λ off.
    halted_apart (body_at old.bodies slot) (body_at bodies slot) b was on (subst (λ (o : Option Body). AreShownAlike (body_at old.bodies slot) o) there (marked slot off).alike))

-- ---- the slots of a key

neither_first : (s t : Bool) → cond s true t ≡ false → s ≡ false
neither_first true t h = h
neither_first false t h = refl

neither_second : (s t : Bool) → cond s true t ≡ false → t ≡ false
neither_second true t h = cc
neither_second false t h = h

neither_so : (s t : Bool) → s ≡ false → t ≡ false → cond s true t ≡ false
neither_so s t a b = rw (a, b) refl

slot_of : (i : ShapeId) → i.index < 256 → id_number i / 256 ≡ i.slot
slot_of i small = omega arith

moved_at : (marks : List Bool) (i : ShapeId) → i.index < 256 → moved_by marks (id_number i) ≡ slice_index_or marks i.slot true
moved_at marks i small = ap (λ (n : ℕ). slice_index_or marks n true) (slot_of i small)

-- ---- the contacts

-- of two bodies that aren't marked each contact is among the ones just if it is among the others
abbrev pub HaveSameKeys : List Bool → List ContactEntry → List ContactEntry → Type 0
HaveSameKeys marks contacts later = (k : ContactKey) → IsPairKey k → slice_index_or marks k.first.slot true ≡ false → slice_index_or marks k.second.slot true ≡ false → has_key later k ≡ has_key contacts k

-- contacts that differ in their numbers at most
if_there : (s t : Bool) (e f : ContactEntry) (o r : Option ContactEntry) → s ≡ t → is_some r ≡ is_some o → is_some (cond s (Some f) r) ≡ is_some (cond t (Some e) o)
if_there s true e f o r q h = rw q refl
if_there s false e f o r q h = rw q h

head_same : (m n : ℕ) (ms ns : List ℕ) → m ∷ ms ≡ n ∷ ns → m ≡ n
head_same m n ms ns e = cc

tail_same : (m n : ℕ) (ms ns : List ℕ) → m ∷ ms ≡ n ∷ ns → ms ≡ ns
tail_same m n ms ns e = cc

same_there : (es fs : List ContactEntry) (k : ContactKey) → map number_of fs ≡ map number_of es → has_key fs k ≡ has_key es k
same_there [] [] k h = refl
same_there [] (f ∷ fs) k h = cc
same_there (e ∷ es) [] k h = cc
same_there (e ∷ es) (f ∷ fs) k h =
    if_there (number_of f == key_number k) (number_of e == key_number k) e f (lookup es k) (lookup fs k) (ap (λ (n : ℕ). n == key_number k) (head_same (number_of f) (number_of e) (map number_of fs) (map number_of es) h))
    (same_there es fs k (tail_same (number_of f) (number_of e) (map number_of fs) (map number_of es) h))

pub numbers_stay : (marks : List Bool) (contacts later : List ContactEntry) → map number_of later ≡ map number_of contacts → HaveSameKeys marks contacts later
numbers_stay marks contacts later same k pair a b = same_there contacts later k same

-- contacts that are dropped with their body
apart_from : (s : ℕ) (a b : ShapeId) → (a.slot ≡ s → ⊥) → (b.slot ≡ s → ⊥) → ((a.slot == s) || (b.slot == s)) ≡ false
apart_from s a b f g = grind (arith, nat_tests)

other_slot : (slot : ℕ) (e : ContactEntry) (k : ContactKey) → IsPairKey e.key → IsPairKey k → number_of e ≡ key_number k → (k.first.slot ≡ slot → ⊥) → (k.second.slot ≡ slot → ⊥) → has_slot slot e ≡ false
other_slot slot e k a b same f g =
    let ids = ids_same e.key k a b same in
    let first : e.key.first.slot ≡ k.first.slot = sym (slot_of e.key.first a.first_index) ∙ ap (λ (n : ℕ). n / 256) ids.0 ∙ slot_of k.first b.first_index in
    let second : e.key.second.slot ≡ k.second.slot = sym (slot_of e.key.second a.second_index) ∙ ap (λ (n : ℕ). n / 256) ids.1 ∙ slot_of k.second b.second_index in
    apart_from slot e.key.first e.key.second (λ q. f (sym first ∙ q)) (λ q. g (sym second ∙ q))

drop_step : (t u : Bool) (e : ContactEntry) (es : List ContactEntry) (k : ContactKey) (o : Option ContactEntry) → t ≡ (number_of e == key_number k) → (number_of e ≡ key_number k → u ≡ false) → lookup es k ≡ o → lookup (cond (not u) (e ∷ es) es) k ≡ cond t (Some e) o
drop_step t true e es k o is f h =
    let other : t ≡ false = is ∙ grind (arith, nat_tests) in
    rw other h
drop_step t false e es k o is f h = rw (is, h) refl

without_same : (slot : ℕ) (es : List ContactEntry) (k : ContactKey) → Each (λ e. IsPairKey e.key) es → IsPairKey k → (k.first.slot ≡ slot → ⊥) → (k.second.slot ≡ slot → ⊥) → lookup (contacts_without slot es) k ≡ lookup es k
without_same slot [] k keys pair f g = refl
without_same slot (e ∷ es) k keys pair f g =
    drop_step (number_of e == key_number k) (has_slot slot e) e (contacts_without slot es) k (lookup es k) refl (λ q. other_slot slot e k keys.0 pair q f g) (without_same slot es k keys.1 pair f g)

unmarked_apart : (marks : List Bool) (a slot : ℕ) → slice_index_or marks slot true ≡ true → slice_index_or marks a true ≡ false → a ≡ slot → ⊥
unmarked_apart marks a slot on off e =
    let same : slice_index_or marks a true ≡ slice_index_or marks slot true = ap (λ (n : ℕ). slice_index_or marks n true) e in
    cc

pub dropped_keys : (marks : List Bool) (contacts : List ContactEntry) (slot : ℕ) → All (λ e. IsPairKey e.key) contacts → slice_index_or marks slot true ≡ true → HaveSameKeys marks contacts (contacts_without slot contacts)
dropped_keys marks contacts slot keys on k pair a b =
    ap (λ (o : Option ContactEntry). is_some o) (without_same slot contacts k (each_from_all contacts keys) pair (unmarked_apart marks k.first.slot slot on a) (unmarked_apart marks k.second.slot slot on b))

-- ---- what is known

-- what changed between two worlds, of which all is marked
pub record IsMarkedChange (old new : Bodies) (joints later : List (Option BodyJoint)) (contacts left : List ContactEntry) : Type 0 where
  pub bodies : AreMarked old new
  pub pairs : HaveSamePairs new.marks joints later
  pub keys : HaveSameKeys new.marks contacts left

-- nothing is asked of two shapes of which one is marked, and all else stays
pub known_changed : (old new : Bodies) (joints later : List (Option BodyJoint)) (contacts left : List ContactEntry) → AreBodies old.bodies → AreBodies new.bodies → All (λ e. IsPairKey e.key) left → IsMarkedChange old new joints later contacts left
    → AreKnown old.marks old.bodies joints contacts → AreKnown new.marks new.bodies later left
known_changed old new joints later contacts left before after keys change known =
    known_stays-holds (moved_by old.marks) (moved_by new.marks) (forbidden_pairs joints) (forbidden_pairs later) (proxies_of old.bodies) (proxies_of new.bodies) contacts left known keys (λ k pair off.
    let a : slice_index_or new.marks k.first.slot true ≡ false = sym (moved_at new.marks k.first pair.first_index) ∙ neither_first (moved_by new.marks (id_number k.first)) (moved_by new.marks (id_number k.second)) off in
    let b : slice_index_or new.marks k.second.slot true ≡ false = sym (moved_at new.marks k.second pair.second_index) ∙ neither_second (moved_by new.marks (id_number k.first)) (moved_by new.marks (id_number k.second)) off in
    let first : IsUnchangedAt old.bodies old.marks new.bodies k.first.slot = change.bodies k.first.slot a in
    let second : IsUnchangedAt old.bodies old.marks new.bodies k.second.slot = change.bodies k.second.slot b in
    record {
      unmoved = neither_so (moved_by old.marks (id_number k.first)) (moved_by old.marks (id_number k.second)) (moved_at old.marks k.first pair.first_index ∙ first.unmarked) (moved_at old.marks k.second pair.second_index ∙ second.unmarked);
      near = near_same old.bodies new.bodies (forbidden_pairs joints) (forbidden_pairs later) k before after pair first.alike second.alike (change.pairs k.first.slot k.second.slot a b);
      contact = change.keys k pair a b;
    })

-- with all marked nothing is asked
pub known_all : (marks : List Bool) (bodies : List (Option Body)) (joints : List (Option BodyJoint)) (contacts : List ContactEntry) → All (λ e. IsPairKey e.key) contacts → ((slot : ℕ) → slice_index_or marks slot true ≡ true) → AreKnown marks bodies joints contacts
known_all marks bodies joints contacts keys all = record {
  keys = keys;
  still = λ k pair off.
      let a : moved_by marks (id_number k.first) ≡ false = neither_first (moved_by marks (id_number k.first)) (moved_by marks (id_number k.second)) off in
      let b : moved_by marks (id_number k.first) ≡ true = all (id_number k.first / 256) in
      cc;
}

-- the same lists
pub known_as : (marks shown : List Bool) (bodies bs : List (Option Body)) (joints js : List (Option BodyJoint)) (contacts es : List ContactEntry) → AreKnown marks bodies joints contacts → shown ≡ marks → bs ≡ bodies → js ≡ joints → es ≡ contacts → AreKnown shown bs js es
known_as marks shown bodies bs joints js contacts es known a b c d =
    subst (λ (l : List Bool). AreKnown l bs js es) (sym a) (subst (λ (l : List (Option Body)). AreKnown marks l js es) (sym b) (subst (λ (l : List (Option BodyJoint)). AreKnown marks bodies l es) (sym c) (subst (λ (l : List ContactEntry). AreKnown marks bodies joints l) (sym d) known)))

-- after a collide all is known, whatever is marked
pub known_after : (marks : List Bool) (bodies : List (Option Body)) (joints : List (Option BodyJoint)) (old : List ContactEntry) → length bodies ≤ MAX_SLOTS → AreBodies bodies → AreKnown marks bodies joints (contacts_after bodies joints old)
known_after marks bodies joints old few all =
    let known : IsKnown all_still (forbidden_pairs joints) (proxies_of bodies) (contacts_after bodies joints old) =
    subst (IsKnown all_still (forbidden_pairs joints) (proxies_of bodies)) (sym (after_by_codes bodies joints old few all)) (all_known_after-holds (forbidden_pairs joints) (proxies_of bodies) old (are_proxies bodies few all)) in
    record { keys = known.keys; still = λ k pair off. known.still k pair refl }

-- ---- keys

-- the keys of contacts are those of two shapes, the lesser first
pair_key_is : (bodies : List (Option Body)) (e : ContactEntry) → HasBodies bodies e → IsPairKey e.key
pair_key_is bodies e has =
    let order = has.order in
    let slot = has.named.slot in
    let first = has.named.first in
    let second = has.named.second in
    record {
      before = omega (arith, order, first);
      small = omega (arith, slot, second);
      first_index = first;
      second_index = second;
    }

pub pair_keys_are : (bodies : List (Option Body)) (contacts : List ContactEntry) → All (HasBodies bodies) contacts → All (λ (e : ContactEntry). IsPairKey e.key) contacts
pair_keys_are bodies contacts there = All-weaker (HasBodies bodies) (λ (e : ContactEntry). IsPairKey e.key) (pair_key_is bodies) contacts there
