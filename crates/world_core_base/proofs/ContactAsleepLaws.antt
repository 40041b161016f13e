-- Contacts that sleep: those that touch, with the first of their bodies that is a mover.
use Rattle.std.proofs.Common.{◌≡◌, ◌⊎◌, ℕ, ◌<◌, ◌≤◌, ◌==◌, ◌||◌, Bool, true, false, cond, List, [], length, Option, Some, None, is_some, inl, inr, refl, sym, ap, ◌∙◌, subst, arith}
use Rattle.std.specs.Prelude.{Contains, option_map}
use Rattle.std.proofs.lemmas.Bool.{false≢true}
use Rattle.std.proofs.lemmas.List.{get_or_past}
use Rattle.graph_colours.proofs.PlaceLemmas.{same_from}
use Rattle.graph_colours.specs.declared.member.Movers.{Movers}
use Rattle.islands.specs.Labels.{Labels}
use Rattle.contacts.specs.declared.ends.Side.TheVariants.{First, Second}
use Rattle.contacts.specs.Ends.{slot_on}
use Rattle.contacts.specs.declared.number_book.NumberedContact.{NumberedContact}
use Rattle.contacts.specs.Numbered.{contact_at, key_of, slot_at}
use Rattle.plain_world.specs.declared.body.Body.{Body}
use Rattle.plain_world.specs.Bodies.{moves}
use Rattle.plain_world.specs.Sleep.{told}
use Rattle.plain_world.specs.Slots.{body_at}
use Rattle.solver_sets.specs.Ties.{contact_movers}
use Rattle.world_core_base.specs.Asleep.{AreContactSets, AreNamedAsleep, IsContactOfNone, IsSleepAlike, SleepAlike, contact_sleep, is_contact_end, movers_of_contact, sleep_with}
use Rattle.world_core_base.specs.Following.{CanFollow, HaveFollowed}
use Rattle.world_core_base.specs.Sleeping.{Sleeping, sleep_at}
use Rattle.world_core_base.specs.Telling.{KeepSets}
use Rattle.world_core_base.proofs.AsleepLaws.{can_follow_told, first_of, tie_alike, told_movers}
use Rattle.world_core_base.proofs.FollowLaws.{followed_then}
use Rattle.world_core_base.proofs.TieSleepLaws.{both_beside, named_below}

-- ---- one contact

-- its first mover is one of its bodies, and moves
pub contact_moves : (bodies : List (Option Body)) (o : Option NumberedContact) (m : Movers) → movers_of_contact bodies o ≡ Some m → moves bodies m.first ≡ true
contact_moves bodies None m e = cc
contact_moves bodies (Some c) m e = by c.touching e
  where
    by : (t : Bool) → cond t (contact_movers bodies c.key) None ≡ Some m → moves bodies m.first ≡ true
    by true h = (first_of bodies c.key.first.slot c.key.second.slot m h).mover
    by false h = cc

told_contact : (labels : Labels) (bodies : List (Option Body)) (o : Option NumberedContact) → movers_of_contact (told labels bodies) o ≡ movers_of_contact bodies o
told_contact labels bodies None = refl
told_contact labels bodies (Some c) = ap (λ (m : Option Movers). cond c.touching m None) (told_movers labels bodies c.key.first.slot c.key.second.slot)

-- no contact is past the last number
pub contact_past : (numbered : List (Option NumberedContact)) (number : ℕ) → length numbered ≤ number → contact_at numbered number ≡ None
contact_past numbered number le = get_or_past numbered number None le

-- what has movers is there
contact_there : (bodies : List (Option Body)) (o : Option NumberedContact) (m : Movers) → movers_of_contact bodies o ≡ Some m → is_some o ≡ true
contact_there bodies None m e = cc
contact_there bodies (Some c) m e = refl

-- a contact sleeps under a name under which a body does
pub contact_named : (bodies : List (Option Body)) (o : Option NumberedContact) (name : ℕ) → AreNamedAsleep bodies → sleep_with bodies (movers_of_contact bodies o) ≡ Some name → name < length bodies
contact_named bodies o name = named_below bodies (movers_of_contact bodies o) name (contact_moves bodies o)

-- ---- all contacts, where bodies wake or fall asleep

pub contacts_can_follow : (labels : Labels) (bodies : List (Option Body)) (numbered : List (Option NumberedContact)) (sets : Sleeping) → AreContactSets bodies numbered sets → KeepSets labels bodies → CanFollow (sleep_at sets.names) (contact_sleep (told labels bodies) numbered) (length sets.names) (length sets.sets)
contacts_can_follow labels bodies numbered sets are keep = can_follow_told labels bodies (λ number. movers_of_contact bodies (contact_at numbered number)) (sleep_at sets.names) (contact_sleep (told labels bodies) numbered) (length sets.names) (length sets.sets)
    (λ number m e. contact_moves bodies (contact_at numbered number) m e)
    (λ number m e. are.items number (contact_there bodies (contact_at numbered number) m e))
    are.asleep (λ number. ap (sleep_with (told labels bodies)) (told_contact labels bodies (contact_at numbered number))) are.named keep

-- ---- contacts of bodies that are alike

one_alike : (old new : List (Option Body)) (c : NumberedContact) → IsSleepAlike (body_at old c.key.first.slot) (body_at new c.key.first.slot) × IsSleepAlike (body_at old c.key.second.slot) (body_at new c.key.second.slot) → sleep_with new (movers_of_contact new (Some c)) ≡ sleep_with old (movers_of_contact old (Some c))
one_alike old new c both = by c.touching (tie_alike old new c.key.first.slot c.key.second.slot both.0 both.1)
  where
    by : (t : Bool) → sleep_with new (contact_movers new c.key) ≡ sleep_with old (contact_movers old c.key) → sleep_with new (cond t (contact_movers new c.key) None) ≡ sleep_with old (cond t (contact_movers old c.key) None)
    by true h = h
    by false h = refl

pub contact_alike : (old new : List (Option Body)) (o : Option NumberedContact) → ((c : NumberedContact) → o ≡ Some c → IsSleepAlike (body_at old c.key.first.slot) (body_at new c.key.first.slot) × IsSleepAlike (body_at old c.key.second.slot) (body_at new c.key.second.slot)) → sleep_with new (movers_of_contact new o) ≡ sleep_with old (movers_of_contact old o)
contact_alike old new None alike = refl
contact_alike old new (Some c) alike = one_alike old new c (alike c refl)

pub contacts_alike : (old new : List (Option Body)) (numbered : List (Option NumberedContact)) (sets : Sleeping) → length new ≤ length old → SleepAlike old new → AreContactSets old numbered sets → AreContactSets new numbered sets
contacts_alike old new numbered sets long alike are = record {
  asleep = λ number. are.asleep number ∙ sym (contact_alike old new (contact_at numbered number) (λ c e. (alike c.key.first.slot, alike c.key.second.slot)));
  items = are.items;
  named = let room = are.named in omega (arith, long, room);
}

-- the sets as they are, for other bodies and contacts of which each sleeps as it did
pub contacts_as : (bodies new : List (Option Body)) (numbered next : List (Option NumberedContact)) (sets again : Sleeping) → ((number : ℕ) → contact_sleep new next number ≡ contact_sleep bodies numbered number) → ((number : ℕ) → sleep_at again.names number ≡ sleep_at sets.names number) → ((number : ℕ) → is_some (contact_at next number) ≡ true → number < length again.names) → length new ≤ length again.sets
    → AreContactSets bodies numbered sets → AreContactSets new next again
contacts_as bodies new numbered next sets again each same items named are = record {
  asleep = λ number. same number ∙ are.asleep number ∙ sym (each number);
  items = items;
  named = named;
}

-- a world with no bodies and no contacts
pub contacts_none : (bodies : List (Option Body)) (numbered : List (Option NumberedContact)) (sets : Sleeping) → bodies ≡ [] → numbered ≡ [] → sets.names ≡ [] → AreContactSets bodies numbered sets
contacts_none bodies numbered sets e f g = subst (λ (bs : List (Option Body)). AreContactSets bs numbered sets) (sym e) (subst (λ (cs : List (Option NumberedContact)). AreContactSets [] cs sets) (sym f) (record {
  asleep = λ number. ap (λ (l : List (Option ℕ)). sleep_at l number) g;
  items = λ number on. (let both : false ≡ true = on in cc);
  named = omega arith;
}))

-- ---- contacts of listed bodies

-- one of none of the bodies that may sleep otherwise now
pub contact_beside : (old new : List (Option Body)) (slots : List ℕ) (o : Option NumberedContact) → ((slot : ℕ) → (Contains slots slot → ⊥) → IsSleepAlike (body_at old slot) (body_at new slot)) → IsContactOfNone slots o → sleep_with new (movers_of_contact new o) ≡ sleep_with old (movers_of_contact old o)
contact_beside old new slots None others off = refl
contact_beside old new slots (Some c) others off = one_alike old new c (both_beside old new slots c.key.first.slot c.key.second.slot others off)

-- ---- the contacts of one body, by the side on which they have it

either_side : (slot : ℕ) (o : Option NumberedContact) → is_contact_end slot o ≡ true → (option_map (slot_on First) (key_of o) ≡ Some slot) ⊎ (option_map (slot_on Second) (key_of o) ≡ Some slot)
either_side slot None h = absurd (false≢true h)
either_side slot (Some e) h = by (e.key.first.slot == slot) refl h
  where
    by : (t : Bool) → (e.key.first.slot == slot) ≡ t → (t || (e.key.second.slot == slot)) ≡ true → (Some e.key.first.slot ≡ Some slot) ⊎ (Some e.key.second.slot ≡ Some slot)
    by true t k = inl (ap Some (same_from e.key.first.slot slot t))
    by false t k = inr (ap Some (same_from e.key.second.slot slot k))

-- once those that have it on the first side have followed, and then those that have it on the second, all that have it
-- have
pub both_sides : (now : ℕ → Option ℕ) (numbered : List (Option NumberedContact)) (slot : ℕ) (old mid new : List (Option ℕ)) → HaveFollowed now (λ number. slot_at First numbered number ≡ Some slot) old mid → HaveFollowed now (λ number. slot_at Second numbered number ≡ Some slot) mid new
    → HaveFollowed now (λ number. is_contact_end slot (contact_at numbered number) ≡ true) old new
both_sides now numbered slot old mid new f g = followed_then now (λ number. slot_at First numbered number ≡ Some slot) (λ number. slot_at Second numbered number ≡ Some slot) (λ number. is_contact_end slot (contact_at numbered number) ≡ true) old mid new (λ number own. either_side slot (contact_at numbered number) own) f g
