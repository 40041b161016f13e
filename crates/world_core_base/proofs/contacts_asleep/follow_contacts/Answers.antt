use Rattle.std.proofs.Common.{◌≡◌, ℕ, Bool, true, List, Option, refl, ◌∙◌, get_or, drop, length}
use Rattle.contacts.specs.declared.number_book.NumberedContact.{NumberedContact}
use Rattle.contacts.specs.Numbered.{contact_at}
use Rattle.world_core_base.specs.Asleep.{IsContactOfNone, contact_sleep, is_contact_end}
use Rattle.world_core_base.proofs.FollowLaws.{can_now}
use Rattle.world_core_base.proofs.TieSleepLaws.{beside_all, beside_first, beside_more}
use Rattle.world_core_base.proofs.contacts_asleep.follow_contacts.Goals as goal

-- the body in a slot is an end of the contact with a number
abbrev is_end : List (Option NumberedContact) → ℕ → ℕ → Bool
is_end numbered slot number = is_contact_end slot (contact_at numbered number)

pub loop-place-init : goal.loop-place-init
loop-place-init c = (beside_first (contact_sleep c.args.bodies.now c.args.contacts.now.numbered) (is_end c.args.contacts.now.numbered) c.args.slots.now c.args.sets.now.names c.requires.others, refl)

pub follow_at-requires : goal.follow_at-requires
follow_at-requires c =
    let numbered = c.args.contacts.now.numbered in
    can_now (contact_sleep c.args.bodies.now numbered) (λ number. IsContactOfNone (drop c.loop-place.place c.args.slots.now) (contact_at numbered number)) c.args.sets.now.names c.loop-place.sets.names (length c.loop-place.sets.sets) (length c.args.sets.now.sets) c.requires.can c.loop-place.invariant.0 c.loop-place.invariant.1

pub loop-place-preserved : goal.loop-place-preserved
loop-place-preserved c =
    let numbered = c.args.contacts.now.numbered in
    let body = get_or c.args.slots.now c.loop-place.place 0 in (
      beside_more (contact_sleep c.args.bodies.now numbered) (is_end numbered) c.args.slots.now c.loop-place.place body 0 (λ number. is_end numbered body number ≡ true) c.args.sets.now.names c.loop-place.sets.names c.follow_at.new.sets.names c.loop-place-test.true refl
          (λ number own. own) c.loop-place.invariant.0 c.follow_at.ensures.followed,
      c.follow_at.ensures.sets ∙ c.loop-place.invariant.1,
    )

pub returns-clause-asleep : goal.returns-clause-asleep
returns-clause-asleep c = beside_all (contact_sleep c.args.bodies.now c.args.contacts.now.numbered) (is_end c.args.contacts.now.numbered) c.args.slots.now c.loop-place.place c.args.sets.now.names c.loop-place.sets.names c.loop-place-test.false c.loop-place.invariant.0

pub returns-clause-items : goal.returns-clause-items
returns-clause-items c = c.loop-place.invariant.0.long

pub returns-clause-sets : goal.returns-clause-sets
returns-clause-sets c = c.loop-place.invariant.1
