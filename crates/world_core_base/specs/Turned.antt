-- What a change of the contacts asks of the bodies, for their contacts to sleep as they did.
use Rattle.std.specs.Prelude.{◌≡◌, ◌⊎◌, List, Option, None}
use Rattle.contacts.specs.Touching.{TouchesOnlyIn}
use Rattle.contacts_base.specs.declared.contact.ContactEntry.{ContactEntry}
use Rattle.contacts_base.specs.declared.key.ContactKey.{ContactKey}
use Rattle.plain_world.specs.declared.body.Body.{Body}
use Rattle.solver_sets.specs.Ties.{contact_movers}
use Rattle.world_core_base.specs.Asleep.{sleep_with}

-- what touched and doesn't any more, and what begins to touch, sleeps with nobody
abbrev pub AreTurned : List (Option Body) → List ContactEntry → List ContactEntry → Type 0
AreTurned bodies before after = (key : ContactKey) → TouchesOnlyIn after before key ⊎ TouchesOnlyIn before after key → sleep_with bodies (contact_movers bodies key) ≡ None
