-- Trusted: How much there is of a world.
use Rattle.std.specs.Prelude.{ℕ, Bool, true, false, List, [], ◌∷◌, length, Option, is_some}
use Rattle.std.specs.List.{count_by, enumerate_from}
use Rattle.contacts_base.specs.Evaluate.{touches}
use Rattle.contacts_base.specs.declared.contact.ContactEntry.{ContactEntry}
use Rattle.islands.specs.Labels.{Labels, is_in}
use Rattle.islands.specs.declared.label.Label.{Label}
use Rattle.plain_world.specs.Changes.{is_awake_in}
use Rattle.plain_world.specs.Plain.{Plain}
use Rattle.world_queries.specs.declared.counts.Counts.{Counts}

-- the mover in a slot is the one after which its island is named
abbrev pub is_namesake : ℕ × Option Label → Bool
is_namesake entry = is_in entry.1 entry.0

-- an island is counted by the mover after which it is named
abbrev pub count_islands : Labels → ℕ
count_islands labels = count_by is_namesake (enumerate_from 0 labels)

abbrev pub is_touching : ContactEntry → Bool
is_touching e = touches e.contact

-- the colour has a constraint
abbrev pub has_some : {X : Type 0} → List X → Bool
has_some [] = false
has_some (x ∷ xs) = true

abbrev pub counts_of : Plain → Counts
counts_of w = record {
  bodies = count_by is_some w.bodies;
  awake = count_by is_awake_in w.bodies;
  joints = count_by is_some w.joints;
  contacts = length w.contacts;
  touching = count_by is_touching w.contacts;
  islands = count_islands w.islands;
  colours = count_by has_some w.colours;
}
