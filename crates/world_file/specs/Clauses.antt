-- Trusted: The ten clauses of a saved world. Each is a test over the whole value, and the first that a value breaks is
-- the one of the least number whose test fails. A part that isn't there, or that breaks an early clause, is read as
-- some value of its type. So a later test has an answer then too, and nobody asks for it.
use Rattle.std.specs.Prelude.{ℕ, ◌&&◌, ◌||◌, Bool, true, not, List, [], ◌∷◌, Option, Some, None, codes, find, is_some}
use Rattle.std.specs.List.{list_all}
use Rattle.serde_json.specs.Data.{Data}
use Rattle.serde_json.specs.Find.{get}
use Rattle.plain_world.specs.Bodies.{is_awake, pose_of}
use Rattle.plain_world.specs.Kinds.{carried_by, is_moving}
use Rattle.plain_world.specs.declared.body.Body.{Body}
use Rattle.sleep_wake.specs.Acting.{links_of}
use Rattle.world_file_base.specs.Reading.{is_null, items_in, unsigned_in}
use Rattle.world_file_base.specs.SavedBodies.{are_in_boxes, is_at_rest, island_fits, is_island_or_nothing}
use Rattle.world_file_base.specs.SavedSlots.{body_key, generation_of_value, is_in_time, joint_key, slot_entry_in}
use Rattle.world_file_base.specs.Versions.{colour_of_number}
use Rattle.world_file_base.specs.declared.clause.Clause.{Clause}
use Rattle.world_file_base.specs.declared.clause.Clause.TheVariants.{Form, Limits, Generations, References, FatBoxes, Memberships, Links, Islands, Colours, Momentum}
use Rattle.world_file_base.specs.declared.saved.Membership.{Membership}
use Rattle.world_file_base.specs.declared.version.Version.{Version}
use Rattle.world_file.specs.Fitting.{are_named_well, are_whole, colours_keep, components_of, is_tie_kept, members_among, momentum_keeps, references_keep, ties_read}
use Rattle.world_file.specs.Saved.{Saved, saved_in, version_in}
use Rattle.world_file.specs.SavedForms.{all_items, has_form, if_there}
use Rattle.world_file.specs.SavedLimits.{is_in_limits}

-- ---- generations

-- a slot's generation is 1 to the last one, and nothing is in a slot at the last
abbrev pub has_generation : List ℕ → Data → Bool
has_generation key d = is_some (generation_of_value (get (codes "generation") d)) && is_in_time (slot_entry_in key d)

-- of all slots of bodies and of joints
unfoldable pub have_generations : Data → Bool
have_generations d =
    all_items (has_generation body_key) (items_in (get (codes "bodies") d))
    && all_items (has_generation joint_key) (items_in (get (codes "joints") d))

-- ---- bodies by themselves

-- each shape lies in its fat box
abbrev pub is_boxed : Option Body → Bool
is_boxed None = true
is_boxed (Some b) = are_in_boxes (pose_of b) b.shapes b.fats

-- just a mover has an island, and what has none says nothing of one
abbrev pub is_membership_right : Option Body → Membership → Bool
is_membership_right None m = true
is_membership_right (Some b) m = island_fits b m && is_island_or_nothing m

-- each slot with what is said of its island
abbrev pub are_memberships_right : List (Option Body) → List Membership → Bool
are_memberships_right [] ms = true
are_memberships_right (o ∷ os) [] = true
are_memberships_right (o ∷ os) (m ∷ ms) = is_membership_right o m && are_memberships_right os ms

-- what isn't an awake mover has no momentum, and what is disabled has no course
abbrev pub is_rested : Option Body → Bool
is_rested None = true
is_rested (Some b) = (is_awake b || is_at_rest b.motion) && (b.enabled || not (is_moving (carried_by b.kind)))

-- ---- colours

-- none, or one that the version has
abbrev pub is_colour : Version → Option Data → Bool
is_colour version value = is_null value || is_some (colour_of_number version (unsigned_in 255 value))

abbrev pub has_colour_of : Version → Data → Bool
has_colour_of version d = is_colour version (get (codes "colour") d)

abbrev pub joint_has_colour : Version → Data → Bool
joint_has_colour version d = if_there (has_colour_of version) (get joint_key d)

-- those of joints and contacts
unfoldable pub have_colours : Data → Bool
have_colours d =
    all_items (joint_has_colour (version_in d)) (items_in (get (codes "joints") d))
    && all_items (has_colour_of (version_in d)) (items_in (get (codes "contacts") d))

-- ---- the table

-- whether the parts that were read keep a clause together; the others speak of single parts
abbrev pub keep_together : Clause → Saved → Bool
keep_together Form s = true
keep_together Limits s = true
keep_together Generations s = true
keep_together References s = references_keep s
keep_together FatBoxes s = true
keep_together Memberships s = are_named_well s.memberships 0 s.memberships
keep_together Links s = list_all (is_tie_kept s.memberships) (ties_read s)
keep_together Islands s = are_whole (components_of s.memberships (links_of (members_among (ties_read s)))) 0 s.memberships
keep_together Colours s = colours_keep s
keep_together Momentum s = momentum_keeps s

-- whether a value keeps a clause
abbrev pub keeps : Clause → Data → Bool
keeps Form d = has_form d
keeps Limits d = is_in_limits d
keeps Generations d = have_generations d
keeps References d = keep_together References (saved_in d)
keeps FatBoxes d = list_all is_boxed (saved_in d).bodies
keeps Memberships d = are_memberships_right (saved_in d).bodies (saved_in d).memberships && keep_together Memberships (saved_in d)
keeps Links d = keep_together Links (saved_in d)
keeps Islands d = list_all is_rested (saved_in d).bodies && keep_together Islands (saved_in d)
keeps Colours d = have_colours d && keep_together Colours (saved_in d)
keeps Momentum d = keep_together Momentum (saved_in d)

-- in the order of their numbers, 1 to 10
abbrev pub clauses : List Clause
clauses = Form ∷ Limits ∷ Generations ∷ References ∷ FatBoxes ∷ Memberships ∷ Links ∷ Islands ∷ Colours ∷ Momentum ∷ []

-- the first clause that the parts break together
unfoldable pub first_unfit : Saved → Option Clause
first_unfit s = find (λ clause. not (keep_together clause s)) clauses

-- the first clause that a value breaks
unfoldable pub first_broken : Data → Option Clause
first_broken d = find (λ clause. not (keeps clause d)) clauses
