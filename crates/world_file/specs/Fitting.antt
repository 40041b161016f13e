-- Trusted: Whether the parts of a saved world fit together.
use Rattle.std.specs.Prelude.{ℕ, zero, suc, ◌==◌, ◌&&◌, ◌||◌, ◌++◌, Bool, true, false, not, cond, nat_le, nat_lt, List, [], ◌∷◌, map, slice_get, Option, Some, None, is_some, option_map, unwrap_or}
use Rattle.std.specs.List.{filter, flat_map, list_all}
use Rattle.std.specs.Option.{is_none}
use Rattle.std.specs.Ordering.{int_eq}
use Rattle.body_handles.specs.SlotEntries.{is_live}
use Rattle.body_handles.specs.declared.slot_table.SlotEntry.{SlotEntry}
use Rattle.plain_world.specs.declared.constraint.Constraint.{Constraint}
use Rattle.plain_world.specs.declared.constraint.Constraint.TheVariants.{Joint, Contact}
use Rattle.contacts_base.specs.Keys.{key_number}
use Rattle.contacts_base.specs.declared.contact.ContactEntry.{ContactEntry}
use Rattle.contacts_base.specs.declared.contact.ContactPoint.{ContactPoint}
use Rattle.graph_colours.specs.Members.{is_free}
use Rattle.graph_colours.specs.declared.limits.TheConstants.{COLOURS}
use Rattle.graph_colours.specs.declared.member.Member.{Member}
use Rattle.impulse_ledger.specs.Totals.{total_over}
use Rattle.impulse_ledger.specs.declared.totals.Totals.{Totals}
use Rattle.islands.specs.Labels.{Labels, label_at, own_label, split_by}
use Rattle.islands.specs.Links.{Edges}
use Rattle.islands.specs.declared.label.IslandState.{IslandState}
use Rattle.islands.specs.declared.label.IslandState.TheVariants.{Asleep, Loose, Whole}
use Rattle.islands.specs.declared.label.Label.{Label}
use Rattle.plain_world.specs.Momentum.{momentum}
use Rattle.plain_world.specs.Formed.{mixed_of, shape_with_id}
use Rattle.plain_world.specs.Kinds.{is_dynamic}
use Rattle.plain_world.specs.Slots.{body_at}
use Rattle.plain_world.specs.declared.body.Body.{Body}
use Rattle.plain_world.specs.declared.joint.BodyJoint.{BodyJoint}
use Rattle.world_file_base.specs.SavedSlots.{no_membership}
use Rattle.world_file_base.specs.declared.saved.Membership.{Membership}
use Rattle.world_file_base.specs.declared.saved.SavedContact.{SavedContact}
use Rattle.world_file_base.specs.declared.saved.SavedJoint.{SavedJoint}
use Rattle.solver_sets.specs.Ties.{contact_movers, joint_movers, tie_with}
use Rattle.world_file.specs.Saved.{Saved}
use Rattle.world_file.specs.declared.ties.Tie.{Tie}

-- ---- joints and contacts are of what is there

-- a joint is between two different bodies that are there
abbrev pub is_joint_fitting : List SlotEntry → Option SavedJoint → Bool
is_joint_fitting slot_entries None = true
is_joint_fitting slot_entries (Some j) = is_live slot_entries j.a && (is_live slot_entries j.b && not (j.a.slot == j.b.slot))

-- one point or two of different candidates
abbrev pub are_points : Option ContactPoint → Option ContactPoint → ℕ → Bool
are_points None second count = false
are_points (Some p) None count = true
are_points (Some p) (Some q) count = (count == 2) && not (p.candidate == q.candidate)

-- a contact has points just if it touches
abbrev pub has_points : SavedContact → Bool
has_points c = cond c.touching (are_points c.contact.first c.contact.second c.points) (c.points == 0)

abbrev pub is_dynamic_body : Option Body → Bool
is_dynamic_body None = false
is_dynamic_body (Some b) = is_dynamic b.kind

-- a contact is of shapes of two enabled bodies, the lesser first, one of them dynamic
abbrev pub is_contact_fitting : List (Option Body) → SavedContact → Bool
is_contact_fitting bodies c =
    is_some (shape_with_id bodies c.key.first)
    && (is_some (shape_with_id bodies c.key.second)
    && (nat_lt c.key.first.slot c.key.second.slot
    && ((is_dynamic_body (body_at bodies c.key.first.slot) || is_dynamic_body (body_at bodies c.key.second.slot))
    && has_points c)))

abbrev pub is_above : Option ℕ → ℕ → Bool
is_above None number = true
is_above (Some last) number = nat_lt last number

-- each key is above those before it
abbrev pub are_rising_after : Option ℕ → List SavedContact → Bool
are_rising_after last [] = true
are_rising_after last (c ∷ contacts) = cond (is_above last (key_number c.key)) (are_rising_after (Some (key_number c.key)) contacts) false

abbrev pub references_keep : Saved → Bool
references_keep s = list_all (is_joint_fitting s.slot_entries) s.joints && (list_all (is_contact_fitting s.bodies) s.contacts && are_rising_after None s.contacts)

-- ---- the constraints that act if their movers are awake

abbrev pub tie_read : Option (Member Constraint) → Option ℕ → Option Tie
tie_read member colour = option_map (λ m. record { member = m; colour = colour }) member

abbrev pub joint_tie : List (Option Body) → ℕ → SlotEntry → Option SavedJoint → Option Tie
joint_tie bodies slot place None = None
joint_tie bodies slot place (Some j) = tie_read (tie_with (Joint (record { slot = slot; generation = place.generation })) (joint_movers bodies j.joint)) j.colour

-- those of the joints from this slot on
abbrev pub joint_ties : List (Option Body) → ℕ → List SlotEntry → List (Option SavedJoint) → List (Option Tie)
joint_ties bodies slot [] joints = []
joint_ties bodies slot (place ∷ slot_entries) [] = []
joint_ties bodies slot (place ∷ slot_entries) (o ∷ joints) = joint_tie bodies slot place o ∷ joint_ties bodies (suc slot) slot_entries joints

abbrev pub contact_tie : List (Option Body) → SavedContact → Option Tie
contact_tie bodies c = cond c.touching (tie_read (tie_with (Contact c.key) (contact_movers bodies c.key)) c.colour) None

abbrev pub tie_if_any : Option Tie → List Tie
tie_if_any None = []
tie_if_any (Some t) = t ∷ []

abbrev pub contact_listed : List (Option Body) → SavedContact → List Tie
contact_listed bodies c = tie_if_any (contact_tie bodies c)

-- joints by slot, and then contacts by key
abbrev pub ties_read_in : List (Option Body) → List SlotEntry → List (Option SavedJoint) → List SavedContact → List Tie
ties_read_in bodies slot_entries joints contacts = flat_map tie_if_any (joint_ties bodies 0 slot_entries joints) ++ flat_map (contact_listed bodies) contacts

abbrev pub ties_read : Saved → List Tie
ties_read s = ties_read_in s.bodies s.joint_entries s.joints s.contacts

abbrev pub members_among : List Tie → List (Member Constraint)
members_among ties = map (λ (t : Tie). t.member) ties

-- ---- islands

abbrev pub membership_at : List Membership → ℕ → Membership
membership_at memberships slot = unwrap_or (slice_get memberships slot) no_membership

abbrev pub is_same_name : Option ℕ → Option ℕ → Bool
is_same_name None None = true
is_same_name None (Some b) = false
is_same_name (Some a) None = false
is_same_name (Some a) (Some b) = a == b

abbrev pub is_same_truth : Bool → Bool → Bool
is_same_truth true b = b
is_same_truth false b = not b

abbrev pub is_same_membership : Membership → Membership → Bool
is_same_membership a b = is_same_name a.island b.island && (is_same_truth a.loose b.loose && is_same_truth a.asleep b.asleep)

-- its island is named by a slot that isn't above its own, where a mover says the same of the same island
abbrev pub is_named_well : List Membership → ℕ → Option ℕ → Membership → Bool
is_named_well memberships slot None m = true
is_named_well memberships slot (Some name) m = nat_le name slot && is_same_membership (membership_at memberships name) m

-- from this slot on
abbrev pub are_named_well : List Membership → ℕ → List Membership → Bool
are_named_well memberships slot [] = true
are_named_well memberships slot (m ∷ rest) = is_named_well memberships slot m.island m && are_named_well memberships (suc slot) rest

-- the movers of a tie are in one island
abbrev pub is_link_kept : List Membership → ℕ → Option ℕ → Bool
is_link_kept memberships first None = true
is_link_kept memberships first (Some second) = is_same_name (membership_at memberships first).island (membership_at memberships second).island

abbrev pub is_tie_kept : List Membership → Tie → Bool
is_tie_kept memberships t = is_link_kept memberships t.member.movers.first t.member.movers.second

-- all movers as one island, whose name says nothing here
abbrev pub as_one_island : List Membership → Labels
as_one_island memberships = map (λ (m : Membership). option_map (λ name. own_label 0) m.island) memberships

-- the links of which both ends are movers
abbrev pub links_among : Labels → Edges → Edges
links_among movers links = filter (λ (link : ℕ × ℕ). is_some (label_at movers link.0) && is_some (label_at movers link.1)) links

-- by slot the component of each mover: what one island of all movers is split into by the links between them
abbrev pub components_of : List Membership → Edges → Labels
components_of memberships links = split_by (as_one_island memberships) 0 (links_among (as_one_island memberships) links)

abbrev pub is_named : Option Label → ℕ → Bool
is_named None name = false
is_named (Some l) name = l.name == name

-- an island that isn't loose is all that its links join, and one that sleeps isn't loose
abbrev pub is_whole_at : Option Label → Option ℕ → Membership → Bool
is_whole_at component None m = true
is_whole_at component (Some name) m = cond m.loose (not m.asleep) (is_named component name)

abbrev pub are_whole : Labels → ℕ → List Membership → Bool
are_whole components slot [] = true
are_whole components slot (m ∷ rest) = is_whole_at (label_at components slot) m.island m && are_whole components (suc slot) rest

-- ---- colours

-- what doesn't act has no colour
abbrev pub is_colourless : Option Tie → Option ℕ → Bool
is_colourless None colour = is_none colour
is_colourless (Some t) colour = true

abbrev pub is_contact_colourless : List (Option Body) → SavedContact → Bool
is_contact_colourless bodies c = is_colourless (contact_tie bodies c) c.colour

abbrev pub joint_colour : Option SavedJoint → Option ℕ
joint_colour None = None
joint_colour (Some j) = j.colour

abbrev pub are_joints_colourless : List (Option Body) → ℕ → List SlotEntry → List (Option SavedJoint) → Bool
are_joints_colourless bodies slot [] joints = true
are_joints_colourless bodies slot (place ∷ slot_entries) [] = true
are_joints_colourless bodies slot (place ∷ slot_entries) (o ∷ joints) = is_colourless (joint_tie bodies slot place o) (joint_colour o) && are_joints_colourless bodies (suc slot) slot_entries joints

-- just the ties of awake movers have colours
abbrev pub is_coloured_well : List Membership → Tie → Bool
is_coloured_well memberships t = is_same_truth (is_some t.colour) (not (membership_at memberships t.member.movers.first).asleep)

abbrev pub has_colour : ℕ → Option ℕ → Bool
has_colour colour None = false
has_colour colour (Some other) = other == colour

-- the members of a colour
abbrev pub coloured : List Tie → ℕ → List (Member Constraint)
coloured [] colour = []
coloured (t ∷ ties) colour = cond (has_colour colour t.colour) (t.member ∷ coloured ties colour) (coloured ties colour)

-- no two of a list share a mover
abbrev pub share_no_mover : List (Member Constraint) → Bool
share_no_mover [] = true
share_no_mover (m ∷ ms) = is_free ms m.movers && share_no_mover ms

-- for each colour below this one the constraints that have it
abbrev pub colours_below : List Tie → ℕ → List (List (Member Constraint))
colours_below ties zero = []
colours_below ties (suc n) = colours_below ties n ++ coloured ties n ∷ []

abbrev pub colours_keep : Saved → Bool
colours_keep s =
    are_joints_colourless s.bodies 0 s.joint_entries s.joints
    && (list_all (is_contact_colourless s.bodies) s.contacts
    && (list_all (is_coloured_well s.memberships) (ties_read s)
    && list_all share_no_mover (colours_below (ties_read s) COLOURS)))

-- ---- momentum

-- the movers' momentum is the sum of the ledger
abbrev pub momentum_fits : List (Option Body) → Totals → Bool
momentum_fits bodies t = int_eq (momentum bodies).x (total_over t).x && int_eq (momentum bodies).y (total_over t).y

abbrev pub momentum_keeps : Saved → Bool
momentum_keeps s = momentum_fits s.bodies s.totals

-- ---- what it makes

abbrev pub entry_read : List (Option Body) → SavedContact → ContactEntry
entry_read bodies c = record { key = c.key; surface = mixed_of (shape_with_id bodies c.key.first) (shape_with_id bodies c.key.second); contact = c.contact }

abbrev pub joint_kept : Option SavedJoint → Option BodyJoint
joint_kept o = option_map (λ (j : SavedJoint). j.joint) o

abbrev pub state_of : Membership → IslandState
state_of m = cond m.asleep Asleep (cond m.loose Loose Whole)

abbrev pub label_of : Membership → Option Label
label_of m = option_map (λ name. record { name = name; state = state_of m }) m.island

abbrev pub ids_coloured : List Tie → ℕ → List Constraint
ids_coloured ties colour = map (λ (m : Member Constraint). m.id) (coloured ties colour)

-- for each colour below this one the ids that have it
abbrev pub ids_below : List Tie → ℕ → List (List Constraint)
ids_below ties zero = []
ids_below ties (suc n) = ids_below ties n ++ ids_coloured ties n ∷ []
