-- The tests of the clauses that each question asks.
use Rattle.std.proofs.Common.{◌≡◌, ℕ, zero, suc, ◌-◌, ◌==◌, ◌^◌, ◌&&◌, ◌||◌, Bool, true, false, not, cond, nat_le, List, [], ◌∷◌, Option, Some, None, option_map, is_some, codes, ℤ, pos, neg_ℤ, int_le, unsigned_abs, refl, sym, ◌∙◌, arith, le-leb}
use Rattle.std.specs.List.{list_all}
use Rattle.std.proofs.lemmas.Bool.{false≢true}
use Rattle.serde_json.specs.Data.{Data, Items, no_items, item}
use Rattle.serde_json.specs.Events.{items_len}
use Rattle.serde_json.specs.Find.{get}
use Rattle.contacts_base.specs.declared.limits.TheConstants.{MAX_NORMAL, MAX_NORMAL_IMPULSE, MAX_OFFSET, MAX_SEPARATION, MAX_TANGENT_IMPULSE}
use Rattle.fixed_geom.specs.Facings.{is_facing}
use Rattle.fixed_geom.specs.Vectors.{is_within, zero_vector}
use Rattle.fixed_geom.specs.declared.vectors.Vec2.{Vec2}
use Rattle.fixed_geom.specs.declared.limits.TheConstants.{MAX_POSITION, MAX_SPIN}
use Rattle.impulse_ledger.specs.declared.limits.TheConstants.{MAX_TOTAL}
use Rattle.joint_rows.specs.declared.limits.TheConstants.{MAX_ANCHOR, MAX_JOINT_IMPULSE, MAX_JOINT_LENGTH}
use Rattle.momenta.specs.declared.limits.TheConstants.{MAX_GRAVITY, MAX_MOMENTUM, MAX_SPEED}
use Rattle.plain_world.specs.Bodies.{is_awake, pose_of}
use Rattle.plain_world.specs.Kinds.{carried_by, is_moving}
use Rattle.plain_world.specs.declared.body.Body.{Body}
use Rattle.plain_world.specs.declared.kind.Kind.{Kind}
use Rattle.plain_world.specs.declared.kind.Kind.TheVariants.{Static, Kinematic, Dynamic}
use Rattle.world_file_base.specs.Asks.{asked, noted}
use Rattle.world_file_base.specs.Reading.{first_in, greatest, greatest_group, has_keys, has_keys_in, is_null, items_in, least, least_group, number_in, second_item, text_in, unsigned_in, vector_in, vector_within, whole_in}
use Rattle.world_file_base.specs.AskedValues.{ends_asks, island_asks, list_asks, number_asks, pair_asks, signed_asks, text_asks, truth_asks, unsigned_asks, vector_asks, vector_within_asks, whole_asks, decimal_asks, handle_asks, colour_asks, total_asks, totals_asks}
use Rattle.world_file_base.specs.SavedBodies.{are_in_boxes, bare_kind, body_in, facing_in, is_at_rest, island_fits, is_island_or_nothing, kind_in, least_mass, mass_in, membership_in, most_angular, most_inertia, most_mass, motion_in, named_kind, pose_in}
use Rattle.world_file_base.specs.AskedBodies.{body_asks, course_asks, facing_asks, fit_asks, is_pose, keys_asks, kind_asks, mass_asks, membership_asks, momenta_asks, motion_asks, numbers_asks, pose_asks, rest_asks, fitting_membership_asks, whole_body_asks}
use Rattle.world_file_base.specs.SavedContacts.{last_candidate}
use Rattle.world_file_base.specs.AskedContacts.{contact_asks, contacts_asks, point_asks, points_asks, push_asks, shape_id_asks, size_asks}
use Rattle.world_file_base.specs.SavedShapes.{most_bits, most_corner}
use Rattle.world_file_base.specs.AskedShapes.{core_asks, form_asks, long_asks, round_asks, shape_asks, shapes_asks}
use Rattle.world_file_base.specs.SavedSlots.{bodies_in, body_key, generation_of_value, is_in_time, joint_key, membership_or_none, memberships_in, slot_entry_in, slot_body, slot_keys, slot_membership}
use Rattle.world_file_base.specs.AskedSlots.{bodies_asks, body_slot_asks, generation_asks, item_asks, joint_slot_asks, joints_asks, slot_entry_asks, slots_asks, joint_asks}
use Rattle.world_file_base.specs.SavedTotals.{cause_in}
use Rattle.world_file_base.specs.Texts.{handle_of_text, number_of_text}
use Rattle.world_file_base.specs.Versions.{colour_of_number}
use Rattle.world_file_base.specs.declared.clause.Clause.TheVariants.{Colours, FatBoxes, Form, Generations, Islands, Limits, Links, Memberships, Momentum, References}
use Rattle.world_file_base.specs.declared.saved.Membership.{Membership}
use Rattle.world_file_base.specs.declared.version.Version.{Version}
use Rattle.world_file.specs.Clauses.{are_memberships_right, keep_together, has_colour_of, has_generation, have_colours, have_generations, is_boxed, is_colour, is_rested, is_membership_right, joint_has_colour}
use Rattle.world_file.specs.Saved.{Saved, calls_in, most_calls, saved_in, slow_ticks, version_in, version_of}
use Rattle.world_file.specs.AskedParts.{heads_asks, parts_asks, fitting_asks}
use Rattle.world_file.specs.SavedForms.{all_items, are_totals, are_two_vectors, are_two_wholes, has_course, has_form, if_there, is_body, is_contact, is_id, is_joint, is_kind, is_list, is_long, is_motion, is_number_text, is_pair, is_point_form, is_round, is_shape, is_slot_form, is_text, is_total, is_truth, is_whole, is_whole_or_null}
use Rattle.world_file.specs.SavedLimits.{are_ends_numbers, are_few_slots, are_totals_within, are_two_numbers, is_body_within, is_box_within, is_contact_within, is_course_within, is_facing_within, is_from, is_in_limits, is_joint_within, is_long_within, is_motion_within, is_null_or_up_to, is_number, is_point_within, is_round_within, is_shape_id_within, is_shape_within, is_sized, is_slot_within, is_text_within, is_total_within, is_up_to, is_vector_within, may_have_shapes}
use Rattle.world_file.proofs.ReadBodies.{told_within}
use Rattle.world_file.proofs.TestLaws.{Hold, Says, Tests, after, asks, asks_unless, both_hold, idle, says_too}

-- ---- lists of tests

abbrev form : Bool → Tests
form f = Some f ∷ []

abbrev plain : Bool → Bool → Tests
plain f l = Some f ∷ Some l ∷ []

-- of what has a colour
abbrev coloured : Bool → Bool → Bool → Tests
coloured f l c = Some f ∷ Some l ∷ None ∷ None ∷ None ∷ None ∷ None ∷ None ∷ Some c ∷ []

-- of what is in a slot of joints
abbrev jointed : Bool → Bool → Bool → Bool → Tests
jointed f l g c = Some f ∷ Some l ∷ Some g ∷ None ∷ None ∷ None ∷ None ∷ None ∷ Some c ∷ []

-- of a body
abbrev bodily : Bool → Bool → Bool → Bool → Bool → Tests
bodily f l b m i = Some f ∷ Some l ∷ None ∷ None ∷ Some b ∷ Some m ∷ None ∷ Some i ∷ []

-- of what is in a slot of bodies
abbrev slotted : Bool → Bool → Bool → Bool → Bool → Bool → Tests
slotted f l g b m i = Some f ∷ Some l ∷ Some g ∷ None ∷ Some b ∷ Some m ∷ None ∷ Some i ∷ []

-- ---- values by themselves

says_list : (v : Option Data) → Says (form (is_list v)) (list_asks v)
says_list v = asks (is_list v) Form

says_pair : (v : Option Data) → Says (form (is_pair v)) (pair_asks v)
says_pair v = after (says_list v) (asks (items_len (items_in v) == 2) Form)

says_truth : (v : Option Data) → Says (form (is_truth v)) (truth_asks v)
says_truth v = asks (is_truth v) Form

says_text : (v : Option Data) → Says (form (is_text v)) (text_asks v)
says_text v = asks (is_text v) Form

says_whole : (v : Option Data) → Says (form (is_whole v)) (whole_asks v)
says_whole v = asks (is_whole v) Form

says_id : (v : Option Data) → Says (form (is_id v)) (handle_asks v)
says_id v = after (says_text v) (asks (is_some (handle_of_text (text_in v))) Form)

says_from : (low high : ℤ) (v : Option Data) → Says (plain (is_whole v) (is_from low high v)) (signed_asks low high v)
says_from low high v = after (says_whole v) (asks (is_from low high v) Limits)

says_up_to : (high : ℕ) (v : Option Data) → Says (plain (is_whole v) (is_up_to high v)) (unsigned_asks high v)
says_up_to high v = after (says_whole v) (asks (is_up_to high v) Limits)

says_island : (v : Option Data) → Says (plain (is_whole_or_null v) (is_null_or_up_to (2 ^ 32 - 1) v)) (island_asks v)
says_island v = asks_unless (is_null v) (says_up_to (2 ^ 32 - 1) v)

says_number : (v : Option Data) → Says (plain (is_whole v) (is_number v)) (number_asks v)
says_number v = says_from least greatest v

says_vector : (v : Option Data) → Says (plain (are_two_wholes v) (are_two_numbers v)) (vector_asks v)
says_vector v = after (after (says_pair v) (says_number (first_in v))) (says_number (second_item v))

says_within : (most : ℕ) (v : Option Data) → Says (plain (are_two_wholes v) (is_vector_within most v)) (vector_within_asks most v)
says_within most v = after (says_vector v) (asks (is_within most (vector_in v)) Limits)

says_box : (most : ℕ) (v : Option Data) → Says (plain (are_two_vectors v) (is_box_within most v)) (ends_asks most v)
says_box most v = after (after (says_pair v) (says_within most (first_in v))) (says_within most (second_item v))

says_ends : (v : Option Data) → Says (plain (are_two_vectors v) (are_ends_numbers v)) (core_asks v)
says_ends v = after (after (says_pair v) (says_vector (first_in v))) (says_vector (second_item v))

says_decimal : (most : ℕ) (v : Option Data) → Says (plain (is_number_text v) (is_text_within most v)) (decimal_asks most v)
says_decimal most v = after (after (says_text v) (asks (is_some (number_of_text (text_in v))) Form)) (asks (is_text_within most v) Limits)

says_colour : (version : Version) (v : Option Data) → Says (coloured (is_whole_or_null v) (is_null_or_up_to 255 v) (is_colour version v)) (colour_asks version v)
says_colour version v = asks_unless (is_null v) (after (says_up_to 255 v) (asks (is_some (colour_of_number version (unsigned_in 255 v))) Colours))

-- ---- the ledger

says_total : (v : Option Data) → Says (plain (is_total v) (is_total_within v)) (total_asks v)
says_total v = after (after (says_pair v) (says_decimal MAX_TOTAL (first_in v))) (says_decimal MAX_TOTAL (second_item v))

says_totals : (v : Option Data) → Says (plain (are_totals v) (are_totals_within v)) (totals_asks v)
says_totals v = after (after (after (after (after (after (asks (has_keys_in 6 v) Form) (says_total (cause_in (codes "command") v))) (says_total (cause_in (codes "gravity") v))) (says_total (cause_in (codes "immovable") v))) (says_total (cause_in (codes "clamp") v))) (says_total (cause_in (codes "rest") v))) (says_total (cause_in (codes "departed") v))

-- ---- shapes

says_round : (o : Option Data) (d : Data) → Says (plain (is_round o d) (is_round_within o d)) (round_asks o d)
says_round (Some core) d = after (after (says_vector (Some core)) (says_number (get (codes "radius") d))) (asks (has_keys 8 d) Form)
says_round None d = after (says_ends (get (codes "segment") d)) (asks (has_keys 7 d) Form)

says_long : (o : Option Data) (d : Data) → Says (plain (is_long o d) (is_long_within o d)) (long_asks o d)
says_long (Some core) d = after (after (says_ends (Some core)) (says_number (get (codes "radius") d))) (asks (has_keys 8 d) Form)
says_long None d = says_round (get (codes "circle") d) d

says_form : (d : Data) → Says (plain (is_long (get (codes "capsule") d) d) (is_long_within (get (codes "capsule") d) d)) (form_asks d)
unfolding form_asks
says_form d = says_long (get (codes "capsule") d) d

says_shape : (d : Data) → Says (plain (is_shape d) (is_shape_within d)) (shape_asks d)
unfolding shape_asks is_shape is_shape_within
says_shape d = after (after (after (after (after (after (says_form d) (says_number (get (codes "friction") d))) (says_number (get (codes "restitution") d))) (says_up_to most_bits (get (codes "category") d))) (says_up_to most_bits (get (codes "mask") d))) (says_from least_group greatest_group (get (codes "group") d))) (says_box most_corner (get (codes "fat") d))

says_shapes : (ds : Items) → Says (plain (all_items is_shape ds) (all_items is_shape_within ds)) (shapes_asks ds)
says_shapes no_items = idle (plain true true) (refl, (refl, tt))
says_shapes (item d ds) = after (says_shape d) (says_shapes ds)

-- ---- bodies

says_course : (kind : Kind) (d : Data) → Says (plain (has_course kind d) (is_course_within kind d)) (course_asks kind d)
says_course Static d = after (asks (has_keys 13 d) Form) (idle (None ∷ Some true ∷ []) (tt, (refl, tt)))
says_course (Kinematic course) d = after (after (says_within (unsigned_abs MAX_SPEED) (get (codes "velocity") d)) (says_from (neg_ℤ MAX_SPIN) MAX_SPIN (get (codes "spin") d))) (asks (has_keys 15 d) Form)
says_course Dynamic d = after (asks (has_keys 13 d) Form) (idle (None ∷ Some true ∷ []) (tt, (refl, tt)))

says_kind : (d : Data) → Says (plain (is_kind d) (is_course_within (bare_kind d) d)) (kind_asks d)
unfolding kind_asks is_kind
says_kind d = after (after (says_text (get (codes "kind") d)) (asks (is_some (named_kind (text_in (get (codes "kind") d)))) Form)) (says_course (bare_kind d) d)

says_facing : (v : Option Data) → Says (plain (are_two_wholes v) (is_facing_within v)) (facing_asks v)
says_facing v = after (says_vector v) (asks (is_facing (facing_in v)) Limits)

says_motion : (inertia : ℤ) (d : Data) → Says (plain (is_motion d) (is_motion_within inertia d)) (motion_asks inertia d)
unfolding motion_asks momenta_asks pose_asks is_motion is_motion_within
says_motion inertia d = after (after (after (says_within (unsigned_abs MAX_MOMENTUM) (get (codes "p") d)) (says_decimal (most_angular inertia) (get (codes "l") d))) (says_within (unsigned_abs MAX_POSITION) (get (codes "at") d))) (says_facing (get (codes "facing") d))

-- the limits of its keys
abbrev are_keys_within : ℕ → Data → Bool
are_keys_within most_ticks d =
    is_course_within (bare_kind d) d
    && is_from (least_mass (kind_in d)) (most_mass (kind_in d)) (get (codes "mass") d)
    && is_from (pos 0) (most_inertia (kind_in d)) (get (codes "inertia") d)
    && is_motion_within (mass_in (kind_in d) d).inertia d
    && is_null_or_up_to (2 ^ 32 - 1) (get (codes "island") d)
    && is_up_to most_ticks (get (codes "timer") d)
    && all_items is_shape_within (items_in (get (codes "shapes") d))

says_keys : (most_ticks : ℕ) (d : Data) → Says (plain (is_body d) (are_keys_within most_ticks d)) (keys_asks most_ticks d)
unfolding keys_asks numbers_asks mass_asks membership_asks is_body
says_keys most_ticks d =
    let numbers = after (after (after (says_kind d) (says_from (least_mass (kind_in d)) (most_mass (kind_in d)) (get (codes "mass") d))) (says_from (pos 0) (most_inertia (kind_in d)) (get (codes "inertia") d))) (says_motion (mass_in (kind_in d) d).inertia d) in
    let told = after (after (after numbers (says_island (get (codes "island") d))) (says_truth (get (codes "loose") d))) (says_truth (get (codes "asleep") d)) in
    after (after (after (after told (says_truth (get (codes "enabled") d))) (says_up_to most_ticks (get (codes "timer") d))) (says_list (get (codes "shapes") d))) (says_shapes (items_in (get (codes "shapes") d)))

-- what isn't asked of shapes that a body may not have, nor where it is in no place
abbrev guarded : Bool → Bool → Bool → Bool
guarded allowed posed boxed = not allowed || (not posed || boxed)

says_fit : (allowed posed boxed : Bool) → Says (None ∷ Some allowed ∷ None ∷ None ∷ Some (guarded allowed posed boxed) ∷ []) (λ r. cond allowed (cond posed (asked boxed FatBoxes r) r) (noted Limits r))
says_fit true true boxed = after (idle (None ∷ Some true ∷ []) (tt, (refl, tt))) (asks boxed FatBoxes)
says_fit true false boxed = idle (None ∷ Some true ∷ None ∷ None ∷ Some true ∷ []) (tt, (refl, (tt, (tt, (refl, tt)))))
says_fit false posed boxed = after (asks false Limits) (idle (None ∷ None ∷ None ∷ None ∷ Some true ∷ []) (tt, (tt, (tt, (tt, (refl, tt))))))

says_rest : (b : Body) → Says (None ∷ None ∷ None ∷ None ∷ None ∷ None ∷ None ∷ Some (is_rested (Some b)) ∷ []) (rest_asks b)
unfolding rest_asks
says_rest b = after (asks (is_awake b || is_at_rest b.motion) Islands) (asks (b.enabled || not (is_moving (carried_by b.kind))) Islands)

says_told : (b : Body) (m : Membership) → Says (None ∷ None ∷ None ∷ None ∷ None ∷ Some (is_membership_right (Some b) m) ∷ []) (fitting_membership_asks b m)
unfolding fitting_membership_asks
says_told b m = after (asks (island_fits b m) Memberships) (asks (is_island_or_nothing m) Memberships)

abbrev is_boxed_there : Body → Bool
is_boxed_there b = guarded (may_have_shapes b) (is_pose (pose_of b)) (are_in_boxes (pose_of b) b.shapes b.fats)

says_whole_body : (b : Body) (m : Membership) → Says (None ∷ Some (may_have_shapes b) ∷ None ∷ None ∷ Some (is_boxed_there b) ∷ Some (is_membership_right (Some b) m) ∷ None ∷ Some (is_rested (Some b)) ∷ []) (whole_body_asks b m)
unfolding whole_body_asks fit_asks
says_whole_body b m = after (after (says_fit (may_have_shapes b) (is_pose (pose_of b)) (are_in_boxes (pose_of b) b.shapes b.fats)) (says_rest b)) (says_told b m)

says_guarded : (most_ticks : ℕ) (d : Data) → Says (bodily (is_body d) (is_body_within most_ticks d) (is_boxed_there (body_in most_ticks d)) (is_membership_right (Some (body_in most_ticks d)) (membership_in d)) (is_rested (Some (body_in most_ticks d)))) (body_asks most_ticks d)
unfolding body_asks is_body_within
says_guarded most_ticks d = after (says_keys most_ticks d) (says_whole_body (body_in most_ticks d) (membership_in d))

-- where the limits are kept, a body may have its shapes and is in some place

unguarded : (allowed posed boxed : Bool) → allowed ≡ true → posed ≡ true → guarded allowed posed boxed ≡ boxed
unguarded true true boxed h k = refl
unguarded true false boxed h k = absurd (false≢true k)
unguarded false posed boxed h k = absurd (false≢true h)

within_by : (most : ℕ) (v : Vec2) (t : Bool) → is_within most v ≡ t → is_within most (cond t v zero_vector) ≡ true
within_by most v true e = e
within_by most v false e = let none : nat_le 0 most ≡ true = le-leb 0 most (omega arith) in both_hold (nat_le 0 most) (nat_le 0 most) none none

place_within : (most : ℕ) (v : Option Data) → is_within most (vector_within most v) ≡ true
place_within most v = within_by most (vector_in v) (is_within most (vector_in v)) refl

posed_so : (most_ticks : ℕ) (d : Data) → is_facing (pose_in d).rot ≡ true → is_pose (pose_of (body_in most_ticks d)) ≡ true
unfolding body_in motion_in pose_in
posed_so most_ticks d facing = both_hold (is_within (unsigned_abs MAX_POSITION) (pose_of (body_in most_ticks d)).x) (is_facing (pose_of (body_in most_ticks d)).rot) (place_within (unsigned_abs MAX_POSITION) (get (codes "at") d)) facing

boxed_there : (most_ticks : ℕ) (d : Data) → is_body_within most_ticks d ≡ true → is_boxed_there (body_in most_ticks d) ≡ is_boxed (Some (body_in most_ticks d))
boxed_there most_ticks d h =
    let b : Body = body_in most_ticks d in
    let told = told_within most_ticks d h in
    unguarded (may_have_shapes b) (is_pose (pose_of b)) (are_in_boxes (pose_of b) b.shapes b.fats) told.0 (posed_so most_ticks d told.1)

boxed_to : (f l b c m i : Bool) → (l ≡ true → b ≡ c) → (n : ℕ) → Hold n (bodily f l b m i) → Hold n (bodily f l c m i)
boxed_to f l b c m i e zero h = tt
boxed_to f l b c m i e (suc zero) h = h
boxed_to f l b c m i e (suc (suc zero)) h = h
boxed_to f l b c m i e (suc (suc (suc zero))) h = h
boxed_to f l b c m i e (suc (suc (suc (suc zero)))) h = h
boxed_to f l b c m i e (suc (suc (suc (suc (suc n))))) h =
    let late = h.1.1.1.1 in
    (h.0, (h.1.0, (tt, (tt, (sym (e h.1.0) ∙ late.0, late.1)))))

says_body : (most_ticks : ℕ) (d : Data) → Says (bodily (is_body d) (is_body_within most_ticks d) (is_boxed (Some (body_in most_ticks d))) (is_membership_right (Some (body_in most_ticks d)) (membership_in d)) (is_rested (Some (body_in most_ticks d)))) (body_asks most_ticks d)
says_body most_ticks d =
    let same = boxed_there most_ticks d in
    says_too (boxed_to _ _ _ _ _ _ same) (boxed_to _ _ _ _ _ _ (λ h. sym (same h))) (says_guarded most_ticks d)

-- ---- slots

says_generation : (v : Option Data) → Says (Some (is_whole v) ∷ None ∷ Some (is_some (generation_of_value v)) ∷ []) (generation_asks v)
says_generation v = after (says_whole v) (asks (is_some (generation_of_value v)) Generations)

says_slot_entry : (key : List ℕ) (d : Data) → Says (Some (is_whole (get (codes "generation") d) && has_keys (slot_keys (is_some (get key d))) d) ∷ None ∷ Some (has_generation key d) ∷ []) (slot_entry_asks key d)
unfolding slot_entry_asks
says_slot_entry key d = after (after (says_generation (get (codes "generation") d)) (asks (has_keys (slot_keys (is_some (get key d))) d) Form)) (asks (is_in_time (slot_entry_in key d)) Generations)

says_slots : (version : Version) (v : Option Data) → Says (plain (is_list v) (are_few_slots version v)) (slots_asks version v)
says_slots version v = after (says_list v) (asks (are_few_slots version v) Limits)

says_body_item : (most_ticks : ℕ) (o : Option Data) → Says (bodily (if_there is_body o) (if_there (is_body_within most_ticks) o) (is_boxed (option_map (body_in most_ticks) o)) (is_membership_right (option_map (body_in most_ticks) o) (membership_or_none o)) (is_rested (option_map (body_in most_ticks) o))) (item_asks (body_asks most_ticks) o)
says_body_item most_ticks None = idle (bodily true true true true true) (refl, (refl, (tt, (tt, (refl, (refl, (tt, (refl, tt))))))))
says_body_item most_ticks (Some d) = says_body most_ticks d

says_body_slot : (most_ticks : ℕ) (d : Data) → Says (slotted (is_slot_form body_key is_body d) (is_slot_within body_key (is_body_within most_ticks) d) (has_generation body_key d) (is_boxed (slot_body most_ticks d)) (is_membership_right (slot_body most_ticks d) (slot_membership d)) (is_rested (slot_body most_ticks d))) (body_slot_asks most_ticks d)
says_body_slot most_ticks d = after (says_slot_entry body_key d) (says_body_item most_ticks (get body_key d))

says_bodies : (most_ticks : ℕ) (ds : Items) → Says (slotted (all_items (is_slot_form body_key is_body) ds) (all_items (is_slot_within body_key (is_body_within most_ticks)) ds) (all_items (has_generation body_key) ds) (list_all is_boxed (bodies_in most_ticks ds)) (are_memberships_right (bodies_in most_ticks ds) (memberships_in ds)) (list_all is_rested (bodies_in most_ticks ds))) (bodies_asks most_ticks ds)
says_bodies most_ticks no_items = idle (slotted true true true true true true) (refl, (refl, (refl, (tt, (refl, (refl, (tt, (refl, tt))))))))
says_bodies most_ticks (item d ds) = after (says_body_slot most_ticks d) (says_bodies most_ticks ds)

-- ---- joints

says_joint : (version : Version) (d : Data) → Says (coloured (is_joint d) (is_joint_within d) (has_colour_of version d)) (joint_asks version d)
unfolding joint_asks is_joint is_joint_within
says_joint version d =
    let ends = after (after (after (asks (has_keys 8 d) Form) (says_id (get (codes "a") d))) (says_id (get (codes "b") d))) (says_truth (get (codes "collide") d)) in
    after (after (after (after (after ends (says_colour version (get (codes "colour") d))) (says_within (unsigned_abs MAX_ANCHOR) (get (codes "from") d))) (says_from (neg_ℤ MAX_JOINT_IMPULSE) MAX_JOINT_IMPULSE (get (codes "impulse") d))) (says_from (pos 0) MAX_JOINT_LENGTH (get (codes "length") d))) (says_within (unsigned_abs MAX_ANCHOR) (get (codes "to") d))

says_joint_item : (version : Version) (o : Option Data) → Says (coloured (if_there is_joint o) (if_there is_joint_within o) (if_there (has_colour_of version) o)) (item_asks (joint_asks version) o)
says_joint_item version None = idle (coloured true true true) (refl, (refl, (tt, (tt, (tt, (tt, (tt, (tt, (refl, tt)))))))))
says_joint_item version (Some d) = says_joint version d

says_joint_slot : (version : Version) (d : Data) → Says (jointed (is_slot_form joint_key is_joint d) (is_slot_within joint_key is_joint_within d) (has_generation joint_key d) (joint_has_colour version d)) (joint_slot_asks version d)
says_joint_slot version d = after (says_slot_entry joint_key d) (says_joint_item version (get joint_key d))

says_joints : (version : Version) (ds : Items) → Says (jointed (all_items (is_slot_form joint_key is_joint) ds) (all_items (is_slot_within joint_key is_joint_within) ds) (all_items (has_generation joint_key) ds) (all_items (joint_has_colour version) ds)) (joints_asks version ds)
says_joints version no_items = idle (jointed true true true true) (refl, (refl, (refl, (tt, (tt, (tt, (tt, (tt, (refl, tt)))))))))
says_joints version (item d ds) = after (says_joint_slot version d) (says_joints version ds)

-- ---- contacts

says_size : (most : ℕ) (v : Option Data) → Says (plain (is_whole v) (is_sized most v)) (size_asks most v)
says_size most v = after (says_number v) (asks (nat_le (unsigned_abs (number_in v)) most) Limits)

says_push : (v : Option Data) → Says (plain (is_whole v) (is_sized MAX_NORMAL_IMPULSE v && int_le (pos 0) (number_in v))) (push_asks v)
says_push v = after (says_size MAX_NORMAL_IMPULSE v) (asks (int_le (pos 0) (number_in v)) Limits)

says_point : (d : Data) → Says (plain (is_point_form d) (is_point_within d)) (point_asks d)
unfolding point_asks is_point_form is_point_within
says_point d =
    let near = after (after (after (after (asks (has_keys 7 d) Form) (says_within MAX_NORMAL (get (codes "normal") d))) (says_size MAX_SEPARATION (get (codes "sep") d))) (says_within MAX_OFFSET (get (codes "ra") d))) (says_within MAX_OFFSET (get (codes "rb") d)) in
    after (after (after near (says_push (get (codes "push") d))) (says_size MAX_TANGENT_IMPULSE (get (codes "slip") d))) (says_up_to last_candidate (get (codes "candidate") d))

says_points : (ds : Items) → Says (plain (all_items is_point_form ds) (all_items is_point_within ds)) (points_asks ds)
says_points no_items = idle (plain true true) (refl, (refl, tt))
says_points (item d ds) = after (says_point d) (says_points ds)

says_shape_id : (v : Option Data) → Says (plain (are_two_wholes v) (is_shape_id_within v)) (shape_id_asks v)
says_shape_id v = after (after (says_pair v) (says_up_to (2 ^ 32 - 1) (first_in v))) (says_up_to 255 (second_item v))

says_contact : (version : Version) (d : Data) → Says (coloured (is_contact d) (is_contact_within d) (has_colour_of version d)) (contact_asks version d)
unfolding contact_asks is_contact is_contact_within
says_contact version d =
    let shapes = after (after (after (asks (has_keys 5 d) Form) (says_shape_id (get (codes "a") d))) (says_shape_id (get (codes "b") d))) (says_truth (get (codes "touching") d)) in
    after (after (after shapes (says_colour version (get (codes "colour") d))) (says_list (get (codes "points") d))) (says_points (items_in (get (codes "points") d)))

says_contacts : (version : Version) (ds : Items) → Says (coloured (all_items is_contact ds) (all_items is_contact_within ds) (all_items (has_colour_of version) ds)) (contacts_asks version ds)
says_contacts version no_items = idle (coloured true true true) (refl, (refl, (tt, (tt, (tt, (tt, (tt, (tt, (refl, tt)))))))))
says_contacts version (item d ds) = after (says_contact version d) (says_contacts version ds)

-- ---- the parts

abbrev are_heads : Data → Bool
are_heads d =
    has_keys 8 d
    && is_whole (get (codes "version") d)
    && is_some (version_of (whole_in (get (codes "version") d)))
    && are_two_wholes (get (codes "gravity") d)
    && is_whole (get (codes "call") d)
    && is_whole (get (codes "step") d)
    && are_totals (get (codes "ledger") d)

abbrev are_heads_within : Data → Bool
are_heads_within d =
    is_vector_within (unsigned_abs MAX_GRAVITY) (get (codes "gravity") d)
    && is_up_to most_calls (get (codes "call") d)
    && is_up_to (calls_in d) (get (codes "step") d)
    && are_totals_within (get (codes "ledger") d)

says_heads : (d : Data) → Says (plain (are_heads d) (are_heads_within d)) (heads_asks d)
says_heads d =
    let version = after (after (asks (has_keys 8 d) Form) (says_whole (get (codes "version") d))) (asks (is_some (version_of (whole_in (get (codes "version") d)))) Form) in
    after (after (after (after version (says_within (unsigned_abs MAX_GRAVITY) (get (codes "gravity") d))) (says_up_to most_calls (get (codes "call") d))) (says_up_to (calls_in d) (get (codes "step") d))) (says_totals (get (codes "ledger") d))

-- what each part has to keep by itself
abbrev pub tests_of_parts : Data → Tests
tests_of_parts d =
    Some (has_form d)
    ∷ Some (is_in_limits d)
    ∷ Some (have_generations d)
    ∷ None
    ∷ Some (list_all is_boxed (saved_in d).bodies)
    ∷ Some (are_memberships_right (saved_in d).bodies (saved_in d).memberships)
    ∷ None
    ∷ Some (list_all is_rested (saved_in d).bodies)
    ∷ Some (have_colours d)
    ∷ []

pub says_parts : (d : Data) → Says (tests_of_parts d) (parts_asks d)
unfolding has_form is_in_limits have_generations have_colours
says_parts d =
    let bodies = after (after (says_heads d) (says_slots (version_in d) (get (codes "bodies") d))) (says_bodies (slow_ticks d) (items_in (get (codes "bodies") d))) in
    let joints = after (after bodies (says_slots (version_in d) (get (codes "joints") d))) (says_joints (version_in d) (items_in (get (codes "joints") d))) in
    after (after joints (says_list (get (codes "contacts") d))) (says_contacts (version_in d) (items_in (get (codes "contacts") d)))

-- ---- the whole

-- what the parts have to keep together
abbrev pub tests_of_whole : Saved → Tests
tests_of_whole s =
    None
    ∷ None
    ∷ None
    ∷ Some (keep_together References s)
    ∷ None
    ∷ Some (keep_together Memberships s)
    ∷ Some (keep_together Links s)
    ∷ Some (keep_together Islands s)
    ∷ Some (keep_together Colours s)
    ∷ Some (keep_together Momentum s)
    ∷ []

pub says_fitting : (s : Saved) → Says (tests_of_whole s) (fitting_asks s)
says_fitting s =
    let named = after (after (asks (keep_together References s) References) (asks (keep_together Memberships s) Memberships)) (asks (keep_together Links s) Links) in
    after (after (after named (asks (keep_together Islands s) Islands)) (asks (keep_together Colours s) Colours)) (asks (keep_together Momentum s) Momentum)
