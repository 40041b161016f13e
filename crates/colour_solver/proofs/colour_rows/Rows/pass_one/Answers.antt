use Rattle.std.proofs.Common.{ℕ, ◌≡◌, ◌<◌, ◌≤◌, [], length, get_or, map, take, arith, sym, ap, ◌∙◌, subst}
use Rattle.std.proofs.lemmas.List.{length-map}
use Rattle.joint_rows.specs.Rows.{IsJointRow}
use Rattle.colour_solver_base.specs.Rows.{IsRow}
use Rattle.colour_solver.specs.declared.colour_ends.ColourEnd.{ColourEnd}
use Rattle.colour_solver.specs.States.{as_vector}
use Rattle.colour_solver.specs.RowVisits.{AreRowsOn, between}
use Rattle.colour_solver.specs.ColourRows.{colours_of, joints_first, last_end, rows_kept}
use Rattle.colour_solver.specs.ConstraintVisits.{AreRowsBelow, IsConstraintRow, both_visits, constraint_slots, contact_slots, joint_slots}
use Rattle.colour_solver.proofs.KeptRowLaws.{as_many_ends, below_ends, contacts_kept, end_inside, end_there, joints_kept, start_low}
use Rattle.colour_solver.proofs.KindLaws.{contacts_below, joints_below}
use Rattle.colour_solver.proofs.OneColourLaws.{IsOneColour, colour_is, colour_was, colours_set, kept_below, left_kept}
use Rattle.colour_solver.proofs.PassedLaws.{passed_alike}
use Rattle.colour_solver.proofs.RowPlaceLaws.{colours_count}
use Rattle.colour_solver.proofs.colour_rows.Rows.pass_one.Goals as goal

abbrev joint_end : ColourEnd → ℕ
joint_end e = e.joints

abbrev contact_end : ColourEnd → ℕ
contact_end e = e.contacts

abbrev nothing : ColourEnd
nothing = record { joints = 0; contacts = 0 }

pub start_of-start-requires : goal.start_of-start-requires
start_of-start-requires g c =
    let ends = c.self.inside.ends.items in
    let few : c.args.colour < length (colours_of (map joint_end ends) (map contact_end ends) c.self.inside.joints.items c.self.inside.contacts.items) = rw (← c.self.view_is) at c.requires.colour in
    let long = colours_count (map joint_end ends) (map contact_end ends) c.self.inside.joints.items c.self.inside.contacts.items (as_many_ends joint_end contact_end ends) in
    let ends_long = length-map ends joint_end in
    rw c.deref.ensures.value (omega (arith, few, long, ends_long))

pub end_of-end-requires : goal.end_of-end-requires
end_of-end-requires g c =
    let ends = c.self.inside.ends.items in
    let few : c.args.colour < length (colours_of (map joint_end ends) (map contact_end ends) c.self.inside.joints.items c.self.inside.contacts.items) = rw (← c.self.view_is) at c.requires.colour in
    let long = colours_count (map joint_end ends) (map contact_end ends) c.self.inside.joints.items c.self.inside.contacts.items (as_many_ends joint_end contact_end ends) in
    let ends_long = length-map ends joint_end in
    rw c.deref-2.ensures.value (omega (arith, few, long, ends_long))

pub pass_colour-requires-clause-joints_ascend : goal.pass_colour-requires-clause-joints_ascend
pass_colour-requires-clause-joints_ascend g c =
    let ends = c.self.inside.ends.items in
    let few : c.args.colour < length (colours_of (map joint_end ends) (map contact_end ends) c.self.inside.joints.items c.self.inside.contacts.items) = rw (← c.self.view_is) at c.requires.colour in
    let count = colours_count (map joint_end ends) (map contact_end ends) c.self.inside.joints.items c.self.inside.contacts.items (as_many_ends joint_end contact_end ends) in
    let ends_long = length-map ends joint_end in
    let lt : c.args.colour < length ends = omega (arith, few, count, ends_long) in
    let e_is : c.end_of-end.result ≡ get_or ends c.args.colour nothing = rw c.deref-2.ensures.value at c.end_of-end.ensures in
    let s_is : c.start_of-start.result.joints ≡ last_end 0 (take c.args.colour (map joint_end ends)) = rw c.deref.ensures.value at c.start_of-start.ensures.joints in
    subst (λ (e : ColourEnd). c.start_of-start.result.joints ≤ e.joints) (sym e_is) (start_low joint_end ends c.args.colour c.start_of-start.result.joints (length c.self.inside.joints.items) nothing c.self.invariant.0 lt s_is)

pub pass_colour-requires-clause-joints_end : goal.pass_colour-requires-clause-joints_end
pass_colour-requires-clause-joints_end g c =
    let ends = c.self.inside.ends.items in
    let few : c.args.colour < length (colours_of (map joint_end ends) (map contact_end ends) c.self.inside.joints.items c.self.inside.contacts.items) = rw (← c.self.view_is) at c.requires.colour in
    let count = colours_count (map joint_end ends) (map contact_end ends) c.self.inside.joints.items c.self.inside.contacts.items (as_many_ends joint_end contact_end ends) in
    let ends_long = length-map ends joint_end in
    let lt : c.args.colour < length ends = omega (arith, few, count, ends_long) in
    let e_is : c.end_of-end.result ≡ get_or ends c.args.colour nothing = rw c.deref-2.ensures.value at c.end_of-end.ensures in
    subst (λ (e : ColourEnd). e.joints ≤ length c.self.inside.joints.items) (sym e_is) (end_inside joint_end ends c.args.colour (length c.self.inside.joints.items) nothing c.self.invariant.0 lt)

pub pass_colour-requires-clause-contacts_ascend : goal.pass_colour-requires-clause-contacts_ascend
pass_colour-requires-clause-contacts_ascend g c =
    let ends = c.self.inside.ends.items in
    let few : c.args.colour < length (colours_of (map joint_end ends) (map contact_end ends) c.self.inside.joints.items c.self.inside.contacts.items) = rw (← c.self.view_is) at c.requires.colour in
    let count = colours_count (map joint_end ends) (map contact_end ends) c.self.inside.joints.items c.self.inside.contacts.items (as_many_ends joint_end contact_end ends) in
    let ends_long = length-map ends joint_end in
    let lt : c.args.colour < length ends = omega (arith, few, count, ends_long) in
    let e_is : c.end_of-end.result ≡ get_or ends c.args.colour nothing = rw c.deref-2.ensures.value at c.end_of-end.ensures in
    let s_is : c.start_of-start.result.contacts ≡ last_end 0 (take c.args.colour (map contact_end ends)) = rw c.deref.ensures.value at c.start_of-start.ensures.contacts in
    subst (λ (e : ColourEnd). c.start_of-start.result.contacts ≤ e.contacts) (sym e_is) (start_low contact_end ends c.args.colour c.start_of-start.result.contacts (length c.self.inside.contacts.items) nothing c.self.invariant.1 lt s_is)

pub pass_colour-requires-clause-contacts_end : goal.pass_colour-requires-clause-contacts_end
pass_colour-requires-clause-contacts_end g c =
    let ends = c.self.inside.ends.items in
    let few : c.args.colour < length (colours_of (map joint_end ends) (map contact_end ends) c.self.inside.joints.items c.self.inside.contacts.items) = rw (← c.self.view_is) at c.requires.colour in
    let count = colours_count (map joint_end ends) (map contact_end ends) c.self.inside.joints.items c.self.inside.contacts.items (as_many_ends joint_end contact_end ends) in
    let ends_long = length-map ends joint_end in
    let lt : c.args.colour < length ends = omega (arith, few, count, ends_long) in
    let e_is : c.end_of-end.result ≡ get_or ends c.args.colour nothing = rw c.deref-2.ensures.value at c.end_of-end.ensures in
    subst (λ (e : ColourEnd). e.contacts ≤ length c.self.inside.contacts.items) (sym e_is) (end_inside contact_end ends c.args.colour (length c.self.inside.contacts.items) nothing c.self.invariant.1 lt)

pub pass_colour-requires-clause-joints : goal.pass_colour-requires-clause-joints
pass_colour-requires-clause-joints g c =
    let ends = c.self.inside.ends.items in
    let n = length c.args.states.now.items in
    let below : AreRowsBelow n (rows_kept (map joint_end ends) (map contact_end ends) c.self.inside.joints.items c.self.inside.contacts.items) = rw (← c.self.view_is) at c.requires.rows in
    subst (AreRowsOn joint_slots IsJointRow n) (joints_kept (map joint_end ends) (map contact_end ends) c.self.inside.joints.items c.self.inside.contacts.items (as_many_ends joint_end contact_end ends)) (joints_below n _ below)

pub pass_colour-requires-clause-contacts : goal.pass_colour-requires-clause-contacts
pass_colour-requires-clause-contacts g c =
    let ends = c.self.inside.ends.items in
    let n = length c.args.states.now.items in
    let below : AreRowsBelow n (rows_kept (map joint_end ends) (map contact_end ends) c.self.inside.joints.items c.self.inside.contacts.items) = rw (← c.self.view_is) at c.requires.rows in
    subst (AreRowsOn contact_slots IsRow n) (contacts_kept (map joint_end ends) (map contact_end ends) c.self.inside.joints.items c.self.inside.contacts.items (as_many_ends joint_end contact_end ends)) (contacts_below n _ below)

pub returns-clause-passed : goal.returns-clause-passed
returns-clause-passed g c =
    let ends = c.self.inside.ends.items in
    let k = c.args.colour in
    let je = map joint_end ends in
    let ce = map contact_end ends in
    let start = c.start_of-start.result in
    let end = c.end_of-end.result in
    let old = c.self.inside in
    let made = c.pass_colour.ensures in
    let new = c.pass_colour.new in
    let few : c.args.colour < length (colours_of (map joint_end ends) (map contact_end ends) c.self.inside.joints.items c.self.inside.contacts.items) = rw (← c.self.view_is) at c.requires.colour in
    let count = colours_count (map joint_end ends) (map contact_end ends) c.self.inside.joints.items c.self.inside.contacts.items (as_many_ends joint_end contact_end ends) in
    let ends_long = length-map ends joint_end in
    let lt : c.args.colour < length ends = omega (arith, few, count, ends_long) in
    let e_is : end ≡ get_or ends k nothing = rw c.deref-2.ensures.value at c.end_of-end.ensures in
    let first : IsOneColour k je old.joints.items new.joints.items start.joints end.joints = record {
      ascend = c.self.invariant.0;
      few = below_ends joint_end ends k lt;
      from = rw c.deref.ensures.value at c.start_of-start.ensures.joints;
      to = ap joint_end e_is ∙ end_there joint_end ends k nothing lt;
      long = made.as_many_joints;
      before = made.joints_before;
      behind = made.joints_behind;
    } in
    let second : IsOneColour k ce old.contacts.items new.contacts.items start.contacts end.contacts = record {
      ascend = c.self.invariant.1;
      few = below_ends contact_end ends k lt;
      from = rw c.deref.ensures.value at c.start_of-start.ensures.contacts;
      to = ap contact_end e_is ∙ end_there contact_end ends k nothing lt;
      long = made.as_many_contacts;
      before = made.contacts_before;
      behind = made.contacts_behind;
    } in
    rw (← c.self.view_is)
    (passed_alike constraint_slots IsConstraintRow (both_visits (g.J.Visit.visit c.args.joint_visit.now) (g.C.Visit.visit c.args.contact_visit.now)) c.args.states.now.items new.states.items
    (joints_first (between start.joints end.joints old.joints.items) (between start.contacts end.contacts old.contacts.items)) (get_or (colours_of je ce old.joints.items old.contacts.items) k [])
    (joints_first (between start.joints end.joints new.joints.items) (between start.contacts end.contacts new.contacts.items)) (get_or (colours_of je ce new.joints.items new.contacts.items) k []) (as_vector c.pass_colour.result)
    (colour_was k je ce old.joints.items new.joints.items old.contacts.items new.contacts.items start.joints start.contacts end.joints end.contacts (as_many_ends joint_end contact_end ends) first second)
    (colour_is k je ce old.joints.items new.joints.items old.contacts.items new.contacts.items start.joints start.contacts end.joints end.contacts (as_many_ends joint_end contact_end ends) first second)
    made.passed)

pub returns-clause-colours : goal.returns-clause-colours
returns-clause-colours g c =
    let ends = c.self.inside.ends.items in
    let k = c.args.colour in
    let je = map joint_end ends in
    let ce = map contact_end ends in
    let start = c.start_of-start.result in
    let end = c.end_of-end.result in
    let old = c.self.inside in
    let made = c.pass_colour.ensures in
    let new = c.pass_colour.new in
    let few : c.args.colour < length (colours_of (map joint_end ends) (map contact_end ends) c.self.inside.joints.items c.self.inside.contacts.items) = rw (← c.self.view_is) at c.requires.colour in
    let count = colours_count (map joint_end ends) (map contact_end ends) c.self.inside.joints.items c.self.inside.contacts.items (as_many_ends joint_end contact_end ends) in
    let ends_long = length-map ends joint_end in
    let lt : c.args.colour < length ends = omega (arith, few, count, ends_long) in
    let e_is : end ≡ get_or ends k nothing = rw c.deref-2.ensures.value at c.end_of-end.ensures in
    let first : IsOneColour k je old.joints.items new.joints.items start.joints end.joints = record {
      ascend = c.self.invariant.0;
      few = below_ends joint_end ends k lt;
      from = rw c.deref.ensures.value at c.start_of-start.ensures.joints;
      to = ap joint_end e_is ∙ end_there joint_end ends k nothing lt;
      long = made.as_many_joints;
      before = made.joints_before;
      behind = made.joints_behind;
    } in
    let second : IsOneColour k ce old.contacts.items new.contacts.items start.contacts end.contacts = record {
      ascend = c.self.invariant.1;
      few = below_ends contact_end ends k lt;
      from = rw c.deref.ensures.value at c.start_of-start.ensures.contacts;
      to = ap contact_end e_is ∙ end_there contact_end ends k nothing lt;
      long = made.as_many_contacts;
      before = made.contacts_before;
      behind = made.contacts_behind;
    } in
    rw (← c.self.view_is)
    (colours_set k je ce old.joints.items new.joints.items old.contacts.items new.contacts.items start.joints start.contacts end.joints end.contacts (as_many_ends joint_end contact_end ends) first second)

pub returns-clause-left : goal.returns-clause-left
returns-clause-left g c =
    let ends = c.self.inside.ends.items in
    let k = c.args.colour in
    let je = map joint_end ends in
    let ce = map contact_end ends in
    let start = c.start_of-start.result in
    let end = c.end_of-end.result in
    let old = c.self.inside in
    let made = c.pass_colour.ensures in
    let new = c.pass_colour.new in
    let few : c.args.colour < length (colours_of (map joint_end ends) (map contact_end ends) c.self.inside.joints.items c.self.inside.contacts.items) = rw (← c.self.view_is) at c.requires.colour in
    let count = colours_count (map joint_end ends) (map contact_end ends) c.self.inside.joints.items c.self.inside.contacts.items (as_many_ends joint_end contact_end ends) in
    let ends_long = length-map ends joint_end in
    let lt : c.args.colour < length ends = omega (arith, few, count, ends_long) in
    let e_is : end ≡ get_or ends k nothing = rw c.deref-2.ensures.value at c.end_of-end.ensures in
    let first : IsOneColour k je old.joints.items new.joints.items start.joints end.joints = record {
      ascend = c.self.invariant.0;
      few = below_ends joint_end ends k lt;
      from = rw c.deref.ensures.value at c.start_of-start.ensures.joints;
      to = ap joint_end e_is ∙ end_there joint_end ends k nothing lt;
      long = made.as_many_joints;
      before = made.joints_before;
      behind = made.joints_behind;
    } in
    let second : IsOneColour k ce old.contacts.items new.contacts.items start.contacts end.contacts = record {
      ascend = c.self.invariant.1;
      few = below_ends contact_end ends k lt;
      from = rw c.deref.ensures.value at c.start_of-start.ensures.contacts;
      to = ap contact_end e_is ∙ end_there contact_end ends k nothing lt;
      long = made.as_many_contacts;
      before = made.contacts_before;
      behind = made.contacts_behind;
    } in
    rw (← c.self.view_is)
    (left_kept k je ce old.joints.items new.joints.items old.contacts.items new.contacts.items start.joints start.contacts end.joints end.contacts first second)

pub returns-clause-rows : goal.returns-clause-rows
returns-clause-rows g c =
    let ends = c.self.inside.ends.items in
    kept_below (length c.pass_colour.new.states.items) (map joint_end ends) (map contact_end ends) c.pass_colour.new.joints.items c.pass_colour.new.contacts.items (as_many_ends joint_end contact_end ends) c.pass_colour.ensures.joints c.pass_colour.ensures.contacts
