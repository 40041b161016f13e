use Rattle.std.proofs.Common.{ℕ, ◌+◌, ◌≤◌, length, get_or, map, take, slice_index_or, arith, ap, ◌∙◌}
use Rattle.std.proofs.lemmas.List.{length-map, take_all}
use Rattle.colour_solver.specs.declared.colour_ends.ColourEnd.{ColourEnd}
use Rattle.colour_solver.specs.States.{as_vector}
use Rattle.colour_solver.specs.ColourRows.{last_end, rows_kept}
use Rattle.colour_solver.specs.ConstraintVisits.{IsConstraintRow, both_visits, constraint_slots}
use Rattle.colour_solver.proofs.KeptRowLaws.{AreBothEnds, HasPassed, HasVisited, all_passed, as_many_ends, below_ends, end_inside, end_there, first_rows, has_passed_more, start_inside, start_low, start_more, visited_there}
use Rattle.colour_solver.proofs.PassedLaws.{passed_small}
use Rattle.colour_solver.proofs.colour_passes.pass_colours.Goals as goal

abbrev joint_end : ColourEnd → ℕ
joint_end e = e.joints

abbrev contact_end : ColourEnd → ℕ
contact_end e = e.contacts

pub pass_colour-got-requires-clause-joints_ascend : goal.pass_colour-got-requires-clause-joints_ascend
pass_colour-got-requires-clause-joints_ascend g c =
    start_low joint_end c.args.ends.now c.loop-end.end-index c.loop-end.start.joints (length c.args.joints.now.items) (record { joints = 0; contacts = 0 }) c.requires.joint_ends c.loop-end-test.true c.loop-end.invariant.joints_start

pub pass_colour-got-requires-clause-joints_end : goal.pass_colour-got-requires-clause-joints_end
pass_colour-got-requires-clause-joints_end g c =
    let inside = end_inside joint_end c.args.ends.now c.loop-end.end-index (length c.args.joints.now.items) (record { joints = 0; contacts = 0 }) c.requires.joint_ends c.loop-end-test.true in
    omega (arith, inside, c.loop-end.invariant.passed.as_many_joints)

pub pass_colour-got-requires-clause-contacts_ascend : goal.pass_colour-got-requires-clause-contacts_ascend
pass_colour-got-requires-clause-contacts_ascend g c =
    start_low contact_end c.args.ends.now c.loop-end.end-index c.loop-end.start.contacts (length c.args.contacts.now.items) (record { joints = 0; contacts = 0 }) c.requires.contact_ends c.loop-end-test.true c.loop-end.invariant.contacts_start

pub pass_colour-got-requires-clause-contacts_end : goal.pass_colour-got-requires-clause-contacts_end
pass_colour-got-requires-clause-contacts_end g c =
    let inside = end_inside contact_end c.args.ends.now c.loop-end.end-index (length c.args.contacts.now.items) (record { joints = 0; contacts = 0 }) c.requires.contact_ends c.loop-end-test.true in
    omega (arith, inside, c.loop-end.invariant.passed.as_many_contacts)

pub loop-end-preserved : goal.loop-end-preserved
loop-end-preserved g c =
    let f = g.J.Visit.visit c.args.joint_visit.now in
    let h = g.C.Visit.visit c.args.contact_visit.now in
    let ends = c.args.ends.now in
    let k = c.loop-end.end-index in
    let je = map joint_end ends in
    let ce = map contact_end ends in
    let lt = c.loop-end-test.true in
    let known = c.loop-end.invariant in
    let made = c.pass_colour-got.ensures in
    let nothing : ColourEnd = record { joints = 0; contacts = 0 } in
    let end : ColourEnd = slice_index_or ends k nothing in
    let start = c.loop-end.start in
    let now = c.loop-end in
    let new = c.pass_colour-got.new in
    let got = c.pass_colour-got.result in
    let both : AreBothEnds je ce c.args.joints.now.items c.args.contacts.now.items = record { as_many = as_many_ends joint_end contact_end ends; of_joints = c.requires.joint_ends; of_contacts = c.requires.contact_ends } in
    let visited : HasVisited f h start.joints start.contacts end.joints end.contacts now.states.items now.joints.items now.contacts.items new.states.items new.joints.items new.contacts.items (as_vector got) =
    record {
      passed = made.passed;
      joints_before = made.joints_before;
      joints_behind = made.joints_behind;
      contacts_before = made.contacts_before;
      contacts_behind = made.contacts_behind;
      as_many_joints = made.as_many_joints;
      as_many_contacts = made.as_many_contacts;
      all_joints = made.joints;
      all_contacts = made.contacts;
    } in
    let there =
    visited_there f h start.joints start.contacts end.joints end.contacts (last_end 0 (take k je)) (last_end 0 (take k ce)) (get_or je k 0) (get_or ce k 0) now.states.items now.joints.items now.contacts.items new.states.items new.joints.items new.contacts.items (as_vector got)
    known.joints_start known.contacts_start (end_there joint_end ends k nothing lt) (end_there contact_end ends k nothing lt) visited in
    let more =
    has_passed_more f h k je ce c.args.states.now.items now.states.items new.states.items c.args.joints.now.items now.joints.items new.joints.items c.args.contacts.now.items now.contacts.items new.contacts.items
    (as_vector c.loop-end.given) (as_vector got) both (below_ends joint_end ends k lt) known.passed there in
    let passed : HasPassed f h (k + 1) je ce c.args.states.now.items c.args.joints.now.items c.args.contacts.now.items new.states.items new.joints.items new.contacts.items (as_vector c.plus-given.result) =
    rw (c.plus-given.ensures.x, c.plus-given.ensures.y) more in
    record {
      passed = passed;
      joints_start = start_more joint_end ends k nothing lt;
      contacts_start = start_more contact_end ends k nothing lt;
      small =
          passed_small constraint_slots IsConstraintRow (both_visits f h) c.args.states.now.items new.states.items (first_rows (k + 1) je ce c.args.joints.now.items c.args.contacts.now.items) (first_rows (k + 1) je ce new.joints.items new.contacts.items) c.plus-given.result
          c.requires.few c.requires.states passed.passed;
    }

pub pass_colour-last-requires-clause-joints_ascend : goal.pass_colour-last-requires-clause-joints_ascend
pass_colour-last-requires-clause-joints_ascend g c =
    let inside = start_inside joint_end c.args.ends.now c.loop-end.end-index c.loop-end.start.joints (length c.args.joints.now.items) c.requires.joint_ends c.loop-end.invariant.joints_start in
    omega (arith, inside, c.len.ensures, c.loop-end.invariant.passed.as_many_joints, c.loop-end.joints.ok)

pub pass_colour-last-requires-clause-contacts_ascend : goal.pass_colour-last-requires-clause-contacts_ascend
pass_colour-last-requires-clause-contacts_ascend g c =
    let inside = start_inside contact_end c.args.ends.now c.loop-end.end-index c.loop-end.start.contacts (length c.args.contacts.now.items) c.requires.contact_ends c.loop-end.invariant.contacts_start in
    omega (arith, inside, c.len-2.ensures, c.loop-end.invariant.passed.as_many_contacts, c.loop-end.contacts.ok)

pub returns-clause-passed : goal.returns-clause-passed
returns-clause-passed g c =
    let f = g.J.Visit.visit c.args.joint_visit.now in
    let h = g.C.Visit.visit c.args.contact_visit.now in
    let ends = c.args.ends.now in
    let k = c.loop-end.end-index in
    let je = map joint_end ends in
    let ce = map contact_end ends in
    let known = c.loop-end.invariant in
    let made = c.pass_colour-last.ensures in
    let start = c.loop-end.start in
    let now = c.loop-end in
    let new = c.pass_colour-last.new in
    let got = c.pass_colour-last.result in
    let long = length-map ends joint_end in
    let others = length-map ends contact_end in
    let high : length je ≤ k = omega (arith, long, c.loop-end-test.false) in
    let high_too : length ce ≤ k = omega (arith, others, c.loop-end-test.false) in
    let both : AreBothEnds je ce c.args.joints.now.items c.args.contacts.now.items = record { as_many = as_many_ends joint_end contact_end ends; of_joints = c.requires.joint_ends; of_contacts = c.requires.contact_ends } in
    let visited : HasVisited f h start.joints start.contacts c.len.result c.len-2.result now.states.items now.joints.items now.contacts.items new.states.items new.joints.items new.contacts.items (as_vector got) =
    record {
      passed = made.passed;
      joints_before = made.joints_before;
      joints_behind = made.joints_behind;
      contacts_before = made.contacts_before;
      contacts_behind = made.contacts_behind;
      as_many_joints = made.as_many_joints;
      as_many_contacts = made.as_many_contacts;
      all_joints = made.joints;
      all_contacts = made.contacts;
    } in
    let there =
    visited_there f h start.joints start.contacts c.len.result c.len-2.result (last_end 0 je) (last_end 0 ce) (length now.joints.items) (length now.contacts.items) now.states.items now.joints.items now.contacts.items new.states.items new.joints.items new.contacts.items (as_vector got)
    (known.joints_start ∙ ap (last_end 0) (take_all k je high)) (known.contacts_start ∙ ap (last_end 0) (take_all k ce high_too)) (omega (arith, c.len.ensures, c.loop-end.joints.ok)) (omega (arith, c.len-2.ensures, c.loop-end.contacts.ok)) visited in
    rw (c.plus.ensures.x, c.plus.ensures.y)
    (all_passed f h k je ce c.args.states.now.items now.states.items new.states.items c.args.joints.now.items now.joints.items new.joints.items c.args.contacts.now.items now.contacts.items new.contacts.items
    (as_vector c.loop-end.given) (as_vector got) both high known.passed there)

pub returns-clause-small : goal.returns-clause-small
returns-clause-small g c =
    let je = map joint_end c.args.ends.now in
    let ce = map contact_end c.args.ends.now in
    passed_small constraint_slots IsConstraintRow (both_visits (g.J.Visit.visit c.args.joint_visit.now) (g.C.Visit.visit c.args.contact_visit.now)) c.args.states.now.items c.pass_colour-last.new.states.items (rows_kept je ce c.args.joints.now.items c.args.contacts.now.items)
    (rows_kept je ce c.pass_colour-last.new.joints.items c.pass_colour-last.new.contacts.items) c.plus.result c.requires.few c.requires.states (returns-clause-passed g c)
