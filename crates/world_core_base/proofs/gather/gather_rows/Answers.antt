use Rattle.std.proofs.Common.{◌≡◌, ◌<◌, ◌≤◌, ◌+◌, ◌++◌, ◌∷◌, [], length, drop, sym, ap, ◌∙◌, subst, arith, All}
use Rattle.contacts_base.specs.Split.{contacts_in}
use Rattle.colour_solver.specs.ConstraintVisits.{AreRowsBelow, IsRowBelow}
use Rattle.graph_colours.specs.Colours.{all_members, list_at}
use Rattle.graph_colours.specs.declared.limits.TheConstants.{COLOURS}
use Rattle.world_core_base.specs.ConstraintRows.{rows_in, rows_of}
use Rattle.world_core_base.proofs.ColourLists.{all_joined, all_lists_more, joined, length_joined, lists_more}
use Rattle.world_core_base.proofs.gather.gather_rows.Goals as goal

pub loop-colour-preserved : goal.loop-colour-preserved
loop-colour-preserved c =
    let states = c.args.sources.states.now in
    let joints = c.args.sources.joints.now in
    let contacts = contacts_in c.args.sources.contacts.now in
    let lists = c.args.colours.now.lists in
    let place = c.loop-colour.colour in
    let known = c.loop-colour.invariant in
    let made = c.gather_colour.ensures in
    let ended = c.end_colour.ensures in
    let count : length lists ≡ COLOURS + 1 = c.members.ensures.colouring.count in
    let here : place < length lists = omega (arith, c.loop-colour-test.true, count) in
    let row : c.gather_colour.new.rows.left ≡ rows_in states joints contacts (list_at lists place) = rw c.members.ensures.value at made.left in
    let colours : c.end_colour.new.self.colours ≡ c.loop-colour.rows.colours ++ rows_in states joints contacts (list_at lists place) ∷ [] =
    rw (made.colours, row) at ended.colours in
    let rest = length_joined lists place [] here in
    let members : length c.members.result.now ≡ length (list_at lists place) = ap length c.members.ensures.value in
    record {
      colours = colours ∙ lists_more (rows_in states joints contacts) c.loop-colour.rows.colours lists place [] here known.colours;
      left = ended.left;
      rows = subst (All (AreRowsBelow (length states))) (sym colours) (all_lists_more (AreRowsBelow (length states)) c.loop-colour.rows.colours (rows_in states joints contacts (list_at lists place)) known.rows (subst (AreRowsBelow (length states)) row made.rows));
      room = omega (arith, known.room, made.room, ended.room, rest, members);
      more = omega (arith, known.more, made.more, ended.more);
      low = omega (arith, c.loop-colour-test.true);
    }

pub returns-clause-colours : goal.returns-clause-colours
returns-clause-colours c =
    let known = c.loop-colour.invariant in
    let all : c.loop-colour.colour ≡ COLOURS = omega (arith, c.loop-colour-test.false, known.low) in
    c.gather_colour-2.ensures.colours ∙ rw all at known.colours

pub returns-clause-left : goal.returns-clause-left
returns-clause-left c = rw c.members-2.ensures.value at c.gather_colour-2.ensures.left

pub returns-clause-value : goal.returns-clause-value
unfolding rows_of
returns-clause-value c =
    joined (rows_in c.args.sources.states.now c.args.sources.joints.now (contacts_in c.args.sources.contacts.now)) c.args.colours.now.lists COLOURS [] c.gather_colour-2.new.rows.colours c.gather_colour-2.new.rows.left c.members-2.ensures.colouring.count (returns-clause-colours c) (returns-clause-left c)

pub returns-clause-rows : goal.returns-clause-rows
returns-clause-rows c =
    let made = c.gather_colour-2.ensures in
    all_joined (IsRowBelow (length c.args.sources.states.now)) c.gather_colour-2.new.rows.colours c.gather_colour-2.new.rows.left (subst (All (AreRowsBelow (length c.args.sources.states.now))) (sym made.colours) c.loop-colour.invariant.rows) made.rows

pub gather_colour-requires-2-clause-room : goal.gather_colour-requires-2-clause-room
gather_colour-requires-2-clause-room c =
    let known = c.loop-colour.invariant in
    let lists = c.args.colours.now.lists in
    let count : length lists ≡ COLOURS + 1 = c.members-2.ensures.colouring.count in
    let rest = length_joined lists COLOURS [] (omega (arith, count)) in
    let all : c.loop-colour.colour ≡ COLOURS = omega (arith, c.loop-colour-test.false, known.low) in
    let room : length (all_members (drop COLOURS lists)) ≤ c.loop-colour.rows.room = rw all at known.room in
    let members : length c.members-2.result.now ≡ length (list_at lists COLOURS) = ap length c.members-2.ensures.value in
    omega (arith, room, rest, members)
