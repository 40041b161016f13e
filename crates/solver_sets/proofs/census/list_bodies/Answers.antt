use Rattle.std.proofs.Common.{◌≡◌, ◌<◌, ◌≤◌, refl, get_or, length, Some, None, false, arith, sym, ap, ◌∙◌}
use Rattle.body_handles.specs.declared.slot_table.SlotEntry.{SlotEntry}
use Rattle.plain_world.specs.Bodies.{standing_of}
use Rattle.solver_sets.specs.declared.census.Item.TheVariants as items
use Rattle.solver_sets.specs.Census.{body_standings}
use Rattle.solver_sets.specs.CensusListing.{listed_in, with_all}
use Rattle.solver_sets.proofs.CensusLaws.{named_listed, slot_listed, slot_passed, slots_end}
use Rattle.solver_sets.proofs.census.list_bodies.Goals as goal
use Rattle.solver_sets.proofs.census.list_bodies.Goals.{in-Some+in_ok-list, in_default}

abbrev nowhere : SlotEntry
nowhere = record { generation = 0; live = false }

pub loop-slot-preserved : goal.loop-slot-preserved
loop-slot-preserved c =
    let slot_entries = c.args.slot_entries.now in
    let bodies = c.args.bodies.now in
    let slot = c.loop-slot.slot in
    let now = c.loop-slot.census in
    let in_places : slot < length slot_entries = omega (arith, c.requires.matched.slots, c.loop-slot-test.true) in
    elim c.match-entry.branch [
      | in-Some+in_ok-list w ↦
          let here : get_or bodies slot (Some w.in-Some.body) ≡ Some w.in-Some.body = rw w.in-Some.is at (sym c.index-bodies-slot.is) in
          let item = items.Body (record { slot = slot; generation = (get_or slot_entries slot nowhere).generation }) in
          let is : w.list.new.self ≡ listed_in now item (standing_of w.in-Some.body) = w.in_ok-list.ensures.listed ∙ ap (listed_in now item) w.standing.ensures in
          rw (w.census-is, is) (record {
            listed = slot_listed items.Body standing_of slot_entries bodies slot nowhere w.in-Some.body now (listed_in now item (standing_of w.in-Some.body)) in_places c.loop-slot-test.true here refl ∙ c.loop-slot.invariant.listed;
            named = named_listed now item (standing_of w.in-Some.body) c.loop-slot.invariant.named;
          })
      | in_default w ↦
          let here : get_or bodies slot None ≡ None = rw w.in_default.is at (sym c.index-bodies-slot.is) in
          rw w.census-is (record {
            listed = slot_passed items.Body standing_of slot_entries bodies slot nowhere now in_places c.loop-slot-test.true here ∙ c.loop-slot.invariant.listed;
            named = c.loop-slot.invariant.named;
          })
    ]

pub returns-clause-listed : goal.returns-clause-listed
returns-clause-listed c =
    let passed : length c.args.slot_entries.now ≤ c.loop-slot.slot = omega (arith, c.requires.matched.slots, c.loop-slot-test.false) in
    slots_end items.Body standing_of c.args.slot_entries.now c.args.bodies.now c.loop-slot.slot c.loop-slot.census (with_all c.args.census.now (body_standings c.args.slot_entries.now c.args.bodies.now)) passed c.loop-slot.invariant.listed
