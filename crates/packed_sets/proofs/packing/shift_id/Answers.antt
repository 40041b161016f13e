use Rattle.std.proofs.Common.{◌≡◌, ◌<◌, List, Some, map, length, ap, sym, ◌∙◌, arith}
use Rattle.std.specs.List.{Contains}
use Rattle.std.specs.Option.{is_some}
use Rattle.packed_sets.specs.declared.spots.Spot.{Spot}
use Rattle.packed_sets.specs.Packs.{list_at, IsAbsent}
use Rattle.packed_sets.specs.Notes.{spot_of, numbers_of}
use Rattle.packed_sets.proofs.KeptLaws.{stands_in, none_has, below_notes}
use Rattle.packed_sets.proofs.NumberLaws.{id_in, number_in, id_absent}
use Rattle.packed_sets.proofs.ViewLaws.{seen_count, rooms_through}
use Rattle.packed_sets.proofs.ShiftLaws.{taken_fewer, some_of, none_of}
use Rattle.packed_sets.proofs.packing.shift_id.Goals as goal

pub put_in-requires-clause-set : goal.put_in-requires-clause-set
put_in-requires-clause-set g c = omega (arith, c.requires.set, c.take_id.ensures.long, seen_count c.args.lists.now.items, seen_count c.take_id.new.lists.items)

pub put_in-requires-clause-space : goal.put_in-requires-clause-space
put_in-requires-clause-space g c =
    let n = g.I.ItemId.number in
    let lists : List (List g.row.I.Denot) = map (λ v. v.items) c.args.lists.now.items in
    let spots = c.args.spots.now.items in
    let found = rw (c.deref.ensures.value, c.number.ensures) at (sym (ap is_some c.spot_of.ensures) ∙ sym c.is_some.ensures ∙ c.if-is_some.true) in
    let at : (spot : Spot) × (spot_of spots (n c.args.id) ≡ Some spot) = some_of (spot_of spots (n c.args.id)) found in
    let here : Contains (list_at lists at.0.set) c.args.id = id_in n g.met.I.ItemId.known lists at.0.set c.args.id (stands_in (numbers_of n lists) spots (n c.args.id) at.0 c.requires.kept at.1) in
    let fewer = taken_fewer lists _ at.0.set c.args.id (c.take_id.ensures.taken at.0.set here) c.args.set in
    let room = c.take_id.ensures.capacities c.args.set in
    omega (arith, c.requires.space, fewer, room)

pub put_in-requires-clause-noted : goal.put_in-requires-clause-noted
put_in-requires-clause-noted g c =
    let n = g.I.ItemId.number in
    let lists : List (List g.row.I.Denot) = map (λ v. v.items) c.args.lists.now.items in
    let spots = c.args.spots.now.items in
    let found = rw (c.deref.ensures.value, c.number.ensures) at (sym (ap is_some c.spot_of.ensures) ∙ sym c.is_some.ensures ∙ c.if-is_some.true) in
    let at : (spot : Spot) × (spot_of spots (n c.args.id) ≡ Some spot) = some_of (spot_of spots (n c.args.id)) found in
    let here : Contains (list_at lists at.0.set) c.args.id = id_in n g.met.I.ItemId.known lists at.0.set c.args.id (stands_in (numbers_of n lists) spots (n c.args.id) at.0 c.requires.kept at.1) in
    let below : n c.args.id < length spots = below_notes (numbers_of n lists) spots at.0.set (n c.args.id) c.requires.kept (number_in n lists at.0.set c.args.id here) in
    omega (arith, below, c.take_id.ensures.noted)

pub returns-then-is_some-clause-shifted : goal.returns-then-is_some-clause-shifted
returns-then-is_some-clause-shifted g c = λ from h. record { between = map (λ v. v.items) c.take_id.new.lists.items; taken = c.take_id.ensures.taken from h; put = c.put_in.ensures.put }

pub returns-then-is_some-clause-absent : goal.returns-then-is_some-clause-absent
returns-then-is_some-clause-absent g c = λ absent.
    let n = g.I.ItemId.number in
    let lists : List (List g.row.I.Denot) = map (λ v. v.items) c.args.lists.now.items in
    let spots = c.args.spots.now.items in
    let found = rw (c.deref.ensures.value, c.number.ensures) at (sym (ap is_some c.spot_of.ensures) ∙ sym c.is_some.ensures ∙ c.if-is_some.true) in
    let at : (spot : Spot) × (spot_of spots (n c.args.id) ≡ Some spot) = some_of (spot_of spots (n c.args.id)) found in
    let here : Contains (list_at lists at.0.set) c.args.id = id_in n g.met.I.ItemId.known lists at.0.set c.args.id (stands_in (numbers_of n lists) spots (n c.args.id) at.0 c.requires.kept at.1) in
    absurd (absent at.0.set here)

pub returns-then-is_some-clause-long : goal.returns-then-is_some-clause-long
returns-then-is_some-clause-long g c = c.put_in.ensures.long ∙ c.take_id.ensures.long

pub returns-then-is_some-clause-noted : goal.returns-then-is_some-clause-noted
returns-then-is_some-clause-noted g c = c.put_in.ensures.noted ∙ c.take_id.ensures.noted

pub returns-then-is_some-clause-capacities : goal.returns-then-is_some-clause-capacities
returns-then-is_some-clause-capacities g c = rooms_through _ _ _ c.take_id.ensures.capacities c.put_in.ensures.capacities

pub returns-else-is_some-clause-shifted : goal.returns-else-is_some-clause-shifted
returns-else-is_some-clause-shifted g c = λ from h.
    let n = g.I.ItemId.number in
    let lists : List (List g.row.I.Denot) = map (λ v. v.items) c.args.lists.now.items in
    let spots = c.args.spots.now.items in
    let missed = rw (c.deref.ensures.value, c.number.ensures) at (sym (ap is_some c.spot_of.ensures) ∙ sym c.is_some.ensures ∙ c.if-is_some.false) in
    let none : IsAbsent lists c.args.id = id_absent n lists c.args.id (none_has (numbers_of n lists) spots (n c.args.id) c.requires.kept (none_of (spot_of spots (n c.args.id)) missed)) in
    absurd (none from h)
