use Rattle.std.proofs.Common.{◌≡◌, ◌<◌, ◌+◌, ◌∙◌, true, false, length, arith, List, subst, sym, ap}
use Rattle.graph_colours.specs.declared.limits.TheConstants.{COLOURS}
use Rattle.graph_colours.specs.declared.member.Member.{Member}
use Rattle.graph_colours.specs.Members.{inserted}
use Rattle.graph_colours.specs.FoundMembers.{has_id}
use Rattle.graph_colours.specs.TakenColours.{AreTakenColours}
use Rattle.graph_colours.specs.Graph.{lists_of}
use Rattle.graph_colours.specs.Colours.{list_at}
use Rattle.graph_colours.proofs.TakenLemmas.{bits_placed, same_length}
use Rattle.graph_colours.proofs.StepLemmas.{lists_count, items_at, items_set, one_fits, rooms_set}
use Rattle.graph_colours.proofs.GraphLemmas.{least_is, absent_at, placed_is, graph_placed, below_words}
use Rattle.graph_colours.proofs.colours.place_in.Goals as goal

pub first_free-colour-requires : goal.first_free-colour-requires
first_free-colour-requires g c = rw c.deref.ensures.value (below_words c.args.words.now.items c.args.size.slots c.args.member.movers c.requires.graph.slots c.requires.below)

pub index_mut-requires : goal.index_mut-requires
index_mut-requires g c =
    let n : length c.args.lists.now.items ≡ COLOURS + 1 = lists_count g.C.ConstraintId.number c.args.lists.now.items c.requires.graph.colouring in
    omega (arith, n, c.first_free-colour.ensures.most, c.args.lists.now.ok.0)

pub insert-requires-clause-absent : goal.insert-requires-clause-absent
insert-requires-clause-absent g c =
    let n = g.C.ConstraintId.number in
    let ks = c.args.lists.now.items in
    let x = c.index_mut.result.now in
    let place = c.first_free-colour.result in
    let many : length ks ≡ COLOURS + 1 = lists_count n ks c.requires.graph.colouring in
    let lt : place < length ks = omega (arith, many, c.first_free-colour.ensures.most) in
    let within : place < length (lists_of ks) = omega (arith, c.requires.graph.colouring.count, c.first_free-colour.ensures.most) in
    let P : List (Member g.row.C.Denot) → Type 0 = λ ms. has_id n c.args.member.id ms ≡ false in
    subst P (sym (items_at ks place x lt c.index_mut.ensures.value)) (absent_at n c.args.member.id (lists_of ks) place c.requires.absent within)

pub insert-requires-clause-room : goal.insert-requires-clause-room
insert-requires-clause-room g c =
    let ks = c.args.lists.now.items in
    let place = c.first_free-colour.result in
    let many : length ks ≡ COLOURS + 1 = lists_count g.C.ConstraintId.number ks c.requires.graph.colouring in
    let lt : place < length ks = omega (arith, many, c.first_free-colour.ensures.most) in
    one_fits c.args.size.total c.args.size.count ks place c.index_mut.result.now lt c.index_mut.ensures.value c.requires.graph.rooms (omega (arith, c.requires.graph.members)) c.requires.room

pub set_colour_bits-requires : goal.set_colour_bits-requires
set_colour_bits-requires g c = λ lt. below_words c.args.words.now.items c.args.size.slots c.args.member.movers c.requires.graph.slots c.requires.below

pub returns-clause-colour : goal.returns-clause-colour
returns-clause-colour g c =
    let before = rw c.deref.ensures.value at c.first_free-colour.ensures.before in
    let free = rw c.deref.ensures.value at c.first_free-colour.ensures.free in
    least_is (lists_of c.args.lists.now.items) c.args.words.now.items c.args.member.movers c.first_free-colour.result c.requires.graph.colouring.count c.requires.graph.bits c.first_free-colour.ensures.most before free

pub returns-clause-lists : goal.returns-clause-lists
returns-clause-lists g c =
    let n = g.C.ConstraintId.number in
    let ks = c.args.lists.now.items in
    let x = c.index_mut.result.now in
    let place = c.first_free-colour.result in
    let many : length ks ≡ COLOURS + 1 = lists_count n ks c.requires.graph.colouring in
    let lt : place < length ks = omega (arith, many, c.first_free-colour.ensures.most) in
    let at = items_at ks place x lt c.index_mut.ensures.value in
    let put : List (Member g.row.C.Denot) = inserted n c.args.member (list_at (lists_of ks) place) in
    placed_is n c.args.member (lists_of ks) _ place (returns-clause-colour g c) (items_set ks place c.insert.new.self put (c.insert.ensures.items ∙ ap (λ (ms : List (Member g.row.C.Denot)). inserted n c.args.member ms) at))

pub returns-clause-graph : goal.returns-clause-graph
returns-clause-graph g c =
    let n = g.C.ConstraintId.number in
    let ks = c.args.lists.now.items in
    let x = c.index_mut.result.now in
    let place = c.first_free-colour.result in
    let words = c.args.words.now.items in
    let more = c.set_colour_bits.new.words.items in
    let many : length ks ≡ COLOURS + 1 = lists_count n ks c.requires.graph.colouring in
    let lt : place < length ks = omega (arith, many, c.first_free-colour.ensures.most) in
    let within : place < length (lists_of ks) = omega (arith, c.requires.graph.colouring.count, c.first_free-colour.ensures.most) in
    let at = items_at ks place x lt c.index_mut.ensures.value in
    let put : List (Member g.row.C.Denot) = inserted n c.args.member (list_at (lists_of ks) place) in
    let is = items_set ks place c.insert.new.self put (c.insert.ensures.items ∙ ap (λ (ms : List (Member g.row.C.Denot)). inserted n c.args.member ms) at) in
    let P : List (List (Member g.row.C.Denot)) → Type 0 = λ ls. AreTakenColours ls more in
    let bits = subst P (sym is) (bits_placed n c.args.member (lists_of ks) words more place within c.requires.graph.bits c.set_colour_bits.ensures.set c.set_colour_bits.ensures.overflow) in
    graph_placed n c.args.member ks _ words more c.args.size c.requires.graph c.requires.absent (returns-clause-lists g c) bits c.requires.room
    (rooms_set c.args.size.total ks place x c.insert.new.self lt c.index_mut.ensures.value c.insert.ensures.capacity c.requires.graph.rooms)
    (same_length words more place c.args.member.movers true c.set_colour_bits.ensures.set c.set_colour_bits.ensures.overflow)
