use Rattle.std.proofs.Common.{◌≡◌, ℕ, ◌+◌, ◌<◌, false, List, length, Some, None, refl, sym, ap, ◌∙◌, subst, arith}
use Rattle.std.specs.Option.{is_some}
use Rattle.graph_colours.specs.declared.limits.TheConstants.{COLOURS}
use Rattle.graph_colours.specs.declared.member.Member.{Member}
use Rattle.graph_colours.specs.Members.{without_member}
use Rattle.graph_colours.specs.FoundMembers.{has_id, movers_of}
use Rattle.graph_colours.specs.Graph.{lists_of}
use Rattle.graph_colours.specs.TakenColours.{AreTakenColours}
use Rattle.graph_colours.specs.Edits.{Pended}
use Rattle.graph_colours.specs.Colours.{list_at}
use Rattle.graph_colours.proofs.PlaceLemmas.{has_movers, without_same}
use Rattle.graph_colours.proofs.GraphLemmas.{rising_at, apart_at}
use Rattle.graph_colours.proofs.TakenLemmas.{found_below, bits_removed, same_length}
use Rattle.graph_colours.proofs.StepLemmas.{lists_count, items_at, items_set, map_kept, rooms_set}
use Rattle.graph_colours.proofs.lists.remove_at.Goals as goal

pub returns-in_default-clause-value : goal.returns-in_default-clause-value
returns-in_default-clause-value g c =
    let n = g.C.ConstraintId.number in
    let ks = c.args.lists.now.items in
    let x = c.index_mut.result.now in
    let at : x.items ≡ list_at (lists_of ks) c.args.place = items_at ks c.args.place x c.requires.place c.index_mut.ensures.value in
    ap is_some c.in_default.ensures.value ∙ has_movers n c.args.id x.items ∙ ap (λ (ms : List (Member g.row.C.Denot)). has_id n c.args.id ms) at

-- nothing was taken out
same_items : {C : Type 0} (number : C → ℕ) (id : C) (x y : Pended C) → y.items ≡ without_member number id x.items → None ≡ movers_of number id x.items → y.items ≡ x.items
same_items number id x y is none = is ∙ without_same number id x.items (sym (has_movers number id x.items) ∙ sym (ap is_some none))

pub returns-in_default-clause-lists : goal.returns-in_default-clause-lists
returns-in_default-clause-lists g c =
    let n = g.C.ConstraintId.number in
    let ks = c.args.lists.now.items in
    let x = c.index_mut.result.now in
    let at : x.items ≡ list_at (lists_of ks) c.args.place = items_at ks c.args.place x c.requires.place c.index_mut.ensures.value in
    items_set ks c.args.place c.remove.new.self (without_member n c.args.id (list_at (lists_of ks) c.args.place)) (c.remove.ensures.items ∙ ap (λ (ms : List (Member g.row.C.Denot)). without_member n c.args.id ms) at)

pub returns-in_default-clause-bits : goal.returns-in_default-clause-bits
returns-in_default-clause-bits g c =
    let f : Pended g.row.C.Denot → List (Member g.row.C.Denot) = λ l. l.items in
    let x = c.index_mut.result.now in
    let same = same_items g.C.ConstraintId.number c.args.id x c.remove.new.self c.remove.ensures.items c.in_default.ensures.value in
    let kept = map_kept f c.args.lists.now.items c.args.place c.remove.new.self x (same ∙ ap f c.index_mut.ensures.value) in
    let P : List (List (Member g.row.C.Denot)) → Type 0 = λ ls. AreTakenColours ls c.args.words.now.items in
    subst P (sym kept) c.requires.bits

pub returns-in_default-clause-kept : goal.returns-in_default-clause-kept
returns-in_default-clause-kept g c = λ room each. rooms_set room c.args.lists.now.items c.args.place c.index_mut.result.now c.remove.new.self c.requires.place c.index_mut.ensures.value c.remove.ensures.capacity each

pub set_colour_bits-requires : goal.set_colour_bits-requires
set_colour_bits-requires g c = λ lt.
    let n = g.C.ConstraintId.number in
    let ks = c.args.lists.now.items in
    let x = c.index_mut.result.now in
    let at : x.items ≡ list_at (lists_of ks) c.args.place = items_at ks c.args.place x c.requires.place c.index_mut.ensures.value in
    let is : Some c.in-Some.movers ≡ movers_of n c.args.id (list_at (lists_of ks) c.args.place) = c.in-Some.ensures.value ∙ ap (λ (ms : List (Member g.row.C.Denot)). movers_of n c.args.id ms) at in
    found_below n c.args.id (lists_of ks) c.args.words.now.items c.args.place c.in-Some.movers lt c.requires.bits is

pub returns-clause-value : goal.returns-clause-value
returns-clause-value g c =
    let n = g.C.ConstraintId.number in
    let ks = c.args.lists.now.items in
    let x = c.index_mut.result.now in
    let at : x.items ≡ list_at (lists_of ks) c.args.place = items_at ks c.args.place x c.requires.place c.index_mut.ensures.value in
    ap is_some c.in-Some.ensures.value ∙ has_movers n c.args.id x.items ∙ ap (λ (ms : List (Member g.row.C.Denot)). has_id n c.args.id ms) at

pub returns-clause-lists : goal.returns-clause-lists
returns-clause-lists g c =
    let n = g.C.ConstraintId.number in
    let ks = c.args.lists.now.items in
    let x = c.index_mut.result.now in
    let at : x.items ≡ list_at (lists_of ks) c.args.place = items_at ks c.args.place x c.requires.place c.index_mut.ensures.value in
    items_set ks c.args.place c.remove.new.self (without_member n c.args.id (list_at (lists_of ks) c.args.place)) (c.remove.ensures.items ∙ ap (λ (ms : List (Member g.row.C.Denot)). without_member n c.args.id ms) at)

pub returns-clause-bits : goal.returns-clause-bits
returns-clause-bits g c =
    let n = g.C.ConstraintId.number in
    let ks = c.args.lists.now.items in
    let lists : List (List (Member g.row.C.Denot)) = lists_of ks in
    let x = c.index_mut.result.now in
    let many : length ks ≡ COLOURS + 1 = lists_count n ks c.requires.colouring in
    let within : c.args.place < length lists = omega (arith, c.requires.colouring.count, many, c.requires.place) in
    let at : x.items ≡ list_at lists c.args.place = items_at ks c.args.place x c.requires.place c.index_mut.ensures.value in
    let is : Some c.in-Some.movers ≡ movers_of n c.args.id (list_at lists c.args.place) = c.in-Some.ensures.value ∙ ap (λ (ms : List (Member g.row.C.Denot)). movers_of n c.args.id ms) at in
    let P : List (List (Member g.row.C.Denot)) → Type 0 = λ ls. AreTakenColours ls c.set_colour_bits.new.words.items in
    subst P (sym (returns-clause-lists g c)) (bits_removed n c.args.id lists c.args.words.now.items c.set_colour_bits.new.words.items c.args.place c.in-Some.movers within c.requires.bits c.set_colour_bits.ensures.set c.set_colour_bits.ensures.overflow
    (rising_at n lists c.args.place (list_at lists c.args.place) c.requires.colouring (omega (arith, many, c.requires.place)) refl) (λ lt. apart_at n lists c.args.place (list_at lists c.args.place) c.requires.colouring lt refl) is)

pub returns-clause-long : goal.returns-clause-long
returns-clause-long g c = same_length c.args.words.now.items c.set_colour_bits.new.words.items c.args.place c.in-Some.movers false c.set_colour_bits.ensures.set c.set_colour_bits.ensures.overflow

pub returns-clause-kept : goal.returns-clause-kept
returns-clause-kept g c = λ room each. rooms_set room c.args.lists.now.items c.args.place c.index_mut.result.now c.remove.new.self c.requires.place c.index_mut.ensures.value c.remove.ensures.capacity each
