use Rattle.std.proofs.Common.{◌≡◌, ℕ, ◌+◌, ◌<◌, false, true, List, length, slice_set, refl, sym, ◌∙◌, subst, inl, inr, arith}
use Rattle.std.proofs.lemmas.Bool.{cases_eq, cases_lt}
use Rattle.graph_colours.specs.declared.limits.TheConstants.{COLOURS}
use Rattle.graph_colours.specs.declared.member.Member.{Member}
use Rattle.graph_colours.specs.Members.{without_member}
use Rattle.graph_colours.specs.FoundMembers.{has_id}
use Rattle.graph_colours.specs.Graph.{lists_of}
use Rattle.graph_colours.specs.Colours.{list_at, IsColouring}
use Rattle.graph_colours.proofs.PlaceLemmas.{without_same}
use Rattle.graph_colours.proofs.TakenLemmas.{not_candidate}
use Rattle.graph_colours.proofs.StepLemmas.{lists_count, same_count, nothing_set}
use Rattle.graph_colours.proofs.OnceLemmas.{first_loses, found_once, none_loses, none_times}
use Rattle.graph_colours.proofs.lists.remove_from_first.Goals as goal

pub remove_at-requires-clause-place : goal.remove_at-requires-clause-place
remove_at-requires-clause-place g c =
    let n = same_count c.loop-place.lists.items c.args.lists.now.items c.loop-place.invariant.lists in
    omega (arith, n, c.loop-place-test.true)

pub remove_at-requires-clause-colouring : goal.remove_at-requires-clause-colouring
remove_at-requires-clause-colouring g c =
    let P : List (List (Member g.row.C.Denot)) → Type 0 = λ ls. IsColouring g.C.ConstraintId.number ls in
    subst P (sym c.loop-place.invariant.lists) c.requires.colouring

pub loop-place-init : goal.loop-place-init
loop-place-init g c =
    let n = g.C.ConstraintId.number in
    let lists : List (List (Member g.row.C.Denot)) = lists_of c.args.lists.now.items in
    let is = rw c.deref.ensures.value at c.candidates-candidates.ensures in
    record {
      lists = refl;
      bits = c.requires.bits;
      long = refl;
      kept = λ room each. each;
      absent = λ k lt le. not_candidate n c.args.id lists c.args.words.now.items c.args.movers k le c.requires.bits c.requires.own (rw is at (c.next_candidate-place.ensures.skipped k (omega arith) lt));
    }

pub next_candidate-place-requires-in-loop-place : goal.next_candidate-place-requires-in-loop-place
next_candidate-place-requires-in-loop-place g c =
    let many : length c.args.lists.now.items ≡ COLOURS + 1 = lists_count g.C.ConstraintId.number c.args.lists.now.items c.requires.colouring in
    let n = same_count c.loop-place.lists.items c.args.lists.now.items c.loop-place.invariant.lists in
    omega (arith, n, many, c.loop-place-test.true)

pub loop-place-preserved : goal.loop-place-preserved
loop-place-preserved g c =
    let n = g.C.ConstraintId.number in
    let now : List (List (Member g.row.C.Denot)) = lists_of c.loop-place.lists.items in
    let old : List (List (Member g.row.C.Denot)) = lists_of c.args.lists.now.items in
    let place = c.loop-place.place in
    let here : has_id n c.args.id (list_at now place) ≡ false = sym c.remove_at.ensures.value ∙ c.if-remove_at.false in
    let P : List (List (Member g.row.C.Denot)) → Type 0 = λ ls. has_id n c.args.id (list_at ls place) ≡ false in
    let Q : ℕ → Type 0 = λ k. has_id n c.args.id (list_at old k) ≡ false in
    let gone : Q place = subst P c.loop-place.invariant.lists here in
    let is = rw c.deref.ensures.value at c.candidates-candidates.ensures in
    record {
      lists = c.remove_at.ensures.lists ∙ sym (nothing_set now place (without_member n c.args.id (list_at now place)) (without_same n c.args.id (list_at now place) here)) ∙ c.loop-place.invariant.lists;
      bits = c.remove_at.ensures.bits;
      long = c.remove_at.ensures.long ∙ c.loop-place.invariant.long;
      kept = λ room each. c.remove_at.ensures.kept room (c.loop-place.invariant.kept room each);
      absent = λ k lt le. elim (cases_eq k place) [
        | inl q ↦ subst Q (sym q) gone
        | inr off ↦ elim (cases_lt k place) [
          | inl below ↦ c.loop-place.invariant.absent k below le
          | inr above ↦ not_candidate n c.args.id old c.args.words.now.items c.args.movers k le c.requires.bits c.requires.own (rw is at (c.next_candidate-place-in-loop-place.ensures.skipped k (omega (arith, off, above)) lt))
        ]
      ];
    }

pub returns-then-remove_at-clause-gone : goal.returns-then-remove_at-clause-gone
returns-then-remove_at-clause-gone g c =
    let n = g.C.ConstraintId.number in
    let old : List (List (Member g.row.C.Denot)) = lists_of c.args.lists.now.items in
    let place = c.loop-place.place in
    let many : length c.args.lists.now.items ≡ COLOURS + 1 = lists_count n c.args.lists.now.items c.requires.colouring in
    let lt : place < length old = omega (arith, c.requires.colouring.count, many, c.loop-place-test.true, same_count c.loop-place.lists.items c.args.lists.now.items c.loop-place.invariant.lists) in
    let P : List (List (Member g.row.C.Denot)) → Type 0 = λ ls. has_id n c.args.id (list_at ls place) ≡ true in
    let has : P old = subst P c.loop-place.invariant.lists (sym c.remove_at.ensures.value ∙ c.if-remove_at.true) in
    found_once n c.args.id old place lt has (c.requires.colouring.once (n c.args.id))

pub returns-then-remove_at-clause-lists : goal.returns-then-remove_at-clause-lists
returns-then-remove_at-clause-lists g c =
    let n = g.C.ConstraintId.number in
    let old : List (List (Member g.row.C.Denot)) = lists_of c.args.lists.now.items in
    let place = c.loop-place.place in
    let many : length c.args.lists.now.items ≡ COLOURS + 1 = lists_count n c.args.lists.now.items c.requires.colouring in
    let lt : place < length old = omega (arith, c.requires.colouring.count, many, c.loop-place-test.true, same_count c.loop-place.lists.items c.args.lists.now.items c.loop-place.invariant.lists) in
    let P : List (List (Member g.row.C.Denot)) → Type 0 = λ ls. has_id n c.args.id (list_at ls place) ≡ true in
    let Q : List (List (Member g.row.C.Denot)) → Type 0 = λ ls. lists_of c.remove_at.new.lists.items ≡ slice_set ls place (without_member n c.args.id (list_at ls place)) in
    let has : P old = subst P c.loop-place.invariant.lists (sym c.remove_at.ensures.value ∙ c.if-remove_at.true) in
    subst Q c.loop-place.invariant.lists c.remove_at.ensures.lists ∙ first_loses n c.args.id old place lt (λ k below. c.loop-place.invariant.absent k below (omega (arith, below, many, c.loop-place-test.true, same_count c.loop-place.lists.items c.args.lists.now.items c.loop-place.invariant.lists))) has (c.requires.colouring.once (n c.args.id))

pub returns-clause-gone : goal.returns-clause-gone
returns-clause-gone g c =
    let n = g.C.ConstraintId.number in
    let old : List (List (Member g.row.C.Denot)) = lists_of c.args.lists.now.items in
    let many : length c.args.lists.now.items ≡ COLOURS + 1 = lists_count n c.args.lists.now.items c.requires.colouring in
    none_times n c.args.id old (λ k lt. c.loop-place.invariant.absent k (omega (arith, lt, c.requires.colouring.count, many, c.loop-place-test.false, same_count c.loop-place.lists.items c.args.lists.now.items c.loop-place.invariant.lists)) (omega (arith, lt, c.requires.colouring.count)))

pub returns-clause-lists : goal.returns-clause-lists
returns-clause-lists g c =
    let n = g.C.ConstraintId.number in
    let old : List (List (Member g.row.C.Denot)) = lists_of c.args.lists.now.items in
    let many : length c.args.lists.now.items ≡ COLOURS + 1 = lists_count n c.args.lists.now.items c.requires.colouring in
    c.loop-place.invariant.lists ∙ none_loses n c.args.id old (λ k lt. c.loop-place.invariant.absent k (omega (arith, lt, c.requires.colouring.count, many, c.loop-place-test.false, same_count c.loop-place.lists.items c.args.lists.now.items c.loop-place.invariant.lists)) (omega (arith, lt, c.requires.colouring.count)))

pub returns-then-remove_at-clause-long : goal.returns-then-remove_at-clause-long
returns-then-remove_at-clause-long g c = c.remove_at.ensures.long ∙ c.loop-place.invariant.long

pub returns-then-remove_at-clause-kept : goal.returns-then-remove_at-clause-kept
returns-then-remove_at-clause-kept g c = λ room each. c.remove_at.ensures.kept room (c.loop-place.invariant.kept room each)
