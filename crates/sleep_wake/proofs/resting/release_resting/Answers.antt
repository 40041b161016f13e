use Rattle.std.proofs.Common.{◌≡◌, Bool, List, sym, ap, ◌∙◌, subst}
use Rattle.std.specs.Prelude.{filter}
use Rattle.graph_colours.specs.declared.member.Member.{Member}
use Rattle.graph_colours.specs.Colours.{all_members}
use Rattle.sleep_wake.specs.Acting.{Acting, acting}
use Rattle.sleep_wake.specs.Waking.{released_all}
use Rattle.sleep_wake.specs.Resting.{least_at, is_to_rest}
use Rattle.sleep_wake.specs.Rooms.{OwnMovers}
use Rattle.sleep_wake.proofs.ChangeOwn.{own_of}
use Rattle.sleep_wake.proofs.ReleasingLaws.{coloured_same, coloured_own}
use Rattle.sleep_wake.proofs.resting.release_resting.Goals as goal

pub release_each-requires : goal.release_each-requires
release_each-requires g c =
    let n = g.C.ConstraintId.number in
    let s : Acting g.row.C.Denot = acting c.args.ties.now.items c.args.islands.now.labels c.args.colours.now.lists in
    let wanted : Member g.row.C.Denot → Bool = is_to_rest (least_at c.args.leasts.now) c.args.islands.now.labels in
    let few : c.deref.result.now ≡ filter wanted (all_members s.lists) = c.deref.ensures.value ∙ c.list_resting.ensures c.if-list_resting.true in
    let P : List (Member g.row.C.Denot) → Type 0 = λ v. OwnMovers n v s.lists in
    record { own = subst P (sym few) (coloured_own n s wanted c.requires.consistent) }

pub release_among-requires : goal.release_among-requires
release_among-requires g c =
    let s : Acting g.row.C.Denot = acting c.args.ties.now.items c.args.islands.now.labels c.args.colours.now.lists in
    let same : c.as_slice.result.now ≡ s.ties = c.as_slice.ensures.value ∙ c.flush.ensures.items in
    let P : List (Member g.row.C.Denot) → Type 0 = λ v. OwnMovers g.C.ConstraintId.number v s.lists in
    record { own = subst P (sym same) (own_of g.C.ConstraintId.number s c.requires.consistent) }

pub returns-then-list_resting-clause-lists : goal.returns-then-list_resting-clause-lists
returns-then-list_resting-clause-lists g c =
    let n = g.C.ConstraintId.number in
    let s : Acting g.row.C.Denot = acting c.args.ties.now.items c.args.islands.now.labels c.args.colours.now.lists in
    let wanted : Member g.row.C.Denot → Bool = is_to_rest (least_at c.args.leasts.now) c.args.islands.now.labels in
    let few : c.deref.result.now ≡ filter wanted (all_members s.lists) = c.deref.ensures.value ∙ c.list_resting.ensures c.if-list_resting.true in
    c.release_each.ensures.lists ∙ ap (λ (v : List (Member g.row.C.Denot)). released_all n s.lists v) few ∙ coloured_same n s wanted c.requires.consistent
