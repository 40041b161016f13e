use Rattle.std.proofs.Common.{◌≡◌, ◌∷◌, [], ◌++◌, length, ◌<◌, refl, subst, rules, ◌∙◌, List}
use Rattle.seat_book.specs.History.{IsPast}
use Rattle.world_lock.specs.Journals.{Line}
use Rattle.world_lock.specs.Histories.{IsPastFor, Known}
use Rattle.world_lock.proofs.Holding.{all_push, all_whole, one_more}
use Rattle.world_lock.proofs.held.meet_all.Goals as goal

pub loop-seat-preserved : goal.loop-seat-preserved
loop-seat-preserved g c =
    let i = c.loop-seat.invariant in
    let s = c.in-Some.ensures.steps in
    let k = c.in-Some.seat in
    let met : IsPast k.seat k.seen c.loop-seat.keeper = subst (λ (p : Known). IsPast p.seat p.seen c.loop-seat.keeper) c.seat.view_is c.meet.ensures.past in
    let here : IsPast k.seat k.seen c.args.keeper.now = subst (λ (h : List Line). IsPast k.seat k.seen h) i.0 met in
    let seated : k.seat < g.N.Named.seats = c.know_seated.ensures in (
      c.meet.ensures.history ∙ i.0,
      (i.1.0 ++ k ∷ [], one_more _ _ _ _ _ _ i.1.1 s.0 refl, all_push (IsPastFor g.N.Named.seats c.args.keeper.now) i.1.0 k i.1.2 (record { seated = seated; past = here })),
    )

pub returns-clause-pasts : goal.returns-clause-pasts
returns-clause-pasts g c =
    let i = c.loop-seat.invariant.1 in
    let none = c.in-None.ensures.steps in
    let left : length c.loop-seat.seat-iterator.rest.items ≡ 0 = search (rules, none) in
    all_whole (IsPastFor g.N.Named.seats c.args.keeper.now) i.0 c.loop-seat.seat-iterator.rest.items c.args.seats.items i.1 left i.2
