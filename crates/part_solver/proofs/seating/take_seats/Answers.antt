use Rattle.std.proofs.Common.{◌≡◌, ◌+◌, ◌<◌, ℕ, arith, length, rules, ap, subst, sym, ◌∙◌}
use Rattle.std.specs.Arc.{arc_value}
use Rattle.std.proofs.lemmas.List.{length-append}
use Rattle.std.proofs.lemmas.List.Elements.{All-pop}
use Rattle.part_runs.specs.Laws.{AreHomes}
use Rattle.part_solver.specs.Benches.{IsRoomyFor}
use Rattle.part_solver.specs.Parts.{AreRings, AreSeated, IsSeated, posts_at}
use Rattle.part_solver.proofs.SeatLaws.{ring_of, rings_of_rest, seated_more}
use Rattle.part_solver.proofs.seating.take_seats.Goals as goal

pub loop-own-init : goal.loop-own-init
loop-own-init c =
    let t = arc_value c.args.step.now in
    let n : ℕ = length c.args.benches.now.items in
    let none = ap length c.requires.none in
    let from : c.into_iter-own-iterator.result.rest.items ≡ c.args.ports.items = c.into_iter-own-iterator.ensures.into_iter_gives.0 in
    let long = ap length from in
    record {
      seated = subst (AreSeated t 0) (sym c.requires.none) tt;
      left = omega (arith, none);
      same = long ∙ c.requires.rings.count;
      rooms = c.requires.rooms;
      rings = λ k lt. rw from (subst (λ (m : ℕ). AreRings t n m (posts_at c.args.ports.items k)) (let same : k ≡ length c.args.seats.now.items + k = omega (arith, none) in same) (c.requires.rings.each k (omega (arith, lt, long, c.requires.rings.count))));
    }

pub loop-own-preserved : goal.loop-own-preserved
loop-own-preserved c =
    let t = arc_value c.args.step.now in
    let n : ℕ = length c.args.benches.now.items in
    let known = c.loop-own.invariant in
    let next = c.in-Some.ensures.steps.0 in
    let rooms = All-pop (IsRoomyFor t) c.loop-own.benches.items c.pop.new.self.items c.pop.result c.pop.ensures.items known.rooms in
    let here : IsSeated t (0 + length c.loop-own.seats.items) c.in_ok-seat.seat = subst (λ (m : ℕ). IsSeated t m c.in_ok-seat.seat) (let same : c.len.result ≡ 0 + length c.loop-own.seats.items = omega (arith, c.len.ensures) in same) c.in_ok-seat.ensures in
    let many = ap length c.in_ok-add_seat.ensures ∙ length-append c.loop-own.seats.items _ in
    record {
      seated = subst (AreSeated t 0) (sym c.in_ok-add_seat.ensures) (seated_more t 0 c.loop-own.seats.items _ known.seated here);
      left = search rules;
      same = search rules;
      rooms = rooms.0;
      rings = rings_of_rest t n (length c.loop-own.seats.items) _ _ _ _ next (omega (arith, many)) known.rings;
    }

pub seat_of-requires-clause-rings : goal.seat_of-requires-clause-rings
seat_of-requires-clause-rings c =
    let t = arc_value c.args.step.now in
    let n : ℕ = length c.args.benches.now.items in
    let known = c.loop-own.invariant in
    let rings = ring_of t n (length c.loop-own.seats.items) _ _ _ c.in-Some.ensures.steps.0 known.rings in
    let count : length c.in-Some.own.outs ≡ n = rings.outs.count in
    subst (λ (m : ℕ). AreRings t m c.len.result c.in-Some.own) (sym count)
    (subst (λ (m : ℕ). AreRings t n m c.in-Some.own) (let same : length c.loop-own.seats.items ≡ c.len.result = omega (arith, c.len.ensures) in same) rings)

pub seat_of-requires-clause-part : goal.seat_of-requires-clause-part
seat_of-requires-clause-part c =
    let t = arc_value c.args.step.now in
    let n : ℕ = length c.args.benches.now.items in
    let known = c.loop-own.invariant in
    let rings = ring_of t n (length c.loop-own.seats.items) _ _ _ c.in-Some.ensures.steps.0 known.rings in
    let count : length c.in-Some.own.outs ≡ n = rings.outs.count in
    let next = ap length c.in-Some.ensures.steps.0 in
    record {
      number = omega (arith, next, known.same, known.left, c.len.ensures, count);
      few = omega (arith, count, c.requires.few);
      homes = subst (λ (m : ℕ). AreHomes m t) (sym count) c.requires.homes;
    }

pub seat_of-requires-clause-room : goal.seat_of-requires-clause-room
seat_of-requires-clause-room c =
    let t = arc_value c.args.step.now in
    let rooms = All-pop (IsRoomyFor t) c.loop-own.benches.items c.pop.new.self.items c.pop.result c.pop.ensures.items c.loop-own.invariant.rooms in
    rw c.in-Some-pop.is at rooms.1
