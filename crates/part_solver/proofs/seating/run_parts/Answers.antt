use Rattle.std.proofs.Common.{◌≡◌, ◌++◌, ◌<◌, List, length, map, rules, ap, subst, ◌∙◌}
use Rattle.std.specs.Arc.{arc_value}
use Rattle.std.proofs.lemmas.List.{length-map}
use Rattle.part_solver.specs.Parts.{AreSeated, Solved, run_at, solved}
use Rattle.part_solver.proofs.SeatLaws.{parts_run}
use Rattle.part_solver.proofs.seating.run_parts.Goals as goal

pub returns-clause-runs : goal.returns-clause-runs
returns-clause-runs g c = λ e k lt.
    let t = arc_value c.args.step.now in
    let seats = c.seat_parts.new.lists.seats.items in
    let parts = c.map_seats.new.parts.items in
    let seated : AreSeated t 0 seats = search rules in
    let none = ap (λ (v : List Solved). v ++ map solved seats) (ap (λ v. v.items) c.seat_parts.ensures.parts ∙ c.requires.no_parts) in
    let made : parts ≡ map solved seats = c.map_seats.ensures.parts c.if-not-map_seats.false ∙ none in
    let there : k < length seats = subst (λ n. k < n) (ap length made ∙ length-map seats solved) lt in
    ap (λ (l : List Solved). run_at l k) made ∙ parts_run t seats seated k there
