use Rattle.std.proofs.Common.{◌≡◌, ℕ, ◌≤◌, ◌^◌, ℤ, ◌≤ℤ◌, unsigned_abs, arith, refl, rules}
use Rattle.std.proofs.lemmas.Int.{to_z-of_z, ints}
use Rattle.std.specs.Int.{w64, w128}
use mir.Val.{SFits}
use Rattle.momenta.specs.Impulses.{solved_impulse, speed_along}
use Rattle.momenta.specs.declared.line_64.Exerted64.{Exerted64}
use Rattle.momenta.proofs.Laws64.{some_then}
use Rattle.momenta.proofs.line_64.solve_line_64.Goals as goal

pub part_along_64-speed-requires-clause-v : goal.part_along_64-speed-requires-clause-v
part_along_64-speed-requires-clause-v c = c.if-not-has_product_64.ensures.within refl

-- what lies between two numbers is no larger than both
inside : (low high x : ℤ) (n : ℕ) → unsigned_abs low ≤ n → unsigned_abs high ≤ n → low ≤ℤ x → x ≤ℤ high → unsigned_abs x ≤ n
inside low high x n a b c d = omega (arith, ints, a, b, c, d)

pub exert_64-requires-clause-new : goal.exert_64-requires-clause-new
exert_64-requires-clause-new c =
    let low : SFits w64 c.args.goal.low = search rules in
    let high : SFits w64 c.args.goal.high = search rules in
    let next : SFits w64 c.in-Some.next = search rules in
    let least = rw c.in-Some.is at c.checked_total_64.ensures.low in
    let most = rw c.in-Some.is at c.checked_total_64.ensures.high in
    simp to_z-of_z (inside c.args.goal.low c.args.goal.high c.in-Some.next (2 ^ 43) c.requires.low c.requires.high least most)

pub returns-in-Some-clause-value : goal.returns-in-Some-clause-value
unfolding solved_impulse speed_along
returns-in-Some-clause-value c =
    let bias : SFits w64 c.args.goal.bias = search rules in
    let low : SFits w64 c.args.goal.low = search rules in
    let high : SFits w64 c.args.goal.high = search rules in
    let total : SFits w64 c.args.goal.total = search rules in
    let inverse : SFits w128 c.args.line.now.inverse_mass = search rules in
    let speed : SFits w64 c.part_along_64-speed.result = record { sfits = c.part_along_64-speed.type_inv } in
    let next : SFits w64 c.in-Some.next = search rules in
    let along = rw c.requires.apart at c.part_along_64-speed.ensures.value in
    let new = rw along at (rw c.in-Some.is at (simp to_z-of_z at c.checked_total_64.ensures.value)) in
    rw new at (simp to_z-of_z at c.exert_64.ensures.value)

pub returns-in-Some-clause-low : goal.returns-in-Some-clause-low
returns-in-Some-clause-low c =
    let low : SFits w64 c.args.goal.low = search rules in
    let next : SFits w64 c.in-Some.next = search rules in
    let least = rw c.in-Some.is at c.checked_total_64.ensures.low in
    some_then (λ (r : Exerted64). r.total ≡ c.in-Some.next) (λ (r : Exerted64). c.args.goal.low ≤ℤ r.total) c.exert_64.result (λ r e. rw e least) (simp to_z-of_z at c.exert_64.ensures.total)

pub returns-in-Some-clause-high : goal.returns-in-Some-clause-high
returns-in-Some-clause-high c =
    let high : SFits w64 c.args.goal.high = search rules in
    let next : SFits w64 c.in-Some.next = search rules in
    let most = rw c.in-Some.is at c.checked_total_64.ensures.high in
    some_then (λ (r : Exerted64). r.total ≡ c.in-Some.next) (λ (r : Exerted64). r.total ≤ℤ c.args.goal.high) c.exert_64.result (λ r e. rw e most) (simp to_z-of_z at c.exert_64.ensures.total)

pub returns-in-Some-clause-still : goal.returns-in-Some-clause-still
returns-in-Some-clause-still c =
    let total : SFits w64 c.args.goal.total = search rules in
    simp to_z-of_z at c.exert_64.ensures.still

pub returns-then-not-has_product_64-clause-room : goal.returns-then-not-has_product_64-clause-room
returns-then-not-has_product_64-clause-room c = λ room. c.if-not-has_product_64.ensures.room (rw c.requires.apart room.x) (rw c.requires.apart room.y)

pub returns-in-None-clause-room : goal.returns-in-None-clause-room
unfolding speed_along
returns-in-None-clause-room c =
    let bias : SFits w64 c.args.goal.bias = search rules in
    let inverse : SFits w128 c.args.line.now.inverse_mass = search rules in
    let speed : SFits w64 c.part_along_64-speed.result = record { sfits = c.part_along_64-speed.type_inv } in
    let along = rw c.requires.apart at c.part_along_64-speed.ensures.value in
    let some = rw c.in-None.is at (simp to_z-of_z at c.checked_total_64.ensures.room) in
    λ room. some (rw along room.speed) room.towards room.inverse

pub returns-in-Some-clause-room : goal.returns-in-Some-clause-room
unfolding speed_along
returns-in-Some-clause-room c =
    let bias : SFits w64 c.args.goal.bias = search rules in
    let low : SFits w64 c.args.goal.low = search rules in
    let high : SFits w64 c.args.goal.high = search rules in
    let total : SFits w64 c.args.goal.total = search rules in
    let inverse : SFits w128 c.args.line.now.inverse_mass = search rules in
    let speed : SFits w64 c.part_along_64-speed.result = record { sfits = c.part_along_64-speed.type_inv } in
    let next : SFits w64 c.in-Some.next = search rules in
    let along = rw c.requires.apart at c.part_along_64-speed.ensures.value in
    let new = rw along at (rw c.in-Some.is at (simp to_z-of_z at c.checked_total_64.ensures.value)) in
    let some = simp to_z-of_z at c.exert_64.ensures.room in
    λ room. some (rw new room.change)
