use Rattle.std.proofs.Common.{◌≡◌, ◌⊎◌, ◌≤◌, ◌^◌, ℤ, ◌≤ℤ◌, unsigned_abs, arith, inl, inr, rules}
use Rattle.std.proofs.lemmas.Int.{to_z-of_z, ints}
use Rattle.std.specs.Int.{w64, w128}
use mir.Val.{SFits}
use Rattle.momenta.specs.Impulses.{solved_impulse, speed_along}
use Rattle.momenta.proofs.solve.solve_line.Goals as goal

small_by : (low high total new r : ℤ) → (r ≡ new) ⊎ (r ≡ total) → low ≤ℤ new → new ≤ℤ high → unsigned_abs low ≤ 2 ^ 43 → unsigned_abs high ≤ 2 ^ 43 → unsigned_abs total ≤ 2 ^ 43 → unsigned_abs r ≤ 2 ^ 43
small_by low high total new r (inl e) h k l m n = rw e (omega (arith, ints))
small_by low high total new r (inr e) h k l m n = rw e n

least_by : (low total new r : ℤ) → (r ≡ new) ⊎ (r ≡ total) → low ≤ℤ new → low ≤ℤ total → low ≤ℤ r
least_by low total new r (inl e) h k = rw e h
least_by low total new r (inr e) h k = rw e k

most_by : (high total new r : ℤ) → (r ≡ new) ⊎ (r ≡ total) → new ≤ℤ high → total ≤ℤ high → r ≤ℤ high
most_by high total new r (inl e) h k = rw e h
most_by high total new r (inr e) h k = rw e k

pub returns-clause-value : goal.returns-clause-value
unfolding solved_impulse speed_along
returns-clause-value c =
    let bias : SFits w64 c.args.goal.bias = search rules in
    let low : SFits w64 c.args.goal.low = search rules in
    let high : SFits w64 c.args.goal.high = search rules in
    let total : SFits w64 c.args.goal.total = search rules in
    let inverse : SFits w128 c.args.line.now.inverse_mass = search rules in
    let speed : SFits w64 c.part_along-speed.result = record { sfits = c.part_along-speed.type_inv } in
    let next : SFits w64 c.next_total-next.result = record { sfits = c.next_total-next.type_inv } in
    let result : SFits w64 c.exert.result = record { sfits = c.exert.type_inv } in
    let along = rw c.requires.apart at c.part_along-speed.ensures.value in
    let new = rw along at (simp to_z-of_z at c.next_total-next.ensures.value) in
    simp to_z-of_z (rw new at (simp to_z-of_z at c.exert.ensures.value))

pub returns-clause-small : goal.returns-clause-small
returns-clause-small c =
    let low : SFits w64 c.args.goal.low = search rules in
    let high : SFits w64 c.args.goal.high = search rules in
    let total : SFits w64 c.args.goal.total = search rules in
    let next : SFits w64 c.next_total-next.result = record { sfits = c.next_total-next.type_inv } in
    let result : SFits w64 c.exert.result = record { sfits = c.exert.type_inv } in
    simp to_z-of_z (small_by c.args.goal.low c.args.goal.high c.args.goal.total c.next_total-next.result c.exert.result (simp to_z-of_z at c.exert.ensures.total) c.next_total-next.ensures.low c.next_total-next.ensures.high c.requires.low c.requires.high c.requires.total)

pub returns-clause-low : goal.returns-clause-low
returns-clause-low c =
    let low : SFits w64 c.args.goal.low = search rules in
    let total : SFits w64 c.args.goal.total = search rules in
    let next : SFits w64 c.next_total-next.result = record { sfits = c.next_total-next.type_inv } in
    let result : SFits w64 c.exert.result = record { sfits = c.exert.type_inv } in
    simp to_z-of_z (least_by c.args.goal.low c.args.goal.total c.next_total-next.result c.exert.result (simp to_z-of_z at c.exert.ensures.total) c.next_total-next.ensures.low)

pub returns-clause-high : goal.returns-clause-high
returns-clause-high c =
    let high : SFits w64 c.args.goal.high = search rules in
    let total : SFits w64 c.args.goal.total = search rules in
    let next : SFits w64 c.next_total-next.result = record { sfits = c.next_total-next.type_inv } in
    let result : SFits w64 c.exert.result = record { sfits = c.exert.type_inv } in
    simp to_z-of_z (most_by c.args.goal.high c.args.goal.total c.next_total-next.result c.exert.result (simp to_z-of_z at c.exert.ensures.total) c.next_total-next.ensures.high)

pub returns-clause-still : goal.returns-clause-still
returns-clause-still c =
    let total : SFits w64 c.args.goal.total = search rules in
    let result : SFits w64 c.exert.result = record { sfits = c.exert.type_inv } in
    simp to_z-of_z (simp to_z-of_z at c.exert.ensures.still)
