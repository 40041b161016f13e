use Rattle.std.proofs.Common.{ℕ, ◌≤◌, ℤ, unsigned_abs, Bool, true, false, cond, int_lt, refl, rules}
use Rattle.std.proofs.lemmas.Int.{to_z-of_z}
use Rattle.fixed_geom.specs.Boxes.{IsBoxWithin}
use Rattle.shapes.specs.declared.pose.Core.{Core}
use Rattle.fixed_geom.specs.Vectors.{IsWithin}
use Rattle.std.specs.Int.{w64, int_min, int_max}
use mir.Val.{SFits}
use Rattle.shapes.specs.Bounds.{box_of_ends}
use Rattle.shapes.proofs.bounds.box_of_ends.Goals as goal

pub returns-clause-value : goal.returns-clause-value
unfolding box_of_ends
returns-clause-value c =
    let px : SFits w64 c.args.core.now.p.x = search rules in
    let py : SFits w64 c.args.core.now.p.y = search rules in
    let qx : SFits w64 c.args.core.now.q.x = search rules in
    let qy : SFits w64 c.args.core.now.q.y = search rules in
    let left : SFits w64 c.min.result = record { sfits = c.min.type_inv } in
    let down : SFits w64 c.min-2.result = record { sfits = c.min-2.type_inv } in
    let right : SFits w64 c.max.result = record { sfits = c.max.type_inv } in
    let up : SFits w64 c.max-2.result = record { sfits = c.max-2.type_inv } in
    let left_is = simp to_z-of_z at c.min.ensures.value in
    let down_is = simp to_z-of_z at c.min-2.ensures.value in
    let right_is = simp to_z-of_z at c.max.ensures.value in
    let up_is = simp to_z-of_z at c.max-2.ensures.value in
    simp to_z-of_z (rw (left_is, down_is, right_is, up_is) refl)

either_le : (b : Bool) (x y : ℤ) (n : ℕ) → unsigned_abs x ≤ n → unsigned_abs y ≤ n → unsigned_abs (cond b x y) ≤ n
either_le true x y n h l = h
either_le false x y n h l = l

min_le : (x y : ℤ) (n : ℕ) → unsigned_abs x ≤ n → unsigned_abs y ≤ n → unsigned_abs (int_min x y) ≤ n
min_le x y n h l = either_le (int_lt y x) y x n l h

max_le : (x y : ℤ) (n : ℕ) → unsigned_abs x ≤ n → unsigned_abs y ≤ n → unsigned_abs (int_max x y) ≤ n
max_le x y n h l = either_le (int_lt y x) x y n h l

within : (p : Core) (k : ℕ) → IsWithin k p.p → IsWithin k p.q → IsBoxWithin k (box_of_ends p)
unfolding box_of_ends
within p k h l = record {
  lo = record { x = min_le p.p.x p.q.x k h.x l.x; y = min_le p.p.y p.q.y k h.y l.y };
  hi = record { x = max_le p.p.x p.q.x k h.x l.x; y = max_le p.p.y p.q.y k h.y l.y };
}

pub returns-clause-within : goal.returns-clause-within
returns-clause-within c = λ k h l. rw (returns-clause-value c) (within c.args.core.now k h l)
