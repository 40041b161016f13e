use Rattle.std.proofs.Common.{◌≡◌, ◌≤◌, ◌*◌, ◌^◌, false, arith, refl, unsigned_abs}
use Rattle.std.proofs.lemmas.Int.{to_z-of_z}
use Rattle.std.specs.Int.{w64}
use mir.Val.{SFits}
use Rattle.shapes.specs.Cores.{closest, share_of, is_point}
use Rattle.shapes.proofs.cores.closest_along.Goals as goal

pub returns-then-have_products_64-clause-value : goal.returns-then-have_products_64-clause-value
unfolding closest share_of
returns-then-have_products_64-clause-value c =
    let wide : is_point c.args.core.now ≡ false = c.requires.wide in
    let share : SFits w64 c.share_along_64.result = record { sfits = c.share_along_64.type_inv } in
    let value = simp to_z-of_z at c.moved_64.ensures.value in
    rw (wide, value, c.share_along_64.ensures.value, c.minus-from.ensures.value, c.way_of-way.ensures.value) refl

pub returns-then-have_products_64-clause-within : goal.returns-then-have_products_64-clause-within
returns-then-have_products_64-clause-within c =
    let near = c.moved_64.ensures.within (2 ^ 37) c.requires.core.p in
    record { x = omega (arith, near.x); y = omega (arith, near.y) }

pub returns-else-have_products_64-clause-value : goal.returns-else-have_products_64-clause-value
unfolding closest share_of
returns-else-have_products_64-clause-value c =
    let wide : is_point c.args.core.now ≡ false = c.requires.wide in
    let share : SFits w64 c.share_along.result = record { sfits = c.share_along.type_inv } in
    let value = simp to_z-of_z at c.moved.ensures.value in
    rw (wide, value, c.share_along.ensures.value, c.minus-from.ensures.value, c.way_of-way.ensures.value) refl

pub returns-else-have_products_64-clause-within : goal.returns-else-have_products_64-clause-within
returns-else-have_products_64-clause-within c =
    let share : SFits w64 c.share_along.result = record { sfits = c.share_along.type_inv } in
    let times : (2 ^ 38 * unsigned_abs c.share_along.result) ≤ 2 ^ 38 * 2 ^ 30 = omega (arith, c.share_along.ensures.within) in
    let near = c.moved.ensures.within (2 ^ 37) (2 ^ 38) (2 ^ 38) c.requires.core.p c.way_of-way.ensures.within (simp to_z-of_z times) in
    record { x = omega (arith, near.x); y = omega (arith, near.y) }
