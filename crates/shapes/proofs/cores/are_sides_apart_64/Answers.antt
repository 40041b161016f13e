use Rattle.std.proofs.lemmas.Int.{to_z-of_z}
use Rattle.std.specs.Int.{w64}
use mir.Val.{SFits}
use Rattle.shapes.proofs.cores.are_sides_apart_64.Goals as goal

pub returns : goal.returns
returns c =
    let first : SFits w64 c.cross_64.result = record { sfits = c.cross_64.type_inv } in
    let second : SFits w64 c.cross_64-2.result = record { sfits = c.cross_64-2.type_inv } in
    rw (← c.cross_64.ensures.value, ← c.cross_64-2.ensures.value) (simp to_z-of_z at c.are_opposite.ensures)
