use Rattle.std.proofs.Common.{◌≡◌, ◌≤◌, ◌+◌, ◌^◌, pos, unsigned_abs, arith}
use Rattle.std.proofs.lemmas.Int.{to_z-of_z}
use Rattle.std.specs.Int.{w128}
use mir.Val.{SFits}
use Rattle.fixed_geom.specs.Vectors.{dot}
use Rattle.fixed_geom.proofs.Sizes.{fits_64, narrowed}
use Rattle.momenta.proofs.line.part_along_128.Goals as goal

pub rdiv-requires-clause-fits : goal.rdiv-requires-clause-fits
rdiv-requires-clause-fits c =
    let d : SFits w128 c.dot.result = record { sfits = c.dot.type_inv } in
    simp to_z-of_z (omega (arith, c.dot.ensures.size (2 ^ 61 + 2 ^ 26) (2 ^ 30) c.requires.v c.requires.direction))

small : (c : goal.After-rdiv) → unsigned_abs c.rdiv.result ≤ 2 ^ 62 + 2 ^ 28
small c =
    let d : SFits w128 c.dot.result = record { sfits = c.dot.type_inv } in
    let unit : c.from.result ≡ pos (2 ^ 30) = c.from.ensures in
    let size = c.dot.ensures.size (2 ^ 61 + 2 ^ 26) (2 ^ 30) c.requires.v c.requires.direction in
    c.rdiv.ensures.within (2 ^ 62 + 2 ^ 28) (rw unit (simp to_z-of_z (omega (arith, size))))

pub overflow_cast-result : goal.overflow_cast-result
overflow_cast-result c = fits_64 c.rdiv.result (omega (arith, small c))

pub returns-clause-value : goal.returns-clause-value
returns-clause-value c =
    let d : SFits w128 c.dot.result = record { sfits = c.dot.type_inv } in
    let unit : c.from.result ≡ pos (2 ^ 30) = c.from.ensures in
    let dotted : c.dot.result ≡ dot c.args.v c.args.direction = c.dot.ensures.value in
    let value = rw dotted at (simp to_z-of_z at (rw unit at c.rdiv.ensures.value)) in
    rw (narrowed c.rdiv.result (omega (arith, small c))) value

pub returns-clause-within : goal.returns-clause-within
returns-clause-within c = rw (narrowed c.rdiv.result (omega (arith, small c))) (small c)

pub returns-clause-near : goal.returns-clause-near
returns-clause-near c = λ h.
    let d : SFits w128 c.dot.result = record { sfits = c.dot.type_inv } in
    let unit : c.from.result ≡ pos (2 ^ 30) = c.from.ensures in
    let size = c.dot.ensures.size (2 ^ 38) (2 ^ 30) h c.requires.direction in
    rw (narrowed c.rdiv.result (omega (arith, small c))) (c.rdiv.ensures.within (2 ^ 39) (rw unit (simp to_z-of_z (omega (arith, size)))))
