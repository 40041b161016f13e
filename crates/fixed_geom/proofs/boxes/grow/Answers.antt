use Rattle.std.proofs.Common.{refl}
use Rattle.fixed_geom.proofs.Sizes.{sum_64, difference_64}
use Rattle.fixed_geom.proofs.boxes.grow.Goals as goal

pub returns-clause-value : goal.returns-clause-value
returns-clause-value c =
    let left = (difference_64 c.args.b.lo.x c.args.by c.requires.corners.lo.x c.requires.by).value in
    let down = (difference_64 c.args.b.lo.y c.args.by c.requires.corners.lo.y c.requires.by).value in
    let right = (sum_64 c.args.b.hi.x c.args.by c.requires.corners.hi.x c.requires.by).value in
    let up = (sum_64 c.args.b.hi.y c.args.by c.requires.corners.hi.y c.requires.by).value in
    rw (left, down, right, up) refl
