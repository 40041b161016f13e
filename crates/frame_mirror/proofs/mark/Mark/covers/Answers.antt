use Rattle.std.proofs.Common.{List, ap, refl, subst}
use mathlib.Core.List.{IsPrefix}
use Rattle.world_core.specs.Frames.{View}
use Rattle.frame_mirror.proofs.Beginnings.{covering}
use Rattle.frame_mirror.proofs.mark.Mark.covers.Goals as goal

pub returns : goal.returns
returns g c =
    let all = c.learn.new.self.log in
    let this : IsPrefix c.self.inside.seen.log all = subst (λ (xs : List View). IsPrefix xs all) (ap (λ s. s.log) c.again-both.ensures) c.learn.ensures.2 in
    rw (← c.self.view_is, ← c.other.view_is)
    (covering c.self.inside.seen.log c.other.inside.seen.log all c.self.inside.place c.other.inside.place this c.learn.ensures.3 c.self.invariant.0 c.other.invariant.0 _ refl)
