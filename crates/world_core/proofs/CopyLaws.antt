-- A world that has the parts of another is whole as that one is.
use Rattle.std.proofs.Common.{◌≡◌, subst, sym}
use Rattle.world_core.specs.Inside.{IsWhole}
use Rattle.world_core.proofs.LoadingLaws.{Parts, world_by}

pub copied_whole : (x y : Parts) → x ≡ y → IsWhole (world_by y) y.acts → IsWhole (world_by x) x.acts
copied_whole x y e h = subst (λ (p : Parts). IsWhole (world_by p) p.acts) (sym e) h
