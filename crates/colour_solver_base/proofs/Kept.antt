-- What two impulses leave alone one after the other, and that two movers' momenta keep their sum through both.
use Rattle.std.proofs.Common.{◌∙◌}
use Rattle.momenta.specs.declared.state.BodyState.{BodyState}
use Rattle.momenta.specs.declared.state.Ends.{Ends}
use Rattle.momenta.specs.ImpulseBounds.{AreSameBodies, IsMomentumKept, IsSameBody}

same_body_then : (a b c : BodyState) → IsSameBody a b → IsSameBody b c → IsSameBody a c
same_body_then a b c h k = record {
  movable = k.movable ∙ h.movable;
  mass = k.mass ∙ h.mass;
  start = k.start ∙ h.start;
  reciprocals = k.reciprocals ∙ h.reciprocals;
  position = k.position ∙ h.position;
  facing = k.facing ∙ h.facing;
  immovable = λ e. k.immovable (h.movable ∙ e) ∙ h.immovable e;
}

pub same_then : (d e f : Ends) → AreSameBodies d e → AreSameBodies e f → AreSameBodies d f
same_then d e f h k = record { a = same_body_then d.a e.a f.a h.a k.a; b = same_body_then d.b e.b f.b h.b k.b }

pub kept_then : (d e f : Ends) → AreSameBodies d e → IsMomentumKept d e → IsMomentumKept e f → IsMomentumKept d f
kept_then d e f s h k = record {
  x = λ a b. k.x (s.a.movable ∙ a) (s.b.movable ∙ b) ∙ h.x a b;
  y = λ a b. k.y (s.a.movable ∙ a) (s.b.movable ∙ b) ∙ h.y a b;
}
