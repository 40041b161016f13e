use Rattle.std.proofs.Common.{◌≡◌, ℕ, true, All, List, subst, sym}
use Rattle.std.specs.List.{Contains}
use Rattle.fixed_geom.specs.Boxes.{overlaps}
use Rattle.contacts_base.specs.declared.near.Proxy.{Proxy}
use Rattle.world_rules.specs.Collide.{proxies_of}
use Rattle.world_core.proofs.CoverLaws.{if_ok_then, overlapping_listed}
use Rattle.world_core.proofs.collide.BodyShapesShapesById.overlapping.Goals as goal

pub returns-clause-complete : goal.returns-clause-complete
returns-clause-complete c =
    rw (← c.self.view_is)
    (if_ok_then _ _ c.overlapping.result
    (λ slots same. subst (λ (keys : List ℕ). All (λ (p : Proxy). overlaps p.fat c.args.wanted.now ≡ true → Contains keys p.id.slot) (proxies_of c.self.inside.table.bodies)) (sym same) (overlapping_listed c.args.wanted.now c.self.inside.table.bodies c.boxes.result.now c.boxes.ensures.covered))
    c.overlapping.ensures.keys)
