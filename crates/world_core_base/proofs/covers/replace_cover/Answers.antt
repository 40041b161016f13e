use Rattle.std.proofs.Common.{refl}
use Rattle.std.specs.Prelude.{Some}
use Rattle.world_core_base.proofs.CoverLaws.{box_within, cover_put, other_put}
use Rattle.world_core_base.proofs.covers.replace_cover.Goals as goal

pub returns-clause-covered : goal.returns-clause-covered
returns-clause-covered c = cover_put c.args.boxes.now c.replace.new.self c.args.slot c.hull_of.result c.args.fats.now (box_within c.args.boxes.now c.args.slot c.requires) c.replace.ensures c.hull_of.ensures

pub returns-clause-others : goal.returns-clause-others
returns-clause-others c = other_put c.args.boxes.now c.args.boxes.now c.replace.new.self c.args.slot (Some c.hull_of.result) (λ s. refl) c.replace.ensures
