use Rattle.std.specs.Prelude.{Some}
use Rattle.world_core_base.proofs.CoverLaws.{cover_put, either_way, ok_then, other_kept, other_put}
use Rattle.world_core_base.proofs.covers.cover.Goals as goal

pub returns-clause-covered : goal.returns-clause-covered
returns-clause-covered c = ok_then _ _ c.put_box.result (λ e. cover_put c.allow.new.boxes c.put_box.new.boxes c.args.slot c.hull_of.result c.args.fats.now c.in_ok-allow.ensures.room e c.hull_of.ensures) c.put_box.ensures.put

pub returns-clause-others : goal.returns-clause-others
returns-clause-others c =
    either_way _ _ _ c.put_box.result (λ e. other_put c.args.boxes.now c.allow.new.boxes c.put_box.new.boxes c.args.slot (Some c.hull_of.result) c.allow.ensures.same e) (λ e. other_kept c.args.boxes.now c.allow.new.boxes c.put_box.new.boxes c.args.slot c.allow.ensures.same e) c.put_box.ensures.put
    c.put_box.ensures.refused
