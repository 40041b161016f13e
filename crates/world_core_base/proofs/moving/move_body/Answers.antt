use Rattle.world_core_base.proofs.GatherLaws.{forms_moved}
use Rattle.world_core_base.proofs.moving.move_body.Goals as goal

pub renew-requires-clause-defs : goal.renew-requires-clause-defs
renew-requires-clause-defs c = rw (c.as_slice.ensures, c.put_motion.ensures) (forms_moved c.args.body.now c.args.state.now c.requires.body)
