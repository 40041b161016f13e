use Rattle.std.proofs.Common.{length, ap, arith}
use Rattle.plain_world.specs.Plain.{Plain}
use Rattle.world_core.proofs.LoadingLaws.{colours_there}
use Rattle.world_desk.proofs.text.text_of.Goals as goal

pub write_text-requires : goal.write_text-requires
write_text-requires c = record {
  colours = omega (arith, ap (λ (p : Plain). length p.colours) c.in_ok-plain.ensures.plain, colours_there c.args.world.now.plain c.plain.ensures.sound.promises.consistent);
}
