-- What acts, put into a world's lists with the bodies told: the world is kept, and what acts in it is just that.
use Rattle.std.proofs.Common.{◌≡◌}
use Rattle.plain_world.specs.declared.constraint.Constraint.{Constraint}
use Rattle.sleep_wake.specs.Acting.{Acting}
use Rattle.world_rules.specs.Sets.{acting_of, with_acting}
use Rattle.world_rules.specs.World.{World}
use Rattle.world_rules.proofs.ActingLaws.{AreLists, IsActing, acted, awake_put}
use Rattle.world_rules.proofs.SoundLaws.{IsKept}
use Rattle.world_rules.proofs.ToldLaws.{NobodyFallsAsleep}

pub record IsPut (w : World) (s : Acting Constraint) : Type 0 where
  pub kept : IsKept (record w { plain = with_acting s w.plain })
  pub acting : acting_of (with_acting s w.plain) ≡ s

pub both_put : (w : World) (s : Acting Constraint) → AreLists w → IsActing w.plain s → NobodyFallsAsleep w.plain.bodies s.labels → IsPut w s
both_put w s l is h = record { kept = awake_put w s l is h; acting = (acted w.plain s l.bodies is).acting }
