use Rattle.std.proofs.Common.{subst, sym}
use Rattle.contacts_base.specs.Limits.{IsPackable}
use Rattle.world_file_base.proofs.PointLaws.{packable}
use Rattle.world_file_base.proofs.saved_contacts.read_points.Goals as goal

pub with_point-contact-requires : goal.with_point-contact-requires
with_point-contact-requires c = subst IsPackable (sym c.read_point.ensures.value) (packable _)
