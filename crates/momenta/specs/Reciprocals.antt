-- Trusted: What the quotients of a body's momenta are taken with.
use Rattle.fixed_geom.specs.Reciprocals.{rdiv_reciprocal, share_reciprocal}
use Rattle.momenta.specs.declared.mass.MassData.{MassData}
use Rattle.momenta.specs.declared.reciprocals.Reciprocals.{Reciprocals}

unfoldable pub reciprocals_of : MassData → Reciprocals
reciprocals_of m = record { mass = rdiv_reciprocal m.mass; inertia = share_reciprocal m.inertia }
