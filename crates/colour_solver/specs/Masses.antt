-- Trusted: The masses of bodies that no impulse moves: of one that is carried along, and of one that stands.
use Rattle.std.specs.Prelude.{◌^◌, pos}
use Rattle.momenta.specs.declared.mass.MassData.{MassData}

-- the mass of a body that is carried along: with it the momentum is the velocity itself, and the angular momentum the
-- spin
abbrev pub carrier : MassData
carrier = record { mass = pos 1; inertia = pos (2 ^ 30) }

-- the mass of a body that stands: it never turns either
abbrev pub standing : MassData
standing = record { mass = pos 1; inertia = pos 0 }
