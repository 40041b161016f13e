-- What the kind of a body tells: a kinematic one is no mover, has no mass, and isn't static.
use Rattle.std.proofs.Common.{◌≡◌, Bool, true, false, cond, refl}
use Rattle.momenta.specs.declared.mass.MassData.{MassData}
use Rattle.plain_world.specs.declared.kind.Course.{Course}
use Rattle.plain_world.specs.declared.kind.Kind.{Kind}
use Rattle.plain_world.specs.declared.kind.Kind.TheVariants.{Static, Kinematic, Dynamic}
use Rattle.plain_world.specs.Bodies.{IsMassOf}
use Rattle.plain_world.specs.Kinds.{is_dynamic, is_kinematic, is_static}

-- a kinematic body is no mover
pub no_mover : (kind : Kind) (enabled : Bool) → is_kinematic kind ≡ true → cond enabled (is_dynamic kind) false ≡ false
no_mover Static enabled k = cc
no_mover (Kinematic course) true k = refl
no_mover (Kinematic course) false k = refl
no_mover Dynamic enabled k = cc

-- with its mass, and its shapes
pub mass_as : (kind : Kind) (course : Course) (m : MassData) → is_kinematic kind ≡ true → IsMassOf kind m → IsMassOf (Kinematic course) m
mass_as Static course m k is = cc
mass_as (Kinematic old) course m k is = is
mass_as Dynamic course m k is = cc

pub static_as : (kind : Kind) (course : Course) → is_kinematic kind ≡ true → is_static kind ≡ is_static (Kinematic course)
static_as Static course k = cc
static_as (Kinematic old) course k = refl
static_as Dynamic course k = refl

-- one that is carried along is enabled, and kinematic
pub carried_enabled : (enabled : Bool) (kind : Kind) → cond enabled (is_kinematic kind) false ≡ true → enabled ≡ true
carried_enabled true kind h = refl
carried_enabled false kind h = h

pub carried_kinematic : (enabled : Bool) (kind : Kind) → cond enabled (is_kinematic kind) false ≡ true → is_kinematic kind ≡ true
carried_kinematic true kind h = h
carried_kinematic false kind h = cc

pub carried_rests : (enabled : Bool) (kind : Kind) → cond enabled (is_kinematic kind) false ≡ true → cond enabled (is_dynamic kind) false ≡ false
carried_rests enabled kind h = no_mover kind enabled (carried_kinematic enabled kind h)

-- ---- and what it tells with the name under which it sleeps

-- an awake mover is a mover
pub awake_moves : (mover awake : Bool) → cond mover awake false ≡ true → mover ≡ true
awake_moves true awake h = refl
awake_moves false awake h = h

-- what isn't a mover isn't an awake one
pub not_awake : (mover awake : Bool) → mover ≡ false → cond mover awake false ≡ false
not_awake mover awake h = λ j. cond (h j) awake false

pub carried_still : (enabled : Bool) (kind : Kind) (awake : Bool) → cond enabled (is_kinematic kind) false ≡ true → cond (cond enabled (is_dynamic kind) false) awake false ≡ false
carried_still enabled kind awake h = not_awake (cond enabled (is_dynamic kind) false) awake (carried_rests enabled kind h)
