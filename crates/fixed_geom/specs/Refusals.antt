-- Trusted: The numbers of the refusals, as a script's answer gives them, and tests in the order of their rule: the
-- first that fails refuses.
use Rattle.std.specs.Prelude.{ℕ, Bool, cond, Option, Some, Result, Err}
use Rattle.fixed_geom.specs.declared.refusal.Refusal.{Refusal}
use Rattle.fixed_geom.specs.declared.refusal.Refusal.TheVariants.{NoMemory, StaleHandle, TooMany, BadShape, OutOfRange, NotAMover, SameBody, BodyDisabled, TooFast, WornOut, NoThread, BadFile, WrongSeats, WentBack, NotKinematic}

abbrev pub number_of : Refusal → ℕ
number_of NoMemory = 1
number_of StaleHandle = 2
number_of TooMany = 3
number_of BadShape = 4
number_of OutOfRange = 5
number_of NotAMover = 6
number_of SameBody = 7
number_of BodyDisabled = 8
number_of TooFast = 9
number_of WornOut = 10
number_of NoThread = 11
number_of (BadFile clause) = 12
number_of WrongSeats = 13
number_of WentBack = 14
number_of NotKinematic = 15

-- where the test fails, it is refused so; else what follows decides
abbrev pub need : {X : Type 0} → Bool → Refusal → Result X Refusal → Result X Refusal
need test why rest = cond test rest (Err why)

-- why it is refused: so where the test fails; else as what follows says
abbrev pub refused_unless : Bool → Refusal → Option Refusal → Option Refusal
refused_unless test why rest = cond test rest (Some why)
