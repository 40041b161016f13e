-- Which cause a share belongs to.
use Rattle.std.proofs.Common.{◌≡◌, true, false, refl}
use Rattle.impulse_ledger.specs.declared.entry.Cause.{Cause}
use Rattle.impulse_ledger.specs.declared.entry.Cause.TheVariants.{Command, Gravity, Immovable, Clamp, Rest, Departed}
use Rattle.impulse_ledger.specs.declared.totals.Total.{Total}
use Rattle.impulse_ledger.specs.declared.totals.Totals.{Totals}
use Rattle.impulse_ledger.specs.Totals.{total_in, put_total}
use Rattle.impulse_ledger.specs.Sums.{is_cause}

-- the test says that the two causes are one
is_cause_is-Command : (d : Cause) → is_cause Command d ≡ true → Command ≡ d
is_cause_is-Command Command h = refl
is_cause_is-Command Gravity h = cc
is_cause_is-Command Immovable h = cc
is_cause_is-Command Clamp h = cc
is_cause_is-Command Rest h = cc
is_cause_is-Command Departed h = cc

is_cause_is-Gravity : (d : Cause) → is_cause Gravity d ≡ true → Gravity ≡ d
is_cause_is-Gravity Command h = cc
is_cause_is-Gravity Gravity h = refl
is_cause_is-Gravity Immovable h = cc
is_cause_is-Gravity Clamp h = cc
is_cause_is-Gravity Rest h = cc
is_cause_is-Gravity Departed h = cc

is_cause_is-Immovable : (d : Cause) → is_cause Immovable d ≡ true → Immovable ≡ d
is_cause_is-Immovable Command h = cc
is_cause_is-Immovable Gravity h = cc
is_cause_is-Immovable Immovable h = refl
is_cause_is-Immovable Clamp h = cc
is_cause_is-Immovable Rest h = cc
is_cause_is-Immovable Departed h = cc

is_cause_is-Clamp : (d : Cause) → is_cause Clamp d ≡ true → Clamp ≡ d
is_cause_is-Clamp Command h = cc
is_cause_is-Clamp Gravity h = cc
is_cause_is-Clamp Immovable h = cc
is_cause_is-Clamp Clamp h = refl
is_cause_is-Clamp Rest h = cc
is_cause_is-Clamp Departed h = cc

is_cause_is-Rest : (d : Cause) → is_cause Rest d ≡ true → Rest ≡ d
is_cause_is-Rest Command h = cc
is_cause_is-Rest Gravity h = cc
is_cause_is-Rest Immovable h = cc
is_cause_is-Rest Clamp h = cc
is_cause_is-Rest Rest h = refl
is_cause_is-Rest Departed h = cc

is_cause_is-Departed : (d : Cause) → is_cause Departed d ≡ true → Departed ≡ d
is_cause_is-Departed Command h = cc
is_cause_is-Departed Gravity h = cc
is_cause_is-Departed Immovable h = cc
is_cause_is-Departed Clamp h = cc
is_cause_is-Departed Rest h = cc
is_cause_is-Departed Departed h = refl

pub is_cause_is : (c d : Cause) → is_cause c d ≡ true → c ≡ d
is_cause_is Command d h = is_cause_is-Command d h
is_cause_is Gravity d h = is_cause_is-Gravity d h
is_cause_is Immovable d h = is_cause_is-Immovable d h
is_cause_is Clamp d h = is_cause_is-Clamp d h
is_cause_is Rest d h = is_cause_is-Rest d h
is_cause_is Departed d h = is_cause_is-Departed d h

pub is_cause-same : (c : Cause) → is_cause c c ≡ true
is_cause-same Command = refl
is_cause-same Gravity = refl
is_cause-same Immovable = refl
is_cause-same Clamp = refl
is_cause-same Rest = refl
is_cause-same Departed = refl

-- a cause has the sum that was put in its place, and the others have theirs
pub total_in-put_same : (c : Cause) (t : Totals) (v : Total) → total_in c (put_total t c v) ≡ v
total_in-put_same Command t v = refl
total_in-put_same Gravity t v = refl
total_in-put_same Immovable t v = refl
total_in-put_same Clamp t v = refl
total_in-put_same Rest t v = refl
total_in-put_same Departed t v = refl

total_in-put_other-Command : (d : Cause) (t : Totals) (v : Total) → is_cause Command d ≡ false → total_in Command (put_total t d v) ≡ total_in Command t
total_in-put_other-Command Command t v h = cc
total_in-put_other-Command Gravity t v h = refl
total_in-put_other-Command Immovable t v h = refl
total_in-put_other-Command Clamp t v h = refl
total_in-put_other-Command Rest t v h = refl
total_in-put_other-Command Departed t v h = refl

total_in-put_other-Gravity : (d : Cause) (t : Totals) (v : Total) → is_cause Gravity d ≡ false → total_in Gravity (put_total t d v) ≡ total_in Gravity t
total_in-put_other-Gravity Command t v h = refl
total_in-put_other-Gravity Gravity t v h = cc
total_in-put_other-Gravity Immovable t v h = refl
total_in-put_other-Gravity Clamp t v h = refl
total_in-put_other-Gravity Rest t v h = refl
total_in-put_other-Gravity Departed t v h = refl

total_in-put_other-Immovable : (d : Cause) (t : Totals) (v : Total) → is_cause Immovable d ≡ false → total_in Immovable (put_total t d v) ≡ total_in Immovable t
total_in-put_other-Immovable Command t v h = refl
total_in-put_other-Immovable Gravity t v h = refl
total_in-put_other-Immovable Immovable t v h = cc
total_in-put_other-Immovable Clamp t v h = refl
total_in-put_other-Immovable Rest t v h = refl
total_in-put_other-Immovable Departed t v h = refl

total_in-put_other-Clamp : (d : Cause) (t : Totals) (v : Total) → is_cause Clamp d ≡ false → total_in Clamp (put_total t d v) ≡ total_in Clamp t
total_in-put_other-Clamp Command t v h = refl
total_in-put_other-Clamp Gravity t v h = refl
total_in-put_other-Clamp Immovable t v h = refl
total_in-put_other-Clamp Clamp t v h = cc
total_in-put_other-Clamp Rest t v h = refl
total_in-put_other-Clamp Departed t v h = refl

total_in-put_other-Rest : (d : Cause) (t : Totals) (v : Total) → is_cause Rest d ≡ false → total_in Rest (put_total t d v) ≡ total_in Rest t
total_in-put_other-Rest Command t v h = refl
total_in-put_other-Rest Gravity t v h = refl
total_in-put_other-Rest Immovable t v h = refl
total_in-put_other-Rest Clamp t v h = refl
total_in-put_other-Rest Rest t v h = cc
total_in-put_other-Rest Departed t v h = refl

total_in-put_other-Departed : (d : Cause) (t : Totals) (v : Total) → is_cause Departed d ≡ false → total_in Departed (put_total t d v) ≡ total_in Departed t
total_in-put_other-Departed Command t v h = refl
total_in-put_other-Departed Gravity t v h = refl
total_in-put_other-Departed Immovable t v h = refl
total_in-put_other-Departed Clamp t v h = refl
total_in-put_other-Departed Rest t v h = refl
total_in-put_other-Departed Departed t v h = cc

pub total_in-put_other : (c d : Cause) (t : Totals) (v : Total) → is_cause c d ≡ false → total_in c (put_total t d v) ≡ total_in c t
total_in-put_other Command d t v h = total_in-put_other-Command d t v h
total_in-put_other Gravity d t v h = total_in-put_other-Gravity d t v h
total_in-put_other Immovable d t v h = total_in-put_other-Immovable d t v h
total_in-put_other Clamp d t v h = total_in-put_other-Clamp d t v h
total_in-put_other Rest d t v h = total_in-put_other-Rest d t v h
total_in-put_other Departed d t v h = total_in-put_other-Departed d t v h
