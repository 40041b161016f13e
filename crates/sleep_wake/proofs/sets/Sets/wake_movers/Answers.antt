use Rattle.std.proofs.Common.{sym, subst}
use Rattle.sleep_wake.specs.Acting.{Acting}
use Rattle.sleep_wake.specs.Sources.{TellsAsleep}
use Rattle.sleep_wake.specs.Waking.{woken_at}
use Rattle.sleep_wake.proofs.SourceLaws.{tells_on, woken_keeps}
use Rattle.sleep_wake.proofs.sets.Sets.wake_movers.Goals as goal

pub wake-requires-in-Some : goal.wake-requires-in-Some
wake-requires-in-Some g c =
    let n = g.C.ConstraintId.number in
    let names = g.T.TieSource.names c.args.source.now in
    let told = g.T.TieSource.ties c.args.source.now in
    let s : Acting g.row.C.Denot = c.args.self.now.acting in
    let Q : Acting g.row.C.Denot → Type 0 = λ v. TellsAsleep names told v.labels v.ties in
    record { source = subst Q (sym c.wake.ensures.acting) (tells_on names told s (woken_at n c.args.movers.first s) (woken_keeps n c.args.movers.first s) c.requires.source) }
