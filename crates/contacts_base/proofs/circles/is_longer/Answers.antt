use Rattle.std.proofs.Common.{◌≡◌, sym, ◌∙◌, unsigned_abs, arith}
use Rattle.std.proofs.lemmas.Bool.{false≢true}
use Rattle.std.proofs.lemmas.Int.{to_z-of_z}
use Rattle.std.specs.Int.{w64}
use mir.Val.{SFits}
use Rattle.contacts_base.proofs.CircleLemmas.{le_from, longer_by, longer_outside}
use Rattle.contacts_base.proofs.circles.is_longer.Goals as goal

pub returns : goal.returns
returns c =
    let reach : SFits w64 c.args.reach = c.ranges.reach in
    let long : SFits w64 c.dot_64.result = record { sfits = c.dot_64.type_inv } in
    let short : SFits w64 c.dot_64-2.result = record { sfits = c.dot_64-2.type_inv } in
    let value = simp to_z-of_z at c.next_way-next.ensures.value in
    let next = rw value at c.dot_64-2.ensures.value in
    simp to_z-of_z (λ e. longer_by c.args.way c.args.reach c.dot_64-2.result c.dot_64.result c.requires.nonnegative c.dot_64.ensures.value next (le_from _ _ e))

pub returns-then-not-is_within : goal.returns-then-not-is_within
returns-then-not-is_within c = λ t.
    let reach : SFits w64 c.args.reach = c.ranges.reach in
    let size : c.unsigned_abs.result ≡ unsigned_abs c.args.reach = grind (arith, to_z-of_z) in
    longer_outside c.args.way c.args.reach c.unsigned_abs.result c.requires.nonnegative size (λ w. false≢true (sym c.if-not-is_within.true ∙ c.is_within.ensures.within.1 w))
