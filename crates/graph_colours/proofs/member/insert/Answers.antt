use Rattle.std.proofs.Common.{◌≡◌, arith}
use Rattle.std.specs.List.{insert}
use Rattle.std.proofs.lemmas.Grind.{common_steps}
use Rattle.graph_colours.proofs.PlaceLemmas.{insert_is}
use Rattle.graph_colours.proofs.member.insert.Goals as goal

pub returns-clause-items : goal.returns-clause-items
returns-clause-items g c =
    let ms = c.args.members.now.items in
    let place = c.place_from-place.result in
    let before = rw (c.number.ensures, c.deref.ensures.value) at c.place_from-place.ensures.before in
    let after = rw (c.number.ensures, c.deref.ensures.value) at c.place_from-place.ensures.after in
    let within = rw c.deref.ensures.value at c.place_from-place.ensures.within in
    let added : c.insert.new.self.items ≡ insert ms place c.args.member = grind (arith, common_steps) in
    rw added (insert_is g.C.ConstraintId.number c.args.member ms place before after within)
