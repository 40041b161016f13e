use Rattle.std.proofs.Common.{◌∙◌}
use Rattle.graph_colours.specs.Given.{members_of}
use Rattle.graph_colours.proofs.GivenLaws.{graph_given}
use Rattle.graph_colours.proofs.colours.Colours.from_lists.Goals as goal

pub invariant_of-result : goal.invariant_of-result
invariant_of-result g c =
    let lists = c.args.lists.now in
    let same = c.reserve_all.ensures.lists ∙ c.in_ok-edited.ensures.lists in
    record {
      graph = graph_given g.C.ConstraintId.number c.reserve_all.new.lists.items (members_of lists) c.in_ok-words.words.items c.args.count c.args.slots c.requires.colouring same c.in_ok-words.ensures.bits c.in_ok-words.ensures.long c.requires.count c.in_ok-reserve_all.ensures.made;
      rest = λ q. c.reserve_all.ensures.rest c.in_ok-edited.ensures.rest;
    }
