use Rattle.std.proofs.Common.{◌+◌, ◌∙◌, List, ap}
use Rattle.plain_world.specs.declared.constraint.Constraint.{Constraint}
use Rattle.contacts_base.specs.Split.{contacts_in}
use Rattle.graph_colours.specs.declared.limits.TheConstants.{COLOURS}
use Rattle.world_digest.specs.BodyWords.{label_words}
use Rattle.world_digest.specs.ConstraintWords.{colours_words, contact_words}
use Rattle.world_digest.specs.Sums.{absorbed_all, list_words, option_words}
use Rattle.world_digest.proofs.SumLaws.{fed_list, fed_three}
use Rattle.world_digest.proofs.digests.feed_links.Goals as goal

pub returns-clause-fed : goal.returns-clause-fed
returns-clause-fed c =
    let p = c.args.world.now.plain in
    let first = c.feed_contacts.new.sums in
    let second = c.feed_islands.new.sums in
    fed_three c.args.sums.now first second c.feed_colours.new.sums
    (list_words contact_words p.contacts) (list_words (option_words label_words) p.islands) (colours_words p.colours (COLOURS + 1))
    (fed_list contact_words (contacts_in c.split.result.now) p.contacts c.args.sums.now first (c.split.ensures ∙ c.contacts.ensures) c.feed_contacts.ensures)
    (fed_list (option_words label_words) c.islands.result.now.labels p.islands first second c.islands.ensures c.feed_islands.ensures)
    (c.in_ok-feed_colours.ensures.fed ∙ ap (λ (colours : List (List Constraint)). absorbed_all second (colours_words colours (COLOURS + 1))) c.colours.ensures)
