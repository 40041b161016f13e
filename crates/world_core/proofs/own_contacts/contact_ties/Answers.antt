use Rattle.std.proofs.Common.{◌≡◌, ◌++◌, ◌∙◌, List, ap, sym, subst}
use Rattle.std.specs.List.{filter_map}
use Rattle.std.specs.List.Sorted.{IsPermutation}
use Rattle.plain_world.specs.declared.constraint.Constraint.{Constraint}
use Rattle.contacts.specs.declared.ends.Side.TheVariants.{First, Second}
use Rattle.contacts.specs.Kept.{numbers_on}
use Rattle.graph_colours.specs.declared.member.Member.{Member}
use Rattle.packed_sets.specs.Packs.{list_at}
use Rattle.world_core.specs.WorldTies.{contact_tie_in, contact_ties_at}
use Rattle.world_core.proofs.OwnContactLaws.{own_contacts_rise, own_told}
use Rattle.world_core.proofs.own_contacts.contact_ties.Goals as goal

pub returns-clause-ties : goal.returns-clause-ties
returns-clause-ties c =
    let at = contact_tie_in c.args.bodies.now c.args.contacts.now.numbered in
    let firsts = list_at (numbers_on First c.args.contacts.now) c.args.slot in
    let seconds = list_at (numbers_on Second c.args.contacts.now) c.args.slot in
    let own : List (Member Constraint) = contact_ties_at c.args.slot c.args.bodies.now c.args.contacts.now.contacts in
    let all : c.push_ties_on-2.new.ties.items ≡ filter_map at firsts ++ filter_map at seconds = c.in_ok-push_ties_on-2.ensures.items ∙ ap (λ (l : List (Member Constraint)). l ++ filter_map at seconds) (c.in_ok-push_ties_on.ensures.items ∙ ap (λ (l : List (Member Constraint)). l ++ filter_map at firsts) c.new-ties.ensures.items) in
    c.put_in_order.ensures own (own_contacts_rise c.args.bodies.now c.args.contacts.now.contacts c.args.slot c.requires.rising)
    (subst (λ (l : List (Member Constraint)). IsPermutation own l) (sym all)
    (own_told c.args.bodies.now c.args.contacts.now.contacts c.args.contacts.now.numbered c.args.slot firsts seconds c.requires.rising c.know_numbered.ensures.numbered c.requires.two c.push_ties_on.ensures.once c.push_ties_on-2.ensures.once c.push_ties_on.ensures.ends c.push_ties_on-2.ensures.ends))
