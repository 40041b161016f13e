use Rattle.std.proofs.Common.{ℕ, Option, vec_capacity}
use Rattle.std.specs.List.{filter_map}
use Rattle.contacts.specs.Kept.{numbers_on}
use Rattle.contacts.specs.declared.ends.Side.TheVariants.{First, Second}
use Rattle.plain_world.specs.declared.constraint.Constraint.{Constraint}
use Rattle.graph_colours.specs.declared.member.Member.{Member}
use Rattle.packed_sets.specs.Packs.{list_at}
use Rattle.sleep_wake.specs.Sources.{first_ties}
use Rattle.world_core.specs.WorldTies.{all_contact_ties, contact_tie_in, if_first}
use Rattle.world_core.proofs.PushLaws.{both_pushed, room_of_first, room_of_second}
use Rattle.world_core.proofs.WorldTieLaws.{first_contacts}
use Rattle.world_core.proofs.world_ties.push_first_contacts.Goals as goal

pub push_firsts_from-requires-clause-room : goal.push_firsts_from-requires-clause-room
push_firsts_from-requires-clause-room c =
    let firsts = list_at (numbers_on First c.args.contacts.now) c.args.slot in
    let seconds = list_at (numbers_on Second c.args.contacts.now) c.args.slot in
    let at : ℕ → Option (Member Constraint) = λ number. if_first c.args.slot (contact_tie_in c.args.bodies.now c.args.contacts.now.numbered number) in
    room_of_first (first_ties c.args.slot (all_contact_ties c.args.bodies.now c.args.contacts.now.contacts)) c.args.list.now.items (filter_map at firsts) (filter_map at seconds) (vec_capacity c.args.list.now)
    (first_contacts c.args.bodies.now c.args.contacts.now.contacts c.args.contacts.now.numbered c.args.slot firsts seconds c.requires.rising c.know_numbered.ensures.numbered c.requires.two c.first_at-first.ensures.once c.first_at-second.ensures.once c.first_at-first.ensures.ends c.first_at-second.ensures.ends) c.requires.room

pub push_firsts_from-requires-2-clause-room : goal.push_firsts_from-requires-2-clause-room
push_firsts_from-requires-2-clause-room c =
    let firsts = list_at (numbers_on First c.args.contacts.now) c.args.slot in
    let seconds = list_at (numbers_on Second c.args.contacts.now) c.args.slot in
    let at : ℕ → Option (Member Constraint) = λ number. if_first c.args.slot (contact_tie_in c.args.bodies.now c.args.contacts.now.numbered number) in
    room_of_second (first_ties c.args.slot (all_contact_ties c.args.bodies.now c.args.contacts.now.contacts)) c.args.list.now.items c.push_firsts_from.new.list.items (filter_map at firsts) (filter_map at seconds) (vec_capacity c.args.list.now) (vec_capacity c.push_firsts_from.new.list)
    (first_contacts c.args.bodies.now c.args.contacts.now.contacts c.args.contacts.now.numbered c.args.slot firsts seconds c.requires.rising c.know_numbered.ensures.numbered c.requires.two c.first_at-first.ensures.once c.first_at-second.ensures.once c.first_at-first.ensures.ends c.first_at-second.ensures.ends) c.requires.room c.push_firsts_from.ensures.items c.push_firsts_from.ensures.capacity

pub returns-clause-pushed : goal.returns-clause-pushed
returns-clause-pushed c =
    let firsts = list_at (numbers_on First c.args.contacts.now) c.args.slot in
    let seconds = list_at (numbers_on Second c.args.contacts.now) c.args.slot in
    let at : ℕ → Option (Member Constraint) = λ number. if_first c.args.slot (contact_tie_in c.args.bodies.now c.args.contacts.now.numbered number) in
    both_pushed (first_ties c.args.slot (all_contact_ties c.args.bodies.now c.args.contacts.now.contacts)) c.args.list.now.items c.push_firsts_from.new.list.items c.push_firsts_from-2.new.list.items (filter_map at firsts) (filter_map at seconds)
    (first_contacts c.args.bodies.now c.args.contacts.now.contacts c.args.contacts.now.numbered c.args.slot firsts seconds c.requires.rising c.know_numbered.ensures.numbered c.requires.two c.first_at-first.ensures.once c.first_at-second.ensures.once c.first_at-first.ensures.ends c.first_at-second.ensures.ends) c.push_firsts_from.ensures.items c.push_firsts_from-2.ensures.items
