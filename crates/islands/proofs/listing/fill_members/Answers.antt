use Rattle.std.proofs.Common.{Option, ℕ, subst}
use Rattle.islands.specs.Packed.{IsNamedPart}
use Rattle.islands.proofs.ListingLemmas.{nobody_listed, all_listed, none_twice, part_room}
use Rattle.islands.proofs.listing.fill_members.Goals as goal

pub list_members-requires-clause-part : goal.list_members-requires-clause-part
list_members-requires-clause-part c =
    let P : Option ℕ → Type 0 = λ o. IsNamedPart c.args.node_entries.now c.args.notes.now c.args.heads.now c.args.name o in
    (subst P c.in-Some.is c.part_named.ensures.named).0

pub list_members-requires-clause-room : goal.list_members-requires-clause-room
list_members-requires-clause-room c =
    let P : Option ℕ → Type 0 = λ o. IsNamedPart c.args.node_entries.now c.args.notes.now c.args.heads.now c.args.name o in
    part_room c.args.notes.now c.args.heads.now c.in-Some.part _ c.requires.standing.packed (subst P c.in-Some.is c.part_named.ensures.named).0 c.requires.room

pub returns-in-None-clause-members : goal.returns-in-None-clause-members
returns-in-None-clause-members c =
    let P : Option ℕ → Type 0 = λ o. IsNamedPart c.args.node_entries.now c.args.notes.now c.args.heads.now c.args.name o in
    nobody_listed c.args.node_entries.now c.args.notes.now c.args.heads.now c.args.name c.clear.new.self.items c.clear.ensures.items (subst P c.in-None.is c.part_named.ensures.named)

pub returns-in-None-clause-once : goal.returns-in-None-clause-once
returns-in-None-clause-once c = none_twice c.clear.new.self.items c.clear.ensures.items

pub returns-in-Some-clause-members : goal.returns-in-Some-clause-members
returns-in-Some-clause-members c =
    let P : Option ℕ → Type 0 = λ o. IsNamedPart c.args.node_entries.now c.args.notes.now c.args.heads.now c.args.name o in
    all_listed c.args.node_entries.now c.args.notes.now c.args.heads.now c.args.name c.in-Some.part c.list_members.new.members.items c.requires.standing (subst P c.in-Some.is c.part_named.ensures.named) c.list_members.ensures.members.all
