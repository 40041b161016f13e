use Rattle.std.proofs.Common.{Option, ℕ, subst}
use Rattle.std.proofs.lemmas.Result.{IfOk-weaker}
use Rattle.islands.specs.Packed.{IsNamedPart}
use Rattle.islands.proofs.ListingLemmas.{nobody_listed, all_listed}
use Rattle.islands.proofs.listing.members_of.Goals as goal

pub returns-in-None-clause-members : goal.returns-in-None-clause-members
returns-in-None-clause-members c =
    let P : Option ℕ → Type 0 = λ o. IsNamedPart c.args.node_entries.now c.args.notes.now c.args.heads.now c.args.name o in
    nobody_listed c.args.node_entries.now c.args.notes.now c.args.heads.now c.args.name c.new.result.items c.new.ensures.items (subst P c.in-None.is c.part_named.ensures.named)

pub returns-in-Some-clause-members : goal.returns-in-Some-clause-members
returns-in-Some-clause-members c =
    let P : Option ℕ → Type 0 = λ o. IsNamedPart c.args.node_entries.now c.args.notes.now c.args.heads.now c.args.name o in
    IfOk-weaker c.sorted_members.result _ _ (λ v all. all_listed c.args.node_entries.now c.args.notes.now c.args.heads.now c.args.name c.in-Some.part v.items c.requires.standing (subst P c.in-Some.is c.part_named.ensures.named) all) c.sorted_members.ensures.members
