use Rattle.std.proofs.Common.{ap, sym, subst, ◌∙◌}
use Rattle.contacts_base.specs.declared.contact.ContactEntry.{ContactEntry}
use Rattle.solver_sets.specs.declared.census.Item.TheVariants as items
use Rattle.solver_sets.specs.Census.{AreNamed, Census, standing_of_contact}
use Rattle.solver_sets.specs.CensusListing.{listed_in}
use Rattle.solver_sets.proofs.CensusLaws.{contact_step, named_listed}
use Rattle.solver_sets.proofs.census.list_contacts.Goals as goal

pub loop-entry-preserved : goal.loop-entry-preserved
loop-entry-preserved c = record {
  listed = contact_step c.args.bodies.now c.args.contacts.now c.loop-entry.entry-index _ c.loop-entry.census c.list.new.self c.loop-entry-test.true (c.in_ok-list.ensures.listed ∙ ap (listed_in c.loop-entry.census (items.Contact _)) c.standing_of_contact.ensures ∙ ap (λ (e : ContactEntry). listed_in c.loop-entry.census (items.Contact e.key) (standing_of_contact c.args.bodies.now e)) c.entry-item.is) ∙ c.loop-entry.invariant.listed;
  named = subst (λ (k : Census). AreNamed k.sleeping) (sym c.in_ok-list.ensures.listed) (named_listed c.loop-entry.census _ _ c.loop-entry.invariant.named);
}
