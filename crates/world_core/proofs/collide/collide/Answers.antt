use Rattle.std.proofs.Common.{◌≡◌, List, subst}
use Rattle.std.specs.Prelude.{IfOk, OnOk}
use Rattle.contacts_base.specs.declared.contact.ContactEntry.{ContactEntry}
use Rattle.contacts_base.specs.Changes.{keys_touching_only_in}
use Rattle.world_core.proofs.CollideLaws.{contacts_are_after}
use Rattle.world_core.proofs.RisingLaws.{are_proxies}
use Rattle.world_core.proofs.collide.collide.Goals as goal

pub invariant_of-shapes : goal.invariant_of-shapes
invariant_of-shapes g c = record { flushed = rw c.replace.ensures.value c.requires.flushed; few = rw c.replace.ensures.value c.requires.few; all = rw c.replace.ensures.value c.requires.bodies }

pub collide-touches-requires-clause-shapes : goal.collide-touches-requires-clause-shapes
collide-touches-requires-clause-shapes g c = rw c.replace.ensures.value (are_proxies c.args.bodies.now.bodies c.requires.few c.requires.bodies)

pub collide-touches-requires-clause-known : goal.collide-touches-requires-clause-known
collide-touches-requires-clause-known g c = rw c.replace.ensures.value c.requires.known

pub returns-clause-pending : goal.returns-clause-pending
returns-clause-pending g c = subst (λ (l : List ContactEntry). OnOk c.collide-touches.result (c.collide-touches.new.self.pending ≡ l)) (contacts_are_after c.args.bodies.now.bodies c.args.joints.now.joints c.args.contacts.now.contacts) (rw c.replace.ensures.value at c.collide-touches.ensures.pending)

pub returns-clause-begin : goal.returns-clause-begin
returns-clause-begin g c = subst (λ (l : List ContactEntry). IfOk c.collide-touches.result (λ touches. touches.begin.items ≡ keys_touching_only_in c.args.contacts.now.contacts l)) (contacts_are_after c.args.bodies.now.bodies c.args.joints.now.joints c.args.contacts.now.contacts) (rw c.replace.ensures.value at c.collide-touches.ensures.begin)

pub returns-clause-end : goal.returns-clause-end
returns-clause-end g c = subst (λ (l : List ContactEntry). IfOk c.collide-touches.result (λ touches. touches.end.items ≡ keys_touching_only_in l c.args.contacts.now.contacts)) (contacts_are_after c.args.bodies.now.bodies c.args.joints.now.joints c.args.contacts.now.contacts) (rw c.replace.ensures.value at c.collide-touches.ensures.end)
