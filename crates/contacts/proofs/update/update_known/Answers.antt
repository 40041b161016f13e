use Rattle.std.proofs.Common.{List, ap, ◌∙◌, ◌++◌}
use Rattle.contacts_base.specs.declared.contact.ContactEntry.{ContactEntry}
use Rattle.contacts_base.specs.declared.key.ContactKey.{ContactKey}
use Rattle.contacts.specs.Fates.{gone_keys, moved_by}
use Rattle.contacts.specs.Looked.{keys_at}
use Rattle.contacts.proofs.ChangeOfLaws.{IsAllPending, all_pending}
use Rattle.contacts.proofs.update.update_known.Given
use Rattle.contacts.proofs.update.update_known.Goals as goal

all_is : (g : Given.Over) (c : goal.In_ok-note_touches g) → IsAllPending (g.F.ForbiddenPairs.pairs c.args.collide.now.forbidden.now) (g.S.ShapesById.proxies c.args.collide.now.shapes.now) c.args.old.now c.note_touches.new.pending c.in_ok-touches.touches.begin.items c.in_ok-touches.touches.end.items
all_is g c =
    let pairs = g.F.ForbiddenPairs.pairs c.args.collide.now.forbidden.now in
    let ps = g.S.ShapesById.proxies c.args.collide.now.shapes.now in
    let moved = moved_by c.args.collide.now.marks.now in
    let old = c.args.old.now in
    all_pending moved pairs ps old c.args.fresh.now (record c.update_lists.new.pending { gone = c.note_ended.new.gone; made = c.note_fresh.new.made }) c.note_touches.new.pending c.in_ok-touches.touches.begin.items c.in_ok-touches.touches.end.items c.requires.shapes c.know_ascending.ensures.contacts c.requires.known c.requires.fresh
    (record {
      done = c.in_ok-touches.ensures.done;
      gone_is =
          c.in_ok-note_ended.ensures.noted
          ∙ ap (λ (l : List ContactKey). l ++ keys_at c.long.result.now c.deref.result.now) c.in_ok-touches.ensures.gone
          ∙ ap (λ (l : List ContactKey). gone_keys moved pairs ps old.short ++ l) (ap (λ (es : List ContactEntry). keys_at es c.deref.result.now) c.long.ensures.value ∙ ap (keys_at old.long) c.deref.ensures.value ∙ c.in_ok-touches.ensures.ended);
      made_is = c.in_ok-note_fresh.ensures.noted;
      whole_is = c.in_ok-touches.ensures.whole;
      any_is = c.in_ok-touches.ensures.any;
      keep = c.in_ok-note_touches.ensures.same;
      begin_is = c.in_ok-note_touches.ensures.begin;
      end_is = c.in_ok-note_touches.ensures.end;
    })

pub returns-clause-pending : goal.returns-clause-pending
returns-clause-pending g c = (all_is g c).pending

pub returns-clause-made : goal.returns-clause-made
returns-clause-made g c = (all_is g c).made

pub returns-clause-begin_rising : goal.returns-clause-begin_rising
returns-clause-begin_rising g c = c.in_ok-touches.ensures.done.begin_rises

pub returns-clause-end_rising : goal.returns-clause-end_rising
returns-clause-end_rising g c = c.in_ok-touches.ensures.done.end_rises
