use Rattle.std.proofs.Common.{◌∙◌, List, None, ap, subst, sym}
use Rattle.std.specs.List.{filter_map}
use Rattle.contacts_base.specs.declared.key.ContactKey.{ContactKey}
use Rattle.contacts_base.specs.Contacts.{number_of}
use Rattle.contacts_base.specs.Keys.{key_number}
use Rattle.contacts_base.specs.ShortLists.{counted_in}
use Rattle.contacts_base.specs.Merge.{AreAscending, merged}
use Rattle.contacts_base.specs.Changes.{key_if_new}
use Rattle.contacts.specs.Fates.{moved_by}
use Rattle.contacts.proofs.JoinLaws.{new_keys_ascend}
use Rattle.contacts.proofs.UpdateLemmas.{begun_ascend, increasing_ascends}
use Rattle.contacts.proofs.rebuild.rebuild.Goals as goal

pub fate_each-requires-clause-fresh : goal.fate_each-requires-clause-fresh
fate_each-requires-clause-fresh g c = increasing_ascends number_of c.args.fresh.now c.requires.fresh

pub merge-requires-clause-first : goal.merge-requires-clause-first
merge-requires-clause-first g c = new_keys_ascend c.args.fresh.now _ c.requires.fresh (c.deref.ensures.value ∙ c.in_ok-new_keys.ensures.value)

pub merge-requires-clause-second : goal.merge-requires-clause-second
merge-requires-clause-second g c =
    subst (AreAscending key_number) (sym (c.deref-2.ensures.value ∙ c.in_ok-survivors.ensures.begin))
    (begun_ascend (moved_by c.args.collide.now.marks.now) (g.F.ForbiddenPairs.pairs c.args.collide.now.forbidden.now) (g.S.ShapesById.proxies c.args.collide.now.shapes.now) (counted_in c.args.old.now) c.requires.old.rising)

pub returns-clause-rebuilt : goal.returns-clause-rebuilt
returns-clause-rebuilt g c = record {
  now_is = c.in_ok-survivors.ensures.all;
  begin_is =
      c.in_ok-begin.ensures.value
      ∙ ap (λ (l : List ContactKey). merged key_number l c.deref-2.result.now) (c.deref.ensures.value ∙ c.in_ok-new_keys.ensures.value)
      ∙ ap (merged key_number (filter_map (key_if_new None) c.args.fresh.now)) (c.deref-2.ensures.value ∙ c.in_ok-survivors.ensures.begin);
  end_is = c.in_ok-survivors.ensures.end;
}
