use Rattle.std.proofs.Common.{◌≡◌, ◌<◌, ◌∙◌, length, ap, arith, true}
use Rattle.std.specs.Option.{is_some}
use Rattle.std.proofs.lemmas.Grind.{common_steps}
use Rattle.contacts_base.specs.Contacts.{lookup, number_of}
use Rattle.contacts_base.specs.ContactLists.{IsFirstFrom}
use Rattle.contacts_base.specs.Keys.{key_number}
use Rattle.contacts_base.proofs.CountingLaws.{found_behind, given_missed, given_there, there_if, within_if}
use Rattle.contacts_base.proofs.counted.give_by_key.Goals as goal

pub index_mut-requires : goal.index_mut-requires
index_mut-requires c =
    let es = c.args.entries.now.items in
    let some : is_some (lookup es c.args.key) ≡ true = found_behind (λ x. x.now) c.contact_at.result c.is_some.result c.deref-2.result.now es c.args.key c.contact_at.ensures c.deref-2.ensures.value c.is_some.ensures ∙ c.if-is_some.true in
    let first : IsFirstFrom es (key_number c.args.key) c.seek-place.result = rw c.deref.ensures.value at c.seek-place.ensures in
    let lt : c.seek-place.result < length es = within_if es c.args.key c.seek-place.result c.requires first some in
    grind (arith, common_steps)

pub returns-then-is_some : goal.returns-then-is_some
returns-then-is_some c =
    let es = c.args.entries.now.items in
    let some : is_some (lookup es c.args.key) ≡ true = found_behind (λ x. x.now) c.contact_at.result c.is_some.result c.deref-2.result.now es c.args.key c.contact_at.ensures c.deref-2.ensures.value c.is_some.ensures ∙ c.if-is_some.true in
    let first : IsFirstFrom es (key_number c.args.key) c.seek-place.result = rw c.deref.ensures.value at c.seek-place.ensures in
    let e = c.index_mut.result.now in
    let there = there_if es c.args.key c.seek-place.result e c.requires first some in
    let is = c.index_mut.ensures.value in
    given_there c.args.key c.args.first c.args.second es c.seek-place.result e c.set_points.new.entry c.requires there.0 is (ap number_of is ∙ there.1) c.set_points.ensures

pub returns-else-is_some : goal.returns-else-is_some
returns-else-is_some c =
    let es = c.args.entries.now.items in
    given_missed c.args.key c.args.first c.args.second es (found_behind (λ x. x.now) c.contact_at.result c.is_some.result c.deref-2.result.now es c.args.key c.contact_at.ensures c.deref-2.ensures.value c.is_some.ensures ∙ c.if-is_some.false)
