use Rattle.std.proofs.Common.{◌≡◌, ℕ, ap, ap₂, get_or, refl, ◌∙◌}
use Rattle.std.specs.Option.{option_copied}
use Rattle.std.specs.Prelude.{Option}
use Rattle.contacts_base.specs.declared.contact.ContactEntry.{ContactEntry}
use Rattle.contacts_base.specs.Split.{counting_at}
use Rattle.contacts_base.specs.declared.split.Renewal.{Renewal}
use Rattle.contacts.specs.declared.fates.Fate.{Fate}
use Rattle.contacts.specs.Fates.{moved_by, noted}
use Rattle.contacts.specs.Looked.{begun_of, ended_of, ending}
use Rattle.contacts.specs.SurveyPieces.{fate_at, fate_if}
use Rattle.contacts.proofs.PairPieceLaws.{not_longer, still_room}
use Rattle.contacts.proofs.SurveyPieceLaws.{list_step, option_step}
use Rattle.contacts.proofs.survey.look_over.Goals as goal

pub loop-index-preserved : goal.loop-index-preserved
loop-index-preserved g c =
    let pairs = g.F.ForbiddenPairs.pairs c.args.collide.now.forbidden.now in
    let ps = g.S.ShapesById.proxies c.args.collide.now.shapes.now in
    let moved = moved_by c.args.collide.now.marks.now in
    let s = c.args.old.now in
    let places = c.args.places.now in
    let k = c.loop-index.index in
    let place = get_or places k 0 in
    let entry = option_copied c.counting-entry.result in
    let counted : entry ≡ counting_at s place = c.counting-entry.ensures in
    let fate : c.fate_if-fate.result ≡ fate_at moved pairs ps s place = c.fate_if-fate.ensures ∙ ap (fate_if moved pairs ps) counted in
    let inv = c.loop-index.invariant in
    record {
      notes = list_step Renewal (λ (i : ℕ). noted i (fate_at moved pairs ps s i)) places k 0 place _ _ _ c.loop-index-test.true refl (ap (noted place) fate) inv.notes c.note.ensures.noted;
      ends = list_step ℕ (λ (i : ℕ). ending i (fate_at moved pairs ps s i)) places k 0 place _ _ _ c.loop-index-test.true refl (ap (ending place) fate) inv.ends c.note_end.ensures.noted;
      begin = option_step (λ (i : ℕ). begun_of (counting_at s i) (fate_at moved pairs ps s i)) places k 0 place _ _ _ c.loop-index-test.true refl (c.begun_of.ensures ∙ ap₂ (λ (o : Option ContactEntry) (f : Fate). begun_of o f) counted fate) inv.begin c.push_key_within.ensures.pushed;
      end = option_step (λ (i : ℕ). ended_of (counting_at s i) (fate_at moved pairs ps s i)) places k 0 place _ _ _ c.loop-index-test.true refl (c.ended_of.ensures ∙ ap₂ (λ (o : Option ContactEntry) (f : Fate). ended_of o f) counted fate) inv.end c.push_key_within-in-loop-index.ensures.pushed;
      notes_long = not_longer _ _ _ c.note.ensures.long inv.notes_long;
      ends_long = not_longer _ _ _ c.note_end.ensures.long inv.ends_long;
      begin_long = not_longer _ _ _ c.push_key_within.ensures.long inv.begin_long;
      end_long = not_longer _ _ _ c.push_key_within-in-loop-index.ensures.long inv.end_long;
      notes_room = still_room _ _ _ c.note.ensures.capacity inv.notes_room;
      ends_room = still_room _ _ _ c.note_end.ensures.capacity inv.ends_room;
      begin_room = still_room _ _ _ c.push_key_within.ensures.capacity inv.begin_room;
      end_room = still_room _ _ _ c.push_key_within-in-loop-index.ensures.capacity inv.end_room;
    }
