use Rattle.std.proofs.Common.{sym, ◌∙◌}
use Rattle.islands.specs.Packed.{InPart, by_slot, note_at}
use Rattle.islands.proofs.PartLemmas.{in_of_part}
use Rattle.islands.proofs.ListingLemmas.{none_named, not_name, no_mover}
use Rattle.islands.proofs.PlacedLemmas.{led_by, led_short}
use Rattle.islands.proofs.threads.part_named.Goals as goal

pub name_of-requires : goal.name_of-requires
name_of-requires c = led_short c.args.notes.now c.args.heads.now c.in-Some.part c.requires.standing.packed (led_by c.args.node_entries.now c.args.notes.now c.args.heads.now c.args.name c.in-Some.part c.requires.standing (sym c.part_of.ensures.part ∙ c.in-Some.is))

pub returns-in-Some : goal.returns-in-Some
returns-in-Some c =
    record { named = (led_by c.args.node_entries.now c.args.notes.now c.args.heads.now c.args.name c.in-Some.part c.requires.standing (sym c.part_of.ensures.part ∙ c.in-Some.is), sym c.name_of.ensures ∙ c.if-name_of-name.true) }

pub returns-in_default : goal.returns-in_default
returns-in_default c =
    let here : InPart (by_slot c.args.node_entries.now c.args.notes.now) c.in-Some.part c.args.name = in_of_part (note_at (by_slot c.args.node_entries.now c.args.notes.now) c.args.name) c.in-Some.part (sym c.part_of.ensures.part ∙ c.in-Some.is) in
    record {
      named = none_named (by_slot c.args.node_entries.now c.args.notes.now) c.args.heads.now c.args.name c.requires.standing.named
          (not_name (by_slot c.args.node_entries.now c.args.notes.now) c.args.heads.now c.args.name c.in-Some.part here (λ e. c.if-name_of-name.false (c.name_of.ensures ∙ e)));
    }

pub returns-in_default-2 : goal.returns-in_default-2
returns-in_default-2 c = record { named = none_named (by_slot c.args.node_entries.now c.args.notes.now) c.args.heads.now c.args.name c.requires.standing.named (no_mover (by_slot c.args.node_entries.now c.args.notes.now) c.args.heads.now c.args.name c.args.name (sym c.part_of.ensures.part ∙ c.in_default.is)) }
