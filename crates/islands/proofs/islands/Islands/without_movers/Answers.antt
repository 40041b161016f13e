use Rattle.std.proofs.Common.{◌≡◌, length, arith, rules}
use Rattle.islands.proofs.GivenLaws.{blank_labels, blank_placed}
use Rattle.islands.proofs.islands.Islands.without_movers.Goals as goal

pub invariant_of-result : goal.invariant_of-result
invariant_of-result c =
    let sizes : length c.resize-2.new.self.items ≡ c.args.slots = omega (arith, c.in_ok-resize-2.ensures.len, c.resize-2.new.self.ok.0) in
    record {
      standing = blank_placed c.in_ok-node_entries.node_entries.items c.pad_node_entries.new.node_entries.items c.new-notes.result.items c.resize.new.self.items c.resize-2.new.self.items c.args.slots _ c.in_ok-node_entries.ensures.items c.pad_node_entries.ensures.widened c.new-notes.ensures.items c.new-notes.ensures.len c.in_ok-resize.ensures.items sizes;
      few = omega (arith, c.in_ok-resize.ensures.len, c.resize.new.self.ok.0, c.requires);
      node_entries_room = omega (arith, c.in_ok-node_entries.ensures.capacity, c.pad_node_entries.ensures.capacity);
      notes_room = search rules;
      heads_room = search rules;
    }

pub returns-clause-labels : goal.returns-clause-labels
returns-clause-labels c = blank_labels c.in_ok-node_entries.node_entries.items c.pad_node_entries.new.node_entries.items c.new-notes.result.items c.resize.new.self.items c.resize-2.new.self.items c.args.slots _ c.in_ok-node_entries.ensures.items c.pad_node_entries.ensures.widened c.new-notes.ensures.items c.new-notes.ensures.len c.in_ok-resize.ensures.items
