use Rattle.std.proofs.Common.{length, ◌∙◌}
use Rattle.contacts.proofs.FlaggedLaws.{none_flagged, none_resized}
use Rattle.contacts.proofs.stirring_flags.clear_flags.Goals as goal

pub returns-in_err-resize-clause-flagged : goal.returns-in_err-resize-clause-flagged
returns-in_err-resize-clause-flagged c =
    none_flagged (length c.args.flags.now.items) c.resize.new.self.items c.clear.new.self.items (c.in_err-resize.ensures.items ∙ c.unflag.ensures) c.clear.ensures.items

pub returns-clause-flagged : goal.returns-clause-flagged
returns-clause-flagged c =
    let none = none_resized c.args.slots (length c.args.flags.now.items) _ c.unflag.new.flags.items c.resize.new.self.items c.unflag.new.flags.ok.0 c.unflag.ensures c.in_ok-resize.ensures.items in
    none_flagged c.args.slots c.resize.new.self.items c.clear.new.self.items none c.clear.ensures.items
