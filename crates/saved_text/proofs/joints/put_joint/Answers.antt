use Rattle.std.proofs.Common.{ap, ◌∙◌}
use Rattle.serde_json.specs.Data.{string}
use Rattle.saved_text.proofs.joints.put_joint.Goals as goal

pub returns : goal.returns
returns c = record { text = c.in_ok-put_named.ensures.text c.args.slot_entries.now (ap string c.deref.ensures ∙ c.in_ok-a.ensures.name) (ap string c.deref-2.ensures ∙ c.in_ok-b.ensures.name) }
