use Rattle.std.proofs.Common.{codes, sym, ◌∙◌}
use Rattle.json.specs.Print.{escape_byte}
use Rattle.loaded_text.proofs.Joined.{literal_stands}
use Rattle.loaded_text.proofs.names.read_kind.Goals as goal

pub returns-then-take : goal.returns-then-take
unfolding escape_byte
returns-then-take c = literal_stands c.args.lead.now (codes "dynamic") _ _ _ c.in_ok-expect.ensures.taken (c.take.ensures.taken c.if-take.true)

pub returns-then-take-2 : goal.returns-then-take-2
unfolding escape_byte
returns-then-take-2 c = literal_stands c.args.lead.now (codes "static") _ _ _ c.in_ok-expect.ensures.taken (sym (c.take.ensures.kept c.if-take.false) ∙ c.take-2.ensures.taken c.if-take-2.true)

pub returns : goal.returns
unfolding escape_byte
returns c = literal_stands c.args.lead.now (codes "kinematic") _ _ _ c.in_ok-expect.ensures.taken (sym (c.take.ensures.kept c.if-take.false) ∙ sym (c.take-2.ensures.kept c.if-take-2.false) ∙ c.in_ok-expect-2.ensures.taken)
