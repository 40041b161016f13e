use Rattle.std.proofs.Common.{sym, ◌∙◌, ap, arith}
use Rattle.contacts_base.specs.Keys.{key_number}
use Rattle.contacts_base.specs.Merge.{merged}
use Rattle.contacts_base.proofs.MergedLaws.{merged_none}
use Rattle.contacts.proofs.UpdateLemmas.{empty_of}
use Rattle.contacts.proofs.update.join.Goals as goal

pub returns-then-is_empty-clause-value : goal.returns-then-is_empty-clause-value
returns-then-is_empty-clause-value c =
    sym (ap (merged key_number c.args.first.items) (empty_of c.args.second.items _ c.is_empty.result (omega (arith, c.args.second.ok.0)) c.is_empty.ensures c.if-is_empty.true) ∙ merged_none key_number c.args.first.items c.requires.first)
