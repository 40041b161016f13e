use Rattle.std.proofs.Common.{◌∙◌, ap, sym, Some, None, cond, Bool}
use Rattle.std.specs.Option.{option_copied}
use Rattle.contacts_base.proofs.CountingLaws.{counted_found, none_counts}
use Rattle.contacts_base.proofs.counted.find_counting.Goals as goal

pub returns-in_err-entry : goal.returns-in_err-entry
returns-in_err-entry c = ap option_copied c.from_residual.ensures ∙ sym (none_counts c.args.over.now c.args.entries.now c.args.key (sym c.in_err-entry.ensures))

pub returns-then-is_set : goal.returns-then-is_set
returns-then-is_set c =
    let e = c.in_ok-entry.entry.now in
    sym (counted_found c.args.over.now c.args.entries.now c.args.key c.seek_near.result e c.requires c.seek_near.ensures (sym c.in_ok-entry.ensures) ∙ ap (λ (t : Bool). cond t None (Some e)) (sym c.is_set.ensures ∙ c.if-is_set.true))

pub returns : goal.returns
returns c =
    let e = c.in_ok-entry.entry.now in
    sym (counted_found c.args.over.now c.args.entries.now c.args.key c.seek_near.result e c.requires c.seek_near.ensures (sym c.in_ok-entry.ensures) ∙ ap (λ (t : Bool). cond t None (Some e)) (sym c.is_set.ensures ∙ c.if-is_set.false))
