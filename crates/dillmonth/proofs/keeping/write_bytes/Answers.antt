use Rattle.std.proofs.Common.{◌∙◌, ap}
use Rattle.std.proofs.lemmas.List.{map-id}
use Rattle.dillmonth.specs.Lists.{written}
use Rattle.dillmonth.proofs.keeping.write_bytes.Goals as goal

pub returns : goal.returns
returns c = c.write_all.ensures.written ∙ ap (λ l. written l c.args.out.now) (map-id c.args.bytes.now)
