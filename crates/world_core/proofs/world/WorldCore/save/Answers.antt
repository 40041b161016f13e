use Rattle.std.proofs.Common.{◌≡◌, IfOk, rules}
use Rattle.impulse_ledger.specs.Sums.{totals_of}
use Rattle.serde_json.specs.View.{view}
use Rattle.world_core.proofs.SavedLaws.{saved_again}
use Rattle.world_core.proofs.world.WorldCore.save.Goals as goal
use Rattle.world_file.specs.Files.{value_of}
use Rattle.world_rules.specs.World.{book_of}

pub returns-clause-again : goal.returns-clause-again
returns-clause-again c =
    let saved : IfOk c.write.result (λ value. view value ≡ value_of c.args.self.now.plain (totals_of (book_of c.args.self.now))) = search rules in
    saved_again view c.args.self.now c.write.result c.plain.ensures.sound saved
