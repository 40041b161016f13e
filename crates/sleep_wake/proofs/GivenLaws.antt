-- Sets from their parts.
use Rattle.std.proofs.Common.{ℕ, length, get_or, arith}
use Rattle.std.specs.List.{All}
use Rattle.std.proofs.lemmas.List.Elements.{Contains-get_or}
use Rattle.graph_colours.specs.Given.{AreAllBelow}
use Rattle.sleep_wake.specs.Acting.{Acting, IsConsistent}
use Rattle.sleep_wake.proofs.ListLemmas.{flat_in}
use Rattle.sleep_wake.proofs.StandLemmas.{are_below}

-- the movers of all constraints with a colour are below the number of slots
pub all_below : {C : Type 0} (number : C → ℕ) (s : Acting C) → IsConsistent number s → All (AreAllBelow (length s.labels)) s.lists
all_below number s consistent k d lt j e short =
    let there = flat_in s.lists (get_or s.lists k d) (get_or (get_or s.lists k d) j e) (Contains-get_or s.lists k d lt) (Contains-get_or (get_or s.lists k d) j e short) in
    are_below s.labels (length s.labels) (get_or (get_or s.lists k d) j e).movers (omega arith) (consistent.movers (get_or (get_or s.lists k d) j e) ((consistent.acting (get_or (get_or s.lists k d) j e)).0 there).0)
