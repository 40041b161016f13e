-- A list that is closed up while members are taken out of it.
use Rattle.std.specs.Prelude.{ℕ, ◌≤◌, List, ◌++◌, take, drop}
use Rattle.graph_colours.specs.declared.member.Member.{Member}
use Rattle.graph_colours.specs.declared.edits.Edit.{Edit}
use Rattle.graph_colours.specs.declared.removals.Gap.{Gap}
use Rattle.graph_colours.specs.Edits.{all_edited}

-- the gap is within a list of so many members
pub record IsGap (gap : Gap) (count : ℕ) : Type 0 where
  pub ordered : gap.start ≤ gap.end
  pub within : gap.end ≤ count

-- what the list becomes: the members before the gap, and with the edits made those after it
abbrev pub closed : {C : Type 0} → (C → ℕ) → Gap → List (Edit C) → List (Member C) → List (Member C)
closed number gap es ms = take gap.start ms ++ all_edited number es (drop gap.end ms)
