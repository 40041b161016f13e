-- Inner: a census that is made of one item after another.
use Rattle.std.specs.Prelude.{ℕ, ◌==◌, cond, nat_lt, List, [], ◌∷◌, ◌++◌}
use Rattle.plain_world.specs.declared.body.SetName.{SetName}
use Rattle.plain_world.specs.declared.body.SetName.TheVariants as sets
use Rattle.solver_sets.specs.declared.census.Item.{Item}
use Rattle.solver_sets.specs.Census.{Standing, Sleepers, Census}

abbrev pub empty_census : Census
empty_census = record { static_set = []; disabled = []; awake = []; sleeping = [] }

abbrev pub with_item : Sleepers → Item → Sleepers
with_item s item = record { name = s.name; items = s.items ++ item ∷ [] }

abbrev pub alone : ℕ → Item → Sleepers
alone name item = record { name = name; items = item ∷ [] }

-- an item listed in the sleeping set of a name, which comes where there is none yet
abbrev pub with_sleeper : ℕ → Item → List Sleepers → List Sleepers
with_sleeper name item [] = alone name item ∷ []
with_sleeper name item (s ∷ sleeping) = cond (nat_lt s.name name) (s ∷ with_sleeper name item sleeping) (cond (s.name == name) (with_item s item ∷ sleeping) (alone name item ∷ s ∷ sleeping))

abbrev pub listed_in : Census → Item → SetName → Census
listed_in c item sets.Static = record c { static_set = c.static_set ++ item ∷ [] }
listed_in c item sets.Disabled = record c { disabled = c.disabled ++ item ∷ [] }
listed_in c item sets.Awake = record c { awake = c.awake ++ item ∷ [] }
listed_in c item (sets.Sleeping name) = record c { sleeping = with_sleeper name item c.sleeping }

abbrev pub with_listed : Census → Standing → Census
with_listed c s = listed_in c s.item s.set

abbrev pub with_all : Census → List Standing → Census
with_all c [] = c
with_all c (s ∷ standings) = with_all (with_listed c s) standings
