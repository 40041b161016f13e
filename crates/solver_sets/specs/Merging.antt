-- How the contacts that begin and those that end become one list of changes, ascending by key.
use Rattle.std.specs.Prelude.{cond, nat_lt, List, [], ◌∷◌, ◌++◌, Option, option_map}
use Rattle.std.specs.Option.{option_to_list}
use Rattle.contacts_base.specs.declared.key.ContactKey.{ContactKey}
use Rattle.contacts_base.specs.Keys.{key_number}
use Rattle.plain_world.specs.declared.constraint.Constraint.{Constraint}
use Rattle.graph_colours.specs.declared.member.Member.{Member}
use Rattle.sleep_wake.specs.declared.change.Change.{Change}
use Rattle.sleep_wake.specs.declared.change.Change.TheVariants.{Begin, End}
use Rattle.plain_world.specs.declared.body.Body.{Body}
use Rattle.solver_sets.specs.Ties.{contact_bond, tie_of}

-- the contact with the key as a tie, if it has movers
abbrev pub key_tie : List (Option Body) → ContactKey → Option (Member Constraint)
key_tie bodies key = tie_of bodies (contact_bond key)

abbrev pub end_of : List (Option Body) → ContactKey → Option (Change Constraint)
end_of bodies key = option_map (λ (m : Member Constraint). End m) (key_tie bodies key)

abbrev pub begin_of : List (Option Body) → ContactKey → Option (Change Constraint)
begin_of bodies key = option_map (λ (m : Member Constraint). Begin m) (key_tie bodies key)

abbrev pub all_ends : List (Option Body) → List ContactKey → List (Change Constraint)
all_ends bodies [] = []
all_ends bodies (e ∷ es) = option_to_list (end_of bodies e) ++ all_ends bodies es

-- the ends that come before the key
abbrev pub ends_until : List (Option Body) → ContactKey → List ContactKey → List (Change Constraint)
ends_until bodies key [] = []
ends_until bodies key (e ∷ es) = cond (nat_lt (key_number e) (key_number key)) (option_to_list (end_of bodies e) ++ ends_until bodies key es) []

-- and the rest of them
abbrev pub ends_from : ContactKey → List ContactKey → List ContactKey
ends_from key [] = []
ends_from key (e ∷ es) = cond (nat_lt (key_number e) (key_number key)) (ends_from key es) (e ∷ es)

-- those that begin, each after the ends that come before it
abbrev pub merged : List (Option Body) → List ContactKey → List ContactKey → List (Change Constraint)
merged bodies [] ends = all_ends bodies ends
merged bodies (b ∷ bs) ends = ends_until bodies b ends ++ (option_to_list (begin_of bodies b) ++ merged bodies bs (ends_from b ends))
