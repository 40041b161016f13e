-- A value as the tokens of its text, and what calls add to a text.
use Rattle.std.specs.Prelude.{◌≡◌, ◌++◌, ◌∷◌, ◌&&◌, Bool, true, List, []}
use Rattle.json.specs.Token.{Token, begin_array, key}
use Rattle.json.specs.Tree.{json_tokens}
use Rattle.json.specs.Written.{Written}
use Rattle.serde_json.specs.Data.{Data, Members, member, no_members, object}
use Rattle.serde_json.specs.Written.{outline}
use Rattle.world_file_base.specs.Written.{Member}
use Rattle.saved_text.specs.Whole.{are_members_whole, is_whole}

-- ---- tokens

abbrev pub tokens_of : Data → List Token
tokens_of d = json_tokens (outline d)

-- those of values one after another
abbrev pub each_tokens : List Data → List Token
each_tokens [] = []
each_tokens (d ∷ ds) = tokens_of d ++ each_tokens ds

-- those of members
abbrev pub members_tokens : List Member → List Token
members_tokens [] = []
members_tokens (m ∷ ms) = key m.0 ∷ (tokens_of m.1 ++ members_tokens ms)

-- ---- what is read of them as it was

abbrev pub are_whole : List Data → Bool
are_whole [] = true
are_whole (d ∷ ds) = is_whole d && are_whole ds

abbrev pub have_whole : List Member → Bool
have_whole [] = true
have_whole (m ∷ ms) = is_whole m.1 && have_whole ms

-- ---- what a call adds

-- these tokens, and what stood before all tokens stays
pub record Adds (tokens : List Token) (old new : Written) : Type 0 where
  pub tokens_are : new.tokens ≡ old.tokens ++ tokens
  pub before : new.before ≡ old.before

-- those of a value
pub record AddsValue (d : Data) (old new : Written) : Type 0 where
  pub tokens_are : new.tokens ≡ old.tokens ++ tokens_of d
  pub whole : is_whole d ≡ true
  pub before : new.before ≡ old.before

-- those of the items of a list
pub record AddsItems (ds : List Data) (old new : Written) : Type 0 where
  pub tokens_are : new.tokens ≡ old.tokens ++ each_tokens ds
  pub whole : are_whole ds ≡ true
  pub before : new.before ≡ old.before

-- those of members of an object
pub record AddsMembers (ms : List Member) (old new : Written) : Type 0 where
  pub tokens_are : new.tokens ≡ old.tokens ++ members_tokens ms
  pub whole : have_whole ms ≡ true
  pub before : new.before ≡ old.before

-- ---- what is left to be added of a list that was begun, and of members

pub record ItemsLeft (rest all : List Data) (old now : Written) : Type 0 where
  pub tokens_are : now.tokens ++ each_tokens rest ≡ old.tokens ++ begin_array ∷ each_tokens all
  pub whole : are_whole rest ≡ are_whole all
  pub before : now.before ≡ old.before

pub record MembersLeft (rest all : List Member) (old now : Written) : Type 0 where
  pub tokens_are : now.tokens ++ members_tokens rest ≡ old.tokens ++ members_tokens all
  pub whole : have_whole rest ≡ have_whole all
  pub before : now.before ≡ old.before

-- ---- objects

abbrev pub in_order : List Member → Members
in_order [] = no_members
in_order (m ∷ more) = member m.0 m.1 (in_order more)

-- the object that has these members, of which the keys ascend
pub record IsObject (ms : List Member) (d : Data) : Type 0 where
  pub is : d ≡ object (in_order ms)
  pub ascends : are_members_whole (in_order ms) ≡ have_whole ms
