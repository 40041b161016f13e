-- Which parts of a saved world stand printed at the front of a text.
use Rattle.std.specs.Prelude.{◌≡◌, ℕ, ◌≤◌, ◌++◌, ◌∷◌, Bool, false, true, List, []}
use Rattle.fixed_geom.specs.declared.vectors.Vec2.{Vec2}
use Rattle.loaded_text.specs.Leads.{IsSigned, Leads}
use Rattle.saved_text.specs.Tokens.{are_whole, have_whole}
use Rattle.saved_text.specs.Whole.{is_whole}
use Rattle.serde_json.specs.Data.{Data, depth}
use Rattle.serde_json.specs.Written.{comma_if, compact_text}
use Rattle.json.specs.Print.{quoted}
use Rattle.world_file_base.specs.Asks.{Ask, no_asks}
use Rattle.world_file_base.specs.Written.{Member}

-- ---- bytes

-- the bytes before a member's value
abbrev pub key_text : Bool → List ℕ → List ℕ
key_text later key = comma_if later ++ (quoted key ++ 58 ∷ [])

-- members with no bracket
abbrev pub joined_members : Bool → List Member → List ℕ
joined_members later [] = []
joined_members later (m ∷ ms) = key_text later m.0 ++ (compact_text m.1 ++ joined_members true ms)

-- items with no bracket
abbrev pub joined_items : Bool → List Data → List ℕ
joined_items later [] = []
joined_items later (d ∷ ds) = comma_if later ++ (compact_text d ++ joined_items true ds)

-- ---- what stands there

-- after the lead a value, which is read of its text as it is
pub record Stands (lead : List ℕ) (d : Data) (text rest : List ℕ) : Type 0 where
  pub text_is : Leads lead d text rest
  pub whole : is_whole d ≡ true

pub record MembersStand (later : Bool) (ms : List Member) (text rest : List ℕ) : Type 0 where
  pub text_is : text ≡ joined_members later ms ++ rest
  pub whole : have_whole ms ≡ true

pub record ItemsStand (ds : List Data) (text rest : List ℕ) : Type 0 where
  pub text_is : text ≡ joined_items false ds ++ rest
  pub whole : are_whole ds ≡ true

-- a value that is read as x, and breaks nothing
pub record Holds {X : Type 0} (lead : List ℕ) (read : Data → X) (ask : Data → Ask) (deep : ℕ) (x : X) (text rest : List ℕ) : Type 0 where
  pub value : Data
  pub stands : Stands lead value text rest
  pub shallow : depth value ≤ deep
  pub is : read value ≡ x
  pub asks : ask value no_asks ≡ no_asks

-- ---- numbers

abbrev pub IsSignedVector : Vec2 → Type 0
IsSignedVector v = IsSigned v.x × IsSigned v.y
