-- Inner: pairs of shapes, by their places in a list.
use Rattle.std.specs.Prelude.{ℕ, ◌<◌, ◌/◌, ◌%◌, ◌^◌, false, pos, List, length, slice_index_or, All}
use Rattle.std.specs.List.Sorted.{IsStrictlyIncreasing}
use Rattle.fixed_geom.specs.declared.boxes.Box2.{Box2}
use Rattle.fixed_geom.specs.Vectors.{zero_vector}
use Rattle.shapes.specs.declared.shape.Shape.TheVariants.{Circle}
use Rattle.contacts_base.specs.declared.near.Proxy.{Proxy}
use Rattle.contacts_base.specs.declared.key.ContactKey.{ContactKey}
use Rattle.contacts_base.specs.Changes.{key_of}

-- what stands for a box beyond a list
abbrev pub no_box : Box2
no_box = record { lo = zero_vector; hi = zero_vector }

-- what stands for the shape at a place beyond the list
abbrev pub no_proxy : Proxy
no_proxy = record {
  id = record { slot = 0; index = 0 };
  fat = no_box;
  filter = record { category = 0; mask = 0; group = pos 0 };
  dynamic = false;
  stirs = false;
  surface = record { friction = pos 0; restitution = pos 0 };
  shape = Circle zero_vector (pos 0);
  pose = record { x = zero_vector; rot = record { c = pos 0; s = pos 0 } };
}

abbrev pub proxy_at : List Proxy → ℕ → Proxy
proxy_at ps k = slice_index_or ps k no_proxy

-- the places that a pair's code names
abbrev pub first_place : ℕ → ℕ
first_place code = code / 2 ^ 32

abbrev pub second_place : ℕ → ℕ
second_place code = code % 2 ^ 32

-- the code names two places of the list, the lesser first
pub record IsPair (ps : List Proxy) (code : ℕ) : Type 0 where
  pub before : first_place code < second_place code
  pub within : second_place code < length ps

-- pairs of the list, ascending, none twice
pub record ArePairs (ps : List Proxy) (codes : List ℕ) : Type 0 where
  pub each : All (IsPair ps) codes
  pub rising : IsStrictlyIncreasing codes

-- the key of the pair
abbrev pub pair_key : List Proxy → ℕ → ContactKey
pair_key ps code = key_of (proxy_at ps (first_place code)) (proxy_at ps (second_place code))
