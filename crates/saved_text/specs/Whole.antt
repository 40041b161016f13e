-- Values that are read of their text as they were: each number is a whole one of 64 bits, and the keys of each object
-- ascend.
use Rattle.std.specs.Prelude.{ℕ, ◌&&◌, ◌^◌, Bool, true, false, nat_lt, List, pos, negsuc}
use Rattle.std.specs.Ordering.{is_gt, nat_cmp}
use Rattle.std.specs.Cmp.Lexicographic.{slice_cmp}
use Rattle.serde_json.specs.Data.{Data, Items, Members, Num, array, boolean, float, item, member, negative, no_items, no_members, null, number, object, string, unsigned}

abbrev pub is_narrow : Num → Bool
is_narrow (unsigned n) = nat_lt n (2 ^ 64)
is_narrow (negative (pos n)) = false
is_narrow (negative (negsuc n)) = nat_lt n (2 ^ 63)
is_narrow (float x) = false

-- a key stands before those of these members
abbrev pub is_before : List ℕ → Members → Bool
is_before l no_members = true
is_before l (member k d ms) = is_gt (slice_cmp nat_cmp k l) && is_before l ms

abbrev mutual
  pub is_whole : Data → Bool
  is_whole null = true
  is_whole (boolean b) = true
  is_whole (number n) = is_narrow n
  is_whole (string s) = true
  is_whole (array ds) = are_items_whole ds
  is_whole (object ms) = are_members_whole ms

  pub are_items_whole : Items → Bool
  are_items_whole no_items = true
  are_items_whole (item d ds) = is_whole d && are_items_whole ds

  pub are_members_whole : Members → Bool
  are_members_whole no_members = true
  are_members_whole (member k d ms) = is_before k ms && (is_whole d && are_members_whole ms)
