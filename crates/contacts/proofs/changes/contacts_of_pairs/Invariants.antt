use Rattle.std.proofs.Common.{◌≡◌, ◌≤◌, length, take, vec_capacity, vec_len}
use Rattle.contacts_base.specs.Changes.{keys_touching_only_in}
use Rattle.contacts.specs.ByCodes.{contacts_of}
use Rattle.contacts_base.specs.ChangedKeys.{keys_not_in}
use Rattle.contacts.proofs.changes.contacts_of_pairs.Given as goal

abbrev pub invariant-loop-code : goal.invariant-loop-code
invariant-loop-code l = record {
  now : l.now.items ≡ contacts_of l.old l.proxies (take l.code-index l.near);
  made : l.made.items ≡ keys_not_in l.old l.now.items;
  begin : l.begin.items ≡ keys_touching_only_in l.old l.now.items;
  now_long : vec_len l.now ≡ l.code-index;
  made_long : vec_len l.made ≤ l.code-index;
  begin_long : vec_len l.begin ≤ l.code-index;
  now_room : length l.near ≤ vec_capacity l.now;
  made_room : length l.near ≤ vec_capacity l.made;
  begin_room : length l.near ≤ vec_capacity l.begin;
}
