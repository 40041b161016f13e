-- The starts that a sweep tests one against are of shapes of the list.
use Rattle.std.proofs.Common.{◌≡◌, ℕ, ◌+◌, List, drop, take, Bool, true, false, cond}
use Rattle.std.specs.List.{All}
use Rattle.std.proofs.lemmas.List.Elements.{All-drop, All-take}
use Rattle.contacts_base.specs.declared.near.Proxy.{Proxy}
use Rattle.contacts.specs.Sweep.{IsPlaceIn, dynamics_of}
use Rattle.contacts_base.proofs.Members.{all_from_each, each_from, each_in}
use Rattle.contacts.proofs.SweepLemmas.{each_from_all, in_dynamics}

dynamics_in : (ps : List Proxy) (ss : List ℕ) → All (IsPlaceIn ps) ss → All (IsPlaceIn ps) (dynamics_of ps ss)
dynamics_in ps ss h = all_from_each (IsPlaceIn ps) (dynamics_of ps ss) (each_from (IsPlaceIn ps) (dynamics_of ps ss) (λ x q. each_in (IsPlaceIn ps) x ss (each_from_all ps ss h) (in_dynamics ps ss x q)))

pub others_in : (ps : List Proxy) (ss ds later others : List ℕ) (k n : ℕ) (b : Bool) → All (IsPlaceIn ps) ss → ds ≡ dynamics_of ps (drop k ss) → later ≡ cond b (drop 1 ds) ds → others ≡ cond b (take n (drop (k + 1) ss)) later → All (IsPlaceIn ps) others
others_in ps ss ds later others k n true h e l o = rw o (All-take (IsPlaceIn ps) n (drop (k + 1) ss) (All-drop (IsPlaceIn ps) (k + 1) ss h))
others_in ps ss ds later others k n false h e l o = rw (o, l, e) (dynamics_in ps (drop k ss) (All-drop (IsPlaceIn ps) k ss h))
