-- What a turn of constraints stands on: who has a colour has its movers.
use Rattle.std.proofs.Common.{◌≡◌, ℕ, ◌==◌, Bool, true, false, not, List, [], ◌∷◌, length, get_or, refl, sym, ap, subst}
use Rattle.std.proofs.lemmas.List.Elements.{Contains-get_or}
use Rattle.graph_colours.specs.declared.member.Movers.{Movers}
use Rattle.graph_colours.specs.declared.member.Member.{Member}
use Rattle.graph_colours.specs.Colours.{all_members, released}
use Rattle.std.specs.Prelude.{Contains, filter}
use Rattle.sleep_wake.specs.declared.change.Change.{Change}
use Rattle.sleep_wake.specs.declared.change.Change.TheVariants.{Begin, End}
use Rattle.sleep_wake.specs.Acting.{Acting, AreMovers, IsConsistent}
use Rattle.sleep_wake.specs.Waking.{movers_woken, released_all}
use Rattle.sleep_wake.specs.Changes.{after_change}
use Rattle.sleep_wake.specs.ChangeLists.{IsChange, AreChanges}
use Rattle.sleep_wake.specs.Rooms.{OwnMovers}
use Rattle.sleep_wake.proofs.ListLemmas.{one_of}
use Rattle.sleep_wake.proofs.FoldLemmas.{movers_on, both_labelled}
use Rattle.sleep_wake.proofs.KeptLemmas.{wakes_both, changing_keeps}
use Rattle.sleep_wake.proofs.SizeLemmas.{both_ties, both_size}
use Rattle.graph_colours.proofs.ColouringLemmas.{released_members}
use Rattle.graph_colours.specs.Members.{without_member}
use Rattle.std.specs.List.{All}
use Rattle.std.proofs.lemmas.List.Elements.{All-filter}

pub own_of : {C : Type 0} (number : C → ℕ) (s : Acting C) → IsConsistent number s → OwnMovers number s.ties s.lists
own_of {C} number s w m there = λ k d lt e.
    let x : Member C = get_or (all_members s.lists) k d in
    let has : Contains s.ties x = ((w.acting x).0 (Contains-get_or (all_members s.lists) k d lt)).0 in
    ap (λ (v : Member C). v.movers) (one_of number s.ties x m w.rising has there e)

-- ---- once the movers of a constraint were woken

pub record IsReady {C : Type 0} (number : C → ℕ) (m : Movers) (s now : Acting C) : Type 0 where
  pub consistent : IsConsistent number now
  pub ties : now.ties ≡ s.ties
  pub movers : AreMovers now.labels m
  pub long : length now.labels ≡ length s.labels

pub ready_for : {C : Type 0} (number : C → ℕ) (m : Movers) (s now : Acting C) → IsConsistent number s → AreMovers s.labels m → now ≡ movers_woken number m s → IsReady number m s now
ready_for {C} number m s now w h is =
    let P : Acting C → Type 0 = λ v. IsReady number m s v in
    subst P (sym is) (record {
      consistent = (wakes_both number m.first m.second s w).consistent;
      ties = both_ties number m s;
      movers = movers_on s.labels (movers_woken number m s).labels m (both_labelled number m s) h;
      long = both_size number m s;
    })

one_alone : {C : Type 0} (number : C → ℕ) (c : Change C) (s : Acting C) → IsChange number s.labels s.ties c → AreChanges number s.labels s.ties (c ∷ [])
one_alone number (Begin m) s h = (h.0, h.1, tt)
one_alone number (End m) s h = (h, tt)

pub change_keeps : {C : Type 0} (number : C → ℕ) (c : Change C) (s : Acting C) → IsConsistent number s → IsChange number s.labels s.ties c → IsConsistent number (after_change number c s)
change_keeps number c s w h = changing_keeps number s (c ∷ []) w (one_alone number c s h)

-- ---- those that give up their colours leave the others theirs

all_without : {C : Type 0} (number : C → ℕ) (P : Member C → Type 0) (id : C) (ms : List (Member C)) → All P ms → All P (without_member number id ms)
unfolding without_member
all_without {C} number P id ms each = All-filter (λ (m : Member C). not (number m.id == number id)) P ms each

pub own_released : {C : Type 0} (number : C → ℕ) (id : C) (ties : List (Member C)) (lists : List (List (Member C))) → OwnMovers number ties lists → OwnMovers number ties (released number id lists)
own_released {C} number id ties lists own m there =
    let P : Member C → Type 0 = λ x. number x.id ≡ number m.id → x.movers ≡ m.movers in
    let Q : List (Member C) → Type 0 = λ l. All P l in
    subst Q (sym (released_members number id lists)) (all_without number P id (all_members lists) (own m there))

-- what is left to release, by the test of the first
pub released_wanted : {C : Type 0} (number : C → ℕ) (wanted : Member C → Bool) (m : Member C) (ms : List (Member C)) (lists : List (List (Member C))) → wanted m ≡ true → released_all number lists (filter wanted (m ∷ ms)) ≡ released_all number (released number m.id lists) (filter wanted ms)
released_wanted number wanted m ms lists h = rw h refl

pub released_passed : {C : Type 0} (number : C → ℕ) (wanted : Member C → Bool) (m : Member C) (ms : List (Member C)) (lists : List (List (Member C))) → wanted m ≡ false → released_all number lists (filter wanted ms) ≡ released_all number lists (filter wanted (m ∷ ms))
released_passed number wanted m ms lists h = rw h refl
