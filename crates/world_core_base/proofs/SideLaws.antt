-- A walk over the numbers of the contacts that have a body on one side: those that were met have followed.
use Rattle.std.proofs.Common.{◌≡◌, ◌⊎◌, ℕ, List, [], ◌∷◌, ◌++◌, length, Option, Some, None, inl, inr, refl, sym, subst}
use Rattle.std.specs.Prelude.{Contains, slice_get}
use Rattle.std.proofs.lemmas.List.Elements.{Contains-append_cases}
use Rattle.islands.proofs.JoinLemmas.{contains_cases}
use Rattle.packed_sets.proofs.WalkLaws.{IsWalk, walk_at, walk_begins, walk_on, walk_over}
use Rattle.world_core_base.specs.Following.{CanFollow, HaveFollowed, followed}
use Rattle.world_core_base.specs.Sleeping.{sleep_at}
use Rattle.world_core_base.proofs.FollowLaws.{IsOne, can_then, followed_as, followed_then, none_contained, one_followed}

pub record IsFollowing (now : ℕ → Option ℕ) (all : List ℕ) (next : Option ℕ) (old new : List (Option ℕ)) : Type 0 where
  pub met : List ℕ
  pub left : List ℕ
  pub walk : IsWalk all next met left
  pub followed : HaveFollowed now (Contains met) old new

pub following_first : (now : ℕ → Option ℕ) (all : List ℕ) (next : Option ℕ) (old : List (Option ℕ)) → next ≡ slice_get all 0 → IsFollowing now all next old old
following_first now all next old at = record {
  met = [];
  left = all;
  walk = walk_begins all next at;
  followed = record { each = λ id. inl refl; done = λ id h. absurd (none_contained id h); long = refl };
}

met_more : (met : List ℕ) (number k : ℕ) → Contains (met ++ number ∷ []) k → Contains met k ⊎ (k ≡ number)
met_more met number k h = elim (Contains-append_cases met (number ∷ []) k h) [
  | inl before ↦ inl before
  | inr last ↦ elim (contains_cases number [] k last) [ inl same ↦ inr (sym same) | inr none ↦ absurd (none_contained k none) ]
]

-- what comes behind a number
abbrev pub IsBehind : List ℕ → ℕ → Option ℕ → Type 0
IsBehind all number later = (front back : List ℕ) → all ≡ front ++ number ∷ back → later ≡ slice_get back 0

pub following_more : (now : ℕ → Option ℕ) (all : List ℕ) (next : Option ℕ) (number names : ℕ) (later : Option ℕ) (old mid new : List (Option ℕ)) → CanFollow (sleep_at old) now (length old) names → IsFollowing now all next old mid → next ≡ Some number → new ≡ followed (now number) number mid → IsBehind all number later
    → IsFollowing now all later old new
following_more now all next number names later old mid new can f at is behind =
    let here = walk_at all next number f.met f.left f.walk at in
    let one : HaveFollowed now (IsOne number) mid new = one_followed now number (length old) names mid new (sym f.followed.long) (can_then now (Contains f.met) old mid (length old) names can f.followed) is in
    record {
      met = f.met ++ number ∷ [];
      left = here.back;
      walk = walk_on all number f.met f.left later here (behind f.met here.back here.whole);
      followed = followed_then now (Contains f.met) (IsOne number) (Contains (f.met ++ number ∷ [])) old mid new (λ k h. met_more f.met number k h) f.followed one;
    }

pub following_all : (now : ℕ → Option ℕ) (all : List ℕ) (next : Option ℕ) (Done : ℕ → Type 0) (old new : List (Option ℕ)) → IsFollowing now all next old new → next ≡ None → ((id : ℕ) → Done id → Contains all id) → HaveFollowed now Done old new
following_all now all next Done old new f none narrower =
    followed_as now (Contains f.met) Done old new (λ id d. subst (λ (l : List ℕ). Contains l id) (walk_over all next f.met f.left f.walk none) (narrower id d)) f.followed
