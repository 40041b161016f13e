-- What ties two bodies sleeps with the first of them that is a mover: laws for joints, by slot, and for contacts that
-- touch, by number.
use Rattle.std.proofs.Common.{◌≡◌, ◌≢◌, ◌⊎◌, ℕ, suc, ◌+◌, ◌<◌, ◌≤◌, ◌==◌, ◌||◌, Bool, true, false, List, ◌∷◌, length, drop, get_or, Option, Some, None, is_some, inl, inr, refl, sym, ap, ◌∙◌, subst, add-one}
use Rattle.std.specs.Prelude.{Contains}
use Rattle.std.proofs.lemmas.Bool.{cases_lt, false≢true}
use Rattle.std.proofs.lemmas.List.{drop_all}
use Rattle.std.proofs.Math.Seq.{drop-cons}
use Rattle.graph_colours.proofs.PlaceLemmas.{is_same}
use Rattle.graph_colours.specs.declared.member.Movers.{Movers}
use Rattle.islands.proofs.JoinLemmas.{contains_cases}
use Rattle.plain_world.specs.declared.body.Body.{Body}
use Rattle.plain_world.specs.Bodies.{moves}
use Rattle.plain_world.specs.Slots.{body_at}
use Rattle.world_core_base.specs.Asleep.{AreNamedAsleep, IsSleepAlike, sleep_with}
use Rattle.world_core_base.specs.Following.{HaveFollowed}
use Rattle.world_core_base.specs.Sleeping.{sleep_at}
use Rattle.world_core_base.proofs.FollowLaws.{followed_then, none_contained}

-- ---- one item

-- it sleeps under a name under which a body does
pub named_below : (bodies : List (Option Body)) (t : Option Movers) (name : ℕ) → ((m : Movers) → t ≡ Some m → moves bodies m.first ≡ true) → AreNamedAsleep bodies → sleep_with bodies t ≡ Some name → name < length bodies
named_below bodies None name mover named e = cc
named_below bodies (Some m) name mover named e = named m.first name (mover m refl) e

-- where no item is past the last place, each is below it
pub there_below : {X : Type 0} (item : ℕ → Option X) (long : ℕ) → ((k : ℕ) → long ≤ k → item k ≡ None) → (k : ℕ) → is_some (item k) ≡ true → k < long
there_below item long past k e = elim (cases_lt k long) [
  | inl lt ↦ lt
  | inr le ↦ absurd (false≢true (sym (ap is_some (past k le)) ∙ e))
]

-- ---- its two bodies

pub is_first : (a b : ℕ) → ((a == a) || (b == a)) ≡ true
is_first a b = ap (λ (t : Bool). t || (b == a)) (is_same a a refl)

pub is_second : (a b : ℕ) → ((a == b) || (b == b)) ≡ true
is_second a b = ap (λ (t : Bool). (a == b) || t) (is_same b b refl) ∙ or_true (a == b)
  where
    or_true : (t : Bool) → (t || true) ≡ true
    or_true true = refl
    or_true false = refl

-- they sleep as they did, if they are none of those that may sleep otherwise now
pub both_beside : (old new : List (Option Body)) (slots : List ℕ) (a b : ℕ) → ((slot : ℕ) → (Contains slots slot → ⊥) → IsSleepAlike (body_at old slot) (body_at new slot)) → ((slot : ℕ) → Contains slots slot → ((a == slot) || (b == slot)) ≡ false)
    → IsSleepAlike (body_at old a) (body_at new a) × IsSleepAlike (body_at old b) (body_at new b)
both_beside old new slots a b others off = (others a (λ h. false≢true (sym (off a h) ∙ is_first a b)), others b (λ h. false≢true (sym (off b h) ∙ is_second a b)))

-- the same where one body alone may sleep otherwise
pub both_far : (old new : List (Option Body)) (slot a b : ℕ) → ((other : ℕ) → other ≢ slot → IsSleepAlike (body_at old other) (body_at new other)) → ((a == slot) || (b == slot)) ≡ false → IsSleepAlike (body_at old a) (body_at new a) × IsSleepAlike (body_at old b) (body_at new b)
both_far old new slot a b others off = (others a (λ e. false≢true (sym (at a e) ∙ is_first a b)), others b (λ e. false≢true (sym (at b e) ∙ is_second a b)))
  where
    at : (k : ℕ) → k ≡ slot → ((a == k) || (b == k)) ≡ false
    at k e = ap (λ (n : ℕ). (a == n) || (b == n)) e ∙ off

-- ---- the items of listed bodies, of which those from a place on are left

-- no body in these slots is an end of the item; `is_end` tells it by slot and item
abbrev pub IsOff : (ℕ → ℕ → Bool) → List ℕ → ℕ → Type 0
IsOff is_end slots k = (slot : ℕ) → Contains slots slot → is_end slot k ≡ false

module _ (now : ℕ → Option ℕ) (is_end : ℕ → ℕ → Bool) (slots : List ℕ) where
  pub beside_first : (old : List (Option ℕ)) → ((k : ℕ) → IsOff is_end slots k → now k ≡ sleep_at old k) → HaveFollowed now (IsOff is_end (drop 0 slots)) old old
  beside_first old others = record { each = λ k. inl refl; done = λ k off. sym (others k off); long = refl }

  -- `Own` are the items of the body at the place
  pub beside_more : (place body d : ℕ) (Own : ℕ → Type 0) (old mid new : List (Option ℕ)) → place < length slots → body ≡ get_or slots place d → ((k : ℕ) → is_end body k ≡ true → Own k)
      → HaveFollowed now (IsOff is_end (drop place slots)) old mid → HaveFollowed now Own mid new → HaveFollowed now (IsOff is_end (drop (place + 1) slots)) old new
  beside_more place body d Own old mid new lt at own f g =
      let split : drop place slots ≡ body ∷ drop (suc place) slots = drop-cons slots place d lt ∙ ap (λ (s : ℕ). s ∷ drop (suc place) slots) (sym at) in
      let either : (k : ℕ) → IsOff is_end (drop (suc place) slots) k → IsOff is_end (drop place slots) k ⊎ Own k = λ k off. by k off split (is_end body k) refl in
      rw add-one (followed_then now (IsOff is_end (drop place slots)) Own (IsOff is_end (drop (suc place) slots)) old mid new either f g)
    where
      by : (k : ℕ) → IsOff is_end (drop (suc place) slots) k → drop place slots ≡ body ∷ drop (suc place) slots → (t : Bool) → is_end body k ≡ t → IsOff is_end (drop place slots) k ⊎ Own k
      by k off split true e = inr (own k e)
      by k off split false e = inl (λ other c. elim (contains_cases body (drop (suc place) slots) other (subst (λ (l : List ℕ). Contains l other) split c)) [
        | inl same ↦ subst (λ (b : ℕ). is_end b k ≡ false) same e
        | inr rest ↦ off other rest
      ])

  pub beside_all : (place : ℕ) (old new : List (Option ℕ)) → length slots ≤ place → HaveFollowed now (IsOff is_end (drop place slots)) old new → (k : ℕ) → sleep_at new k ≡ now k
  beside_all place old new le f k = f.done k (λ other c. absurd (none_contained other (subst (λ (l : List ℕ). Contains l other) (drop_all place slots le) c)))
