-- Bodies that are told who sleeps.
use Rattle.std.proofs.Common.{◌≡◌, ℕ, zero, suc, ◌+◌, Bool, true, false, cond, is_some, List, [], ◌∷◌, Option, Some, None, refl, sym, ap, ◌∙◌, arith}
use Rattle.std.specs.Prelude.{option_map}
use Rattle.std.proofs.lemmas.Option.{none-some, same_Some}
use Rattle.islands.specs.declared.label.Label.{Label}
use Rattle.islands.specs.Labels.{Labels, label_at, sleeping_name}
use Rattle.plain_world.specs.declared.body.Body.{Body}
use Rattle.plain_world.specs.Bodies.{is_mover, is_mover_in}
use Rattle.plain_world.specs.Sleep.{roused, told, told_body, told_by, told_from}
use Rattle.plain_world.specs.Slots.{body_at}
use Rattle.solver_sets.specs.Laws as laws
use Rattle.solver_sets.specs.Ties.{is_enabled_in}

-- ---- one body

told_one : (o : Option Label) (b : Body) → (is_mover (told_body o b) ≡ is_mover b) × ((told_body o b).enabled ≡ b.enabled)
told_one o b = by_mover (is_mover b) (sleeping_name o)
  where
    by_asleep : (a : Bool) → (is_mover (cond a (roused b) b) ≡ is_mover b) × ((cond a (roused b) b).enabled ≡ b.enabled)
    by_asleep true = (refl, refl)
    by_asleep false = (refl, refl)

    by_mover : (t : Bool) (name : Option ℕ) → (is_mover (cond t (told_by name b) b) ≡ is_mover b) × ((cond t (told_by name b) b).enabled ≡ b.enabled)
    by_mover false name = (refl, refl)
    by_mover true None = by_asleep (is_some b.asleep)
    by_mover true (Some name) = (refl, refl)

told_alike : (l : Option Label) (o : Option Body) → (is_mover_in (option_map (told_body l) o) ≡ is_mover_in o) × (is_enabled_in (option_map (told_body l) o) ≡ is_enabled_in o)
told_alike l None = (refl, refl)
told_alike l (Some b) = told_one l b

told_sleeps : (o : Option Label) (b : Body) → (is_mover b ≡ false → b.asleep ≡ sleeping_name o) → (told_body o b).asleep ≡ sleeping_name o
told_sleeps o b h = by_mover (is_mover b) refl (sleeping_name o) refl
  where
    by_asleep : (a : Option ℕ) → b.asleep ≡ a → (cond (is_some a) (roused b) b).asleep ≡ None
    by_asleep None e = e
    by_asleep (Some name) e = refl

    by_mover : (t : Bool) → is_mover b ≡ t → (name : Option ℕ) → sleeping_name o ≡ name → (cond t (told_by name b) b).asleep ≡ name
    by_mover false e name q = h e ∙ q
    by_mover true e None q = by_asleep b.asleep refl
    by_mover true e (Some name) q = refl

-- ---- all of them

told_at : (n : ℕ) (labels : Labels) (bodies : List (Option Body)) (k m : ℕ) → m ≡ n + k → body_at (told_from n labels bodies) k ≡ option_map (told_body (label_at labels m)) (body_at bodies k)
told_at n labels [] k m e = refl
told_at n labels (o ∷ bodies) zero m e = let here : n ≡ m = omega (arith, e) in ap (λ (j : ℕ). option_map (told_body (label_at labels j)) o) here
told_at n labels (o ∷ bodies) (suc k) m e = told_at (suc n) labels bodies k m (omega (arith, e))

pub body_told : (labels : Labels) (bodies : List (Option Body)) (slot : ℕ) → body_at (told labels bodies) slot ≡ option_map (told_body (label_at labels slot)) (body_at bodies slot)
unfolding told
body_told labels bodies slot = told_at 0 labels bodies slot slot (omega arith)

pub telling : laws.TellingKeepsTies
telling bodies labels = record {
  enabled = λ slot. ap is_enabled_in (body_told labels bodies slot) ∙ (told_alike (label_at labels slot) (body_at bodies slot)).1;
  movers = λ slot. ap is_mover_in (body_told labels bodies slot) ∙ (told_alike (label_at labels slot) (body_at bodies slot)).0;
}

-- the body before
was : (l : Option Label) (o : Option Body) (b : Body) → option_map (told_body l) o ≡ Some b → (a : Body) × (o ≡ Some a) × (told_body l a ≡ b)
was l None b e = absurd (none-some b e)
was l (Some a) b e = (a, refl, same_Some (told_body l a) b e)

none_sleeps : (l : Option Label) → is_some l ≡ false → sleeping_name l ≡ None
none_sleeps None e = refl
none_sleeps (Some l) e = cc

pub told_are_told : laws.ToldAreTold
told_are_told bodies labels tied only = record {
  tied = λ slot. tied slot ∙ sym ((telling bodies labels).movers slot);
  asleep = λ slot b at.
      let o = was (label_at labels slot) (body_at bodies slot) b (sym (body_told labels bodies slot) ∙ at) in
      sym (ap (λ (v : Body). v.asleep) o.2) ∙ told_sleeps (label_at labels slot) o.0 (λ e.
      only slot o.0 o.1 e ∙ sym (none_sleeps (label_at labels slot) (tied slot ∙ ap is_mover_in o.1 ∙ e)));
}
