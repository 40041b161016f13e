-- Marks by slot: whatever shows the broad phase other shapes of a body marks its slot.
use Rattle.std.proofs.Common.{◌≡◌, ◌≢◌, ℕ, zero, suc, ◌+◌, ◌≤◌, Bool, true, false, cond, List, [], ◌∷◌, ◌++◌, length, nat_lt, get_or, Option, Some, None, is_some, refl, sym, ap, subst, ◌∙◌, arith, true≢false, slice_set}
use Rattle.std.specs.Prelude.{option_map}
use Rattle.std.proofs.lemmas.Bool.{ltb-false}
use Rattle.std.proofs.lemmas.List.{length-set}
use Rattle.islands.specs.Labels.{Labels, label_at, sleeping_name}
use Rattle.islands.specs.declared.label.Label.{Label}
use Rattle.plain_world.specs.declared.body.Body.{Body}
use Rattle.plain_world.specs.Bodies.{is_awake, is_mover}
use Rattle.plain_world.specs.Shown.{IsShownAlike}
use Rattle.plain_world.specs.Sleep.{is_slow, roused, timed, timed_bodies, told, told_body, told_by, told_from}
use Rattle.plain_world.specs.Slots.{body_at, with_body}
use Rattle.world_core_base.specs.Marked.{AreMarkedIn, AreShownAlike, IsUnchangedAt}

-- ---- bodies that show the same shapes

pub alike_same : (o : Option Body) → AreShownAlike o o
alike_same None = tt
alike_same (Some b) = record { enabled = refl; dynamic = refl; shapes = refl; fats = refl }

pub alike_then : (o p q : Option Body) → AreShownAlike o p → AreShownAlike p q → AreShownAlike o q
alike_then None None None h k = tt
alike_then None None (Some d) h k = absurd k
alike_then None (Some c) q h k = absurd h
alike_then (Some b) None q h k = absurd h
alike_then (Some b) (Some c) None h k = absurd k
alike_then (Some b) (Some c) (Some d) h k = record { enabled = h.enabled ∙ k.enabled; dynamic = h.dynamic ∙ k.dynamic; shapes = h.shapes ∙ k.shapes; fats = h.fats ∙ k.fats }

pub alike_mapped : (f : Body → Body) (o : Option Body) → ((b : Body) → o ≡ Some b → IsShownAlike b (f b)) → AreShownAlike o (option_map f o)
alike_mapped f None h = tt
alike_mapped f (Some b) h = h b refl

-- ---- marks through several changes

pub marked_same : (bodies : List (Option Body)) (marks : List Bool) → AreMarkedIn bodies marks bodies marks
marked_same bodies marks slot e = record { unmarked = e; alike = alike_same (body_at bodies slot) }

pub marked_then : (first : List (Option Body)) (marks : List Bool) (second : List (Option Body)) (later : List Bool) (third : List (Option Body)) (last : List Bool) → AreMarkedIn first marks second later → AreMarkedIn second later third last → AreMarkedIn first marks third last
marked_then first marks second later third last h k slot e =
    let two : IsUnchangedAt second later third slot = k slot e in
    let one : IsUnchangedAt first marks second slot = h slot two.unmarked in
    record { unmarked = one.unmarked; alike = alike_then (body_at first slot) (body_at second slot) (body_at third slot) one.alike two.alike }

-- all bodies show the same shapes, and the marks stay
pub marked_alike : (bodies later : List (Option Body)) (marks : List Bool) → ((slot : ℕ) → AreShownAlike (body_at bodies slot) (body_at later slot)) → AreMarkedIn bodies marks later marks
marked_alike bodies later marks alike slot e = record { unmarked = e; alike = alike slot }

pub marked_eq : (bodies : List (Option Body)) (marks : List Bool) (later others : List (Option Body)) (now others_now : List Bool) → others ≡ later → others_now ≡ now → AreMarkedIn bodies marks later now → AreMarkedIn bodies marks others others_now
marked_eq bodies marks later others now others_now e f h = subst (λ (l : List (Option Body)). AreMarkedIn bodies marks l others_now) (sym e) (subst (λ (l : List Bool). AreMarkedIn bodies marks later l) (sym f) h)

-- ---- marks put

record WasUnmarked (marks : List Bool) (slot s : ℕ) : Type 0 where
  other : s ≢ slot
  unmarked : get_or marks s true ≡ false

set_unmarked : (marks : List Bool) (slot s : ℕ) → get_or (slice_set marks slot true) s true ≡ false → WasUnmarked marks slot s
set_unmarked [] slot s e = absurd (true≢false e)
set_unmarked (m ∷ marks) zero zero e = absurd (true≢false e)
set_unmarked (m ∷ marks) zero (suc s) e = record { other = λ f. absurd (omega (arith, f)); unmarked = e }
set_unmarked (m ∷ marks) (suc slot) zero e = record { other = λ f. absurd (omega (arith, f)); unmarked = e }
set_unmarked (m ∷ marks) (suc slot) (suc s) e =
    let rest : WasUnmarked marks slot s = set_unmarked marks slot s e in
    record { other = λ f. rest.other (omega (arith, f)); unmarked = rest.unmarked }

-- ---- one slot changed

other_alike : (bodies : List (Option Body)) (slot : ℕ) (o : Option Body) (s : ℕ) → s ≢ slot → AreShownAlike (body_at bodies s) (body_at (slice_set bodies slot o) s)
other_alike [] slot o s other = tt
other_alike (p ∷ os) zero o zero other = absurd (other refl)
other_alike (p ∷ os) zero o (suc s) other = alike_same (body_at os s)
other_alike (p ∷ os) (suc slot) o zero other = alike_same p
other_alike (p ∷ os) (suc slot) o (suc s) other = other_alike os slot o s (λ e. other (ap suc e))

each_alike : (bodies : List (Option Body)) (slot : ℕ) (o : Option Body) (s : ℕ) → AreShownAlike (body_at bodies slot) o → AreShownAlike (body_at bodies s) (body_at (slice_set bodies slot o) s)
each_alike [] slot o s h = tt
each_alike (p ∷ os) zero o zero h = h
each_alike (p ∷ os) zero o (suc s) h = alike_same (body_at os s)
each_alike (p ∷ os) (suc slot) o zero h = alike_same p
each_alike (p ∷ os) (suc slot) o (suc s) h = each_alike os slot o s h

pub marked_set : (bodies : List (Option Body)) (marks : List Bool) (slot : ℕ) (o : Option Body) → AreMarkedIn bodies marks (slice_set bodies slot o) (slice_set marks slot true)
marked_set bodies marks slot o s e =
    let was : WasUnmarked marks slot s = set_unmarked marks slot s e in
    record { unmarked = was.unmarked; alike = other_alike bodies slot o s was.other }

-- the slot is marked where its body may show other shapes
pub marked_if : (bodies : List (Option Body)) (marks : List Bool) (slot : ℕ) (o : Option Body) (made : Bool) → (made ≡ false → AreShownAlike (body_at bodies slot) o) → AreMarkedIn bodies marks (slice_set bodies slot o) (cond made (slice_set marks slot true) marks)
marked_if bodies marks slot o true h = marked_set bodies marks slot o
marked_if bodies marks slot o false h = marked_alike bodies (slice_set bodies slot o) marks (λ s. each_alike bodies slot o s (h refl))

pub get_body : (bodies : List (Option Body)) (slot : ℕ) → get_or bodies slot None ≡ body_at bodies slot
get_body [] slot = refl
get_body (o ∷ os) zero = refl
get_body (o ∷ os) (suc slot) = get_body os slot

-- the same of what was in the slot before
pub marked_slot : (bodies : List (Option Body)) (marks : List Bool) (slot : ℕ) (before after : Option Body) (made : Bool) → get_or bodies slot None ≡ before → (made ≡ false → AreShownAlike before after) → AreMarkedIn bodies marks (slice_set bodies slot after) (cond made (slice_set marks slot true) marks)
marked_slot bodies marks slot before after made e h = marked_if bodies marks slot after made (λ off. subst (λ (o : Option Body). AreShownAlike o after) (sym e ∙ get_body bodies slot) (h off))

pub length-mark_if : (marks : List Bool) (slot : ℕ) (made : Bool) → length (cond made (slice_set marks slot true) marks) ≡ length marks
length-mark_if marks slot true = length-set marks slot true
length-mark_if marks slot false = refl

end_alike : (bodies : List (Option Body)) (slot : ℕ) (b : Body) (s : ℕ) → slot ≡ length bodies → s ≢ slot → AreShownAlike (body_at bodies s) (body_at (bodies ++ Some b ∷ []) s)
end_alike [] slot b zero e other = absurd (other (omega (arith, e)))
end_alike [] slot b (suc s) e other = tt
end_alike (o ∷ os) zero b s e other = absurd (omega (arith, e))
end_alike (o ∷ os) (suc slot) b zero e other = alike_same o
end_alike (o ∷ os) (suc slot) b (suc s) e other = end_alike os slot b s (omega (arith, e)) (λ f. other (ap suc f))

marked_end : (bodies : List (Option Body)) (marks : List Bool) (slot : ℕ) (b : Body) → slot ≡ length bodies → AreMarkedIn bodies marks (bodies ++ Some b ∷ []) (slice_set marks slot true)
marked_end bodies marks slot b end s e =
    let was : WasUnmarked marks slot s = set_unmarked marks slot s e in
    record { unmarked = was.unmarked; alike = end_alike bodies slot b s end was.other }

-- a body put into a slot that is free, or behind the others
pub marked_put : (bodies : List (Option Body)) (marks : List Bool) (slot : ℕ) (b : Body) → slot ≤ length bodies → AreMarkedIn bodies marks (with_body bodies slot b) (slice_set marks slot true)
marked_put bodies marks slot b next = by (nat_lt slot (length bodies)) (λ e. ltb-false slot (length bodies) e)
  where
    by : (t : Bool) → (t ≡ false → length bodies ≤ slot) → AreMarkedIn bodies marks (cond t (slice_set bodies slot (Some b)) (bodies ++ Some b ∷ [])) (slice_set marks slot true)
    by true h = marked_set bodies marks slot (Some b)
    by false h = let past : length bodies ≤ slot = h refl in marked_end bodies marks slot b (omega (arith, past, next))

-- ---- bodies that are told, timed, moved

told_shown : (o : Option ℕ) (b : Body) → IsShownAlike b (told_by o b)
told_shown (Some name) b = record { enabled = refl; dynamic = refl; shapes = refl; fats = refl }
told_shown None b = by (is_some b.asleep)
  where
    by : (t : Bool) → IsShownAlike b (cond t (roused b) b)
    by true = record { enabled = refl; dynamic = refl; shapes = refl; fats = refl }
    by false = record { enabled = refl; dynamic = refl; shapes = refl; fats = refl }

told_one : (label : Option Label) (b : Body) → IsShownAlike b (told_body label b)
told_one label b = by (is_mover b)
  where
    by : (t : Bool) → IsShownAlike b (cond t (told_by (sleeping_name label) b) b)
    by true = told_shown (sleeping_name label) b
    by false = record { enabled = refl; dynamic = refl; shapes = refl; fats = refl }

told_each : (labels : Labels) (n : ℕ) (bodies : List (Option Body)) (slot : ℕ) → AreShownAlike (body_at bodies slot) (body_at (told_from n labels bodies) slot)
told_each labels n [] slot = tt
told_each labels n (o ∷ os) zero = alike_mapped (told_body (label_at labels n)) o (λ b e. told_one (label_at labels n) b)
told_each labels n (o ∷ os) (suc slot) = told_each labels (suc n) os slot

pub told_all : (labels : Labels) (bodies : List (Option Body)) (slot : ℕ) → AreShownAlike (body_at bodies slot) (body_at (told labels bodies) slot)
unfolding told
told_all labels bodies slot = told_each labels 0 bodies slot

pub marked_told : (labels : Labels) (bodies : List (Option Body)) (marks : List Bool) → AreMarkedIn bodies marks (told labels bodies) marks
unfolding told
marked_told labels bodies marks = marked_alike bodies (told labels bodies) marks (told_each labels 0 bodies)

timed_one : (ticks : ℕ) (b : Body) → IsShownAlike b (timed ticks b)
timed_one ticks b = by (is_awake b) (cond (is_slow b.mass b.motion) (b.timer + ticks) 0)
  where
    by : (t : Bool) (n : ℕ) → IsShownAlike b (cond t (record b { timer = n }) b)
    by true n = record { enabled = refl; dynamic = refl; shapes = refl; fats = refl }
    by false n = record { enabled = refl; dynamic = refl; shapes = refl; fats = refl }

pub timed_each : (ticks : ℕ) (bodies : List (Option Body)) (slot : ℕ) → AreShownAlike (body_at bodies slot) (body_at (timed_bodies ticks bodies) slot)
timed_each ticks [] slot = tt
timed_each ticks (o ∷ os) zero = alike_mapped (timed ticks) o (λ b e. timed_one ticks b)
timed_each ticks (o ∷ os) (suc slot) = timed_each ticks os slot

pub marked_timed : (ticks : ℕ) (bodies : List (Option Body)) (marks : List Bool) → AreMarkedIn bodies marks (timed_bodies ticks bodies) marks
marked_timed ticks bodies marks = marked_alike bodies (timed_bodies ticks bodies) marks (timed_each ticks bodies)
