-- The timers of the awake movers, of which those beside a body that moves are put to 0, are those of the definition.
use Rattle.std.proofs.Common.{◌≡◌, ◌≢◌, ℕ, zero, suc, ◌+◌, ◌<◌, ◌≤◌, ◌||◌, Bool, true, false, cond, List, [], ◌∷◌, ◌++◌, length, drop, Option, Some, None, Contains, slice_index_or, slice_set, inl, inr, is_none, refl, sym, ap, ◌∙◌, subst, arith}
use Rattle.std.specs.Prelude.{◌==◌}
use Rattle.std.specs.List.{list_any}
use Rattle.std.proofs.lemmas.Bool.{cases_eq}
use Rattle.contacts_base.proofs.Members.{IsIn, in_from_contains}
use Rattle.plain_world.specs.declared.constraint.Constraint.{Constraint}
use Rattle.plain_world.specs.declared.constraint.Constraint.TheVariants.{Joint, Contact}
use Rattle.contacts_base.specs.declared.contact.ContactEntry.{ContactEntry}
use Rattle.graph_colours.proofs.PlaceLemmas.{is_same, not_same, same_from}
use Rattle.graph_colours.specs.declared.member.Member.{Member}
use Rattle.graph_colours.specs.Colours.{all_members, list_at}
use Rattle.islands.specs.Labels.{Labels}
use Rattle.plain_world.specs.declared.body.Body.{Body}
use Rattle.plain_world.specs.declared.joint.BodyJoint.{BodyJoint}
use Rattle.plain_world.specs.Joints.{joint_at}
use Rattle.plain_world.specs.Slots.{body_at}
use Rattle.sleep_wake.specs.Acting.{is_mover_awake}
use Rattle.solver_sets.specs.Beside.{is_beside_moving, is_joined_to_moving, is_moving_at, is_stirred_between, timer_if, timers_from, timers_of}
use Rattle.solver_sets.specs.BesideByTies.{ShowMoving, is_to_moving, own_set, stilled, stilled_alone, stilled_by, stilled_lists, stilled_pair, stilled_tie, stilled_ties, ties_to_moving}
use Rattle.solver_sets.proofs.ListingLaws.{drop_is, drop_past}

-- ---- an entry that is set

set_here : (ts : List ℕ) (k v : ℕ) → (length ts ≤ k → v ≡ 0) → slice_index_or (slice_set ts k v) k 0 ≡ v
set_here [] k v h = sym (h (omega arith))
set_here (t ∷ ts) zero v h = refl
set_here (t ∷ ts) (suc k) v h = set_here ts k v (λ le. h (omega (arith, le)))

set_other : (ts : List ℕ) (k s v : ℕ) → k ≢ s → slice_index_or (slice_set ts k v) s 0 ≡ slice_index_or ts s 0
set_other [] k s v off = refl
set_other (t ∷ ts) zero zero v off = absurd (off refl)
set_other (t ∷ ts) zero (suc s) v off = refl
set_other (t ∷ ts) (suc k) zero v off = refl
set_other (t ∷ ts) (suc k) (suc s) v off = set_other ts k s v (λ e. off (ap suc e))

set_length : (ts : List ℕ) (k v : ℕ) → length (slice_set ts k v) ≡ length ts
set_length [] k v = refl
set_length (t ∷ ts) zero v = refl
set_length (t ∷ ts) (suc k) v = ap suc (set_length ts k v)

-- ---- the bodies' own timers

abbrev own : List (Option Body) → ℕ → ℕ
own bodies slot = timer_if false (body_at bodies slot)

no_body : (bodies : List (Option Body)) (k : ℕ) → length bodies ≤ k → own bodies k ≡ 0
no_body [] k le = refl
no_body (o ∷ bodies) zero le = absurd (omega arith)
no_body (o ∷ bodies) (suc k) le = no_body bodies k (omega (arith, le))

own_here : (bodies : List (Option Body)) (ts : List ℕ) (s : ℕ) → length bodies ≡ length ts → slice_index_or (slice_set ts s (own bodies s)) s 0 ≡ own bodies s
own_here bodies ts s len = set_here ts s (own bodies s) (λ le. no_body bodies s (omega (arith, le, len)))

own_kept : (bodies : List (Option Body)) (slots ts : List ℕ) (s : ℕ) → slice_index_or ts s 0 ≡ own bodies s → length bodies ≡ length ts → slice_index_or (own_set bodies slots ts) s 0 ≡ own bodies s
own_kept bodies [] ts s h len = h
own_kept bodies (k ∷ slots) ts s h len =
    own_kept bodies slots (slice_set ts k (own bodies k)) s
    (elim (cases_eq k s) [
      | inl same ↦ subst (λ (n : ℕ). slice_index_or (slice_set ts n (own bodies n)) s 0 ≡ own bodies s) (sym same) (own_here bodies ts s len)
      | inr off ↦ set_other ts k s (own bodies k) off ∙ h
    ])
    (len ∙ sym (set_length ts k (own bodies k)))

own_put : (bodies : List (Option Body)) (slots ts : List ℕ) (s : ℕ) → IsIn s slots → length bodies ≡ length ts → slice_index_or (own_set bodies slots ts) s 0 ≡ own bodies s
own_put bodies [] ts s h len = absurd h
own_put bodies (k ∷ slots) ts s h len =
    let next : List ℕ = slice_set ts k (own bodies k) in
    let long : length bodies ≡ length next = len ∙ sym (set_length ts k (own bodies k)) in
    elim h [
      | inl same ↦ own_kept bodies slots next s (subst (λ (n : ℕ). slice_index_or (slice_set ts n (own bodies n)) s 0 ≡ own bodies s) same (own_here bodies ts s len)) long
      | inr rest ↦ own_put bodies slots next s rest long
    ]

own_length : (bodies : List (Option Body)) (slots ts : List ℕ) → length (own_set bodies slots ts) ≡ length ts
own_length bodies [] ts = refl
own_length bodies (k ∷ slots) ts = own_length bodies slots (slice_set ts k (own bodies k)) ∙ set_length ts k (own bodies k)

-- ---- one timer put to 0

still_at : (moving : Bool) (k s : ℕ) (ts : List ℕ) → slice_index_or (stilled moving k ts) s 0 ≡ cond (cond (k == s) moving false) 0 (slice_index_or ts s 0)
still_at true k s ts = elim (cases_eq k s) [
  | inl same ↦ subst (λ (n : ℕ). slice_index_or (slice_set ts n 0) s 0 ≡ 0) (sym same) (set_here ts s 0 (λ le. refl)) ∙ sym (ap (λ (t : Bool). cond (cond t true false) 0 (slice_index_or ts s 0)) (is_same k s same))
  | inr off ↦ set_other ts k s 0 off ∙ sym (ap (λ (t : Bool). cond (cond t true false) 0 (slice_index_or ts s 0)) (not_same k s off))
]
still_at false k s ts = by (k == s) (slice_index_or ts s 0)
  where
    by : (t : Bool) (x : ℕ) → x ≡ cond (cond t false false) 0 x
    by true x = refl
    by false x = refl

still_length : (moving : Bool) (k : ℕ) (ts : List ℕ) → length (stilled moving k ts) ≡ length ts
still_length true k ts = set_length ts k 0
still_length false k ts = refl

-- ---- a pair of bodies

pair_by : (p q x y : Bool) (n : ℕ) → (p ≡ true → q ≡ true → x ≡ y) → cond (cond q x false) 0 (cond (cond p y false) 0 n) ≡ cond (cond p y (cond q x false)) 0 n
pair_by true true x y n h = rw (h refl refl) (both y n)
  where
    both : (y : Bool) (n : ℕ) → cond y 0 (cond y 0 n) ≡ cond y 0 n
    both true n = refl
    both false n = refl
pair_by true false x y n h = refl
pair_by false true x y n h = refl
pair_by false false x y n h = refl

pair_at : (bodies : List (Option Body)) (a b s : ℕ) (ts : List ℕ) → slice_index_or (stilled_pair bodies a b ts) s 0 ≡ cond (is_stirred_between bodies s a b) 0 (slice_index_or ts s 0)
pair_at bodies a b s ts =
    still_at (is_moving_at bodies a) b s (stilled (is_moving_at bodies b) a ts)
    ∙ ap (λ (n : ℕ). cond (cond (b == s) (is_moving_at bodies a) false) 0 n) (still_at (is_moving_at bodies b) a s ts)
    ∙ pair_by (a == s) (b == s) (is_moving_at bodies a) (is_moving_at bodies b) (slice_index_or ts s 0) (λ p q. ap (is_moving_at bodies) (same_from a s p ∙ sym (same_from b s q)))

pair_length : (bodies : List (Option Body)) (a b : ℕ) (ts : List ℕ) → length (stilled_pair bodies a b ts) ≡ length ts
pair_length bodies a b ts = still_length (is_moving_at bodies a) b (stilled (is_moving_at bodies b) a ts) ∙ still_length (is_moving_at bodies b) a ts

-- ---- constraints

by_at : (bodies : List (Option Body)) (o : Option BodyJoint) (s : ℕ) (ts : List ℕ) → slice_index_or (stilled_by bodies o ts) s 0 ≡ cond (is_joined_to_moving bodies s o) 0 (slice_index_or ts s 0)
by_at bodies None s ts = refl
by_at bodies (Some j) s ts = pair_at bodies j.a j.b s ts

by_length : (bodies : List (Option Body)) (o : Option BodyJoint) (ts : List ℕ) → length (stilled_by bodies o ts) ≡ length ts
by_length bodies None ts = refl
by_length bodies (Some j) ts = pair_length bodies j.a j.b ts

alone_at : (bodies : List (Option Body)) (joints : List (Option BodyJoint)) (s : ℕ) (id : Constraint) (ts : List ℕ) → slice_index_or (stilled_alone bodies joints id ts) s 0 ≡ cond (is_to_moving bodies joints s id) 0 (slice_index_or ts s 0)
alone_at bodies joints s (Joint h) ts = by_at bodies (joint_at joints h.slot) s ts
alone_at bodies joints s (Contact key) ts = pair_at bodies key.first.slot key.second.slot s ts

alone_length : (bodies : List (Option Body)) (joints : List (Option BodyJoint)) (id : Constraint) (ts : List ℕ) → length (stilled_alone bodies joints id ts) ≡ length ts
alone_length bodies joints (Joint h) ts = by_length bodies (joint_at joints h.slot) ts
alone_length bodies joints (Contact key) ts = pair_length bodies key.first.slot key.second.slot ts

tie_at : (bodies : List (Option Body)) (joints : List (Option BodyJoint)) (s : ℕ) (m : Member Constraint) (ts : List ℕ) → slice_index_or (stilled_tie bodies joints m ts) s 0 ≡ cond (ties_to_moving bodies joints s m) 0 (slice_index_or ts s 0)
tie_at bodies joints s m ts = by (is_none m.movers.second)
  where
    by : (t : Bool) → slice_index_or (cond t (stilled_alone bodies joints m.id ts) ts) s 0 ≡ cond (cond t (is_to_moving bodies joints s m.id) false) 0 (slice_index_or ts s 0)
    by true = alone_at bodies joints s m.id ts
    by false = refl

tie_length : (bodies : List (Option Body)) (joints : List (Option BodyJoint)) (m : Member Constraint) (ts : List ℕ) → length (stilled_tie bodies joints m ts) ≡ length ts
tie_length bodies joints m ts = by (is_none m.movers.second)
  where
    by : (t : Bool) → length (cond t (stilled_alone bodies joints m.id ts) ts) ≡ length ts
    by true = alone_length bodies joints m.id ts
    by false = refl

either : (t u : Bool) (n : ℕ) → cond u 0 (cond t 0 n) ≡ cond (t || u) 0 n
either true true n = refl
either true false n = refl
either false true n = refl
either false false n = refl

all_at : (bodies : List (Option Body)) (joints : List (Option BodyJoint)) (s : ℕ) (ms : List (Member Constraint)) (ts : List ℕ) → slice_index_or (stilled_ties bodies joints ms ts) s 0 ≡ cond (list_any (ties_to_moving bodies joints s) ms) 0 (slice_index_or ts s 0)
all_at bodies joints s [] ts = refl
all_at bodies joints s (m ∷ ms) ts =
    all_at bodies joints s ms (stilled_tie bodies joints m ts)
    ∙ ap (λ (n : ℕ). cond (list_any (ties_to_moving bodies joints s) ms) 0 n) (tie_at bodies joints s m ts)
    ∙ either (ties_to_moving bodies joints s m) (list_any (ties_to_moving bodies joints s) ms) (slice_index_or ts s 0)

all_length : (bodies : List (Option Body)) (joints : List (Option BodyJoint)) (ms : List (Member Constraint)) (ts : List ℕ) → length (stilled_ties bodies joints ms ts) ≡ length ts
all_length bodies joints [] ts = refl
all_length bodies joints (m ∷ ms) ts = all_length bodies joints ms (stilled_tie bodies joints m ts) ∙ tie_length bodies joints m ts

or_assoc : (t u v : Bool) → (t || (u || v)) ≡ ((t || u) || v)
or_assoc true u v = refl
or_assoc false u v = refl

any_append : {X : Type 0} (test : X → Bool) (xs ys : List X) → list_any test (xs ++ ys) ≡ (list_any test xs || list_any test ys)
any_append test [] ys = refl
any_append test (x ∷ xs) ys = ap (λ (t : Bool). test x || t) (any_append test xs ys) ∙ or_assoc (test x) (list_any test xs) (list_any test ys)

lists_at : (bodies : List (Option Body)) (joints : List (Option BodyJoint)) (s : ℕ) (lists : List (List (Member Constraint))) (ts : List ℕ)
    → slice_index_or (stilled_lists bodies joints lists ts) s 0 ≡ cond (list_any (ties_to_moving bodies joints s) (all_members lists)) 0 (slice_index_or ts s 0)
lists_at bodies joints s [] ts = refl
lists_at bodies joints s (ms ∷ lists) ts =
    lists_at bodies joints s lists (stilled_ties bodies joints ms ts)
    ∙ ap (λ (n : ℕ). cond (list_any (ties_to_moving bodies joints s) (all_members lists)) 0 n) (all_at bodies joints s ms ts)
    ∙ either (list_any (ties_to_moving bodies joints s) ms) (list_any (ties_to_moving bodies joints s) (all_members lists)) (slice_index_or ts s 0)
    ∙ ap (λ (t : Bool). cond t 0 (slice_index_or ts s 0)) (sym (any_append (ties_to_moving bodies joints s) ms (all_members lists)))

lists_length : (bodies : List (Option Body)) (joints : List (Option BodyJoint)) (lists : List (List (Member Constraint))) (ts : List ℕ) → length (stilled_lists bodies joints lists ts) ≡ length ts
lists_length bodies joints [] ts = refl
lists_length bodies joints (ms ∷ lists) ts = lists_length bodies joints lists (stilled_ties bodies joints ms ts) ∙ all_length bodies joints ms ts

-- ---- colours one after the other

pub lists_step : (bodies : List (Option Body)) (joints : List (Option BodyJoint)) (lists : List (List (Member Constraint))) (i : ℕ) (ts next : List ℕ) → i < length lists → next ≡ stilled_ties bodies joints (list_at lists i) ts
    → stilled_lists bodies joints (drop (i + 1) lists) next ≡ stilled_lists bodies joints (drop i lists) ts
lists_step bodies joints lists i ts next lt e =
    ap (stilled_lists bodies joints (drop (i + 1) lists)) e ∙ sym (ap (λ (l : List (List (Member Constraint))). stilled_lists bodies joints l ts) (drop_is lists i [] lt))

pub lists_last : (bodies : List (Option Body)) (joints : List (Option BodyJoint)) (lists : List (List (Member Constraint))) (i : ℕ) (ts next all : List ℕ) → length lists ≡ i + 1 → next ≡ stilled_ties bodies joints (list_at lists i) ts
    → stilled_lists bodies joints (drop i lists) ts ≡ all → next ≡ all
lists_last bodies joints lists i ts next all len e h =
    sym (ap (λ (l : List (List (Member Constraint))). stilled_lists bodies joints l next) (drop_past lists (i + 1) (omega (arith, len))))
    ∙ lists_step bodies joints lists i ts next (omega (arith, len)) e ∙ h

-- ---- the definition

none_zero : (t : Bool) → timer_if t None ≡ 0
none_zero true = refl
none_zero false = refl

timers_here : (beside : ℕ → Bool) (n k m : ℕ) (bodies : List (Option Body)) → m ≡ n + k → slice_index_or (timers_from beside n bodies) k 0 ≡ timer_if (beside m) (body_at bodies k)
timers_here beside n k m [] e = sym (none_zero (beside m))
timers_here beside n zero m (o ∷ bodies) e = let here : n ≡ m = omega (arith, e) in ap (λ (v : ℕ). timer_if (beside v) o) here
timers_here beside n (suc k) m (o ∷ bodies) e = timers_here beside (suc n) k m bodies (omega (arith, e))

zero_if : (t : Bool) (o : Option Body) → cond t 0 (timer_if false o) ≡ timer_if t o
zero_if true None = refl
zero_if true (Some b) = refl
zero_if false o = refl

pub awake_timer : (bodies : List (Option Body)) (joints : List (Option BodyJoint)) (contacts : List ContactEntry) (labels : Labels) (awake : List ℕ) (lists : List (List (Member Constraint))) (first own_put_in now : List ℕ)
    → length first ≡ length bodies → own_put_in ≡ own_set bodies awake first → now ≡ stilled_lists bodies joints lists own_put_in → ShowMoving bodies joints contacts labels lists
    → (slot : ℕ) → is_mover_awake labels slot ≡ true → Contains awake slot → slice_index_or now slot 0 ≡ slice_index_or (timers_of bodies joints contacts) slot 0
unfolding timers_of
awake_timer bodies joints contacts labels awake lists first own_put_in now len put still tell slot up listed =
    ap (λ (ts : List ℕ). slice_index_or ts slot 0) still
    ∙ lists_at bodies joints slot lists own_put_in
    ∙ ap (λ (n : ℕ). cond (list_any (ties_to_moving bodies joints slot) (all_members lists)) 0 n) (ap (λ (ts : List ℕ). slice_index_or ts slot 0) put ∙ own_put bodies awake first slot (in_from_contains awake slot listed) (sym len))
    ∙ ap (λ (t : Bool). cond t 0 (own bodies slot)) (tell slot up)
    ∙ zero_if (is_beside_moving bodies joints contacts slot) (body_at bodies slot)
    ∙ sym (timers_here (is_beside_moving bodies joints contacts) 0 slot slot bodies (omega arith))

pub awake_size : (bodies : List (Option Body)) (joints : List (Option BodyJoint)) (awake : List ℕ) (lists : List (List (Member Constraint))) (first own_put_in now : List ℕ)
    → length first ≡ length bodies → own_put_in ≡ own_set bodies awake first → now ≡ stilled_lists bodies joints lists own_put_in → length now ≡ length bodies
awake_size bodies joints awake lists first own_put_in now len put still =
    ap (λ (ts : List ℕ). length ts) still ∙ lists_length bodies joints lists own_put_in ∙ ap (λ (ts : List ℕ). length ts) put ∙ own_length bodies awake first ∙ len
