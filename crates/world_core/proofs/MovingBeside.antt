-- Movers that touch a kinematic body that moves, or are joined to one, keep their islands from being ready.
use Rattle.std.proofs.Common.{◌≡◌, ℕ, zero, suc, ◌||◌, Bool, true, false, cond, is_some, List, [], ◌∷◌, Option, Some, None, refl, sym, ap, ◌∙◌, arith}
use Rattle.std.specs.Prelude.{◌==◌, slice_get}
use Rattle.std.specs.List.{list_any}
use Rattle.std.proofs.lemmas.Bool.{eq-eqb, eqb-true}
use Rattle.contacts_base.specs.declared.contact.ContactEntry.{ContactEntry}
use Rattle.contacts_base.specs.declared.key.ContactKey.{ContactKey}
use Rattle.contacts_base.specs.Contacts.{lookup, number_of}
use Rattle.contacts_base.specs.Keys.{key_number}
use Rattle.contacts_base.specs.Evaluate.{touches}
use Rattle.islands.specs.declared.label.Label.{Label}
use Rattle.islands.specs.Labels.{Labels, label_at}
use Rattle.plain_world.specs.declared.body.Body.{Body}
use Rattle.plain_world.specs.declared.joint.BodyJoint.{BodyJoint}
use Rattle.plain_world.specs.Slots.{body_at, item_at}
use Rattle.sleep_wake.specs.Resting.{may_be_ready}
use Rattle.solver_sets.specs.Beside.{is_beside_moving, is_joined_to_moving, is_moving_at, is_stirred_between, is_touched_by_moving, timer_if, timers_of}
use Rattle.solver_sets.specs.Tied.{AreTied}
use Rattle.world_core.specs.Quiet.{HasFlagged, IsShort, KeepFlags, flagged_by, flagged_joined, flagged_pair, flagged_touched}
use Rattle.world_core.proofs.QuietSteps.{flags_keep, mover_there, timers_at}

-- ---- who is beside a body that moves

beside_here : (bodies : List (Option Body)) (a b : ℕ) → is_moving_at bodies b ≡ true → is_stirred_between bodies a a b ≡ true
beside_here bodies a b h = ap (λ (t : Bool). cond t (is_moving_at bodies b) (cond (b == a) (is_moving_at bodies a) false)) (eq-eqb a a refl) ∙ h

beside_there : (bodies : List (Option Body)) (a b : ℕ) → is_moving_at bodies a ≡ true → is_stirred_between bodies b a b ≡ true
beside_there bodies a b h = by (a == b) refl
  where
    by : (t : Bool) → (a == b) ≡ t → is_stirred_between bodies b a b ≡ true
    by true e = ap (λ (u : Bool). cond u (is_moving_at bodies b) (cond (b == b) (is_moving_at bodies a) false)) e ∙ ap (is_moving_at bodies) (sym (eqb-true a b e)) ∙ h
    by false e =
        ap (λ (u : Bool). cond u (is_moving_at bodies b) (cond (b == b) (is_moving_at bodies a) false)) e
        ∙ ap (λ (u : Bool). cond u (is_moving_at bodies a) false) (eq-eqb b b refl) ∙ h

or_true : (t : Bool) → (t || true) ≡ true
or_true true = refl
or_true false = refl

any_at : {X : Type 0} (test : X → Bool) (xs : List X) (k : ℕ) (x : X) → slice_get xs k ≡ Some x → test x ≡ true → list_any test xs ≡ true
any_at test [] k x e h = cc
any_at test (y ∷ ys) zero x e h = let same : y ≡ x = cc in ap (λ (t : Bool). t || list_any test ys) (ap test same ∙ h)
any_at test (y ∷ ys) (suc k) x e h = ap (λ (t : Bool). test y || t) (any_at test ys k x e h) ∙ or_true (test y)

any_if : (test : ContactEntry → Bool) (t : Bool) (e : ContactEntry) (es : List ContactEntry) (k : ContactKey) (x : ContactEntry) → (lookup es k ≡ Some x → list_any test es ≡ true) → cond t (Some e) (lookup es k) ≡ Some x → test x ≡ true → list_any test (e ∷ es) ≡ true
any_if test true e es k x later is h = let same : e ≡ x = cc in ap (λ (t : Bool). t || list_any test es) (ap test same ∙ h)
any_if test false e es k x later is h = ap (λ (t : Bool). test e || t) (later is) ∙ or_true (test e)

-- the contact with a key is one of the list
any_with : (test : ContactEntry → Bool) (es : List ContactEntry) (k : ContactKey) (x : ContactEntry) → lookup es k ≡ Some x → test x ≡ true → list_any test es ≡ true
any_with test [] k x is h = cc
any_with test (e ∷ es) k x is h = any_if test (number_of e == key_number k) e es k x (λ a. any_with test es k x a h) is h

item_there : {X : Type 0} (items : List (Option X)) (slot : ℕ) (x : X) → item_at items slot ≡ Some x → slice_get items slot ≡ Some (Some x)
item_there [] slot x e = cc
item_there (o ∷ os) zero x e = ap Some e
item_there (o ∷ os) (suc slot) x e = item_there os slot x e

joined_beside : (bodies : List (Option Body)) (joints : List (Option BodyJoint)) (contacts : List ContactEntry) (slot k : ℕ) (j : BodyJoint) → item_at joints k ≡ Some j → is_stirred_between bodies slot j.a j.b ≡ true → is_beside_moving bodies joints contacts slot ≡ true
unfolding is_beside_moving
joined_beside bodies joints contacts slot k j e h = ap (λ (t : Bool). t || list_any (is_touched_by_moving bodies slot) contacts) (any_at (is_joined_to_moving bodies slot) joints k (Some j) (item_there joints k j e) h)

touched_beside : (bodies : List (Option Body)) (joints : List (Option BodyJoint)) (contacts : List ContactEntry) (slot : ℕ) (k : ContactKey) (x : ContactEntry) → lookup contacts k ≡ Some x → touches x.contact ≡ true → is_stirred_between bodies slot x.key.first.slot x.key.second.slot ≡ true
    → is_beside_moving bodies joints contacts slot ≡ true
unfolding is_beside_moving
touched_beside bodies joints contacts slot k x e touch h =
    let here : is_touched_by_moving bodies slot x ≡ true = ap (λ (t : Bool). cond t (is_stirred_between bodies slot x.key.first.slot x.key.second.slot) false) touch ∙ h in
    ap (λ (t : Bool). list_any (is_joined_to_moving bodies slot) joints || t) (any_with (is_touched_by_moving bodies slot) contacts k x e here) ∙ or_true (list_any (is_joined_to_moving bodies slot) joints)

-- a mover beside one that moves has a timer of 0
beside_short : (labels : Labels) (bodies : List (Option Body)) (joints : List (Option BodyJoint)) (contacts : List ContactEntry) (slot : ℕ) (l : Label) → AreTied bodies labels → label_at labels slot ≡ Some l → is_beside_moving bodies joints contacts slot ≡ true
    → IsShort (timers_of bodies joints contacts) slot
unfolding timers_of
beside_short labels bodies joints contacts slot l tied e beside =
    let there = mover_there (body_at bodies slot) (sym (tied slot) ∙ ap (λ (o : Option Label). is_some o) e) in
    ap may_be_ready (timers_at (is_beside_moving bodies joints contacts) 0 slot slot bodies there.0 (omega arith) there.1) ∙ ap (λ (t : Bool). may_be_ready (Some (timer_if t (Some there.0)))) beside

-- ---- flags

flags_on : (t : Bool) (names : List ℕ) (labels : Labels) (timers : List ℕ) (flags : List Bool) (slot : ℕ) (o : Option Label) → label_at labels slot ≡ o → (t ≡ true → (l : Label) → o ≡ Some l → IsShort timers slot) → HasFlagged names labels timers flags → HasFlagged names labels timers (cond t (flagged_by o flags) flags)
flags_on false names labels timers flags slot o e short has = has
flags_on true names labels timers flags slot None e short has = has
flags_on true names labels timers flags slot (Some l) e short has = flags_keep names labels timers flags slot (Some l) e (short refl l refl) has

pair_keeps : (names : List ℕ) (labels : Labels) (timers : List ℕ) (bodies : List (Option Body)) (a b : ℕ) (flags : List Bool) → (is_moving_at bodies b ≡ true → (l : Label) → label_at labels a ≡ Some l → IsShort timers a)
    → (is_moving_at bodies a ≡ true → (l : Label) → label_at labels b ≡ Some l → IsShort timers b) → HasFlagged names labels timers flags → HasFlagged names labels timers (flagged_pair labels bodies a b flags)
pair_keeps names labels timers bodies a b flags first second has =
    flags_on (is_moving_at bodies a) names labels timers (cond (is_moving_at bodies b) (flagged_by (label_at labels a) flags) flags) b (label_at labels b) refl second
    (flags_on (is_moving_at bodies b) names labels timers flags a (label_at labels a) refl first has)

joined_keeps : (names : List ℕ) (labels : Labels) (bodies : List (Option Body)) (joints : List (Option BodyJoint)) (contacts : List ContactEntry) (slot : ℕ) (o : Option BodyJoint) (flags : List Bool) → AreTied bodies labels → item_at joints slot ≡ o
    → HasFlagged names labels (timers_of bodies joints contacts) flags → HasFlagged names labels (timers_of bodies joints contacts) (flagged_joined labels bodies o flags)
joined_keeps names labels bodies joints contacts slot None flags tied e has = has
joined_keeps names labels bodies joints contacts slot (Some j) flags tied e has =
    pair_keeps names labels (timers_of bodies joints contacts) bodies j.a j.b flags
    (λ h l at. beside_short labels bodies joints contacts j.a l tied at (joined_beside bodies joints contacts j.a slot j e (beside_here bodies j.a j.b h)))
    (λ h l at. beside_short labels bodies joints contacts j.b l tied at (joined_beside bodies joints contacts j.b slot j e (beside_there bodies j.a j.b h))) has

touched_if : (t : Bool) (names : List ℕ) (labels : Labels) (bodies : List (Option Body)) (joints : List (Option BodyJoint)) (contacts : List ContactEntry) (key : ContactKey) (x : ContactEntry) (flags : List Bool) → AreTied bodies labels → lookup contacts key ≡ Some x → touches x.contact ≡ t
    → HasFlagged names labels (timers_of bodies joints contacts) flags → HasFlagged names labels (timers_of bodies joints contacts) (cond t (flagged_pair labels bodies x.key.first.slot x.key.second.slot flags) flags)
touched_if false names labels bodies joints contacts key x flags tied e touch has = has
touched_if true names labels bodies joints contacts key x flags tied e touch has =
    let a : ℕ = x.key.first.slot in
    let b : ℕ = x.key.second.slot in
    pair_keeps names labels (timers_of bodies joints contacts) bodies a b flags
    (λ h l at. beside_short labels bodies joints contacts a l tied at (touched_beside bodies joints contacts a key x e touch (beside_here bodies a b h)))
    (λ h l at. beside_short labels bodies joints contacts b l tied at (touched_beside bodies joints contacts b key x e touch (beside_there bodies a b h))) has

touched_keeps : (names : List ℕ) (labels : Labels) (bodies : List (Option Body)) (joints : List (Option BodyJoint)) (contacts : List ContactEntry) (key : ContactKey) (o : Option ContactEntry) (flags : List Bool) → AreTied bodies labels → lookup contacts key ≡ o
    → HasFlagged names labels (timers_of bodies joints contacts) flags → HasFlagged names labels (timers_of bodies joints contacts) (flagged_touched labels bodies o flags)
touched_keeps names labels bodies joints contacts key None flags tied e has = has
touched_keeps names labels bodies joints contacts key (Some x) flags tied e has = touched_if (touches x.contact) names labels bodies joints contacts key x flags tied e refl has

pub keep_flags : (labels : Labels) (bodies : List (Option Body)) (joints : List (Option BodyJoint)) (contacts : List ContactEntry) → AreTied bodies labels → KeepFlags labels bodies joints contacts (timers_of bodies joints contacts)
keep_flags labels bodies joints contacts tied = record {
  joined = λ names slot flags has. joined_keeps names labels bodies joints contacts slot (item_at joints slot) flags tied refl has;
  touched = λ names key flags has. touched_keeps names labels bodies joints contacts key (lookup contacts key) flags tied refl has;
}
