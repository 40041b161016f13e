-- Bodies told in some slots alone: where all others stay as they are when they are told, all are told.
use Rattle.std.proofs.Common.{◌≡◌, ℕ, zero, suc, ◌+◌, ◌*◌, ◌^◌, ◌<◌, ◌≤◌, Bool, true, false, cond, List, [], ◌∷◌, length, get_or, slice_set, drop, Option, Some, None, pos, ◌+ℤ◌, ◌-ℤ◌, arith, refl, sym, ap, ◌∙◌, subst, add-one, inl, inr}
use Rattle.std.specs.Prelude.{◌≢◌, Contains, is_some, option_map}
use Rattle.std.specs.Option.{ForSome}
use Rattle.std.proofs.lemmas.Bool.{cases_eq}
use Rattle.std.proofs.lemmas.List.{drop_all, length-set}
use Rattle.std.proofs.lemmas.Option.{slice_get-get_or}
use Rattle.std.proofs.Math.Seq.{drop-cons}
use Rattle.fixed_geom.specs.Vectors.{minus, plus}
use Rattle.fixed_geom.specs.declared.vectors.Vec2.{Vec2}
use Rattle.fixed_geom.proofs.Sizes.{sum_le}
use Rattle.momenta.specs.Gains.{IsGain}
use Rattle.momenta.specs.declared.gain.Gain.{Gain}
use Rattle.momenta.specs.declared.state.BodyState.{BodyState}
use Rattle.islands.specs.Labels.{Labels, label_at, sleeping_name}
use Rattle.islands.specs.declared.label.Label.{Label}
use Rattle.islands.proofs.JoinLemmas.{contains_cases}
use Rattle.colour_solver.specs.States.{as_vector, moves}
use Rattle.colour_solver.proofs.VectorLaws.{plus_assoc, plus_zero, same_vector}
use Rattle.plain_world.specs.declared.body.Body.{Body}
use Rattle.plain_world.specs.Bodies.{AreBodies, IsBody, is_mover}
use Rattle.plain_world.specs.Momentum.{momentum, momentum_in}
use Rattle.plain_world.specs.Sleep.{roused, told, told_body, told_by, told_from}
use Rattle.plain_world.specs.Slots.{body_at}
use Rattle.world_core_base.specs.Gather.{state_of, states_of}
use Rattle.world_core_base.specs.Listing.{AreListed, AreSameBut, Listing}
use Rattle.world_core_base.specs.Telling.{AreToldBeside}
use Rattle.world_core_base.proofs.ListingLaws.{same_set}
use Rattle.world_core_base.proofs.TableLaws.{states-set}
use Rattle.world_core_base.proofs.TellLaws.{momentum-put, told_entry_body}

-- ---- a body that is told twice

mover_by : (o : Option ℕ) (b : Body) → is_mover (told_by o b) ≡ is_mover b
mover_by (Some name) b = refl
mover_by None b = by (is_some b.asleep)
  where
    by : (t : Bool) → is_mover (cond t (roused b) b) ≡ is_mover b
    by true = refl
    by false = refl

twice_by : (o : Option ℕ) (b : Body) → told_by o (told_by o b) ≡ told_by o b
twice_by (Some name) b = refl
twice_by None b = by (is_some b.asleep) refl
  where
    by : (t : Bool) → is_some b.asleep ≡ t → told_by None (cond t (roused b) b) ≡ cond t (roused b) b
    by true e = refl
    by false e = ap (λ (t : Bool). cond t (roused b) b) e

twice_body : (label : Option Label) (b : Body) → told_body label (told_body label b) ≡ told_body label b
twice_body label b = by (is_mover b) refl
  where
    by : (t : Bool) → is_mover b ≡ t → told_body label (cond t (told_by (sleeping_name label) b) b) ≡ cond t (told_by (sleeping_name label) b) b
    by true e =
        let now : Body = told_by (sleeping_name label) b in
        ap (λ (t : Bool). cond t (told_by (sleeping_name label) now) now) (mover_by (sleeping_name label) b ∙ e) ∙ twice_by (sleeping_name label) b
    by false e = ap (λ (t : Bool). cond t (told_by (sleeping_name label) b) b) e

twice_entry : (label : Option Label) (o : Option Body) → option_map (told_body label) (option_map (told_body label) o) ≡ option_map (told_body label) o
twice_entry label None = refl
twice_entry label (Some b) = ap Some (twice_body label b)

-- ---- the body in one slot is told

abbrev told_one : Option Label → ℕ → List (Option Body) → List (Option Body)
told_one label slot bodies = slice_set bodies slot (option_map (told_body label) (get_or bodies slot None))

told_from_one : (labels : Labels) (n k : ℕ) (bodies : List (Option Body)) (i : ℕ) → k ≡ n + i → told_from n labels (told_one (label_at labels k) i bodies) ≡ told_from n labels bodies
told_from_one labels n k [] i e = refl
told_from_one labels n k (o ∷ os) zero e =
    let here : n ≡ k = omega (arith, e) in
    let rest : List (Option Body) = told_from (suc n) labels os in
    subst (λ (m : ℕ). (option_map (told_body (label_at labels n)) (option_map (told_body (label_at labels m)) o) ∷ rest) ≡ (option_map (told_body (label_at labels n)) o ∷ rest)) here (ap (λ (p : Option Body). p ∷ rest) (twice_entry (label_at labels n) o))
told_from_one labels n k (o ∷ os) (suc i) e = ap (λ (l : List (Option Body)). option_map (told_body (label_at labels n)) o ∷ l) (told_from_one labels (suc n) k os i (omega (arith, e)))

told_one_more : (labels : Labels) (slot : ℕ) (bodies : List (Option Body)) → told labels (told_one (label_at labels slot) slot bodies) ≡ told labels bodies
unfolding told
told_one_more labels slot bodies = told_from_one labels 0 slot bodies slot (omega arith)

one_here : (label : Option Label) (bodies : List (Option Body)) (slot : ℕ) → body_at (told_one label slot bodies) slot ≡ option_map (told_body label) (body_at bodies slot)
one_here label [] slot = refl
one_here label (o ∷ os) zero = refl
one_here label (o ∷ os) (suc slot) = one_here label os slot

one_beside : (label : Option Label) (bodies : List (Option Body)) (slot other : ℕ) → other ≢ slot → body_at (told_one label slot bodies) other ≡ body_at bodies other
one_beside label [] slot other off = refl
one_beside label (o ∷ os) zero zero off = absurd (off refl)
one_beside label (o ∷ os) zero (suc other) off = refl
one_beside label (o ∷ os) (suc slot) zero off = refl
one_beside label (o ∷ os) (suc slot) (suc other) off = one_beside label os slot other (λ e. off (ap suc e))

-- one slot less is to be told
beside_next : (labels : Labels) (slot : ℕ) (slots : List ℕ) (bodies : List (Option Body)) → AreToldBeside (slot ∷ slots) labels bodies → AreToldBeside slots labels (told_one (label_at labels slot) slot bodies)
beside_next labels slot slots bodies others s off = elim (cases_eq s slot) [
  | inl same ↦
      let here : body_at (told_one (label_at labels slot) slot bodies) slot ≡ option_map (told_body (label_at labels slot)) (body_at bodies slot) = one_here (label_at labels slot) bodies slot in
      subst (λ (k : ℕ). option_map (told_body (label_at labels k)) (body_at (told_one (label_at labels slot) slot bodies) k) ≡ body_at (told_one (label_at labels slot) slot bodies) k) (sym same)
      (ap (option_map (told_body (label_at labels slot))) here ∙ twice_entry (label_at labels slot) (body_at bodies slot) ∙ sym here)
  | inr apart ↦
      let stays : body_at (told_one (label_at labels slot) slot bodies) s ≡ body_at bodies s = one_beside (label_at labels slot) bodies slot s apart in
      ap (option_map (told_body (label_at labels s))) stays ∙ others s (λ h. elim (contains_cases slot slots s h) [ inl e ↦ apart (sym e) | inr k ↦ off k ]) ∙ sym stays
]

-- nothing is left to tell
still_from : (labels : Labels) (n : ℕ) (bodies : List (Option Body)) → ((k slot : ℕ) → k ≡ n + slot → option_map (told_body (label_at labels k)) (body_at bodies slot) ≡ body_at bodies slot) → told_from n labels bodies ≡ bodies
still_from labels n [] h = refl
still_from labels n (o ∷ os) h = λ j. h n zero (omega arith) j ∷ still_from labels (suc n) os (λ k slot e. h k (suc slot) (omega (arith, e))) j

none_contained : (s : ℕ) → Contains [] s → ⊥
none_contained s h = omega (arith, h.1)

still_told : (labels : Labels) (bodies : List (Option Body)) → AreToldBeside [] labels bodies → told labels bodies ≡ bodies
unfolding told
still_told labels bodies others = still_from labels 0 bodies (λ k slot e. let same : slot ≡ k = omega (arith, e) in subst (λ (m : ℕ). option_map (told_body (label_at labels m)) (body_at bodies slot) ≡ body_at bodies slot) same (others slot (none_contained slot)))

-- ---- what one slot leaves

are_bodies : (label : Option Label) (bodies : List (Option Body)) (slot : ℕ) → AreBodies bodies → AreBodies (told_one label slot bodies)
are_bodies label [] slot all k b e = all k b e
are_bodies label (o ∷ os) zero all zero b e = told_entry_body label o (λ a f. all zero a (ap Some f)) b (cc)
are_bodies label (o ∷ os) zero all (suc k) b e = all (suc k) b e
are_bodies label (o ∷ os) (suc slot) all zero b e = all zero b e
are_bodies label (o ∷ os) (suc slot) all (suc k) b e = are_bodies label os slot (λ m c f. all (suc m) c f) k b e

-- what stood in a slot that is there
pub body_there : (bodies : List (Option Body)) (slot : ℕ) → AreBodies bodies → slot < length bodies → ForSome (get_or bodies slot None) IsBody
body_there bodies slot all h b e = all slot b (slice_get-get_or bodies slot None h ∙ ap Some e)

-- a slot is told
pub record IsToldOne (label : Option Label) (slot : ℕ) (before os : List (Option Body)) (ss : List BodyState) (aw : Listing) (gained : Gain) : Type 0 where
  pub bodies : os ≡ told_one label slot before
  pub states : ss ≡ states_of os
  pub awake : AreListed moves ss aw
  pub momentum : momentum os ≡ plus (momentum before) (as_vector gained)

pub told_here : (label : Option Label) (slot : ℕ) (before os : List (Option Body)) (ss ss_after : List BodyState) (aw aw_after : Listing) (gained : Gain) → slot < length before → ss ≡ states_of before → AreListed moves ss aw
    → os ≡ told_one label slot before → ss_after ≡ slice_set ss slot (state_of (option_map (told_body label) (get_or before slot None)))
    → gained.x ≡ (momentum_in (option_map (told_body label) (get_or before slot None))).x -ℤ (momentum_in (get_or before slot None)).x → gained.y ≡ (momentum_in (option_map (told_body label) (get_or before slot None))).y -ℤ (momentum_in (get_or before slot None)).y
    → (AreSameBut slot ss ss_after → AreListed moves ss aw → AreListed moves ss_after aw_after) → IsToldOne label slot before os ss_after aw_after gained
told_here label slot before os ss ss_after aw aw_after gained h e f puts renews gains_x gains_y lists =
    let o : Option Body = option_map (told_body label) (get_or before slot None) in
    let gains : as_vector gained ≡ minus (momentum_in o) (momentum_in (get_or before slot None)) = same_vector _ _ gains_x gains_y in
    record {
      bodies = puts;
      states = renews ∙ ap (λ (l : List BodyState). slice_set l slot (state_of o)) e ∙ states-set before slot o ∙ ap states_of (sym puts);
      awake = lists (subst (AreSameBut slot ss) (sym renews) (same_set ss slot (state_of o))) f;
      momentum = ap momentum puts ∙ (momentum-put before slot o None h ∙ ap (plus (momentum before)) (sym gains));
    }

-- ---- the loop

-- the slots before the place are told, and those behind it are all that are left
pub record HasToldSome (labels : Labels) (slots : List ℕ) (all : List (Option Body)) (first : ℕ) (place : ℕ) (os : List (Option Body)) (ss : List BodyState) (aw : Listing) (wide : ℕ) (gained : Gain) : Type 0 where
  pub told : told labels os ≡ told labels all
  pub others : AreToldBeside (drop place slots) labels os
  pub bodies : AreBodies os
  pub long : length os ≡ length all
  pub states : ss ≡ states_of os
  pub awake : AreListed moves ss aw
  pub room : wide ≡ first
  pub momentum : momentum os ≡ plus (momentum all) (as_vector gained)
  pub small : IsGain (place * 2 ^ 62) gained

pub some_first : (labels : Labels) (slots : List ℕ) (all : List (Option Body)) (ss : List BodyState) (aw : Listing) (room : ℕ) → AreBodies all → ss ≡ states_of all → AreListed moves ss aw → AreToldBeside slots labels all
    → HasToldSome labels slots all room 0 all ss aw room (record { x = pos 0; y = pos 0 })
some_first labels slots all ss aw room bodies e f others = record {
  told = refl;
  others = others;
  bodies = bodies;
  long = refl;
  states = e;
  awake = f;
  room = refl;
  momentum = sym (plus_zero (momentum all));
  small = record { x = omega arith; y = omega arith };
}

pub some_more : (labels : Labels) (slots : List ℕ) (all : List (Option Body)) (first place slot d : ℕ) (os os_after : List (Option Body)) (ss ss_after : List BodyState) (aw aw_after : Listing) (room room_after : ℕ) (gained more sum : Gain)
    → place < length slots → slot ≡ get_or slots place d → HasToldSome labels slots all first place os ss aw room gained
    → os_after ≡ told_one (label_at labels slot) slot os → ss_after ≡ states_of os_after → AreListed moves ss_after aw_after → room_after ≡ room
    → momentum os_after ≡ plus (momentum os) (as_vector more) → IsGain (2 ^ 62) more → sum.x ≡ gained.x +ℤ more.x → sum.y ≡ gained.y +ℤ more.y
    → HasToldSome labels slots all first (place + 1) os_after ss_after aw_after room_after sum
some_more labels slots all first place slot d os os_after ss ss_after aw aw_after room room_after gained more sum lt at known puts states awake grows gains small sum_x sum_y =
    let split : drop place slots ≡ slot ∷ drop (suc place) slots = drop-cons slots place d lt ∙ ap (λ (s : ℕ). s ∷ drop (suc place) slots) (sym at) in
    let before : AreToldBeside (slot ∷ drop (suc place) slots) labels os = subst (λ (l : List ℕ). AreToldBeside l labels os) split known.others in
    let after : AreToldBeside (drop (suc place) slots) labels (told_one (label_at labels slot) slot os) = beside_next labels slot (drop (suc place) slots) os before in
    let sums : as_vector sum ≡ plus (as_vector gained) (as_vector more) = same_vector _ _ sum_x sum_y in
    let wide = known.room in
    rw add-one (record {
      told = ap (told labels) puts ∙ told_one_more labels slot os ∙ known.told;
      others = subst (AreToldBeside (drop (suc place) slots) labels) (sym puts) after;
      bodies = subst AreBodies (sym puts) (are_bodies (label_at labels slot) os slot known.bodies);
      long = ap length puts ∙ length-set os slot (option_map (told_body (label_at labels slot)) (get_or os slot None)) ∙ known.long;
      states = states;
      awake = awake;
      room = grows ∙ wide;
      momentum = gains ∙ (ap (λ (v : Vec2). plus v (as_vector more)) known.momentum ∙ (sym (plus_assoc (momentum all) (as_vector gained) (as_vector more)) ∙ ap (plus (momentum all)) (sym sums)));
      small = record {
        x = let s = sum_le gained.x more.x (place * 2 ^ 62) (2 ^ 62) known.small.x small.x in rw sum_x (omega (arith, s));
        y = let s = sum_le gained.y more.y (place * 2 ^ 62) (2 ^ 62) known.small.y small.y in rw sum_y (omega (arith, s));
      };
    })

pub some_last : (labels : Labels) (slots : List ℕ) (all : List (Option Body)) (first place : ℕ) (os : List (Option Body)) (ss : List BodyState) (aw : Listing) (room : ℕ) (gained : Gain) → length slots ≤ place → HasToldSome labels slots all first place os ss aw room gained → os ≡ told labels all
some_last labels slots all first place os ss aw room gained h known =
    let none : AreToldBeside [] labels os = subst (λ (l : List ℕ). AreToldBeside l labels os) (drop_all place slots h) known.others in
    sym (still_told labels os none) ∙ known.told
