-- Constraints that begin and end while their movers are awake tell no body anything: who sleeps does so as before.
use Rattle.std.proofs.Common.{◌≡◌, ℕ, suc, List, [], ◌∷◌, All, get_or, Bool, true, false, cond, Option, Some, None, inl, inr, refl, sym, ap, ◌∙◌, subst}
use Rattle.std.specs.Prelude.{Contains, ◌||◌, option_map}
use Rattle.std.proofs.lemmas.List.Elements.{All-head, All-tail, All-weaker, Contains-get_or}
use Rattle.std.specs.Option.{option_map_or}
use Rattle.graph_colours.specs.declared.member.Member.{Member}
use Rattle.graph_colours.specs.declared.member.Movers.{Movers}
use Rattle.plain_world.specs.Constraints.{constraint_number}
use Rattle.plain_world.specs.declared.constraint.Constraint.{Constraint}
use Rattle.islands.specs.declared.label.IslandState.TheVariants.{Whole, Loose}
use Rattle.islands.specs.declared.label.Label.{Label}
use Rattle.islands.specs.Labels.{Labels, is_loose, label_at, loosened, merged, merged_by, relabelled, sleeping_name, union_label, with_state}
use Rattle.islands.specs.Partition.{IsPartition}
use Rattle.islands.proofs.LabelLemmas.{either_case, either_to, merged_partition, others_stay}
use Rattle.plain_world.specs.declared.body.Body.{Body}
use Rattle.plain_world.specs.Bodies.{is_mover}
use Rattle.plain_world.specs.Sleep.{told, told_body, told_by, told_from}
use Rattle.sleep_wake.specs.Acting.{Acting, are_awake, awake_label, is_mover_awake}
use Rattle.sleep_wake.specs.Changes.{begun, each_begun, ended, parted, united}
use Rattle.sleep_wake.proofs.AwakeLemmas.{and_is, parted_awake, same_awake, united_awake}
use Rattle.solver_sets.specs.Ties.{begun_with, ended_with}
use Rattle.world_rules.specs.Sets.{acting_of}
use Rattle.world_rules.specs.World.{World}
use Rattle.world_rules.proofs.ActingLaws.{awake_name, told_kept}
use Rattle.world_rules.proofs.SoundLaws.{IsKept}

-- ---- labels under which the same sleep

-- who sleeps, and under which name, is the same by both
abbrev pub SleepAlike : Labels → Labels → Type 0
SleepAlike old new = (slot : ℕ) → sleeping_name (label_at new slot) ≡ sleeping_name (label_at old slot)

told_alike_body : (first second : Option Label) (b : Body) → sleeping_name second ≡ sleeping_name first → told_body second b ≡ told_body first b
told_alike_body first second b e = ap (λ (n : Option ℕ). cond (is_mover b) (told_by n b) b) e

told_alike_entry : (first second : Option Label) (o : Option Body) → sleeping_name second ≡ sleeping_name first → option_map (told_body second) o ≡ option_map (told_body first) o
told_alike_entry first second None e = refl
told_alike_entry first second (Some b) e = ap Some (told_alike_body first second b e)

told_alike_from : (n : ℕ) (old new : Labels) (bodies : List (Option Body)) → SleepAlike old new → told_from n new bodies ≡ told_from n old bodies
told_alike_from n old new [] same = refl
told_alike_from n old new (o ∷ bodies) same =
    let one = told_alike_entry (label_at old n) (label_at new n) o (same n) in
    let rest = told_alike_from (suc n) old new bodies same in
    λ j. one j ∷ rest j

-- both tell the bodies the same
pub told_by_alike : (old new : Labels) (bodies : List (Option Body)) → SleepAlike old new → told new bodies ≡ told old bodies
unfolding told
told_by_alike old new bodies same = told_alike_from 0 old new bodies same

-- the bodies of a kept world stay as they are under labels by which the same sleep
pub told_quietly : (w : World) (labels : Labels) → IsKept w → SleepAlike w.plain.islands labels → told labels w.plain.bodies ≡ w.plain.bodies
told_quietly w labels k same = told_by_alike w.plain.islands labels w.plain.bodies same ∙ told_kept w k

-- ---- labels of movers that are awake

pub labelled_up : (o : Option Label) → awake_label o ≡ true → (l : Label) × (o ≡ Some l)
labelled_up None h = cc
labelled_up (Some l) h = (l, refl)

-- a label that is awake before and after tells nothing
both_up : (old new : Option Label) → awake_label old ≡ true → awake_label new ≡ true → sleeping_name new ≡ sleeping_name old
both_up old new h k = awake_name new k ∙ sym (awake_name old h)

union_up : (t : Bool) (name : ℕ) → awake_label (Some (record { name = name; state = cond t Loose Whole })) ≡ true
union_up true name = refl
union_up false name = refl

-- ---- two islands that are awake become one

merged_alike : (labels : Labels) (a b : ℕ) (x y : Label) → label_at labels a ≡ Some x → label_at labels b ≡ Some y → ((k : ℕ) → is_mover_awake (merged labels a b) k ≡ is_mover_awake labels k) → SleepAlike labels (merged labels a b)
unfolding merged
merged_alike labels a b x y e f same k =
    let here : label_at (merged labels a b) k ≡ label_at (relabelled x.name y.name (union_label x y) labels) k = λ j. label_at (merged_by (e j) (f j) labels) k in
    elim (either_case x.name y.name (label_at labels k)) [
      | inl q ↦
          let now : awake_label (label_at (merged labels a b) k) ≡ true = ap awake_label (here ∙ either_to x.name y.name (union_label x y) labels k q) ∙ union_up (is_loose x.state || is_loose y.state) (union_label x y).name in
          both_up (label_at labels k) (label_at (merged labels a b) k) (sym (same k) ∙ now) now
      | inr q ↦ ap sleeping_name (here ∙ others_stay x.name y.name (union_label x y) labels k q)
    ]

-- the movers of a constraint are awake
abbrev AreUp : Labels → ℕ → Option ℕ → Type 0
AreUp labels first second = are_awake labels (record { first = first; second = second }) ≡ true

up_first : (labels : Labels) (first : ℕ) (second : Option ℕ) → AreUp labels first second → is_mover_awake labels first ≡ true
up_first labels first None h = (and_is (is_mover_awake labels first) true h).0
up_first labels first (Some b) h = (and_is (is_mover_awake labels first) (is_mover_awake labels b) h).0

up_second : (labels : Labels) (first : ℕ) (second : Option ℕ) → AreUp labels first second → (b : ℕ) → second ≡ Some b → is_mover_awake labels b ≡ true
up_second labels first None h b e = cc
up_second labels first (Some c) h b e = let same : c ≡ b = cc in subst (λ (n : ℕ). is_mover_awake labels n ≡ true) same (and_is (is_mover_awake labels first) (is_mover_awake labels c) h).1

united_up : (labels : Labels) (first : ℕ) (second : Option ℕ) → IsPartition labels → AreUp labels first second → (k : ℕ) → is_mover_awake (united second first labels) k ≡ is_mover_awake labels k
united_up labels first second p h k =
    united_awake labels first k second p (labelled_up (label_at labels first) (up_first labels first second h)) (λ b e. labelled_up (label_at labels b) (up_second labels first second h b e)) (up_first labels first second h) (up_second labels first second h)

pub united_alike : (labels : Labels) (first : ℕ) (second : Option ℕ) → IsPartition labels → AreUp labels first second → SleepAlike labels (united second first labels)
united_alike labels first None p h = λ k. refl
united_alike labels first (Some b) p h =
    let x = labelled_up (label_at labels first) (up_first labels first (Some b) h) in
    let y = labelled_up (label_at labels b) (up_second labels first (Some b) h b refl) in
    merged_alike labels first b x.0 y.0 x.1 y.1 (united_up labels first (Some b) p h)

united_partition : (labels : Labels) (first : ℕ) (second : Option ℕ) → IsPartition labels → AreUp labels first second → IsPartition (united second first labels)
unfolding merged
united_partition labels first None p h = p
united_partition labels first (Some b) p h =
    let x = labelled_up (label_at labels first) (up_first labels first (Some b) h) in
    let y = labelled_up (label_at labels b) (up_second labels first (Some b) h b refl) in
    subst (λ (ls : Labels). IsPartition ls) (λ j. merged_by (sym x.1 j) (sym y.1 j) labels) (merged_partition labels first b x.0 y.0 p x.1 y.1)

-- ---- an island that is awake gets loose

loosened_alike_by : (labels : Labels) (first : ℕ) (o : Option Label) → label_at labels first ≡ o → ((k : ℕ) → is_mover_awake (option_map_or (λ (label : Label). with_state label.name Loose labels) o labels) k ≡ is_mover_awake labels k) → SleepAlike labels (option_map_or (λ (label : Label). with_state label.name Loose labels) o labels)
loosened_alike_by labels first None e same k = refl
loosened_alike_by labels first (Some l) e same k =
    elim (either_case l.name l.name (label_at labels k)) [
      | inl q ↦
          let now : awake_label (label_at (with_state l.name Loose labels) k) ≡ true = ap awake_label (either_to l.name l.name (record { name = l.name; state = Loose }) labels k q) in
          both_up (label_at labels k) (label_at (with_state l.name Loose labels) k) (sym (same k) ∙ now) now
      | inr q ↦ ap sleeping_name (others_stay l.name l.name (record { name = l.name; state = Loose }) labels k q)
    ]

pub parted_alike : (labels : Labels) (first : ℕ) (second : Option ℕ) → IsPartition labels → is_mover_awake labels first ≡ true → SleepAlike labels (parted second first labels)
unfolding loosened
parted_alike labels first None p h = λ k. refl
parted_alike labels first (Some b) p h = loosened_alike_by labels first (label_at labels first) refl (λ k. parted_awake labels first k (Some b) p h)

-- ---- constraints that begin and end

pub begun_alike : (m : Member Constraint) (s : Acting Constraint) → IsPartition s.labels → are_awake s.labels m.movers ≡ true → SleepAlike s.labels (begun constraint_number m s).labels
unfolding begun
begun_alike m s p h = united_alike s.labels m.movers.first m.movers.second p h

pub ended_alike : (m : Member Constraint) (s : Acting Constraint) → IsPartition s.labels → are_awake s.labels m.movers ≡ true → SleepAlike s.labels (ended constraint_number m s).labels
unfolding ended
ended_alike m s p h = parted_alike s.labels m.movers.first m.movers.second p (up_first s.labels m.movers.first m.movers.second h)

begun_partition : (m : Member Constraint) (s : Acting Constraint) → IsPartition s.labels → are_awake s.labels m.movers ≡ true → IsPartition (begun constraint_number m s).labels
unfolding begun
begun_partition m s p h = united_partition s.labels m.movers.first m.movers.second p h

-- whoever is awake stays so
begun_still : (m x : Member Constraint) (s : Acting Constraint) → IsPartition s.labels → are_awake s.labels m.movers ≡ true → are_awake s.labels x.movers ≡ true → are_awake (begun constraint_number m s).labels x.movers ≡ true
unfolding begun
begun_still m x s p h up =
    let same = united_up s.labels m.movers.first m.movers.second p h in
    same_awake s.labels (united m.movers.second m.movers.first s.labels) x.movers.first x.movers.second (same x.movers.first) (λ b e. same b) ∙ up

pub each_begun_alike : (ms : List (Member Constraint)) (s : Acting Constraint) → IsPartition s.labels → All (λ (m : Member Constraint). are_awake s.labels m.movers ≡ true) ms → SleepAlike s.labels (each_begun constraint_number ms s).labels
each_begun_alike [] s p up k = refl
each_begun_alike (m ∷ ms) s p up k =
    let one : are_awake s.labels m.movers ≡ true = All-head (λ (x : Member Constraint). are_awake s.labels x.movers ≡ true) m ms up in
    let now : Acting Constraint = begun constraint_number m s in
    let rest : All (λ (x : Member Constraint). are_awake now.labels x.movers ≡ true) ms =
    All-weaker (λ (x : Member Constraint). are_awake s.labels x.movers ≡ true) (λ (x : Member Constraint). are_awake now.labels x.movers ≡ true) (λ x h. begun_still m x s p one h) ms
    (All-tail (λ (x : Member Constraint). are_awake s.labels x.movers ≡ true) m ms up) in
    each_begun_alike ms now (begun_partition m s p one) rest k ∙ begun_alike m s p one k

-- what holds of each that a list contains holds of all
pub all_contained : {X : Type 0} (P : X → Type 0) (xs : List X) → ((x : X) → Contains xs x → P x) → All P xs
all_contained P xs f k d lt = f (get_or xs k d) (Contains-get_or xs k d lt)

-- ---- a joint that comes or goes while its movers are awake leaves all bodies as they are

begun_with_alike : (id : Constraint) (o : Option Movers) (s : Acting Constraint) → IsPartition s.labels → ((m : Movers) → o ≡ Some m → are_awake s.labels m ≡ true) → SleepAlike s.labels (begun_with id o s).labels
begun_with_alike id None s p h k = refl
begun_with_alike id (Some m) s p h k = begun_alike (record { id = id; movers = m }) s p (h m refl) k

ended_with_alike : (id : Constraint) (o : Option Movers) (s : Acting Constraint) → IsPartition s.labels → ((m : Movers) → o ≡ Some m → are_awake s.labels m ≡ true) → SleepAlike s.labels (ended_with id o s).labels
ended_with_alike id None s p h k = refl
ended_with_alike id (Some m) s p h k = ended_alike (record { id = id; movers = m }) s p (h m refl) k

pub begun_told : (w : World) (id : Constraint) (o : Option Movers) → IsKept w → ((m : Movers) → o ≡ Some m → are_awake w.plain.islands m ≡ true) → told (begun_with id o (acting_of w.plain)).labels w.plain.bodies ≡ w.plain.bodies
unfolding acting_of
begun_told w id o k up = told_quietly w (begun_with id o (acting_of w.plain)).labels k (begun_with_alike id o (acting_of w.plain) k.consistent.islands.partition up)

pub ended_told : (w : World) (id : Constraint) (o : Option Movers) → IsKept w → ((m : Movers) → o ≡ Some m → are_awake w.plain.islands m ≡ true) → told (ended_with id o (acting_of w.plain)).labels w.plain.bodies ≡ w.plain.bodies
unfolding acting_of
ended_told w id o k up = told_quietly w (ended_with id o (acting_of w.plain)).labels k (ended_with_alike id o (acting_of w.plain) k.consistent.islands.partition up)
