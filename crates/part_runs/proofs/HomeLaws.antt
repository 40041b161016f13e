-- What a part has of the bodies at home, at any time of a run.
use Rattle.std.proofs.Common.{◌≡◌, ℕ, zero, suc, Bool, false, cond, not, List, [], ◌∷◌, pos, length, get_or, arith, refl, sym, ap, ◌∙◌, subst}
use Rattle.std.specs.Prelude.{nat_eq, filter}
use Rattle.std.specs.Ordering.{int_eq}
use Rattle.momenta.specs.Motions.{advanced, pulled, speed_clamped}
use Rattle.momenta.specs.declared.mass.MassData.{MassData}
use Rattle.momenta.specs.declared.motion.Motion.{Motion}
use Rattle.momenta.specs.declared.state.BodyState.{BodyState}
use Rattle.colour_solver.specs.Passes.{carried_along, carry, changed, pass}
use Rattle.colour_solver.specs.States.{HaveCourses, carried_of, is_carried, movers_of, moves, nobody, places_from}
use Rattle.part_runs.specs.Hidden.{part_at}
use Rattle.part_runs.specs.Runs.{IsReached, Stand, Step, at_home}
use Rattle.part_runs.specs.Laws.{PartsAtHome}
use Rattle.part_runs.proofs.HiddenLaws.{carried_hidden, hidden-map, movers_hidden}
use Rattle.part_runs.proofs.PartLaws.{courses_hidden}
use Rattle.part_runs.proofs.ReachLaws.{moved_reached}
use Rattle.part_runs.proofs.WholeLaws.{along_is, changed_is}

-- the same slots pass a test
places_same : (is : BodyState → Bool) (old new : List BodyState) (n : ℕ) → length new ≡ length old → ((slot : ℕ) → is (get_or new slot nobody) ≡ is (get_or old slot nobody)) → places_from is n new ≡ places_from is n old
places_same is [] [] n long same = refl
places_same is [] (b ∷ new) n long same = absurd (cc long)
places_same is (a ∷ old) [] n long same = absurd (cc long)
places_same is (a ∷ old) (b ∷ new) n long same =
    let rest = places_same is old new (suc n) (omega (arith, long)) (λ slot. same (suc slot)) in
    λ i. cond (same zero i) (n ∷ rest i) (rest i)

-- whether a body is carried along is told by what moves it and by its mass
carried_as : (a b : BodyState) → b.movable ≡ a.movable → b.mass ≡ a.mass → is_carried b ≡ is_carried a
carried_as a b moves_too weighs = λ j. cond (moves_too j) false (not (int_eq (weighs j).inertia (pos 0)))

module _ (t : Step) (k : ℕ) where
  movers_at : (s : Stand) → IsReached t s → movers_of (at_home t k s.states) ≡ movers_of (at_home t k t.states)
  movers_at s reached =
      movers_hidden (part_at t.home) k s.states ∙ ap (filter (λ slot. nat_eq (part_at t.home slot) k)) (places_same moves t.states s.states 0 reached.long reached.movers) ∙ sym (movers_hidden (part_at t.home) k t.states)

  carried_at : (s : Stand) → IsReached t s → carried_of (at_home t k s.states) ≡ carried_of (at_home t k t.states)
  carried_at s reached =
      carried_hidden (part_at t.home) k s.states
      ∙ places_same is_carried t.states s.states 0 reached.long (λ slot. carried_as (get_or t.states slot nobody) (get_or s.states slot nobody) (reached.movers slot) (reached.mass slot))
      ∙ sym (carried_hidden (part_at t.home) k t.states)

  courses_at : (s : Stand) → IsReached t s → HaveCourses t.states → HaveCourses (at_home t k s.states)
  courses_at s reached all = courses_hidden (part_at t.home) k s.states (reached.courses all)

  passed_home : (f : MassData → Motion → Motion) (ss : List BodyState) → at_home t k (pass f ss) ≡ pass f (at_home t k ss)
  passed_home f ss = hidden-map (changed f) (changed_is f) (part_at t.home) k ss

  -- two passes
  both_home : (f h : MassData → Motion → Motion) (ss : List BodyState) → at_home t k (pass h (pass f ss)) ≡ pass h (pass f (at_home t k ss))
  both_home f h ss = passed_home h (pass f ss) ∙ ap (pass h) (passed_home f ss)

pub parts_home : PartsAtHome
parts_home t k s reached =
    let moved : Stand = record s { states = pass advanced (pass speed_clamped s.states) } in
    let there : IsReached t moved = moved_reached t s reached in
    let moved_is : at_home t k moved.states ≡ pass advanced (pass speed_clamped (at_home t k s.states)) = both_home t k speed_clamped advanced s.states in
    record {
      movers = movers_at t k s reached;
      carried = carried_at t k s reached;
      courses = courses_at t k s reached;
      begun_is = both_home t k (pulled t.gravity) speed_clamped s.states;
      ended_is = hidden-map carried_along along_is (part_at t.home) k moved.states ∙ ap carry moved_is;
      carried_last = sym (ap carried_of moved_is) ∙ carried_at t k moved there;
      courses_last = λ all. subst HaveCourses moved_is (courses_at t k moved there all);
    }
