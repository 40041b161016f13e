use Rattle.std.proofs.Common.{◌≡◌, ◌∷◌, ◌++◌, ◌∙◌, List, [], rules, sym, ap, subst}
use Rattle.momenta.specs.declared.state.BodyState.{BodyState}
use Rattle.colour_solver.specs.States.{HaveCourses}
use Rattle.colour_solver.proofs.CourseLaws.{courses_one}
use Rattle.check_parts.proofs.colour_solver_ticks.one_body.Goals as goal

pub returns-clause-courses : goal.returns-clause-courses
returns-clause-courses c =
    let none : c.in_ok-states.states.items ≡ [] = search rules in
    subst HaveCourses (sym (c.in_ok-push.ensures.items ∙ ap (λ (l : List BodyState). l ++ c.args.state ∷ []) none)) (courses_one c.args.state c.requires.stands)
