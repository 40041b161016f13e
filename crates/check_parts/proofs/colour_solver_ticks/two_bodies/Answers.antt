use Rattle.std.proofs.Common.{refl, sym, subst}
use Rattle.colour_solver.specs.States.{AreAllStates, HaveCourses}
use Rattle.colour_solver.proofs.CourseLaws.{courses-push}
use Rattle.colour_solver.proofs.VisitLaws.{states-push}
use Rattle.check_parts.proofs.colour_solver_ticks.two_bodies.Goals as goal

pub returns-clause-long : goal.returns-clause-long
returns-clause-long c = rw (c.in_ok-push.ensures.items, c.in_ok-states.ensures.items) refl

pub returns-clause-states : goal.returns-clause-states
returns-clause-states c = subst AreAllStates (sym c.in_ok-push.ensures.items) (states-push c.in_ok-states.states.items c.point-2.result c.in_ok-states.ensures.states c.point-2.ensures.state)

pub returns-clause-movers : goal.returns-clause-movers
returns-clause-movers c = rw (c.in_ok-push.ensures.items, c.in_ok-states.ensures.items, c.point.ensures.movable, c.point-2.ensures.movable) refl

pub returns-clause-carried : goal.returns-clause-carried
returns-clause-carried c = rw (c.in_ok-push.ensures.items, c.in_ok-states.ensures.items, c.point.ensures.stands, c.point-2.ensures.stands) refl

pub returns-clause-courses : goal.returns-clause-courses
returns-clause-courses c = subst HaveCourses (sym c.in_ok-push.ensures.items) (courses-push c.in_ok-states.states.items c.point-2.result c.in_ok-states.ensures.courses c.point-2.ensures.stands)
