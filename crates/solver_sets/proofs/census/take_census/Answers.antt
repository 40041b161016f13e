use Rattle.solver_sets.specs.Ties.{slots_of}
use Rattle.solver_sets.specs.Census.{body_standings, census_of, contact_standings, joint_standings, standings_of}
use Rattle.solver_sets.proofs.CensusLaws.{listed_are}
use Rattle.solver_sets.proofs.census.take_census.Goals as goal

pub returns-clause-value : goal.returns-clause-value
unfolding census_of standings_of
returns-clause-value c =
    rw (c.in_ok-list_contacts.ensures.listed, c.in_ok-list_joints.ensures.listed, c.in_ok-list_bodies.ensures.listed, c.new-census.ensures)
    (listed_are (body_standings c.args.slot_entries.now c.args.bodies.now) (joint_standings c.args.bodies.now (slots_of c.args.joint_entries.now c.args.joints.now)) (contact_standings c.args.bodies.now c.args.contacts.now))
