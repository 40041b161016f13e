-- Laws of the crates below, of the constraints of a world.
use Rattle.plain_world.specs.Constraints.{constraint_number}
use Rattle.sleep_wake.specs.Laws as sleeping
use Rattle.solver_sets.specs.Laws as ties
use Rattle.sleep_wake.proofs.BetweenLemmas as wake_between_lemmas
use Rattle.sleep_wake.proofs.KeptLemmas as wake_kept_lemmas
use Rattle.sleep_wake.proofs.LawLemmas as wake_law_lemmas
use Rattle.sleep_wake.proofs.PhaseLemmas as wake_phase_lemmas
use Rattle.solver_sets.proofs.BodyLaws as set_body_laws
use Rattle.solver_sets.proofs.CollideLaws as set_collide_laws
use Rattle.solver_sets.proofs.JoinLaws as set_join_laws
use Rattle.solver_sets.proofs.TieLaws as set_tie_laws

pub ties_rise : ties.TiesRise
ties_rise = set_tie_laws.ties_rise

pub ties_have_labels : ties.TiesHaveLabels
ties_have_labels = set_tie_laws.ties_have_labels

pub lists_are_members : ties.ListsAreMembers
lists_are_members = set_tie_laws.lists_members

pub alike_bodies_keep_ties : ties.AlikeBodiesKeepTies
alike_bodies_keep_ties = set_tie_laws.alike_ties

pub impulses_keep_ties : ties.ImpulsesKeepTies
impulses_keep_ties = set_tie_laws.impulses_ties

pub same_touching_keep_ties : ties.SameTouchingKeepTies
same_touching_keep_ties = set_tie_laws.touching_ties

pub coming_keeps_ties : ties.ComingKeepsTies
coming_keeps_ties = set_body_laws.coming

pub joining_adds_ties : ties.JoiningAddsTies
joining_adds_ties = set_join_laws.joining

pub unjoining_takes_ties : ties.UnjoiningTakesTies
unjoining_takes_ties = set_join_laws.unjoining

pub ties_at_are_ties : ties.TiesAtAreTies
ties_at_are_ties = set_body_laws.ties_at_are

pub going_takes_ties : ties.GoingTakesTies
going_takes_ties = set_body_laws.going

pub disabling_takes_ties : ties.DisablingTakesTies
disabling_takes_ties = set_body_laws.disabling

pub enabling_adds_ties : ties.EnablingAddsTies
enabling_adds_ties = set_body_laws.enabling

pub ties_of_a_mover : ties.TiesOfAMover
ties_of_a_mover = set_body_laws.of_a_mover

pub ties_of_no_mover : ties.TiesOfNoMover
ties_of_no_mover = set_body_laws.of_no_mover

pub no_ties_of_disabled : ties.NoTiesOfDisabled
no_ties_of_disabled = set_body_laws.none_of_disabled

pub keys_change : ties.KeysChange
keys_change = set_collide_laws.keys_change

pub keys_can_change : ties.KeysCanChange
keys_can_change = set_collide_laws.keys_can_change

pub few_begin : ties.FewBegin
few_begin = set_collide_laws.few_begin

pub ending_keeps : sleeping.EndingKeeps constraint_number
ending_keeps = wake_kept_lemmas.ending_keeps constraint_number

pub changes_lead_to : sleeping.ChangesLeadTo constraint_number
changes_lead_to = wake_between_lemmas.changes_lead_to constraint_number

pub going_keeps : sleeping.GoingKeeps constraint_number
going_keeps = wake_phase_lemmas.going_keeps constraint_number

pub making_keeps : sleeping.MakingKeeps constraint_number
making_keeps = wake_phase_lemmas.making_keeps constraint_number

pub sleep_phase_keeps : sleeping.SleepPhaseKeeps constraint_number
sleep_phase_keeps = wake_phase_lemmas.sleeping_keeps constraint_number

pub waking_named_keeps : sleeping.WakingNamedKeeps constraint_number
waking_named_keeps = wake_law_lemmas.waking_named_keeps constraint_number

pub sleep_keeps : sleeping.SleepKeeps constraint_number
sleep_keeps = wake_law_lemmas.sleep_keeps constraint_number

pub movers_stay : sleeping.MoversStay constraint_number
movers_stay = wake_law_lemmas.movers_stay constraint_number

pub movers_come_and_go : sleeping.MoversComeAndGo constraint_number
movers_come_and_go = wake_law_lemmas.movers_come_and_go constraint_number

pub awake_stay_awake : sleeping.AwakeStayAwake constraint_number
awake_stay_awake = wake_law_lemmas.awake_stay_awake constraint_number

pub the_named_are_awake : sleeping.TheNamedAreAwake constraint_number
the_named_are_awake = wake_law_lemmas.the_named_are_awake constraint_number

pub empty_is_consistent : sleeping.EmptyIsConsistent constraint_number
empty_is_consistent = wake_phase_lemmas.empty_consistent constraint_number

pub linked_stand_together : sleeping.LinkedStandTogether constraint_number
linked_stand_together = wake_kept_lemmas.linked_stand constraint_number

pub beginning_each_keeps : sleeping.BeginningEachKeeps constraint_number
beginning_each_keeps = wake_law_lemmas.beginning_each_keeps constraint_number

pub ending_each_keeps : sleeping.EndingEachKeeps constraint_number
ending_each_keeps = wake_law_lemmas.ending_each_keeps constraint_number

pub same_ids_same_ties : ties.SameIdsSameTies
same_ids_same_ties = set_collide_laws.same_names

pub sleepers_are_one_component : sleeping.SleepersAreOneComponent constraint_number
sleepers_are_one_component = wake_kept_lemmas.sleepers_are constraint_number
