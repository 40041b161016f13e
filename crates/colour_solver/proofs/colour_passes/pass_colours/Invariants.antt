use Rattle.std.proofs.Common.{◌≡◌, ◌^◌, map, take}
use Rattle.momenta.specs.Gains.{IsGain}
use Rattle.colour_solver.specs.ColourRows.{last_end}
use Rattle.colour_solver.specs.States.{as_vector}
use Rattle.colour_solver.proofs.KeptRowLaws.{HasPassed}
use Rattle.colour_solver.proofs.colour_passes.pass_colours.Given as goal

abbrev pub invariant-loop-end : goal.invariant-loop-end
invariant-loop-end g l =
    let joint_ends = map (λ e. e.joints) l.ends in
    let contact_ends = map (λ e. e.contacts) l.ends in
    record {
      passed : HasPassed (g.J.Visit.visit l.joint_visit) (g.C.Visit.visit l.contact_visit) l.end-index joint_ends contact_ends l.initial.states.items l.initial.joints.items l.initial.contacts.items l.states.items l.joints.items l.contacts.items (as_vector l.given);
      joints_start : l.start.joints ≡ last_end 0 (take l.end-index joint_ends);
      contacts_start : l.start.contacts ≡ last_end 0 (take l.end-index contact_ends);
      small : IsGain (2 ^ 78) l.given;
    }
