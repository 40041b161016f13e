use Rattle.std.proofs.Common.{◌≡◌, ◌+◌, [], List, length, replicate, refl, sym, ap, subst, ◌∙◌, arith}
use Rattle.graph_colours.specs.declared.limits.TheConstants.{COLOURS}
use Rattle.graph_colours.specs.declared.member.Member.{Member}
use Rattle.graph_colours.proofs.EmptyLemmas.{colouring_of_none}
use Rattle.islands.specs.Labels.{Labels}
use Rattle.sleep_wake.specs.Acting.{Acting, acting, IsConsistent}
use Rattle.sleep_wake.proofs.PhaseLemmas.{empty_consistent}
use Rattle.sleep_wake.proofs.sets.Sets.new.Goals as goal

pub invariant_of-result : goal.invariant_of-result
invariant_of-result g c =
    let n = g.C.ConstraintId.number in
    let nobody : List (Member g.row.C.Denot) = [] in
    let none : List (List (Member g.row.C.Denot)) = replicate (COLOURS + 1) nobody in
    let lists : c.in_ok-new.field-0.lists ≡ none = c.in_ok-new.ensures.lists in
    let labels : c.new-3.result.labels ≡ [] = c.new-3.ensures.labels in
    let ties : c.new.result.items ≡ nobody = c.new.ensures.items in
    let is : acting c.new.result.items c.new-3.result.labels c.in_ok-new.field-0.lists ≡ acting nobody [] none = ap (λ (v : List (Member g.row.C.Denot)). acting v c.new-3.result.labels c.in_ok-new.field-0.lists) ties ∙ ap (λ (v : Labels). acting nobody v c.in_ok-new.field-0.lists) labels ∙ ap (λ (v : List (List (Member g.row.C.Denot))). acting nobody [] v) lists in
    let few : length c.new.result.items ≡ 0 = ap (λ (v : List (Member g.row.C.Denot)). length v) ties in
    let short : length c.new-3.result.labels ≡ 0 = ap (λ (v : Labels). length v) labels in
    let P : Acting g.row.C.Denot → Type 0 = λ v. IsConsistent n v in
    record {
      consistent = subst P (sym is) (empty_consistent n none (colouring_of_none n) refl);
      enough = omega (arith, few);
      few = omega (arith, short);
      rooms = record { ties = omega arith; colours = omega arith; colour_slots = omega arith; islands = omega arith; edges = omega arith; scratch_slots = omega arith; links = omega arith; gathering_ties = omega arith; gathering_slots = omega arith; leasts = omega arith };
    }
