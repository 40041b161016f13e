use Rattle.std.proofs.Common.{◌≡◌, ◌<◌, ◌≤◌, length, get_or, slice_set, sym, ap, ◌∙◌, arith}
use Rattle.std.specs.List.{insert}
use Rattle.std.proofs.lemmas.Grind.{common_steps}
use Rattle.std.proofs.lemmas.List.{get_or_default}
use Rattle.std.proofs.lemmas.Result.{on_ok_weaker}
use Rattle.solver_sets.specs.Census.{Sleepers}
use Rattle.solver_sets.specs.CensusListing.{with_item}
use Rattle.solver_sets.proofs.CensusLaws.{with_sleeper-in, with_sleeper-new}
use Rattle.solver_sets.proofs.census.list_sleeper.Goals as goal
use Rattle.solver_sets.proofs.census.list_sleeper.Goals.{else-place-len-via-then-place-len+else-index-name, else-place-len-via-else-place-len}

pub returns-then-index-name-clause-listed : goal.returns-then-index-name-clause-listed
returns-then-index-name-clause-listed c =
    let sets = c.args.sets.now.items in
    let place = c.place_of-place.result in
    let item = c.args.item in
    let d = c.index_mut.result.now in
    let e = c.index.result.now in
    let before = rw c.deref.ensures.value at c.place_of-place.ensures.before in
    let lt : place < length sets = omega (arith, c.if-place-len.true, c.len.ensures, c.args.sets.now.ok.0) in
    let at : (get_or sets place d).name ≡ c.args.name = ap (λ (s : Sleepers). s.name) (get_or_default sets place d e lt ∙ sym c.index.ensures) ∙ sym (ap (λ (s : Sleepers). s.name) c.behind-sets.view_is) ∙ c.if-index-name.true in
    on_ok_weaker c.push.result (λ h. ap (slice_set sets place) (h ∙ ap (λ (s : Sleepers). with_item s item) c.index_mut.ensures.value) ∙ sym (with_sleeper-in c.args.name item sets place d (λ k x l. before k x (omega arith) l) lt at)) c.push.ensures.listed

pub returns-clause-listed : goal.returns-clause-listed
returns-clause-listed c =
    let sets = c.args.sets.now.items in
    let place = c.place_of-place.result in
    let item = c.args.item in
    let before = rw c.deref.ensures.value at c.place_of-place.ensures.before in
    let after = rw c.deref.ensures.value at c.place_of-place.ensures.after in
    let within = rw c.deref.ensures.value at c.place_of-place.ensures.within in
    let added : c.insert.new.self.items ≡ insert sets place c.in_ok-set.set = grind (arith, common_steps) in
    let above : (x : Sleepers) → place < length sets → c.args.name < (get_or sets place x).name = λ x lt.
    let le : c.args.name ≤ (get_or sets place x).name = after place x (omega arith) lt in
    elim c.else-place-len.branch [
      | else-place-len-via-then-place-len+else-index-name w ↦
          let other : (get_or sets place x).name ≡ c.args.name → ⊥ = λ q. w.if-index-name.false (ap (λ (s : Sleepers). s.name) (w.behind-sets.view_is ∙ w.index.ensures ∙ get_or_default sets place w.index.result.now x lt) ∙ q) in
          omega (arith, other, le)
      | else-place-len-via-else-place-len w ↦ absurd (omega (arith, w.if-place-len.false, c.len.ensures, c.args.sets.now.ok.0, lt))
    ] in
    rw (added, c.in_ok-set.ensures.value) (sym (with_sleeper-new c.args.name item sets place (λ k x l. before k x (omega arith) l) within above))
