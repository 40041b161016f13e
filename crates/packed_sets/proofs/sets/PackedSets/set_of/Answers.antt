use Rattle.std.proofs.Common.{rules, ◌≡◌, ℕ, List, None, Some, ap, sym, subst, map, ◌∙◌}
use Rattle.std.specs.List.{Contains}
use Rattle.packed_sets.specs.Notes.{spot_of, numbers_of}
use Rattle.packed_sets.specs.Packs.{list_at, IsAbsent}
use Rattle.packed_sets.proofs.ListLaws.{same_inside, none_not_some}
use Rattle.packed_sets.proofs.KeptLaws.{stands_in, one_set, none_has}
use Rattle.packed_sets.proofs.NumberLaws.{id_in, id_absent, number_in}
use Rattle.packed_sets.proofs.sets.PackedSets.set_of.Goals as goal

pub returns : goal.returns
returns g c = λ set.
    let n = g.I.ItemId.number in
    let lists : List (List g.row.I.Denot) = map (λ v. v.items) c.self.inside.lists.items in
    let spots = c.self.inside.spots.items in
    let spot = c.in_ok-spot.spot in
    let at : spot_of spots c.number.result ≡ Some spot = search rules in
    let noted : spot_of spots (n c.args.id) ≡ Some spot = ap (λ (k : ℕ). spot_of spots k) (sym c.number.ensures) ∙ at in (
      λ e. rw (← c.self.view_is) (subst (λ (s : ℕ). Contains (list_at lists s) c.args.id) (same_inside spot.set set e) (id_in n g.met.I.ItemId.known lists spot.set c.args.id (stands_in (numbers_of n lists) spots (n c.args.id) spot c.self.invariant noted))),
      λ h. ap (λ (s : ℕ). Some s) (one_set (numbers_of n lists) spots set (n c.args.id) spot c.self.invariant noted (number_in n lists set c.args.id (rw (← c.self.view_is) at h))),
    )

pub returns-in_err-spot : goal.returns-in_err-spot
returns-in_err-spot g c = λ set.
    let n = g.I.ItemId.number in
    let lists : List (List g.row.I.Denot) = map (λ v. v.items) c.self.inside.lists.items in
    let spots = c.self.inside.spots.items in
    let at : spot_of spots c.number.result ≡ None = search rules in
    let none : spot_of spots (n c.args.id) ≡ None = ap (λ (k : ℕ). spot_of spots k) (sym c.number.ensures) ∙ at in
    let absent : IsAbsent lists c.args.id = id_absent n lists c.args.id (none_has (numbers_of n lists) spots (n c.args.id) c.self.invariant none) in (
      λ e. absurd (none_not_some set (sym c.from_residual.ensures ∙ e)),
      λ h. absurd (absent set (rw (← c.self.view_is) at h)),
    )
