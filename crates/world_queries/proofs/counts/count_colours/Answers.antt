use Rattle.std.proofs.Common.{◌≡◌, ℕ, ◌+◌, ◌<◌, ◌==◌, Bool, false, true, cond, length, vec_len, ap, sym, ◌∙◌, subst, arith}
use Rattle.std.specs.List.{count_by}
use Rattle.std.proofs.Common.{drop}
use Rattle.graph_colours.specs.Colours.{ids_of}
use Rattle.world_queries.proofs.CountLaws.{count_next, none_there, some_there}
use Rattle.world_queries.specs.Counts.{has_some}
use Rattle.world_queries.proofs.counts.count_colours.Goals.{then-not-is_empty, else-not-is_empty}
use Rattle.world_queries.proofs.counts.count_colours.Goals as goal

add_nothing : (n : ℕ) → n + 0 ≡ n
add_nothing n = omega arith

is_colour : (c : goal.Joined-not-is_empty) → c.loop-colour.colour < length c.args.colours.now.lists
is_colour c = let all = c.know_colouring.ensures.count in let here = c.loop-colour-test.true in omega arith

as_long : (c : goal.Joined-not-is_empty) → vec_len c.in_ok-to_members.field-0 ≡ length c.in_ok-to_members.field-0.items
as_long c = c.in_ok-to_members.field-0.ok.0

-- a colour is counted if it has members
counted : (c : goal.Joined-not-is_empty) (t : Bool) → (length c.in_ok-to_members.field-0.items == 0) ≡ t → (c.loop-colour.count + cond t 0 1) + count_by has_some (ids_of (drop (c.loop-colour.colour + 1) c.args.colours.now.lists)) ≡ count_by has_some (ids_of c.args.colours.now.lists)
counted c false e = count_next c.args.colours.now.lists c.in_ok-to_members.field-0.items c.loop-colour.colour c.loop-colour.count _ true (is_colour c) c.in_ok-to_members.ensures.value (some_there c.in_ok-to_members.field-0.items e) c.loop-colour.invariant.rest
counted c true e = count_next c.args.colours.now.lists c.in_ok-to_members.field-0.items c.loop-colour.colour c.loop-colour.count _ false (is_colour c) c.in_ok-to_members.ensures.value (none_there c.in_ok-to_members.field-0.items e) c.loop-colour.invariant.rest

is_empty_told : (c : goal.Joined-not-is_empty) (t : Bool) → t ≡ (vec_len c.in_ok-to_members.field-0 == 0) → (length c.in_ok-to_members.field-0.items == 0) ≡ t
is_empty_told c t e = ap (λ (n : ℕ). n == 0) (sym (as_long c)) ∙ sym e

after : (c : goal.Joined-not-is_empty) (n : ℕ) → n ≡ c.if-not-is_empty.count → n + count_by has_some (ids_of (drop (c.loop-colour.colour + 1) c.args.colours.now.lists)) ≡ count_by has_some (ids_of c.args.colours.now.lists) → c.if-not-is_empty.count + count_by has_some (ids_of (drop (c.loop-colour.colour + 1) c.args.colours.now.lists)) ≡ count_by has_some (ids_of c.args.colours.now.lists)
after c n e h = subst (λ (m : ℕ). m + count_by has_some (ids_of (drop (c.loop-colour.colour + 1) c.args.colours.now.lists)) ≡ count_by has_some (ids_of c.args.colours.now.lists)) e h

pub loop-colour-preserved : goal.loop-colour-preserved
loop-colour-preserved c = elim c.if-not-is_empty.branch [
  | then-not-is_empty w ↦ record {
    few = let few = c.loop-colour.invariant.few in let is = w.count-is in omega arith;
    rest = after c _ (sym w.count-is) (counted c false (is_empty_told c false w.if-not-is_empty.ensures));
  }
  | else-not-is_empty w ↦ record {
    few = let few = c.loop-colour.invariant.few in let is = w.count-is in omega arith;
    rest = after c _ (add_nothing c.loop-colour.count ∙ sym w.count-is) (counted c true (is_empty_told c true w.if-not-is_empty.ensures));
  }
]
