use Rattle.std.proofs.Common.{◌≡◌, ◌∙◌, ap, refl, ◌^◌, ◌≤◌, ◌-ℤ◌, pos, ◌≤ℤ◌, ℤ, unsigned_abs, arith, rules}
use Rattle.std.proofs.lemmas.Int.{to_z-of_z, ints}
use Rattle.std.specs.Int.{w64}
use mir.Val.{SFits}
use Rattle.fixed_geom.proofs.Sizes.{IsDifference64, difference_64}
use Rattle.fixed_geom.specs.Vectors.{span}
use Rattle.fixed_geom.specs.declared.vectors.Vec2.{Vec2}
use Rattle.momenta.specs.declared.state.Ends.{Ends}
use Rattle.momenta.specs.declared.line.Line.{Line}
use Rattle.joint_rows.specs.declared.joint.Joint.{Joint}
use Rattle.joint_rows.specs.declared.row.JointBodies.{JointBodies}
use Rattle.joint_rows.specs.declared.row.JointRow.{JointRow}
use Rattle.joint_rows.specs.Joints.{arm, direction_along, gap, joint_gap}
use Rattle.momenta.specs.Impulses.{line_along}
use Rattle.joint_rows.specs.Rows.{joint_row}
use Rattle.joint_rows.proofs.row.row_at.Goals as goal

exact : (distance length : ℤ) → unsigned_abs distance ≤ 2 ^ 39 → unsigned_abs length ≤ 2 ^ 25 → IsDifference64 distance length
exact distance length h k = difference_64 distance length (omega (arith, h)) (omega (arith, k))

difference_within : (d l : ℤ) → pos 0 ≤ℤ d → pos 0 ≤ℤ l → unsigned_abs d ≤ 2 ^ 39 → unsigned_abs l ≤ 2 ^ 25 → unsigned_abs (d -ℤ l) ≤ 2 ^ 39
difference_within d l h k m n = omega (arith, ints)

abbrev row_with : JointBodies → Joint → Line → ℤ → JointRow
row_with bodies j line distance = record { bodies = bodies; line = line; stretch = distance -ℤ j.length; impulse = j.impulse }

row_is : (bodies : JointBodies) (j : Joint) (start : Ends) (ra rb apart n : Vec2) (distance : ℤ) (line : Line) → ra ≡ arm j.from start.a → rb ≡ arm j.to start.b → apart ≡ gap ra rb start → distance ≡ span apart
    → n ≡ direction_along apart → line ≡ line_along n ra rb start → row_with bodies j line distance ≡ joint_row bodies start j
unfolding joint_row
row_is bodies j start ra rb apart n distance line first second way long along e =
    let between : apart ≡ joint_gap j start = way ∙ ap (λ (r : Vec2). gap r rb start) first ∙ ap (λ (r : Vec2). gap (arm j.from start.a) r start) second in
    rw (e, along, long, between, first, second) refl

pub overflow_sub-result : goal.overflow_sub-result
overflow_sub-result c = (exact c.span-distance.result c.args.joint.now.length (c.span-distance.ensures.within (2 ^ 38) c.gap-apart.ensures.within) c.requires.joint.length).fits

pub returns-clause-value : goal.returns-clause-value
returns-clause-value c =
    let impulse : SFits w64 c.args.joint.now.impulse = search rules in
    let distance : SFits w64 c.span-distance.result = record { sfits = c.span-distance.type_inv } in
    let less = exact c.span-distance.result c.args.joint.now.length (c.span-distance.ensures.within (2 ^ 38) c.gap-apart.ensures.within) c.requires.joint.length in
    rw (less.value, to_z-of_z w64 c.args.joint.now.impulse impulse)
    (row_is c.args.bodies c.args.joint.now c.args.ends.now c.args.ra c.args.rb c.gap-apart.result c.direction_along.result c.span-distance.result c.line_along.result
    c.requires.first c.requires.second c.gap-apart.ensures.value c.span-distance.ensures.value c.direction_along.ensures.value c.line_along.ensures.value)

pub returns-clause-row : goal.returns-clause-row
returns-clause-row c =
    let impulse : SFits w64 c.args.joint.now.impulse = search rules in
    let joint = c.requires.joint in
    let far : unsigned_abs c.span-distance.result ≤ 2 ^ 39 = c.span-distance.ensures.within (2 ^ 38) c.gap-apart.ensures.within in
    let less = exact c.span-distance.result c.args.joint.now.length far joint.length in
    rw (less.value, to_z-of_z w64 c.args.joint.now.impulse impulse) (record {
      line = c.line_along.ensures.line;
      stretch = difference_within c.span-distance.result c.args.joint.now.length c.span-distance.ensures.nonnegative joint.nonnegative far joint.length;
      impulse = joint.impulse;
    })
