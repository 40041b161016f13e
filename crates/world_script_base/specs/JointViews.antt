-- What can be seen of a joint.
use Rattle.std.specs.Prelude.{◌≡◌, ◌-ℤ◌, List, Option, Some, None}
use Rattle.fixed_geom.specs.Vectors.{minus, span}
use Rattle.fixed_geom.specs.declared.vectors.Vec2.{Vec2}
use Rattle.joint_rows.specs.Joints.{joint_stretch}
use Rattle.momenta.specs.declared.state.Ends.{Ends}
use Rattle.plain_world.specs.declared.body.Body.{Body}
use Rattle.plain_world.specs.declared.body.SetName.{SetName}
use Rattle.plain_world.specs.declared.joint.BodyJoint.{BodyJoint}
use Rattle.plain_world.specs.Bodies.{pose_of}
use Rattle.plain_world.specs.Slots.{body_at}
use Rattle.shapes.specs.Poses.{transformed}
use Rattle.solver_sets.specs.Census.{standing_of_joint}
use Rattle.world_script_base.specs.declared.joint_views.JointView.{JointView}

-- the places of the two points that the joint holds
abbrev pub from_of : Body → BodyJoint → Vec2
from_of a j = transformed (pose_of a) j.joint.from

abbrev pub to_of : Body → BodyJoint → Vec2
to_of b j = transformed (pose_of b) j.joint.to

-- the view of a joint between two bodies
abbrev pub view_between : Body → Body → BodyJoint → SetName → JointView
view_between a b j set = record {
  from = from_of a j;
  to = to_of b j;
  stretch = span (minus (to_of b j) (from_of a j)) -ℤ j.joint.length;
  set = set;
}

abbrev pub view_if : Option Body → Option Body → BodyJoint → SetName → Option JointView
view_if None b j set = None
view_if (Some a) None j set = None
view_if (Some a) (Some b) j set = Some (view_between a b j set)

-- the view of a joint whose bodies are there
abbrev pub view_of : List (Option Body) → BodyJoint → Option JointView
view_of bodies j = view_if (body_at bodies j.a) (body_at bodies j.b) j (standing_of_joint bodies j)

-- the stretch that is seen is that of the row which the solver makes of the joint as a step begins
abbrev pub IsStretchOfTheRow : Type 0
IsStretchOfTheRow = (a b : Body) (j : BodyJoint) (set : SetName) (start : Ends)
    → start.a.motion ≡ a.motion → start.b.motion ≡ b.motion → (view_between a b j set).stretch ≡ joint_stretch j.joint start
