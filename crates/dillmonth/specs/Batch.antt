-- Trusted: A batch of commands, and its answers.
use Rattle.std.specs.Prelude.{◌≡◌, ℕ, ◌+◌, ◌-◌, ◌==◌, ◌⊎◌, ◌||◌, if◌then◌else◌, nat_lt, List, [], ◌∷◌, slice_range, length, Option, Some, None, Result, Ok, Err}
use Rattle.plain_world.specs.declared.body.BodyDef.{BodyDef}
use Rattle.plain_world.specs.declared.joint.JointDef.{JointDef}
use Rattle.dillmonth.specs.Calls.{IsAnswered}
use Rattle.dillmonth.specs.Forms.{bare, course_said, def_said, handle_said, joint_said, known, pose_said, vector_said}
use Rattle.dillmonth.specs.declared.forms.CAnswer.{CAnswer}
use Rattle.dillmonth.specs.declared.forms.CCommand.{CCommand}
use Rattle.dillmonth.specs.declared.forms.CShape.{CShape}
use Rattle.dillmonth.specs.declared.statuses.TheConstants.{BAD_SPAN, OUT_OF_RANGE}
use Rattle.world_desk.specs.declared.desk.Desk.{Desk}
use Rattle.world_rules.specs.declared.command.Command.{Command}
use Rattle.world_rules.specs.declared.command.Command.TheVariants.{CreateBody, DestroyBody, CreateJoint, DestroyJoint, Push, PushAt, SetPose, SetVelocity, SetGravity, Disable, Enable, Wake, Sleep, Step}

-- the shapes of a body to be made, where the batch has them all
abbrev pub span_of : CCommand → List CShape → Option (List CShape)
span_of c shapes = if nat_lt (length shapes) c.shapes_from || nat_lt (length shapes - c.shapes_from) c.shapes_count then None else Some (slice_range shapes c.shapes_from (c.shapes_from + c.shapes_count))

abbrev pub created : Result BodyDef ℕ → Result Command ℕ
created (Err due) = Err due
created (Ok def) = Ok (CreateBody def)

abbrev pub creation_said : CCommand → Option (List CShape) → Result Command ℕ
creation_said c None = Err BAD_SPAN
creation_said c (Some shapes) = created (def_said c.body shapes)

abbrev pub joined : Result JointDef ℕ → Result Command ℕ
joined (Err due) = Err due
joined (Ok def) = Ok (CreateJoint def)

-- the commands that make nothing, by their kind
abbrev pub plain_said : CCommand → Option Command
plain_said c =
    if c.kind == 1 then Some (DestroyBody (handle_said c.joint.a))
    else if c.kind == 3 then Some (DestroyJoint (handle_said c.joint.a))
    else if c.kind == 4 then Some (Push (handle_said c.joint.a) (vector_said c.by))
    else if c.kind == 5 then Some (PushAt (handle_said c.joint.a) (vector_said c.by) (vector_said c.offset))
    else if c.kind == 6 then Some (SetPose (handle_said c.joint.a) (pose_said c.body.at c.body.facing))
    else if c.kind == 7 then Some (SetVelocity (handle_said c.joint.a) (course_said c.body.velocity c.body.spin))
    else if c.kind == 8 then Some (SetGravity (vector_said c.by))
    else if c.kind == 9 then Some (Disable (handle_said c.joint.a))
    else if c.kind == 10 then Some (Enable (handle_said c.joint.a))
    else if c.kind == 11 then Some (Wake (handle_said c.joint.a))
    else if c.kind == 12 then Some (Sleep (handle_said c.joint.a))
    else if c.kind == 13 then Some (Step c.ticks)
    else None

-- what a command says, or why it says none
abbrev pub command_said : List CShape → CCommand → Result Command ℕ
command_said shapes c =
    if c.unused == 0 then
    (if c.kind == 0 then creation_said c (span_of c shapes)
    else if c.kind == 2 then joined (joint_said c.joint)
    else known (plain_said c))
    else Err OUT_OF_RANGE

-- the answer to one command of a batch: that of the rules, or why it says none, or want of memory for its shapes
abbrev pub IsAnsweredAs : Result Command ℕ → Desk → CAnswer → Desk → Type 0
IsAnsweredAs (Ok c) old answer new = IsAnswered c old answer new ⊎ ((answer ≡ bare 1) × (new ≡ old))
IsAnsweredAs (Err due) old answer new = ((answer ≡ bare due) ⊎ (answer ≡ bare 1)) × (new ≡ old)

-- each command is answered in turn, from one desk to the next
abbrev pub Ran : List CShape → List CCommand → List CAnswer → Desk → Desk → Type 0
Ran shapes [] [] old new = new ≡ old
Ran shapes [] (a ∷ answers) old new = ⊥
Ran shapes (c ∷ commands) [] old new = ⊥
Ran shapes (c ∷ commands) (a ∷ answers) old new = (mid : Desk) × IsAnsweredAs (command_said shapes c) old a mid × Ran shapes commands answers mid new

-- the same where there may be no world
abbrev pub RanAll : List CShape → List CCommand → List CAnswer → Option Desk → Option Desk → Type 0
RanAll shapes commands answers None None = (commands ≡ []) × (answers ≡ [])
RanAll shapes commands answers None (Some new) = ⊥
RanAll shapes commands answers (Some old) None = ⊥
RanAll shapes commands answers (Some old) (Some new) = Ran shapes commands answers old new
