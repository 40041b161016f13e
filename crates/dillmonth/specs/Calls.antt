-- Trusted: What a call does to the desk that a caller holds.
use Rattle.std.specs.Prelude.{◌≡◌, ℕ, ◌==◌, ◌⊎◌, cond, Option, Some, None, option_map, Result, Ok, Err}
use Rattle.fixed_geom.specs.declared.refusal.Refusal.{Refusal}
use Rattle.plain_world.specs.Bodies.{view_of}
use Rattle.plain_world.specs.declared.body.BodyDef.{BodyDef}
use Rattle.plain_world.specs.declared.body.BodyView.{BodyView}
use Rattle.plain_world.specs.declared.joint.JointDef.{JointDef}
use Rattle.dillmonth.specs.Forms.{answer_said, bare, handle_said}
use Rattle.dillmonth.specs.Lists.{view_shown}
use Rattle.dillmonth.specs.declared.forms.CAnswer.{CAnswer}
use Rattle.dillmonth.specs.declared.forms.CHandle.{CHandle}
use Rattle.dillmonth.specs.declared.forms.CView.{CView}
use Rattle.dillmonth.specs.declared.statuses.TheConstants.{NO_WORLD}
use Rattle.world_desk.specs.Logs.{Applies}
use Rattle.world_desk.specs.Tags.{tag_of}
use Rattle.world_desk.specs.declared.desk.Desk.{Desk}
use Rattle.world_rules.specs.World.{body_named}
use Rattle.world_rules.specs.declared.command.Command.{Command}
use Rattle.world_rules.specs.declared.command.Command.TheVariants.{CreateBody, CreateJoint}
use Rattle.world_rules.specs.declared.command.Reply.{Reply}

-- one command, by the rules of the world, and the events that it adds: what is answered is the outcome in numbers
abbrev pub IsAnswered : Command → Desk → CAnswer → Desk → Type 0
IsAnswered c old answer new = (outcome : Result Reply Refusal) × (answer ≡ answer_said outcome) × Applies c old outcome new

-- the same where there may be no world
abbrev pub Does : Command → Option Desk → CAnswer → Option Desk → Type 0
Does c None answer None = answer ≡ bare NO_WORLD
Does c None answer (Some new) = ⊥
Does c (Some old) answer None = ⊥
Does c (Some old) answer (Some new) = IsAnswered c old answer new

-- a command of which the caller learns the status
abbrev pub DoesAs : Command → Option Desk → ℕ → Option Desk → Type 0
DoesAs c old status new = (answer : CAnswer) × (status ≡ answer.status) × Does c old answer new

-- a command that makes something, whose id is written where it is done
abbrev pub Makes : Command → Option Desk → ℕ → CHandle → CHandle → Option Desk → Type 0
Makes c old status before after new = (answer : CAnswer) × (status ≡ answer.status) × (after ≡ cond (answer.status == 0) answer.made before) × Does c old answer new

-- a step, whose number is written where it is done
abbrev pub Steps : Command → Option Desk → ℕ → ℕ → ℕ → Option Desk → Type 0
Steps c old status before after new = (answer : CAnswer) × (status ≡ answer.status) × (after ≡ cond (answer.status == 0) answer.step before) × Does c old answer new

-- a joint is made of what was said; or it is said why there is none, and nothing has changed
abbrev pub Joins : Result JointDef ℕ → Option Desk → ℕ → CHandle → CHandle → Option Desk → Type 0
Joins (Err due) old status before after new = (status ≡ due) × (after ≡ before) × (new ≡ old)
Joins (Ok def) old status before after new = Makes (CreateJoint def) old status before after new

-- a body is made of what was said; or it is said why there is none, or memory is wanting for its shapes, and nothing
-- has changed
abbrev pub Creates : Result BodyDef ℕ → Option Desk → ℕ → CHandle → CHandle → Option Desk → Type 0
Creates (Err due) old status before after new = ((status ≡ due) ⊎ (status ≡ 1)) × (after ≡ before) × (new ≡ old)
Creates (Ok def) old status before after new = Makes (CreateBody def) old status before after new ⊎ ((status ≡ 1) × (after ≡ before) × (new ≡ old))

-- ---- one body

-- what is seen of a body is written, or 2 is answered where it isn't there
abbrev pub IsSeen : Option BodyView → CHandle → ℕ → ℕ → CView → CView → Type 0
IsSeen None h tag status before after = (status ≡ 2) × (after ≡ before)
IsSeen (Some view) h tag status before after = (status ≡ 0) × (after ≡ view_shown h tag view)

abbrev pub IsSeenIn : CHandle → Option Desk → ℕ → CView → CView → Type 0
IsSeenIn h None status before after = (status ≡ NO_WORLD) × (after ≡ before)
IsSeenIn h (Some desk) status before after = IsSeen (option_map view_of (body_named desk.world.plain (handle_said h))) h (tag_of desk.tags.items (handle_said h)) status before after
