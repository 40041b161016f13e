use Rattle.std.proofs.Common.{codes, refl, [], false, true, rules, to_z-of_z}
use Rattle.std.specs.Int.{w64, w128}
use mir.Val.{SFits}
use Rattle.json.specs.Print.{escape_byte}
use Rattle.saved_text.specs.Leaves.{facing_of}
use Rattle.serde_json.specs.Data.{boolean, string}
use Rattle.world_file_base.specs.SavedBodies.{kind_name}
use Rattle.world_file_base.specs.Written.{decimal_of, integer, natural_or_null, vector_of}
use Rattle.loaded_text.specs.Bodies.{IsFront}
use Rattle.loaded_text.specs.declared.body_members.Front.{Front}
use Rattle.loaded_text.proofs.Joined.{member_then, no_member}
use Rattle.loaded_text.proofs.body_members.read_front.Goals as goal

pub returns-clause-text : goal.returns-clause-text
unfolding escape_byte
returns-clause-text c =
    let first : SFits w64 c.in_ok-inertia.inertia = search rules in
    let second : SFits w64 c.in_ok-mass.mass = search rules in
    let third : SFits w128 c.in_ok-l.l = search rules in
    simp to_z-of_z
    (member_then false _ (codes "asleep") (boolean c.in_ok-asleep.asleep) _ _ _ _ refl c.in_ok-asleep.ensures
    (member_then true _ (codes "at") (vector_of c.in_ok-at.at) _ _ _ _ refl c.in_ok-at.ensures.text
    (member_then true _ (codes "enabled") (boolean c.in_ok-enabled.enabled) _ _ _ _ refl c.in_ok-enabled.ensures
    (member_then true _ (codes "facing") (facing_of c.in_ok-facing.facing) _ _ _ _ refl c.in_ok-facing.ensures.text
    (member_then true _ (codes "inertia") (integer c.in_ok-inertia.inertia) _ _ _ _ refl c.in_ok-inertia.ensures.text
    (member_then true _ (codes "island") (natural_or_null c.in_ok-island.island) _ _ _ _ refl c.in_ok-island.ensures.text
    (member_then true _ (codes "kind") (string (kind_name c.in_ok-kind.kind)) _ _ _ _ refl c.in_ok-kind.ensures
    (member_then true _ (codes "l") (decimal_of c.in_ok-l.l) _ _ _ _ refl c.in_ok-l.ensures.text
    (member_then true _ (codes "loose") (boolean c.in_ok-loose.loose) _ _ _ _ refl c.in_ok-loose.ensures
    (member_then true _ (codes "mass") (integer c.in_ok-mass.mass) _ _ _ _ refl c.in_ok-mass.ensures.text
    (member_then true _ (codes "p") (vector_of c.in_ok-p.p) [] _ _ _ refl c.in_ok-p.ensures.text (no_member true _))))))))))))

pub returns-clause-fits : goal.returns-clause-fits
returns-clause-fits c =
    let first : SFits w64 c.in_ok-inertia.inertia = search rules in
    let second : SFits w64 c.in_ok-mass.mass = search rules in
    let third : SFits w128 c.in_ok-l.l = search rules in
    let front : Front = record {
      asleep = c.in_ok-asleep.asleep;
      at = c.in_ok-at.at;
      enabled = c.in_ok-enabled.enabled;
      facing = c.in_ok-facing.facing;
      inertia = c.in_ok-inertia.inertia;
      island = c.in_ok-island.island;
      kind = c.in_ok-kind.kind;
      l = c.in_ok-l.l;
      loose = c.in_ok-loose.loose;
      mass = c.in_ok-mass.mass;
      p = c.in_ok-p.p;
    } in
    let fits : IsFront front = record {
      at = rw c.unsigned_abs.ensures.value at c.in_ok-at.ensures.within;
      facing = c.in_ok-facing.ensures.facing;
      inertia = c.in_ok-inertia.ensures.signed;
      island = c.in_ok-island.ensures.low;
      l = rw c.unsigned_abs-2.ensures.value at c.in_ok-l.ensures.size;
      mass = c.in_ok-mass.ensures.signed;
      p = rw c.unsigned_abs-3.ensures.value at c.in_ok-p.ensures.within;
    } in
    simp to_z-of_z fits
