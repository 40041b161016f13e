use Rattle.std.proofs.Common.{◌∙◌}
use Rattle.box_tree.specs.BoxLists.{asked_hit}
use Rattle.box_tree.proofs.RayLemmas.{first_is_scan, leaves_within, asked_within, asked_is_first}
use Rattle.box_tree.proofs.boxes.BoxTree.first_on_ray.Goals as goal

pub first_hit-requires : goal.first_hit-requires
first_hit-requires g c =
    rw (c.deref.ensures.value, c.deref-2.ensures.value)
    (leaves_within (g.R.Ray.reaches c.args.ray.now) (asked_hit (g.R.Ray.reaches c.args.ray.now) (g.R.Ray.hit c.args.ray.now) c.self.inside.boxes.items) _ c.self.inside.entries.items c.self.inside.boxes.items (λ outer inner. g.met.R.Ray.misses_within c.args.ray.now outer inner) c.self.invariant.index
    (asked_within (g.R.Ray.reaches c.args.ray.now) (g.R.Ray.hit c.args.ray.now) c.self.inside.boxes.items))

pub returns : goal.returns
returns g c =
    rw (← c.self.view_is)
    ((rw (c.deref.ensures.value, c.deref-2.ensures.value) at c.first_hit.ensures)
    ∙ first_is_scan (asked_hit (g.R.Ray.reaches c.args.ray.now) (g.R.Ray.hit c.args.ray.now) c.self.inside.boxes.items) _ c.self.inside.entries.items c.self.inside.boxes.items c.self.invariant.index
    ∙ asked_is_first (g.R.Ray.reaches c.args.ray.now) (g.R.Ray.hit c.args.ray.now) c.self.inside.boxes.items (rw (← c.self.view_is) at c.requires))
