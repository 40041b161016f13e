use Rattle.std.proofs.Common.{List, ◌++◌, ◌∷◌, [], length, sym, ◌∙◌, ap, refl, subst}
use Rattle.std.specs.Arc.{arc_value}
use Rattle.world_core.specs.Frames.{View}
use Rattle.frame_mirror.specs.Lists.{AreInOrder}
use Rattle.frame_mirror.proofs.Adding.{adds_moves}
use Rattle.frame_mirror.proofs.mirror.Mirror.begin.Goals as goal

pub compare_exchange-found-requires : goal.compare_exchange-found-requires
compare_exchange-found-requires g c =
    let word = c.self.invariant.1 in
    let empty = c.self.invariant.0 in
    let offer = c.plain-offer.ensures in
    let pen = c.no_pen-pen.ensures in
    let named = sym (ap (λ w. w.book) word) in
    let after : AreInOrder (c.self.inside.seen.log ++ arc_value c.args.frame ∷ []) = subst (λ (xs : List View). AreInOrder (xs ++ arc_value c.args.frame ∷ [])) (sym empty) tt in (
      ap (λ w. w.tracked) word,
      named,
      pen.0 ∙ named,
      offer.0,
      rw (ap (λ w. w.key) word, pen.1, offer.1, offer.3, c.deref.ensures) (adds_moves c.self.inside.seen.log _ _ _ (ap length empty) refl after),
    )
