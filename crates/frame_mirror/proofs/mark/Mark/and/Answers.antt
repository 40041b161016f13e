use Rattle.std.proofs.Common.{rules, ◌+◌, ◌≡◌, List, ◌++◌, ◌∷◌, [], length, sym, ◌∙◌, ap, refl, eq-eqb, subst}
use Rattle.std.specs.Arc.{arc_value}
use Rattle.world_core.specs.Frames.{View}
use Rattle.frame_mirror.specs.Lists.{AreInOrder}
use Rattle.frame_mirror.proofs.Adding.{adds_moves}
use Rattle.frame_mirror.proofs.Grown.{grown, order_grown}
use Rattle.frame_mirror.proofs.mark.Mark.and.Goals as goal

pub compare_exchange-found-requires : goal.compare_exchange-found-requires
compare_exchange-found-requires g c =
    let word = c.args.list.now.word_is in
    let offer = c.plain-offer.ensures in
    let pen = c.no_pen-pen.ensures in
    let same = c.again-seen.ensures in
    let named = ap (λ s. s.book) same ∙ (c.self.invariant.1 ∙ sym (ap (λ w. w.book) word)) in
    let long = ap (λ s. length s.log) same ∙ c.self.invariant.0 in
    let later = c.requires.later in
    let order : AreInOrder (c.self.inside.seen.log ++ arc_value c.args.frame ∷ []) =
    order_grown c.self.inside.seen.log later.0 (arc_value c.args.frame) c.self.invariant.3 (rw c.self.view_is later.1) later.2 in
    let after : AreInOrder (c.again-seen.result.log ++ arc_value c.args.frame ∷ []) = subst (λ (xs : List View). AreInOrder (xs ++ arc_value c.args.frame ∷ [])) (sym (ap (λ s. s.log) same)) order in (
      ap (λ w. w.tracked) word,
      named,
      pen.0 ∙ named,
      offer.0,
      rw (ap (λ w. w.key) word, pen.1, offer.1, offer.3, c.deref.ensures) (adds_moves c.again-seen.result.log _ _ _ long refl after),
    )

pub invariant_of-mark : goal.invariant_of-mark
invariant_of-mark g c =
    let done = c.compare_exchange-found.ensures in
    let same = c.again-seen.ensures in
    let long = ap (λ s. length s.log) same ∙ c.self.invariant.0 in
    let told = rw (eq-eqb c.compare_exchange-found.result (c.self.inside.place + 1) c.if-found-old.false) at done.7 in
    let added : c.compare_exchange-found.new.seen.log ≡ c.again-seen.result.log ++ arc_value c.args.frame ∷ [] = search rules in
    let later = c.requires.later in
    let order : AreInOrder (c.self.inside.seen.log ++ arc_value c.args.frame ∷ []) =
    order_grown c.self.inside.seen.log later.0 (arc_value c.args.frame) c.self.invariant.3 (rw c.self.view_is later.1) later.2 in
    let log : c.compare_exchange-found.new.seen.log ≡ c.self.inside.seen.log ++ arc_value c.args.frame ∷ [] = added ∙ ap (λ s. s.log ++ arc_value c.args.frame ∷ []) same in
    let it = grown _ _ _ _ added long in
    (it.0, done.0 ∙ (ap (λ s. s.book) same ∙ c.self.invariant.1), it.1, rw log order)

pub invariant_of-copy : goal.invariant_of-copy
invariant_of-copy g c =
    let it = invariant_of-mark g c in rw (c.again.ensures, c.requires.alike) it
