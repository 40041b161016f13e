use Rattle.std.proofs.Common.{◌≡◌, ◌+◌, ◌-◌, drop, take, length, sym, ◌∙◌, arith, length-drop}
use Rattle.graph_colours.proofs.EditLemmas.{take_whole}
use Rattle.graph_colours.proofs.RemovalLemmas.{left_out, none_left_out, rising_on, rising_further}
use Rattle.graph_colours.proofs.removals.pass_removal.Goals as goal

pub returns-then-gone-clause-items : goal.returns-then-gone-clause-items
returns-then-gone-clause-items g c = λ later up.
    let n = g.C.ConstraintId.number in
    let ms = c.args.list.now.items in
    let end = c.args.gap.end in
    let long : length (drop end ms) ≡ length ms - end = length-drop end ms in
    let same : take (length ms - end) (drop end ms) ≡ drop end ms = take_whole (drop end ms) (length ms - end) (omega (arith, long)) in
    let before = rw (c.number-number.ensures, c.deref.ensures.value, same) at c.place_from-count.ensures.before in
    let at = rw (c.number-number.ensures, c.deref-2.ensures.value) at (sym c.is_at-gone.ensures ∙ c.if-gone.true) in
    left_out n c.args.edit later ms c.move_down.new.list.items c.args.gap.start end c.place_from-count.result c.requires.rising c.requires.removes before up at c.move_down.ensures.done c.move_down.ensures.rest

pub returns-then-gone-clause-rising : goal.returns-then-gone-clause-rising
returns-then-gone-clause-rising g c =
    let n = g.C.ConstraintId.number in
    let now = c.move_down.new.list.items in
    let at = c.args.gap.end + c.place_from-count.result in
    rising_further n now at (rising_on n c.args.list.now.items now c.args.gap.end c.place_from-count.result c.requires.rising c.move_down.ensures.rest)

pub returns-else-gone-clause-items : goal.returns-else-gone-clause-items
returns-else-gone-clause-items g c = λ later up.
    let n = g.C.ConstraintId.number in
    let ms = c.args.list.now.items in
    let end = c.args.gap.end in
    let long : length (drop end ms) ≡ length ms - end = length-drop end ms in
    let same : take (length ms - end) (drop end ms) ≡ drop end ms = take_whole (drop end ms) (length ms - end) (omega (arith, long)) in
    let before = rw (c.number-number.ensures, c.deref.ensures.value, same) at c.place_from-count.ensures.before in
    let after = rw (c.number-number.ensures, c.deref.ensures.value, same) at c.place_from-count.ensures.after in
    let at = rw (c.number-number.ensures, c.deref-2.ensures.value) at (sym c.is_at-gone.ensures ∙ c.if-gone.false) in
    none_left_out n c.args.edit later ms c.move_down.new.list.items c.args.gap.start end c.place_from-count.result c.requires.rising c.requires.removes before after up at c.move_down.ensures.done c.move_down.ensures.rest

pub returns-else-gone-clause-rising : goal.returns-else-gone-clause-rising
returns-else-gone-clause-rising g c = rising_on g.C.ConstraintId.number c.args.list.now.items c.move_down.new.list.items c.args.gap.end c.place_from-count.result c.requires.rising c.move_down.ensures.rest
