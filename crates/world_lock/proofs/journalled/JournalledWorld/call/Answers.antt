use Rattle.std.proofs.Common.{◌≡◌, ◌∷◌, ◌++◌, [], ap, ◌∙◌, subst}
use Rattle.world_rules.specs.Sound.{IsSound}
use Rattle.world_lock.specs.Journals.{line, opening_of}
use Rattle.world_lock.proofs.Replaying.{journalled_call, opening_stays}
use Rattle.world_lock.proofs.journalled.JournalledWorld.call.Goals as goal

pub invariant_of-self-2 : goal.invariant_of-self-2
invariant_of-self-2 g c =
    let answer = c.in_ok-reply.ensures.answer in
    let e = line c.args.seat c.args.number c.args.command c.in_ok-reply.reply in
    let items : c.push_reserved.new.self.items ≡ c.self.inside.journal.items ++ e ∷ [] = c.push_reserved.ensures.items ∙ ap (λ l. l ++ e ∷ []) c.reserve.ensures.items in
    rw (answer.1, items) (journalled_call c.self.inside.opening c.self.inside.world c.self.inside.journal.items e c.self.invariant answer.0 (subst IsSound answer.1 c.in_ok-reply.ensures.sound))

pub returns : goal.returns
returns g c =
    let answer = c.in_ok-reply.ensures.answer in
    let e = line c.args.seat c.args.number c.args.command c.in_ok-reply.reply in
    let items : c.push_reserved.new.self.items ≡ c.self.inside.journal.items ++ e ∷ [] = c.push_reserved.ensures.items ∙ ap (λ l. l ++ e ∷ []) c.reserve.ensures.items in
    let stays = ap (opening_of c.self.inside.opening) answer.1 ∙ opening_stays c.self.inside.opening c.self.inside.world c.args.command c.self.invariant.booked in
    rw (← c.self.view_is) (answer.0, λ i. record { world = answer.1 i; opening = stays i; opening_totals = c.self.inside.opening.totals; journal = items i })
