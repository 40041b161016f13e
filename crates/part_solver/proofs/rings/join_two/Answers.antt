use Rattle.std.proofs.Common.{◌≡◌, ◌<◌, ◌++◌, ◌∷◌, [], List, get_or, length, set, ap, subst, sym, ◌∙◌}
use Rattle.std.proofs.lemmas.List.{length-set}
use Rattle.rtrb.specs.Ring.{received, sent}
use Rattle.part_solver.specs.declared.mail.Item.{Item}
use Rattle.part_solver.specs.Mail.{Posts}
use Rattle.part_solver.specs.Parts.{no_posts, posts_at}
use Rattle.part_solver.proofs.RingLaws.{at_any, joined}
use Rattle.part_solver.proofs.rings.join_two.Goals as goal

pub returns-clause-joined : goal.returns-clause-joined
returns-clause-joined c =
    let u = c.args.from in
    let v = c.args.to in
    let old : List Posts = c.args.ports.now in
    let p : Posts = c.add_out.new.self in
    let q : Posts = c.add_in.new.self in
    let s : List Item = sent c.in_ok-sender.sender in
    let r : List Item = received c.in_ok-sender.receiver in
    let there : v < length (set old u p) = subst (λ n. v < n) (sym (length-set old u p)) c.requires.to in
    let at_before : get_or old u c.index-ports-from.result ≡ posts_at old u = at_any old u c.index-ports-from.result no_posts c.requires.from in
    let at_mid : get_or (set old u p) v c.index-ports-to-2.result ≡ posts_at (set old u p) v = at_any (set old u p) v c.index-ports-to-2.result no_posts there in
    joined c.args.step.now u v old p q s r c.requires.from c.requires.to
    (c.in_ok-add_out.ensures.outs ∙ ap (λ (x : Posts). x.outs ++ s ∷ []) at_before)
    (c.in_ok-add_out.ensures.ins ∙ ap (λ (x : Posts). x.ins) at_before)
    (c.in_ok-add_in.ensures.outs ∙ ap (λ (x : Posts). x.outs) at_mid)
    (c.in_ok-add_in.ensures.ins ∙ ap (λ (x : Posts). x.ins ++ r ∷ []) at_mid)
    c.in_ok-sender.ensures.sender c.in_ok-sender.ensures.receiver
