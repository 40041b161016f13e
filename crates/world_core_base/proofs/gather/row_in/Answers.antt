use Rattle.std.proofs.Common.{rules, ◌≡◌, ◌<◌, ◌⊎◌, ◌∙◌, length, sym, subst, ap, true, Fits, w8, w32}
use Rattle.momenta.specs.declared.state.Ends.{Ends}
use Rattle.contacts_base.specs.declared.key.ContactKey.{ContactKey}
use Rattle.colour_solver_base.specs.declared.row.Bodies as pairs
use Rattle.colour_solver_base.specs.Rows.{contact_row}
use Rattle.world_core_base.proofs.ContactLaws.{row_below, same_keys}
use Rattle.world_core_base.proofs.gather.row_in.Goals as goal

pub ends_at-ends-requires-clause-first : goal.ends_at-ends-requires-clause-first
ends_at-ends-requires-clause-first c =
    let key = c.args.key in
    let own = c.args.own in
    let a : Fits w8 own.first.index = search rules in
    let b : Fits w8 own.second.index = search rules in
    let s : Fits w32 own.second.slot = search rules in
    let f : Fits w8 key.first.index = search rules in
    let g : Fits w8 key.second.index = search rules in
    let t : Fits w32 key.second.slot = search rules in
    let same : own ≡ key = same_keys own key c.requires.same a.fits b.fits s.fits f.fits g.fits t.fits in
    subst (λ (k : ContactKey). k.first.slot < length c.args.states.now) same c.requires.contact.first

pub ends_at-ends-requires-clause-second : goal.ends_at-ends-requires-clause-second
ends_at-ends-requires-clause-second c =
    let key = c.args.key in
    let own = c.args.own in
    let a : Fits w8 own.first.index = search rules in
    let b : Fits w8 own.second.index = search rules in
    let s : Fits w32 own.second.slot = search rules in
    let f : Fits w8 key.first.index = search rules in
    let g : Fits w8 key.second.index = search rules in
    let t : Fits w32 key.second.slot = search rules in
    let same : own ≡ key = same_keys own key c.requires.same a.fits b.fits s.fits f.fits g.fits t.fits in
    subst (λ (k : ContactKey). k.second.slot < length c.args.states.now) same c.requires.contact.second

pub contact_row-requires-clause-mover : goal.contact_row-requires-clause-mover
contact_row-requires-clause-mover c = subst (λ (e : Ends). (e.a.movable ≡ true) ⊎ (e.b.movable ≡ true)) (sym c.ends_at-ends.ensures.value) c.requires.movable

pub returns-clause-row : goal.returns-clause-row
returns-clause-row c = λ x e.
    let key = c.args.key in
    let own = c.args.own in
    let a : Fits w8 own.first.index = search rules in
    let b : Fits w8 own.second.index = search rules in
    let s : Fits w32 own.second.slot = search rules in
    let f : Fits w8 key.first.index = search rules in
    let g : Fits w8 key.second.index = search rules in
    let t : Fits w32 key.second.slot = search rules in
    let same : own ≡ key = same_keys own key c.requires.same a.fits b.fits s.fits f.fits g.fits t.fits in
    let made = sym (ap (λ (p : pairs.Bodies). contact_row p c.ends_at-ends.result c.args.contact.now) c.bodies_of.ensures.value) ∙ (sym c.contact_row.ensures.value ∙ e) in
    row_below c.args.states.now key (record { key = c.args.own; surface = c.args.surface; contact = c.args.contact.now }) c.ends_at-ends.result x c.requires.contact same made (c.contact_row.ensures.row x e)
