-- What the calls ask for where a body is enabled, of what acts once islands were woken.
use Rattle.std.proofs.Common.{◌≡◌, ◌<◌, ℕ, length, false, Option, Some, None, sym, ap, ◌∙◌, subst}
use Rattle.std.specs.Prelude.{option_map, slice_set}
use Rattle.std.proofs.lemmas.Option.{same_Some}
use Rattle.body_handles.specs.declared.handle.Handle.{Handle}
use Rattle.plain_world.specs.Constraints.{constraint_number}
use Rattle.plain_world.specs.declared.constraint.Constraint.{Constraint}
use Rattle.islands.specs.Labels.{label_at}
use Rattle.plain_world.specs.declared.body.Body.{Body}
use Rattle.plain_world.specs.Bodies.{is_mover}
use Rattle.plain_world.specs.Changes.{enabled_body}
use Rattle.plain_world.specs.Slots.{body_at}
use Rattle.sleep_wake.specs.Acting.{Acting}
use Rattle.sleep_wake.specs.ChangeLists.{CanBegin}
use Rattle.solver_sets.specs.Ties.{joint_ties_at}
use Rattle.world_core.specs.Inside.{IsWhole}
use Rattle.world_rules.specs.Sets.{acting_of, with_woken}
use Rattle.world_rules.specs.World.{World, body_named, joints_in_slots}
use Rattle.world_rules.proofs.ActingLaws.{IsWoken, waking_kept}
use Rattle.world_rules.proofs.CallLaws.{can_enable}
use Rattle.world_rules.proofs.KeptChanges.{named_at}
use Rattle.world_rules.proofs.KeptEnabled.{seen_disabled}
use Rattle.world_rules.proofs.PartsLeft.{come_from, joined_slots, woken_bodies, woken_enabled, woken_from}
use Rattle.solver_sets.proofs.SlotLemmas.{below_length}
use Rattle.world_rules.proofs.SoundLaws.{IsKept}
use Rattle.world_core.proofs.PartLaws.{kept_of}

pub body_below : (w : World) (h : Handle) (b : Body) → body_named w.plain h ≡ Some b → h.slot < length w.plain.bodies
body_below w h b named = below_length w.plain.bodies h.slot b (named_at w.plain h b named)

pub record CanEnableFrom (w : World) (s : Acting Constraint) (slot : ℕ) (b : Body) : Type 0 where
  pub fresh : label_at (woken_from w.plain s (joined_slots w.plain slot)).labels slot ≡ None
  pub off : (x : Body) → body_at (woken_bodies w.plain s (joined_slots w.plain slot)) slot ≡ Some x → x.enabled ≡ false
  pub can : CanBegin constraint_number (joint_ties_at slot (slice_set (woken_bodies w.plain s (joined_slots w.plain slot)) slot (woken_enabled w.plain s slot)) (joints_in_slots w.plain)) (come_from slot (is_mover (enabled_body b)) (woken_from w.plain s (joined_slots w.plain slot)))

can_enable_at : (w : World) (slot : ℕ) (b : Body) → IsKept w → body_at w.plain.bodies slot ≡ Some b → b.enabled ≡ false → CanEnableFrom w (acting_of w.plain) slot b
can_enable_at w slot b k at off =
    let can = can_enable w slot b k at off in
    let wk : IsWoken w (joined_slots w.plain slot) = waking_kept w (joined_slots w.plain slot) k in
    let there : body_at (with_woken w.plain (joined_slots w.plain slot)).bodies slot ≡ Some b = seen_disabled w (joined_slots w.plain slot) slot b k at off in
    record {
      fresh = subst (λ (a : Acting Constraint). label_at a.labels slot ≡ None) wk.acting can.fresh;
      off = λ x e. subst (λ (y : Body). y.enabled ≡ false) (same_Some b x (sym there ∙ e)) off;
      can = subst (λ (a : Acting Constraint). CanBegin constraint_number (joint_ties_at slot (slice_set (with_woken w.plain (joined_slots w.plain slot)).bodies slot (woken_enabled w.plain (acting_of w.plain) slot)) (joints_in_slots w.plain)) (come_from slot (is_mover (enabled_body b)) a)) wk.acting
          (subst (λ (o : Option Body). CanBegin constraint_number (joint_ties_at slot (slice_set (with_woken w.plain (joined_slots w.plain slot)).bodies slot o) (joints_in_slots w.plain)) (come_from slot (is_mover (enabled_body b)) (acting_of (with_woken w.plain (joined_slots w.plain slot))))) (sym (ap (option_map enabled_body) there)) can.can);
    }

pub can_enable_from : (w : World) (s : Acting Constraint) (h : Handle) (b : Body) → IsWhole w s → body_named w.plain h ≡ Some b → b.enabled ≡ false → CanEnableFrom w s h.slot b
can_enable_from w s h b is named off = subst (λ (a : Acting Constraint). CanEnableFrom w a h.slot b) (sym is.same) (can_enable_at w h.slot b (kept_of w s is) (named_at w.plain h b named) off)
