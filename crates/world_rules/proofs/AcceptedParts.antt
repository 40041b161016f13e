-- Accepted commands that make and end parts of a world keep it, in the words of what `apply` leaves: a body destroyed,
-- disabled or enabled, a joint made or destroyed.
use Rattle.std.proofs.Common.{◌≡◌, ◌<◌, ◌^◌, ◌++◌, List, [], Option, Some, None, Result, Ok, Err, Bool, true, false, cond, nat_lt, ltb-true, refl, sym, subst, ◌∷◌}
use Rattle.std.proofs.lemmas.List.{append-nil}
use Rattle.fixed_geom.specs.declared.refusal.Refusal.{Refusal}
use Rattle.fixed_geom.specs.declared.refusal.Refusal.TheVariants.{BodyDisabled, TooMany}
use Rattle.fixed_geom.specs.Refusals.{need}
use Rattle.body_handles.specs.declared.handle.Handle.{Handle}
use Rattle.body_handles.specs.declared.slot_table.TheConstants.{MAX_SLOTS}
use Rattle.body_handles.specs.SlotEntries.{lowest}
use Rattle.impulse_ledger.specs.declared.entry.Entry.{Entry}
use Rattle.plain_world.specs.declared.body.Body.{Body}
use Rattle.plain_world.specs.declared.joint.BodyJoint.{BodyJoint}
use Rattle.plain_world.specs.declared.joint.JointDef.{JointDef}
use Rattle.plain_world.specs.Joints.{joint_made, joint_of}
use Rattle.plain_world.specs.Plain.{Plain}
use Rattle.solver_sets.specs.Joining.{handle_at}
use Rattle.world_rules.specs.Apply.{Applied, apply_destroy, apply_disable, apply_enable, apply_join, apply_unjoin, disabled, join_refusal, joined, world_with, unless_refused, where_named, destroyed, enabled, quietly, joint_gone}
use Rattle.world_rules.specs.World.{World, body_named}
use Rattle.world_rules.proofs.KeptBodies.{destroy_kept, disable_kept}
use Rattle.world_rules.proofs.KeptEnabled.{enable_kept}
use Rattle.world_rules.proofs.KeptJoints.{join_allowed, join_kept, unjoin_kept}
use Rattle.world_rules.proofs.SoundLaws.{IsKept}
use Rattle.world_rules.specs.Sets.{with_woken}

-- ---- what a command leaves

left_by : (w : World) (b a : Applied) → ◌≡◌ {A = Result Applied Refusal} (Ok b) (Ok a) → IsKept (world_with w b) → IsKept (world_with w a)
left_by w b a e k = let same : b ≡ a = cc in subst (λ (c : Applied). IsKept (world_with w c)) same k

-- where nothing is booked
nothing_booked : (w : World) (p : Plain) → IsKept (record w { plain = p }) → IsKept (record w { plain = p; entries = w.entries ++ [] })
nothing_booked w p k = subst (λ (es : List Entry). IsKept (record w { plain = p; entries = es })) (sym (append-nil w.entries)) k

-- ---- bodies

pub destroy_accepted : (w : World) (h : Handle) (a : Applied) → IsKept w → w.plain.calls < 2 ^ 40 → apply_destroy w.plain h ≡ Ok a → IsKept (world_with w a)
destroy_accepted w h a k few e = by (body_named w.plain h) refl e
  where
    by : (o : Option Body) → body_named w.plain h ≡ o → where_named o (λ body. Ok (destroyed w.plain h body)) ≡ Ok a → IsKept (world_with w a)
    by None f g = cc
    by (Some b) f g = left_by w _ a g (destroy_kept w h b k few f)

pub disable_accepted : (w : World) (h : Handle) (a : Applied) → IsKept w → w.plain.calls < 2 ^ 40 → apply_disable w.plain h ≡ Ok a → IsKept (world_with w a)
disable_accepted w h a k few e = by (body_named w.plain h) refl e
  where
    on : (t : Bool) (b : Body) → body_named w.plain h ≡ Some b → ◌≡◌ {A = Result Applied Refusal} (cond t (Ok (disabled w.plain h b)) (Err BodyDisabled)) (Ok a) → IsKept (world_with w a)
    on true b f g = left_by w _ a g (disable_kept w h b k few f)
    on false b f g = cc

    by : (o : Option Body) → body_named w.plain h ≡ o → where_named o (λ body. need body.enabled BodyDisabled (Ok (disabled w.plain h body))) ≡ Ok a → IsKept (world_with w a)
    by None f g = cc
    by (Some b) f g = on b.enabled b f g

pub enable_accepted : (w : World) (h : Handle) (a : Applied) → IsKept w → w.plain.calls < 2 ^ 40 → apply_enable w.plain h ≡ Ok a → IsKept (world_with w a)
enable_accepted w h a k few e = by (body_named w.plain h) refl e
  where
    by : (o : Option Body) → body_named w.plain h ≡ o → where_named o (λ body. Ok (quietly (enabled w.plain h body))) ≡ Ok a → IsKept (world_with w a)
    by None f g = cc
    by (Some b) f g = left_by w _ a g (nothing_booked w _ (enable_kept w h b k few f))

-- ---- joints

pub join_accepted : (w : World) (d : JointDef) (a : Applied) → IsKept w → w.plain.calls < 2 ^ 40 → apply_join w.plain d ≡ Ok a → IsKept (world_with w a)
join_accepted w d a k few e = by (join_refusal (body_named w.plain d.a) (body_named w.plain d.b) d) refl e
  where
    room : (t : Bool) → nat_lt (lowest w.plain.joint_entries) MAX_SLOTS ≡ t → join_refusal (body_named w.plain d.a) (body_named w.plain d.b) d ≡ None
        → ◌≡◌ {A = Result Applied Refusal} (cond t (Ok (joined w.plain d (handle_at w.plain.joint_entries (lowest w.plain.joint_entries)))) (Err TooMany)) (Ok a) → IsKept (world_with w a)
    room true free f g = left_by w _ a g (nothing_booked w _ (join_kept w (joint_made d) k few (ltb-true (lowest w.plain.joint_entries) MAX_SLOTS free) (join_allowed w d f)))
    room false free f g = cc

    by : (o : Option Refusal) → join_refusal (body_named w.plain d.a) (body_named w.plain d.b) d ≡ o → unless_refused o (need (nat_lt (lowest w.plain.joint_entries) MAX_SLOTS) TooMany (Ok (joined w.plain d (handle_at w.plain.joint_entries (lowest w.plain.joint_entries))))) ≡ Ok a → IsKept (world_with w a)
    by (Some r) f g = cc
    by None f g = room (nat_lt (lowest w.plain.joint_entries) MAX_SLOTS) refl f g

pub unjoin_accepted : (w : World) (h : Handle) (a : Applied) → IsKept w → w.plain.calls < 2 ^ 40 → apply_unjoin w.plain h ≡ Ok a → IsKept (world_with w a)
unjoin_accepted w h a k few e = by (joint_of w.plain.joint_entries w.plain.joints h) refl e
  where
    by : (o : Option BodyJoint) → joint_of w.plain.joint_entries w.plain.joints h ≡ o → where_named o (λ joint. Ok (quietly (joint_gone h joint (with_woken w.plain (joint.a ∷ joint.b ∷ []))))) ≡ Ok a → IsKept (world_with w a)
    by None f g = cc
    by (Some j) f g = left_by w _ a g (nothing_booked w _ (unjoin_kept w h j k few f))
