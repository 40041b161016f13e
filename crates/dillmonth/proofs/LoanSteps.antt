-- The steps that all readers of a lent frame have in common. Assumes `Logic`.
use Rattle.std.proofs.Common.{◌≡◌, ℕ, ◌^◌, List, [], ◌∷◌, refl, Option, Some, None}
use seplogic.Ra.Ura.{Ura}
use base.Fml.{Lft, Share, flft}
use types.Logic.{Logic}
use types.Kit.{Item, Goal, Seq, Step, step, ‵, raw, ◌⊛◌, ◌$◌, move, use1, split, fsplit, fjoin, feq_l, flt_l, flt_i}
use contract.Monad.{fact}
use denote.Exit.{Kept, left}
use denote.Signature.{Slot}
use denote.Memory.{hidden_shr}
use denote.Opens.{hide}
use denote.RawPtr.{Ptr, InBlock, null_ptr, Testable, block_of, count_of}
use denote.SharingLaws.{contraction}
use denote.Steps.{heard}
use denote.Struct.Lending.{lent_at, lent_at_shr_laws, in_block_says}
use denote.Triple.End.{Kepts}
use denote.Triple.Walked.{Stay, Stays, AllGo}
use Rattle.dillmonth.specs.Loans.{lent_as}
use Rattle.world_core.specs.Frames.{View}
use Rattle.world_core.specs.contracts.frame.Frame.{the_row as R}
use Rattle.world_core.proofs.frame.Frame.TheLaws.{the_row_laws}

-- of a parameter that is handed on, what the callee says of it
abbrev pub gave : {n : ℕ} (s : Slot n) (k : Kept) → Stay s k
gave s k = record { fit = λ κs x f. Unit {0}; has = λ κs x f vs. left ((s.row κs).exit k) x f }

abbrev pub all_gave : {n : ℕ} (ss : List (Slot n)) (ks : Kepts ss) → Stays ss ks
all_gave [] ks = tt
all_gave (s ∷ ss) ks = (gave s ks.0, all_gave ss ks.1)

pub all_go : {M : Type 1} {𝓤 : Ura M} (𝓛 : Logic 𝓤) (n : ℕ) (ss : List (Slot n)) (ks : Kepts ss) → AllGo 𝓛 n ss ks (all_gave ss ks)
all_go 𝓛 n [] ks = tt
all_go 𝓛 n (s ∷ ss) ks = ((λ κs x f vs fit. 𝓛.laws.⇛_intro _), all_go 𝓛 n ss ks.1)

module _ {M : Type 1} {𝓤 : Ura M} {𝓛 : Logic 𝓤} {K : Type 0} {Γ : List (Item 𝓤)} {G : Goal 𝓤 𝓛.H} where
  -- there is no frame at null, and else one that is seen for as long as it is lent
  pub either_lent : K → (κ : Lft) (q : Share) (o : Option View) (p : Ptr)
      → (p ≡ null_ptr → o ≡ None → Seq K 𝓛 Γ G)
      → ((x : View) → o ≡ Some x → InBlock p → Testable p → Seq K 𝓛 (‵ (flft κ q) ∷ ‵ (hidden_shr R κ x (block_of p) (count_of p)) ∷ ‵ (lent_at R p x κ) ∷ Γ) G)
      → Seq K 𝓛 (‵ (lent_as κ q o p) ∷ Γ) G
  either_lent t κ q None p none one = feq_l t (λ e. none e refl)
  either_lent t κ q (Some x) p none one =
      fsplit t $ move t (1 ∷ []) $ fsplit t $ flt_l t (λ low.
      use1 𝓛 (‵ (lent_at R p x κ) ⊛ ‵ (lent_at R p x κ)) (contraction 𝓛 (lent_at R p x) (lent_at_shr_laws R the_row_laws.shr_laws p x) κ) $ split t $
      fsplit t $ use1 𝓛 (raw (fact 𝓤 (InBlock p))) (in_block_says 𝓛 p) $ heard t (InBlock p) (λ inb. hide t $ move t (2 ∷ 0 ∷ 1 ∷ []) $ one x refl inb low))

  pub lent_again : K → (κ : Lft) (q : Share) (x : View) (p : Ptr) → Testable p → Step K 𝓛 (‵ (lent_as κ q (Some x) p) ∷ Γ) G (‵ (flft κ q) ∷ ‵ (lent_at R p x κ) ∷ Γ) G
  lent_again t κ q x p low = step (λ s. move t (1 ∷ []) $ flt_i t (count_of p) (2 ^ 63) low $ fjoin t $ move t (1 ∷ 0 ∷ []) $ fjoin t $ s)
