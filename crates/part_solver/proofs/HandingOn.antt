-- Bodies are handed on before a stage: what a part sends and takes in by its own moves is what the walk of all says.
use Rattle.std.proofs.Common.{◌≡◌, ℕ, zero, suc, List, [], ◌∷◌, ◌++◌, filter, get_or, length, map, refl, sym, ap, ap₂, subst, ◌∙◌}
use Rattle.std.proofs.lemmas.List.{length-map}
use Rattle.momenta.specs.declared.state.BodyState.{BodyState}
use Rattle.colour_solver.specs.States.{AreAllStates, nobody}
use Rattle.part_runs.specs.Hidden.{hidden, part_at}
use Rattle.part_runs.specs.Handing.{IsHandedOn, left_by, left_for, let_go, letter, taken_from}
use Rattle.part_runs.specs.Runs.{Step, mail}
use Rattle.part_runs.specs.Laws.{AreFirst, OwnMovesTell}
use Rattle.part_runs.specs.Walks.{Move, Walk, goes, own_moves, slots_between}
use Rattle.part_solver.specs.Exchange.{HaveCome, IsExchanged, MaySendAll, let_go_for, own_walk, put_from, put_in}
use Rattle.part_solver.specs.Mail.{ArePosted, IsPosted, Posts}
use Rattle.part_solver.specs.Walking.{kept}
use Rattle.part_solver.specs.declared.moves.BodyMove.{BodyMove}
use Rattle.part_solver.proofs.ExchangeLaws.{as_move, put_all, slot_of}
use Rattle.part_solver.proofs.MailLaws.{may_send}
use Rattle.part_solver.proofs.StateLaws.{gone_states, left_for_states}

-- ---- the moves that a part keeps tell what goes from it and to it

abbrev pub as_body : Move → BodyMove
as_body m = record { slot = m.slot; from = m.from; to = m.to }

back_again : (moves : List Move) → map as_move (map as_body moves) ≡ moves
back_again [] = refl
back_again (m ∷ moves) = ap (λ (l : List Move). m ∷ l) (back_again moves)

sent_told : OwnMovesTell → (k v : ℕ) (w : Walk) → slots_between k v (own_walk (kept k w.moves)) ≡ slots_between k v w
sent_told tell k v w = ap (λ (l : List Move). map slot_of (filter (goes k v) l)) (back_again (own_moves k w.moves)) ∙ ap (map slot_of) ((tell k w.moves).sent v)

come_told : OwnMovesTell → (k u : ℕ) (w : Walk) → slots_between u k (own_walk (kept k w.moves)) ≡ slots_between u k w
come_told tell k u w = ap (λ (l : List Move). map slot_of (filter (goes u k) l)) (back_again (own_moves k w.moves)) ∙ ap (map slot_of) ((tell k w.moves).received u)

left_alike : (n k : ℕ) (a b : Walk) (ss : List BodyState) → ((v : ℕ) → slots_between k v a ≡ slots_between k v b) → left_for n k a ss ≡ left_for n k b ss
left_alike zero k a b ss same = refl
left_alike (suc v) k a b ss same = ap₂ (λ (slots : List ℕ) (l : List BodyState). left_by slots l) (same v) (left_alike v k a b ss same)

put_alike : (n k : ℕ) (a b : Walk) (all ss : List BodyState) → ((u : ℕ) → slots_between u k a ≡ slots_between u k b) → put_from n k a (λ (u : ℕ). letter u k b all) ss ≡ taken_from n k b all ss
put_alike zero k a b all ss same = refl
put_alike (suc u) k a b all ss same =
    ap₂ (λ (slots : List ℕ) (l : List BodyState). put_in slots (letter u k b all) l) (same u) (put_alike u k a b all ss same) ∙ put_all (slots_between u k b) all (taken_from u k b all ss)

-- ---- before a stage

module _ (t : Step) (n k : ℕ) (before : List ℕ) (w : Walk) (all : List BodyState) (sent : ℕ → ℕ → List BodyState) (moves : List BodyMove) (states : List BodyState) (old : Posts) (tell : OwnMovesTell) (kept_are : moves ≡ kept k w.moves)
    (is : states ≡ hidden (part_at before) k all) (sound : AreAllStates states) (handed : IsHandedOn n before w all) (posted : ArePosted t n k sent old) (first : (u v : ℕ) → AreFirst (sent u v ++ letter u v w all) (mail t u v)) where
  own : Walk
  own = own_walk moves

  sends : (v : ℕ) → slots_between k v (own_walk moves) ≡ slots_between k v w
  sends v = ap (λ (m : List BodyMove). slots_between k v (own_walk m)) kept_are ∙ sent_told tell k v w

  takes : (u : ℕ) → slots_between u k (own_walk moves) ≡ slots_between u k w
  takes u = ap (λ (m : List BodyMove). slots_between u k (own_walk m)) kept_are ∙ come_told tell k u w

  -- what the part lets go for the part v
  letter_is : (v : ℕ) → let_go_for v k (own_walk moves) states ≡ letter k v w all
  letter_is v =
      ap₂ (λ (slots : List ℕ) (l : List BodyState). let_go slots l) (sends v) (left_alike v k (own_walk moves) w states sends ∙ ap (left_for v k w) is) ∙ (handed.sent k v).letter_is

  pub may_send_all : MaySendAll n k (own_walk moves) states old
  may_send_all v lt =
      may_send t k v (sent k v) (let_go_for v k (own_walk moves) states) (get_or old.outs v []) (posted.outs v lt) (subst (λ (l : List BodyState). AreFirst (sent k v ++ l) (mail t k v)) (sym (letter_is v)) (first k v))
      (gone_states (slots_between k v (own_walk moves)) (left_for v k (own_walk moves) states) (left_for_states v k (own_walk moves) states sound))

  module _ (now : List BodyState) (new : Posts) (exchanged : IsExchanged n k (own_walk moves) states now old new) where
    come : HaveCome t n k (own_walk moves) (λ (u : ℕ). sent u k) (λ (u : ℕ). letter u k w all) (left_for n k (own_walk moves) states) now new
    come = exchanged.came t (λ (u : ℕ). sent u k) (λ (u : ℕ). letter u k w all) (record {
      posted = posted.ins;
      first = λ u lt. first u k;
      long = λ u lt. length-map (slots_between u k w) (λ (slot : ℕ). get_or all slot nobody) ∙ sym (ap length (takes u));
    })

    pub handed_on : now ≡ hidden (part_at w.at) k all
    handed_on =
        come.bodies ∙ put_alike n k (own_walk moves) w all (left_for n k (own_walk moves) states) takes
        ∙ ap (taken_from n k w all) (left_alike n k (own_walk moves) w states sends ∙ ap (left_for n k w) is) ∙ handed.bodies k

    pub sound_still : AreAllStates now
    sound_still = come.all_states (left_for_states n k (own_walk moves) states sound)

    pub posted_on : ArePosted t n k (λ (u v : ℕ). sent u v ++ letter u v w all) new
    posted_on = record {
      outs_count = exchanged.outs_count ∙ posted.outs_count;
      ins_count = exchanged.ins_count ∙ posted.ins_count;
      outs = λ v lt. subst (λ (l : List BodyState). IsPosted t k v (sent k v ++ l) (get_or new.outs v [])) (letter_is v) (exchanged.sent t v (sent k v) lt (posted.outs v lt));
      ins = come.posted;
    }
