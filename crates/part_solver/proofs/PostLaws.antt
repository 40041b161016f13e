-- What a part has sent to some of the others, and what has come from some of them, one further.
use Rattle.std.proofs.Common.{◌≡◌, ◌≢◌, ℕ, ◌+◌, ◌<◌, List, [], ◌∷◌, ◌++◌, get_or, length, set, arith, add-one, sym, ap, subst, inl, inr, ◌∙◌}
use Rattle.std.proofs.lemmas.Bool.{cases_lt}
use Rattle.std.proofs.lemmas.List.{get_or-set_other, get_or-set_same, length-set}
use Rattle.momenta.specs.declared.state.BodyState.{BodyState}
use Rattle.colour_solver.specs.States.{AreAllStates}
use Rattle.part_runs.specs.Handing.{left_by, left_for, let_go}
use Rattle.part_runs.specs.Runs.{Step}
use Rattle.part_runs.specs.Walks.{Walk, slots_between}
use Rattle.part_solver.specs.declared.mail.Item.{Item}
use Rattle.part_solver.specs.Exchange.{AreComing, AreSentBelow, AreTakenBelow, HasCome, HaveCome, IsExchanged, IsSentTo, IsTakenFrom, let_go_for, put_from, put_in}
use Rattle.part_solver.specs.Mail.{IsPosted, MaySend, Posts, bodies_of}
use Rattle.part_solver.proofs.MailLaws.{come_next, come_states, posted_more}
use Rattle.part_solver.proofs.StateLaws.{put_states}

-- ---- a letter

pub sent_one : (k v : ℕ) (more : List BodyState) (item : Item) (old mid new : Posts) → mid.outs ≡ old.outs → mid.ins ≡ old.ins → new.outs ≡ set mid.outs v (get_or mid.outs v [] ++ item ∷ []) → new.ins ≡ mid.ins → v < length old.outs
    → bodies_of (item ∷ []) ≡ more → IsSentTo k v more old new
sent_one k v more item old mid new outs ins made still lt is =
    let last : List Item = get_or old.outs v [] ++ item ∷ [] in
    let now : new.outs ≡ set old.outs v last = made ∙ (λ j. set (outs j) v (get_or (outs j) v [] ++ item ∷ [])) in
    record {
      posted = λ t before posted.
          subst (IsPosted t k v (before ++ more)) (sym (ap (λ (l : List (List Item)). get_or l v []) now ∙ get_or-set_same old.outs v last [] lt)) (posted_more t k v before more (get_or old.outs v []) item posted is);
      others = λ u other. ap (λ (l : List (List Item)). get_or l u []) now ∙ get_or-set_other old.outs v u last [] other;
      count = ap length now ∙ length-set old.outs v last;
      ins = still ∙ ins;
    }

pub taken_one : (u k : ℕ) (slots : List ℕ) (states now got : List BodyState) (item : Item) (old mid new : Posts) → mid.ins ≡ set old.ins u (get_or old.ins u [] ++ item ∷ []) → mid.outs ≡ old.outs → new.ins ≡ mid.ins → new.outs ≡ mid.outs → u < length old.ins
    → bodies_of (item ∷ []) ≡ got → MaySend (get_or old.ins u []) got → length got ≡ length slots → now ≡ put_in slots got states → IsTakenFrom u k slots states now old new
taken_one u k slots states now got item old mid new made outs ins_still outs_still lt is may long put =
    let items : List Item = get_or old.ins u [] in
    let last : List Item = items ++ item ∷ [] in
    let there : new.ins ≡ set old.ins u last = ins_still ∙ made in
    record {
      came = λ t before more posted first many.
          let same : got ≡ more = come_next t u k before more got items posted may (long ∙ sym many) first in
          record {
            bodies = put ∙ ap (λ (b : List BodyState). put_in slots b states) same;
            posted =
                subst (IsPosted t u k (before ++ more)) (sym (ap (λ (l : List (List Item)). get_or l u []) there ∙ get_or-set_same old.ins u last [] lt)) (posted_more t u k before more items item posted (is ∙ same));
            all_states = λ all. subst AreAllStates (sym put) (put_states slots got states (come_states got items may) all);
          };
      others = λ v other. ap (λ (l : List (List Item)). get_or l v []) there ∙ get_or-set_other old.ins u v last [] other;
      count = ap length there ∙ length-set old.ins u last;
      outs = outs_still ∙ outs;
    }

-- ---- one part more

pub left_more : (i k : ℕ) (w : Walk) (states now new : List BodyState) → now ≡ left_for i k w states → new ≡ left_by (slots_between k i w) now → new ≡ left_for (i + 1) k w states
left_more i k w states now new is made = made ∙ ap (left_by (slots_between k i w)) is ∙ ap (λ (n : ℕ). left_for n k w states) (sym (add-one i))

pub sent_more : (i k : ℕ) (w : Walk) (states now : List BodyState) (old mid new : Posts) → AreSentBelow i k w states old mid → now ≡ left_for i k w states → IsSentTo k i (let_go (slots_between k i w) now) mid new → AreSentBelow (i + 1) k w states old new
sent_more i k w states now old mid new known is next = record {
  posted = λ t v before lt posted. elim (cases_lt v i) [
    | inl low ↦
        let other : v ≢ i = λ e. absurd (omega (arith, low, e)) in
        subst (IsPosted t k v (before ++ let_go_for v k w states)) (sym (next.others v other)) (known.posted t v before low posted)
    | inr high ↦
        let same : i ≡ v = omega (arith, high, lt) in
        subst (λ (x : ℕ). IsPosted t k x before (get_or old.outs x []) → IsPosted t k x (before ++ let_go_for x k w states) (get_or new.outs x [])) same
        (λ p. subst (λ (l : List BodyState). IsPosted t k i (before ++ let_go (slots_between k i w) l) (get_or new.outs i [])) is (next.posted t before (subst (IsPosted t k i before) (sym (known.others i (omega arith))) p))) posted
  ];
  others = λ v le.
      let other : v ≢ i = λ e. absurd (omega (arith, le, e)) in
      next.others v other ∙ known.others v (omega (arith, le));
  count = next.count ∙ known.count;
  ins = next.ins ∙ known.ins;
}

pub taken_more : (n i k : ℕ) (w : Walk) (states mid_states now : List BodyState) (old mid new : Posts) → i < n → AreTakenBelow n i k w states mid_states old mid → IsTakenFrom i k (slots_between i k w) mid_states now mid new → AreTakenBelow n (i + 1) k w states now old new
taken_more n i k w states mid_states now old mid new lt known next = record {
  came = λ t before more coming.
      let first : HaveCome t i k w before more states mid_states mid = known.came t before more coming in
      let one : HasCome t i k (slots_between i k w) (before i) (more i) mid_states now new =
      next.came t (before i) (more i) (subst (IsPosted t i k (before i)) (sym (known.others i (omega arith))) (coming.posted i lt)) (coming.first i lt) (coming.long i lt) in
      record {
        bodies = one.bodies ∙ ap (put_in (slots_between i k w) (more i)) first.bodies ∙ ap (λ (m : ℕ). put_from m k w more states) (sym (add-one i));
        posted = λ u less. elim (cases_lt u i) [
          | inl low ↦
              let other : u ≢ i = λ e. absurd (omega (arith, low, e)) in
              subst (IsPosted t u k (before u ++ more u)) (sym (next.others u other)) (first.posted u low)
          | inr high ↦
              let same : i ≡ u = omega (arith, high, less) in
              subst (λ (x : ℕ). IsPosted t x k (before x ++ more x) (get_or new.ins x [])) same one.posted
        ];
        all_states = λ all. one.all_states (first.all_states all);
      };
  others = λ u le.
      let other : u ≢ i = λ e. absurd (omega (arith, le, e)) in
      next.others u other ∙ known.others u (omega (arith, le));
  count = next.count ∙ known.count;
  outs = next.outs ∙ known.outs;
}

-- ---- all parts

coming_still : (t : Step) (n k : ℕ) (w : Walk) (before more : ℕ → List BodyState) (old mid : Posts) → mid.ins ≡ old.ins → AreComing t n k w before more old → AreComing t n k w before more mid
coming_still t n k w before more old mid same coming = record {
  posted = λ u lt. subst (λ (l : List (List Item)). IsPosted t u k (before u) (get_or l u [])) (sym same) (coming.posted u lt);
  first = coming.first;
  long = coming.long;
}

pub exchanged_all : (n k : ℕ) (w : Walk) (states sent now : List BodyState) (old mid new : Posts) → sent ≡ left_for n k w states → AreSentBelow n k w states old mid → AreTakenBelow n n k w sent now mid new → IsExchanged n k w states now old new
exchanged_all n k w states sent now old mid new is first next = record {
  sent = λ t v before lt posted. subst (λ (l : List (List Item)). IsPosted t k v (before ++ let_go_for v k w states) (get_or l v [])) (sym next.outs) (first.posted t v before lt posted);
  came = λ t before more coming. subst (λ (l : List BodyState). HaveCome t n k w before more l now new) is (next.came t before more (coming_still t n k w before more old mid first.ins coming));
  outs_count = ap length next.outs ∙ first.count;
  ins_count = next.count ∙ ap length first.ins;
}
