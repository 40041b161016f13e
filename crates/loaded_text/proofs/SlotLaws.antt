-- Slots of bodies that stand in a text.
use Rattle.std.proofs.Common.{◌≡◌, ℕ, ◌+◌, ◌<◌, ◌≤◌, ◌==◌, ◌++◌, ◌∷◌, [], false, true, not, nat_le, List, Option, Some, None, codes, is_some, unwrap_or, refl, sym, ap, ap₂, ◌∙◌, arith, append-nil}
use Rattle.std.proofs.lemmas.Bool.{and_parts}
use Rattle.std.proofs.lemmas.Bool.Decides.{nat_tests}
use Rattle.std.proofs.lemmas.List.Folds.{list_all-append}
use Rattle.body_handles.specs.declared.slot_table.SlotEntry.{SlotEntry}
use Rattle.body_handles.specs.declared.slot_table.TheConstants.{MAX_SLOTS, WORN_OUT}
use Rattle.plain_world.specs.declared.body.Body.{Body}
use Rattle.saved_text.specs.Tokens.{in_order}
use Rattle.serde_json.specs.Data.{Data, depth, object}
use Rattle.serde_json.specs.Events.{items_len}
use Rattle.serde_json.specs.Find.{get}
use Rattle.serde_json.specs.View.{items_of}
use Rattle.serde_json.specs.Written.{comma_if}
use Rattle.world_file_base.specs.Asks.{no_asks}
use Rattle.world_file_base.specs.Reading.{has_keys}
use Rattle.world_file_base.specs.AskedValues.{whole_asks}
use Rattle.world_file_base.specs.AskedBodies.{body_asks}
use Rattle.world_file_base.specs.SavedSlots.{bodies_in, body_key, generation_in, generation_of_value, is_in_time, memberships_in, no_membership, slot_entry_in, slot_entries_in, slot_body, slot_keys, slot_membership}
use Rattle.world_file_base.specs.AskedSlots.{bodies_asks, body_slot_asks, slot_entry_asks}
use Rattle.world_file_base.specs.Written.{Member, natural}
use Rattle.world_file_base.specs.declared.clause.Clause.TheVariants.{Form, Generations}
use Rattle.world_file_base.specs.declared.reader.Reader.{Reader}
use Rattle.world_file_base.specs.declared.saved.Membership.{Membership}
use Rattle.world_file_base.specs.declared.saved.SavedBodies.{SavedBodies}
use Rattle.world_file.proofs.BackNumbers.{asked_true}
use Rattle.world_file.proofs.BackSlots.{generation_by, in_time_by}
use Rattle.loaded_text.specs.Bodies.{BodiesHold, BodyHolds, BodySlotHolds, are_timed, is_timed}
use Rattle.loaded_text.specs.Stands.{Stands, key_text}
use Rattle.loaded_text.specs.declared.body_slots.BodySlot.{BodySlot}
use Rattle.loaded_text.proofs.Joined.{member_then, no_member, object_stands}
use Rattle.loaded_text.proofs.Lists.{ItemsSoFar, added_more, asked_more, items_count, list_ends, list_shallow, none_so_far, one_more}

-- ---- a slot's generation

pub record IsEntryRead (key : List ℕ) (d : Data) (p : SlotEntry) : Type 0 where
  pub value : slot_entry_in key d ≡ p
  pub asks : (r : Reader) → slot_entry_asks key d r ≡ r

pub entry_read : (key : List ℕ) (d : Data) (p : SlotEntry) → get (codes "generation") d ≡ Some (natural p.generation) → is_some (get key d) ≡ p.live → has_keys (slot_keys (is_some (get key d))) d ≡ true → 1 ≤ p.generation → p.generation ≤ WORN_OUT → (p.live ≡ true → p.generation < WORN_OUT) → IsEntryRead key d p
unfolding slot_entry_in slot_entry_asks
entry_read key d p number live count low high time =
    let all : generation_of_value (get (codes "generation") d) ≡ Some p.generation = ap (λ (v : Option Data). generation_of_value v) number ∙ generation_by p.generation low high in
    let read : generation_in (get (codes "generation") d) ≡ p.generation = ap (λ (v : Option ℕ). unwrap_or v 1) all in
    let value : slot_entry_in key d ≡ p = λ i. record { generation = read i; live = live i } in
    record {
      value = value;
      asks = λ r.
          asked_true (is_in_time (slot_entry_in key d)) Generations _ (ap (λ (v : SlotEntry). is_in_time v) value ∙ in_time_by p.live p.generation time)
          ∙ asked_true (has_keys (slot_keys (is_some (get key d))) d) Form _ count
          ∙ asked_true (is_some (generation_of_value (get (codes "generation") d))) Generations (whole_asks (get (codes "generation") d) r) (ap (λ (v : Option ℕ). is_some v) all)
          ∙ ap (λ (v : Option Data). whole_asks v r) number;
    }

-- ---- free slots

abbrev pub free_members : ℕ → List Member
free_members generation = (codes "generation", natural generation) ∷ []

pub free_stands : (generation : ℕ) (a b c d : List ℕ) → a ≡ 123 ∷ b → Stands (key_text false (codes "generation")) (natural generation) b c → c ≡ 125 ∷ d → Stands [] (object (in_order (free_members generation))) a d
free_stands generation a b c d begun number close =
    object_stands [] (free_members generation) a a b c d refl begun (member_then false _ (codes "generation") (natural generation) [] b c c refl number (no_member true c)) close refl

never : (g : ℕ) → false ≡ true → g < WORN_OUT
never g e = cc

pub free_holds : (generation : ℕ) (a b c d : List ℕ) → 1 ≤ generation → generation ≤ WORN_OUT → a ≡ 123 ∷ b → Stands (key_text false (codes "generation")) (natural generation) b c → c ≡ 125 ∷ d
    → BodySlotHolds (record { entry = record { generation = generation; live = false }; body = None; membership = no_membership }) a d
free_holds generation a b c d low high begun number close =
    let v : Data = object (in_order (free_members generation)) in
    let entry = entry_read body_key v (record { generation = generation; live = false }) refl refl refl low high (never generation) in
    record {
      value = v;
      stands = free_stands generation a b c d begun number close;
      shallow = omega arith;
      entry = entry.value;
      membership = refl;
      body = λ most timed. refl;
      asks = λ most timed. entry.asks no_asks;
    }

-- ---- slots in which a body is

abbrev taken_members : Data → ℕ → List Member
taken_members body generation = (codes "body", body) ∷ (codes "generation", natural generation) ∷ []

taken_depth : (body : Data) (generation : ℕ) → depth body ≤ 5 → depth (object (in_order (taken_members body generation))) ≤ 6
taken_depth body generation low = omega (arith, low)

timed_by : (most timer : ℕ) → nat_le timer most ≡ true → timer ≤ most
timed_by most timer h = grind (arith, nat_tests)

pub taken_holds : (body : Body) (membership : Membership) (generation : ℕ) (a b c d e : List ℕ) → 1 ≤ generation → generation < WORN_OUT
    → a ≡ 123 ∷ b → BodyHolds (key_text false (codes "body")) body membership b c → Stands (key_text true (codes "generation")) (natural generation) c d → d ≡ 125 ∷ e
    → BodySlotHolds (record { entry = record { generation = generation; live = true }; body = Some body; membership = membership }) a e
taken_holds body membership generation a b c d e low high begun held number close =
    let v : Data = object (in_order (taken_members held.value generation)) in
    let entry = entry_read body_key v (record { generation = generation; live = true }) refl refl refl low (omega (arith, high)) (λ live. high) in
    record {
      value = v;
      stands = object_stands [] (taken_members held.value generation) a a b d e refl begun
          (member_then false _ (codes "body") held.value _ b c d refl held.stands (member_then true _ (codes "generation") (natural generation) [] c d d refl number (no_member true d))) close refl;
      shallow = taken_depth held.value generation held.shallow;
      entry = entry.value;
      membership = held.membership;
      body = λ most timed. ap (λ (x : Body). Some x) (held.body most (timed_by most body.timer timed));
      asks = λ most timed. ap (λ r. body_asks most held.value r) (entry.asks no_asks) ∙ held.asks most (timed_by most body.timer timed);
    }

-- ---- lists of slots

entries_more : (ds : List Data) (d : Data) → slot_entries_in body_key (items_of (ds ++ (d ∷ []))) ≡ slot_entries_in body_key (items_of ds) ++ (slot_entry_in body_key d ∷ [])
entries_more [] d = refl
entries_more (e ∷ ds) d = ap (λ l. slot_entry_in body_key e ∷ l) (entries_more ds d)

memberships_more : (ds : List Data) (d : Data) → memberships_in (items_of (ds ++ (d ∷ []))) ≡ memberships_in (items_of ds) ++ (slot_membership d ∷ [])
memberships_more [] d = refl
memberships_more (e ∷ ds) d = ap (λ l. slot_membership e ∷ l) (memberships_more ds d)

bodies_more : (most : ℕ) (ds : List Data) (d : Data) → bodies_in most (items_of (ds ++ (d ∷ []))) ≡ bodies_in most (items_of ds) ++ (slot_body most d ∷ [])
bodies_more most [] d = refl
bodies_more most (e ∷ ds) d = ap (λ l. slot_body most e ∷ l) (bodies_more most ds d)

asks_more : (most : ℕ) (ds : List Data) (d : Data) (r : Reader) → bodies_asks most (items_of (ds ++ (d ∷ []))) r ≡ body_slot_asks most d (bodies_asks most (items_of ds) r)
asks_more most [] d r = refl
asks_more most (e ∷ ds) d r = asks_more most ds d (body_slot_asks most e r)

-- so many slots
pub record BodiesSoFar (n : ℕ) (old now : SavedBodies) (text rest : List ℕ) : Type 0 where
  pub items : List Data
  pub added : List (Option Body)
  pub so_far : ItemsSoFar 6 n items text rest
  pub slot_entries : now.slot_entries.items ≡ old.slot_entries.items ++ slot_entries_in body_key (items_of items)
  pub bodies : now.bodies.items ≡ old.bodies.items ++ added
  pub memberships : now.memberships.items ≡ old.memberships.items ++ memberships_in (items_of items)
  pub timed : (most : ℕ) → are_timed most added ≡ true → bodies_in most (items_of items) ≡ added
  pub asks : (most : ℕ) → are_timed most added ≡ true → bodies_asks most (items_of items) no_asks ≡ no_asks

pub no_body_yet : (old : SavedBodies) (a : List ℕ) → BodiesSoFar 0 old old a a
no_body_yet old a = record {
  items = [];
  added = [];
  so_far = none_so_far 6 a;
  slot_entries = sym (append-nil old.slot_entries.items);
  bodies = sym (append-nil old.bodies.items);
  memberships = sym (append-nil old.memberships.items);
  timed = λ most all. refl;
  asks = λ most all. refl;
}

timed_parts : (most : ℕ) (bodies : List (Option Body)) (body : Option Body) → are_timed most (bodies ++ (body ∷ [])) ≡ true → (are_timed most bodies ≡ true) × (is_timed most body ≡ true)
timed_parts most bodies body all =
    let parts = and_parts (are_timed most bodies) (are_timed most (body ∷ [])) (sym (list_all-append (is_timed most) bodies (body ∷ [])) ∙ all) in
    (parts.0, (and_parts (is_timed most body) true parts.1).0)

pub body_more : (n : ℕ) (old now next : SavedBodies) (slot : BodySlot) (a b c e : List ℕ) → BodiesSoFar n old now a b → b ≡ comma_if (not (n == 0)) ++ c → BodySlotHolds slot c e
    → next.slot_entries.items ≡ now.slot_entries.items ++ (slot.entry ∷ []) → next.bodies.items ≡ now.bodies.items ++ (slot.body ∷ []) → next.memberships.items ≡ now.memberships.items ++ (slot.membership ∷ []) → BodiesSoFar (n + 1) old next a e
body_more n old now next slot a b c e before comma h entry body membership =
    let ds = before.items in
    let d = h.value in
    let all = before.added ++ (slot.body ∷ []) in
    record {
      items = ds ++ (d ∷ []);
      added = all;
      so_far = one_more 6 n ds d a b c e before.so_far comma h.stands h.shallow;
      slot_entries = added_more old.slot_entries.items now.slot_entries.items next.slot_entries.items (slot_entries_in body_key (items_of ds)) (slot_entries_in body_key (items_of (ds ++ (d ∷ [])))) slot.entry before.slot_entries entry (entries_more ds d ∙ ap (λ (p : SlotEntry). slot_entries_in body_key (items_of ds) ++ (p ∷ [])) h.entry);
      bodies = added_more old.bodies.items now.bodies.items next.bodies.items before.added all slot.body before.bodies body refl;
      memberships = added_more old.memberships.items now.memberships.items next.memberships.items (memberships_in (items_of ds)) (memberships_in (items_of (ds ++ (d ∷ [])))) slot.membership before.memberships membership
          (memberships_more ds d ∙ ap (λ (m : Membership). memberships_in (items_of ds) ++ (m ∷ [])) h.membership);
      timed = λ most timed.
          let parts = timed_parts most before.added slot.body timed in
          bodies_more most ds d ∙ ap₂ (λ (l : List (Option Body)) (o : Option Body). l ++ (o ∷ [])) (before.timed most parts.0) (h.body most parts.1);
      asks = λ most timed.
          let parts = timed_parts most before.added slot.body timed in
          asked_more (bodies_asks most (items_of ds)) (body_slot_asks most d) (bodies_asks most (items_of (ds ++ (d ∷ [])))) no_asks (before.asks most parts.0) (h.asks most parts.1) (asks_more most ds d no_asks);
    }

pub bodies_end : (lead : List ℕ) (n : ℕ) (old now : SavedBodies) (a b c d e : List ℕ) → n ≤ MAX_SLOTS → a ≡ lead ++ b → b ≡ 91 ∷ c → BodiesSoFar n old now c d → d ≡ 93 ∷ e → BodiesHold lead old now a e
bodies_end lead n old now a b c d e few before begun found close =
    let size : items_len (items_of found.items) ≡ n = items_count found.items ∙ found.so_far.count in
    record {
      items = found.items;
      added = found.added;
      stands = list_ends lead 6 n found.items a b c d e before begun found.so_far close;
      shallow = list_shallow 6 n found.items c d found.so_far;
      few = omega (arith, size, few);
      slot_entries = found.slot_entries;
      bodies = found.bodies;
      memberships = found.memberships;
      timed = found.timed;
      asks = found.asks;
    }
