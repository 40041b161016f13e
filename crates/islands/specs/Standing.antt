-- Where the slots stand: each at a node of its own. Nodes are numbered as slots are, and past the end each slot stands
-- at the node of its own number.
use Rattle.std.specs.Prelude.{◌≡◌, ◌≢◌, ℕ, ◌+◌, ◌-◌, List, length}
use Rattle.std.specs.List.{slice_index_or}
use Rattle.islands.specs.declared.thread_nodes.NodeEntry.{NodeEntry}

-- by slot the node where it stands, and by node the slot that stands there
abbrev pub NodeEntries : Type 0
NodeEntries = List NodeEntry

abbrev pub own_node_entry : ℕ → NodeEntry
own_node_entry number = record { node = number; slot = number }

abbrev pub node_at : NodeEntries → ℕ → ℕ
node_at node_entries slot = (slice_index_or node_entries slot (own_node_entry slot)).node

abbrev pub slot_at : NodeEntries → ℕ → ℕ
slot_at node_entries node = (slice_index_or node_entries node (own_node_entry node)).slot

-- one says what the other says
pub record AreInverse (node_entries : NodeEntries) : Type 0 where
  pub back : (s : ℕ) → slot_at node_entries (node_at node_entries s) ≡ s
  pub forth : (k : ℕ) → node_at node_entries (slot_at node_entries k) ≡ k

-- the slot stands at the node now, and neither list says anything else that is new
pub record IsPut (old : NodeEntries) (slot node : ℕ) (new : NodeEntries) : Type 0 where
  pub size : length new ≡ length old
  pub node_here : node_at new slot ≡ node
  pub nodes : (s : ℕ) → s ≢ slot → node_at new s ≡ node_at old s
  pub slot_here : slot_at new node ≡ slot
  pub slots : (k : ℕ) → k ≢ node → slot_at new k ≡ slot_at old k

-- two slots have changed places
pub record AreExchanged (old : NodeEntries) (a b : ℕ) (new : NodeEntries) : Type 0 where
  pub size : length new ≡ length old
  pub inverse : AreInverse new
  pub first : node_at new a ≡ node_at old b
  pub second : node_at new b ≡ node_at old a
  pub others : (s : ℕ) → s ≢ a → s ≢ b → node_at new s ≡ node_at old s

-- at least n slots, and each stands where it stood
pub record AreWidened (old : NodeEntries) (n : ℕ) (new : NodeEntries) : Type 0 where
  pub size : length new ≡ length old + (n - length old)
  pub nodes : (s : ℕ) → node_at new s ≡ node_at old s
  pub slots : (k : ℕ) → slot_at new k ≡ slot_at old k
