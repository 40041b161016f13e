use Rattle.std.proofs.Common.{◌≡◌, ◌≤◌, ◌+◌, ◌*◌, take, vec_capacity, vec_len}
use Rattle.contacts_base.specs.Split.{contacts_in}
use Rattle.part_runs.specs.Walks.{setting_out, walk_rows}
use Rattle.world_core_base.specs.ConstraintRows.{rows_in}
use Rattle.part_solver.specs.Walking.{IsOnward, own_members, owner_in}
use Rattle.part_solver.proofs.walk.walk_members.Given as goal

abbrev pub invariant-loop-index : goal.invariant-loop-index
invariant-loop-index l =
    let so_far = rows_in l.homes.states.now l.sources.joints.now (contacts_in l.sources.contacts.now) (take l.index l.sources.members.now) in
    record {
      onward : IsOnward l.homes.number (walk_rows l.homes.states.now (owner_in l.homes.states.now l.homes.home.now l.coloured) so_far (setting_out l.fn.lists.at.items)) l.lists.at.items l.fn.lists.moves.items l.lists.moves.items;
      own : l.lists.own.items ≡ own_members l.homes.states.now l.homes.home.now l.coloured l.homes.number l.sources.joints.now (take l.index l.sources.members.now);
      few_own : vec_len l.lists.own ≤ l.index;
      own_room : vec_capacity l.lists.own ≡ vec_capacity l.fn.lists.own;
      rows : l.lists.rows ≡ l.fn.lists.rows;
      moves_room : vec_capacity l.lists.moves ≡ vec_capacity l.fn.lists.moves;
      few : vec_len l.lists.moves ≤ vec_len l.fn.lists.moves + 2 * l.index;
      states_same : l.lists.states.items ≡ l.fn.lists.states.items;
      awake : l.lists.awake.items ≡ l.fn.lists.awake.items;
      carried : l.lists.carried.items ≡ l.fn.lists.carried.items;
      ends : l.lists.ends.items ≡ l.fn.lists.ends.items;
      ends_room : vec_capacity l.lists.ends ≡ vec_capacity l.fn.lists.ends;
    }
