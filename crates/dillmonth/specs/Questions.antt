-- Trusted: Questions about a world.
use Rattle.std.specs.Prelude.{◌≡◌, ℕ, ◌==◌, ◌&&◌, ◌⊎◌, false, true, if◌then◌else◌, List, [], length, Option, Some, None}
use Rattle.fixed_geom.specs.declared.boxes.Box2.{Box2}
use Rattle.fixed_geom.specs.declared.vectors.Vec2.{Vec2}
use Rattle.body_handles.specs.declared.handle.Handle.{Handle}
use Rattle.fixed_geom.specs.declared.refusal.Refusal.{Refusal}
use Rattle.dillmonth.specs.Forms.{handle_said, id_shown}
use Rattle.dillmonth.specs.Statuses.{status_of}
use Rattle.dillmonth.specs.declared.forms.CHandle.{CHandle}
use Rattle.dillmonth.specs.declared.filters.CFilter.{CFilter}
use Rattle.dillmonth.specs.declared.rays.CHit.{CHit}
use Rattle.dillmonth.specs.declared.statuses.TheConstants.{NO_WORLD, OUT_OF_RANGE}
use Rattle.shape_rays.specs.Hits.{first_hit, region}
use Rattle.shape_rays.specs.declared.hits.Hit.{Hit}
use Rattle.shapes.specs.Rays.{IsBeam, beam_of}
use Rattle.world_desk.specs.Texts.{filtered_refusal, ray_refusal}
use Rattle.world_desk.specs.declared.desk.Desk.{Desk}
use Rattle.world_queries.specs.AllHits.{AreAllHits}
use Rattle.world_queries.specs.Filters.{filter_refusal, shapes_through}
use Rattle.world_queries.specs.declared.filters.QueryFilter.{QueryFilter}
use Rattle.world_queries.specs.Limits.{is_region}
use Rattle.world_queries.specs.Posed.{posed_shapes}
use Rattle.world_rules.specs.World.{World}

-- a refusal is due, and its number is answered
abbrev pub IsDueAs : Option Refusal → ℕ → Type 0
IsDueAs due status = (e : Refusal) × (due ≡ Some e) × (status ≡ status_of e)

abbrev pub one_hit_shown : Hit → CHit
one_hit_shown h = record { is_hit = 1; fraction = h.fraction; shape = id_shown h.shape }

abbrev pub hit_shown : Option Hit → CHit
hit_shown None = record { is_hit = 0; fraction = 0; shape = record { slot = 0; index = 0 } }
hit_shown (Some h) = one_hit_shown h

-- the ray's first hit on all shapes is written; or the ray is beyond its limits, and nothing is written
abbrev pub Hits : World → Vec2 → Vec2 → ℕ → CHit → CHit → Type 0
Hits w from along status before after = (IsBeam (beam_of from along) × (status ≡ 0) × (after ≡ hit_shown (first_hit (beam_of from along) (posed_shapes w.plain.bodies))))
    ⊎ ((¬ IsBeam (beam_of from along)) × (status ≡ 5) × (after ≡ before))

abbrev pub HitsIn : Option Desk → Vec2 → Vec2 → ℕ → CHit → CHit → Type 0
HitsIn None from along status before after = (status ≡ NO_WORLD) × (after ≡ before)
HitsIn (Some desk) from along status before after = Hits desk.world from along status before after

-- the shapes over the region are kept and counted, and all else is as it was; or nothing has changed, and the region is
-- beyond its limits or memory was wanting
abbrev pub FindsAt : Box2 → Desk → ℕ → ℕ → ℕ → Desk → Type 0
FindsAt bounds old status before after new =
    ((status ≡ 0) × (is_region bounds ≡ true) × (new ≡ record old { found = new.found }) × (new.found.items ≡ region bounds (posed_shapes old.world.plain.bodies)) × (after ≡ length new.found.items))
    ⊎ ((((is_region bounds ≡ false) × (status ≡ 5)) ⊎ ((is_region bounds ≡ true) × (status ≡ 1))) × (after ≡ before) × (new ≡ old))

abbrev pub Finds : Box2 → Option Desk → ℕ → ℕ → ℕ → Option Desk → Type 0
Finds bounds None status before after new = (status ≡ NO_WORLD) × (after ≡ before) × (new ≡ None)
Finds bounds (Some old) status before after None = ⊥
Finds bounds (Some old) status before after (Some new) = FindsAt bounds old status before after new

-- the contacts are kept and counted, and all else is as it was; or memory was wanting, and nothing has changed
abbrev pub ListsAt : Desk → ℕ → ℕ → ℕ → Desk → Type 0
ListsAt old status before after new =
    ((status ≡ 0) × (new ≡ record old { contacts = new.contacts }) × (new.contacts.items ≡ old.world.plain.contacts) × (after ≡ length new.contacts.items))
    ⊎ ((status ≡ 1) × (after ≡ before) × (new ≡ old))

abbrev pub Lists : Option Desk → ℕ → ℕ → ℕ → Option Desk → Type 0
Lists None status before after new = (status ≡ NO_WORLD) × (after ≡ before) × (new ≡ None)
Lists (Some old) status before after None = ⊥
Lists (Some old) status before after (Some new) = ListsAt old status before after new

-- ---- through a filter

-- the id that names nothing leaves nobody out, and without a mask each category is seen
abbrev pub without_said : CHandle → Option Handle
without_said h = if (h.slot == 0) && (h.generation == 0) then None else Some (handle_said h)

abbrev pub mask_said : CFilter → Option ℕ
mask_said f = if f.by_mask == 0 then None else Some f.mask

-- the filter, where the field without a meaning is 0
abbrev pub filter_said : CFilter → Option QueryFilter
filter_said f = if f.unused == 0 then Some (record { without = without_said f.without; mask = mask_said f }) else None

-- the ray's first hit on the shapes that the filter lets through is written; or the ray is beyond its limits, or the
-- filter leaves out a body that doesn't live, and nothing is written
abbrev pub HitsThrough : World → Vec2 → Vec2 → QueryFilter → ℕ → CHit → CHit → Type 0
HitsThrough w from along f status before after =
    (IsBeam (beam_of from along) × (filter_refusal w.plain f ≡ None) × (status ≡ 0) × (after ≡ hit_shown (first_hit (beam_of from along) (shapes_through f w.plain.bodies))))
    ⊎ ((((¬ IsBeam (beam_of from along)) × (status ≡ 5)) ⊎ (IsBeam (beam_of from along) × IsDueAs (filter_refusal w.plain f) status)) × (after ≡ before))

-- the same where the filter may be none, and where there may be no world
abbrev pub HitsThroughIn : Option QueryFilter → Option Desk → Vec2 → Vec2 → ℕ → CHit → CHit → Type 0
HitsThroughIn None desk from along status before after = (status ≡ OUT_OF_RANGE) × (after ≡ before)
HitsThroughIn (Some f) None from along status before after = (status ≡ NO_WORLD) × (after ≡ before)
HitsThroughIn (Some f) (Some desk) from along status before after = HitsThrough desk.world from along f status before after

-- the shapes over the region that the filter lets through are kept and counted, and all else is as it was; or nothing
-- has changed, and it is said why
abbrev pub FindsThroughAt : Box2 → QueryFilter → Desk → ℕ → ℕ → ℕ → Desk → Type 0
FindsThroughAt bounds f old status before after new =
    ((status ≡ 0) × ((is_region bounds ≡ true) × (filter_refusal old.world.plain f ≡ None)) × (new ≡ record old { found = new.found }) × (new.found.items ≡ region bounds (shapes_through f old.world.plain.bodies)) × (after ≡ length new.found.items))
    ⊎ (((e : Refusal) × filtered_refusal bounds (filter_refusal old.world.plain f) e × (status ≡ status_of e)) × (after ≡ before) × (new ≡ old))

abbrev pub FindsThrough : Box2 → Option QueryFilter → Option Desk → ℕ → ℕ → ℕ → Option Desk → Type 0
FindsThrough bounds None old status before after new = (status ≡ OUT_OF_RANGE) × (after ≡ before) × (new ≡ old)
FindsThrough bounds (Some f) None status before after new = (status ≡ NO_WORLD) × (after ≡ before) × (new ≡ None)
FindsThrough bounds (Some f) (Some old) status before after None = ⊥
FindsThrough bounds (Some f) (Some old) status before after (Some new) = FindsThroughAt bounds f old status before after new

-- all hits of the ray on the shapes that the filter lets through are kept in order and counted, and all else is as it
-- was; or nothing has changed, and it is said why
abbrev pub HitsAllAt : Vec2 → Vec2 → QueryFilter → Desk → ℕ → ℕ → ℕ → Desk → Type 0
HitsAllAt from along f old status before after new =
    ((status ≡ 0) × (IsBeam (beam_of from along) × (filter_refusal old.world.plain f ≡ None)) × (new ≡ record old { hits = new.hits }) × AreAllHits (beam_of from along) (shapes_through f old.world.plain.bodies) new.hits.items × (after ≡ length new.hits.items))
    ⊎ (((e : Refusal) × ray_refusal from along (filter_refusal old.world.plain f) e × (status ≡ status_of e)) × (after ≡ before) × (new ≡ old))

abbrev pub HitsAll : Vec2 → Vec2 → Option QueryFilter → Option Desk → ℕ → ℕ → ℕ → Option Desk → Type 0
HitsAll from along None old status before after new = (status ≡ OUT_OF_RANGE) × (after ≡ before) × (new ≡ old)
HitsAll from along (Some f) None status before after new = (status ≡ NO_WORLD) × (after ≡ before) × (new ≡ None)
HitsAll from along (Some f) (Some old) status before after None = ⊥
HitsAll from along (Some f) (Some old) status before after (Some new) = HitsAllAt from along f old status before after new

abbrev pub hits_in : Option Desk → List Hit
hits_in None = []
hits_in (Some desk) = desk.hits.items
