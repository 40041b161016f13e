-- A body that stands in a text is read as this body.
use Rattle.std.proofs.Common.{◌≡◌, ℕ, ◌≤◌, ◌++◌, ◌∷◌, [], false, true, List, Option, codes, pos, refl, sym, ap, ap₂, ◌∙◌, subst, arith}
use Rattle.momenta.specs.declared.mass.MassData.{MassData}
use Rattle.momenta.specs.declared.motion.Motion.{Motion}
use Rattle.plain_world.specs.Bodies.{IsMassOf}
use Rattle.plain_world.specs.Kinds.{IsCourseOf}
use Rattle.plain_world.specs.declared.body.Body.{Body}
use Rattle.plain_world.specs.declared.kind.Kind.{Kind}
use Rattle.plain_world.specs.declared.kind.Kind.TheVariants.{Static, Kinematic, Dynamic}
use Rattle.saved_text.specs.Bodies.{last_of_body}
use Rattle.serde_json.specs.Data.{Data, Items, boolean, depth}
use Rattle.serde_json.specs.Find.{get}
use Rattle.serde_json.specs.View.{items_of}
use Rattle.world_file_base.specs.Asks.{no_asks}
use Rattle.world_file_base.specs.Reading.{items_in, truth_in, unsigned_in}
use Rattle.world_file_base.specs.AskedValues.{list_asks, truth_asks, unsigned_asks}
use Rattle.world_file_base.specs.SavedBodies.{body_in, kind_in, kind_name, mass_in, membership_in, motion_in, sleeping_under}
use Rattle.world_file_base.specs.AskedBodies.{body_asks, keys_asks, kind_asks, mass_asks, motion_asks, numbers_asks, whole_body_asks}
use Rattle.world_file_base.specs.SavedShapes.{defs_in, fats_in}
use Rattle.world_file_base.specs.AskedShapes.{shapes_asks}
use Rattle.world_file_base.specs.Written.{Member, list_data, natural}
use Rattle.world_file_base.specs.declared.saved.Membership.{Membership}
use Rattle.world_file.proofs.BackNumbers.{unsigned_back}
use Rattle.world_file.proofs.BackBodies.{truth_back, mass_back, HasCourseKeys, back_at, kind_back, motion_back}
use Rattle.loaded_text.specs.Bodies.{BodyHolds, IsFront, front_members, front_named, made, membership_of}
use Rattle.loaded_text.specs.Shapes.{ShapesHold, no_shapes}
use Rattle.loaded_text.specs.Stands.{MembersStand, key_text}
use Rattle.loaded_text.specs.declared.bodies.LoadedBody.{LoadedBody}
use Rattle.loaded_text.specs.declared.body_members.Front.{Front}
use Rattle.loaded_text.specs.declared.body_members.Last.{Last}
use Rattle.loaded_text.specs.declared.saved_shapes.LoadedShapes.{LoadedShapes}
use Rattle.loaded_text.proofs.BodyKeys.{HasKeys, body_ascends, body_data, body_members, has_course_of, has_keys_of, membership_read}
use Rattle.loaded_text.proofs.Joined.{member_then, members_then, object_stands}
use Rattle.loaded_text.proofs.Parts.{or_null_depth}

-- ---- its value

-- what is known of a body's parts
pub record AreParts (f : Front) (s : LoadedShapes) (last : Last) : Type 0 where
  pub front : IsFront f
  pub course : IsCourseOf last.kind
  pub mass : IsMassOf last.kind (record { mass = f.mass; inertia = f.inertia })
  pub still : f.inertia ≡ pos 0 → f.l ≡ pos 0
  pub whole : whole_body_asks (made f s last).body (made f s last).membership no_asks ≡ no_asks

record IsBodyRead (most : ℕ) (d : Data) (loaded : LoadedBody) : Type 0 where
  body : body_in most d ≡ loaded.body
  asks : body_asks most d no_asks ≡ no_asks

body_read : (most : ℕ) (f : Front) (s : LoadedShapes) (last : Last) (items : List Data) (d : Data) → HasKeys d f last.kind items last.timer → HasCourseKeys last.kind d → AreParts f s last → last.timer ≤ most
    → s.shapes ≡ defs_in (items_of items) → s.fats ≡ fats_in (items_of items) → shapes_asks (items_of items) no_asks ≡ no_asks → IsBodyRead most d (made f s last)
unfolding body_in body_asks keys_asks numbers_asks
body_read most f s last items d keys course h timed defs_are fats_are fine =
    let kind = kind_back last.kind d keys.kind_is h.course course in
    let m : MassData = record { mass = f.mass; inertia = f.inertia } in
    let mass = mass_back last.kind m d h.mass keys.mass keys.inertia in
    let heavy : mass_in (kind_in d) d ≡ m = ap (λ (k : Kind). mass_in k d) kind.value ∙ mass.value in
    let v : Motion = record { p = f.p; l = f.l; x = f.at; rot = f.facing } in
    let motion = motion_back m v d (record { at_is = keys.at; facing_is = keys.facing; l_is = keys.l; p_is = keys.p }) (record { p = h.front.p; l = h.front.l; still = h.still; x = h.front.at; facing = h.front.facing }) in
    let moves : motion_in (mass_in (kind_in d) d).inertia d ≡ (made f s last).body.motion = ap (λ (m : MassData). motion_in m.inertia d) heavy ∙ motion.value in
    let membership = membership_read f last.kind items last.timer d keys h.front in
    let enabled = back_at truth_in truth_asks (get (codes "enabled") d) (boolean f.enabled) f.enabled keys.enabled (truth_back f.enabled) in
    let timer = back_at (unsigned_in most) (unsigned_asks most) (get (codes "timer") d) (natural last.timer) last.timer keys.timer_is (unsigned_back most last.timer timed) in
    let there : items_in (get (codes "shapes") d) ≡ items_of items = ap (λ (o : Option Data). items_in o) keys.shapes_are in
    let asleep : sleeping_under (membership_in d) ≡ sleeping_under (membership_of f) = ap (λ (m : Membership). sleeping_under m) membership.value in
    let defs : defs_in (items_in (get (codes "shapes") d)) ≡ s.shapes = ap (λ (ds : Items). defs_in ds) there ∙ sym defs_are in
    let fats : fats_in (items_in (get (codes "shapes") d)) ≡ s.fats = ap (λ (ds : Items). fats_in ds) there ∙ sym fats_are in
    let body : body_in most d ≡ (made f s last).body = λ i. record { kind = kind.value i; mass = heavy i; motion = moves i; enabled = enabled.value i; asleep = asleep i; timer = timer.value i; fats = fats i; shapes = defs i } in
    let numbers : numbers_asks most d no_asks ≡ no_asks =
    timer.asks _ ∙ enabled.asks _ ∙ membership.asks _
    ∙ ap (λ (m : MassData). motion_asks m.inertia d (mass_asks (kind_in d) d (kind_asks d no_asks))) heavy ∙ motion.asks _
    ∙ ap (λ (k : Kind). mass_asks k d (kind_asks d no_asks)) kind.value ∙ mass.asks _
    ∙ kind.asks no_asks in
    let listed : list_asks (get (codes "shapes") d) (numbers_asks most d no_asks) ≡ no_asks =
    ap (λ (o : Option Data). list_asks o (numbers_asks most d no_asks)) keys.shapes_are ∙ numbers in
    let all : keys_asks most d no_asks ≡ no_asks =
    ap₂ (λ (ds : Items) r. shapes_asks ds r) there listed ∙ fine in
    record {
      body = body;
      asks = ap₂ (λ (v : Body) (m : Membership). whole_body_asks v m (keys_asks most d no_asks)) body membership.value ∙ ap (λ r. whole_body_asks (made f s last).body (made f s last).membership r) all ∙ h.whole;
    }

-- ---- its text

front_then : (f : Front) (name : List ℕ) (ns : List Member) (a b c : List ℕ) → MembersStand false (front_named f name) a b → MembersStand true ns b c → MembersStand false (front_named f name ++ ns) a c
front_then f name ns a b c first second = members_then false _ _ ns a b c first second

body_depth : (f : Front) (kind : Kind) (items : List Data) (timer : ℕ) → depth (list_data items) ≤ 4 → depth (body_data f kind items timer) ≤ 5
body_depth f Static items timer low = omega (arith, low, or_null_depth f.island)
body_depth f (Kinematic course) items timer low = omega (arith, low, or_null_depth f.island)
body_depth f Dynamic items timer low = omega (arith, low, or_null_depth f.island)

made_holds : (lead : List ℕ) (f : Front) (s : LoadedShapes) (last : Last) (a b c d e g h : List ℕ) → AreParts f s last → kind_name last.kind ≡ kind_name f.kind
    → a ≡ lead ++ b → b ≡ 123 ∷ c → MembersStand false (front_members f) c d → ShapesHold (key_text true (codes "shapes")) no_shapes s d e → MembersStand true (last_of_body last.kind last.timer) e g → g ≡ 125 ∷ h
    → BodyHolds lead (made f s last).body (made f s last).membership a h
made_holds lead f s last a b c d e g h parts same before begun first middle behind close =
    let items = middle.items in
    let keys = has_keys_of f last.kind items last.timer in
    let course = has_course_of f last.kind items last.timer in
    let members =
    front_then f (kind_name last.kind) ((codes "shapes", list_data items) ∷ last_of_body last.kind last.timer) c d g (subst (λ (name : List ℕ). MembersStand false (front_named f name) c d) (sym same) first)
    (member_then true _ (codes "shapes") (list_data items) (last_of_body last.kind last.timer) d e g refl middle.stands behind) in
    let read = λ (most : ℕ) (timed : last.timer ≤ most). body_read most f s last items (body_data f last.kind items last.timer) keys course parts timed middle.shapes middle.fats middle.asks in
    record {
      value = body_data f last.kind items last.timer;
      stands = object_stands lead (body_members f last.kind items last.timer) a b c g h before begun members close (body_ascends f last.kind items last.timer);
      shallow = body_depth f last.kind items last.timer middle.shallow;
      membership = (membership_read f last.kind items last.timer (body_data f last.kind items last.timer) keys parts.front).value;
      body = λ most timed. (read most timed).body;
      asks = λ most timed. (read most timed).asks;
    }

-- what was found of a body that was made of its members
pub record IsFitting (loaded : LoadedBody) : Type 0 where
  pub mass : IsMassOf loaded.body.kind loaded.body.mass
  pub still : loaded.body.mass.inertia ≡ pos 0 → loaded.body.motion.l ≡ pos 0
  pub whole : whole_body_asks loaded.body loaded.membership no_asks ≡ no_asks

pub body_holds : (lead : List ℕ) (f : Front) (s : LoadedShapes) (last : Last) (loaded : LoadedBody) (a b c d e g h : List ℕ) → loaded ≡ made f s last → IsFitting loaded → IsFront f → IsCourseOf last.kind → kind_name last.kind ≡ kind_name f.kind
    → a ≡ lead ++ b → b ≡ 123 ∷ c → MembersStand false (front_members f) c d → ShapesHold (key_text true (codes "shapes")) no_shapes s d e → MembersStand true (last_of_body last.kind last.timer) e g → g ≡ 125 ∷ h
    → BodyHolds lead loaded.body loaded.membership a h
body_holds lead f s last loaded a b c d e g h is fits front course same before begun first middle behind close =
    let own : IsFitting (made f s last) = subst (λ (x : LoadedBody). IsFitting x) is fits in
    subst (λ (x : LoadedBody). BodyHolds lead x.body x.membership a h) (sym is)
    (made_holds lead f s last a b c d e g h (record { front = front; course = course; mass = own.mass; still = own.still; whole = own.whole }) same before begun first middle behind close)
