-- When all pins were tried, no stub is left.
use Rattle.std.proofs.Common.{◌≡◌, ◌⊎◌, ℕ, suc, ◌+◌, ◌<◌, ◌≤◌, arith, refl, sym, ap, ◌∙◌, subst, inl, inr, Bool, true}
use Rattle.std.proofs.Common.{false}
use Rattle.std.proofs.Common.{List, [], ◌∷◌, ◌++◌, length, get_or, All, Any, Contains, Some}
use Rattle.std.specs.Prelude.{map, slice_get}
use Rattle.std.proofs.lemmas.Bool.{cases_lt}
use Rattle.std.proofs.lemmas.List.Elements.{All-contains, All-head, All-tail, Contains-append_left}
use Rattle.std.proofs.lemmas.List.Elements.{Contains-append_right}
use Rattle.std.proofs.lemmas.List.Elements.{All-cons, All-nil, Contains-get_or}
use Rattle.pcb_model.specs.declared.item.Item.{Item}
use Rattle.pcb_model.specs.declared.item.Metal.{Metal}
use Rattle.pcb_model.specs.declared.item.Metal.TheVariants as metal
use Rattle.pcb_model.specs.declared.item.Probe.TheVariants as probe
use Rattle.pcb_model.specs.declared.design.Design.{Design}
use Rattle.pcb_model.specs.Board.{AreJoined, IsMetalLaid}
use Rattle.pcb_model.specs.Pairs.{AreTouching}
use Rattle.pcb_model.specs.Plain.{IsPlainCopper, IsPlainItem}
use Rattle.pcb_model.specs.Sound.{IsSound, Serves}
use Rattle.pcb_model.proofs.Symmetry.{touching_swapped}
use Rattle.pcb_islands.specs.declared.net.Island.{Island}
use Rattle.pcb_islands.specs.Islands.{AreIslands, HasItemAt, HasPadJoined, IsIsland, pins_of}
use Rattle.pcb_islands.proofs.Classes.{pad_in}
use Rattle.pcb_islands.proofs.Elements.{in_cons, in_from, in_here, look_at}
use Rattle.pcb_islands.proofs.Joined.{joined_back, joined_by_touch, joined_on, one_item}
use Rattle.pcb_islands.proofs.Others.{item_net}
use Rattle.pcb_islands.proofs.Pads.{net_pins}
use Rattle.pcb_islands.proofs.Selects.{selected}
use Rattle.route_lattice.specs.declared.moves.Walk.{Walk}
use Rattle.route_lattice.specs.Anchors.{Anchors, AnchorsAmong}
use Rattle.route_lattice.specs.Fits.{FitsDesign}
use Rattle.route_lattice.specs.Mesh.{point_of}
use Rattle.route_lattice.specs.Walks.{to_of}
use Rattle.path_wire.specs.Joins.{Connect, last_node}
use Rattle.path_wire.specs.Lays.{laid_item}
use Rattle.path_wire.specs.Wires.{copper_of}
use Rattle.path_wire.proofs.Touching.{anchored_touches}
use Rattle.plane_joins.specs.Planned.{TriesNets}
use Rattle.plane_joins.specs.Stubs.{BeginsWith, HasNoStub, HoldsRib, IsServed, IsStubWalk, RibGround, TouchesRib}
use Rattle.plane_joins.specs.Stubs.{TriesPin, TriesPins, laid_from, with_items}
use Rattle.plane_stubs.proofs.Copper.{LaysEnd, first_has, first_joined, laid_of, stub_connects, stub_end, stub_well}
use Rattle.plane_stubs.proofs.Keeping.{Keeps, OwnAgree, keeps_stub, numbers_ascend, pin_steps, pins_steps}
use Rattle.plane_stubs.proofs.Older.{listed, older, one_by_first}
use Rattle.plane_joins.proofs.Shut.{stays_shut}
use Rattle.plane_stubs.proofs.Tables.{laid_past}
use Rattle.plane_stubs.proofs.Walks.{net_of}

-- ---- whether an island holds a rib
abbrev HasOrNone : RibGround → List ℕ → Type 0
HasOrNone g ids =
    Any (λ id. (g.first ≤ id) × (id < g.last)) ids ⊎ ((id : ℕ) → Contains ids id → g.first ≤ id → id < g.last → ⊥)

rib_behind : (g : RibGround) (x : ℕ) (ids : List ℕ) → (g.first ≤ x → x < g.last → ⊥) → HasOrNone g ids
    → HasOrNone g (x ∷ ids)
rib_behind g x ids not_x (inl some) =
    inl (suc some.0, some.1, let w = some.2 in omega (arith, w), some.3, some.4)
rib_behind g x ids not_x (inr none) = inr (λ id h past before. elim (in_cons x id ids h) [
  | inl same ↦
      not_x (subst (λ (n : ℕ). g.first ≤ n) (sym same) past) (subst (λ (n : ℕ). n < g.last) (sym same) before)
  | inr more ↦ none id more past before
])

rib_or_none : (g : RibGround) (ids : List ℕ) → HasOrNone g ids
rib_or_none g [] = inr (λ id h. absurd (omega (arith, h.1)))
rib_or_none g (x ∷ ids) = elim (cases_lt x g.first) [
  | inl low ↦ rib_behind g x ids (λ past before. omega (arith, low, past)) (rib_or_none g ids)
  | inr past ↦ elim (cases_lt x g.last) [
    | inl before ↦ inl (0, x, omega arith, refl, (past, before))
    | inr high ↦ rib_behind g x ids (λ _ before. omega (arith, high, before)) (rib_or_none g ids)
  ]
]

-- ---- pins that were tried
-- each island of the net that begins with the pin is served
pub record IsTried (g : RibGround) (net pin : ℕ) : Type 0 where
  pub served : (s : Island) → IsIsland g.d g.items net (pins_of g.d net) s → BeginsWith pin s → IsServed g s

-- ---- while further copper comes that is joined to islands with ribs alone
-- where a further item is joined to an item, a rib is
abbrev JoinRibs : RibGround → List Item → Type 0
JoinRibs g more =
    (a x : Item) → Contains (g.items ++ more) a → Contains more x → AreJoined (g.items ++ more) a x
    → (rib : Item) × Contains (g.items ++ more) rib × (g.first ≤ rib.id) × (rib.id < g.last)
    × AreJoined (g.items ++ more) a rib

module _ (g : RibGround) (sound : IsSound g.d) (k : Keeps g) (more : List Item)
    (later : Keeps (with_items g (g.items ++ more))) (past : All (λ (b : Item). g.last ≤ b.id) more)
    (join : JoinRibs g more) where
  module _ (net : ℕ) (s : Island) (h : IsIsland g.d (g.items ++ more) net (pins_of g.d net) s)
      (none : (id : ℕ) → Contains s.items id → g.first ≤ id → id < g.last → ⊥) where
    pad_there : Contains g.items h.pad
    pad_there = pad_in g.d g.items k.serves h.first h.pad h.pad_is

    -- none of the further items is joined to the island
    none_joined : (x : Item) → Contains more x → ¬ (AreJoined (g.items ++ more) h.pad x)
    none_joined x x_in j =
        let r = join h.pad x (Contains-append_left g.items more h.pad pad_there) x_in j in
        none (r.0).id ((h.items_are.exact (r.0).id).1
        (record { item = r.0; there = r.1; id_is = refl; joined = r.4 })) r.2 r.3

    was : IsIsland g.d g.items net (pins_of g.d net) s
    was = older g.d g.items more net (pins_of g.d net) s h pad_there none_joined

    -- nor has it the id of one
    unknown : (b : Item) → Contains more b → Contains s.items b.id → ⊥
    unknown b b_in asked =
        let e = (h.items_are.exact b.id).0 asked in
        let one = one_item (g.items ++ more) (numbers_ascend (g.items ++ more) later.numbered) e.item b e.there
        (Contains-append_right g.items more b b_in) e.id_is in
        none_joined b b_in (subst (AreJoined (g.items ++ more) h.pad) one e.joined)

    stays_served : IsServed g s → IsServed (with_items g (g.items ++ more)) s
    stays_served (inl holds) = inl (record { some = holds.some })
    stays_served (inr shut) = inr (stays_shut g more past s unknown shut)

  pub tried_stays : (net pin : ℕ) → IsTried g net pin → IsTried (with_items g (g.items ++ more)) net pin
  tried_stays net pin t = record {
    served = λ s h begins. elim (rib_or_none g s.items) [
      | inl some ↦ inl (record { some = some })
      | inr none ↦ stays_served net s h none (t.served s (was net s h none) begins)
    ];
  }

-- ---- a stub
module _ (g : RibGround) (sound : IsSound g.d) (plain : IsPlainCopper g.d) where
  -- whatever is joined to its copper is joined to a rib
  join_ribs : (net id v w : ℕ) (ms : List Metal) → Connect g.d g.lat v ms w
      → All (λ (a : Metal). IsMetalLaid g.d (Some net) a) ms → LaysEnd g net ms
      → JoinRibs g (laid_from g.d net id ms)
  join_ribs net id v w [] connect own e a x a_in x_in j = absurd connect
  join_ribs net id v w (c ∷ ms) connect own e a x a_in x_in j =
      let laid = laid_from g.d net id (c ∷ ms) in
      let all = g.items ++ laid in
      let first = laid_item g.d net id c in
      let via = metal.Via e.padstack (point_of g.lat e.node) in
      let rib = e.touches.rib in
      let there : All (Contains all) laid =
      λ i f within. Contains-append_right g.items laid (get_or laid i f) (Contains-get_or laid i f within) in
      let first_in = All-head (Contains all) first (laid_from g.d net (id + 1) ms) there in
      let joins = first_joined g.d g.lat net sound plain all id v w c ms connect own there in
      let at = laid_of g.d net id (c ∷ ms) via e.laid in
      let rib_in = Contains-append_left g.items laid rib e.touches.there in
      let touch : AreTouching (laid_item g.d net at.0 via) rib =
      record { same_net = e.touches.touch.same_net; touch = e.touches.touch.touch } in (
        rib,
        rib_in,
        e.touches.from_first,
        e.touches.below_last,
        joined_on all a x rib j
            (joined_on all x first rib (joined_back touching_swapped all first x first_in (joins x x_in))
            (joined_on all first (laid_item g.d net at.0 via) rib (joins (laid_item g.d net at.0 via) at.1)
            (joined_by_touch all (laid_item g.d net at.0 via) rib rib_in touch))),
      )

  -- it touches what its first node anchors
  begins_touch : (net id v w : ℕ) (ms : List Metal) → Connect g.d g.lat v ms w
      → All (λ (a : Metal). IsMetalLaid g.d (Some net) a) ms → (b : Item) → b.net ≡ Some net → IsPlainItem b
      → Anchors g.d g.lat v b → (x : Item) × Contains (laid_from g.d net id ms) x × AreTouching x b
  begins_touch net id v w [] connect own b b_net b_plain anchors = absurd connect
  begins_touch net id v w (c ∷ ms) connect own b b_net b_plain anchors = (
    laid_item g.d net id c,
    in_here (laid_item g.d net id c) (laid_from g.d net (id + 1) ms),
    anchored_touches g.d g.lat net id v c b sound plain
        (All-head (λ (a : Metal). IsMetalLaid g.d (Some net) a) c ms own) (first_has g.d g.lat net sound plain v w c ms
        connect) b_net b_plain anchors,
  )

module _ (g : RibGround) (sound : IsSound g.d) (plain : IsPlainCopper g.d) (fits : FitsDesign g.d g.lat)
    (own : OwnAgree) (k : Keeps g) where
  module _ (s : Island) (there : s.net < length g.d.nets) (w : Walk) (h : IsStubWalk g s w) where
    abbrev copper : List Metal
    copper = copper_of g.d g.lat s.net w.nodes w.moves

    abbrev laid : List Item
    laid = laid_from g.d s.net (length g.items) copper

    of_net : All (λ (a : Metal). IsMetalLaid g.d (Some s.net) a) copper
    of_net = λ i e within. (stub_well g sound fits s there w h 0 i e within).laid

    abbrev end : ℕ
    end = last_node h.from (map to_of h.hops)

    joins : JoinRibs g laid
    joins =
        join_ribs g sound plain s.net (length g.items) h.from end copper (stub_connects g sound fits s there w h)
        of_net (stub_end g sound fits s there w h)

    keeps : Keeps (with_items g (g.items ++ laid))
    keeps = keeps_stub g sound plain fits own k s there w h

    past : All (λ (b : Item). g.last ≤ b.id) laid
    past = laid_past g.d s.net g.last (length g.items) copper k.past

    stub_stays : (net pin : ℕ) → IsTried g net pin → IsTried (with_items g (g.items ++ laid)) net pin
    stub_stays = tried_stays g sound k laid keeps past joins

    -- an island that began with the pin of this one holds a rib now
    module _ (net pin : ℕ) (found : List Island) (are : AreIslands g.d g.items net found) (s_in : Contains found s)
        (begins : BeginsWith pin s) where
      abbrev start : AnchorsAmong g.d g.lat g.items s.items h.from
      start = h.starts.anchors

      start_net : start.item.net ≡ Some s.net
      start_net =
          item_net g.d g.items net s_in.0 found start.item sound (numbers_ascend g.items k.numbered) are start.there
          (record { island = s; there = look_at found s s_in; has = start.asked })
          ∙ ap (λ (n : ℕ). Some n) (sym (net_of g net found s are s_in))

      stub_serves : IsTried (with_items g (g.items ++ laid)) net pin
      stub_serves = record { served = λ t t_is at. by t t_is at (rib_or_none g t.items) }
        where
          by : (t : Island) (t_is : IsIsland g.d (g.items ++ laid) net (pins_of g.d net) t) → BeginsWith pin t
              → Any (λ id. (g.first ≤ id) × (id < g.last)) t.items
              ⊎ ((id : ℕ) → Contains t.items id → g.first ≤ id → id < g.last → ⊥)
              → IsServed (with_items g (g.items ++ laid)) t
          by t t_is at (inl some) = inl (record { some = some })
          by t t_is at (inr none) =
              let old = was g sound k laid keeps past joins net t t_is none in
              let s_is = All-contains (IsIsland g.d g.items net (pins_of g.d net)) found s are.each s_in in
              let same : s ≡ t =
              one_by_first g.d g.items net (pins_of g.d net) sound k.serves (net_pins g.d net sound).0 s t
              s_is old (begins ∙ sym at) in
              let asked : Contains t.items start.item.id =
              subst (λ (u : Island). Contains u.items start.item.id) same start.asked in
              let all = g.items ++ laid in
              let e = (t_is.items_are.exact start.item.id).0 asked in
              let one = one_item all (numbers_ascend all keeps.numbered) e.item start.item e.there
              (Contains-append_left g.items laid start.item start.there) e.id_is in
              let to : AreJoined all t_is.pad start.item = subst (AreJoined all t_is.pad) one e.joined in
              let x = begins_touch g sound plain s.net (length g.items) h.from end copper
              (stub_connects g sound fits s there w h) of_net start.item start_net
              (All-contains IsPlainItem g.items start.item k.plain start.there) start.anchors in
              let x_in = Contains-append_right g.items laid x.0 x.1 in
              absurd (none_joined g sound k laid keeps past joins net t t_is none x.0 x.1
              (joined_on all t_is.pad start.item x.0 to
              (joined_by_touch all start.item x.0 x_in (touching_swapped x.0 start.item x.2))))

  -- ---- one pin
  pub pin_stays : (n p : ℕ) (after : List Item) → n < length g.d.nets → TriesPin g n p after → (net pin : ℕ)
      → IsTried g net pin → IsTried (with_items g after) net pin
  pin_stays n p after there (TriesPin.inside found are none) net pin t = t
  pin_stays n p after there (TriesPin.served found s are s_in begins served) net pin t = t
  pin_stays n p after there (TriesPin.stub found s metals are s_in begins none is) net pin t =
      let e = net_of g n found s are s_in in
      subst (λ (i : ℕ). IsTried (with_items g (g.items ++ laid_from g.d i (length g.items) metals)) net pin) e
      (subst (λ (ms : List Metal). IsTried (with_items g (g.items ++ laid_from g.d s.net (length g.items) ms)) net pin)
      (sym is.metals_are)
      (stub_stays s (subst (λ (i : ℕ). i < length g.d.nets) (sym e) there) is.walk is.is_least.leads net pin t))

  pub pin_tried : (net pin : ℕ) (after : List Item) → net < length g.d.nets → TriesPin g net pin after
      → IsTried (with_items g after) net pin
  pin_tried net pin after there (TriesPin.inside found are none) = record {
    served = λ s h begins. absurd (All-contains (λ (t : Island). ¬ (BeginsWith pin t)) found s none
        (listed g.d g.items net (pins_of g.d net) sound k.serves (net_pins g.d net sound).0 found are s h)
        begins);
  }
  pin_tried net pin after there (TriesPin.served found s are s_in begins served) = record {
    served = λ t h at. subst (IsServed g)
        (one_by_first g.d g.items net (pins_of g.d net) sound k.serves (net_pins g.d net sound).0 s t
        (All-contains (IsIsland g.d g.items net (pins_of g.d net)) found s are.each s_in) h (begins ∙ sym at)) served;
  }
  pin_tried net pin after there (TriesPin.stub found s metals are s_in begins none is) =
      let e = net_of g net found s are s_in in
      subst (λ (i : ℕ). IsTried (with_items g (g.items ++ laid_from g.d i (length g.items) metals)) net pin) e
      (subst (λ (ms : List Metal). IsTried (with_items g (g.items ++ laid_from g.d s.net (length g.items) ms)) net pin)
      (sym is.metals_are)
      (stub_serves s (subst (λ (i : ℕ). i < length g.d.nets) (sym e) there) is.walk is.is_least.leads net pin found are
      s_in begins))

-- ---- pins one after another
pub pins_stay : (g : RibGround) → IsSound g.d → IsPlainCopper g.d → FitsDesign g.d g.lat → OwnAgree → Keeps g → (n : ℕ)
    (pins : List ℕ) (after : List Item) → n < length g.d.nets → TriesPins g n pins after → (net pin : ℕ)
    → IsTried g net pin → IsTried (with_items g after) net pin
pins_stay g sound plain fits own k n [] after there e net pin t =
    subst (λ (items : List Item). IsTried (with_items g items) net pin) (sym e) t
pins_stay g sound plain fits own k n (p ∷ pins) after there (next, one, rest) net pin t =
    pins_stay (with_items g next) sound plain fits own (pin_steps g sound plain fits own n p next there k one).keeps n
    pins after there rest net pin (pin_stays g sound plain fits own k n p next there one net pin t)

pub pins_tried : (g : RibGround) → IsSound g.d → IsPlainCopper g.d → FitsDesign g.d g.lat → OwnAgree → Keeps g
    → (net : ℕ) (pins : List ℕ) (after : List Item) → net < length g.d.nets → TriesPins g net pins after
    → All (IsTried (with_items g after) net) pins
pins_tried g sound plain fits own k net [] after there e = All-nil (IsTried (with_items g after) net)
pins_tried g sound plain fits own k net (p ∷ pins) after there (next, one, rest) =
    let keeps = (pin_steps g sound plain fits own net p next there k one).keeps in
    All-cons (IsTried (with_items g after) net) p pins
    (pins_stay (with_items g next) sound plain fits own keeps net pins after there rest net p
    (pin_tried g sound plain fits own k net p next there one))
    (pins_tried (with_items g next) sound plain fits own keeps net pins after there rest)

-- ---- nets one after another
nets_stay : (g : RibGround) → IsSound g.d → IsPlainCopper g.d → FitsDesign g.d g.lat → OwnAgree → Keeps g
    → (nets : List ℕ) (after : List Item) → All (λ n. n < length g.d.nets) nets → TriesNets g nets after
    → (net pin : ℕ) → IsTried g net pin → IsTried (with_items g after) net pin
nets_stay g sound plain fits own k [] after there e net pin t =
    subst (λ (items : List Item). IsTried (with_items g items) net pin) (sym e) t
nets_stay g sound plain fits own k (n ∷ nets) after there (next, one, rest) net pin t =
    let here = All-head (λ i. i < length g.d.nets) n nets there in
    nets_stay (with_items g next) sound plain fits own
    (pins_steps g sound plain fits own n (pins_of g.d n) next here k one).keeps nets after
    (All-tail (λ i. i < length g.d.nets) n nets there) rest net pin
    (pins_stay g sound plain fits own k n (pins_of g.d n) next here one net pin t)

pub nets_tried : (g : RibGround) → IsSound g.d → IsPlainCopper g.d → FitsDesign g.d g.lat → OwnAgree → Keeps g
    → (nets : List ℕ) (after : List Item) → All (λ n. n < length g.d.nets) nets → TriesNets g nets after
    → (net : ℕ) → Contains nets net → All (IsTried (with_items g after) net) (pins_of g.d net)
nets_tried g sound plain fits own k [] after there e net h = absurd (omega (arith, h.1))
nets_tried g sound plain fits own k (n ∷ nets) after there (next, one, rest) net h =
    let here = All-head (λ i. i < length g.d.nets) n nets there in
    let later = All-tail (λ i. i < length g.d.nets) n nets there in
    let keeps = (pins_steps g sound plain fits own n (pins_of g.d n) next here k one).keeps in
    elim (in_cons n net nets h) [
      | inl same ↦
          let all = pins_tried g sound plain fits own k n (pins_of g.d n) next here one in
          subst (λ (i : ℕ). All (IsTried (with_items g after) i) (pins_of g.d i)) same
          (λ j e within. nets_stay (with_items g next) sound plain fits own keeps nets after later rest n
          (get_or (pins_of g.d n) j e) (all j e within))
      | inr more ↦ nets_tried (with_items g next) sound plain fits own keeps nets after later rest net more
    ]

-- each island is served then
pub all_served : (g : RibGround) (net : ℕ) (found : List Island) → All (IsTried g net) (pins_of g.d net)
    → AreIslands g.d g.items net found → All (IsServed g) found
all_served g net found tried are = λ j e within.
    let s = get_or found j e in
    let h = are.each j e within in
    let first_in =
    (selected (HasPadJoined g.d g.items h.pad) (pins_of g.d net) s.pins h.first h.pins_are
    (in_from s.pins 0 h.first h.first_is)).1 in
    (All-contains (IsTried g net) (pins_of g.d net) h.first tried first_in).served s h h.first_is
