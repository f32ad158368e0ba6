-- With other free wiring, and the same scale, a design has the same islands, and the same sets of nodes are cuts.
use Rattle.std.proofs.Common.{◌≡◌, inl, inr, ℕ, false, List, [], ◌∷◌, Option, Some, None, refl, sym, ap, subst}
use Rattle.std.specs.Prelude.{All, Any, Contains, slice_get}
use Rattle.std.specs.Option.{IsSomeAnd, option_map}
use Rattle.std.proofs.lemmas.List.Elements.{All-weaker}
use Rattle.geo_kernel.specs.declared.point.Point.{Point}
use Rattle.pcb_model.specs.declared.item.Item.{Item}
use Rattle.pcb_model.specs.declared.item.Metal.{Metal}
use Rattle.pcb_model.specs.declared.item.Metal.TheVariants as metal
use Rattle.pcb_model.specs.declared.item.Piece.{Piece}
use Rattle.pcb_model.specs.declared.item.Probe.{Probe}
use Rattle.pcb_model.specs.declared.item.Probe.TheVariants as probe
use Rattle.pcb_model.specs.declared.design.FreeWire.{FreeWire}
use Rattle.pcb_model.specs.declared.design.Pin.{Pin}
use Rattle.pcb_model.specs.declared.design.SesScale.{SesScale}
use Rattle.pcb_model.specs.declared.design.Design.{Design}
use Rattle.pcb_model.specs.Pieces.{metal_of, pieces_of}
use Rattle.pcb_model.specs.Pairs.{Agrees, ProbeAgrees}
use Rattle.pcb_model.specs.Board.{AreInside}
use Rattle.pcb_model.specs.Scale.{scale_of}
use Rattle.pcb_islands.specs.declared.net.Island.{Island}
use Rattle.pcb_islands.specs.Islands.{AreIslands, AreIslandsOf, HasPadJoined, IsIsland, IsPadOf, Selects}
use Rattle.route_lattice.specs.declared.moves.Move.{Move}
use Rattle.route_lattice.specs.declared.moves.Move.TheVariants.{Step, Via}
use Rattle.route_lattice.specs.Anchors.{Anchors, AnchorsAmong, IsAnchorOf, rounded}
use Rattle.route_lattice.specs.Legal.{IsLegalNode, IsLegalProbe, disc_at, probe_of}
use Rattle.route_lattice.specs.Mesh.{Mesh, layer_of, point_of}
use Rattle.route_lattice.specs.Ways.{way, way_count}
use Rattle.cut_certificate.specs.declared.cut.Block.{Block}
use Rattle.cut_certificate.specs.declared.cut.Blocker.{Blocker}
use Rattle.cut_certificate.specs.declared.cut.Blocker.TheVariants as blocker
use Rattle.cut_certificate.specs.declared.cut.Cut.{Cut}
use Rattle.cut_certificate.specs.Border.{IsBlock}
use Rattle.cut_certificate.specs.Cuts.{IsCut, IsGoal, IsShutBy, IsStart, ShutsProbe}
use Rattle.session_start.specs.Starting.{with_free}
use Rattle.session_start.proofs.Alike.{agree_too, same_item, same_pieces, same_width}

-- what some element has, it has more
any_weaker : {X : Type 0} (P Q : X → Type 0) → ((x : X) → P x → Q x) → (xs : List X) → Any P xs → Any Q xs
any_weaker P Q f xs a = (a.0, a.1, a.2, a.3, f a.1 a.4)

-- elements with a property are those with one that is the same
selects_too : {X : Type 0} (P Q : X → Type 0) → ((x : X) → P x → Q x) → ((x : X) → Q x → P x) → (xs ys : List X)
    → Selects P xs ys → Selects Q xs ys
selects_too P Q to from [] ys h = h
selects_too P Q to from (x ∷ xs) ys (inl h) = inl (to x h.0, h.1, h.2, selects_too P Q to from xs h.1 h.3)
selects_too P Q to from (x ∷ xs) ys (inr h) = inr (λ q. h.0 (from x q), selects_too P Q to from xs ys h.1)

-- ---- from a design to the same with other free wiring
module _ (d : Design) (wires : List FreeWire) where
  abbrev e : Design
  e = with_free d wires

  -- pads
  pad_too : (pin : ℕ) (a : Item) → IsPadOf d pin a → IsPadOf e pin a
  pad_too pin a h = record { there = h.there; is_pad = h.is_pad }

  joined_too : (items : List Item) (a : Item) (pin : ℕ) → HasPadJoined d items a pin → HasPadJoined e items a pin
  joined_too items a pin h = record { pad = h.pad; pad_is = pad_too pin h.pad h.pad_is; joined = h.joined }

  -- probes
  probe_too : (net : ℕ) (p : Probe) (b : Item) → ProbeAgrees d net p b → ProbeAgrees e net p b
  probe_too net p b h =
      let same = same_item d wires 0 (Some net) false (metal_of p) in
      subst (λ (a : Item). Agrees e a b) (sym same) (agree_too d wires _ b h)

  inside_too : (p : Probe) → AreInside d.bounds (pieces_of d (metal_of p))
      → AreInside e.bounds (pieces_of e (metal_of p))
  inside_too p h = subst (AreInside d.bounds) (sym (same_pieces d wires (metal_of p))) h

  legal_probe_too : (items : List Item) (net : ℕ) (p : Probe) → IsLegalProbe d items net p
      → IsLegalProbe e items net p
  legal_probe_too items net p h = record {
    agrees = λ b there. probe_too net p b (h.agrees b there);
    inside = inside_too p h.inside;
  }

  module _ (m : Mesh) (items : List Item) (net : ℕ) where
    legal_node_too : (node : ℕ) → IsLegalNode d m items net node → IsLegalNode e m items net node
    legal_node_too node h =
        subst (λ (w : ℕ). IsLegalProbe e items net (probe.Disc (layer_of m node) w (point_of m node)))
        (sym (same_width d wires net)) (legal_probe_too items net (disc_at d m net node) h)

    -- what a move lays
    same_probe : (node : ℕ) (move : Move) (to : ℕ) → probe_of e m net node move to ≡ probe_of d m net node move to
    same_probe node (Step dir) to =
        ap (λ (w : ℕ). probe.Step (layer_of m node) w (point_of m node) (point_of m to)) (same_width d wires net)
    same_probe node (Via padstack layer) to = refl

  -- anchors
  module _ (scale : scale_of d ≡ scale_of e) (m : Mesh) where
    anchor_too : (x : Metal) (p : Point) → IsAnchorOf d x p → IsAnchorOf e x p
    anchor_too (metal.Wire layer width chain) p h = h
    anchor_too (metal.Via padstack at) p h = h
    anchor_too (metal.Pad pin) p h =
        subst (λ (s : SesScale). IsSomeAnd (slice_get d.pins pin) (λ (q : Pin). rounded s.nm q.centre ≡ p)) scale h
    anchor_too (metal.Ban wires vias) p h = h

    among_too : (items : List Item) (ids : List ℕ) (node : ℕ) → AnchorsAmong d m items ids node
        → AnchorsAmong e m items ids node
    among_too items ids node h = record {
      item = h.item;
      there = h.there;
      asked = h.asked;
      anchors = record {
        in_copper = h.anchors.in_copper;
        is_anchor = anchor_too h.item.metal (point_of m node) h.anchors.is_anchor;
      };
    }

    start_too : (items : List Item) (island : Island) (node : ℕ) → IsStart d m items island node
        → IsStart e m items island node
    start_too items island node h = record {
      there = h.there;
      anchors = among_too items island.items node h.anchors;
      legal = legal_node_too m items island.net node h.legal;
    }

    goal_too : (items : List Item) (others : List Island) (node : ℕ) → IsGoal d m items others node
        → IsGoal e m items others node
    goal_too items others node h = record {
      there = h.there;
      anchors = any_weaker (λ (o : Island). AnchorsAmong d m items o.items node)
          (λ (o : Island). AnchorsAmong e m items o.items node) (λ o a. among_too items o.items node a) others
          h.anchors;
    }

-- ---- what holds of the one and of the other
module _ (d : Design) (wires : List FreeWire) where
  abbrev f : Design
  f = with_free d wires

  -- islands
  island_too : (items : List Item) (net : ℕ) (pins : List ℕ) (s : Island) → IsIsland d items net pins s
      → IsIsland f items net pins s
  island_too items net pins s h = record {
    net_is = h.net_is;
    first = h.first;
    first_is = h.first_is;
    pad = h.pad;
    pad_is = pad_too d wires h.first h.pad h.pad_is;
    pins_are = selects_too (HasPadJoined d items h.pad) (HasPadJoined f items h.pad)
        (λ pin j. joined_too d wires items h.pad pin j) (λ pin j. joined_too f d.free items h.pad pin j) pins s.pins
        h.pins_are;
    items_are = h.items_are;
  }

  pub islands_too : (items : List Item) (net : ℕ) (found : List Island) → AreIslands d items net found
      → AreIslands f items net found
  islands_too items net found h = record {
    each = All-weaker (IsIsland d items net _) (IsIsland f items net _)
        (λ s is. island_too items net _ s is) found h.each;
    covered = h.covered;
    places = h.places;
    ascend = h.ascend;
    begin = h.begin;
  }

  -- what shuts a move
  shuts_too : (items : List Item) (net : ℕ) (p : Probe) (by : Blocker) → ShutsProbe d items net p by
      → ShutsProbe f items net p by
  shuts_too items net p (blocker.Item id) h = record {
    item = h.item;
    there = h.there;
    id_is = h.id_is;
    looked_at = h.looked_at;
    holds = λ agrees. h.holds (probe_too f d.free net p h.item agrees);
    before = λ b there looked less. probe_too d wires net p b (h.before b there looked less);
  }
  shuts_too items net p blocker.Outside h = (
    λ b there. probe_too d wires net p b (h.0 b there),
    λ inside. h.1 (inside_too f d.free p inside),
  )

  module _ (m : Mesh) (items : List Item) where
    shut_move : (net node : ℕ) (w : Option (Move × ℕ)) (by : Blocker)
        → IsSomeAnd (option_map (λ (x : Move × ℕ). probe_of d m net node x.0 x.1) w) (λ p. ShutsProbe d items net p by)
        → IsSomeAnd (option_map (λ (x : Move × ℕ). probe_of f m net node x.0 x.1) w) (λ p. ShutsProbe f items net p by)
    shut_move net node None by h = h
    shut_move net node (Some x) by h =
        subst (λ (p : Probe). ShutsProbe f items net p by) (sym (same_probe d wires m items net node x.0 x.1))
        (shuts_too items net (probe_of d m net node x.0 x.1) by h)

    shut_too : (net node index : ℕ) (by : Blocker) → IsShutBy d m items net node index by
        → IsShutBy f m items net node index by
    shut_too net node index by h = shut_move net node (way d m net node index) by h

    -- cuts
    pub cut_too : scale_of d ≡ scale_of f → (island : Island) (others : List Island) (cut : Cut)
        → IsCut d m items island others cut → IsCut f m items island others cut
    cut_too scale island others cut h = record {
      net_is = h.net_is;
      pin_is = h.pin_is;
      ascends = h.ascends;
      there = h.there;
      starts_in = λ node s. h.starts_in node (start_too f d.free (sym scale) m items island node s);
      goals_out = λ node g. h.goals_out node (goal_too f d.free (sym scale) m items others node g);
      blocks = record {
        in_order = h.blocks.in_order;
        only = All-weaker
            (IsBlock (way d m island.net) (way_count d m island.net) (IsShutBy d m items island.net) cut.reach.nodes)
            (IsBlock (way f m island.net) (way_count f m island.net) (IsShutBy f m items island.net) cut.reach.nodes)
            (λ b is. record {
              node_in = is.node_in;
              in_range = is.in_range;
              leads_out = is.leads_out;
              shut = shut_too island.net b.node b.index b.by is.shut;
            }) cut.blocked h.blocks.only;
        complete = h.blocks.complete;
      };
    }
