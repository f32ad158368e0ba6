-- The copper of a walk, and chains that are shoved, on a lattice with whole lines.
use Rattle.std.proofs.Common.{◌≡◌, inl, inr, ℕ, ◌+◌, ℤ, Bool, true, false, cond, List, [], ◌∷◌, take, drop, map, sym}
use Rattle.std.proofs.Common.{subst, refl}
use Rattle.std.specs.Prelude.{All, unsigned_abs}
use Rattle.std.specs.List.{list_all}
use Rattle.std.proofs.lemmas.Bool.{and_parts, and_from}
use Rattle.std.proofs.lemmas.List.Sums.{AllPass-from_list_all}
use Rattle.std.proofs.lemmas.List.Elements.{All-nil, All-cons, All-head, All-tail, All-append, All-take, All-drop}
use Rattle.std.proofs.lemmas.List.Elements.{All-contains}
use Rattle.geo_kernel.specs.declared.point.Point.{Point}
use Rattle.pcb_model.specs.declared.item.Metal.{Metal}
use Rattle.pcb_model.specs.declared.item.Metal.TheVariants as metal
use Rattle.pcb_model.specs.declared.design.Design.{Design}
use Rattle.pcb_model.specs.Rules.{width_for}
use Rattle.pcb_model.specs.Scale.{is_whole, is_whole_point}
use Rattle.route_lattice.specs.declared.moves.Move.{Move}
use Rattle.route_lattice.specs.declared.moves.Move.TheVariants as move
use Rattle.route_lattice.specs.Mesh.{Mesh, point_of, layer_of}
use Rattle.path_wire.specs.Wires.{corners, wire_from, copper_from, copper_of}
use Rattle.shove.specs.Shoves.{IsNextLine, MovesRun, is_same_point, fresh_after, without_repeats, with_points}
use Rattle.shove.specs.Shoves.{IsShovedChain, chain_of}
use Rattle.board_offers.specs.Items.{with_chain}
use Rattle.board_offers.proofs.Lists.{got}
use Rattle.session_law.proofs.ToldDesigns.{IsWholeMetal}
use Rattle.route_lattice.proofs.WholeLines.{IsWhole}
use Rattle.session_law.proofs.ScaleLines.{HasWholeLines, node_whole}

-- the points of a chain are whole in units of so many nm
abbrev pub IsWholeChain : ℕ → List Point → Type 0
IsWholeChain nm chain = All (λ (p : Point). is_whole_point nm p ≡ true) chain

-- the points of a whole metal
pub points_of : (nm : ℕ) (a : Metal) → IsWholeMetal nm a → IsWholeChain nm (chain_of a)
points_of nm (metal.Wire layer width chain) h = AllPass-from_list_all (is_whole_point nm) chain
    (and_parts (is_whole nm width) (list_all (is_whole_point nm) chain) h).1
points_of nm (metal.Via padstack at) h = All-nil (λ (p : Point). is_whole_point nm p ≡ true)
points_of nm (metal.Pad pin) h = All-nil (λ (p : Point). is_whole_point nm p ≡ true)
points_of nm (metal.Ban wires vias) h = All-nil (λ (p : Point). is_whole_point nm p ≡ true)

-- a whole metal with other whole points
pub rechained : (nm : ℕ) (points : List Point) (a : Metal) → list_all (is_whole_point nm) points ≡ true
    → IsWholeMetal nm a → IsWholeMetal nm (with_chain points a)
rechained nm points (metal.Wire layer width chain) h w = and_from (is_whole nm width)
    (list_all (is_whole_point nm) points) (and_parts (is_whole nm width) (list_all (is_whole_point nm) chain) w).0 h
rechained nm points (metal.Via padstack at) h w = w
rechained nm points (metal.Pad pin) h w = w
rechained nm points (metal.Ban wires vias) h w = w

module _ (nm : ℕ) (m : Mesh) (lines : HasWholeLines nm m) where
  -- ---- walks
  -- the points of nodes
  points_whole : (vs : List ℕ) → list_all (is_whole_point nm) (map (point_of m) vs) ≡ true
  points_whole [] = refl
  points_whole (v ∷ vs) = and_from (is_whole_point nm (point_of m v))
      (list_all (is_whole_point nm) (map (point_of m) vs)) (node_whole nm m v lines) (points_whole vs)

  -- a wire over nodes
  wire_whole : (layer width : ℕ) (vs : List ℕ) → is_whole nm width ≡ true
      → IsWholeMetal nm (metal.Wire layer width (map (point_of m) vs))
  wire_whole layer width vs h = and_from (is_whole nm width) (list_all (is_whole_point nm) (map (point_of m) vs)) h
      (points_whole vs)

  -- the copper of moves from a node on
  from_whole : (width : ℕ) (fresh : Bool) (nodes : List ℕ) (moves : List Move) → is_whole nm width ≡ true
      → All (IsWholeMetal nm) (copper_from m width fresh nodes moves)
  from_whole width true [] [] h = All-nil (IsWholeMetal nm)
  from_whole width false [] [] h = All-nil (IsWholeMetal nm)
  from_whole width true [] (a ∷ ms) h = All-nil (IsWholeMetal nm)
  from_whole width false [] (a ∷ ms) h = All-nil (IsWholeMetal nm)
  from_whole width true (v ∷ vs) [] h = All-nil (IsWholeMetal nm)
  from_whole width false (v ∷ vs) [] h = All-nil (IsWholeMetal nm)
  from_whole width true (v ∷ vs) (move.Via padstack layer ∷ ms) h = All-cons (IsWholeMetal nm)
      (metal.Via padstack (point_of m v)) (copper_from m width true vs ms) (node_whole nm m v lines)
      (from_whole width true vs ms h)
  from_whole width false (v ∷ vs) (move.Via padstack layer ∷ ms) h = All-cons (IsWholeMetal nm)
      (metal.Via padstack (point_of m v)) (copper_from m width true vs ms) (node_whole nm m v lines)
      (from_whole width true vs ms h)
  from_whole width true (v ∷ vs) (move.Step dir ∷ ms) h = All-cons (IsWholeMetal nm)
      (wire_from m width v vs (move.Step dir ∷ ms)) (copper_from m width false vs ms)
      (wire_whole (layer_of m v) width (v ∷ corners vs (move.Step dir ∷ ms)) h) (from_whole width false vs ms h)
  from_whole width false (v ∷ vs) (move.Step dir ∷ ms) h = from_whole width false vs ms h

  -- the copper of a walk of a net whose width is whole
  pub copper_whole : (d : Design) (net : ℕ) (nodes : List ℕ) (moves : List Move)
      → is_whole nm (width_for d net) ≡ true → All (IsWholeMetal nm) (copper_of d m net nodes moves)
  copper_whole d net [] [] h = from_whole (width_for d net) true [] [] h
  copper_whole d net [] (a ∷ ms) h = from_whole (width_for d net) true [] (a ∷ ms) h
  copper_whole d net (v ∷ vs) [] h = All-cons (IsWholeMetal nm)
      (metal.Wire (layer_of m v) (width_for d net) (point_of m v ∷ point_of m v ∷ [])) []
      (wire_whole (layer_of m v) (width_for d net) (v ∷ v ∷ []) h) (All-nil (IsWholeMetal nm))
  copper_whole d net (v ∷ vs) (a ∷ ms) h = from_whole (width_for d net) true (v ∷ vs) (a ∷ ms) h

  -- ---- shoved chains
  -- a point that is whole in these units
  abbrev IsWholeAt : Point → Type 0
  IsWholeAt p = is_whole_point nm p ≡ true

  -- points behind one, without repeats
  fresh_whole : (p : Point) (qs : List Point) → IsWholeChain nm qs → IsWholeChain nm (fresh_after p qs)
  fresh_whole p [] h = h
  fresh_whole p (q ∷ qs) h = either (is_same_point p q) (fresh_whole q qs (All-tail IsWholeAt q qs h))
    where
      either : (b : Bool) → IsWholeChain nm (fresh_after q qs)
          → IsWholeChain nm (cond b (fresh_after q qs) (q ∷ fresh_after q qs))
      either true k = k
      either false k = All-cons IsWholeAt q (fresh_after q qs) (All-head IsWholeAt q qs h) k

  -- points without repeats
  once_whole : (ps : List Point) → IsWholeChain nm ps → IsWholeChain nm (without_repeats ps)
  once_whole [] h = h
  once_whole (p ∷ ps) h = All-cons IsWholeAt p (fresh_after p ps) (All-head IsWholeAt p ps h)
      (fresh_whole p ps (All-tail IsWholeAt p ps h))

  -- the next line is one of the lattice's
  next_whole : (up : Bool) (zs : List ℤ) (at line : ℤ) → All (IsWhole nm) zs → IsNextLine up zs at line
      → IsWhole nm line
  next_whole true zs at line all h = All-contains (IsWhole nm) zs line all h.there
  next_whole false zs at line all h = All-contains (IsWhole nm) zs line all h.there

  -- a point of whole coordinates
  paired : (x y : ℤ) → IsWhole nm x → IsWhole nm y → IsWholeAt (record { x = x; y = y })
  paired x y h k = and_from (is_whole nm (unsigned_abs x)) (is_whole nm (unsigned_abs y)) h k

  -- the coordinates of a whole point
  parted : (p : Point) → IsWholeAt p → IsWhole nm p.x × IsWhole nm p.y
  parted p h = and_parts (is_whole nm (unsigned_abs p.x)) (is_whole nm (unsigned_abs p.y)) h

  -- the points of a moved run
  moved_whole : (up : Bool) (a b p q : Point) → IsWholeAt a → IsWholeAt b → MovesRun m up a b p q
      → IsWholeAt p × IsWholeAt q
  moved_whole up a b p q wa wb (inl h) =
      let line = next_whole up m.ys a.y h.line lines.ys_whole h.next in (
        subst IsWholeAt (sym h.to_a_is) (paired a.x h.line (parted a wa).0 line),
        subst IsWholeAt (sym h.to_b_is) (paired b.x h.line (parted b wb).0 line),
      )
  moved_whole up a b p q wa wb (inr h) =
      let line = next_whole up m.xs a.x h.line lines.xs_whole h.next in (
        subst IsWholeAt (sym h.to_a_is) (paired h.line a.y line (parted a wa).1),
        subst IsWholeAt (sym h.to_b_is) (paired h.line b.y line (parted b wb).1),
      )

  -- a whole chain with a run moved is whole
  pub chain_whole : (chain : List Point) (r : ℕ) (up : Bool) (shoved : List Point) → IsWholeChain nm chain
      → IsShovedChain m chain r up shoved → IsWholeChain nm shoved
  chain_whole chain r up shoved all h =
      let moved = moved_whole up h.a h.b h.to_a h.to_b (got IsWholeAt chain all r h.a (sym h.a_is))
      (got IsWholeAt chain all (r + 1) h.b (sym h.b_is)) h.moves in
      subst (IsWholeChain nm) (sym h.shoved_is) (once_whole (with_points chain r h.to_a h.to_b)
      (All-append IsWholeAt (take (r + 1) chain) (h.to_a ∷ h.to_b ∷ drop (r + 1) chain)
      (All-take IsWholeAt (r + 1) chain all)
      (All-cons IsWholeAt h.to_a (h.to_b ∷ drop (r + 1) chain) moved.0
      (All-cons IsWholeAt h.to_b (drop (r + 1) chain) moved.1 (All-drop IsWholeAt (r + 1) chain all)))))
