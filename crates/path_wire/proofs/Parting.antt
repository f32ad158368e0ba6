-- The copper of a walk, laid move by move, is that of the walk's parts.
use Rattle.std.proofs.Common.{◌≡◌, ℕ, suc, ◌+◌, ◌≤◌, Bool, true, false, cond, Some, List, [], ◌∷◌, map, length, All}
use Rattle.std.proofs.Common.{refl, sym, ap, ap₂, ◌∙◌, subst, arith, inl, inr}
use Rattle.std.specs.Prelude.{not, flat_map, filter, slice_get, ◌⊎◌}
use Rattle.std.specs.List.{enumerate_from}
use Rattle.std.proofs.lemmas.List.Elements.{All-nil, All-cons, All-head, All-tail}
use Rattle.pcb_model.specs.declared.item.Metal.TheVariants as metal
use Rattle.pcb_model.specs.declared.design.Design.{Design}
use Rattle.pcb_model.specs.Rules.{width_for}
use Rattle.route_lattice.specs.declared.moves.Move.{Move}
use Rattle.route_lattice.specs.declared.moves.Move.TheVariants as move
use Rattle.route_lattice.specs.Mesh.{Mesh, point_of, layer_of}
use Rattle.path_wire.specs.Wires.{MovesLead, IsNetWalk, unless_straight, goes_on, corners, copper_from, copper_of}
use Rattle.path_wire.specs.Joins.{last_node}
use Rattle.path_wire.specs.Parts.{Part, part, nodes_behind, moves_of, IsVia, IsStep, AreSteps, IsPart, Follow}
use Rattle.path_wire.specs.Parts.{AreLongest, AreParts}
use Rattle.path_wire.specs.Parts.{goes_straight, is_bend, bends, part_metal}

-- ---- the parts, from the last move on
-- the nodes and the steps of the stretch with which the parts begin, and the parts behind it
abbrev nodes_on : List Part → List ℕ
nodes_on (part v vs (move.Step dir ∷ ms) ∷ parts) = vs
nodes_on parts = []

abbrev steps_on : List Part → List Move
steps_on (part v vs (move.Step dir ∷ ms) ∷ parts) = move.Step dir ∷ ms
steps_on parts = []

abbrev beyond : List Part → List Part
beyond (part v vs (move.Step dir ∷ ms) ∷ parts) = parts
beyond parts = parts

-- a step in front of them, which makes that stretch longer or is one of its own
abbrev with_step : ℕ → ℕ → ℕ → List Part → List Part
with_step v w dir parts = part v (w ∷ nodes_on parts) (move.Step dir ∷ steps_on parts) ∷ beyond parts

abbrev parts_of : ℕ → List ℕ → List Move → List Part
parts_of v (w ∷ vs) (move.Via padstack layer ∷ ms) = part v (w ∷ []) (move.Via padstack layer ∷ []) ∷ parts_of w vs ms
parts_of v (w ∷ vs) (move.Step dir ∷ ms) = with_step v w dir (parts_of w vs ms)
parts_of v vs ms = []

-- ---- a step in front keeps what parts are
step_nodes : (v w dir : ℕ) (parts : List Part)
    → flat_map nodes_behind (with_step v w dir parts) ≡ w ∷ flat_map nodes_behind parts
step_nodes v w dir [] = refl
step_nodes v w dir (part u us [] ∷ parts) = refl
step_nodes v w dir (part u us (move.Via padstack layer ∷ ks) ∷ parts) = refl
step_nodes v w dir (part u us (move.Step e ∷ ks) ∷ parts) = refl

-- so are the moves
step_moves : (v w dir : ℕ) (parts : List Part)
    → flat_map moves_of (with_step v w dir parts) ≡ move.Step dir ∷ flat_map moves_of parts
step_moves v w dir [] = refl
step_moves v w dir (part u us [] ∷ parts) = refl
step_moves v w dir (part u us (move.Via padstack layer ∷ ks) ∷ parts) = refl
step_moves v w dir (part u us (move.Step e ∷ ks) ∷ parts) = refl

-- one step is a part
lone_step : (v w dir : ℕ) → IsPart (part v (w ∷ []) (move.Step dir ∷ []))
lone_step v w dir = (refl, inl (omega arith, All-cons IsStep (move.Step dir) [] tt (All-nil IsStep)))

-- a stretch has steps alone
all_steps : (e : ℕ) (ks : List Move) → AreSteps (move.Step e ∷ ks) ⊎ IsVia (move.Step e ∷ ks)
    → All IsStep (move.Step e ∷ ks)
all_steps e ks (inl s) = s.1
all_steps e ks (inr h) = absurd h

-- a part that begins by a via move is that move alone
alone : (padstack layer : ℕ) (ks : List Move)
    → AreSteps (move.Via padstack layer ∷ ks) ⊎ IsVia (move.Via padstack layer ∷ ks)
    → IsVia (move.Via padstack layer ∷ ks)
alone padstack layer ks (inl s) = absurd (All-head IsStep (move.Via padstack layer) ks s.1)
alone padstack layer ks (inr h) = h

-- a part has moves
some_moves : AreSteps [] ⊎ IsVia [] → ⊥
some_moves (inl s) = let none = s.0 in omega (arith, none)
some_moves (inr h) = h

-- they stay parts
step_each : (v w dir : ℕ) (parts : List Part) → All IsPart parts → All IsPart (with_step v w dir parts)
step_each v w dir [] h = All-cons IsPart (part v (w ∷ []) (move.Step dir ∷ [])) [] (lone_step v w dir) h
step_each v w dir (part u us [] ∷ parts) h =
    All-cons IsPart (part v (w ∷ []) (move.Step dir ∷ [])) (part u us [] ∷ parts) (lone_step v w dir) h
step_each v w dir (part u us (move.Via padstack layer ∷ ks) ∷ parts) h =
    All-cons IsPart (part v (w ∷ []) (move.Step dir ∷ [])) (part u us (move.Via padstack layer ∷ ks) ∷ parts)
    (lone_step v w dir) h
step_each v w dir (part u us (move.Step e ∷ ks) ∷ parts) h =
    let here = All-head IsPart (part u us (move.Step e ∷ ks)) parts h in
    All-cons IsPart (part v (w ∷ us) (move.Step dir ∷ move.Step e ∷ ks)) parts
    (ap suc here.0, inl (omega arith, All-cons IsStep (move.Step dir) (move.Step e ∷ ks) tt (all_steps e ks here.1)))
    (All-tail IsPart (part u us (move.Step e ∷ ks)) parts h)

-- each begins where the one before it ends
step_follow : (v w dir : ℕ) (parts : List Part) → Follow w parts → Follow v (with_step v w dir parts)
step_follow v w dir [] h = (refl, tt)
step_follow v w dir (part u us [] ∷ parts) h = (refl, h)
step_follow v w dir (part u us (move.Via padstack layer ∷ ks) ∷ parts) h = (refl, h)
step_follow v w dir (part u us (move.Step e ∷ ks) ∷ parts) h =
    (refl, subst (λ x. Follow (last_node x us) parts) h.0 h.1)

-- a stretch is no via
past_stretch : (e : ℕ) (ks : List Move) (q : Part) → IsVia (move.Step e ∷ ks) ⊎ IsVia (moves_of q) → IsVia (moves_of q)
past_stretch e ks q (inl h) = absurd h
past_stretch e ks q (inr h) = h

-- no stretch could be longer
step_longest : (v w dir : ℕ) (parts : List Part) → All IsPart parts → AreLongest parts
    → AreLongest (with_step v w dir parts)
step_longest v w dir [] each h = tt
step_longest v w dir (part u us [] ∷ parts) each h = absurd (some_moves (All-head IsPart (part u us []) parts each).1)
step_longest v w dir (part u us (move.Via padstack layer ∷ ks) ∷ parts) each h =
    (inr (alone padstack layer ks (All-head IsPart (part u us (move.Via padstack layer ∷ ks)) parts each).1), h)
step_longest v w dir (part u us (move.Step e ∷ ks) ∷ []) each h = tt
step_longest v w dir (part u us (move.Step e ∷ ks) ∷ q ∷ parts) each h = (inr (past_stretch e ks q h.0), h.1)

-- a via in front
via_longest : (v w padstack layer : ℕ) (parts : List Part) → AreLongest parts
    → AreLongest (part v (w ∷ []) (move.Via padstack layer ∷ []) ∷ parts)
via_longest v w padstack layer [] h = tt
via_longest v w padstack layer (q ∷ parts) h = (inl tt, h)

-- ---- bends
-- of a longer list the places are one greater
bend_on : (a : Move) (ks : List Move) (n : ℕ) → is_bend (a ∷ ks) (n + 1) ≡ is_bend ks n
bend_on a ks n = let next : n + 1 ≡ suc n = omega arith in ap (is_bend (a ∷ ks)) next

abbrev second : ℕ × ℕ → ℕ
second x = x.1

-- of two lists with one test the heads stay or go together
one_kept : (b c : Bool) (k n x : ℕ) (xs ys : List (ℕ × ℕ)) → b ≡ c → map second xs ≡ map second ys
    → map second (cond b ((k, x) ∷ xs) xs) ≡ map second (cond c ((n, x) ∷ ys) ys)
one_kept true true k n x xs ys e h = ap (λ zs. x ∷ zs) h
one_kept true false k n x xs ys e h = cc
one_kept false true k n x xs ys e h = cc
one_kept false false k n x xs ys e h = h

-- the bends of a longer list
bends_on : (a : Move) (ks : List Move) (n : ℕ) (us : List ℕ)
    → map second (filter (λ (x : ℕ × ℕ). is_bend (a ∷ ks) x.0) (enumerate_from (n + 1) us))
    ≡ map second (filter (λ (x : ℕ × ℕ). is_bend ks x.0) (enumerate_from n us))
bends_on a ks n [] = refl
bends_on a ks n (u ∷ us) = one_kept (is_bend (a ∷ ks) (n + 1)) (is_bend ks n) (n + 1) n u
    (filter (λ (x : ℕ × ℕ). is_bend (a ∷ ks) x.0) (enumerate_from (n + 1 + 1) us))
    (filter (λ (x : ℕ × ℕ). is_bend ks x.0) (enumerate_from (n + 1) us)) (bend_on a ks n) (bends_on a ks (n + 1) us)

-- the first move of the rest goes straight on
first_on : (dir : ℕ) (ks : List Move) → goes_straight (Some (move.Step dir)) (slice_get ks 0) ≡ goes_on dir ks
first_on dir [] = refl
first_on dir (move.Step e ∷ ks) = refl
first_on dir (move.Via padstack layer ∷ ks) = refl

-- the first node of a list of bends
turned : (b c : Bool) (w : ℕ) (xs : List (ℕ × ℕ)) (ys : List ℕ) → b ≡ c → map second xs ≡ ys
    → map second (cond (not b) ((0, w) ∷ xs) xs) ≡ unless_straight c w ys
turned true true w xs ys e h = h
turned true false w xs ys e h = cc
turned false true w xs ys e h = cc
turned false false w xs ys e h = ap (λ zs. w ∷ zs) h

-- the bends of a stretch that begins by a step
step_bends : (w : ℕ) (us : List ℕ) (dir : ℕ) (ks : List Move)
    → bends (w ∷ us) (move.Step dir ∷ ks) ≡ unless_straight (goes_on dir ks) w (bends us ks)
step_bends w us dir ks = turned (goes_straight (Some (move.Step dir)) (slice_get ks 0)) (goes_on dir ks) w
    (filter (λ (x : ℕ × ℕ). is_bend (move.Step dir ∷ ks) x.0) (enumerate_from (0 + 1) us)) (bends us ks)
    (first_on dir ks)
    (bends_on (move.Step dir) ks 0 us)

-- ---- a walk of a net
module _ (d : Design) (m : Mesh) (net : ℕ) where
  -- the stretch goes on as the moves do
  same_on : (dir w : ℕ) (vs : List ℕ) (ms : List Move) → MovesLead d m net (w ∷ vs) ms
      → goes_on dir (steps_on (parts_of w vs ms)) ≡ goes_on dir ms
  same_on dir w [] [] h = refl
  same_on dir w [] (a ∷ ms) h = absurd h
  same_on dir w (x ∷ vs) [] h = absurd h
  same_on dir w (x ∷ vs) (move.Step e ∷ ms) h = refl
  same_on dir w (x ∷ vs) (move.Via padstack layer ∷ ms) h = refl

  -- its bends are the corners
  same_corners : (v : ℕ) (vs : List ℕ) (ms : List Move) → MovesLead d m net (v ∷ vs) ms
      → bends (nodes_on (parts_of v vs ms)) (steps_on (parts_of v vs ms)) ≡ corners vs ms
  same_corners v [] [] h = refl
  same_corners v [] (a ∷ ms) h = absurd h
  same_corners v (w ∷ vs) [] h = absurd h
  same_corners v (w ∷ vs) (move.Via padstack layer ∷ ms) h = refl
  same_corners v (w ∷ vs) (move.Step dir ∷ ms) h =
      step_bends w (nodes_on (parts_of w vs ms)) dir (steps_on (parts_of w vs ms))
      ∙ ap₂ (λ b xs. unless_straight b w xs) (same_on dir w vs ms h.1) (same_corners w vs ms h.1)

  -- the nodes of all parts are those of the walk
  joined_nodes : (v : ℕ) (vs : List ℕ) (ms : List Move) → MovesLead d m net (v ∷ vs) ms
      → flat_map nodes_behind (parts_of v vs ms) ≡ vs
  joined_nodes v [] [] h = refl
  joined_nodes v [] (a ∷ ms) h = absurd h
  joined_nodes v (w ∷ vs) [] h = absurd h
  joined_nodes v (w ∷ vs) (move.Via padstack layer ∷ ms) h = ap (λ xs. w ∷ xs) (joined_nodes w vs ms h.1)
  joined_nodes v (w ∷ vs) (move.Step dir ∷ ms) h =
      step_nodes v w dir (parts_of w vs ms) ∙ ap (λ xs. w ∷ xs) (joined_nodes w vs ms h.1)

  -- so are the moves
  joined_moves : (v : ℕ) (vs : List ℕ) (ms : List Move) → MovesLead d m net (v ∷ vs) ms
      → flat_map moves_of (parts_of v vs ms) ≡ ms
  joined_moves v [] [] h = refl
  joined_moves v [] (a ∷ ms) h = absurd h
  joined_moves v (w ∷ vs) [] h = absurd h
  joined_moves v (w ∷ vs) (move.Via padstack layer ∷ ms) h =
      ap (λ xs. move.Via padstack layer ∷ xs) (joined_moves w vs ms h.1)
  joined_moves v (w ∷ vs) (move.Step dir ∷ ms) h =
      step_moves v w dir (parts_of w vs ms) ∙ ap (λ xs. move.Step dir ∷ xs) (joined_moves w vs ms h.1)

  -- each is a part
  each_part : (v : ℕ) (vs : List ℕ) (ms : List Move) → MovesLead d m net (v ∷ vs) ms → All IsPart (parts_of v vs ms)
  each_part v [] [] h = All-nil IsPart
  each_part v [] (a ∷ ms) h = absurd h
  each_part v (w ∷ vs) [] h = absurd h
  each_part v (w ∷ vs) (move.Via padstack layer ∷ ms) h =
      All-cons IsPart (part v (w ∷ []) (move.Via padstack layer ∷ [])) (parts_of w vs ms) (refl, inr tt)
      (each_part w vs ms h.1)
  each_part v (w ∷ vs) (move.Step dir ∷ ms) h = step_each v w dir (parts_of w vs ms) (each_part w vs ms h.1)

  -- each begins where the one before it ends
  parts_follow : (v : ℕ) (vs : List ℕ) (ms : List Move) → MovesLead d m net (v ∷ vs) ms → Follow v (parts_of v vs ms)
  parts_follow v [] [] h = tt
  parts_follow v [] (a ∷ ms) h = absurd h
  parts_follow v (w ∷ vs) [] h = absurd h
  parts_follow v (w ∷ vs) (move.Via padstack layer ∷ ms) h = (refl, parts_follow w vs ms h.1)
  parts_follow v (w ∷ vs) (move.Step dir ∷ ms) h = step_follow v w dir (parts_of w vs ms) (parts_follow w vs ms h.1)

  -- no stretch could be longer
  are_longest : (v : ℕ) (vs : List ℕ) (ms : List Move) → MovesLead d m net (v ∷ vs) ms → AreLongest (parts_of v vs ms)
  are_longest v [] [] h = tt
  are_longest v [] (a ∷ ms) h = absurd h
  are_longest v (w ∷ vs) [] h = absurd h
  are_longest v (w ∷ vs) (move.Via padstack layer ∷ ms) h =
      via_longest v w padstack layer (parts_of w vs ms) (are_longest w vs ms h.1)
  are_longest v (w ∷ vs) (move.Step dir ∷ ms) h =
      step_longest v w dir (parts_of w vs ms) (each_part w vs ms h.1) (are_longest w vs ms h.1)

  -- the copper of all parts, and of those behind a stretch
  same_copper : (width v : ℕ) (vs : List ℕ) (ms : List Move) → MovesLead d m net (v ∷ vs) ms
      → (map (part_metal m width) (parts_of v vs ms) ≡ copper_from m width true (v ∷ vs) ms)
      × (map (part_metal m width) (beyond (parts_of v vs ms)) ≡ copper_from m width false (v ∷ vs) ms)
  same_copper width v [] [] h = (refl, refl)
  same_copper width v [] (a ∷ ms) h = absurd h
  same_copper width v (w ∷ vs) [] h = absurd h
  same_copper width v (w ∷ vs) (move.Via padstack layer ∷ ms) h =
      let rest = ap (λ xs. metal.Via padstack (point_of m v) ∷ xs) (same_copper width w vs ms h.1).0 in
      (rest, rest)
  same_copper width v (w ∷ vs) (move.Step dir ∷ ms) h =
      let rest = (same_copper width w vs ms h.1).1 in (
        ap₂ (λ cs rest. metal.Wire (layer_of m v) width (map (point_of m) (v ∷ cs)) ∷ rest)
            (same_corners v (w ∷ vs) (move.Step dir ∷ ms) h) rest,
        rest,
      )

  -- the parts of a walk, and its copper by them
  pub by_parts : (v : ℕ) (vs : List ℕ) (ms : List Move) → 1 ≤ length ms → IsNetWalk d m net (v ∷ vs) ms
      → (parts : List Part) × AreParts v vs ms parts
      × (copper_of d m net (v ∷ vs) ms ≡ map (part_metal m (width_for d net)) parts)
  by_parts v vs [] some h = absurd (omega arith)
  by_parts v vs (a ∷ ms) some h = (
    parts_of v vs (a ∷ ms),
    record {
      nodes_are = joined_nodes v vs (a ∷ ms) h.leads;
      moves_are = joined_moves v vs (a ∷ ms) h.leads;
      each = each_part v vs (a ∷ ms) h.leads;
      follow = parts_follow v vs (a ∷ ms) h.leads;
      longest = are_longest v vs (a ∷ ms) h.leads;
    },
    sym (same_copper (width_for d net) v vs (a ∷ ms) h.leads).0,
  )
