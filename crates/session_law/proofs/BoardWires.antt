-- A wire of which nothing is refused has two points or more.
use Rattle.std.proofs.Common.{◌≡◌, ◌++◌, ℕ, Bool, true, false, cond, ◌||◌, List, [], ◌∷◌, length, ap, refl}
use Rattle.std.specs.Prelude.{◌==◌, All, None, codes, filter, get_or, nat_lt, slice_get}
use Rattle.std.specs.List.{flat_map}
use Rattle.std.specs.Option.{option_map_or}
use Rattle.std.proofs.lemmas.Bool.{eqb-false, ltb-false, or_from, or_parts}
use Rattle.std.proofs.lemmas.List.Elements.{All-map}
use Rattle.pcb_model.specs.declared.item.Metal.{Metal}
use Rattle.dsn_tree.specs.declared.tree.Tree.{Tree}
use Rattle.dsn_tree.specs.Heads.{is_headed, items_of}
use Rattle.dsn_shapes.specs.declared.refusal.Refusal.{Refusal}
use Rattle.dsn_shapes.specs.declared.parts.Layer.{Layer}
use Rattle.dsn_shapes.specs.declared.parts.Stack.{Stack}
use Rattle.dsn_shapes.specs.declared.parts.Library.{Library}
use Rattle.dsn_shapes.specs.declared.parts.Network.{Network}
use Rattle.dsn_shapes.specs.declared.parts.Placing.{Placing}
use Rattle.dsn_shapes.specs.declared.parts.ReadWire.{ReadWire}
use Rattle.dsn_shapes.specs.declared.parts.Structure.{Structure}
use Rattle.dsn_shapes.specs.declared.refusal.What.TheVariants.{Items}
use Rattle.dsn_shapes.specs.Limits.{too_many}
use Rattle.dsn_shapes.specs.Refusals.{least, refused}
use Rattle.dsn_shapes.specs.Known.{form_heads}
use Rattle.dsn_shapes.specs.Lists.{at_of, has_head, left_out, left_out_in, lists, place_of}
use Rattle.dsn_shapes.specs.Names.{stack_names}
use Rattle.dsn_shapes.specs.Shapes.{shape_of, shape_refusals}
use Rattle.dsn_shapes.proofs.Fits.{back_nil, each_nil, front_nil, none_left, test_fails}
use Rattle.dsn_wiring.specs.Counts.{items_before}
use Rattle.dsn_wiring.specs.Layers.{layers_below}
use Rattle.dsn_wiring.specs.Nets.{net_names, net_refusals}
use Rattle.dsn_wiring.specs.Vias.{via_metal, via_refusals}
use Rattle.dsn_wiring.specs.Wires.{chain_of, further_forms, is_unfit, no_form, no_wire, others_in, path_metal}
use Rattle.dsn_wiring.specs.Wires.{path_refusals, paths_in, refused_form, wire_metal, wire_refusals}
use Rattle.dsn_wiring.specs.Whole.{lists_left_out, metal_of, metal_refusals, refusals_of, wire_lists, wire_of}
use Rattle.dsn_wiring.specs.Whole.{wiring_of, wiring_refusals, wirings}
use Rattle.session_law.specs.Back.{HasTwoPoints}

-- ---- forms
-- what none passes, the first doesn't pass, nor any of the rest
dropped : {X : Type 0} (b : Bool) (x : X) (xs ys : List X) → cond b (x ∷ xs) ys ≡ [] → (b ≡ false) × (ys ≡ [])
dropped true x xs ys e = cc
dropped false x xs ys e = (refl, e)

-- and the other way round
none_kept : {X : Type 0} (b : Bool) (x : X) (xs ys : List X) → b ≡ false → ys ≡ [] → cond b (x ∷ xs) ys ≡ []
none_kept true x xs ys e f = cc
none_kept false x xs ys e f = f

-- a tree is no form where it is no path, no other form and isn't left out
no_head : (c r o p q l b : Bool) → (p || false) ≡ false → (r || (c || (o || false))) ≡ false → (q || (l || b)) ≡ false
    → (c || (r || (o || (p || (q || (l || false)))))) ≡ false
no_head c r o p q l b path others left =
    let h = or_parts p false path in
    let k = or_parts r (c || (o || false)) others in
    let m = or_parts c (o || false) k.1 in
    let n = or_parts o false m.1 in
    let v = or_parts q (l || b) left in
    let w = or_parts l b v.1 in
    or_from c _ m.0 (or_from r _ k.0 (or_from o _ n.0 (or_from p _ h.0 (or_from q _ v.0 (or_from l false w.0 refl)))))

-- the heads of paths, and those of the forms that no wire may have
abbrev path_heads : List (List ℕ)
path_heads = codes "path" ∷ []

abbrev other_heads : List (List ℕ)
other_heads = codes "rect" ∷ codes "circle" ∷ codes "polygon" ∷ []

-- so there are no forms where there are none of these
no_forms : (items : List Tree) → flat_map left_out items ≡ [] → filter (has_head path_heads) items ≡ []
    → filter (has_head other_heads) items ≡ [] → filter (has_head form_heads) items ≡ []
no_forms [] left paths others = refl
no_forms (i ∷ items) left paths others =
    let p = dropped (has_head path_heads i) i (filter (has_head path_heads) items)
    (filter (has_head path_heads) items) paths in
    let o = dropped (has_head other_heads i) i (filter (has_head other_heads) items)
    (filter (has_head other_heads) items) others in
    let l = test_fails _ (refused 21 (place_of i 0)) [] (front_nil (left_out i) (flat_map left_out items) left) in
    let n = no_head (is_headed (codes "circle") i) (is_headed (codes "rect") i) (is_headed (codes "polygon") i)
    (is_headed (codes "path") i) (is_headed (codes "qarc") i) (is_headed (codes "polyline_path") i) _ p.0 o.0 l in
    none_kept (has_head form_heads i) i (filter (has_head form_heads) items) (filter (has_head form_heads) items) n
    (no_forms items (back_nil (left_out i) (flat_map left_out items) left) p.1 o.1)

-- each form that is refused has its refusal
none_refused : (ts : List Tree) → flat_map refused_form ts ≡ [] → ts ≡ []
none_refused [] e = refl
none_refused (t ∷ ts) e = cc

-- a wire of which no form is refused has a path
some_path : (t : Tree) → flat_map left_out (items_of t) ≡ [] → no_form t ≡ [] → further_forms t ≡ []
    → paths_in t ≡ [] → ⊥
unfolding no_form further_forms lists
some_path t left none further paths =
    let p = front_nil (filter (has_head path_heads) (items_of t)) [] paths in
    let o = front_nil (filter (has_head other_heads) (items_of t)) []
    (none_refused (others_in t) (back_nil _ (flat_map refused_form (others_in t)) further)) in
    let forms = no_forms (items_of t) left p o in
    let some = eqb-false (length (lists form_heads (t ∷ []))) 0
    (test_fails (length (lists form_heads (t ∷ [])) == 0) (refused 22 (at_of t)) [] none) in
    some (ap (λ (fs : List Tree). length (fs ++ [])) forms)

-- ---- points
-- a path has two points
path_long : (nm : ℕ) (layers : List Layer) (t : Tree) → path_refusals nm layers t ≡ []
    → HasTwoPoints (path_metal nm layers t)
unfolding path_metal path_refusals
path_long nm layers t e =
    let s = shape_of nm layers t in
    let few = test_fails (is_unfit s) (refused 22 (at_of t)) [] (back_nil (shape_refusals nm layers t) _ e) in
    ltb-false (length (chain_of s.spine)) 2 (or_parts (nat_lt 1 (length (layers_below 32 s.layers))) _ few).1

-- so has the first of some paths
first_long : (nm : ℕ) (layers : List Layer) (paths : List Tree) → (paths ≡ [] → ⊥)
    → option_map_or (path_refusals nm layers) (slice_get paths 0) [] ≡ []
    → HasTwoPoints (option_map_or (path_metal nm layers) (slice_get paths 0) no_wire)
first_long nm layers [] some e = absurd (some refl)
first_long nm layers (p ∷ paths) some e = path_long nm layers p e

-- and a wire
wire_long : (nm : ℕ) (layers : List Layer) (t : Tree) → flat_map left_out (items_of t) ≡ []
    → wire_refusals nm layers t ≡ [] → HasTwoPoints (wire_metal nm layers t)
unfolding wire_metal wire_refusals
wire_long nm layers t left e =
    let rest = back_nil (no_form t) _ e in
    first_long nm layers (paths_in t)
    (some_path t left (front_nil (no_form t) _ e) (front_nil (further_forms t) _ rest))
    (back_nil (further_forms t) _ rest)

-- what holds of a via, and of a wire without refusals, holds of the metal
metal_if : (b : Bool) (v w : Metal) (rs ss : List Refusal) → cond b rs ss ≡ [] → HasTwoPoints v
    → (ss ≡ [] → HasTwoPoints w) → HasTwoPoints (cond b v w)
metal_if true v w rs ss e h k = h
metal_if false v w rs ss e h k = k e

-- a via has no points
via_long : (nm : ℕ) (names : List (List ℕ)) (t : Tree) → HasTwoPoints (via_metal nm names t)
unfolding via_metal
via_long nm names t = tt

-- a wire or a via of which nothing is refused
one_long : (nm : ℕ) (layers : List Layer) (stacks : List Stack) (names nets : List (List ℕ)) (t : Tree)
    → flat_map left_out (items_of t) ≡ [] → refusals_of nm layers stacks names nets t ≡ []
    → HasTwoPoints (wire_of nm layers names nets t).metal
unfolding wire_of refusals_of metal_of metal_refusals
one_long nm layers stacks names nets t left e =
    metal_if (is_headed (codes "via") t) (via_metal nm names t) (wire_metal nm layers t)
    (via_refusals nm stacks names t) (wire_refusals nm layers t) (back_nil (net_refusals nets t) _ e)
    (via_long nm names t) (wire_long nm layers t left)

-- all wires of a wiring without refusals
pub wires_long : (nm : ℕ) (st : Structure) (lib : Library) (placing : Placing) (net : Network) (pcb : Tree)
    → least (wiring_refusals nm st lib placing net pcb) ≡ None
    → All (λ (w : ReadWire). HasTwoPoints w.metal) (wiring_of nm st lib placing net pcb).wires
unfolding lists_left_out left_out_in
wires_long nm st lib placing net pcb none =
    let ts = wire_lists pcb in
    let names = stack_names lib.stacks in
    let nets = net_names net.nets in
    let all = none_left (wiring_refusals nm st lib placing net pcb) none in
    let rest = back_nil (lists_left_out (wirings pcb) ts) _ all in
    let lefts = each_nil (λ t. flat_map left_out (items_of t)) ts
    (back_nil (left_out_in (wirings pcb)) _ (front_nil (lists_left_out (wirings pcb) ts) _ all)) in
    let refusals = each_nil (refusals_of nm st.layers lib.stacks names nets) ts
    (back_nil (too_many Items (items_before st lib placing) ts) _ rest) in
    All-map (λ (w : ReadWire). HasTwoPoints w.metal) (wire_of nm st.layers names nets) ts (λ k d within.
    one_long nm st.layers lib.stacks names nets (get_or ts k d) (lefts k d within) (refusals k d within))
