-- Nets of one group have one clearance, one width and the same moves; what is clear of an item agrees with it.
use Rattle.std.proofs.Common.{◌≡◌, ℕ, ◌+◌, ◌-◌, ◌*◌, ◌/◌, ◌%◌, Bool, true, false, not, ◌&&◌, List}
use Rattle.std.proofs.Common.{[], ◌∷◌, ◌++◌, length, flat_map, Option, Some, None, All, inl, inr, cond, refl}
use Rattle.std.proofs.Common.{sym, ap, ◌∙◌, subst, arith, slice_get}
use Rattle.std.specs.Prelude.{slice_index, nat_lt, max}
use Rattle.std.specs.Option.{IsSomeAnd, option_map}
use Rattle.std.proofs.lemmas.List.Elements.{All-nil, All-cons, All-contains}
use Rattle.std.proofs.lemmas.Bool.{eqb-true}
use Rattle.pcb_model.specs.Board.{AreInside}
use Rattle.pcb_model.specs.declared.item.Kind.{Kind}
use Rattle.pcb_model.specs.declared.item.Kind.TheVariants as kind
use Rattle.pcb_model.specs.declared.item.Item.{Item}
use Rattle.pcb_model.specs.declared.item.Probe.{Probe}
use Rattle.pcb_model.specs.declared.item.Probe.TheVariants as probe
use Rattle.pcb_model.specs.declared.design.RuleSet.{RuleSet}
use Rattle.pcb_model.specs.declared.design.Net.{Net}
use Rattle.pcb_model.specs.declared.design.Design.{Design}
use Rattle.pcb_model.specs.Rules.{typed_value, levels, first_present, with_class, class_rules, value_of, clearance_of}
use Rattle.pcb_model.specs.Rules.{width_for, is_pair, class_in, class_of, pairs_of, joint_rules, pair_rules}
use Rattle.pcb_model.proofs.Joint.{clearance_is}
use Rattle.pcb_model.specs.Pieces.{pieces_of, metal_of, kind_of}
use Rattle.pcb_model.specs.Pairs.{PiecesKeep, is_same_net, is_compared, ProbeAgrees}
use Rattle.route_lattice.specs.declared.moves.Move.{Move}
use Rattle.route_lattice.specs.declared.moves.Move.TheVariants.{Step, Via}
use Rattle.route_lattice.specs.Mesh.{Mesh, point_of, layer_of}
use Rattle.route_lattice.specs.Ways.{step_at, via_at, vias_in, vias_of, way, way_count}
use Rattle.route_lattice.specs.Legal.{probe_of, probe_at, IsOpen}
use Rattle.move_maps.specs.Groups.{IsEmptyRules, AreNetsAlike, AreAlike}
use Rattle.move_maps.specs.Clear.{IsClearOf}
use Rattle.move_maps.specs.Maps.{Misses, IsOutside, IsTally}

-- ---- clearances
-- two absent values change nothing
dropped : (t p : Option ℕ) (rest : List (Option ℕ)) → t ≡ None → p ≡ None
    → first_present 0 (t ∷ p ∷ rest) ≡ first_present 0 rest
dropped None None rest e f = refl
dropped (Some x) p rest e f = cc
dropped None (Some x) rest e f = cc

-- rules without a clearance are passed over
passed : (ka kb : Kind) (rs : RuleSet) (rest : List (Option ℕ)) → IsEmptyRules rs
    → first_present 0 (levels ka kb rs ++ rest) ≡ first_present 0 rest
passed ka kb rs rest h = dropped (typed_value ka kb rs.typed) rs.plain rest
    (ap (λ (ts : List _). typed_value ka kb ts) h.no_typed) h.no_plain

-- the net, where it is there, has no rule of its own
abbrev Unruled : Option Net → Type 0
Unruled o = IsSomeAnd o (λ (n : Net). IsEmptyRules n.rules)

-- the clearance that a net, its class and the structure give
abbrev own : Design → Kind → Kind → Option Net → ℕ
own d ka kb o = first_present 0 (flat_map (levels ka kb) (with_class d o ++ d.rules ∷ []))

-- the clearance that a class and the structure give
abbrev in_class : Design → Kind → Kind → Option ℕ → ℕ
in_class d ka kb class = first_present 0 (flat_map (levels ka kb) (class_rules d class ++ d.rules ∷ []))

-- alike nets have the same from their class on
same_own : (d : Design) (ka kb : Kind) (a b : Option Net) → Unruled a → Unruled b
    → ((x y : Net) → a ≡ Some x → b ≡ Some y → AreNetsAlike x y) → own d ka kb a ≡ own d ka kb b
same_own d ka kb None b h k alike = absurd h
same_own d ka kb (Some x) None h k alike = absurd k
same_own d ka kb (Some x) (Some y) h k alike =
    passed ka kb x.rules (flat_map (levels ka kb) (class_rules d x.class ++ d.rules ∷ [])) h
    ∙ ap (in_class d ka kb) (alike x y refl refl).class_is
    ∙ sym (passed ka kb y.rules (flat_map (levels ka kb) (class_rules d y.class ++ d.rules ∷ [])) k)

-- alike nets have one value for each pair of kinds
pub same_value : (d : Design) (g net : ℕ) (ka kb : Kind) → AreAlike d g net
    → value_of d (Some g) ka kb ≡ value_of d (Some net) ka kb
same_value d g net ka kb h = same_own d ka kb (slice_get d.nets g)
    (slice_get d.nets net) h.g_unruled h.net_unruled h.nets

-- and one class, so that the class pairs say the same of them
same_class_in : (a b : Option Net) → Unruled a → Unruled b → ((x y : Net) → a ≡ Some x → b ≡ Some y → AreNetsAlike x y)
    → class_in a ≡ class_in b
same_class_in None b h k alike = absurd h
same_class_in (Some x) None h k alike = absurd k
same_class_in (Some x) (Some y) h k alike = (alike x y refl refl).class_is

same_class : (d : Design) (g net : ℕ) → AreAlike d g net → class_of d (Some g) ≡ class_of d (Some net)
same_class d g net h =
    same_class_in (slice_get d.nets g) (slice_get d.nets net) h.g_unruled h.net_unruled h.nets

-- and one clearance from each other net
pub same_clearance : (d : Design) (g net : ℕ) (ka : Kind) (b : Option ℕ) (kb : Kind) → AreAlike d g net
    → clearance_of d (Some g) ka b kb ≡ clearance_of d (Some net) ka b kb
same_clearance d g net ka b kb h =
    sym (clearance_is d (Some g) ka b kb)
    ∙ (ap (λ x. first_present (max x (value_of d b ka kb)) (levels ka kb (pair_rules d (Some g) b)))
    (same_value d g net ka kb h)
    ∙ (ap (λ c. first_present (max (value_of d (Some net) ka kb) (value_of d b ka kb))
    (levels ka kb (joint_rules (pairs_of d c (class_of d b))))) (same_class d g net h)
    ∙ clearance_is d (Some net) ka b kb))

-- ---- moves
-- alike nets that are there have one list of vias
same_vias_in : (a b : Option Net) → Unruled a → Unruled b → ((x y : Net) → a ≡ Some x → b ≡ Some y → AreNetsAlike x y)
    → vias_in a ≡ vias_in b
same_vias_in None b h k alike = absurd h
same_vias_in (Some x) None h k alike = absurd k
same_vias_in (Some x) (Some y) h k alike = (alike x y refl refl).vias_are

-- alike nets have one list of vias
pub same_vias : (d : Design) (g net : ℕ) → AreAlike d g net → vias_of d g ≡ vias_of d net
same_vias d g net h = same_vias_in (slice_get d.nets g) (slice_get d.nets net) h.g_unruled h.net_unruled h.nets

-- so each of their moves leads to the same node
pub same_way : (d : Design) (m : Mesh) (g net v i : ℕ) → AreAlike d g net → way d m g v i ≡ way d m net v i
same_way d m g net v i h =
    ap (λ (vias : List ℕ). cond (nat_lt i 4) (step_at m v i)
    (via_at d m v (slice_index vias ((i - 4) / length m.layers)) ((i - 4) % length m.layers))) (same_vias d g net h)

-- equal widths lay the same along a move
same_probe_of : (d : Design) (m : Mesh) (g net v : ℕ) (o : Option (Move × ℕ)) → width_for d g ≡ width_for d net
    → option_map (λ (w : Move × ℕ). probe_of d m g v w.0 w.1) o ≡ option_map
    (λ (w : Move × ℕ). probe_of d m net v w.0 w.1) o
same_probe_of d m g net v None e = refl
same_probe_of d m g net v (Some (Step dir, to)) e =
    ap (λ w. Some (probe.Step (layer_of m v) w (point_of m v) (point_of m to))) e
same_probe_of d m g net v (Some (Via padstack layer, to)) e = refl

-- and each of their moves lays the same
pub same_probe : (d : Design) (m : Mesh) (g net v i : ℕ) → AreAlike d g net → probe_at d m g v i ≡ probe_at d m net v i
same_probe d m g net v i h =
    ap (λ (o : Option (Move × ℕ)). option_map (λ (w : Move × ℕ). probe_of d m g v w.0 w.1) o) (same_way d m g net v i h)
    ∙ same_probe_of d m g net v (way d m net v i) h.width_is

-- ---- pairs
-- the second of two tests that hold
right : (x y : Bool) → (x && y) ≡ true → y ≡ true
right true y e = e
right false y e = cc

-- the first of two tests, where its contrary and the second hold
not_true : (x y : Bool) → (not x && y) ≡ true → x ≡ false
not_true true y e = cc
not_true false y e = refl

-- an item of the same net has that net
same_net_is : (net : ℕ) (o : Option ℕ) → is_same_net (Some net) o ≡ true → o ≡ Some net
same_net_is net None e = cc
same_net_is net (Some x) e = ap (λ (m : ℕ). Some m) (sym (eqb-true net x e))

-- the first of two tests that hold
left : (x y : Bool) → (x && y) ≡ true → x ≡ true
left true y e = refl
left false y e = cc

-- a pair of a via and an smd pad is laid by a via
via_and_smd : (p : Probe) (k : Kind) → is_pair (kind_of (metal_of p)) k kind.Via kind.Smd ≡ true
    → (kind_of (metal_of p) ≡ kind.Via) × (k ≡ kind.Smd)
via_and_smd (probe.Disc layer width at) kind.Wire e = cc
via_and_smd (probe.Disc layer width at) kind.Via e = cc
via_and_smd (probe.Disc layer width at) kind.Pin e = cc
via_and_smd (probe.Disc layer width at) kind.Smd e = cc
via_and_smd (probe.Disc layer width at) kind.Area e = cc
via_and_smd (probe.Step layer width a b) kind.Wire e = cc
via_and_smd (probe.Step layer width a b) kind.Via e = cc
via_and_smd (probe.Step layer width a b) kind.Pin e = cc
via_and_smd (probe.Step layer width a b) kind.Smd e = cc
via_and_smd (probe.Step layer width a b) kind.Area e = cc
via_and_smd (probe.Via padstack at) kind.Wire e = cc
via_and_smd (probe.Via padstack at) kind.Via e = cc
via_and_smd (probe.Via padstack at) kind.Pin e = cc
via_and_smd (probe.Via padstack at) kind.Smd e = (refl, refl)
via_and_smd (probe.Via padstack at) kind.Area e = cc

-- what is clear of b for the group agrees with it for each net of the group
pub clear_agrees : (d : Design) (g net : ℕ) (p : Probe) (b : Item) → AreAlike d g net → IsClearOf d g p b
    → ProbeAgrees d net p b
clear_agrees d g net p b h c = record {
  keep = λ e. subst (λ k. PiecesKeep k (pieces_of d (metal_of p)) b.pieces)
      (same_clearance d g net (kind_of (metal_of p)) b.net b.kind h)
      (c.keep (right (not (is_same_net (Some net) b.net)) (is_compared (metal_of p) b.metal) e));
  stay_off = λ e.
      let pair = is_pair (kind_of (metal_of p)) b.kind kind.Via kind.Smd in
      let s = left (not d.via_at_smd && is_same_net (Some net) b.net) pair e in
      let k = via_and_smd p b.kind (right (not d.via_at_smd && is_same_net (Some net) b.net) pair e) in
      c.stay_off (not_true d.via_at_smd (is_same_net (Some net) b.net) s) k.0
      (record {
        smd = k.1;
        net = net;
        net_is =
            same_net_is net b.net (right (not d.via_at_smd) (is_same_net (Some net) b.net) s);
        alike = h;
      });
}

-- ---- tallies
-- where none is missed all hold
pub none_missed : {X : Type 0} (P : X → Type 0) (xs : List X) (n : ℕ) → n ≡ 0 → Misses P xs n → All P xs
none_missed P [] n z h = All-nil P
none_missed P (x ∷ xs) n z (inl (holds, rest)) = All-cons P x xs holds (none_missed P xs n z rest)
none_missed P (x ∷ xs) n z (inr (fails, m, e, rest)) = absurd (never m n z e)
  where
    never : (m n : ℕ) → n ≡ 0 → n ≡ m + 1 → ⊥
    never m n z e = omega (arith, z, e)

-- what isn't counted as outside is inside
inside_then : (d : Design) (p : Probe) (o : ℕ) → o ≡ 0 → IsOutside d p o → AreInside d.bounds (pieces_of d (metal_of p))
inside_then d p o z (inl (within, e)) = within
inside_then d p o z (inr (beyond, e)) = absurd (never o z e)
  where
    never : (o : ℕ) → o ≡ 0 → o ≡ 1 → ⊥
    never o z e = omega (arith, z, e)

-- a move with tally 0 for the group is open for an alike net
open_at : (d : Design) (items : List Item) (g net : ℕ) (o : Option Probe) → AreAlike d g net → IsTally d g items o 0
    → IsOpen d items net o
open_at d items g net None h t = absurd (never t)
  where
    never : ◌≡◌ {A = ℕ} 0 255 → ⊥
    never e = omega (arith, e)
open_at d items g net (Some p) h (inl t) = absurd (never t)
  where
    never : ◌≡◌ {A = ℕ} 0 255 → ⊥
    never e = omega (arith, e)
open_at d items g net (Some p) h (inr (few, (k, o, misses, out, e))) =
    let all = none_missed (IsClearOf d g p) items k (first k o e) misses in record {
      agrees = λ b there. clear_agrees d g net p b h (All-contains (IsClearOf d g p) items b all there);
      inside = inside_then d p o (second k o e) out;
    }
  where
    first : (k o : ℕ) → ◌≡◌ {A = ℕ} 0 (k + o) → k ≡ 0
    first k o e = omega (arith, e)

    second : (k o : ℕ) → ◌≡◌ {A = ℕ} 0 (k + o) → o ≡ 0
    second k o e = omega (arith, e)

-- the same at a node's move
pub bit_opens : (d : Design) (m : Mesh) (items : List Item) (g net node i : ℕ) → AreAlike d g net
    → IsTally d g items (probe_at d m g node i) 0 → IsOpen d items net (probe_at d m net node i)
bit_opens d m items g net node i h t = open_at d items g net (probe_at d m net node i) h
    (subst (λ (o : Option Probe). IsTally d g items o 0) (same_probe d m g net node i h) t)

-- alike nets have equally many moves at a node
pub same_way_count : (d : Design) (m : Mesh) (g net : ℕ) → AreAlike d g net → way_count d m g ≡ way_count d m net
same_way_count d m g net h = ap (λ (vias : List ℕ). 4 + length vias * length m.layers) (same_vias d g net h)
