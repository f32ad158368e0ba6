-- What the tallies of all items and of the fixed ones together tell of a move past routed items.
use Rattle.std.proofs.Common.{◌≡◌, ℕ, ◌+◌, ◌-◌, ◌<◌, Bool, true, false, true≢false, List, Option, Some}
use Rattle.std.proofs.Common.{None, All, arith, inl, inr, refl, sym, ◌∙◌, subst}
use Rattle.std.specs.Prelude.{Contains, min}
use Rattle.std.proofs.lemmas.List.Elements.{All-contains}
use Rattle.pcb_model.specs.declared.item.Item.{Item}
use Rattle.pcb_model.specs.declared.item.Probe.{Probe}
use Rattle.pcb_model.specs.declared.design.Design.{Design}
use Rattle.pcb_model.specs.Board.{is_fixed}
use Rattle.pcb_model.specs.Counts.{Counts}
use Rattle.pcb_model.specs.Pairs.{ProbeAgrees}
use Rattle.pcb_model.specs.Sound.{IsSound, Serves}
use Rattle.route_lattice.specs.Mesh.{Mesh, node_count}
use Rattle.route_lattice.specs.Ways.{way_count}
use Rattle.route_lattice.specs.Legal.{probe_at, IsOpen}
use Rattle.ripup.specs.Rips.{IsInWay, IsCharged}
use Rattle.ripup.proofs.Fixed.{fixed_held}
use Rattle.ripup.proofs.Counting.{none_counted, to_limit}
use Rattle.move_maps.specs.declared.window.Window.{Window}
use Rattle.move_maps.specs.declared.map.GroupMap.{GroupMap}
use Rattle.move_maps.specs.Groups.{AreAlike}
use Rattle.move_maps.specs.Clear.{IsClearOf}
use Rattle.move_maps.specs.Maps.{Misses, IsOutside, ShutBy, IsTally}
use Rattle.move_maps.specs.Windows.{IsOutOfAll}
use Rattle.move_maps.specs.OwnCopper.{IsOwnCopper}
use Rattle.move_maps.proofs.Alike.{clear_agrees, none_missed, bit_opens, same_probe, same_way_count}
use Rattle.move_maps.proofs.Foreign.{agreed_clear, counted_shut}
use Rattle.route_plan.specs.RipMaps.{AreRipMaps}
use Rattle.route_plan.proofs.Missing.{OnOthers, missed_apart, counted_by, none_of_part}
use Rattle.ripup.specs.declared.moves.TheConstants.{MOST_CHARGED}

-- a probe lies inside or outside
one_outside : (d : Design) (p : Probe) (a b : ℕ) → IsOutside d p a → IsOutside d p b → a ≡ b
one_outside d p a b (inl (h, e)) (inl (k, f)) = e ∙ sym f
one_outside d p a b (inl (h, e)) (inr (k, f)) = absurd (k h)
one_outside d p a b (inr (h, e)) (inl (k, f)) = absurd (h k)
one_outside d p a b (inr (h, e)) (inr (k, f)) = e ∙ sym f

-- where nothing shuts a move, nothing fixed does
pub none_fixed : (d : Design) (items : List Item) (g n : ℕ) (o : Option Probe) → Serves items d → n ≡ 0
    → IsTally d g items o n → IsTally d g d.fixed o 0
none_fixed d items g n None serves e tally = sym e ∙ tally
none_fixed d items g n (Some p) serves e (inl top) = absurd (omega (arith, e, top))
none_fixed d items g n (Some p) serves e (inr (few, (k, o, misses, out, sum))) = inr (
  omega arith,
  (
    k,
    o,
    subst (λ (xs : List Item). Misses (IsClearOf d g p) xs k) serves.fixed_there
        (none_of_part (IsClearOf d g p) is_fixed items k (omega (arith, e, sum)) misses),
    out,
    omega (arith, e, sum),
  ),
)

-- ---- what is counted of all items and not of the fixed ones
module _ (d : Design) (items : List Item) (g net : ℕ) (p : Probe) (serves : Serves items d) (alike : AreAlike d g net)
    (t f : ℕ) (all : ShutBy d g items p t) (fixed : ShutBy d g d.fixed p f) where
  -- the probe is clear of the item, if that is routed
  abbrev IsPast : Item → Type 0
  IsPast = OnOthers (IsClearOf d g p) is_fixed

  -- is routed
  routed_counted : (k : ℕ) × (t ≡ f + k) × Misses IsPast items k
  routed_counted = by all fixed
    where
      by : ShutBy d g items p t → ShutBy d g d.fixed p f → (k : ℕ) × (t ≡ f + k) × Misses IsPast items k
      by (a, o, misses, out, e) (b, q, few, beyond, i) =
          let same = one_outside d p o q out beyond in
          let r = missed_apart (IsClearOf d g p) is_fixed items a b misses
          (subst (λ (xs : List Item). Misses (IsClearOf d g p) xs b) (sym serves.fixed_there) few) in
          let sum = r.1 in
          (r.0, omega (arith, same, e, i, sum), r.2)

  -- where that is none no item is in the way
  none_charged : t ≡ f → IsCharged d items net (Some p) 0
  none_charged e =
      let r = routed_counted in
      let sum = r.1 in
      let past : All IsPast items = none_missed IsPast items r.0 (omega (arith, e, sum)) r.2 in
      none_counted (IsInWay d net p) MOST_CHARGED items
      (λ b there way. way.clashes (clear_agrees d g net p b alike
      (All-contains IsPast items b past there way.routed)))

  -- where the probe is clear of each item that it agrees with, those that are counted are in the way
  some_charged : ((b : Item) → Contains items b → ProbeAgrees d net p b → IsClearOf d g p b)
      → IsCharged d items net (Some p) (min (t - f) 16)
  some_charged each =
      let r = routed_counted in
      let sum = r.1 in
      let same : r.0 ≡ t - f = omega (arith, sum) in
      to_limit (IsInWay d net p) MOST_CHARGED items (t - f)
      (subst (Counts (IsInWay d net p) items) same
      (counted_by IsPast (IsInWay d net p) items r.0
      (λ b there. (
        λ past way. way.clashes (clear_agrees d g net p b alike (past way.routed)),
        λ fails. in_way b there fails,
      )) r.2))
    where
      in_way : (b : Item) → Contains items b → ¬ (IsPast b) → IsInWay d net p b
      in_way b there fails = by (is_fixed b) refl
        where
          by : (s : Bool) → is_fixed b ≡ s → IsInWay d net p b
          by true e = absurd (fails (λ q. absurd (true≢false (sym e ∙ q))))
          by false e = record { routed = e; clashes = λ agrees. fails (λ q. each b there agrees) }

-- ---- at a move
module _ (d : Design) (items : List Item) (g net t f : ℕ) (serves : Serves items d) (alike : AreAlike d g net)
    (high : t ≡ 255 → ⊥) (low : f ≡ 255 → ⊥) where
  -- a move of which the same is counted is charged for none
  same_charged : (o : Option Probe) → t ≡ f → IsTally d g items o t → IsTally d g d.fixed o f
      → IsCharged d items net o 0
  same_charged None e a b = refl
  same_charged (Some p) e (inl top) b = absurd (high top)
  same_charged (Some p) e (inr (few, all)) (inl top) = absurd (low top)
  same_charged (Some p) e (inr (few, all)) (inr (less, fixed)) =
      none_charged d items g net p serves alike t f all fixed e

  -- a move away from the net's own copper is charged for what is counted of routed items
  off_charged : (m : Mesh) (v i : ℕ) (ws : List Window) → IsOwnCopper d m items g net ws → v < node_count m
      → i < way_count d m g → IsOutOfAll m ws v → (o : Option Probe) → probe_at d m g v i ≡ o
      → IsTally d g items o t → IsTally d g d.fixed o f → IsCharged d items net o (min (t - f) 16)
  off_charged m v i ws own hv hi out None e a b = absurd (high a)
  off_charged m v i ws own hv hi out (Some p) e (inl top) b = absurd (high top)
  off_charged m v i ws own hv hi out (Some p) e (inr (few, all)) (inl top) = absurd (low top)
  off_charged m v i ws own hv hi out (Some p) e (inr (few, all)) (inr (less, fixed)) =
      some_charged d items g net p serves alike t f all fixed
      (agreed_clear d m items g net v i ws alike own hv hi out p e)

-- ---- by the maps
module _ (d : Design) (m : Mesh) (items : List Item) (net : ℕ) (map fixed : GroupMap) (ws : List Window)
    (maps : AreRipMaps d m items net map fixed ws) (sound : IsSound d) (serves : Serves items d) (v i : ℕ)
    (hv : v < node_count m) (hi : i < way_count d m net) where
  -- the move is one of the group's
  listed : i < way_count d m map.first
  listed = subst (λ n. i < n) (sym (same_way_count d m map.first net maps.alike)) hi

  -- nothing fixed is counted: the move is open
  pub fixed_opens : (f : ℕ) → f ≡ 0 → IsTally d map.first d.fixed (probe_at d m map.first v i) f
      → IsOpen d d.fixed net (probe_at d m net v i)
  fixed_opens f e tally = bit_opens d m d.fixed map.first net v i maps.alike
      (subst (IsTally d map.first d.fixed (probe_at d m map.first v i)) e tally)

  -- something is, away from the net's own copper: it is shut
  pub fixed_shut : (f : ℕ) → f < 255 → 0 < f → IsTally d map.first d.fixed (probe_at d m map.first v i) f
      → IsOutOfAll m ws v → ¬ (IsOpen d d.fixed net (probe_at d m net v i))
  fixed_shut f few some tally out =
      counted_shut d m d.fixed map.first net v i f ws maps.alike
      (record { each = λ b there. maps.own_is.each b (fixed_held d items sound serves b there) })
      hv listed out few some tally

  -- as much of all items as of the fixed ones: the move is charged for none
  pub same_here : (t f : ℕ) → (t ≡ 255 → ⊥) → (f ≡ 255 → ⊥) → t ≡ f
      → IsTally d map.first items (probe_at d m map.first v i) t
      → IsTally d map.first d.fixed (probe_at d m map.first v i) f → IsCharged d items net (probe_at d m net v i) 0
  same_here t f high low e a b =
      subst (λ (o : Option Probe). IsCharged d items net o 0) (same_probe d m map.first net v i maps.alike)
      (same_charged d items map.first net t f serves maps.alike high low (probe_at d m map.first v i) e a b)

  -- more, away from the net's own copper: it is charged for what is more
  pub off_here : (t f : ℕ) → (t ≡ 255 → ⊥) → (f ≡ 255 → ⊥) → IsOutOfAll m ws v
      → IsTally d map.first items (probe_at d m map.first v i) t
      → IsTally d map.first d.fixed (probe_at d m map.first v i) f
      → IsCharged d items net (probe_at d m net v i) (min (t - f) 16)
  off_here t f high low out a b =
      subst (λ (o : Option Probe). IsCharged d items net o (min (t - f) 16))
      (same_probe d m map.first net v i maps.alike)
      (off_charged d items map.first net t f serves maps.alike high low m v i ws maps.own_is hv listed out
      (probe_at d m map.first v i) refl a b)
