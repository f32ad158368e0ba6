-- Nets whose copper obeys the same rules, and the groups of them that have maps.
use Rattle.std.specs.Prelude.{◌≡◌, ℕ, ◌+◌, ◌*◌, ◌^◌, ◌<◌, ◌≤◌, ◌⊎◌, List, [], ◌∷◌, length, Some, None, Any}
use Rattle.std.specs.Prelude.{Contains, slice_get}
use Rattle.std.specs.Option.{IsSomeAnd}
use Rattle.std.specs.List.Sorted.{IsStrictlyIncreasing}
use Rattle.pcb_model.specs.declared.design.RuleSet.{RuleSet}
use Rattle.pcb_model.specs.declared.design.Net.{Net}
use Rattle.pcb_model.specs.declared.design.Design.{Design}
use Rattle.pcb_model.specs.Rules.{width_for}
use Rattle.route_lattice.specs.Mesh.{Mesh, node_count}
use Rattle.route_lattice.specs.Ways.{way_count}

-- no width and no clearance
pub record IsEmptyRules (rs : RuleSet) : Type 0 where
  pub no_width : rs.width ≡ None
  pub no_plain : rs.plain ≡ None
  pub no_typed : rs.typed ≡ []

-- the net has no rule of its own
abbrev pub IsUnruled : Design → ℕ → Type 0
IsUnruled d net = IsSomeAnd (slice_get d.nets net) (λ (n : Net). IsEmptyRules n.rules)

-- two nets of one class and with one list of vias
pub record AreNetsAlike (a b : Net) : Type 0 where
  pub class_is : a.class ≡ b.class
  pub vias_are : a.vias ≡ b.vias

-- two nets without a rule of their own, of equal width, class and vias. So a group is never split by a rule between two
-- classes: its nets are of one class, or all of none, and such a rule says the same of each of them
pub record AreAlike (d : Design) (g net : ℕ) : Type 0 where
  pub g_unruled : IsUnruled d g
  pub net_unruled : IsUnruled d net
  pub width_is : width_for d g ≡ width_for d net
  pub nets : (a b : Net) → slice_get d.nets g ≡ Some a → slice_get d.nets net ≡ Some b → AreNetsAlike a b

-- the first net of a group
pub record IsFirst (d : Design) (g : ℕ) : Type 0 where
  pub unruled : IsUnruled d g
  pub none_before : (h : ℕ) → h < g → AreAlike d h g → ⊥

-- how many moves the maps of these groups have together
abbrev pub move_total : Design → Mesh → List ℕ → ℕ
move_total d m [] = 0
move_total d m (g ∷ gs) = node_count m * way_count d m g + move_total d m gs

-- gs are the first groups, in order; they are at most 16, their maps have at most 2^28 moves together, and one more would
-- be too many or too large
pub record AreMapped (d : Design) (m : Mesh) (gs : List ℕ) : Type 0 where
  pub ascend : IsStrictlyIncreasing gs
  pub each_first : (g : ℕ) → Contains gs g → IsFirst d g
  pub none_left_out : (g h : ℕ) → Contains gs g → h < g → IsFirst d h → Contains gs h
  pub few : length gs ≤ 16
  pub small : move_total d m gs ≤ 2 ^ 28
  pub no_more : (h : ℕ) → IsFirst d h → (Contains gs h → ⊥) → ((k : ℕ) → k < h → IsFirst d k → Contains gs k)
      → (length gs ≡ 16) ⊎ (2 ^ 28 < move_total d m gs + node_count m * way_count d m h)

-- the net has a map: it is like the first net of one of these groups
abbrev pub HasMap : Design → Mesh → ℕ → Type 0
HasMap d m net = (gs : List ℕ) × AreMapped d m gs × Any (λ g. AreAlike d g net) gs
