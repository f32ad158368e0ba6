-- When two items agree, and when they touch.
use Rattle.std.specs.Prelude.{◌≡◌, ℕ, ◌+◌, ◌*◌, max, ◌==◌, Bool, true, false, not, ◌&&◌, List, All, Any, Option, Some}
use Rattle.geo_kernel.specs.Spine.{SpinesKeep, SpinesTouch}
use Rattle.pcb_model.specs.declared.item.Kind.TheVariants as kind
use Rattle.pcb_model.specs.declared.item.Piece.{Piece}
use Rattle.pcb_model.specs.declared.item.Metal.{Metal}
use Rattle.pcb_model.specs.declared.item.Metal.TheVariants as metal
use Rattle.pcb_model.specs.declared.item.Probe.{Probe}
use Rattle.pcb_model.specs.declared.item.Item.{Item}
use Rattle.pcb_model.specs.declared.design.Design.{Design}
use Rattle.pcb_model.specs.Pieces.{probe_item}
use Rattle.pcb_model.specs.Rules.{is_pair, clearance_of}

-- ---- pairs of pieces
-- on one layer they keep the clearance and half of each width, and at least half a nanometre
pub record PieceKeeps (c : ℕ) (p r : Piece) : Type 0 where
  pub keep : p.layer ≡ r.layer → SpinesKeep p.spine r.spine (max 1 (2 * c + p.width + r.width))

-- p keeps from each of rs
pub record KeepsFrom (c : ℕ) (rs : List Piece) (p : Piece) : Type 0 where
  pub each : All (PieceKeeps c p) rs

pub record PiecesKeep (c : ℕ) (ps rs : List Piece) : Type 0 where
  pub each : All (KeepsFrom c rs) ps

-- they are on one layer, and their copper has a point in common
pub record PieceTouches (p r : Piece) : Type 0 where
  pub one_layer : p.layer ≡ r.layer
  pub touch : SpinesTouch p.spine r.spine (p.width + r.width)

-- p touches some of rs
pub record TouchesSome (rs : List Piece) (p : Piece) : Type 0 where
  pub some : Any (PieceTouches p) rs

pub record PiecesTouch (ps rs : List Piece) : Type 0 where
  pub some : Any (TouchesSome rs) ps

-- ---- pairs of items
abbrev pub is_same_net : Option ℕ → Option ℕ → Bool
is_same_net (Some x) (Some y) = x == y
is_same_net _ _ = false

abbrev pub is_banned : Bool → Bool → Metal → Bool
is_banned wires vias (metal.Wire layer width chain) = wires
is_banned wires vias (metal.Via padstack at) = vias
is_banned wires vias _ = false

-- a ban is compared with the wires or the vias that it bans, and with nothing else
abbrev pub is_compared : Metal → Metal → Bool
is_compared (metal.Ban wires vias) m = is_banned wires vias m
is_compared m (metal.Ban wires vias) = is_banned wires vias m
is_compared _ _ = true

-- whether wires are compared with the metal
abbrev pub meets_wires : Metal → Bool
meets_wires (metal.Ban wires vias) = wires
meets_wires _ = true

-- whether vias are compared with the metal
abbrev pub meets_vias : Metal → Bool
meets_vias (metal.Ban wires vias) = vias
meets_vias _ = true

-- copper of different nets, or one without a net
abbrev pub must_keep : Item → Item → Bool
must_keep a b = not (is_same_net a.net b.net) && is_compared a.metal b.metal

-- a via and an smd pad of one net, unless the design lets them touch
abbrev pub must_stay_off : Design → Item → Item → Bool
must_stay_off d a b = not d.via_at_smd && is_same_net a.net b.net && is_pair a.kind b.kind kind.Via kind.Smd

-- two items keep their clearance where they must, and don't touch where they must not
pub record Agrees (d : Design) (a b : Item) : Type 0 where
  pub keep : must_keep a b ≡ true → PiecesKeep (clearance_of d a.net a.kind b.net b.kind) a.pieces b.pieces
  pub stay_off : must_stay_off d a b ≡ true → ¬ (PiecesTouch a.pieces b.pieces)

-- the item that a probe stands for agrees with b
abbrev pub ProbeAgrees : Design → ℕ → Probe → Item → Type 0
ProbeAgrees d net p b = Agrees d (probe_item d net p) b

-- two items of one net that touch
pub record AreTouching (a b : Item) : Type 0 where
  pub same_net : is_same_net a.net b.net ≡ true
  pub touch : PiecesTouch a.pieces b.pieces
