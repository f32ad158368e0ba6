-- What a round leaves, net by net.
use Rattle.std.specs.Prelude.{◌≡◌, ◌⊎◌, ℕ, ◌<◌, Bool, true, false, List, length, flat_map}
use Rattle.std.specs.List.{AllZip}
use Rattle.route_lattice.specs.Mesh.{Mesh}
use Rattle.cut_certificate.specs.declared.cut.Cut.{Cut}
use Rattle.pcb_board.specs.Boards.{BoardOf, SnapOf}
use Rattle.pcb_board.specs.Keeping.{IsBoard}
use Rattle.closing_pass.specs.Closing.{AreEnds, CanClose, Ends}
use Rattle.closing_pass.specs.OpenCount.{NeverMore}
use Rattle.closing_pass.specs.Settled.{AreSettled}
use Rattle.closing_pass.specs.inner.Steps.{IsClosed}
use Rattle.wide_pass.specs.declared.round.Round.{Round}
use Rattle.wide_pass.specs.Rounds.{ClosesWide, IsWideSize, JoinsWide}
use Rattle.wide_pass.specs.inner.Joins.{IsJoined, IsWideShut}
use Rattle.wide_pass.specs.inner.Sizes.{AddsSizes, CanReach, IsWideOpen}

-- a net's turn: how it ends on the snapshot, and that no legal walk leads on from it on the board
pub record IsSnapTurn (m : Mesh) (via_cost : ℕ) (s : SnapOf) (b : BoardOf) (net : ℕ) (cuts : List Cut) : Type 0 where
  pub can : CanClose m via_cost b.design
  pub net_there : net < length b.design.nets
  pub closed : IsClosed m via_cost b net
  pub reaches : CanReach m via_cost s net
  pub ends : Ends s.design m via_cost s.items net cuts

-- moves at 45 degrees lead on from an island of the net on the snapshot, and it was joined, or they don't on the board
pub record HasLed (m : Mesh) (via_cost : ℕ) (s : SnapOf) (net : ℕ) (old new : BoardOf) : Type 0 where
  pub leads : IsWideOpen s.design m via_cost s.items net
  pub joins : IsJoined m via_cost net old new ⊎ (IsWideShut old.design m via_cost old.items net × (new ≡ old))

-- so it is; or they don't on the snapshot either, the board stays, and the sizes of what they reach are told
abbrev pub Turns : Mesh → ℕ → SnapOf → ℕ → List Cut → BoardOf → BoardOf → List ℕ → List ℕ → Bool → Type 0
Turns m via_cost s net cuts old new wide later true = HasLed m via_cost s net old new
Turns m via_cost s net cuts old new wide later false = AddsSizes m via_cost s cuts wide later × (new ≡ old)

-- the board stays, or has joins by such moves
abbrev pub HasGrown : Mesh → ℕ → BoardOf → BoardOf → Type 0
HasGrown m via_cost old new = (new ≡ old) ⊎ JoinsWide m via_cost old new

-- joins were made where moves led on; and else the board stays, and these are the sizes
abbrev pub HasLooked : Mesh → ℕ → BoardOf → BoardOf → List (List Cut) → List ℕ → Bool → Type 0
HasLooked m via_cost old new ends wide true = JoinsWide m via_cost old new
HasLooked m via_cost old new ends wide false = (new ≡ old) × AllZip (IsWideSize old.design m old.items via_cost)
    (flat_map (λ (cuts : List Cut). cuts) ends) wide

-- rounds led to a board that was closed, and there what was looked for was found
pub record HasRounded (m : Mesh) (via_cost tries : ℕ) (old : BoardOf) (r : Round) : Type 0 where
  pub shut : BoardOf
  pub shut_kept : IsBoard shut
  pub closes : ClosesWide m via_cost old shut
  pub never : NeverMore old shut
  pub ends : AreEnds shut.design m via_cost shut.items (length shut.design.nets) r.ends
  pub settled : AreSettled m via_cost tries shut r.ends
  pub looked : HasLooked m via_cost shut r.board r.ends r.wide r.led
  pub kept : IsBoard r.board
