-- What a run has written: a session that was read back, and facts.
use Rattle.std.specs.Prelude.{◌≡◌, ◌⊎◌, ◌≤◌, ◌<◌, ◌^◌, ℕ, Bool, true, List, [], ◌++◌, length, map, All, Some}
use Rattle.std.specs.Prelude.{IfSome, Option, slice_get, remove}
use Rattle.pcb_model.specs.declared.item.Item.{Item}
use Rattle.pcb_model.specs.declared.design.Design.{Design}
use Rattle.pcb_model.specs.Pieces.{kind_of, pieces_of}
use Rattle.pcb_model.specs.Board.{IsRouted, IsLegal}
use Rattle.pcb_model.specs.Copper.{Ascends}
use Rattle.pcb_model.specs.Sound.{IsSound, Serves}
use Rattle.pcb_islands.specs.declared.net.Island.{Island}
use Rattle.pcb_islands.specs.Islands.{AreIslands}
use Rattle.route_lattice.specs.Mesh.{Mesh, node_count}
use Rattle.route_lattice.specs.Whole.{lattice_of}
use Rattle.route_lattice.specs.declared.limits.TheConstants.{MOST_NODES}
use Rattle.cut_certificate.specs.declared.cut.Cut.{Cut}
use Rattle.cut_certificate.specs.Cuts.{IsCut}
use Rattle.copper_alike.specs.Twins.{HasEdges}
use Rattle.route_run.specs.declared.facts.Facts.{Facts}
use Rattle.route_run.specs.declared.facts.PassLine.{PassLine}
use Rattle.ses_reader.specs.declared.item.SesItem.{SesItem}
use Rattle.route_report.specs.Report.{cuts_of}
use Rattle.session_law.specs.Told.{is_copper}
use Rattle.session_law.specs.Back.{printed_wiring, told}

-- an item with the kind and the pieces of its metal
pub record IsOfMetal (d : Design) (a : Item) : Type 0 where
  pub kind : a.kind ≡ kind_of a.metal
  pub pieces : a.pieces ≡ pieces_of d a.metal

-- a routed wire or via of a net of the design
pub record IsWired (d : Design) (a : Item) : Type 0 where
  pub routed : IsRouted a
  pub net : ℕ
  pub net_is : a.net ≡ Some net
  pub within : net < length d.nets
  pub copper : is_copper a.metal ≡ true
  pub of_metal : IsOfMetal d a

-- the design's fixed items, and such routed ones behind them, of which the session tells
pub record IsSource (d : Design) (items routed : List Item) (omit : Bool) (xs : List SesItem) : Type 0 where
  pub items_are : items ≡ d.fixed ++ routed
  pub fixed : All (λ (a : Item). a.fixed ≡ true) d.fixed
  pub fixed_copper : All (λ (a : Item). is_copper a.metal ≡ true → IsOfMetal d a) d.fixed
  pub wired : All (IsWired d) routed
  pub reads : map told xs ≡ printed_wiring d items omit

-- on the run's board a net has at most one island and no cut, or several and a cut for each
pub record NetEnds (d : Design) (m : Mesh) (items : List Item) (facts : Facts) (net : ℕ) : Type 0 where
  pub old : List Island
  pub islands : AreIslands d items net old
  pub ends : ((cuts_of facts net ≡ []) × (length old ≤ 1))
      ⊎ ((2 ≤ length old) × (length (cuts_of facts net) ≡ length old))
  pub cuts : (k : ℕ) (island : Island) (cut : Cut) → slice_get old k ≡ Some island
      → slice_get (cuts_of facts net) k ≡ Some cut
      → IsCut d m items island (remove old k) cut

-- ---- numbers of a machine
abbrev pub IsSmall : ℕ → Type 0
IsSmall n = n < 2 ^ 64

pub record IsSmallCut (cut : Cut) : Type 0 where
  pub reached : IsSmall (length cut.reach.nodes)
  pub blocked : IsSmall (length cut.blocked)
  pub nodes : All (λ n. n < 2 ^ 64) cut.reach.nodes

abbrev pub AreFewEach : Option (List ℕ) → Type 0
AreFewEach wide = IfSome wide (All (λ n. n < 2 ^ 64))

-- one for each of so many cuts
abbrev pub HaveSizes : Option (List ℕ) → ℕ → Type 0
HaveSizes wide count = IfSome wide (λ sizes. length sizes ≡ count)

-- all numbers that a report tells
pub record AreSmall (d : Design) (items : List Item) (facts : Facts) : Type 0 where
  pub dropped : IsSmall (length facts.dropped)
  pub places : All (λ n. n < 2 ^ 64) facts.dropped
  pub notes : IsSmall d.notes
  pub passes : All (λ (p : PassLine). (p.commits < 2 ^ 64) × (p.parted < 2 ^ 64)) facts.passes
  pub kept : IsSmall facts.kept
  pub joins : IsSmall facts.joins
  pub cuts : All IsSmallCut facts.cuts
  pub few_cuts : IsSmall (length facts.cuts)
  pub wide : AreFewEach facts.wide
  pub ids : All (λ (a : Item). a.id < 2 ^ 64) items

-- ---- what was written
pub record IsWritten (d : Design) (items routed : List Item) (omit : Bool) (xs : List SesItem)
    (facts : Facts) : Type 0
  where
    pub sound : IsSound d
    pub edges : HasEdges d
    pub legal : IsLegal d items
    pub rise : Ascends items
    pub serve : Serves items d
    pub source : IsSource d items routed omit xs
    pub grid_from : 1000 ≤ facts.grid
    pub grid_to : facts.grid ≤ 409600000
    pub nodes_are : facts.nodes ≡ node_count (lattice_of d facts.grid)
    pub few : facts.nodes ≤ MOST_NODES
    pub some_pass : 1 ≤ length facts.passes
    pub small : AreSmall d items facts
    pub sizes : HaveSizes facts.wide (length facts.cuts)
    pub ends : (net : ℕ) → net < length d.nets → NetEnds d (lattice_of d facts.grid) items facts net
