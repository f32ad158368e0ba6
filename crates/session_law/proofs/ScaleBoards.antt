-- The routed copper of a board of least joins is on scale.
use Rattle.std.proofs.Common.{◌≡◌, ℕ, ◌≤◌, Bool, Some, None, take}
use Rattle.std.specs.Prelude.{slice_get}
use Rattle.board_offers.specs.declared.offer.Offer.{Offer}
use Rattle.pcb_model.specs.Scale.{scale_of}
use Rattle.pcb_board.specs.declared.answer.Entry.{Entry}
use Rattle.pcb_board.specs.declared.answer.Entry.TheVariants.{Join, Back}
use Rattle.pcb_board.specs.Boards.{BoardOf, board_at, past, replayed}
use Rattle.pcb_board.specs.Keeping.{IsBoard}
use Rattle.closing_pass.specs.Settled.{TakesOne}
use Rattle.route_lattice.specs.Whole.{lattice_of}
use Rattle.route_run.specs.Runs.{AreLeast}
use Rattle.session_law.specs.Told.{IsOnScale}
use Rattle.session_law.proofs.ScaleLines.{lattice_whole}
use Rattle.session_law.proofs.ToldDesigns.{IsWholeMetal, on_scale}
use Rattle.session_law.proofs.ScaleGiven.{loaded}
use Rattle.session_law.proofs.ScaleEntries.{IsWholeEntry, IsWholePast, each_whole, join_whole}

module _ (grid via_cost : ℕ) (diagonal : Bool) (b : BoardOf) (board : IsBoard b)
    (least : AreLeast diagonal (lattice_of b.design grid) via_cost b)
    (takes : (k : ℕ) (o : Offer) (first after : ℕ) → slice_get b.history k ≡ Some (Join o first after)
    → o.penalty ≡ None → TakesOne (lattice_of b.design grid) (board_at b o.base) o) where
  -- the unit of the session
  abbrev nm : ℕ
  nm = (scale_of b.design).nm

  -- an entry adds whole copper where all before it is whole
  entry_whole : (k : ℕ) (e : Entry) → slice_get b.history k ≡ Some e
      → ((n : ℕ) → n ≤ k → IsWholePast b.design nm (past b.design b.start (take n b.history)))
      → IsWholeEntry b.design nm e
  entry_whole k (Join o first after) at before =
      let l = least.each k o first after at in
      join_whole nm (lattice_of b.design grid) via_cost b (lattice_whole b.design grid) (on_scale b.design) diagonal o
      l.1 (takes k o first after at) (before o.base l.0).items_whole
  entry_whole k (Back to) at before = tt

  -- after each number of entries
  pub board_on_scale : (n : ℕ) → IsOnScale nm (replayed b n)
  board_on_scale n =
      let whole = on_scale b.design in
      let p = each_whole b.design nm b.start b.history
      (loaded b.design (IsWholeMetal nm) b.design.fixed b.design.free board.dropped b.start whole.fixed_whole
      whole.free_whole board.starts.loads) entry_whole n in
      λ k a within routed. p.items_whole k a within
