use Rattle.std.proofs.Common.{◌≡◌, ◌≤◌, ◌-◌, ℕ, List, Some, sym, subst, arith}
use Rattle.std.specs.Prelude.{slice_get}
use Rattle.pcb_board.specs.declared.answer.Entry.TheVariants.{Join, Back}
use Rattle.pcb_board.specs.inner.Turning.{LeadBack}
use Rattle.pcb_board.specs.Indexing.{board_of}
use Rattle.pcb_board.proofs.Turns.{read_at, lead_join, lead_back}
use Rattle.pcb_board.proofs.board.Board.joins_to.Goals as goal

pub loop-k-preserved-in-Continue-1 : goal.loop-k-preserved-in-Continue-1
loop-k-preserved-in-Continue-1 c =
    let a = c.self.inside in
    let k = c.loop-k.k in
    let at : slice_get c.self.inside.history (c.loop-k.k - 1) ≡ Some
    (Join c.in-Join.offer c.in-Join.first c.in-Join.after) =
    read_at c.as_slice.result.now a.history k c.index-as_slice-k.result
    (Join c.in-Join.offer c.in-Join.first c.in-Join.after)
    c.as_slice.ensures c.loop-k-test.true c.loop-k.invariant.within c.index-as_slice-k.is c.in-Join.is in
    record {
      within = let w = c.loop-k.invariant.within in omega (arith, w);
      leads = subst (λ (js : List ℕ). LeadBack (board_of c.self.inside) c.args.to js (c.loop-k.k - 1))
          (sym c.in_ok-push-in-Join.ensures.items)
          (lead_join (board_of a) c.args.to c.loop-k.joins.items k c.in-Join.offer c.in-Join.first c.in-Join.after
          c.loop-k-test.true at c.loop-k.invariant.leads);
    }

before : (c : goal.After-row_known-1) → slice_get c.self.inside.history (c.loop-k.k - 1) ≡ Some (Back c.in-Back.to)
before c = read_at c.as_slice.result.now c.self.inside.history c.loop-k.k c.index-as_slice-k.result (Back c.in-Back.to)
    c.as_slice.ensures c.loop-k-test.true c.loop-k.invariant.within c.index-as_slice-k.is c.in-Back.is

pub loop-k-smaller : goal.loop-k-smaller
loop-k-smaller c =
    let le = c.self.invariant.numbered.each (c.loop-k.k - 1) (Back c.in-Back.to) (before c) in
    omega (arith, le, c.loop-k-test.true)

pub loop-k-preserved : goal.loop-k-preserved
loop-k-preserved c = record {
  within =
      let le : c.in-Back.to ≤ c.loop-k.k - 1 =
      c.self.invariant.numbered.each (c.loop-k.k - 1) (Back c.in-Back.to) (before c) in
      let w = c.loop-k.invariant.within in omega (arith, le, w);
  leads =
      lead_back (board_of c.self.inside) c.self.invariant.numbered c.args.to c.loop-k.joins.items c.loop-k.k
      c.in-Back.to
      c.loop-k-test.true (before c) c.loop-k.invariant.leads;
}
