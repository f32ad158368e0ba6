-- The joins of a run that bear no penalty take out or move aside at most one item.
use Rattle.std.proofs.Common.{◌≡◌, inl, inr, ℕ, zero, suc, ◌+◌, ◌<◌, ◌≤◌, Bool, true, false, true≢false, List}
use Rattle.std.proofs.Common.{length, take, get_or, Some, None, sym, ap, ◌∙◌, subst, arith}
use Rattle.std.specs.Prelude.{slice_get}
use Rattle.std.proofs.lemmas.Bool.{cases_lt}
use Rattle.std.proofs.lemmas.List.{length-take-le}
use Rattle.std.proofs.lemmas.List.Sums.{sum_by_more}
use Rattle.std.proofs.lemmas.Option.{same_Some, slice_get_cases}
use Rattle.pcb_model.specs.declared.design.Design.{Design}
use Rattle.pcb_model.specs.Scale.{scale_of}
use Rattle.route_lattice.specs.Mesh.{Mesh}
use Rattle.route_lattice.specs.Whole.{lattice_of}
use Rattle.board_offers.specs.declared.offer.Offer.{Offer}
use Rattle.pcb_board.specs.declared.answer.Entry.{Entry}
use Rattle.pcb_board.specs.declared.answer.Entry.TheVariants.{Join, Back}
use Rattle.pcb_board.specs.Boards.{BoardOf, board_at, replayed}
use Rattle.least_offer.specs.Least.{Chooses, IsLeastOffer}
use Rattle.closing_pass.specs.Settled.{TakesOne}
use Rattle.route_run.specs.declared.facts.PassLine.{PassLine}
use Rattle.route_run.specs.declared.facts.Facts.{Facts}
use Rattle.route_run.specs.Runs.{RunOf, IsRun, AreLeast, ClosesFrom, MayJoin, entries_after}
use Rattle.route_run.proofs.Rounds.{closing_takes}
use Rattle.session_law.specs.Told.{IsOnScale}
use Rattle.session_law.proofs.ScaleBoards.{board_on_scale}

-- a join, and no return to an earlier board
abbrev is_join : Entry → Bool
is_join (Join o first after) = true
is_join (Back to) = false

-- a worker's offer without a penalty takes nothing out
least_none : (m : Mesh) (via_cost : ℕ) (b : BoardOf) (o : Offer) → IsLeastOffer m via_cost b o → o.penalty ≡ None
    → o.worker < 16 → TakesOne m b o
least_none m via_cost b o least none worker = inl (subst (Chooses m b o) none least.chooses worker)

takes_none : (diagonal : Bool) (m : Mesh) (via_cost : ℕ) (b : BoardOf) (o : Offer) → MayJoin diagonal m via_cost b o
    → o.penalty ≡ None → o.worker < 16 → TakesOne m b o
takes_none false m via_cost b o least none worker = least_none m via_cost b o least none worker
takes_none true m via_cost b o (inl least) none worker = least_none m via_cost b o least none worker
takes_none true m via_cost b o (inr wide) none worker = inl wide.takes

module _ (d : Design) (m : Mesh) (r : RunOf) (b : BoardOf) (facts : Facts) (few : r.workers ≤ 16)
    (run : IsRun d m r b facts) where
  -- the lines of the passes
  abbrev lines : List PassLine
  lines = facts.passes

  -- the number of entries behind the passes
  abbrev end : ℕ
  end = entries_after lines (length lines)

  -- the entries after one pass more
  more_entries : (j : ℕ) (line : PassLine) → j < length lines → get_or lines j line ≡ line
      → entries_after lines (suc j) ≡ entries_after lines j + line.commits
  more_entries j line within same = ap (entries_after lines) {x = suc j} {y = j + 1} (omega arith)
      ∙ sum_by_more (λ (l : PassLine). l.commits) lines j line within
      ∙ ap (λ (l : PassLine). entries_after lines j + l.commits) same

  -- a join of a pass is one of its workers'
  in_passes : (j : ℕ) → j ≤ length lines → (k : ℕ) (o : Offer) (first after : ℕ) → k < entries_after lines j
      → slice_get b.history k ≡ Some (Join o first after) → o.worker < r.workers
  in_passes zero le k o first after early at = absurd (omega (arith, early))
  in_passes (suc j) le k o first after early at = elim (slice_get_cases lines j).1 [
    | inl (line, within, there, same) ↦ elim (cases_lt k (entries_after lines j)) [
      | inl before ↦ in_passes j (omega (arith, le)) k o first after before at
      | inr late ↦
          let more = more_entries j line within same in
          ((run.passes.each j line there).joins k (Join o first after) late (omega (arith, early, more)) at).0
    ]
    | inr (behind, none) ↦ absurd (omega (arith, le, behind))
  ]

  -- a join of the closing pass takes out or moves aside at most one item
  in_closing : (k : ℕ) (o : Offer) (first after : ℕ) → run.from ≤ k
      → slice_get b.history k ≡ Some (Join o first after) → TakesOne m (board_at b o.base) o
  in_closing k o first after late at =
      let long : length (take run.from b.history) ≡ run.from =
      length-take-le run.from b.history (omega (arith, run.facts_are.joins_are)) in
      closing_takes r.diagonal m r.via_cost (board_at b run.from) b run.closing k (omega (arith, long, late)) o first
      after at

  -- a join behind the passes is one of the closing pass
  behind_passes : (k : ℕ) (o : Offer) (first after : ℕ) → end ≤ k
      → slice_get b.history k ≡ Some (Join o first after) → ClosesFrom b lines facts.kept run.from → run.from ≤ k
  behind_passes k o first after late at (inl last) = omega (arith, late, last.1)
  behind_passes k o first after late at (inr back) = elim (cases_lt end k) [
    | inl later ↦ omega (arith, later, back.2)
    | inr here ↦
        let same : end ≡ k = omega (arith, late, here) in
        let to = entries_after lines facts.kept in
        absurd (true≢false (ap is_join (same_Some (Join o first after) (Back to) (sym at
        ∙ ap (slice_get b.history) (sym same) ∙ back.1))))
  ]

  -- so does a join without a penalty
  run_takes : (k : ℕ) (o : Offer) (first after : ℕ) → slice_get b.history k ≡ Some (Join o first after)
      → o.penalty ≡ None → TakesOne m (board_at b o.base) o
  run_takes k o first after at none = elim (cases_lt k end) [
    | inl early ↦
        takes_none r.diagonal m r.via_cost (board_at b o.base) o (run.least.each k o first after at).1 none
        (omega (arith, few, in_passes (length lines) (omega arith) k o first after early at))
    | inr late ↦ in_closing k o first after (behind_passes k o first after late at run.closes_from) at
  ]

-- a run's board
pub run_on_scale : (d : Design) (grid : ℕ) (r : RunOf) (b : BoardOf) (facts : Facts) → r.workers ≤ 16
    → IsRun d (lattice_of d grid) r b facts → (n : ℕ) → IsOnScale (scale_of d).nm (replayed b n)
run_on_scale d grid r b facts few run n =
    subst (λ (x : Design). IsOnScale (scale_of x).nm (replayed b n)) run.design_is
    (board_on_scale grid r.via_cost r.diagonal b run.board
    (subst (λ (x : Design). AreLeast r.diagonal (lattice_of x grid) r.via_cost b) (sym run.design_is) run.least)
    (λ k o first after at none. subst (λ (x : Design). TakesOne (lattice_of x grid) (board_at b o.base) o)
    (sym run.design_is) (run_takes d (lattice_of d grid) r b facts few run k o first after at none)) n)
