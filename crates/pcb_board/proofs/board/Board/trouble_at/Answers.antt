use Rattle.std.proofs.Common.{◌≡◌, ℕ, ◌<◌, List, refl, sym, subst, length}
use Rattle.pcb_model.specs.declared.item.Item.{Item}
use Rattle.pcb_board.specs.Boards.{BoardOf, IsCommitOf, given}
use Rattle.pcb_board.specs.Indexing.{board_of, IsIndexed}
use Rattle.pcb_board.specs.declared.board.Board.TheInside.{Inside}
use Rattle.pcb_board.proofs.Commits.{commit_is}
use Rattle.pcb_board.proofs.board.Board.trouble_at.Goals as goal
use Rattle.std.specs.Prelude.{slice_index_or}

blamed : (a : Inside) (b : BoardOf) (x n : ℕ) → board_of a ≡ b → IsIndexed a → x < length (given b)
    → n ≡ slice_index_or a.changed.items x n → IsCommitOf b x n
blamed a b x n view kept within is =
    let inside : x < length a.given.items =
    subst (λ (xs : List Item). x < length xs) (sym kept.indexed.items_are)
    (subst (λ (c : BoardOf). x < length (given c)) (sym view) within) in
    subst (λ (c : BoardOf). IsCommitOf c x n) view
    (subst (IsCommitOf (board_of a) x) (sym is)
    (commit_is (board_of a) x (slice_index_or a.changed.items x n) kept.board.replays
    (kept.indexed.last x n inside)))

pub returns-then-commit-base : goal.returns-then-commit-base
returns-then-commit-base c = (
  refl,
  blamed c.self.inside c.args.self.now c.args.item c.index-commit.result.now
      c.self.view_is c.self.invariant c.requires c.index-commit.ensures,
  c.if-commit-base.true,
)

pub returns-else-commit-base : goal.returns-else-commit-base
returns-else-commit-base c = (
  refl,
  blamed c.self.inside c.args.self.now c.args.item c.index-commit.result.now
      c.self.view_is c.self.invariant c.requires c.index-commit.ensures,
  c.if-commit-base.false,
)
