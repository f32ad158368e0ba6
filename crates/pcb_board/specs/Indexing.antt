-- What a board keeps beside its value.
use Rattle.std.specs.Prelude.{◌≡◌, ◌≤◌, length, take, ℕ, ◌<◌, List, slice_index_or, ◌+◌, slice_get, Some}
use Rattle.pcb_board.specs.declared.board.Board.TheInside.{Inside}
use Rattle.pcb_board.specs.Boards.{BoardOf, worker_entries, IsLast, Changes, given, past}
use Rattle.pcb_board.specs.Snaps.{AreTilesOf}
use Rattle.pcb_board.specs.Keeping.{IsBoard}
use Rattle.pcb_model.specs.declared.item.Item.{Item}
use Rattle.pcb_board.specs.declared.answer.Entry.{Entry}
use Rattle.pcb_board.specs.declared.answer.Entry.TheVariants.{Join, Back}

-- how many items were given an id by the first n entries
abbrev pub given_after : BoardOf → ℕ → ℕ
given_after b n = length (past b.design b.start (take n b.history)).given

-- the ids of a join's new items are the next ones; a back goes back
abbrev pub IsNumbered : BoardOf → ℕ → Entry → Type 0
IsNumbered b k (Join o first after) =
    (first ≡ given_after b k) × (after ≡ first + (length o.add + length o.shoves))
IsNumbered b k (Back to) = to ≤ k

pub record AreNumbered (b : BoardOf) : Type 0 where
  pub each : (k : ℕ) (e : Entry) → slice_get b.history k ≡ Some e → IsNumbered b k e

-- the items ever given, and for each id the last entry that placed or removed it
pub record AreIndexed (b : BoardOf) (items : List Item) (changed : List ℕ) : Type 0 where
  pub items_are : items ≡ given b
  pub all : length changed ≡ length items
  pub last : (x n : ℕ) → x < length items → IsLast (Changes b x) (length b.history) (slice_index_or changed x n)

abbrev pub board_of : Inside → BoardOf
board_of a = record {
  design = a.design;
  start = take a.started a.given.items;
  cap = a.cap;
  history = a.history;
  items = a.tiles.items;
}

pub record IsIndexed (a : Inside) : Type 0 where
  pub board : IsBoard (board_of a)
  pub indexed : AreIndexed (board_of a) a.given.items a.changed.items
  pub numbered : AreNumbered (board_of a)
  pub started : a.started ≤ length a.given.items
  pub workers_are : a.workers ≡ worker_entries a.history
  pub spread : AreTilesOf a.design a.tiles.area a.tiles.reach
