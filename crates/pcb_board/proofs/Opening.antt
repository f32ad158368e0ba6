-- A board as it is started, kept parts included.
use Rattle.std.proofs.Common.{◌≡◌, ℕ, ◌<◌, ◌≤◌, ◌^◌, zero, suc, Some, refl, sym, ◌∙◌, ap, subst, List, [], ◌∷◌}
use Rattle.std.proofs.Common.{length, take, arith}
use Rattle.std.specs.Prelude.{All, slice_get, slice_index_or}
use Rattle.std.proofs.lemmas.List.Elements.{All-cons}
use Rattle.std.proofs.lemmas.List.{take_all}
use Rattle.pcb_model.specs.declared.item.Item.{Item}
use Rattle.pcb_model.specs.declared.design.Design.{Design}
use Rattle.pcb_model.specs.Sound.{IsSound}
use Rattle.pcb_tiles.specs.Spread.{Spread}
use Rattle.pcb_board.specs.declared.answer.Entry.{Entry}
use Rattle.pcb_board.specs.declared.board.Board.TheInside.{Inside}
use Rattle.pcb_board.specs.Boards.{BoardOf, Starts, worker_entries}
use Rattle.pcb_board.specs.declared.load.Loaded.{Loaded}
use Rattle.pcb_board.specs.Indexing.{AreIndexed}
use Rattle.pcb_board.specs.Indexing.{AreNumbered}
use Rattle.pcb_board.specs.Snaps.{AreTilesOf}
use Rattle.pcb_board.specs.inner.Loading.{AreLoaded}
use Rattle.pcb_board.specs.Keeping.{IsBoard, started}
use Rattle.pcb_board.specs.Indexing.{board_of, IsIndexed}
use Rattle.pcb_board.proofs.Committing.{boarded}
use Rattle.pcb_board.proofs.Starting.{start_board}
use Rattle.pcb_board.proofs.Loading.{all_loaded}
use Rattle.pcb_board.proofs.Numbered.{start_numbered}

pub record IsOpened (n : Inside) (d : Design) (cap : ℕ) (l : Loaded) : Type 0 where
  pub design_is : n.design ≡ d
  pub cap_is : n.cap ≡ cap
  pub history_is : n.history ≡ []
  pub given_is : n.given.items ≡ l.given.items
  pub started_is : n.started ≡ length l.given.items
  pub all : length n.changed.items ≡ length l.given.items
  pub unchanged : (x k : ℕ) → x < length l.given.items → slice_index_or n.changed.items x k ≡ 0
  pub workers_are : n.workers ≡ 0
  pub tiles_are : n.tiles ≡ l.tiles

module _ (n : Inside) (d : Design) (cap : ℕ) (l : Loaded) (sound : IsSound d) (small : cap ≤ 2 ^ 19)
    (loaded : AreLoaded d [] l) (o : IsOpened n d cap l) where
  abbrev start : List Item
  start = l.given.items

  pub starts : Starts d l.dropped start
  starts = record { loads = all_loaded d l loaded }

  pub opened_view : board_of n ≡ started d start cap
  opened_view =
      ap (λ (x : Design). boarded x (take n.started n.given.items) n.cap n.history n.tiles.items) o.design_is
      ∙ ap (λ (xs : List Item). boarded d xs n.cap n.history n.tiles.items)
      (ap (take n.started) o.given_is ∙ take_all n.started start (let s = o.started_is in omega (arith, s)))
      ∙ ap (λ (k : ℕ). boarded d start k n.history n.tiles.items) o.cap_is
      ∙ ap (λ (h : List Entry). boarded d start cap h n.tiles.items) o.history_is
      ∙ ap (λ (xs : List Item). boarded d start cap [] xs)
      (ap (λ (t : Spread). t.items) o.tiles_are ∙ loaded.kept.held)

  indexed : AreIndexed (started d start cap) n.given.items n.changed.items
  indexed = record {
    items_are = o.given_is;
    all = o.all ∙ sym (ap length o.given_is);
    last = λ x k within.
        let less : x < length start = let e = ap length o.given_is in omega (arith, within, e) in
        let zeroed = o.unchanged x k less in
        record {
          within = omega (arith, zeroed);
          holds = λ j e. absurd (omega (arith, e, zeroed));
          none_later = λ j le early h. absurd (omega (arith, early));
        };
  }

  pub opened_indexed : IsIndexed n
  opened_indexed = record {
    board = subst IsBoard (sym opened_view) (start_board d l.dropped start cap sound small starts);
    indexed = subst (λ (b : BoardOf). AreIndexed b n.given.items n.changed.items) (sym opened_view) indexed;
    numbered = subst AreNumbered (sym opened_view) (start_numbered (started d start cap) refl);
    started = let s = o.started_is in let e = ap length o.given_is in omega (arith, s, e);
    workers_are = o.workers_are ∙ sym (ap worker_entries o.history_is);
    spread = subst (λ (x : Design). AreTilesOf x n.tiles.area n.tiles.reach) (sym o.design_is)
        (subst (λ (t : Spread). AreTilesOf d t.area t.reach) (sym o.tiles_are) loaded.kept.spread);
  }

-- ---- what each of the first ones has
pub fronts : {X : Type 0} (P : X → Type 0) (n : ℕ) (xs : List X)
    → ((j : ℕ) (x : X) → j < n → slice_get xs j ≡ Some x → P x) → All P (take n xs)
fronts P zero xs says = λ k d within. absurd (omega (arith, within))
fronts P (suc n) [] says = λ k d within. absurd (omega (arith, within))
fronts P (suc n) (x ∷ xs) says = All-cons P x (take n xs) (says 0 x (omega arith) refl)
    (fronts P n xs (λ j y less e. says (suc j) y (omega (arith, less)) e))

-- ---- an equal board
module _ (a n : Inside) (design_is : n.design ≡ a.design) (cap_is : n.cap ≡ a.cap) (history_is : n.history ≡ a.history)
    (workers_are : n.workers ≡ a.workers) (given_is : n.given.items ≡ a.given.items)
    (started_is : n.started ≡ a.started) (changed_is : n.changed.items ≡ a.changed.items)
    (tiles_are : n.tiles ≡ a.tiles) where
  pub copied_view : board_of n ≡ board_of a
  copied_view =
      ap (λ (x : Design). boarded x (take n.started n.given.items) n.cap n.history n.tiles.items) design_is
      ∙ ap (λ (k : ℕ). boarded a.design (take k n.given.items) n.cap n.history n.tiles.items) started_is
      ∙ ap (λ (xs : List Item). boarded a.design (take a.started xs) n.cap n.history n.tiles.items) given_is
      ∙ ap (λ (k : ℕ). boarded a.design (take a.started a.given.items) k n.history n.tiles.items) cap_is
      ∙ ap (λ (h : List Entry). boarded a.design (take a.started a.given.items) a.cap h n.tiles.items) history_is
      ∙ ap (λ (t : Spread). boarded a.design (take a.started a.given.items) a.cap a.history t.items) tiles_are

  pub copied_indexed : IsIndexed a → IsIndexed n
  copied_indexed kept = record {
    board = subst IsBoard (sym copied_view) kept.board;
    indexed = subst (λ (b : BoardOf). AreIndexed b n.given.items n.changed.items) (sym copied_view)
        (subst (λ (xs : List Item). AreIndexed (board_of a) xs n.changed.items) (sym given_is)
        (subst (AreIndexed (board_of a) a.given.items) (sym changed_is) kept.indexed));
    numbered = subst AreNumbered (sym copied_view) kept.numbered;
    started = let s = kept.started in let e = ap length given_is in omega (arith, s, e, started_is);
    workers_are = workers_are ∙ kept.workers_are ∙ sym (ap worker_entries history_is);
    spread = subst (λ (x : Design). AreTilesOf x n.tiles.area n.tiles.reach) (sym design_is)
        (subst (λ (t : Spread). AreTilesOf a.design t.area t.reach) (sym tiles_are) kept.spread);
  }
