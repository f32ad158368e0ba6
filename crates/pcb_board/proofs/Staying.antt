-- An item that was given its id stays that of the id.
use Rattle.std.proofs.Common.{◌≡◌, ℕ, Some, sym, ◌∙◌, ap, subst, List, ◌++◌}
use Rattle.std.specs.Prelude.{Contains, slice_get}
use Rattle.std.proofs.lemmas.Option.{same_Some}
use Rattle.std.proofs.lemmas.List.Elements.{All-contains}
use Rattle.pcb_model.specs.declared.item.Item.{Item}
use Rattle.copper_change.specs.Changes.{AreOneById}
use Rattle.board_offers.proofs.Lists.{look_left}
use Rattle.pcb_board.specs.declared.answer.Entry.{Entry}
use Rattle.pcb_board.specs.Boards.{BoardOf, given, past, opening}
use Rattle.pcb_board.specs.Keeping.{IsBoard, Grows}
use Rattle.pcb_board.proofs.Past.{BeginsWith, from_begins, past_on}
use Rattle.pcb_board.proofs.Standing.{found_now}

-- what a board gave stands before what it gave since
given_before : (b c : BoardOf) → Grows b c → BeginsWith (given b) (given c)
given_before b c grows =
    subst (λ (xs : List Item). BeginsWith (given b) xs)
    (sym (ap (λ (h : List Entry). (past c.design c.start h).given) grows.history_is
    ∙ (ap (λ (s : List Item). (past c.design s (b.history ++ grows.entries)).given) grows.start_stays
    ∙ (ap (λ (d : _). (past d b.start (b.history ++ grows.entries)).given) grows.design_stays
    ∙ ap (λ (p : _). p.given) (past_on b.design (opening b.start) b.history grows.entries)))))
    (from_begins b.design (past b.design b.start b.history) grows.entries)

-- the item of an id on a board
found : (b : BoardOf) → IsBoard b → (x : Item) → Contains b.items x → slice_get (given b) x.id ≡ Some x
found b board x there =
    All-contains (λ (a : Item). slice_get (given b) a.id ≡ Some a) b.items x (found_now b board) there

-- so a board and one that grew from it have one item for an id
pub one_by_id : (b c : BoardOf) → IsBoard b → IsBoard c → Grows b c → AreOneById b.items c.items
one_by_id b c board later grows = record {
  same = λ x y there here e.
      let begins = given_before b c grows in
      let first : slice_get (given c) x.id ≡ Some x =
      subst (λ (xs : List Item). slice_get xs x.id ≡ Some x) (sym begins.is)
      (look_left (given b) begins.more x.id x (found b board x there)) in
      let second : slice_get (given c) x.id ≡ Some y =
      subst (λ (n : ℕ). slice_get (given c) n ≡ Some y) (sym e) (found c later y here) in
      same_Some x y (sym first ∙ second);
}
