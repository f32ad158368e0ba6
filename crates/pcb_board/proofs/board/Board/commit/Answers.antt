use Rattle.std.proofs.Common.{◌≡◌, ◌+◌, ◌<◌, ◌++◌, ◌∷◌, [], ℕ, List, Some, get_or, length, refl, sym, ◌∙◌, ap, subst}
use Rattle.std.proofs.Common.{rules, arith}
use Rattle.std.specs.Prelude.{All, slice_get, vec_len}
use Rattle.std.proofs.lemmas.List.Elements.{Contains-get_or}
use Rattle.pcb_model.specs.declared.item.Item.{Item}
use Rattle.pcb_model.specs.Bounds.{IsItemFit}
use Rattle.pcb_tiles.specs.Spread.{holding}
use Rattle.pcb_board.specs.declared.answer.Answer.TheVariants.{Committed}
use Rattle.pcb_board.specs.declared.answer.Entry.{Entry}
use Rattle.pcb_board.specs.declared.answer.Entry.TheVariants.{Join}
use Rattle.pcb_board.specs.declared.board.Board.TheInside.{Inside}
use Rattle.board_offers.specs.Items.{gone, without, new_items}
use Rattle.pcb_board.specs.Boards.{BoardOf, given}
use Rattle.pcb_board.specs.inner.Renewing.{IsRenewed}
use Rattle.pcb_board.specs.Keeping.{IsBoard}
use Rattle.pcb_board.specs.Indexing.{board_of}
use Rattle.board_offers.proofs.Lists.{all_from}
use Rattle.pcb_board.proofs.Opening.{copied_indexed}
use Rattle.pcb_board.proofs.Standing.{id_within, gone_within}
use Rattle.pcb_board.proofs.Committing.{IsNext, next_view, next_indexed, new_fit, new_numbered}
use Rattle.pcb_board.proofs.board.Board.commit.Goals as goal

long : (a : Inside) (b : BoardOf) → board_of a ≡ b → a.given.items ≡ given (board_of a)
    → length a.given.items ≡ length (given b)
long a b view are = ap length (are ∙ ap given view)

pub admit-requires-clause-fit : goal.admit-requires-clause-fit
admit-requires-clause-fit c =
    subst (All IsItemFit) (sym (c.as_slice-2.ensures ∙ c.requires.new))
    (new_fit c.args.self.now c.args.offer
    (subst IsBoard c.self.view_is c.self.invariant.board) c.requires.heard.formed)

pub admit-requires-clause-below : goal.admit-requires-clause-below
admit-requires-clause-below c =
    let b = board_of c.self.inside in
    let same : length c.self.inside.given.items ≡ length (given (board_of c.self.inside)) =
    ap length c.self.invariant.indexed.items_are in
    all_from (λ (a : Item). a.id < length c.self.inside.given.items) c.self.inside.tiles.items
    (λ a there. let less = id_within b c.self.invariant.board a there in omega (arith, less, same))

pub admit-requires-clause-numbered : goal.admit-requires-clause-numbered
admit-requires-clause-numbered c = λ j a at.
    let same = long c.self.inside c.args.self.now c.self.view_is c.self.invariant.indexed.items_are in
    let is = new_numbered c.args.self.now c.args.offer
    (subst IsBoard c.self.view_is c.self.invariant.board) c.requires.heard.formed j a
    (subst (λ (xs : List Item). slice_get xs j ≡ Some a) (c.as_slice-2.ensures ∙ c.requires.new) at) in
    omega (arith, is, same)

pub renew-requires-clause-within : goal.renew-requires-clause-within
renew-requires-clause-within c =
    let same = long c.self.inside c.args.self.now c.self.view_is c.self.invariant.indexed.items_are in
    let changed : vec_len c.admit.new.changed ≡ length c.self.inside.changed.items = search rules in
    let all = c.self.invariant.indexed.all in
    subst (All (λ x. x < vec_len c.admit.new.changed))
    (sym (c.as_slice-3.ensures.value ∙ c.in-Ok.ensures.gone))
    (λ k d within. let less = gone_within c.args.self.now c.args.offer
    (subst IsBoard c.self.view_is c.self.invariant.board) c.requires.heard.formed (get_or (gone c.args.offer) k d)
    (Contains-get_or (gone c.args.offer) k d within) in
    omega (arith, less, same, changed, all))

abbrev after_parts : goal.After-drop-gone → Inside
after_parts c = record {
  alloc = c.self.inside.alloc;
  design = c.self.inside.design;
  cap = c.self.inside.cap;
  history = c.admit.new.history;
  workers = c.count_worker-workers.result;
  given = c.append.new.self;
  started = c.self.inside.started;
  changed = c.renew.new.changed;
  tiles = c.put_tiles.new.place;
}

abbrev come : goal.After-drop-gone → List Item
come c = new_items c.args.self.now.design (given c.args.self.now) c.args.offer

first_is : (c : goal.After-drop-gone) → c.len.result ≡ length c.self.inside.given.items
first_is c = search rules

new_long : (c : goal.After-drop-gone) → c.len-2.result ≡ length (come c)
new_long c = c.len-2.ensures ∙ ap length c.requires.new

history_is : (c : goal.After-drop-gone) → c.admit.new.history ≡ c.self.inside.history
    ++ Join c.args.offer (length c.self.inside.given.items) (length c.self.inside.given.items + length (come c)) ∷ []
history_is c =
    c.in-Ok.ensures.entered
    ∙ ap (λ (xs : List Item). c.self.inside.history
    ++ Join c.args.offer (length c.self.inside.given.items) (length c.self.inside.given.items + length xs) ∷ [])
    (c.as_slice-2.ensures ∙ c.requires.new)

given_is : (c : goal.After-drop-gone) → c.append.new.self.items ≡ c.self.inside.given.items ++ come c
given_is c =
    let moved : c.append.new.self.items ≡ c.self.inside.given.items ++ c.into_vec-new.result.items = search rules in
    moved ∙ ap (λ (xs : List Item). c.self.inside.given.items ++ xs) (c.into_vec-new.ensures ∙ c.requires.new)

tiles_are : (c : goal.After-drop-gone) → c.put_tiles.new.place
    ≡ holding c.self.inside.tiles (without (gone c.args.offer) c.self.inside.tiles.items ++ come c)
tiles_are c =
    c.put_tiles.ensures ∙ c.in-Ok.ensures.tiles
    ∙ ap (λ (xs : List Item). holding c.self.inside.tiles (without (gone c.args.offer) c.self.inside.tiles.items ++ xs))
    (c.as_slice-2.ensures ∙ c.requires.new)

changed_is : (c : goal.After-drop-gone)
    → IsRenewed (gone c.args.offer) (length c.self.inside.given.items)
    (length c.self.inside.history + 1) c.self.inside.changed.items c.renew.new.changed.items
    (length c.self.inside.given.items + length (come c))
changed_is c =
    let kept : c.admit.new.changed.items ≡ c.self.inside.changed.items = search rules in
    let count : vec_len c.admit.new.changed ≡ length c.self.inside.given.items =
    search (rules, c.self.invariant.indexed.all) in
    let ids : c.as_slice-3.result.now ≡ gone c.args.offer = c.as_slice-3.ensures.value ∙ c.in-Ok.ensures.gone in
    let entries : length c.as_slice.result.now ≡ length c.self.inside.history = ap length c.as_slice.ensures in
    subst (λ (n : ℕ). IsRenewed (gone c.args.offer) (length c.self.inside.given.items)
    (length c.self.inside.history + 1) c.self.inside.changed.items c.renew.new.changed.items
    (length c.self.inside.given.items + n)) (new_long c)
    (subst (λ (n : ℕ). IsRenewed (gone c.args.offer) (length c.self.inside.given.items)
    (length c.self.inside.history + 1) c.self.inside.changed.items c.renew.new.changed.items (n + c.len-2.result))
    (first_is c)
    (subst (λ (n : ℕ). IsRenewed (gone c.args.offer) (length c.self.inside.given.items)
    (n + 1) c.self.inside.changed.items c.renew.new.changed.items (c.len.result + c.len-2.result)) entries
    (subst (λ (xs : List ℕ). IsRenewed (gone c.args.offer) (length c.self.inside.given.items)
    (length c.as_slice.result.now + 1) xs c.renew.new.changed.items (c.len.result + c.len-2.result)) kept
    (subst (λ (n : ℕ). IsRenewed (gone c.args.offer) n
    (length c.as_slice.result.now + 1) c.admit.new.changed.items c.renew.new.changed.items
    (c.len.result + c.len-2.result)) count
    (subst (λ (xs : List ℕ). IsRenewed xs (vec_len c.admit.new.changed)
    (length c.as_slice.result.now + 1) c.admit.new.changed.items c.renew.new.changed.items
    (c.len.result + c.len-2.result)) ids c.renew.ensures)))))

parts : (c : goal.After-drop-gone) → IsNext c.self.inside (after_parts c) c.args.offer (come c)
parts c = record {
  design_is = refl;
  cap_is = refl;
  started_is = refl;
  history_is = history_is c;
  given_is = given_is c;
  tiles_are = tiles_are c;
  changed_is = changed_is c;
  workers_are = c.count_worker-workers.ensures;
}

pub invariant_of-self-2 : goal.invariant_of-self-2
invariant_of-self-2 c =
    next_indexed c.self.inside (after_parts c) c.args.self.now c.args.offer
    (λ x y h. c.pairs_are_symmetric.ensures.agree c.args.self.now.design x y h) c.self.view_is c.self.invariant
    c.requires.heard c.requires.clear (parts c)

pub returns-clause-ok : goal.returns-clause-ok
returns-clause-ok c = (
  ap Committed (ap (λ (xs : List Entry). length xs + 1)
      (c.as_slice.ensures ∙ ap (λ (b : BoardOf). b.history) c.self.view_is)),
  next_view c.self.inside (after_parts c) c.args.self.now c.args.offer
      (λ x y h. c.pairs_are_symmetric.ensures.agree c.args.self.now.design x y h) c.self.view_is c.self.invariant
      c.requires.heard c.requires.clear (parts c),
)

pub invariant_of-self : goal.invariant_of-self
invariant_of-self c =
    copied_indexed c.self.inside (record {
      alloc = c.self.inside.alloc;
      design = c.self.inside.design;
      cap = c.self.inside.cap;
      history = c.admit.new.history;
      workers = c.self.inside.workers;
      given = c.admit.new.given;
      started = c.self.inside.started;
      changed = c.admit.new.changed;
      tiles = c.self.inside.tiles;
    }) refl refl c.in-Err.ensures.err.1 refl c.admit.ensures.given refl c.admit.ensures.changed refl
    c.self.invariant
