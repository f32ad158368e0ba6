-- Where the board of a session is legal, so is each front of it; so nothing is dropped when it is loaded.
use Rattle.std.proofs.Common.{◌≡◌, ℕ, zero, suc, ◌+◌, ◌<◌, ◌⊎◌, inl, inr, false, List, [], ◌∷◌, ◌++◌, length, get_or}
use Rattle.std.proofs.Common.{map, Some, refl, sym, ap, ◌∙◌, subst, arith, All, length-append}
use Rattle.std.specs.Prelude.{AllPairs, filter}
use Rattle.std.proofs.lemmas.List.{append-nil, append_assoc, length_push}
use Rattle.std.proofs.lemmas.List.Elements.{filter-append}
use Rattle.pcb_model.specs.declared.item.Item.{Item}
use Rattle.pcb_model.specs.declared.design.FreeWire.{FreeWire}
use Rattle.pcb_model.specs.declared.design.Design.{Design}
use Rattle.pcb_model.specs.Pieces.{item_of}
use Rattle.pcb_model.specs.Pairs.{Agrees}
use Rattle.pcb_model.specs.Board.{IsLegal, IsRouted, IsLaid, IsMade, AreInside, is_fixed}
use Rattle.pcb_board.specs.Boards.{Loads, Starts, free_item}
use Rattle.ses_reader.specs.declared.item.SesItem.{SesItem}
use Rattle.ses_reader.specs.Wiring.{wire_of}
use Rattle.route_check.specs.Board.{board_of, left_of, numbered}
use Rattle.route_check.proofs.Boards.{none_fixed}
use Rattle.session_start.specs.Starting.{started, with_free}
use Rattle.session_start.proofs.Alike.{legal_too, same_item}

-- ---- fronts of lists
left_at : {X : Type 0} (xs ys : List X) (k : ℕ) (x : X) → k < length xs → get_or (xs ++ ys) k x ≡ get_or xs k x
left_at [] ys k x h = absurd (omega (arith, h))
left_at (y ∷ xs) ys zero x h = refl
left_at (y ∷ xs) ys (suc k) x h = left_at xs ys k x (omega (arith, h))

within_both : {X : Type 0} (xs ys : List X) (k : ℕ) → k < length xs → k < length (xs ++ ys)
within_both xs ys k h = let e = length-append xs ys in omega (arith, e, h)

all_left : {X : Type 0} (P : X → Type 0) (xs ys : List X) → All P (xs ++ ys) → All P xs
all_left P xs ys h k x lt = subst P (left_at xs ys k x lt) (h k x (within_both xs ys k lt))

pairs_left : {X : Type 0} (R : X → X → Type 0) (xs ys : List X) → AllPairs R (xs ++ ys) → AllPairs R xs
pairs_left R xs ys h i k x before lt =
    let first : i < length xs = omega (arith, before, lt) in
    subst (λ (p : _ × _). R p.0 p.1) (λ j. (left_at xs ys i x first j, left_at xs ys k x lt j))
    (h i k x before (within_both xs ys k lt))

-- without the session's items behind them
front_legal : (d : Design) (items : List Item) (id : ℕ) (xs : List SesItem) → IsLegal d (items ++ numbered d id xs)
    → IsLegal d items
front_legal d items id xs legal =
    let rest = numbered d id xs in
    record {
      agree = pairs_left (λ (x y : Item). IsRouted x ⊎ IsRouted y → Agrees d x y) items rest legal.agree;
      inside = all_left (λ (x : Item). IsRouted x → AreInside d.bounds x.pieces) items rest legal.inside;
      laid = all_left (λ (x : Item). IsRouted x → IsLaid d x) items rest legal.laid;
      made = all_left (λ (x : Item). IsRouted x → IsMade d x) items rest legal.made;
      fixed_stay = sym (filter-append is_fixed items rest
          ∙ ap (λ (l : List Item). filter is_fixed items ++ l) (none_fixed d id xs)
          ∙ append-nil (filter is_fixed items)) ∙ legal.fixed_stay;
    }

-- ---- all of it loads
module _ (d : Design) (wires : List FreeWire) where
  abbrev e : Design
  e = with_free d wires

  all_load : (xs : List SesItem) (items : List Item) → IsLegal d (items ++ numbered d (length items) xs)
      → Loads e items (map wire_of xs) [] (items ++ numbered d (length items) xs)
  all_load [] items legal = (refl, append-nil items)
  all_load (x ∷ xs) items legal =
      let one = item_of d (length items) (Some x.net) false x.metal in
      let more = items ++ one ∷ [] in
      let count : length more ≡ length items + 1 = (let n = length_push items one in omega (arith, n)) in
      let whole : items ++ numbered d (length items) (x ∷ xs) ≡ more ++ numbered d (length more) xs =
      sym (append_assoc items (one ∷ []) (numbered d (length more) xs)
      ∙ ap (λ (n : ℕ). items ++ one ∷ numbered d n xs) count) in
      let own : more ≡ items ++ free_item e items (wire_of x) ∷ [] =
      ap (λ (a : Item). items ++ a ∷ []) (sym (same_item d wires (length items) (Some x.net) false x.metal)) in
      let all = subst (IsLegal d) whole legal in
      subst (λ (is : List Item). Loads e items (map wire_of (x ∷ xs)) [] is) (sym whole)
      (inl (subst (λ (is : List Item). IsLegal e is × Loads e is (map wire_of xs) [] (more
      ++ numbered d (length more) xs)) own
      (legal_too d wires more (front_legal d more (length more) xs all), all_load xs more all)))

pub starts_whole : (d : Design) (old : List SesItem) → IsLegal d (board_of d old)
    → Starts (started d old) [] (board_of d old)
starts_whole d old legal = record {
  loads = all_load d (map wire_of (left_of d.fixed old)) (left_of d.fixed old) d.fixed legal;
}

-- ---- it is the only start
loads_one : (d : Design) (ws : List FreeWire) (items start other : List Item) (dropped : List ℕ)
    → Loads d items ws [] start → Loads d items ws dropped other → (dropped ≡ []) × (other ≡ start)
loads_one d [] items start other dropped a b = (b.0, b.1 ∙ sym a.1)
loads_one d (w ∷ ws) items start other dropped (inl a) (inl b) =
    loads_one d ws (items ++ free_item d items w ∷ []) start other dropped a.1 b.1
loads_one d (w ∷ ws) items start other dropped (inl a) (inr b) = absurd (b.0 a.0)
loads_one d (w ∷ ws) items start other dropped (inr (refused, others, is, rest)) b = absurd (cc)

pub starts_alone : (d : Design) (old : List SesItem) (dropped : List ℕ) (start : List Item) → IsLegal d (board_of d old)
    → Starts (started d old) dropped start → (dropped ≡ []) × (start ≡ board_of d old)
starts_alone d old dropped start legal starts =
    loads_one (started d old) (map wire_of (left_of d.fixed old)) d.fixed (board_of d old) start dropped
    (starts_whole d old legal).loads starts.loads
