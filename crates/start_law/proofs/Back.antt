-- The session of a board, with the fixed wiring, gives that board's routed copper back.
use Rattle.std.proofs.Common.{◌≡◌, ◌∙◌, ℕ, ◌+◌, ◌<◌, List, [], ap, arith, false, filter, length, map, subst, sym}
use Rattle.std.specs.Prelude.{Contains}
use Rattle.std.specs.List.{AllZip, range_with_len}
use Rattle.pcb_model.specs.declared.item.Item.{Item}
use Rattle.pcb_model.specs.declared.item.Metal.{Metal}
use Rattle.pcb_model.specs.declared.design.Design.{Design}
use Rattle.pcb_model.specs.Board.{IsLegal, IsMade, IsRouted, is_fixed}
use Rattle.pcb_model.specs.Copper.{Ascends}
use Rattle.pcb_model.specs.Sound.{Serves}
use Rattle.pcb_board.specs.Boards.{BoardOf, Starts}
use Rattle.pcb_board.specs.Keeping.{IsBoard}
use Rattle.dsn_design.specs.Reading.{HasDesign}
use Rattle.copper_alike.specs.Twins.{HasEdges, HasRoutedTwin}
use Rattle.ses_reader.specs.declared.item.SesItem.{SesItem}
use Rattle.route_check.specs.Board.{board_of, left_of, numbered}
use Rattle.route_check.proofs.Boards.{fixed_stay}
use Rattle.session_law.specs.Told.{AreAlike, HaveSameCopper, is_copper, routed_copper}
use Rattle.session_law.specs.Back.{printed_wiring, told}
use Rattle.session_law.specs.Wired.{HasWiring}
use Rattle.session_law.proofs.ToldBoards.{is_routed}
use Rattle.check_law.specs.Written.{IsSource, IsWired}
use Rattle.check_law.proofs.Alike.{left_is, nets_of, routed_twin}
use Rattle.check_law.proofs.Edges.{edges_of_read}
use Rattle.check_law.proofs.Fixed.{fixed_kinds}
use Rattle.check_law.proofs.Linked.{range_fresh}
use Rattle.check_law.proofs.Lists.{in_range}
use Rattle.check_law.proofs.Sourced.{source}
use Rattle.check_law.proofs.Taken.{part}
use Rattle.session_start.specs.Starting.{started}
use Rattle.start_law.proofs.Copper.{copper_behind, metals_of, numbered_copper, own_part, printed_alike}
use Rattle.session_start.proofs.Front.{starts_alone}

-- items whose routed ones have the copper of routed items of a legal board are legal
abbrev AlikeIsLegal : Type 0
AlikeIsLegal = (d : Design) (xs ys : List Item) → HasEdges d → IsLegal d xs
    → ((a : Item) → Contains ys a → IsRouted a → IsMade d a × HasRoutedTwin xs a) → filter is_fixed ys ≡ d.fixed
    → IsLegal d ys

module _ (d : Design) (items routed : List Item) (old : List SesItem) (s : IsSource d items routed false old) where
  -- of each net
  net_copper : (net : ℕ) → net < length d.nets
      → AllZip AreAlike (routed_copper net items) (routed_copper net (board_of d old))
  net_copper net within =
      let left = left_of d.fixed old in
      let first : routed_copper net items ≡ routed_copper net routed =
      ap (routed_copper net) s.items_are ∙ copper_behind net d.fixed routed s.fixed in
      let second : routed_copper net (board_of d old) ≡ filter is_copper (metals_of net (part net routed)) =
      copper_behind net d.fixed (numbered d (length d.fixed) left) s.fixed
      ∙ numbered_copper d net (length d.fixed) left
      ∙ ap (λ (ws : List (ℕ × Metal)). filter is_copper (metals_of net ws)) (left_is d items routed old s)
      ∙ ap (filter is_copper) (own_part net (nets_of d) routed (range_fresh 0 (length d.nets))
      (in_range 0 (length d.nets) net (omega arith) (omega (arith, within)))) in
      subst (λ (ms : List Metal). AllZip AreAlike ms (routed_copper net (board_of d old))) (sym first)
      (subst (AllZip AreAlike (routed_copper net routed)) (sym second)
      (printed_alike net routed (λ i x lt. (s.wired i x lt).routed)))

  pub same_routed : HaveSameCopper d items (board_of d old)
  same_routed = record { each = net_copper }

-- the whole: nothing is dropped, and the start board has the copper
pub comes_back : AlikeIsLegal → (text : List ℕ) (b : BoardOf) (old : List SesItem) (dropped : List ℕ)
    (start : List Item) → HasDesign text b.design → IsBoard b → IsLegal b.design b.items → Ascends b.items
    → Serves b.items b.design → HasWiring b.design → map told old ≡ printed_wiring b.design b.items false
    → Starts (started b.design old) dropped start → (dropped ≡ []) × HaveSameCopper b.design b.items start
comes_back alike text b old dropped start has board legal up serve wiring reads starts =
    let d = b.design in
    let s = source b board (fixed_kinds text d has) legal up serve wiring false old reads in
    let whole : IsLegal d (board_of d old) =
    alike d b.items (board_of d old) (edges_of_read text d has) legal
    (routed_twin d b.items (filter is_routed b.items) false old s) (fixed_stay d old s.fixed) in
    let alone = starts_alone d old dropped start whole starts in (
      alone.0,
      subst (HaveSameCopper d b.items) (sym alone.1)
          (same_routed d b.items (filter is_routed b.items) old s),
    )
