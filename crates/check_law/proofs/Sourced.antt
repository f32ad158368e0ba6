-- What a session of a board is read from: its routed items are wiring of nets, behind the design's fixed items.
use Rattle.std.proofs.Common.{◌≡◌, ap, filter, get_or, map}
use Rattle.std.proofs.Common.{All, Bool, List, true}
use Rattle.std.specs.Prelude.{Contains}
use Rattle.std.proofs.lemmas.List.Elements.{All-contains}
use Rattle.std.proofs.lemmas.Option.{slice_get-get_or}
use Rattle.pcb_model.specs.declared.item.Item.{Item}
use Rattle.pcb_model.specs.declared.design.Design.{Design}
use Rattle.pcb_model.specs.Board.{IsLegal, IsMade, IsRouted}
use Rattle.pcb_model.specs.Copper.{Ascends}
use Rattle.pcb_model.specs.Sound.{Serves}
use Rattle.pcb_islands.proofs.Elements.{in_filter}
use Rattle.board_offers.proofs.Lists.{all_from, not_true, passes}
use Rattle.pcb_board.specs.Boards.{BoardOf}
use Rattle.pcb_board.specs.Keeping.{IsBoard}
use Rattle.ses_reader.specs.declared.item.SesItem.{SesItem}
use Rattle.session_law.specs.Back.{printed_wiring, told}
use Rattle.session_law.specs.Wired.{HasWiring}
use Rattle.session_law.proofs.ToldBoards.{is_routed, items_are}
use Rattle.check_law.specs.Written.{IsSource, IsWired}
use Rattle.check_law.proofs.Fixed.{HasKind}
use Rattle.check_law.proofs.Routed.{IsWiring, routed_wiring}

module _ (b : BoardOf) (board : IsBoard b) (kinds : All HasKind b.design.fixed) (legal : IsLegal b.design b.items)
    (up : Ascends b.items) (serve : Serves b.items b.design) (wiring : HasWiring b.design) where
  abbrev d : Design
  d = b.design

  -- a routed item is wiring of a net
  wired : (a : Item) → Contains (filter is_routed b.items) a → IsWired d a
  wired a h =
      let routed : IsRouted a = not_true a.fixed (passes is_routed b.items a h) in
      let on_board : Contains b.items a = in_filter is_routed b.items a h in
      let made = All-contains (λ (x : Item). IsRouted x → IsMade d x) b.items a legal.made on_board routed in
      record {
        routed = routed;
        net = made.net;
        net_is = ap (λ (x : Item). x.net) made.made;
        within = made.net_there;
        copper = (All-contains IsWiring b.items a (routed_wiring b board) on_board).copper routed;
        of_metal = record {
          kind = ap (λ (x : Item). x.kind) made.made;
          pieces = ap (λ (x : Item). x.pieces) made.made;
        };
      }

  -- fixed items are fixed
  fixed_there : All (λ (a : Item). a.fixed ≡ true) d.fixed
  fixed_there = λ i x within.
      (board.sound.fixed i (get_or d.fixed i x) (slice_get-get_or d.fixed i x within)).fixed

  -- what a session of the board is read from
  pub source : (omit : Bool) (xs : List SesItem) → map told xs ≡ printed_wiring d b.items omit
      → IsSource d b.items (filter is_routed b.items) omit xs
  source omit xs reads = record {
    items_are = items_are b board serve.fixed_there up;
    fixed = fixed_there;
    fixed_copper = λ i x within copper. record {
      kind = (kinds i x within).kind copper;
      pieces = (wiring.fixed i x within).pieces (fixed_there i x within) copper;
    };
    wired = all_from (IsWired d) (filter is_routed b.items) wired;
    reads = reads;
  }
