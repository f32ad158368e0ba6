-- The printed wiring of a board can be read, where that of its design can.
use Rattle.std.proofs.Common.{◌≡◌, ℕ, Bool, true, List, get_or, length, sym, subst, arith}
use Rattle.std.specs.Prelude.{All, Contains, Some, filter, slice_get}
use Rattle.std.proofs.lemmas.List.Elements.{All-contains, All-filter, All-weaker}
use Rattle.std.proofs.lemmas.Option.{slice_get-get_or}
use Rattle.pcb_model.specs.declared.item.Item.{Item}
use Rattle.pcb_model.specs.Board.{is_fixed}
use Rattle.board_offers.proofs.Lists.{all_from, got}
use Rattle.pcb_board.specs.declared.answer.Entry.{Entry}
use Rattle.pcb_board.specs.declared.answer.Entry.TheVariants.{Join, Back}
use Rattle.pcb_board.specs.Answers.{known}
use Rattle.pcb_board.specs.Boards.{BoardOf, board_at, given, opening}
use Rattle.pcb_board.specs.Keeping.{IsBoard}
use Rattle.pcb_board.proofs.Order.{kept_there}
use Rattle.ses_writer.specs.Session.{is_printed}
use Rattle.session_law.proofs.ScaleGiven.{loaded}
use Rattle.session_law.specs.Back.{HasTwoPoints, IsReadable}
use Rattle.session_law.specs.Wired.{HasWiring}
use Rattle.session_law.proofs.BoardOffers.{offer_long}
use Rattle.session_law.proofs.BoardGiven.{IsLong, IsLongEntry, given_long}

module _ (b : BoardOf) (board : IsBoard b) (wiring : HasWiring b.design) where
  -- ---- points
  -- an entry
  entry_long : (k : ℕ) (e : Entry) → slice_get b.history k ≡ Some e → IsLongEntry e
  entry_long k (Join o first after) at = offer_long (known (board_at b k)) o (board.formed k o first after at)
  entry_long k (Back to) at = tt

  -- all that were ever given
  all_long : All IsLong (given b)
  all_long =
      let start = loaded b.design HasTwoPoints b.design.fixed b.design.free board.dropped b.start
      (All-weaker (IsReadable b.design) IsLong (λ a h. h.points) b.design.fixed wiring.fixed) wiring.free
      board.starts.loads in
      given_long b.design (opening b.start) b.history start
      (λ k e within. entry_long k (get_or b.history k e) (slice_get-get_or b.history k e within))

  -- the items on the board
  items_long : All IsLong b.items
  items_long = All-weaker (λ (a : Item). slice_get (given b) a.id ≡ Some a) IsLong
      (λ a at. got IsLong (given b) all_long a.id a (sym at)) b.items
      (subst (All (λ (a : Item). slice_get (given b) a.id ≡ Some a)) board.replays
      (board.from_given (length b.history) (omega arith)))

  -- ---- fixed items
  -- those of the board are the design's
  fixed_are : filter is_fixed b.items ≡ b.design.fixed
  fixed_are = subst (λ (items : List Item). filter is_fixed items ≡ b.design.fixed) board.replays
      (board.legal (length b.history) (omega arith)).fixed_stay

  -- so they can be read
  fixed_readable : (a : Item) → Contains b.items a → a.fixed ≡ true → IsReadable b.design a
  fixed_readable a there fixed = All-contains (IsReadable b.design) b.design.fixed a wiring.fixed
      (subst (λ (items : List Item). Contains items a) fixed_are (kept_there is_fixed b.items a there fixed))

  -- ---- the printed items
  -- each can be read
  pub printed_readable : (omit_fixed : Bool) → All (IsReadable b.design) (filter (is_printed omit_fixed) b.items)
  printed_readable omit_fixed = All-filter (is_printed omit_fixed) (IsReadable b.design) b.items
      (all_from (IsReadable b.design) b.items (λ a there. record {
        points = All-contains IsLong b.items a items_long there;
        pieces = λ fixed copper. (fixed_readable a there fixed).pieces fixed copper;
      }))
