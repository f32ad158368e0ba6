-- A board after its first entries is a board.
use Rattle.std.proofs.Common.{◌≡◌, inl, inr, ℕ, ◌+◌, ◌<◌, ◌≤◌, zero, suc, Some, refl, sym, ◌∙◌, ap, ap₂}
use Rattle.std.proofs.Common.{subst}
use Rattle.std.proofs.Common.{List, [], ◌∷◌, ◌++◌, length, take, arith, length-append}
use Rattle.std.proofs.Math.Seq.{take-length}
use Rattle.std.specs.Prelude.{All, slice_get, slice_index_or}
use Rattle.std.proofs.lemmas.Option.{slice_get_within}
use Rattle.std.proofs.lemmas.List.{length-take-le}
use Rattle.std.proofs.lemmas.List.Elements.{All-append, All-filter, All-weaker, All-contains, All-nil, All-cons}
use Rattle.std.specs.Prelude.{not}
use Rattle.pcb_model.specs.declared.item.Item.{Item}
use Rattle.pcb_model.specs.declared.design.Design.{Design}
use Rattle.pcb_model.specs.Board.{IsLegal}
use Rattle.pcb_model.specs.Copper.{Ascends}
use Rattle.board_offers.specs.Items.{names, gone, without, new_items, joined_items}
use Rattle.board_offers.specs.Given.{AreGiven}
use Rattle.board_offers.proofs.Lists.{all_from, found_at, look_left, look_cases}
use Rattle.pcb_board.specs.declared.answer.Entry.{Entry}
use Rattle.pcb_board.specs.declared.answer.Entry.TheVariants.{Join, Back}
use Rattle.pcb_board.specs.Boards.{BoardOf, Past, opening, next, past_from, past, given, replayed, board_at}
use Rattle.pcb_board.specs.Keeping.{IsBoard}
use Rattle.pcb_board.specs.inner.Loading.{IsLoaded}
pub use Rattle.pcb_board.proofs.Formed.{board_before}
use Rattle.pcb_board.proofs.Formed.{formed_within}
use Rattle.pcb_board.proofs.Past.{BeginsWith, given_begins, take_less}
use Rattle.pcb_board.proofs.Starting.{loads_kept, fixed_loaded}
use Rattle.pcb_board.proofs.Turns.{new_numbered}

-- ---- ids are below the number of items given by then
abbrev AreBelow : ℕ → List Item → Type 0
AreBelow n items = All (λ (a : Item). a.id < n) items

record AllBelow (p : Past) : Type 0 where
  now : AreBelow (length p.given) p.items
  boards : All (AreBelow (length p.given)) p.boards

wider : (n m : ℕ) → n ≤ m → (items : List Item) → AreBelow n items → AreBelow m items
wider n m le items below = All-weaker (λ (a : Item). a.id < n) (λ (a : Item). a.id < m)
    (λ a less. omega (arith, less, le)) items below

then_below : (p : Past) (new items : List Item) → AllBelow p → AreBelow (length (p.given ++ new)) items
    → (boards : List (List Item)) → boards ≡ p.boards ++ items ∷ []
    → AllBelow (record { given = p.given ++ new; items = items; boards = boards })
then_below p new items h below boards is = record {
  now = below;
  boards = subst (All (AreBelow (length (p.given ++ new)))) (sym is)
      (All-append (AreBelow (length (p.given ++ new))) p.boards (items ∷ [])
      (All-weaker (AreBelow (length p.given)) (AreBelow (length (p.given ++ new)))
      (wider (length p.given) (length (p.given ++ new)) (omega (arith, length-append p.given new))) p.boards h.boards)
      (All-cons (AreBelow (length (p.given ++ new))) items [] below (All-nil (AreBelow (length (p.given ++ new))))));
}

at_or_none : (n : ℕ) (boards : List (List Item)) (k : ℕ) → All (AreBelow n) boards
    → AreBelow n (slice_index_or boards k [])
at_or_none n [] k h = All-nil (λ (a : Item). a.id < n)
at_or_none n (x ∷ boards) zero h = h 0 x (omega arith)
at_or_none n (x ∷ boards) (suc k) h = at_or_none n boards k (λ i d within. h (suc i) d (omega (arith, within)))

next_below : (d : Design) (p : Past) (e : Entry) → AllBelow p → AllBelow (next d p e)
next_below d p (Join o first after) h =
    let new = new_items d p.given o in
    let n = length (p.given ++ new_items d p.given o) in
    then_below p new (joined_items d p.given p.items o) h
    (All-append (λ (a : Item). a.id < n) (without (gone o) p.items) new
    (All-filter (λ (a : Item). not (names (gone o) a.id)) (λ (a : Item). a.id < n) p.items
    (wider (length p.given) n (omega (arith, length-append p.given new)) p.items h.now))
    (all_from (λ (a : Item). a.id < n) new (λ a there.
    let f = found_at new a there in
    let is : a.id ≡ length p.given + f.place = new_numbered d p.given o f.place a f.there in
    let within : f.place < length new = slice_get_within new f.place a f.there in
    omega (arith, is, within, length-append p.given new))))
    (p.boards ++ joined_items d p.given p.items o ∷ []) refl
next_below d p (Back to) h =
    let items = slice_index_or p.boards to [] in
    then_below p [] items h
    (wider (length p.given) (length (p.given ++ [])) (omega (arith, length-append p.given [])) items
    (at_or_none (length p.given) p.boards to h.boards))
    (p.boards ++ items ∷ []) refl

from_below : (d : Design) (p : Past) (es : List Entry) → AllBelow p → AllBelow (past_from d p es)
from_below d p [] h = h
from_below d p (e ∷ es) h = from_below d (next d p e) es (next_below d p e h)

start_below : (d : Design) (start : List Item) → AreGiven d start → AreBelow (length start) start
start_below d start given = all_from (λ (a : Item). a.id < length start) start (λ a there.
    let f = found_at start a there in
    let is : a.id ≡ f.place = (given f.place a f.there).numbered in
    let within : f.place < length start = slice_get_within start f.place a f.there in
    omega (arith, is, within))

opening_below : (d : Design) (start : List Item) → AreGiven d start → AllBelow (opening start)
opening_below d start given =
    let below = start_below d start given in
    record {
      now = below;
      boards = All-cons (AreBelow (length start)) start [] below
          (All-nil (AreBelow (length start)));
    }

-- what stands before more stands there alone
look_back : (xs more : List Item) (k : ℕ) (a : Item) → k < length xs → slice_get (xs ++ more) k ≡ Some a
    → slice_get xs k ≡ Some a
look_back xs more k a less at = elim (look_cases xs more k a at) [
  | inl here ↦ here
  | inr behind ↦ absurd (let e = behind.place_is in omega (arith, less, e))
]

module _ (b : BoardOf) (n : ℕ) (board : IsBoard b) (le : n ≤ length b.history) where
  abbrev at : BoardOf
  at = board_at b n

  pub start_given : AreGiven b.design b.start
  start_given =
      let h : IsLoaded b.design b.start =
      loads_kept b.design b.design.fixed b.design.free board.dropped b.start board.sound board.sound.free
      (fixed_loaded b.design board.sound) board.starts.loads in
      h.given

  long : length (take n b.history) ≡ n
  long = length-take-le n b.history le

  same : (m : ℕ) → m ≤ n → replayed at m ≡ replayed b m
  same m less = ap (λ (es : List Entry). (past b.design b.start es).items) (take_less m n b.history less)

  below : (m : ℕ) → m ≤ n → AreBelow (length (given at)) (replayed b m)
  below m less =
      let h = from_below b.design (opening b.start) (take m b.history) (opening_below b.design b.start start_given) in
      let g = given_begins b.design b.start (take n b.history) m in
      let e = ap length g.is in
      let shorter : length (past b.design b.start (take m (take n b.history))).given ≤ length (given at) =
      omega (arith, e, length-append (past b.design b.start (take m (take n b.history))).given g.more) in
      wider (length (past b.design b.start (take m b.history)).given) (length (given at))
      (subst (λ (es : List Entry). length (past b.design b.start es).given ≤ length (given at))
      (take_less m n b.history less) shorter)
      (replayed b m) h.now

  begins : BeginsWith (given at) (given b)
  begins = given_begins b.design b.start b.history n

  found : (a : Item) → a.id < length (given at) → slice_get (given b) a.id ≡ Some a
      → slice_get (given at) a.id ≡ Some a
  found a less h = look_back (given at) begins.more a.id a less
      (subst (λ (xs : List Item). slice_get xs a.id ≡ Some a) begins.is h)

  pub prefix_board : IsBoard (board_at b n)
  prefix_board = record {
    sound = board.sound;
    formed = formed_within b n le board.formed;
    dropped = board.dropped;
    starts = board.starts;
    cap_within = board.cap_within;
    replays = same (length (take n b.history)) (omega (arith, long)) ∙ ap (replayed b) long;
    legal = λ m less. subst (IsLegal b.design) (sym (same m (omega (arith, long, less))))
        (board.legal m (omega (arith, long, less, le)));
    ascends = λ m less. subst Ascends (sym (same m (omega (arith, long, less))))
        (board.ascends m (omega (arith, long, less, le)));
    given_are = λ x a h. board.given_are x a
        (subst (λ (xs : List Item). slice_get xs x ≡ Some a) (sym begins.is) (look_left (given at) begins.more x a h));
    from_given = λ m less.
        let within : m ≤ n = omega (arith, long, less) in
        subst (λ (xs : List Item). All (λ (a : Item). slice_get (given at) a.id ≡ Some a) xs) (sym (same m within))
        (all_from (λ (a : Item). slice_get (given at) a.id ≡ Some a) (replayed b m) (λ a there.
        found a (All-contains (λ (x : Item). x.id < length (given at)) (replayed b m) a (below m within) there)
        (All-contains (λ (x : Item). slice_get (given b) x.id ≡ Some x) (replayed b m) a
        (board.from_given m (omega (arith, within, le))) there)));
  }

-- with all its entries it is itself
pub board_whole : (b : BoardOf) → IsBoard b → board_at b (length b.history) ≡ b
board_whole b kept =
    ap₂ (λ (h : List Entry) (items : List Item). record b { history = h; items = items })
    (take-length b.history) kept.replays
