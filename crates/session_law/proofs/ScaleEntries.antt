-- Whatever least joins give and put on a board is whole, entry by entry.
use Rattle.std.proofs.Common.{◌≡◌, inl, inr, ℕ, zero, suc, ◌+◌, ◌≤◌, List, [], ◌∷◌, Option, Some, None, take, sym, ap}
use Rattle.std.proofs.Common.{◌∙◌, refl, subst, arith}
use Rattle.std.specs.Prelude.{All, Bool, false, not, slice_get, slice_index_or, true}
use Rattle.std.specs.List.{AllZip}
use Rattle.std.specs.Option.{option_map_or}
use Rattle.std.proofs.lemmas.Bool.{cases_lt}
use Rattle.std.proofs.lemmas.List.{take_all}
use Rattle.std.proofs.lemmas.List.Sums.{list_all-from_AllPass}
use Rattle.std.proofs.lemmas.Option.{none-some, slice_get_cases}
use Rattle.std.proofs.lemmas.List.Elements.{All-nil, All-cons, All-append, All-contains, All-filter}
use Rattle.pcb_model.specs.declared.item.Item.{Item}
use Rattle.pcb_model.specs.declared.design.Net.{Net}
use Rattle.pcb_model.specs.declared.design.Design.{Design}
use Rattle.pcb_model.specs.Scale.{is_whole_point}
use Rattle.pcb_islands.specs.declared.net.Island.{Island}
use Rattle.pcb_islands.specs.Islands.{AreIslands, IsIsland, Selects, HasPadJoined, pins_of}
use Rattle.route_lattice.specs.Mesh.{Mesh}
use Rattle.shove.specs.Shoves.{chain_of}
use Rattle.board_offers.specs.declared.offer.Offer.{Offer}
use Rattle.board_offers.specs.declared.offer.Shoved.{Shoved}
use Rattle.board_offers.specs.Items.{names, gone, without, item_at, no_item, added, new_items, joined_items}
use Rattle.board_offers.proofs.Lists.{all_from, got}
use Rattle.pcb_board.specs.declared.answer.Entry.{Entry}
use Rattle.pcb_board.specs.declared.answer.Entry.TheVariants.{Join, Back}
use Rattle.pcb_board.specs.Boards.{BoardOf, Past, opening, next, past, replayed, board_at, given}
use Rattle.pcb_board.proofs.Past.{past_more, taken_one}
use Rattle.least_offer.specs.Least.{IsLeastOffer, IsWideOffer, Chooses, IsShoveOf}
use Rattle.least_offer.proofs.Replacing.{zip_right}
use Rattle.closing_pass.specs.Settled.{MovesAside, TakesOne}
use Rattle.route_run.specs.Runs.{MayJoin}
use Rattle.session_law.proofs.ScaleLines.{HasWholeLines, at_or}
use Rattle.session_law.proofs.ToldDesigns.{IsWholeDesign, IsWholeMetal}
use Rattle.session_law.proofs.ScaleCopper.{IsWholeChain, points_of, rechained, copper_whole, chain_whole}
use Rattle.session_law.proofs.ScaleGiven.{all_new, all_of_none}

module _ (d : Design) (nm : ℕ) where
  -- an item of whole copper
  abbrev pub IsWholeItem : Item → Type 0
  IsWholeItem a = IsWholeMetal nm a.metal

  -- ---- one entry
  -- the items ever given, and those that are or were on the board
  pub record IsWholePast (p : Past) : Type 0 where
    pub given_whole : All IsWholeItem p.given
    pub items_whole : All IsWholeItem p.items
    pub boards_whole : All (All IsWholeItem) p.boards

  -- what an offer adds, and its chains
  pub record IsWholeOffer (o : Offer) : Type 0 where
    pub add_whole : All (IsWholeMetal nm) o.add
    pub chains_whole : All (λ (s : Shoved). IsWholeChain nm s.chain) o.shoves

  -- what an entry adds; one that takes the board back adds nothing
  abbrev pub IsWholeEntry : Entry → Type 0
  IsWholeEntry (Join o first after) = IsWholeOffer o
  IsWholeEntry (Back to) = Unit {0}

  -- before the first entry
  opening_whole : (start : List Item) → All IsWholeItem start → IsWholePast (opening start)
  opening_whole start h = record {
    given_whole = h;
    items_whole = h;
    boards_whole = All-cons (All IsWholeItem) start [] h (All-nil (All IsWholeItem));
  }

  -- new items of a whole offer
  new_whole : (gv : List Item) (o : Offer) → All IsWholeItem gv → IsWholeOffer o
      → All IsWholeItem (new_items d gv o)
  new_whole gv o h w = all_new d (IsWholeMetal nm) gv o w.add_whole (λ s there.
      rechained nm s.chain (item_at gv s.id).metal
      (list_all-from_AllPass (is_whole_point nm) s.chain
      (All-contains (λ (t : Shoved). IsWholeChain nm t.chain) o.shoves s w.chains_whole there))
      (at_or IsWholeItem gv s.id no_item h refl))

  -- after one entry more
  next_whole : (p : Past) (e : Entry) → IsWholePast p → IsWholeEntry e → IsWholePast (next d p e)
  next_whole p (Join o first after) h w =
      let new = new_whole p.given o h.given_whole w in
      let items = All-append IsWholeItem (without (gone o) p.items) (new_items d p.given o)
      (All-filter (λ (a : Item). not (names (gone o) a.id)) IsWholeItem p.items h.items_whole) new in
      record {
        given_whole = All-append IsWholeItem p.given (new_items d p.given o) h.given_whole new;
        items_whole = items;
        boards_whole = All-append (All IsWholeItem) p.boards (joined_items d p.given p.items o ∷ []) h.boards_whole
            (All-cons (All IsWholeItem) (joined_items d p.given p.items o) [] items (All-nil (All IsWholeItem)));
      }
  next_whole p (Back to) h w =
      let items = at_or (All IsWholeItem) p.boards to [] h.boards_whole (All-nil IsWholeItem) in
      record {
        given_whole = All-append IsWholeItem p.given [] h.given_whole (All-nil IsWholeItem);
        items_whole = items;
        boards_whole = All-append (All IsWholeItem) p.boards (slice_index_or p.boards to [] ∷ []) h.boards_whole
            (All-cons (All IsWholeItem) (slice_index_or p.boards to []) [] items (All-nil (All IsWholeItem)));
      }

  -- ---- entry by entry
  -- where each entry is whole once all that came before it is, all is whole
  module _ (start : List Item) (history : List Entry) (start_whole : All IsWholeItem start)
      (each : (k : ℕ) (e : Entry) → slice_get history k ≡ Some e
      → ((n : ℕ) → n ≤ k → IsWholePast (past d start (take n history))) → IsWholeEntry e) where
    -- what the first n entries make
    abbrev at : ℕ → Past
    at n = past d start (take n history)

    -- with one entry more, or where there is no other
    one_more : (k : ℕ) → ((n : ℕ) → n ≤ k → IsWholePast (at n)) → IsWholePast (at (k + 1))
    one_more k before = elim (slice_get_cases history k).1 [
      | inl (e, within, there, same) ↦ subst IsWholePast
          (sym (ap (past d start) (taken_one history k e there) ∙ past_more d start (take k history) e))
          (next_whole (at k) e (before k (omega arith)) (each k e there before))
      | inr (behind, none) ↦ subst IsWholePast
          (ap (past d start) (take_all k history behind ∙ sym (take_all (k + 1) history (omega (arith, behind)))))
          (before k (omega arith))
    ]

    -- after each number of entries up to one
    up_to : (k n : ℕ) → n ≤ k → IsWholePast (at n)
    up_to zero n le = subst (λ (i : ℕ). IsWholePast (at i)) {x = 0} (omega (arith, le))
        (opening_whole start start_whole)
    up_to (suc k) n le = elim (cases_lt n (suc k)) [
      | inl less ↦ up_to k n (omega (arith, less))
      | inr all ↦ subst (λ (i : ℕ). IsWholePast (at i)) {x = k + 1} (omega (arith, le, all)) (one_more k (up_to k))
    ]

    -- after each number of entries
    pub each_whole : (n : ℕ) → IsWholePast (at n)
    each_whole n = up_to n n (omega arith)

-- ---- least offers
-- a net with an island is one of the design's
record HasNet (d : Design) (net : ℕ) : Type 0 where
  one : Net
  there : slice_get d.nets net ≡ Some one

-- no net, no pins
no_pins : (d : Design) (items : List Item) (pad : Item) (net : ℕ) (pins : List ℕ) (first : ℕ)
    → slice_get d.nets net ≡ None → Selects (HasPadJoined d items pad) (pins_of d net) pins
    → slice_get pins 0 ≡ Some first → ⊥
no_pins d items pad net pins first none are e =
    let empty : pins ≡ [] = subst (λ (o : Option Net). Selects (HasPadJoined d items pad)
    (option_map_or (λ (n : Net). n.pins) o []) pins) none are in
    none-some first (ap (λ (xs : List ℕ). slice_get xs 0) (sym empty) ∙ e)

-- so the net of islands is there
has_net : (d : Design) (items : List Item) (net : ℕ) (found : List Island) (place : ℕ) (island : Island)
    → AreIslands d items net found → slice_get found place ≡ Some island → HasNet d net
has_net d items net found place island are e = elim (slice_get_cases d.nets net).1 [
  | inl (n, within, there, same) ↦ record { one = n; there = there }
  | inr (behind, none) ↦
      let i = got (IsIsland d items net (pins_of d net)) found are.each place island (sym e) in
      absurd (no_pins d items i.pad net island.pins i.first none i.pins_are i.first_is)
]

module _ (nm : ℕ) (m : Mesh) (via_cost : ℕ) (b : BoardOf) (lines : HasWholeLines nm m)
    (whole : IsWholeDesign b.design nm) where
  -- a shove of a whole item
  shove_whole : (items new : List Item) (id : ℕ) (s : Shoved) → All (IsWholeItem b.design nm) items
      → IsShoveOf b.design m items new id s → IsWholeChain nm s.chain
  shove_whole items new id s all h =
      let f = h.first in
      chain_whole nm m lines (chain_of h.item.metal) f.r f.up s.chain
      (points_of nm h.item.metal (All-contains (IsWholeItem b.design nm) items h.item all h.there))
      f.fits.shove.shoved

  -- shoves of whole items
  shoves_whole : (items new : List Item) (ids : List ℕ) (shoves : List Shoved)
      → All (IsWholeItem b.design nm) items → AllZip (IsShoveOf b.design m items new) ids shoves
      → All (λ (s : Shoved). IsWholeChain nm s.chain) shoves
  shoves_whole items new ids shoves all h = all_from (λ (s : Shoved). IsWholeChain nm s.chain) shoves (λ s there.
      let z = zip_right (IsShoveOf b.design m items new) ids shoves s h there in
      shove_whole items new z.left s all z.holds)

  -- one wire that is moved aside
  moved_whole : (id : ℕ) (o : Offer) → All (IsWholeItem b.design nm) (replayed b o.base)
      → MovesAside m (board_at b o.base) o id → All (λ (s : Shoved). IsWholeChain nm s.chain) o.shoves
  moved_whole id o all moves = subst (All (λ (s : Shoved). IsWholeChain nm s.chain)) (sym moves.shoves_are)
      (All-cons (λ (s : Shoved). IsWholeChain nm s.chain) (record { id = id; chain = moves.chain }) []
      (chain_whole nm m lines (chain_of moves.item.metal) moves.r moves.up moves.chain
      (points_of nm moves.item.metal (All-contains (IsWholeItem b.design nm) (replayed b o.base) moves.item all
      moves.there)) moves.shove.shoved)
      (All-nil (λ (s : Shoved). IsWholeChain nm s.chain)))

  -- a least offer for a board of whole items
  offer_whole : (o : Offer) → IsLeastOffer m via_cost (board_at b o.base) o
      → (o.penalty ≡ None → TakesOne m (board_at b o.base) o) → All (IsWholeItem b.design nm) (replayed b o.base)
      → IsWholeOffer b.design nm o
  offer_whole o least takes all =
      let j = least.joins in
      let net = has_net b.design (replayed b o.base) o.net least.found least.place least.island least.islands
      least.island_is in
      record {
        add_whole = subst (All (IsWholeMetal nm)) (sym j.add_is)
            (copper_whole nm m lines b.design o.net j.walk.nodes j.walk.moves (whole.widths o.net net.one net.there));
        chains_whole = by o.penalty refl least.chooses;
      }
    where
      by : (p : Option ℕ) → o.penalty ≡ p → Chooses m (board_at b o.base) o p
          → All (λ (s : Shoved). IsWholeChain nm s.chain) o.shoves
      by None e h = elim (takes e) [
        | inl none ↦ all_of_none (λ (s : Shoved). IsWholeChain nm s.chain) o.shoves none.no_shove
        | inr one ↦ elim one.1 [
          | inl out ↦ all_of_none (λ (s : Shoved). IsWholeChain nm s.chain) o.shoves out.no_shove
          | inr moves ↦ moved_whole one.0 o all moves
        ]
      ]
      by (Some penalty) e h = elim h.chosen [
        | inl shoves ↦ shoves_whole (replayed b o.base) (added b.design (given (board_at b o.base)) o) h.ids o.shoves
            all shoves.shoves_are
        | inr rips ↦ all_of_none (λ (s : Shoved). IsWholeChain nm s.chain) o.shoves rips.no_shove
      ]

  -- one by moves at 45 degrees
  wide_whole : (o : Offer) → IsWideOffer m via_cost (board_at b o.base) o → IsWholeOffer b.design nm o
  wide_whole o wide =
      let l = wide.laid in
      let j = l.joins in
      let net = has_net b.design (replayed b o.base) o.net l.found l.place l.island l.islands l.island_is in
      record {
        add_whole = subst (All (IsWholeMetal nm)) (sym j.add_is)
            (copper_whole nm m lines b.design o.net j.walk.nodes j.walk.moves (whole.widths o.net net.one net.there));
        chains_whole = all_of_none (λ (s : Shoved). IsWholeChain nm s.chain) o.shoves wide.takes.no_shove;
      }

  -- one of both
  pub join_whole : (diagonal : Bool) (o : Offer) → MayJoin diagonal m via_cost (board_at b o.base) o
      → (o.penalty ≡ None → TakesOne m (board_at b o.base) o) → All (IsWholeItem b.design nm) (replayed b o.base)
      → IsWholeOffer b.design nm o
  join_whole false o least takes all = offer_whole o least takes all
  join_whole true o (inl least) takes all = offer_whole o least takes all
  join_whole true o (inr wide) takes all = wide_whole o wide
