-- The routed items of a board are wires and vias.
use Rattle.std.proofs.Common.{◌≡◌, ◌∙◌, inl, inr, ℕ, zero, suc, ◌+◌, List, [], ◌∷◌, ◌++◌, Option, None, Some}
use Rattle.std.proofs.Common.{true}
use Rattle.std.proofs.Common.{ap, arith, false, length, refl, subst, sym, take}
use Rattle.std.specs.Prelude.{All, slice_get}
use Rattle.std.specs.Option.{IsSomeAnd}
use Rattle.std.proofs.lemmas.List.{take_all}
use Rattle.std.proofs.lemmas.List.Elements.{All-append, All-cons, All-contains, All-head, All-nil, All-tail}
use Rattle.std.proofs.lemmas.List.Elements.{All-weaker}
use Rattle.std.proofs.lemmas.Option.{same_Some, slice_get-get_or, slice_get_cases, slice_get_within}
use Rattle.geo_kernel.specs.declared.point.Point.{Point}
use Rattle.pcb_model.specs.declared.item.Item.{Item}
use Rattle.pcb_model.specs.declared.item.Metal.{Metal}
use Rattle.pcb_model.specs.declared.item.Metal.TheVariants.{Wire, Via, Pad, Ban}
use Rattle.pcb_model.specs.declared.design.FreeWire.{FreeWire}
use Rattle.pcb_model.specs.declared.design.Design.{Design}
use Rattle.pcb_model.specs.Board.{IsRouted}
use Rattle.pcb_model.specs.Sound.{IsCopper, IsFreeSound}
use Rattle.board_offers.specs.declared.offer.Offer.{Offer}
use Rattle.board_offers.specs.declared.offer.Shoved.{Shoved}
use Rattle.board_offers.specs.Items.{item_at, new_items, no_item, with_chain}
use Rattle.board_offers.specs.Offers.{IsAddable, IsShovable, IsWellFormed, IsWire, Known}
use Rattle.board_offers.proofs.Lists.{got}
use Rattle.pcb_board.specs.declared.answer.Entry.{Entry}
use Rattle.pcb_board.specs.declared.answer.Entry.TheVariants.{Join, Back}
use Rattle.pcb_board.specs.Answers.{known}
use Rattle.pcb_board.specs.Boards.{BoardOf, Loads, Past, board_at, free_item, given, next, past}
use Rattle.pcb_board.specs.Keeping.{IsBoard}
use Rattle.pcb_board.proofs.Past.{past_more, taken_one}
use Rattle.session_law.specs.Told.{is_copper}
use Rattle.session_law.proofs.ScaleGiven.{all_new}

-- a wire or a via, where it is routed
pub record IsWiring (a : Item) : Type 0 where
  pub copper : IsRouted a → is_copper a.metal ≡ true

-- free wiring is
free_copper : (m : Metal) → IsCopper m → is_copper m ≡ true
free_copper (Wire layer width chain) h = refl
free_copper (Via padstack at) h = refl
free_copper (Pad pin) h = absurd h
free_copper (Ban wires vias) h = absurd h

-- so is what offers may add
added_copper : (d : Design) (net : ℕ) (m : Metal) → IsAddable d net m → is_copper m ≡ true
added_copper d net (Wire layer width chain) h = refl
added_copper d net (Via padstack at) h = refl
added_copper d net (Pad pin) h = absurd h
added_copper d net (Ban wires vias) h = absurd h

-- and a wire with another chain
shoved_copper : (points : List Point) (m : Metal) → IsWire m → is_copper (with_chain points m) ≡ true
shoved_copper points (Wire layer width chain) h = refl
shoved_copper points (Via padstack at) h = absurd h
shoved_copper points (Pad pin) h = absurd h
shoved_copper points (Ban wires vias) h = absurd h

-- that of a shove
shove_copper : (k : Known) (o : Offer) (s : Shoved) (item : Option Item) → slice_get k.given s.id ≡ item
    → IsSomeAnd item (IsShovable k o s) → is_copper (with_chain s.chain (item_at k.given s.id).metal) ≡ true
shove_copper k o s None at h = absurd h
shove_copper k o s (Some a) at h =
    let own : item_at k.given s.id ≡ a = same_Some (item_at k.given s.id) a
    (sym (slice_get-get_or k.given s.id no_item (slice_get_within k.given s.id a at)) ∙ at) in
    subst (λ (b : Item). is_copper (with_chain s.chain b.metal) ≡ true) (sym own)
    (shoved_copper s.chain a.metal h.wire)

-- all that a well-formed offer makes
new_copper : (k : Known) (o : Offer) → IsWellFormed k o
    → All (λ (a : Item). is_copper a.metal ≡ true) (new_items k.design k.given o)
new_copper k o formed = all_new k.design (λ (m : Metal). is_copper m ≡ true) k.given o
    (All-weaker (IsAddable k.design o.net) (λ (m : Metal). is_copper m ≡ true)
    (λ m h. added_copper k.design o.net m h) o.add formed.metals.each)
    (λ s there. shove_copper k o s (slice_get k.given s.id) refl
    (All-contains (λ (t : Shoved). IsSomeAnd (slice_get k.given t.id) (IsShovable k o t)) o.shoves s
    formed.shoves.each there))

module _ (b : BoardOf) (board : IsBoard b) where
  -- ---- the start
  -- free wiring that is kept
  loaded : (items : List Item) (ws : List FreeWire) (dropped : List ℕ) (start : List Item) → All IsWiring items
      → All (IsFreeSound b.design) ws → Loads b.design items ws dropped start → All IsWiring start
  loaded items [] dropped start h free l = subst (All IsWiring) (sym l.1) h
  loaded items (w ∷ ws) dropped start h free (inl l) =
      loaded (items ++ free_item b.design items w ∷ []) ws dropped start
      (All-append IsWiring items (free_item b.design items w ∷ []) h
      (All-cons IsWiring (free_item b.design items w) []
      (record { copper = λ r. free_copper w.metal (All-head (IsFreeSound b.design) w ws free).copper })
      (All-nil IsWiring)))
      (All-tail (IsFreeSound b.design) w ws free) l.1
  loaded items (w ∷ ws) dropped start h free (inr (refused, others, is, l)) =
      loaded items ws others start h (All-tail (IsFreeSound b.design) w ws free) l

  -- fixed items aren't routed
  fixed_wiring : All IsWiring b.design.fixed
  fixed_wiring = λ i x within.
      let one = board.sound.fixed i _ (slice_get-get_or b.design.fixed i x within) in
      record { copper = λ r. let no : true ≡ false = sym one.fixed ∙ r in cc }

  -- ---- entry by entry
  -- what the first n entries make
  abbrev at : ℕ → Past
  at n = past b.design b.start (take n b.history)

  -- what an entry gives
  next_wiring : (k : ℕ) (e : Entry) → slice_get b.history k ≡ Some e → All IsWiring (at k).given
      → All IsWiring (next b.design (at k) e).given
  next_wiring k (Join o first after) there h =
      All-append IsWiring (at k).given (new_items b.design (at k).given o) h
      (All-weaker (λ (a : Item). is_copper a.metal ≡ true) IsWiring (λ a c. record { copper = λ r. c })
      (new_items b.design (at k).given o)
      (new_copper (known (board_at b k)) o (board.formed k o first after there)))
  next_wiring k (Back to) there h = All-append IsWiring (at k).given [] h (All-nil IsWiring)

  -- with one entry more
  one_more : (k : ℕ) → All IsWiring (at k).given → All IsWiring (at (k + 1)).given
  one_more k h = elim (slice_get_cases b.history k).1 [
    | inl (e, within, there, same) ↦ subst (λ (p : Past). All IsWiring p.given)
        (sym (ap (past b.design b.start) (taken_one b.history k e there)
        ∙ past_more b.design b.start (take k b.history) e)) (next_wiring k e there h)
    | inr (behind, none) ↦ subst (λ (p : Past). All IsWiring p.given)
        (ap (past b.design b.start) (take_all k b.history behind
        ∙ sym (take_all (k + 1) b.history (omega (arith, behind))))) h
  ]

  -- after each number of entries
  each_wiring : (n : ℕ) → All IsWiring (at n).given
  each_wiring zero = loaded b.design.fixed b.design.free board.dropped b.start fixed_wiring board.sound.free
      board.starts.loads
  each_wiring (suc k) = subst (λ (n : ℕ). All IsWiring (at n).given)
      (let e : k + 1 ≡ suc k = omega arith in e) (one_more k (each_wiring k))

  -- all that were ever given
  given_wiring : All IsWiring (given b)
  given_wiring = subst (λ (es : List Entry). All IsWiring (past b.design b.start es).given)
      (take_all (length b.history) b.history (omega arith)) (each_wiring (length b.history))

  -- those on the board
  pub routed_wiring : All IsWiring b.items
  routed_wiring = All-weaker (λ (a : Item). slice_get (given b) a.id ≡ Some a) IsWiring
      (λ a there. got IsWiring (given b) given_wiring a.id a (sym there)) b.items
      (subst (All (λ (a : Item). slice_get (given b) a.id ≡ Some a)) board.replays
      (board.from_given (length b.history) (omega arith)))
