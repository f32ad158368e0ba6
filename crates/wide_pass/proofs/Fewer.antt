-- A join by moves at 45 degrees leaves fewer connections open.
use Rattle.std.proofs.Common.{◌≡◌, ◌∙◌, ℕ, ◌<◌, List, [], ◌∷◌, ◌++◌, All, Some, ap, length, sym, subst, arith}
use Rattle.std.specs.Prelude.{Contains, slice_get}
use Rattle.std.proofs.lemmas.List.Elements.{All-nil, All-cons, All-append, All-contains, Contains-get_or}
use Rattle.std.proofs.lemmas.List.Elements.{Contains-append_left, Contains-append_right}
use Rattle.std.proofs.lemmas.Option.{same_Some}
use Rattle.pcb_model.specs.declared.item.Item.{Item}
use Rattle.pcb_model.specs.Board.{AreJoined, LeadsTo}
use Rattle.pcb_model.proofs.Symmetry.{touching_swapped}
use Rattle.pcb_islands.specs.declared.net.Island.{Island}
use Rattle.pcb_islands.specs.Islands.{AreIslands, pins_of}
use Rattle.pcb_islands.proofs.Merging.{no_more_islands}
use Rattle.pcb_islands.proofs.Pads.{net_pins}
use Rattle.route_lattice.specs.Mesh.{Mesh}
use Rattle.board_offers.specs.declared.offer.Offer.{Offer}
use Rattle.board_offers.specs.Items.{added}
use Rattle.board_offers.specs.Offers.{LeadsAcross}
use Rattle.pcb_board.specs.Boards.{BoardOf, given}
use Rattle.pcb_board.specs.Answers.{joined}
use Rattle.pcb_board.specs.Keeping.{IsBoard}
use Rattle.pcb_board.proofs.Standing.{ascends_now, serves_now}
use Rattle.least_offer.specs.Least.{IsWideOffer, MayBeMade, TakesNothing}
use Rattle.closing_pass.specs.OpenCount.{FewerOpen}
use Rattle.closing_pass.proofs.Alike.{still_some}
use Rattle.closing_pass.proofs.Counts.{NoNetMore, HasFallen, counts_fall}
use Rattle.closing_pass.proofs.Fewer.{falls, single}
use Rattle.closing_pass.proofs.Joining.{items_joined}
use Rattle.closing_pass.proofs.Places.{other_place}

-- items of two islands are joined by the new ones
linked : (b : BoardOf) (o : Offer) → IsBoard b → TakesNothing o
    → (f : LeadsAcross (record { design = b.design; given = given b; entries = length b.history }) o)
    → (from to : Item) → Contains b.items from → from.id ≡ o.from → Contains b.items to → to.id ≡ o.to
    → AreJoined (joined b o).items from to
linked b o kept takes across from to from_there from_is to_there to_is =
    let known : (a : Item) → Contains b.items a → slice_get (given b) a.id ≡ Some a =
    λ a there. All-contains (λ (x : Item). slice_get (given b) x.id ≡ Some x) b.items a
    (subst (λ (xs : List Item). All (λ (x : Item). slice_get (given b) x.id ≡ Some x) xs) kept.replays
    (kept.from_given (length b.history) (omega arith))) there in
    let first : across.from ≡ from = same_Some _ _ (sym across.from_is ∙ ap (λ (x : ℕ). slice_get (given b) x)
    (sym from_is) ∙ known from from_there) in
    let last : across.to ≡ to = same_Some _ _ (sym across.to_is ∙ ap (λ (x : ℕ). slice_get (given b) x) (sym to_is) ∙
    known to to_there) in
    let new = added b.design (given b) o in
    let later : (x : Item) → Contains (b.items ++ new) x → Contains (joined b o).items x = λ x h. subst
    (λ (xs : List Item). Contains xs x) (sym (items_joined b o takes)) h in
    record {
      chain = new ++ to ∷ [];
      there = All-append (Contains (joined b o).items) new (to ∷ [])
          (λ k x within. later _ (Contains-append_right b.items new _ (Contains-get_or new k x within)))
          (All-cons (Contains (joined b o).items) to [] (later to (Contains-append_left b.items new to to_there))
          (All-nil (Contains (joined b o).items)));
      leads = subst (λ (p : Item × Item). LeadsTo p.0 (new ++ p.1 ∷ []) p.1) (λ i. (first i, last i)) across.leads;
    }

module _ (m : Mesh) (via_cost : ℕ) (b : BoardOf) (o : Offer) (kept : IsBoard b) (wide : IsWideOffer m via_cost b o)
  where
    -- no item goes
    stays : (x : Item) → Contains b.items x → Contains (joined b o).items x
    stays x there = subst (λ (xs : List Item). Contains xs x) (sym (items_joined b o wide.takes))
        (Contains-append_left b.items (added b.design (given b) o) x there)

    -- the net has fewer islands
    fewer_wide : (found later : List Island) → MayBeMade b o → AreIslands b.design b.items o.net found
        → AreIslands b.design (joined b o).items o.net later → length later < length found
    fewer_wide found later may islands islands_later =
        let laid = wide.laid in
        let same : found ≡ laid.found =
        single b.design b.items o.net found laid.found kept.sound (serves_now b kept) islands laid.islands in
        let joins = laid.joins in
        let from = joins.from_anchored in
        let to = joins.to_anchored in
        let other = other_place laid.found laid.place joins.other joins.other_there in
        subst (λ (xs : List Island). length later < length xs) (sym same)
        (falls b.design b.items (joined b o).items o.net laid.found later kept.sound (serves_now b kept)
        (ascends_now b kept) stays laid.islands islands_later laid.place other.place from.item to.item from.there
        to.there
        (record {
          island = laid.island;
          there = laid.island_is;
          has = subst (λ (x : ℕ). Contains laid.island.items x) (sym from.id_is) from.asked;
        })
        (record {
          island = joins.other;
          there = other.there;
          has = subst (λ (x : ℕ). Contains joins.other.items x) (sym to.id_is) to.asked;
        })
        other.other (λ none. none (linked b o kept wide.takes may.formed.across from.item to.item from.there
        from.id_is to.there to.id_is)))

    -- and no net has more
    none_more : NoNetMore b.design b.items (joined b o).items
    none_more net was is was_are is_are = no_more_islands b.design b.items (joined b o).items net kept.sound
        (serves_now b kept) touching_swapped stays (pins_of b.design net) (net_pins b.design net kept.sound).0 was is
        was_are is_are

    pub fewer_open : o.net < length b.design.nets → MayBeMade b o → FewerOpen b (joined b o)
    fewer_open there may n k old new =
        let fallen : HasFallen b.design b.items (joined b o).items o.net = record {
          there = there;
          fewer = λ was is was_are is_are.
              let less = fewer_wide was is may was_are is_are in (
                less,
                still_some b.design b.items (joined b o).items o.net was is was_are is_are
                    (omega (arith, less)),
              );
        } in
        counts_fall b.design b.items (joined b o).items n k old new none_more o.net fallen
