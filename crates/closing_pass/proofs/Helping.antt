-- A settled move that helps: fewer connections are open afterwards.
use Rattle.std.proofs.Common.{◌≡◌, ◌≢◌, ℕ, ◌<◌, List, [], ◌∷◌, ◌++◌, length, Some, refl, sym, ap, ◌∙◌}
use Rattle.std.proofs.Common.{subst, inl, inr, true, false, true≢false, ◌==◌, Bool, All, get_or}
use Rattle.std.specs.Prelude.{Contains, not, ◌||◌}
use Rattle.std.proofs.lemmas.Bool.{eqb-true}
use Rattle.std.proofs.lemmas.List.Kept.{AllPairs-filter}
use Rattle.std.proofs.lemmas.List.Elements.{All-contains, All-filter, Contains-append_left, Contains-get_or}
use Rattle.std.proofs.lemmas.List.Elements.{Contains-append_cases}
use Rattle.pcb_model.specs.declared.item.Item.{Item}
use Rattle.pcb_model.specs.Copper.{Ascends}
use Rattle.pcb_model.specs.Board.{is_fixed}
use Rattle.pcb_model.specs.Sound.{IsItemOf, Serves}
use Rattle.pcb_islands.proofs.Joined.{one_item}
use Rattle.board_offers.specs.declared.offer.Offer.{Offer}
use Rattle.board_offers.specs.Items.{names, without, gone, added, replaced, new_items}
use Rattle.board_offers.proofs.Lists.{filtered_twice, stayed}
use Rattle.pcb_board.specs.Boards.{BoardOf, given}
use Rattle.pcb_board.specs.Answers.{joined}
use Rattle.closing_pass.specs.inner.Steps.{GrowsBy}
use Rattle.closing_pass.proofs.Alike.{HasOwn}
use Rattle.closing_pass.proofs.Closings.{some_same}
use Rattle.closing_pass.proofs.Gate.{stays}
use Rattle.closing_pass.proofs.Joining.{own_added}

-- ---- an offer that takes out or moves aside one item of a net
module _ (b : BoardOf) (o : Offer) (x : Item) (n : ℕ) (up : Ascends b.items) (there : Contains b.items x)
    (net_is : x.net ≡ Some n) (gone_is : gone o ≡ x.id ∷ [])
    (own : All (λ (a : Item). a.net ≡ Some n) (replaced b.design (given b) o)) where
  abbrev rest : List Item
  rest = without (x.id ∷ []) b.items

  abbrev come : List Item
  come = new_items b.design (given b) o

  pub joined_is : (joined b o).items ≡ rest ++ come
  joined_is = ap (λ (ids : List ℕ). without ids b.items ++ come) gone_is

  -- items of other nets stay
  pub rest_over : (k : ℕ) → k ≢ n → HasOwn b.items rest k
  rest_over k apart a of_net h = stays x.id b.items a h (λ same.
      let one : a ≡ x = one_item b.items up a x h there same in
      apart (some_same k n (sym of_net ∙ ap (λ (y : Item). y.net) one ∙ net_is)))

  pub rest_back : (k : ℕ) → HasOwn rest b.items k
  rest_back k a of_net h = stayed (λ (y : Item). not (names (x.id ∷ []) y.id)) b.items a h

  pub joined_over : (k : ℕ) → k ≢ n → HasOwn b.items (joined b o).items k
  joined_over k apart a of_net h = subst (λ (xs : List Item). Contains xs a) (sym joined_is)
      (Contains-append_left rest come a (rest_over k apart a of_net h))

  pub joined_back : (k : ℕ) → k ≢ n → k ≢ o.net → HasOwn (joined b o).items b.items k
  joined_back k apart other a of_net h =
      elim (Contains-append_cases rest come a (subst (λ (xs : List Item). Contains xs a) joined_is h)) [
        | inl old ↦ rest_back k a of_net old
        | inr new ↦
            elim (Contains-append_cases (added b.design (given b) o) (replaced b.design (given b) o) a new) [
              | inl of_offer ↦ absurd (other (some_same k o.net (sym of_net
                  ∙ All-contains (λ (y : Item). y.net ≡ Some o.net) (added b.design (given b) o) a
                  (own_added b.design o.net (length (given b)) o.add) of_offer)))
              | inr moved ↦ absurd (apart (some_same k n (sym of_net
                  ∙ All-contains (λ (y : Item). y.net ≡ Some n) (replaced b.design (given b) o) a own moved)))
            ]
      ]

-- ---- further items of a net
module _ (b c : BoardOf) (n : ℕ) (grows : GrowsBy n b c) where
  pub grown_over : (k : ℕ) → HasOwn b.items c.items k
  grown_over k a of_net h = subst (λ (xs : List Item). Contains xs a) (sym grows.items_are)
      (Contains-append_left b.items grows.added a h)

  pub grown_back : (k : ℕ) → k ≢ n → HasOwn c.items b.items k
  grown_back k apart a of_net h =
      elim (Contains-append_cases b.items grows.added a (subst (λ (xs : List Item). Contains xs a) grows.items_are h)) [
        | inl old ↦ old
        | inr new ↦ absurd (apart (some_same k n (sym of_net
            ∙ All-contains (λ (y : Item). y.net ≡ Some n) grows.added a grows.own new)))
      ]

-- ---- the copper that stays
abbrev keeps : Item → Item → Bool
keeps x a = not (names (x.id ∷ []) a.id)

-- what isn't kept is the item
gone_is_one : (items : List Item) (x a : Item) → Ascends items → Contains items x → Contains items a
    → keeps x a ≡ false → a ≡ x
gone_is_one items x a up there h off = by (x.id == a.id) refl
  where
    by : (t : Bool) → (x.id == a.id) ≡ t → a ≡ x
    by true e = one_item items up a x h there (sym (eqb-true x.id a.id e))
    by false e = absurd (true≢false (sym (ap (λ (t : Bool). not (t || false)) e) ∙ off))

module _ (b : BoardOf) (x : Item) (up : Ascends b.items) (there : Contains b.items x) (routed : x.fixed ≡ false)
    (serves : Serves b.items b.design) where
  -- the design's fixed items stay
  pub rest_serves : Serves (without (x.id ∷ []) b.items) b.design
  rest_serves = record {
    design_fits = serves.design_fits;
    fixed_there = filtered_twice (keeps x) is_fixed b.items
        (λ k y within off. ap (λ (a : Item). a.fixed) (gone_is_one b.items x (get_or b.items k y) up there
        (Contains-get_or b.items k y within) off) ∙ routed) ∙ serves.fixed_there;
    items_fit = All-filter (keeps x) (IsItemOf b.design) b.items serves.items_fit;
  }

  pub rest_up : Ascends (without (x.id ∷ []) b.items)
  rest_up = AllPairs-filter (λ (a c : Item). a.id < c.id) (keeps x) b.items up
