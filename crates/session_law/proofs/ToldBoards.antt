-- A board's items are the fixed ones and behind them the routed ones.
use Rattle.std.proofs.Common.{◌≡◌, inl, inr, ℕ, ◌<◌, ◌≤◌, Bool, true, false, cond, not, List, [], ◌∷◌, ◌++◌, length}
use Rattle.std.proofs.Common.{get_or, map, ap, sym, ◌∙◌, refl, subst, arith}
use Rattle.std.specs.Prelude.{All, Contains, filter, slice_get, Some}
use Rattle.std.specs.List.{AllZip}
use Rattle.std.proofs.lemmas.Bool.{both_ways, cases_Bool, cases_lt, and_right}
use Rattle.std.proofs.lemmas.Option.{same_Some, slice_get_within, slice_get-get_or}
use Rattle.std.proofs.lemmas.List.Elements.{All-head, All-tail, All-cons, All-filter, All-contains, Contains-get_or}
use Rattle.board_offers.proofs.Lists.{all_front, pairs_rest, all_from, stayed, passes, not_true, filtered_twice}
use Rattle.board_offers.proofs.Lists.{none_pass, found_at}
use Rattle.pcb_model.specs.declared.item.Item.{Item}
use Rattle.pcb_model.specs.declared.item.Metal.{Metal}
use Rattle.pcb_model.specs.declared.design.Design.{Design}
use Rattle.pcb_model.specs.Board.{is_fixed, IsRouted}
use Rattle.pcb_model.specs.Copper.{Ascends}
use Rattle.pcb_model.specs.Scale.{scale_of}
use Rattle.pcb_model.specs.Sound.{IsItemOf, Serves}
use Rattle.pcb_board.proofs.Order.{kept_there}
use Rattle.pcb_board.specs.Boards.{BoardOf, given}
use Rattle.pcb_board.specs.Keeping.{IsBoard}
use Rattle.ses_writer.specs.Session.{session_of, is_of_net}
use Rattle.session_law.specs.Told.{AreRoutedOf, HaveSameCopper, AreAlike, IsOnScale, is_routed_of, is_whole_copper}
use Rattle.session_law.specs.Told.{routed_copper, is_copper}
use Rattle.session_law.proofs.ToldWhole.{sessions_tell}

-- not fixed
abbrev pub is_routed : Item → Bool
is_routed a = not a.fixed

-- ---- fixed before routed
-- where all are routed
all_routed : (items : List Item) → All IsRouted items → items ≡ filter is_fixed items ++ filter is_routed items
all_routed [] h = refl
all_routed (a ∷ items) h = by a.fixed (All-head IsRouted a items h) (all_routed items (All-tail IsRouted a items h))
    (none_pass is_fixed items (All-tail IsRouted a items h))
  where
    by : (b : Bool) → b ≡ false → items ≡ filter is_fixed items ++ filter is_routed items → filter is_fixed items ≡ []
        → a ∷ items ≡ cond b (a ∷ filter is_fixed items) (filter is_fixed items)
        ++ cond (not b) (a ∷ filter is_routed items) (filter is_routed items)
    by true e rest none = absurd (cc)
    by false e rest none = ap (λ (xs : List Item). a ∷ xs)
        (rest ∙ ap (λ (xs : List Item). xs ++ filter is_routed items) none)
        ∙ ap (λ (xs : List Item). xs ++ a ∷ filter is_routed items) (sym none)

-- where the ids of the fixed items are below n and those of the others aren't
fixed_first : (n : ℕ) (items : List Item) → Ascends items → All (λ (a : Item). a.fixed ≡ true → a.id < n) items
    → All (λ (a : Item). IsRouted a → n ≤ a.id) items → items ≡ filter is_fixed items ++ filter is_routed items
fixed_first n [] up low high = refl
fixed_first n (a ∷ items) up low high = by a.fixed refl
    (fixed_first n items (pairs_rest (λ (x y : Item). x.id < y.id) a items up)
    (All-tail (λ (x : Item). x.fixed ≡ true → x.id < n) a items low)
    (All-tail (λ (x : Item). IsRouted x → n ≤ x.id) a items high))
  where
    by : (b : Bool) → a.fixed ≡ b → items ≡ filter is_fixed items ++ filter is_routed items
        → a ∷ items ≡ cond b (a ∷ filter is_fixed items) (filter is_fixed items)
        ++ cond (not b) (a ∷ filter is_routed items) (filter is_routed items)
    by true e rest = ap (λ (xs : List Item). a ∷ xs) rest
    by false e rest =
        let from : n ≤ a.id = All-head (λ (x : Item). IsRouted x → n ≤ x.id) a items high e in
        subst (λ (t : Bool). a ∷ items ≡ cond t (a ∷ filter is_fixed items) (filter is_fixed items)
        ++ cond (not t) (a ∷ filter is_routed items) (filter is_routed items)) e
        (all_routed (a ∷ items) (All-cons IsRouted a items e
        (λ k d within. elim (cases_Bool (get_or items k d).fixed) [
          | inl fixed ↦ absurd (omega (
            arith,
            from,
            All-tail (λ (x : Item). x.fixed ≡ true → x.id < n) a items low k d within fixed,
            all_front (λ (x y : Item). x.id < y.id) a items up k d within,
          ))
          | inr routed ↦ routed
        ])))

-- ---- a board's items
module _ (b : BoardOf) (board : IsBoard b) (fixed_there : filter is_fixed b.items ≡ b.design.fixed)
    (up : Ascends b.items) where
  -- an item stands at its id among those ever given
  found : (a : Item) → Contains b.items a → slice_get (given b) a.id ≡ Some a
  found a there = All-contains (λ (x : Item). slice_get (given b) x.id ≡ Some x) b.items a
      (subst (λ (xs : List Item). All (λ (x : Item). slice_get (given b) x.id ≡ Some x) xs) board.replays
      (board.from_given (length b.history) (omega arith))) there

  -- a fixed item's id is its place among the design's
  fixed_low : (a : Item) → Contains b.items a → a.fixed ≡ true → a.id < length b.design.fixed
  fixed_low a there e =
      let f = found_at b.design.fixed a (subst (λ (xs : List Item). Contains xs a) fixed_there
      (kept_there is_fixed b.items a there e)) in
      subst (λ (n : ℕ). n < length b.design.fixed) (sym (board.sound.fixed f.place a f.there).numbered)
      (slice_get_within b.design.fixed f.place a f.there)

  -- so no routed item has such an id
  routed_high : (a : Item) → Contains b.items a → IsRouted a → length b.design.fixed ≤ a.id
  routed_high a there e = elim (cases_lt a.id (length b.design.fixed)) [
    | inr high ↦ high
    | inl low ↦
        let f = get_or b.design.fixed a.id a in
        let at : slice_get b.design.fixed a.id ≡ Some f = slice_get-get_or b.design.fixed a.id a low in
        let sound = board.sound.fixed a.id f at in
        let on_board : Contains b.items f = stayed is_fixed b.items f
        (subst (λ (xs : List Item). Contains xs f) (sym fixed_there)
        (Contains-get_or b.design.fixed a.id a low)) in
        let same : f ≡ a = same_Some f a (sym (subst (λ (n : ℕ). slice_get (given b) n ≡ Some f) sound.numbered
        (found f on_board)) ∙ found a there) in
        absurd (both_ways a.fixed e (sym (ap (λ (x : Item). x.fixed) same) ∙ sound.fixed))
  ]

  -- the design's fixed items, and behind them the routed ones
  pub items_are : b.items ≡ b.design.fixed ++ filter is_routed b.items
  items_are = fixed_first (length b.design.fixed) b.items up
      (all_from (λ (a : Item). a.fixed ≡ true → a.id < length b.design.fixed) b.items fixed_low)
      (all_from (λ (a : Item). IsRouted a → length b.design.fixed ≤ a.id) b.items routed_high)
      ∙ ap (λ (xs : List Item). xs ++ filter is_routed b.items) fixed_there

  -- the routed ones are routed items of the design, on scale
  pub routed_of : All (IsItemOf b.design) b.items → IsOnScale (scale_of b.design).nm b.items
      → AreRoutedOf b.design (filter is_routed b.items)
  routed_of fit scale = record {
    routed = all_from IsRouted (filter is_routed b.items)
        (λ a there. not_true a.fixed (passes is_routed b.items a there));
    items_fit = All-filter is_routed (IsItemOf b.design) b.items fit;
    on_scale = All-filter is_routed (λ (a : Item). IsRouted a → is_whole_copper (scale_of b.design).nm a.metal ≡ true)
        b.items scale;
  }

-- the routed copper is that of the routed items
copper_of_routed : (net : ℕ) (items : List Item) → routed_copper net (filter is_routed items) ≡ routed_copper net items
copper_of_routed net items = ap (λ (xs : List Item). filter is_copper (map (λ (a : Item). a.metal) xs))
    (filtered_twice is_routed (is_routed_of net) items
    (λ k a within e. and_right (is_of_net net (get_or items k a)) (not (get_or items k a).fixed) e))

-- boards of one design with the same bytes of their sessions have the same routed copper
pub boards_tell : (b c : BoardOf) (omit : Bool) → IsBoard b → IsBoard c → Ascends b.items → Ascends c.items
    → Serves b.items b.design → Serves c.items c.design → b.design ≡ c.design
    → IsOnScale (scale_of b.design).nm b.items → IsOnScale (scale_of c.design).nm c.items
    → session_of b.design b.items omit ≡ session_of c.design c.items omit → HaveSameCopper b.design b.items c.items
boards_tell b c omit board other up up_too serves serve_too one scale scale_too same =
    let first = filter is_routed b.items in
    let second = filter is_routed c.items in
    let bytes : session_of b.design (b.design.fixed ++ first) omit
    ≡ session_of b.design (b.design.fixed ++ second) omit =
    sym (ap (λ (xs : List Item). session_of b.design xs omit) (items_are b board serves.fixed_there up)) ∙ same
    ∙ ap (λ (xs : List Item). session_of c.design xs omit) (items_are c other serve_too.fixed_there up_too)
    ∙ ap (λ (d : Design). session_of d (d.fixed ++ second) omit) (sym one) in
    let told = sessions_tell b.design b.design.fixed first second omit board.sound.distinct_names
    board.sound.printable_names
    (routed_of b board serves.fixed_there up serves.items_fit scale)
    (subst (λ (d : Design). AreRoutedOf d second) (sym one)
    (routed_of c other serve_too.fixed_there up_too serve_too.items_fit scale_too)) bytes in
    record {
      each = λ net within. subst (λ (xs : List Metal). AllZip AreAlike xs (routed_copper net c.items))
          (copper_of_routed net b.items)
          (subst (λ (xs : List Metal). AllZip AreAlike (routed_copper net first) xs) (copper_of_routed net c.items)
          (told.each net within));
    }
