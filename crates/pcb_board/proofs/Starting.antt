-- A start list makes a board.
use Rattle.std.proofs.Common.{◌≡◌, ◌⊎◌, inl, inr, ℕ, ◌≤◌, ◌^◌, zero, suc, Bool, true, true≢false}
use Rattle.std.proofs.Common.{cond, Some, refl, sym, ◌∙◌, ap, subst, List, [], ◌∷◌, ◌++◌, length, get_or}
use Rattle.std.proofs.Common.{arith}
use Rattle.std.specs.Prelude.{All, slice_get}
use Rattle.std.specs.List.{filter}
use Rattle.std.proofs.lemmas.Option.{none-some, same_Some, slice_get-get_or}
use Rattle.std.proofs.lemmas.List.Elements.{All-nil, All-cons, All-head, All-tail, All-map}
use Rattle.pcb_model.specs.declared.item.Item.{Item}
use Rattle.pcb_model.specs.declared.item.Metal.{Metal}
use Rattle.pcb_model.specs.declared.item.Metal.TheVariants.{Wire, Via, Pad, Ban}
use Rattle.pcb_model.specs.declared.design.FreeWire.{FreeWire}
use Rattle.pcb_model.specs.declared.design.Design.{Design}
use Rattle.pcb_model.specs.Pieces.{pieces_of, wire_piece, moved_piece, padstack_pieces}
use Rattle.pcb_model.specs.Board.{IsLegal, IsRouted, is_fixed}
use Rattle.pcb_model.specs.Sound.{IsSound, IsLayerOf, IsFreeSound, IsMetalInRange}
use Rattle.pcb_board.specs.declared.answer.Entry.TheVariants.{Join}
use Rattle.pcb_board.specs.Boards.{Loads, Starts, free_item, given, replayed}
use Rattle.pcb_board.specs.Keeping.{IsBoard, started}
use Rattle.pcb_board.specs.inner.Loading.{IsLoaded}
use Rattle.pcb_model.specs.Copper.{Ascends}
use Rattle.pcb_board.proofs.Order.{given_ascends}
use Rattle.board_offers.specs.Given.{IsGiven, AreGiven}
use Rattle.board_offers.proofs.Lists.{look_cases, found_at, all_from}
use Rattle.board_offers.proofs.Fitting.{stack_layers}

-- ---- the fixed items
abbrev IsFixed : Item → Type 0
IsFixed a = a.fixed ≡ true

kept : (xs : List Item) → All IsFixed xs → filter is_fixed xs ≡ xs
kept [] fixed = refl
kept (x ∷ xs) fixed =
    subst (λ (b : Bool). cond b (x ∷ filter is_fixed xs) (filter is_fixed xs) ≡ x ∷ xs) (sym (fixed 0 x (omega arith)))
    (ap (λ rest. x ∷ rest) (kept xs (λ k d within. fixed (suc k) d (omega (arith, within)))))

not_routed : {P : Type 0} (a : Item) → IsFixed a → IsRouted a → P
not_routed a fixed routed = absurd (true≢false (sym fixed ∙ routed))

neither_routed : {P : Type 0} (a b : Item) → IsFixed a → IsFixed b → IsRouted a ⊎ IsRouted b → P
neither_routed a b first second (inl routed) = not_routed a first routed
neither_routed a b first second (inr routed) = not_routed b second routed

fixed_legal : (d : Design) → All IsFixed d.fixed → IsLegal d d.fixed
fixed_legal d fixed = record {
  made = λ k x within r. not_routed (get_or d.fixed k x) (fixed k x within) r;
  agree = λ i j x before within r. neither_routed (get_or d.fixed i x) (get_or d.fixed j x)
      (fixed i x (omega (arith, before, within))) (fixed j x within) r;
  inside = λ k x within r. not_routed (get_or d.fixed k x) (fixed k x within) r;
  laid = λ k x within r. not_routed (get_or d.fixed k x) (fixed k x within) r;
  fixed_stay = kept d.fixed fixed;
}

-- ---- free items
free_layers : (d : Design) (m : Metal) → IsSound d → IsMetalInRange d m → All (IsLayerOf d) (pieces_of d m)
free_layers d (Wire layer width chain) s range =
    All-cons (IsLayerOf d) (wire_piece layer width chain) [] range (All-nil (IsLayerOf d))
free_layers d (Via padstack at) s range =
    All-map (IsLayerOf d) (moved_piece at) (padstack_pieces d padstack) (stack_layers d padstack s)
free_layers d (Pad pin) s range = All-nil (IsLayerOf d)
free_layers d (Ban wires vias) s range = All-nil (IsLayerOf d)

pub free_given : (d : Design) (items : List Item) (w : FreeWire) → IsSound d → IsFreeSound d w
    → IsGiven d (length items) (free_item d items w)
free_given d items w s f = record {
  numbered = refl;
  fits = record {
    fits = record { pieces_fit = f.pieces_fit };
    metal_fits = f.fits;
    metal_in_range = f.in_range;
    layers_in_range = free_layers d w.metal s f.in_range;
    net_in_range = f.net_in_range;
  };
  made = λ r. record { net = w.net; net_there = f.net_in_range; made = refl };
}

one_place : {X : Type 0} (x y : X) (k : ℕ) → slice_get (x ∷ []) k ≡ Some y → (k ≡ 0) × (x ≡ y)
one_place x y zero e = (refl, same_Some x y e)
one_place x y (suc k) e = absurd (none-some y e)

pub loaded_more : (d : Design) (items : List Item) (w : FreeWire) → IsSound d → IsFreeSound d w → IsLoaded d items
    → IsLegal d (items ++ free_item d items w ∷ []) → IsLoaded d (items ++ free_item d items w ∷ [])
loaded_more d items w s f h legal = record {
  legal = legal;
  given = λ x a at. elim (look_cases items (free_item d items w ∷ []) x a at) [
    | inl left ↦ h.given x a left
    | inr right ↦
        let e = one_place (free_item d items w) a right.place right.there in
        subst (λ (n : ℕ). IsGiven d n a) (let place : length items ≡ x = omega (arith, right.place_is, e.0) in place)
        (subst (IsGiven d (length items)) e.1 (free_given d items w s f))
  ];
}

pub loads_kept : (d : Design) (items : List Item) (ws : List FreeWire) (dropped : List ℕ) (start : List Item)
    → IsSound d → All (IsFreeSound d) ws → IsLoaded d items → Loads d items ws dropped start → IsLoaded d start
loads_kept d items [] dropped start s free h l = subst (IsLoaded d) (sym l.1) h
loads_kept d items (w ∷ ws) dropped start s free h (inl l) =
    loads_kept d (items ++ free_item d items w ∷ []) ws dropped start s (All-tail (IsFreeSound d) w ws free)
    (loaded_more d items w s (All-head (IsFreeSound d) w ws free) h l.0) l.1
loads_kept d items (w ∷ ws) dropped start s free h (inr (refused, others, is, l)) =
    loads_kept d items ws others start s (All-tail (IsFreeSound d) w ws free) h l

pub fixed_loaded : (d : Design) → IsSound d → IsLoaded d d.fixed
fixed_loaded d s = record {
  legal = fixed_legal d (λ k x within. (s.fixed k (get_or d.fixed k x) (slice_get-get_or d.fixed k x within)).fixed);
  given = λ x a at. let f = s.fixed x a at in
      record { numbered = f.numbered; fits = f.item; made = λ r. not_routed a f.fixed r };
}

-- ---- the board of a start list
pub start_board : (d : Design) (dropped : List ℕ) (start : List Item) (cap : ℕ) → IsSound d → cap ≤ 2 ^ 19
    → Starts d dropped start → IsBoard (started d start cap)
start_board d dropped start cap s small starts =
    let h : IsLoaded d start = loads_kept d d.fixed d.free dropped start s s.free (fixed_loaded d s) starts.loads in
    record {
      sound = s;
      formed = λ k o first after at. absurd (none-some (Join o first after) at);
      dropped = dropped;
      starts = starts;
      cap_within = small;
      replays = refl;
      legal = λ n le. legal_at n h.legal;
      ascends = λ n le. ascends_at n (given_ascends d start h.given);
      given_are = h.given;
      from_given = λ n le. found_in n h.given;
    }
  where
    legal_at : (n : ℕ) → IsLegal d start → IsLegal d (replayed (started d start cap) n)
    legal_at zero h = h
    legal_at (suc n) h = h

    ascends_at : (n : ℕ) → Ascends start → Ascends (replayed (started d start cap) n)
    ascends_at zero h = h
    ascends_at (suc n) h = h

    found : AreGiven d start → All (λ (a : Item). slice_get start a.id ≡ Some a) start
    found given = all_from (λ (a : Item). slice_get start a.id ≡ Some a) start
        (λ a there. let f = found_at start a there in
        subst (λ (x : ℕ). slice_get start x ≡ Some a) (sym (given f.place a f.there).numbered) f.there)

    found_in : (n : ℕ) → AreGiven d start
        → All (λ (a : Item). slice_get start a.id ≡ Some a) (replayed (started d start cap) n)
    found_in zero h = found h
    found_in (suc n) h = found h
