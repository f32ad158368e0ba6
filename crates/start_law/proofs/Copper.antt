-- The routed copper of the board of a session that was read back is that of the board that it was written from.
use Rattle.std.proofs.Common.{◌≡◌, ◌≢◌, inl, inr, ℕ, ◌+◌, ◌==◌, ◌&&◌, Bool, true, false, true≢false, cond, not}
use Rattle.std.proofs.Common.{List, [], ◌∷◌, ◌++◌, Option, Some, None, refl, sym, ap, ◌∙◌, subst, map, filter}
use Rattle.std.proofs.Common.{reverse, eqb-true, eq-eqb, All}
use Rattle.std.specs.Prelude.{Contains, if◌then◌else◌}
use Rattle.std.specs.List.{AllZip}
use Rattle.std.specs.Option.{option_map_or}
use Rattle.std.proofs.lemmas.List.{append-nil, reverse-reverse}
use Rattle.std.proofs.lemmas.List.Elements.{All-contains, All-head, All-tail}
use Rattle.geo_kernel.specs.declared.point.Point.{Point}
use Rattle.pcb_model.specs.declared.item.Metal.{Metal}
use Rattle.pcb_model.specs.declared.item.Metal.TheVariants.{Wire, Via, Pad, Ban}
use Rattle.pcb_model.specs.declared.item.Item.{Item}
use Rattle.pcb_model.specs.declared.design.Design.{Design}
use Rattle.pcb_model.specs.Pieces.{item_of}
use Rattle.pcb_model.specs.Board.{IsRouted}
use Rattle.pcb_islands.proofs.Elements.{in_none, in_cons}
use Rattle.ses_writer.specs.Words.{is_lesser}
use Rattle.ses_reader.specs.declared.item.SesItem.{SesItem}
use Rattle.route_check.specs.Board.{is_net, numbered}
use Rattle.session_law.specs.Told.{AreAlike, is_copper, is_routed_of, routed_copper}
use Rattle.session_law.specs.Back.{printed_metal, told}
use Rattle.check_law.proofs.Taken.{AreFresh, part, wiring}

abbrev metal_of : Item → Metal
metal_of a = a.metal

-- the metals of a net in a list of wiring, in order
abbrev pub metals_of : ℕ → List (ℕ × Metal) → List Metal
metals_of n [] = []
metals_of n (w ∷ ws) = if w.0 == n then w.1 ∷ metals_of n ws else metals_of n ws

-- ---- fixed items count for nothing
with_fixed : (n : ℕ) (fixed items : List Item) → All (λ (a : Item). a.fixed ≡ true) fixed
    → filter (is_routed_of n) (fixed ++ items) ≡ filter (is_routed_of n) items
with_fixed n [] items h = refl
with_fixed n (a ∷ fixed) items h =
    by (option_map_or (λ (k : ℕ). k == n) a.net false) a.fixed (All-head (λ (x : Item). x.fixed ≡ true) a fixed h)
    ∙ with_fixed n fixed items (All-tail (λ (x : Item). x.fixed ≡ true) a fixed h)
  where
    by : (b f : Bool) → f ≡ true
        → cond (b && not f) (a ∷ filter (is_routed_of n) (fixed ++ items)) (filter (is_routed_of n) (fixed ++ items))
        ≡ filter (is_routed_of n) (fixed ++ items)
    by true true e = refl
    by true false e = absurd (true≢false (sym e))
    by false f e = refl

pub copper_behind : (n : ℕ) (fixed items : List Item) → All (λ (a : Item). a.fixed ≡ true) fixed
    → routed_copper n (fixed ++ items) ≡ routed_copper n items
copper_behind n fixed items h =
    ap (λ (xs : List Item). filter is_copper (map metal_of xs)) (with_fixed n fixed items h)

-- ---- the session's items
pub numbered_copper : (d : Design) (n id : ℕ) (xs : List SesItem)
    → routed_copper n (numbered d id xs) ≡ filter is_copper (metals_of n (map told xs))
numbered_copper d n id [] = refl
numbered_copper d n id (x ∷ xs) = by (x.net == n) (numbered_copper d n (id + 1) xs)
  where
    by : (b : Bool) → routed_copper n (numbered d (id + 1) xs) ≡ filter is_copper (metals_of n (map told xs))
        → filter is_copper (map metal_of (cond (b && true) (item_of d id (Some x.net) false x.metal
        ∷ filter (is_routed_of n) (numbered d (id + 1) xs)) (filter (is_routed_of n) (numbered d (id + 1) xs))))
        ≡ filter is_copper (if b then x.metal ∷ metals_of n (map told xs) else metals_of n (map told xs))
    by true h = ap (λ (ms : List Metal). cond (is_copper x.metal) (x.metal ∷ ms) ms) h
    by false h = h

-- ---- the wiring of one net among that of all
metals_append : (n : ℕ) (us ws : List (ℕ × Metal)) → metals_of n (us ++ ws) ≡ metals_of n us ++ metals_of n ws
metals_append n [] ws = refl
metals_append n (u ∷ us) ws = by (u.0 == n) (metals_append n us ws)
  where
    by : (b : Bool) → metals_of n (us ++ ws) ≡ metals_of n us ++ metals_of n ws
        → (if b then u.1 ∷ metals_of n (us ++ ws) else metals_of n (us ++ ws))
        ≡ (if b then u.1 ∷ metals_of n us else metals_of n us) ++ metals_of n ws
    by true h = ap (λ (ms : List Metal). u.1 ∷ ms) h
    by false h = h

other_part : (n j : ℕ) (items : List Item) → (j == n) ≡ false → metals_of n (part j items) ≡ []
other_part n j [] e = refl
other_part n j (a ∷ items) e = by (is_net a.net j && is_copper a.metal) (other_part n j items e)
  where
    by : (b : Bool) → metals_of n (part j items) ≡ []
        → metals_of n ((if b then (j, printed_metal a.metal) ∷ [] else []) ++ part j items) ≡ []
    by true rest =
        ap (λ (c : Bool). if c then printed_metal a.metal ∷ metals_of n (part j items) else metals_of n (part j items))
        e ∙ rest
    by false rest = rest

apart : (j n : ℕ) → j ≢ n → (j == n) ≡ false
apart j n h = by (j == n) refl
  where
    by : (b : Bool) → (j == n) ≡ b → (j == n) ≡ false
    by true e = absurd (h (eqb-true j n e))
    by false e = e

other_parts : (n : ℕ) (ns : List ℕ) (items : List Item) → All (λ (j : ℕ). n ≢ j) ns
    → metals_of n (wiring ns items) ≡ []
other_parts n [] items h = refl
other_parts n (j ∷ ns) items h =
    metals_append n (part j items) (wiring ns items)
    ∙ ap (λ (ms : List Metal). ms ++ metals_of n (wiring ns items))
    (other_part n j items (apart j n (λ e. All-head (λ (i : ℕ). n ≢ i) j ns h (sym e))))
    ∙ other_parts n ns items (All-tail (λ (i : ℕ). n ≢ i) j ns h)

pub own_part : (n : ℕ) (ns : List ℕ) (items : List Item) → AreFresh ns → Contains ns n
    → metals_of n (wiring ns items) ≡ metals_of n (part n items)
own_part n [] items fresh there = absurd (in_none n there)
own_part n (j ∷ ns) items fresh there = elim (in_cons j n ns there) [
  | inl same ↦
      metals_append n (part j items) (wiring ns items)
      ∙ ap (λ (ms : List Metal). metals_of n (part j items) ++ ms)
      (other_parts n ns items (subst (λ (i : ℕ). All (λ (k : ℕ). i ≢ k) ns) same fresh.0))
      ∙ append-nil (metals_of n (part j items))
      ∙ ap (λ (i : ℕ). metals_of n (part i items)) same
  | inr more ↦
      metals_append n (part j items) (wiring ns items)
      ∙ ap (λ (ms : List Metal). ms ++ metals_of n (wiring ns items))
      (other_part n j items (apart j n (All-contains (λ (k : ℕ). j ≢ k) ns n fresh.0 more)))
      ∙ own_part n ns items fresh.1 more
]

-- ---- routed items and what they print
alike_directed : (l w : ℕ) (c : List Point) (b : Bool) → AreAlike (Wire l w c) (Wire l w (if b then reverse c else c))
alike_directed l w c true = inr (ap (λ (e : List Point). Wire l w e) (sym (reverse-reverse c)))
alike_directed l w c false = inl refl

alike_printed : (m : Metal) → AreAlike m (printed_metal m)
alike_printed (Wire l w c) = alike_directed l w c (is_lesser (reverse c) c)
alike_printed (Via p at) = inl refl
alike_printed (Pad p) = inl refl
alike_printed (Ban w v) = inl refl

-- with a metal more, if it is copper
abbrev with_metal : Metal → List Metal → List Metal
with_metal m ms = cond (is_copper m) (m ∷ ms) ms

alike_more : (m : Metal) (ms ns : List Metal) → AllZip AreAlike ms ns
    → AllZip AreAlike (with_metal m ms) (with_metal (printed_metal m) ns)
alike_more (Wire l w c) ms ns h = (alike_printed (Wire l w c), h)
alike_more (Via p at) ms ns h = (inl refl, h)
alike_more (Pad p) ms ns h = h
alike_more (Ban w v) ms ns h = h

none_more : (m : Metal) (ms : List Metal) → is_copper m ≡ false → with_metal m ms ≡ ms
none_more m ms e = ap (λ (b : Bool). cond b (m ∷ ms) ms) e

module _ (n : ℕ) (a : Item) (items : List Item) (h : AllZip AreAlike (routed_copper n items)
    (filter is_copper (metals_of n (part n items)))) where
  abbrev old : List Metal
  old = routed_copper n items

  abbrev new : List (ℕ × Metal)
  new = part n items

  -- as one that is of the net or not, and copper or not
  as_told : (k : ℕ) (b c : Bool) → (k == n) ≡ b → is_copper a.metal ≡ c
      → AllZip AreAlike (filter is_copper (map metal_of (cond (b && true) (a ∷ filter (is_routed_of n) items)
      (filter (is_routed_of n) items))))
      (filter is_copper (metals_of n ((if b && c then (n, printed_metal a.metal) ∷ [] else []) ++ new)))
  as_told k true true e copper =
      subst (λ (t : Bool). AllZip AreAlike (with_metal a.metal old)
      (filter is_copper (if t then printed_metal a.metal ∷ metals_of n new else metals_of n new)))
      (sym (eq-eqb n n refl))
      (alike_more a.metal old (filter is_copper (metals_of n new)) h)
  as_told k true false e copper =
      subst (λ (ms : List Metal). AllZip AreAlike ms (filter is_copper (metals_of n new)))
      (sym (none_more a.metal old copper)) h
  as_told k false c e copper = h

  by_net : (o : Option ℕ) (f : Bool) → f ≡ false
      → AllZip AreAlike (filter is_copper (map metal_of (cond (option_map_or (λ (k : ℕ). k == n) o false && not f)
      (a ∷ filter (is_routed_of n) items) (filter (is_routed_of n) items))))
      (filter is_copper (metals_of n ((if is_net o n && is_copper a.metal then (n, printed_metal a.metal) ∷ []
      else []) ++ new)))
  by_net o true e = absurd (true≢false e)
  by_net None false e = h
  by_net (Some k) false e = as_told k (k == n) (is_copper a.metal) refl refl

pub printed_alike : (n : ℕ) (items : List Item) → All IsRouted items
    → AllZip AreAlike (routed_copper n items) (filter is_copper (metals_of n (part n items)))
printed_alike n [] h = tt
printed_alike n (a ∷ items) h =
    by_net n a items (printed_alike n items (All-tail IsRouted a items h)) a.net a.fixed (All-head IsRouted a items h)
