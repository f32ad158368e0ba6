-- The printed wiring of a list of items, net by net, item by item.
use Rattle.std.proofs.Common.{◌≡◌, ◌≢◌, ℕ, zero, suc, ◌+◌, ◌<◌, ◌==◌, ◌&&◌, Bool, true, false}
use Rattle.std.proofs.Common.{cond}
use Rattle.std.proofs.Common.{List, [], ◌∷◌, ◌++◌, Option, Some, None, refl, ap, ap₂, ◌∙◌, arith, map}
use Rattle.std.proofs.Common.{filter, flat_map}
use Rattle.std.proofs.Common.{All, length}
use Rattle.std.specs.Prelude.{if◌then◌else◌, is_some}
use Rattle.std.specs.List.{range_with_len}
use Rattle.std.specs.Option.{option_map_or}
use Rattle.std.proofs.lemmas.List.Elements.{All-nil, All-cons}
use Rattle.pcb_model.specs.declared.item.Metal.{Metal}
use Rattle.pcb_model.specs.declared.item.Item.{Item}
use Rattle.pcb_model.specs.declared.design.Design.{Design}
use Rattle.session_law.proofs.ToldBoards.{is_routed}
use Rattle.route_check.specs.Board.{is_net}
use Rattle.session_law.specs.Told.{is_copper}
use Rattle.session_law.specs.Back.{printed_metal, net_wiring, printed_wiring}
use Rattle.ses_writer.specs.Session.{is_of_net, is_printed}
use Rattle.check_law.proofs.Taken.{part, wiring, AreFresh}

abbrev metal_of : Item → Metal
metal_of a = a.metal

-- one item more, of the net or not, copper or not
module _ (n : ℕ) (a : Item) (items : List Item) where
  abbrev pair : Metal → ℕ × Metal
  pair m = (n, printed_metal m)

  copper_more : (c : Bool) (ms : List Metal) (ws : List (ℕ × Metal)) → map pair (filter is_copper ms) ≡ ws
      → map pair (cond c (a.metal ∷ filter is_copper ms) (filter is_copper ms))
      ≡ (if c then pair a.metal ∷ [] else []) ++ ws
  copper_more true ms ws h = ap (λ (vs : List (ℕ × Metal)). pair a.metal ∷ vs) h
  copper_more false ms ws h = h

  net_more : (b : Bool) (xs : List Item) (ws : List (ℕ × Metal))
      → map pair (filter is_copper (map metal_of xs)) ≡ ws
      → map pair (filter is_copper (map metal_of (cond b (a ∷ xs) xs)))
      ≡ (if b && is_copper a.metal then pair a.metal ∷ [] else []) ++ ws
  net_more true xs ws h = copper_more (is_copper a.metal) (map metal_of xs) ws h
  net_more false xs ws h = h

-- an item of this net, kept or not
kept : (n : ℕ) (a : Item) (o : Option ℕ) (b : Bool) (rest : List Item) → a.net ≡ o →
    filter (is_of_net n) (cond b (a ∷ rest) rest)
    ≡ cond (b && is_net o n) (a ∷ filter (is_of_net n) rest) (filter (is_of_net n) rest)
kept n a None true rest e = ap (λ (o : Option ℕ). cond (option_map_or (λ (k : ℕ). k == n) o false)
    (a ∷ filter (is_of_net n) rest) (filter (is_of_net n) rest)) e
kept n a None false rest e = refl
kept n a (Some k) true rest e = ap (λ (o : Option ℕ). cond (option_map_or (λ (j : ℕ). j == n) o false)
    (a ∷ filter (is_of_net n) rest) (filter (is_of_net n) rest)) e
kept n a (Some k) false rest e = refl

-- where a test asks for a net, and for more of which `more` tells
module _ (P : Item → Bool) (more : Item → Bool) (says : (a : Item) → P a ≡ (is_some a.net && more a)) (n : ℕ) where
  wanted : (o : Option ℕ) (t : Bool) → ((is_some o && t) && is_net o n) ≡ (t && is_net o n)
  wanted None true = refl
  wanted None false = refl
  wanted (Some k) true = refl
  wanted (Some k) false = refl

  if_wanted : (a : Item) (t : Bool) (ws : List (ℕ × Metal)) →
      (if (t && is_net a.net n) && is_copper a.metal then (n, printed_metal a.metal) ∷ [] else []) ++ ws
      ≡ (if t then (if is_net a.net n && is_copper a.metal then (n, printed_metal a.metal) ∷ [] else [])
      ++ ws else ws)
  if_wanted a true ws = refl
  if_wanted a false ws = refl

  part_of : (a : Item) (t : Bool) (items : List Item) →
      (if t then (if is_net a.net n && is_copper a.metal then (n, printed_metal a.metal) ∷ [] else []) ++ part n items
      else part n items) ≡ part n (cond t (a ∷ items) items)
  part_of a true items = refl
  part_of a false items = refl

  all_wanted : (items : List Item) → net_wiring (filter P items) n ≡ part n (filter more items)
  all_wanted [] = refl
  all_wanted (a ∷ items) =
      ap (λ (xs : List Item). map (λ (m : Metal). (n, printed_metal m))
      (filter is_copper (map (λ (x : Item). x.metal) xs)))
      (kept n a a.net (P a) (filter P items) refl
      ∙ ap (λ (t : Bool). cond t (a ∷ filter (is_of_net n) (filter P items)) (filter (is_of_net n) (filter P items)))
      (ap (λ (t : Bool). t && is_net a.net n) (says a) ∙ wanted a.net (more a)))
      ∙ net_more n a items (more a && is_net a.net n) (filter (is_of_net n) (filter P items))
      (part n (filter more items))
      (all_wanted items)
      ∙ if_wanted a (more a) (part n (filter more items))
      ∙ part_of a (more a) (filter more items)

-- ---- both kinds of session
abbrev every : Item → Bool
every a = true

all_yes : (items : List Item) → filter every items ≡ items
all_yes [] = refl
all_yes (a ∷ items) = ap (λ (xs : List Item). a ∷ xs) (all_yes items)

whole_part : (n : ℕ) (items : List Item) → net_wiring (filter (is_printed false) items) n ≡ part n items
whole_part n items = all_wanted (is_printed false) every (λ a. refl) n items ∙ ap (part n) (all_yes items)

routed_part : (n : ℕ) (items : List Item)
    → net_wiring (filter (is_printed true) items) n ≡ part n (filter is_routed items)
routed_part n items = all_wanted (is_printed true) is_routed (λ a. refl) n items

parts : (f : ℕ → List (ℕ × Metal)) (items : List Item) → ((n : ℕ) → f n ≡ part n items) → (ns : List ℕ)
    → flat_map f ns ≡ wiring ns items
parts f items h [] = refl
parts f items h (n ∷ ns) = ap₂ (λ (x y : List (ℕ × Metal)). x ++ y) (h n) (parts f items h ns)

pub with_fixed : (d : Design) (items : List Item)
    → printed_wiring d items false ≡ wiring (range_with_len 0 (length d.nets)) items
unfolding printed_wiring
with_fixed d items = parts (net_wiring (filter (is_printed false) items)) items (λ n. whole_part n items)
    (range_with_len 0 (length d.nets))

pub without_fixed : (d : Design) (items : List Item)
    → printed_wiring d items true ≡ wiring (range_with_len 0 (length d.nets)) (filter is_routed items)
unfolding printed_wiring
without_fixed d items =
    parts (net_wiring (filter (is_printed true) items)) (filter is_routed items) (λ n. routed_part n items)
    (range_with_len 0 (length d.nets))

-- ---- the nets of a design, each once
above : (a n : ℕ) (i : ℕ) → i < a → All (λ (j : ℕ). i ≢ j) (range_with_len a n)
above a zero i h = All-nil (λ (j : ℕ). i ≢ j)
above a (suc n) i h =
    All-cons (λ (j : ℕ). i ≢ j) a (range_with_len (a + 1) n) (λ e. absurd (omega arith))
    (above (a + 1) n i (omega arith))

pub range_fresh : (a n : ℕ) → AreFresh (range_with_len a n)
range_fresh a zero = tt
range_fresh a (suc n) = (above (a + 1) n a (omega arith), range_fresh (a + 1) n)

pub range_within : (a n : ℕ) → All (λ (j : ℕ). j < a + n) (range_with_len a n)
range_within a zero = All-nil (λ (j : ℕ). j < a + zero)
range_within a (suc n) =
    All-cons (λ (j : ℕ). j < a + suc n) a (range_with_len (a + 1) n) (omega arith)
    (λ i d lt. let h = range_within (a + 1) n i d lt in omega (arith, h))
