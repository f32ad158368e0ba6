-- Items that differ in their ids alone.
use Rattle.std.proofs.Common.{◌≡◌, ℕ, zero, suc, refl, sym, subst, List, [], ◌∷◌, ◌++◌, arith}
use Rattle.std.specs.Prelude.{All, AllPairs, Any}
use Rattle.std.specs.List.{AllZip}
use Rattle.std.proofs.lemmas.List.Elements.{All-cons, All-head, All-tail, All-weaker}
use Rattle.std.proofs.lemmas.List.Kept.{AllPairs-cons}
use Rattle.pcb_model.specs.declared.item.Item.{Item}
use Rattle.pcb_model.specs.declared.design.Design.{Design}
use Rattle.pcb_model.specs.Pairs.{Agrees, AreTouching}
use Rattle.pcb_model.specs.Board.{LeadsTo}
use Rattle.board_offers.proofs.Lists.{all_front, pairs_rest}

-- the item with another id
abbrev pub with_id : ℕ → Item → Item
with_id id a = record a { id = id }

-- b is a, but for its id
pub record IsAlike (a b : Item) : Type 0 where
  pub is : b ≡ with_id b.id a

-- so are the items of two lists, place by place
abbrev pub AreAlike : List Item → List Item → Type 0
AreAlike xs ys = AllZip IsAlike xs ys

-- what holds of an item holds of it with any other id
abbrev pub IsBlind : (Item → Type 0) → Type 0
IsBlind P = (id : ℕ) (a : Item) → P a → P (with_id id a)

-- ---- one item
-- so it holds of each item that is alike
pub blind_to : (P : Item → Type 0) → IsBlind P → (a b : Item) → IsAlike a b → P a → P b
blind_to P blind a b h p = subst P (sym h.is) (blind b.id a p)

-- what fails for an item fails for it with any other id
pub blind_not : (P : Item → Type 0) → IsBlind P → IsBlind (λ (a : Item). P a → ⊥)
blind_not P blind id a fails = λ p. fails (blind a.id (with_id id a) p)

-- the first item's id doesn't matter where two agree
pub agrees_first : (d : Design) (c : Item) → IsBlind (λ (a : Item). Agrees d a c)
agrees_first d c id a h = record { keep = h.keep; stay_off = h.stay_off }

-- the second's id doesn't matter either
pub agrees_second : (d : Design) (c : Item) → IsBlind (λ (a : Item). Agrees d c a)
agrees_second d c id a h = record { keep = h.keep; stay_off = h.stay_off }

-- the first item's id doesn't matter where two touch
pub touches_first : (c : Item) → IsBlind (λ (a : Item). AreTouching a c)
touches_first c id a h = record { same_net = h.same_net; touch = h.touch }

-- the second's id doesn't matter there either
pub touches_second : (c : Item) → IsBlind (λ (a : Item). AreTouching c a)
touches_second c id a h = record { same_net = h.same_net; touch = h.touch }

-- ---- lists of items
-- two lists are alike where their parts are
pub alike_append : (xs ys zs ws : List Item) → AreAlike xs ys → AreAlike zs ws → AreAlike (xs ++ zs) (ys ++ ws)
alike_append [] [] zs ws h k = k
alike_append [] (y ∷ ys) zs ws h k = absurd h
alike_append (x ∷ xs) [] zs ws h k = absurd h
alike_append (x ∷ xs) (y ∷ ys) zs ws h k = (h.0, alike_append xs ys zs ws h.1 k)

-- what holds of all of one list holds of all of the other
pub alike_all : (P : Item → Type 0) → IsBlind P → (xs ys : List Item) → AreAlike xs ys → All P xs → All P ys
alike_all P blind [] [] h all = all
alike_all P blind [] (y ∷ ys) h all = absurd h
alike_all P blind (x ∷ xs) [] h all = absurd h
alike_all P blind (x ∷ xs) (y ∷ ys) h all =
    All-cons P y ys (blind_to P blind x y h.0 (All-head P x xs all))
    (alike_all P blind xs ys h.1 (All-tail P x xs all))

-- what holds of some of one list holds of some of the other
pub alike_any : (P : Item → Type 0) → IsBlind P → (xs ys : List Item) → AreAlike xs ys → Any P xs → Any P ys
alike_any P blind [] ys h (k, x, within, is, p) = absurd (omega (arith, within))
alike_any P blind (x ∷ xs) [] h any = absurd h
alike_any P blind (x ∷ xs) (y ∷ ys) h (zero, z, within, is, p) =
    (0, y, omega arith, refl, blind_to P blind x y h.0 (subst P (sym is) p))
alike_any P blind (x ∷ xs) (y ∷ ys) h (suc k, z, within, is, p) =
    let r = alike_any P blind xs ys h.1 (k, z, omega (arith, within), is, p) in
    (suc r.0, r.1, (let less = r.2 in omega (arith, less)), r.3, r.4)

-- where each two of one list agree, so do those of the other
pub alike_pairs : (d : Design) (xs ys : List Item) → AreAlike xs ys → AllPairs (Agrees d) xs → AllPairs (Agrees d) ys
alike_pairs d [] [] h pairs = pairs
alike_pairs d [] (y ∷ ys) h pairs = absurd h
alike_pairs d (x ∷ xs) [] h pairs = absurd h
alike_pairs d (x ∷ xs) (y ∷ ys) h pairs =
    AllPairs-cons (Agrees d) y ys
    (alike_all (Agrees d y) (agrees_second d y) xs ys h.1
    (All-weaker (Agrees d x) (Agrees d y)
    (λ z agrees. blind_to (λ (a : Item). Agrees d a z) (agrees_first d z) x y h.0 agrees) xs
    (all_front (Agrees d) x xs pairs)))
    (alike_pairs d xs ys h.1 (pairs_rest (Agrees d) x xs pairs))

-- a chain from an item to the last one leads there from one that is alike
pub alike_leads : (a b last : Item) (xs ys : List Item) → IsAlike a b → AreAlike xs ys
    → LeadsTo a (xs ++ last ∷ []) last → LeadsTo b (ys ++ last ∷ []) last
alike_leads a b last [] [] first h leads =
    (blind_to (λ (x : Item). AreTouching x last) (touches_first last) a b first leads.0, leads.1)
alike_leads a b last [] (y ∷ ys) first h leads = absurd h
alike_leads a b last (x ∷ xs) [] first h leads = absurd h
alike_leads a b last (x ∷ xs) (y ∷ ys) first h leads = (
  blind_to (AreTouching b) (touches_second b) x y h.0
      (blind_to (λ (z : Item). AreTouching z x) (touches_first x) a b first leads.0),
  alike_leads x y last xs ys h.0 h.1 leads.1,
)
