-- Shoves that may be made stand together.
use Rattle.std.proofs.Common.{◌≡◌, ◌≢◌, ℕ, zero, suc, ◌+◌, ◌<◌, List, [], ◌∷◌, ◌++◌, map, length, get_or, Some, refl}
use Rattle.std.proofs.Common.{sym, ap, ◌∙◌, subst, arith, inl, inr, ◌⊎◌, All}
use Rattle.std.specs.Prelude.{AllPairs, Contains, slice_get}
use Rattle.std.proofs.lemmas.List.Elements.{All-contains, Contains-get_or}
use Rattle.std.proofs.lemmas.Option.{get_or_from_slice_get}
use Rattle.pcb_model.specs.declared.item.Item.{Item}
use Rattle.pcb_model.specs.declared.design.Design.{Design}
use Rattle.pcb_model.specs.Pairs.{Agrees, AreTouching}
use Rattle.shove.specs.Shoves as shove
use Rattle.board_offers.specs.declared.offer.Offer.{Offer}
use Rattle.board_offers.specs.declared.offer.Shoved.{Shoved}
use Rattle.board_offers.specs.Items.{no_item, item_at, reshaped, replaced_from, added, replaced, after_shoves}
use Rattle.pcb_board.specs.Boards.{BoardOf, given}
use Rattle.pcb_board.specs.Keeping.{IsBoard}
use Rattle.board_offers.proofs.Lists.{pairs_rest}
use Rattle.least_offer.specs.Least.{MayBeMade}
use Rattle.least_offer.specs.Together.{StandTogether}
use Rattle.least_offer.proofs.Replacing.{to_board, left_id, right_id, shoved_or_not}

second_pairs : {X : Type 0} (R : X → X → Type 0) (xs ys : List X) → AllPairs R (xs ++ ys) → AllPairs R ys
second_pairs R [] ys h = h
second_pairs R (x ∷ xs) ys h = second_pairs R xs ys (pairs_rest R x (xs ++ ys) h)

map_at : (ss : List Shoved) (k : ℕ) (x : Shoved) → k < length ss → get_or (map (λ (s : Shoved). s.id) ss) k x.id
    ≡ (get_or ss k x).id
map_at [] k x h = absurd (omega arith)
map_at (s ∷ ss) zero x h = refl
map_at (s ∷ ss) (suc k) x h = map_at ss k x (omega arith)

map_length : (ss : List Shoved) → length (map (λ (s : Shoved). s.id) ss) ≡ length ss
map_length [] = refl
map_length (s ∷ ss) = ap suc (map_length ss)

order : (n m : ℕ) → (n < m) ⊎ ((m < n) ⊎ (n ≡ m))
order zero zero = inr (inr refl)
order zero (suc m) = inl (omega arith)
order (suc n) zero = inr (inl (omega arith))
order (suc n) (suc m) = elim (order n m) [
  | inl h ↦ inl (omega arith)
  | inr h ↦ elim h [
    | inl k ↦ inr
        (inl (omega arith))
    | inr e ↦ inr (inr (ap suc e))
  ]
]

any_default : (ss : List Shoved) (k : ℕ) (x y : Shoved) → k < length ss → get_or ss k x ≡ get_or ss k y
any_default [] k x y h = absurd (omega arith)
any_default (s ∷ ss) zero x y h = refl
any_default (s ∷ ss) (suc k) x y h = any_default ss k x y (omega arith)

-- ids that differ tell places apart
apart_at : (ss : List Shoved) (p q : ℕ) (x : Shoved) → AllPairs (λ (a c : ℕ). a ≢ c) (map (λ (s : Shoved). s.id) ss)
    → p < q → q < length ss → (get_or ss p x).id ≢ (get_or ss q x).id
apart_at ss p q x once before within e =
    let all = map_length ss in
    once p q x.id before (omega arith) (map_at ss p x (omega arith) ∙ e ∙ sym (map_at ss q x within))

one_shove : (ss : List Shoved) (s t : Shoved) → AllPairs (λ (a c : ℕ). a ≢ c) (map (λ (s : Shoved). s.id) ss)
    → Contains ss s → Contains ss t → s.id ≡ t.id → s ≡ t
one_shove ss s t once (p, p_in, p_is) (q, q_in, q_is) e =
    let t_at : get_or ss q s ≡ t = any_default ss q s t q_in ∙ q_is in
    elim (order p q) [
      | inl h ↦ absurd (apart_at ss p q s once h q_in (ap (λ (u : Shoved). u.id) p_is ∙ e
          ∙ sym (ap (λ (u : Shoved). u.id) t_at)))
      | inr h ↦ elim h [
        | inl g ↦ absurd (apart_at ss q p s once g p_in (ap (λ (u : Shoved). u.id) t_at ∙ sym e
            ∙ sym (ap (λ (u : Shoved). u.id) p_is)))
        | inr same ↦ sym p_is ∙ ap (λ (n : ℕ). get_or ss n s) same ∙ t_at
      ]
    ]

record At (d : Design) (gv : List Item) (id : ℕ) (ss : List Shoved) (k : ℕ) (x : Shoved) (y : Item) : Type 0 where
  number : ℕ
  is : get_or (replaced_from d gv id ss) k y ≡ reshaped d number (get_or ss k x).chain (item_at gv (get_or ss k x).id)

replaced_at : (d : Design) (gv : List Item) (id : ℕ) (ss : List Shoved) (k : ℕ) (x : Shoved) (y : Item)
    → k < length ss → At d gv id ss k x y
replaced_at d gv id [] k x y h = absurd (omega arith)
replaced_at d gv id (s ∷ ss) zero x y h = record { number = id; is = refl }
replaced_at d gv id (s ∷ ss) (suc k) x y h = let r = replaced_at d gv (id + 1) ss k x y
    (omega arith) in record { number = r.number; is = r.is }

replaced_length : (d : Design) (gv : List Item) (id : ℕ) (ss : List Shoved) → length (replaced_from d gv id ss)
    ≡ length ss
replaced_length d gv id [] = refl
replaced_length d gv id (s ∷ ss) = ap suc (replaced_length d gv (id + 1) ss)

module _ (b : BoardOf) (o : Offer) (board : IsBoard b) (may : MayBeMade b o) where
  abbrev d : Design
  d = b.design

  given_at : (a : Item) → Contains b.items a → slice_get (given b) a.id ≡ Some a
  given_at a there =
      All-contains (λ (x : Item). slice_get (given b) x.id ≡ Some x) b.items a
      (subst (λ (xs : List Item). All (λ (x : Item). slice_get (given b) x.id
      ≡ Some x) xs) board.replays (board.from_given (length b.history) (omega arith))) there

  item_is : (s : Shoved) (a : Item) → Contains b.items a → a.id ≡ s.id → item_at (given b) s.id ≡ a
  item_is s a there e = get_or_from_slice_get (given b) s.id a no_item (subst (λ (x : ℕ). slice_get (given b) x
      ≡ Some a) e (given_at a there))

  after_is : (a : Item) (s : Shoved) → Contains o.shoves s → a.id ≡ s.id → after_shoves d o.shoves a
      ≡ shove.reshaped d a.id s.chain a
  after_is a s s_in e = elim (shoved_or_not d o.shoves a) [
    | inr none ↦ absurd (none.others s s_in (sym e))
    | inl t ↦ t.after ∙ ap (λ (u : Shoved). reshaped d a.id u.chain a)
        (one_shove o.shoves t.by s may.formed.once.shove_once t.by_in s_in (t.id_is ∙ e))
        ∙ sym (to_board d a.id s.chain a)
  ]

  pub stand_together : StandTogether d b.items o.shoves
  stand_together p q x before within =
      let s = get_or o.shoves p x in
      let t = get_or o.shoves q x in
      let s_in : Contains o.shoves s = Contains-get_or o.shoves p x (omega arith) in
      let t_in : Contains o.shoves t = Contains-get_or o.shoves q x within in
      record {
        agree = λ a c a_in c_in a_is c_is.
            let f = replaced_at d (given b) (length (given b) + length o.add) o.shoves p x a (omega arith) in
            let g = replaced_at d (given b) (length (given b) + length o.add) o.shoves q x a within in
            let all = replaced_length d (given b) (length (given b) + length o.add) o.shoves in
            let pair = second_pairs (Agrees d) (added d (given b) o)
            (replaced d (given b) o) may.formed.agree.each p q a before (omega arith) in
            let first : get_or (replaced d (given b) o) p a ≡ shove.reshaped d f.number s.chain a = f.is
            ∙ ap (λ (y : Item). reshaped d f.number s.chain y) (item_is s a a_in a_is)
            ∙ sym (to_board d f.number s.chain a) in
            let second : get_or (replaced d (given b) o) q a ≡ shove.reshaped d g.number t.chain c = g.is
            ∙ ap (λ (y : Item). reshaped d g.number t.chain y) (item_is t c c_in c_is)
            ∙ sym (to_board d g.number t.chain c) in
            left_id d f.number a.id a.net (shove.with_chain s.chain a.metal) (shove.reshaped d c.id t.chain c)
            (right_id d (shove.reshaped d f.number s.chain a) g.number c.id c.net (shove.with_chain t.chain c.metal)
            (subst (λ (y : Item × Item). Agrees d y.0 y.1) (λ i. (first i, second i)) pair));
        touch = λ a c a_in c_in a_is c_is touch.
            subst (λ (y : Item × Item). AreTouching y.0 y.1) (λ i. (after_is a s s_in a_is i, after_is c t t_in c_is i))
            ((may.clear c.id).joined c c_in refl s s_in
            (λ e. apart_at o.shoves p q x may.formed.once.shove_once before within (e
            ∙ c_is)) a (subst (λ (n : ℕ). slice_get (given b) n ≡ Some a) a_is (given_at a a_in)) touch);
      }
