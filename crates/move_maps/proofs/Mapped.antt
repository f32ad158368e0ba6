-- The groups that have maps are no others: there is one list of them.
use Rattle.std.proofs.Common.{◌≡◌, ℕ, zero, suc, ◌+◌, ◌*◌, ◌≤◌, ◌<◌, ◌^◌, ◌==◌, Bool, true, false, List, [], ◌∷◌, ◌++◌}
use Rattle.std.proofs.Common.{map}
use Rattle.std.proofs.Common.{length, get_or, refl, sym, subst, arith, ◌⊎◌, inl, inr}
use Rattle.std.specs.Prelude.{Contains, All, AllPairs, nat_lt}
use Rattle.std.proofs.lemmas.Bool.{eqb-true, eqb-false, ltb-true, ltb-false}
use Rattle.std.proofs.lemmas.List.{length-append}
use Rattle.std.proofs.lemmas.List.Elements.{All-contains, All-map, Contains-push_cases, Contains-get_or}
use Rattle.std.proofs.lemmas.List.Kept.{AllPairs-from_increasing}
use Rattle.std.proofs.lemmas.List.Quantifiers.{all_pairs_push}
use Rattle.pcb_model.specs.declared.design.Design.{Design}
use Rattle.route_lattice.specs.Mesh.{Mesh, node_count}
use Rattle.route_lattice.specs.Ways.{way_count}
use Rattle.move_maps.specs.declared.map.GroupMap.{GroupMap}
use Rattle.move_maps.specs.Groups.{AreAlike, IsFirst, AreMapped, HasMap, move_total}
use Rattle.move_maps.specs.Maps.{IsNotFor, first_of}

-- ---- lists of numbers
-- each number is below all later ones
abbrev Ascends : List ℕ → Type 0
Ascends xs = AllPairs (λ (a b : ℕ). a < b) xs

-- the first is below the others
front : (x : ℕ) (xs : List ℕ) → Ascends (x ∷ xs) → All (λ y. x < y) xs
front x xs up = λ k d within. up 0 (suc k) d (omega arith) (omega (arith, within))

-- the others ascend
rest : (x : ℕ) (xs : List ℕ) → Ascends (x ∷ xs) → Ascends xs
rest x xs up = λ i j d before within. up (suc i) (suc j) d (omega (arith, before)) (omega (arith, within))

-- the first is one of all
in_front : (x : ℕ) (xs : List ℕ) → Contains (x ∷ xs) x
in_front x xs = (0, omega arith, refl)

-- one of the others is one of all
in_rest : (x : ℕ) (xs : List ℕ) (y : ℕ) → Contains xs y → Contains (x ∷ xs) y
in_rest x xs y (k, within, e) = (suc k, omega (arith, within), e)

-- one of all is the first or one of the others
in_one : (x : ℕ) (xs : List ℕ) (y : ℕ) → Contains (x ∷ xs) y → (x ≡ y) ⊎ Contains xs y
in_one x xs y (zero, within, e) = inl e
in_one x xs y (suc k, within, e) = inr (k, omega (arith, within), e)

-- a number is in a list or isn't
in_or_not : (xs : List ℕ) (y : ℕ) → Contains xs y ⊎ (Contains xs y → ⊥)
in_or_not [] y = inr none
  where
    none : Contains [] y → ⊥
    none (k, within, e) = omega (arith, within)
in_or_not (x ∷ xs) y = at (x == y) refl (in_or_not xs y)
  where
    at : (s : Bool) → (x == y) ≡ s → Contains xs y ⊎ (Contains xs y → ⊥) → Contains (x ∷ xs) y
        ⊎ (Contains (x ∷ xs) y → ⊥)
    at true e r = inl (subst (λ z. Contains (x ∷ xs) z) (eqb-true x y e) (in_front x xs))
    at false e (inl there) = inl (in_rest x xs y there)
    at false e (inr out) = inr (λ there. neither (in_one x xs y there))
      where
        neither : (x ≡ y) ⊎ Contains xs y → ⊥
        neither (inl is) = eqb-false x y e is
        neither (inr there) = out there

-- what begins with a number and ascends is above what is below that number
above : (x : ℕ) (xs : List ℕ) → Ascends (x ∷ xs) → (y z : ℕ) → y < x → Contains (x ∷ xs) z → y < z
above x xs up y z low there = at (in_one x xs z there)
  where
    at : (x ≡ z) ⊎ Contains xs z → y < z
    at (inl e) = omega (arith, low, e)
    at (inr h) = let less = All-contains (λ n. x < n) xs z (front x xs up) h in omega (arith, low, less)

-- what is above the first element is one of the others
beyond : (y : ℕ) (ys : List ℕ) (z : ℕ) → y < z → Contains (y ∷ ys) z → Contains ys z
beyond y ys z less there = at (in_one y ys z there)
  where
    at : (y ≡ z) ⊎ Contains ys z → Contains ys z
    at (inl e) = absurd (omega (arith, e, less))
    at (inr h) = h

-- ---- one list within another
module _ (d : Design) (m : Mesh) where
  record IsLess (xs ys : List ℕ) : Type 0 where
    fewer : length xs ≤ length ys
    smaller : move_total d m xs ≤ move_total d m ys

  -- what another list holds too, in order, is no more, and has no more moves
  within : (xs ys : List ℕ) → Ascends xs → Ascends ys → ((x : ℕ) → Contains xs x → Contains ys x) → IsLess xs ys
  within [] ys up also each = record { fewer = omega arith; smaller = omega arith }
  within (x ∷ xs) [] up also each = absurd (none (each x (in_front x xs)))
    where
      none : Contains [] x → ⊥
      none (k, less, e) = omega (arith, less)
  within (x ∷ xs) (y ∷ ys) up also each =
      at (λ h. within xs ys (rest x xs up) (rest y ys also) h) (λ h. within (x ∷ xs) ys up (rest y ys also) h)
      (in_one y ys x (each x (in_front x xs)))
    where
      at : (((z : ℕ) → Contains xs z → Contains ys z) → IsLess xs ys)
          → (((z : ℕ) → Contains (x ∷ xs) z → Contains ys z) → IsLess (x ∷ xs) ys)
          → (y ≡ x) ⊎ Contains ys x → IsLess (x ∷ xs) (y ∷ ys)
      at both one (inl e) =
          let high : (z : ℕ) → Contains xs z → y < z =
          λ z there. subst (λ n. n < z) (sym e) (All-contains (λ n. x < n) xs z (front x xs up) there) in
          let r = both (λ z there. beyond y ys z (high z there) (each z (in_rest x xs z there))) in
          let f = r.fewer in
          let s = r.smaller in
          record {
            fewer = omega (arith, f);
            smaller = subst (λ n. move_total d m (x ∷ xs) ≤ move_total d m (n ∷ ys)) (sym e) (omega (arith, s));
          }
      at both one (inr there) =
          let low : y < x = All-contains (λ n. y < n) ys x (front y ys also) there in
          let r = one (λ z here. beyond y ys z (above x xs up y z low here) (each z here)) in
          let f = r.fewer in
          let s = r.smaller in
          record { fewer = omega (arith, f); smaller = omega (arith, s) }

  -- one more group has its moves more
  total_push : (xs : List ℕ) (y : ℕ)
      → move_total d m (xs ++ y ∷ []) ≡ move_total d m xs + node_count m * way_count d m y
  total_push [] y = omega arith
  total_push (x ∷ xs) y = let e = total_push xs y in omega (arith, e)

  -- a first net that one list holds and another doesn't would have had room in that one
  no_other : (gs hs : List ℕ) (g : ℕ) → AreMapped d m gs → AreMapped d m hs → Contains hs g
      → ((k : ℕ) → k < g → IsFirst d k → Contains gs k) → (Contains gs g → ⊥) → ⊥
  no_other gs hs g a b there all out = at (a.no_more g first out all)
    where
      first : IsFirst d g
      first = b.each_first g there

      below : (x : ℕ) → Contains gs x → x < g
      below x h = of (nat_lt x g) refl (x == g) refl
        where
          of : (s : Bool) → nat_lt x g ≡ s → (t : Bool) → (x == g) ≡ t → x < g
          of true e t f = ltb-true x g e
          of false e true f = absurd (out (subst (λ n. Contains gs n) (eqb-true x g f) h))
          of false e false f =
              absurd (out (a.none_left_out x g h (apart x g (ltb-false x g e) (eqb-false x g f)) first))
            where
              apart : (x g : ℕ) → g ≤ x → (x ≡ g → ⊥) → g < x
              apart x g low other = lt (nat_lt g x) refl
                where
                  lt : (s : Bool) → nat_lt g x ≡ s → g < x
                  lt true e = ltb-true g x e
                  lt false e = let high = ltb-false g x e in absurd (other (omega (arith, low, high)))

      also : (x : ℕ) → Contains (gs ++ g ∷ []) x → Contains hs x
      also x h = of (Contains-push_cases gs g x h)
        where
          of : Contains gs x ⊎ (g ≡ x) → Contains hs x
          of (inl old) = b.none_left_out g x there (below x old) (a.each_first x old)
          of (inr e) = subst (λ n. Contains hs n) e there

      less : IsLess (gs ++ g ∷ []) hs
      less = within (gs ++ g ∷ []) hs
          (all_pairs_push (λ (x y : ℕ). x < y) gs g (AllPairs-from_increasing gs a.ascend)
          (λ k n h. below (get_or gs k n) (Contains-get_or gs k n h)))
          (AllPairs-from_increasing hs b.ascend) also

      at : (length gs ≡ 16) ⊎ (2 ^ 28 < move_total d m gs + node_count m * way_count d m g) → ⊥
      at (inl many) =
          let l : length (gs ++ g ∷ []) ≡ length gs + 1 = length-append gs (g ∷ []) in
          let f = less.fewer in let few = b.few in omega (arith, l, f, few, many)
      at (inr large) =
          let bits = total_push gs g in
          let s = less.smaller in let small = b.small in omega (arith, bits, s, small, large)

  -- what one list holds the other holds, from the first net on
  upto : (gs hs : List ℕ) → AreMapped d m gs → AreMapped d m hs → (n g : ℕ) → g < n → Contains hs g → Contains gs g
  upto gs hs a b zero g less there = absurd (omega (arith, less))
  upto gs hs a b (suc n) g less there =
      at (λ k low first. upto gs hs a b n k (omega (arith, low, less)) (b.none_left_out g k there low first))
      (in_or_not gs g)
    where
      at : ((k : ℕ) → k < g → IsFirst d k → Contains gs k) → Contains gs g ⊎ (Contains gs g → ⊥) → Contains gs g
      at all (inl h) = h
      at all (inr out) = absurd (no_other gs hs g a b there all out)

  -- a list of the groups that have maps holds what any such list holds
  pub same_groups : (gs hs : List ℕ) → AreMapped d m gs → AreMapped d m hs → (g : ℕ) → Contains hs g → Contains gs g
  same_groups gs hs a b g there = upto gs hs a b (g + 1) g (omega arith) there

  -- where no map is one of the net's group, the net has no map
  pub no_map : (net : ℕ) (maps : List GroupMap) → AreMapped d m (map first_of maps) → All (IsNotFor d net) maps
      → ¬ (HasMap d m net)
  no_map net maps a none (hs, b, (k, g, less, e, alike)) =
      let there : Contains (map first_of maps) g = same_groups (map first_of maps) hs a b g (k, less, e) in
      All-contains (λ x. AreAlike d x net → ⊥) (map first_of maps) g
      (All-map (λ x. AreAlike d x net → ⊥) first_of maps none) there alike
