-- Among names that differ each is found at its place.
use Rattle.std.proofs.Common.{◌≡◌, ◌≢◌, ◌∙◌, ap, sym, ℕ, ◌+◌, ◌<◌, zero, suc, Bool, true, false, cond, List, [], ◌∷◌}
use Rattle.std.proofs.Common.{length, map, get_or, refl, arith, Some}
use Rattle.std.specs.Prelude.{AllPairs, Option, bytes_eq, slice_get}
use Rattle.std.specs.List.{position_from}
use Rattle.std.specs.Option.{option_map_or}
use Rattle.std.proofs.lemmas.Slice.Eq.{bytes_eq-Decides}
use Rattle.std.proofs.lemmas.Option.{same_Some, slice_get_within, slice_get-get_or}
use Rattle.dsn_shapes.specs.Names.{first_place}

module _ {X : Type 0} (name : X → List ℕ) where
  -- the names that differ do so behind the first too
  behind : (x : X) (xs : List X) → AllPairs (λ (a b : X). name a ≢ name b) (x ∷ xs)
      → AllPairs (λ (a b : X). name a ≢ name b) xs
  behind x xs h = λ i j e before within. h (suc i) (suc j) e (omega (arith, before)) (omega (arith, within))

  -- the first name is no later one
  apart : (x : X) (xs : List X) (i : ℕ) (y : X) → AllPairs (λ (a b : X). name a ≢ name b) (x ∷ xs)
      → slice_get xs i ≡ Some y → name x ≢ name y
  apart x xs i y h there e =
      let within = slice_get_within xs i y there in
      let is : get_or xs i x ≡ y = same_Some (get_or xs i x) y (sym (slice_get-get_or xs i x within) ∙ there) in
      h zero (suc i) x (omega arith) (omega (arith, within)) (e ∙ ap name (sym is))

  -- a name that differs isn't the one looked for
  other_name : (a b : List ℕ) → a ≢ b → bytes_eq a b ≡ false
  other_name a b ne = by (bytes_eq a b) refl
    where
      by : (t : Bool) → bytes_eq a b ≡ t → bytes_eq a b ≡ false
      by false e = e
      by true e = absurd (ne ((bytes_eq-Decides a b).0 e))

  -- a name's place, where places count up from k
  found_from : (xs : List X) (k i : ℕ) (x : X) → AllPairs (λ (a b : X). name a ≢ name b) xs → slice_get xs i ≡ Some x
      → position_from (λ n. bytes_eq n (name x)) k (map name xs) ≡ Some (k + i)
  found_from [] k i x h there = cc
  found_from (y ∷ xs) k zero x h there =
      let is : y ≡ x = same_Some y x there in
      ap (λ (b : Bool). cond b (Some k) (position_from (λ n. bytes_eq n (name x)) (k + 1) (map name xs)))
      ((bytes_eq-Decides (name y) (name x)).1 (ap name is))
      ∙ ap (λ (n : ℕ). Some n) (let e : k ≡ k + 0 = omega arith in e)
  found_from (y ∷ xs) k (suc i) x h there =
      ap (λ (b : Bool). cond b (Some k) (position_from (λ n. bytes_eq n (name x)) (k + 1) (map name xs)))
      (other_name (name y) (name x) (apart y xs i x h there))
      ∙ found_from xs (k + 1) i x (behind y xs h) there
      ∙ ap (λ (n : ℕ). Some n) (let e : k + 1 + i ≡ k + suc i = omega arith in e)

  -- its place
  pub found_name : (xs : List X) (i : ℕ) (x : X) → AllPairs (λ (a b : X). name a ≢ name b) xs → slice_get xs i ≡ Some x
      → first_place (name x) (map name xs) ≡ Some i
  unfolding first_place
  found_name xs i x h there = found_from xs 0 i x h there
      ∙ ap (λ (n : ℕ). Some n) (let e : 0 + i ≡ i = omega arith in e)

  -- the name at a place is found there
  pub name_at : (xs : List X) (i : ℕ) → AllPairs (λ (a b : X). name a ≢ name b) xs → i < length xs
      → first_place (option_map_or name (slice_get xs i) []) (map name xs) ≡ Some i
  name_at [] i h within = absurd (omega (arith, within))
  name_at (x ∷ xs) i h within =
      let at = slice_get-get_or (x ∷ xs) i x within in
      ap (λ (o : Option X). first_place (option_map_or name o []) (map name (x ∷ xs))) at
      ∙ found_name (x ∷ xs) i (get_or (x ∷ xs) i x) h at
