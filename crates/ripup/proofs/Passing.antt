-- A search from number to number over a list in which the numbers ascend.
use Rattle.std.proofs.Common.{◌≡◌, ℕ, ◌+◌, ◌<◌, ◌≤◌, List, [], ◌∷◌, ◌++◌, inl, inr, ◌⊎◌, arith, sym, ◌∙◌, subst, refl}
use Rattle.std.proofs.Common.{ap}
use Rattle.std.specs.Prelude.{Contains, All, AllPairs}
use Prim.Native.Nat.{zero, suc}
use Rattle.std.proofs.lemmas.List.Elements.{All-nil, All-cons, All-weaker, All-contains}
use Rattle.pcb_model.specs.Counts.{Counts}

module _ {X : Type 0} (key : X → ℕ) where
  abbrev Rises : List X → Type 0
  Rises xs = AllPairs (λ (a b : X). key a < key b) xs

  rest_rises : (x : X) (xs : List X) → Rises (x ∷ xs) → Rises xs
  rest_rises x xs up = λ i j d lt within. up (suc i) (suc j) d (omega arith) (omega arith)

  first_below : (x : X) (xs : List X) → Rises (x ∷ xs) → All (λ (y : X). key x < key y) xs
  first_below x xs up = λ k d within. up 0 (suc k) d (omega arith) (omega arith)

  -- the two parts of a list, with one element of P in the first one
  pub record Splits (P : X → Type 0) (xs : List X) (from : ℕ) : Type 0 where
    pub mid : List X
    pub tail : List X
    pub xs_are : xs ≡ mid ++ tail
    pub one : Counts P mid 1
    pub below : All (λ (y : X). key y < from) mid
    pub above : All (λ (y : X). from ≤ key y) tail

  pub splits : (P : X → Type 0) (xs : List X) (b : X) → Rises xs → Contains xs b → P b
      → ((y : X) → Contains xs y → key y < key b → ¬ (P y)) → Splits P xs (key b + 1)
  splits P [] b up (k, within, e) p none = absurd (omega arith)
  splits P (x ∷ xs) b up (zero, within, e) p none =
      let same : key x ≡ key b = ap key e in
      record {
        mid = x ∷ [];
        tail = xs;
        xs_are = refl;
        one = inl (subst P (sym e) p, 0, refl, refl);
        below = All-cons (λ (y : X). key y < key b + 1) x [] (omega arith) (All-nil (λ (y : X). key y < key b + 1));
        above = All-weaker (λ (y : X). key x < key y) (λ (y : X). key b + 1 ≤ key y) (λ y h. omega arith) xs
            (first_below x xs up);
      }
  splits P (x ∷ xs) b up (suc k, within, e) p none =
      let there : Contains xs b = (k, omega arith, e) in
      let lower : key x < key b = All-contains (λ (y : X). key x < key y) xs b (first_below x xs up) there in
      let rest = splits P xs b (rest_rises x xs up) there p (λ y h lt. none y (suc h.0, omega (arith, h.1), h.2) lt) in
      record {
        mid = x ∷ rest.mid;
        tail = rest.tail;
        xs_are = ap (λ (ys : List X). x ∷ ys) rest.xs_are;
        one = inr (none x (0, omega arith, refl) lower, rest.one);
        below = All-cons (λ (y : X). key y < key b + 1) x rest.mid (omega arith) rest.below;
        above = rest.above;
      }

  -- ids differ
  pub same_key : (xs : List X) (a b : X) → Rises xs → Contains xs a → Contains xs b → key a ≡ key b → a ≡ b
  same_key [] a b up (k, within, e) c h = absurd (omega arith)
  same_key (x ∷ xs) a b up (zero, w, e) (zero, v, f) h = sym e ∙ f
  same_key (x ∷ xs) a b up (zero, w, e) (suc j, v, f) h =
      let lt : key x < key b = All-contains (λ (y : X). key x < key y) xs b (first_below x xs up) (j, omega arith, f) in
      let s : key x ≡ key a = ap key e in absurd (omega arith)
  same_key (x ∷ xs) a b up (suc i, w, e) (zero, v, f) h =
      let lt : key x < key a = All-contains (λ (y : X). key x < key y) xs a (first_below x xs up) (i, omega arith, e) in
      let s : key x ≡ key b = ap key f in absurd (omega arith)
  same_key (x ∷ xs) a b up (suc i, w, e) (suc j, v, f) h = same_key xs a b (rest_rises x xs up) (i, omega arith, e)
      (j, omega arith, f) h

  pub record Parts (xs : List X) (from : ℕ) : Type 0 where
    pub before : List X
    pub rest : List X
    pub xs_are : xs ≡ before ++ rest
    pub below : All (λ (y : X). key y < from) before
    pub above : All (λ (y : X). from ≤ key y) rest

  pub low_or_high : (n m : ℕ) → (n < m) ⊎ (m ≤ n)
  low_or_high n zero = inr (omega arith)
  low_or_high zero (suc m) = inl (omega arith)
  low_or_high (suc n) (suc m) = elim (low_or_high n m) [ inl h ↦ inl (omega arith) | inr h ↦ inr (omega arith) ]

  -- each such list has two parts
  pub parted : (xs : List X) (from : ℕ) → Rises xs → Parts xs from
  parted [] from up = record {
    before = [];
    rest = [];
    xs_are = refl;
    below = All-nil
        (λ (y : X). key y < from);
    above = All-nil (λ (y : X). from ≤ key y);
  }
  parted (x ∷ xs) from up = elim (low_or_high (key x) from) [
    | inl h ↦
        let p = parted xs from (rest_rises x xs up) in
        record {
          before = x ∷ p.before;
          rest = p.rest;
          xs_are = ap
              (λ (ys : List X). x ∷ ys) p.xs_are;
          below = All-cons
              (λ (y : X). key y < from) x p.before h p.below;
          above = p.above;
        }
    | inr h ↦ record {
      before = [];
      rest = x ∷ xs;
      xs_are = refl;
      below = All-nil (λ (y : X). key y < from);
      above = All-cons (λ (y : X). from ≤ key y) x xs h (All-weaker (λ (y : X). key x < key y)
          (λ (y : X). from ≤ key y) (λ y l. omega arith) xs (first_below x xs up));
    }
  ]

  -- the later part of a list that rises
  pub later_rises : (xs ys : List X) → Rises (xs ++ ys) → Rises ys
  later_rises [] ys up = up
  later_rises (x ∷ xs) ys up = later_rises xs ys (rest_rises x (xs ++ ys) up)
