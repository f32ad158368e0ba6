-- A pass over steps comes to each node first by the path that comes before all others to it.
use Rattle.std.proofs.Common.{◌≡◌, ℕ, ◌<◌, List, [], ◌∷◌, ◌++◌, map, refl, sym, ap, ◌∙◌, subst, inl, inr, ◌⊎◌, arith}
use Rattle.wave_search.specs.inner.Spreads.{Has, IsPath, IsBefore, IsAtMost, AllBefore, InOrder, IsCovered, IsSpread}
use Rattle.wave_search.specs.inner.Spreads.{AllAbove}
use Rattle.wave_search.specs.inner.Spreads.{Ascend, AreFresh, onto}

-- ---- lists
pub has_left : {X : Type 0} (xs ys : List X) (x : X) → Has xs x → Has (xs ++ ys) x
has_left [] ys x h = absurd h
has_left (z ∷ xs) ys x h = elim h [ inl p ↦ inl p | inr q ↦ inr (has_left xs ys x q) ]

pub has_right : {X : Type 0} (xs ys : List X) (x : X) → Has ys x → Has (xs ++ ys) x
has_right [] ys x h = h
has_right (z ∷ xs) ys x h = inr (has_right xs ys x h)

pub has_cases : {X : Type 0} (xs ys : List X) (x : X) → Has (xs ++ ys) x → Has xs x ⊎ Has ys x
has_cases [] ys x h = inr h
has_cases (z ∷ xs) ys x h = elim h [
  | inl p ↦ inl (inl p)
  | inr q ↦ elim (has_cases xs ys x q) [ inl a ↦ inl (inr a) | inr b ↦ inr b ]
]

-- an element of mapped numbers
pub mapped : (path : List ℕ) (xs : List ℕ) (p : List ℕ) → Has (map (onto path) xs) p
    → (v : ℕ) × Has xs v × (v ∷ path ≡ p)
mapped path [] p h = absurd h
mapped path (x ∷ xs) p h = elim h [
  | inl e ↦ (x, inl refl, e)
  | inr q ↦ let m = mapped path xs p q in (m.0, inr m.1, m.2)
]

pub in_mapped : (path : List ℕ) (xs : List ℕ) (v : ℕ) → Has xs v → Has (map (onto path) xs) (v ∷ path)
in_mapped path [] v h = absurd h
in_mapped path (x ∷ xs) v h = elim h [
  | inl e ↦ inl (ap (onto path) e)
  | inr q ↦ inr (in_mapped path xs v q)
]

-- ---- the order of paths
before_trans : (a b c : List ℕ) → IsBefore a b → IsBefore b c → IsBefore a c
before_trans a [] [] p q = absurd q
before_trans [] [] (z ∷ c) p q = absurd p
before_trans (x ∷ a) [] (z ∷ c) p q = absurd p
before_trans a (y ∷ b) [] p q = absurd q
before_trans [] (y ∷ b) (z ∷ c) p q = tt
before_trans (x ∷ a) (y ∷ b) (z ∷ c) p q = elim p [
  | inl s ↦ elim q [
    | inl t ↦ inl (before_trans a b c s t)
    | inr t ↦ inl (subst (λ (l : List ℕ). IsBefore a l) t.0 s)
  ]
  | inr s ↦ elim q [
    | inl t ↦ inl (subst (λ (l : List ℕ). IsBefore l c) (sym s.0) t)
    | inr t ↦ inr (s.0 ∙ t.0, omega (arith, s.1, t.1))
  ]
]

before_longer : (p : List ℕ) (v : ℕ) → IsBefore p (v ∷ p)
before_longer [] v = tt
before_longer (x ∷ p) v = inl (before_longer p x)

most_trans : (a b c : List ℕ) → IsAtMost a b → IsAtMost b c → IsAtMost a c
most_trans a b c p q = elim p [
  | inl s ↦ elim q [
    | inl t ↦ inl (before_trans a b c s t)
    | inr t ↦ inl (subst (λ (l : List ℕ). IsBefore a l) t s)
  ]
  | inr s ↦ subst (λ (l : List ℕ). IsAtMost l c) (sym s) q
]

most_onto : (a b : List ℕ) (v : ℕ) → IsAtMost a b → IsAtMost (v ∷ a) (v ∷ b)
most_onto a b v p = elim p [ inl s ↦ inl (inl s) | inr s ↦ inr (ap (λ (l : List ℕ). v ∷ l) s) ]

-- ---- sorted lists of paths
all_before : (p : List ℕ) (qs : List (List ℕ)) → ((q : List ℕ) → Has qs q → IsBefore p q) → AllBefore p qs
all_before p [] f = tt
all_before p (q ∷ qs) f = (f q (inl refl), all_before p qs (λ r h. f r (inr h)))

before_all : (p : List ℕ) (qs : List (List ℕ)) (q : List ℕ) → AllBefore p qs → Has qs q → IsBefore p q
before_all p [] q f h = absurd h
before_all p (r ∷ qs) q f h = elim h [
  | inl e ↦ subst (λ (l : List ℕ). IsBefore p l) e f.0
  | inr k ↦ before_all p qs q f.1 k
]

in_order : (ps qs : List (List ℕ)) → InOrder ps → InOrder qs
    → ((p q : List ℕ) → Has ps p → Has qs q → IsBefore p q) → InOrder (ps ++ qs)
in_order [] qs f g h = g
in_order (p ∷ ps) qs f g h = (
  all_before p (ps ++ qs) (λ q k. elim (has_cases ps qs q k) [
    | inl a ↦ before_all p ps q f.0 a
    | inr b ↦ h p q (inl refl) b
  ]),
  in_order ps qs f.1 g (λ a b c d. h a b (inr c) d),
)

above_all : (x : ℕ) (ys : List ℕ) (y : ℕ) → AllAbove x ys → Has ys y → x < y
above_all x [] y f h = absurd h
above_all x (z ∷ ys) y f h = elim h [
  | inl e ↦ omega (arith, f.0, e)
  | inr k ↦ above_all x ys y f.1 k
]

mapped_order : (path : List ℕ) (xs : List ℕ) → Ascend xs → InOrder (map (onto path) xs)
mapped_order path [] f = tt
mapped_order path (x ∷ xs) f = (
  all_before (x ∷ path) (map (onto path) xs) (λ q h. let m = mapped path xs q h in
      subst (λ (l : List ℕ). IsBefore (x ∷ path) l) m.2 (inr (refl, above_all x xs m.0 f.0 m.1))),
  mapped_order path xs f.1,
)

pub append_assoc : {X : Type 0} (xs : List X) (y : X) (ys zs : List X)
    → (xs ++ y ∷ []) ++ (ys ++ zs) ≡ (xs ++ y ∷ ys) ++ zs
append_assoc [] y ys zs = refl
append_assoc {X} (x ∷ xs) y ys zs = ap (λ (l : List X). x ∷ l) (append_assoc xs y ys zs)

-- ---- the beginning
pub begins : (R : ℕ → Type 0) (T : ℕ → ℕ → Type 0) (roots : List ℕ) → Ascend roots → ((v : ℕ) → Has roots v → R v)
    → ((v : ℕ) → R v → Has roots v) → IsSpread R T [] (map (onto []) roots)
begins R T roots up led every = record {
  paths = λ p h. let m = mapped [] roots p h in subst (IsPath R T) m.2 (led m.0 m.1);
  roots = λ v r. in_mapped [] roots v (every v r);
  onward = λ u v back h t. absurd h;
  capped = λ p q v h k. let m = mapped [] roots p h in let n = mapped [] roots q k in
      subst (λ (l : List ℕ). IsBefore l (v ∷ q)) m.2
      (subst (λ (l : List ℕ). IsBefore (m.0 ∷ []) (v ∷ l)) n.2 (inl tt));
  sorted = mapped_order [] roots up;
}

-- ---- going on
pub goes_on : (R : ℕ → Type 0) (T : ℕ → ℕ → Type 0) (done rest : List (List ℕ)) (u : ℕ) (back fresh : List ℕ)
    → IsSpread R T done ((u ∷ back) ∷ rest) → AreFresh T (done ++ (u ∷ back) ∷ rest) u fresh
    → IsSpread R T (done ++ (u ∷ back) ∷ []) (rest ++ map (onto (u ∷ back)) fresh)
goes_on R T done rest u back fresh s f =
    let path : List ℕ = u ∷ back in
    let old : List (List ℕ) = done ++ path ∷ rest in
    let new : List (List ℕ) = map (onto path) fresh in
    let same : (done ++ path ∷ []) ++ (rest ++ new) ≡ old ++ new = append_assoc done path rest new in
    let from_new : (p : List ℕ) → Has ((done ++ path ∷ []) ++ (rest ++ new)) p → Has old p ⊎ Has new p
    = λ p h. has_cases old new p (subst (λ (l : List (List ℕ)). Has l p) same h) in
    let into_old : (p : List ℕ) → Has old p → Has ((done ++ path ∷ []) ++ (rest ++ new)) p
    = λ p h. subst (λ (l : List (List ℕ)). Has l p) (sym same) (has_left old new p h) in
    let into_new : (p : List ℕ) → Has new p → Has ((done ++ path ∷ []) ++ (rest ++ new)) p
    = λ p h. subst (λ (l : List (List ℕ)). Has l p) (sym same) (has_right old new p h) in
    let here : Has (path ∷ rest) path = inl refl in
    let path_in : Has old path = has_right done (path ∷ rest) path here in
    record {
      paths = λ p h. elim (from_new p h) [
        | inl a ↦ s.paths p a
        | inr b ↦ let m = mapped path fresh p b in
            subst (IsPath R T) m.2 (f.led m.0 m.1, s.paths path path_in)
      ];
      roots = λ v r. into_old (v ∷ []) (s.roots v r);
      onward = λ x v ys h t. elim (has_cases done (path ∷ []) (x ∷ ys) h) [
        | inl a ↦ let o = s.onward x v ys a t in
            record { back = o.back; there = into_old (v ∷ o.back) o.there; most = o.most }
        | inr b ↦ elim b [
          | inl e ↦ subst (λ (l : List ℕ). IsCovered ((done ++ path ∷ []) ++ (rest ++ new)) (v ∷ l) v) e
              (elim (f.every v (subst (λ (y : ℕ). T y v) (sym (head_of u x back ys e)) t)) [
                | inl k ↦
                    record { back = path; there = into_new (v ∷ path) (in_mapped path fresh v k); most = inr refl }
                | inr k ↦ record {
                  back = k.0;
                  there = into_old (v ∷ k.0) k.1;
                  most = inl (s.capped (v ∷ k.0) path v k.1 here);
                }
              ])
          | inr n ↦ absurd n
        ]
      ];
      capped = λ p q v h k. elim (has_cases rest new q k) [
        | inl a ↦ elim (from_new p h) [
          | inl b ↦ s.capped p q v b (inr a)
          | inr b ↦ let m = mapped path fresh p b in subst (λ (l : List ℕ). IsBefore l (v ∷ q)) m.2
              (inl (before_all path rest q s.sorted.0 a))
        ]
        | inr a ↦ let n = mapped path fresh q a in elim (from_new p h) [
          | inl b ↦ subst (λ (l : List ℕ). IsBefore p (v ∷ l)) n.2
              (before_trans p (n.0 ∷ path) (v ∷ n.0 ∷ path) (s.capped p path n.0 b here) (before_longer (n.0 ∷ path) v))
          | inr b ↦ let m = mapped path fresh p b in subst (λ (l : List ℕ). IsBefore l (v ∷ q)) m.2
              (subst (λ (l : List ℕ). IsBefore (m.0 ∷ path) (v ∷ l)) n.2 (inl (before_longer path n.0)))
        ]
      ];
      sorted = in_order rest new s.sorted.1 (mapped_order path fresh f.ascend) (λ p q a b.
          let n = mapped path fresh q b in subst (λ (l : List ℕ). IsBefore p l) n.2
          (s.capped p path n.0 (has_right done (path ∷ rest) p (inr a)) here));
    }
  where
    head_of : (x y : ℕ) (xs ys : List ℕ) → x ∷ xs ≡ y ∷ ys → x ≡ y
    head_of x y xs ys e = cc

-- ---- what comes first
module _ (R : ℕ → Type 0) (T : ℕ → ℕ → Type 0) (done rest : List (List ℕ)) (first : List ℕ)
    (s : IsSpread R T done (first ∷ rest)) where
  waits : (p : List ℕ) → Has (first ∷ rest) p → IsAtMost first p
  waits p h = elim h [ inl e ↦ inr e | inr k ↦ inl (before_all first rest p s.sorted.0 k) ]

  step : (u v : ℕ) (back : List ℕ) → T u v
      → IsCovered (done ++ first ∷ rest) (u ∷ back) u ⊎ IsAtMost first (u ∷ back)
      → IsCovered (done ++ first ∷ rest) (v ∷ u ∷ back) v ⊎ IsAtMost first (v ∷ u ∷ back)
  step u v back t c = elim c [
    | inl k ↦ elim (has_cases done (first ∷ rest) (u ∷ k.back) k.there) [
      | inl a ↦ let o = s.onward u v k.back a t in inl (record {
        back = o.back;
        there = o.there;
        most = most_trans (v ∷ o.back) (v ∷ u ∷ k.back) (v ∷ u ∷ back) o.most
            (most_onto (u ∷ k.back) (u ∷ back) v k.most);
      })
      | inr b ↦ inr (most_trans first (u ∷ back) (v ∷ u ∷ back)
          (most_trans first (u ∷ k.back) (u ∷ back) (waits (u ∷ k.back) b) k.most) (inl (before_longer (u ∷ back) v)))
    ]
    | inr m ↦ inr (most_trans first (u ∷ back) (v ∷ u ∷ back) m (inl (before_longer (u ∷ back) v)))
  ]

  covers : (v : ℕ) (back : List ℕ) → IsPath R T (v ∷ back)
      → IsCovered (done ++ first ∷ rest) (v ∷ back) v ⊎ IsAtMost first (v ∷ back)
  covers v [] p = inl (record { back = []; there = s.roots v p; most = inr refl })
  covers v (u ∷ back) p = step u v back p.0 (covers u back p.1)

pub first : (R : ℕ → Type 0) (T : ℕ → ℕ → Type 0) (G : ℕ → Type 0) (done rest : List (List ℕ)) (path : List ℕ)
    → IsSpread R T done (path ∷ rest) → ((u : ℕ) (back : List ℕ) → Has done (u ∷ back) → G u → ⊥)
    → (g : ℕ) (back : List ℕ) → IsPath R T (g ∷ back) → G g → IsAtMost path (g ∷ back)
first R T G done rest path s none g back p goal = elim (covers R T done rest path s g back p) [
  | inl k ↦ elim (has_cases done (path ∷ rest) (g ∷ k.back) k.there) [
    | inl a ↦ absurd (none g k.back a goal)
    | inr b ↦ most_trans path (g ∷ k.back) (g ∷ back) (waits R T done rest path s (g ∷ k.back) b) k.most
  ]
  | inr m ↦ m
]

-- ---- where none waits
pub misses : (R : ℕ → Type 0) (T : ℕ → ℕ → Type 0) (G : ℕ → Type 0) (done : List (List ℕ))
    → IsSpread R T done [] → ((u : ℕ) (back : List ℕ) → Has done (u ∷ back) → G u → ⊥)
    → (g : ℕ) (back : List ℕ) → IsPath R T (g ∷ back) → G g → ⊥
misses R T G done s none g back p goal =
    let k = all_covered g back p in none g k.back (whole (g ∷ k.back) k.there) goal
  where
    whole : (p : List ℕ) → Has (done ++ []) p → Has done p
    whole p h = elim (has_cases done [] p h) [ inl a ↦ a | inr b ↦ absurd b ]

    all_covered : (v : ℕ) (back : List ℕ) → IsPath R T (v ∷ back) → IsCovered (done ++ []) (v ∷ back) v
    all_covered v [] p = record { back = []; there = s.roots v p; most = inr refl }
    all_covered v (u ∷ back) p = let k = all_covered u back p.1 in
        let o = s.onward u v k.back (whole (u ∷ k.back) k.there) p.0 in record {
          back = o.back;
          there = o.there;
          most = most_trans (v ∷ o.back) (v ∷ u ∷ k.back) (v ∷ u ∷ back) o.most
              (most_onto (u ∷ k.back) (u ∷ back) v k.most);
        }
