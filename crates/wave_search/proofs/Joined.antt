-- Entries that wait in lists one after another.
use Rattle.std.proofs.Common.{◌≡◌, ℕ, ◌≤◌, List, [], ◌∷◌, ◌++◌, length, sym, refl, ap, subst, inl, inr}
use Rattle.std.proofs.Common.{◌⊎◌, arith, append_assoc, length-append}
use Rattle.std.specs.Prelude.{min}
use Rattle.std.proofs.lemmas.List.{map-append, length-map}
use Rattle.wave_search.specs.declared.front.Entry.{Entry}
use Rattle.wave_search.specs.declared.bins.Waiting.{Waiting}
use Rattle.wave_search.specs.inner.Waiting.{Waits, IsAdded, IsDrawn, IsTaken, IsSame}
use Rattle.wave_search.specs.inner.Order.{entry_of, entries_in, IsBounded}

-- what waits in the first list waits in both, one after the other
pub waits_left : (xs ys : List Entry) (e : Entry) → Waits xs e → Waits (xs ++ ys) e
waits_left [] ys e w = absurd w
waits_left (x ∷ xs) ys e w = elim w [ inl p ↦ inl p | inr q ↦ inr (waits_left xs ys e q) ]

-- so does what waits in the second
pub waits_right : (xs ys : List Entry) (e : Entry) → Waits ys e → Waits (xs ++ ys) e
waits_right [] ys e w = w
waits_right (x ∷ xs) ys e w = inr (waits_right xs ys e w)

-- what waits in both waits in one of them
pub waits_cases : (xs ys : List Entry) (e : Entry) → Waits (xs ++ ys) e → Waits xs e ⊎ Waits ys e
waits_cases [] ys e w = inr w
waits_cases (x ∷ xs) ys e w = elim w [
  | inl p ↦ inl (inl p)
  | inr q ↦ elim (waits_cases xs ys e q) [
    | inl a ↦ inl (inr a)
    | inr b ↦ inr b
  ]
]

-- an entry is added in the first list
pub added_left : (xs xs' ys : List Entry) (e : Entry) → IsAdded xs e xs' → IsAdded (xs ++ ys) e (xs' ++ ys)
added_left xs xs' ys e a = record {
  here = waits_left xs' ys e a.here;
  kept = λ x w. elim (waits_cases xs ys x w) [
    | inl p ↦ waits_left xs' ys x (a.kept x p)
    | inr q ↦ waits_right xs' ys x q
  ];
  only = λ x w. elim (waits_cases xs' ys x w) [
    | inl p ↦ elim (a.only x p) [ inl s ↦ inl (waits_left xs ys x s) | inr t ↦ inr t ]
    | inr q ↦ inl (waits_right xs ys x q)
  ];
  len = omega (arith, a.len, length-append xs ys, length-append xs' ys);
}

-- the same in the second
pub added_right : (xs ys ys' : List Entry) (e : Entry) → IsAdded ys e ys' → IsAdded (xs ++ ys) e (xs ++ ys')
added_right xs ys ys' e a = record {
  here = waits_right xs ys' e a.here;
  kept = λ x w. elim (waits_cases xs ys x w) [
    | inl p ↦ waits_left xs ys' x p
    | inr q ↦ waits_right xs ys' x (a.kept x q)
  ];
  only = λ x w. elim (waits_cases xs ys' x w) [
    | inl p ↦ inl (waits_left xs ys x p)
    | inr q ↦ elim (a.only x q) [ inl s ↦ inl (waits_right xs ys x s) | inr t ↦ inr t ]
  ];
  len = omega (arith, a.len, length-append xs ys, length-append xs ys');
}

-- an entry is drawn from the second list
pub drawn_right : (xs ys ys' : List Entry) (e : Entry) → IsDrawn ys e ys' → IsDrawn (xs ++ ys) e (xs ++ ys')
drawn_right xs ys ys' e d = record {
  there = waits_right xs ys e d.there;
  kept = λ x w. elim (waits_cases xs ys x w) [
    | inl p ↦ inl (waits_left xs ys' x p)
    | inr q ↦ elim (d.kept x q) [ inl s ↦ inl (waits_right xs ys' x s) | inr t ↦ inr t ]
  ];
  only = λ x w. elim (waits_cases xs ys' x w) [
    | inl p ↦ waits_left xs ys x p
    | inr q ↦ waits_right xs ys x (d.only x q)
  ];
  len = omega (arith, d.len, length-append xs ys, length-append xs ys');
}

-- the entries of the entries
pub same_trans : (xs ys zs : List Entry) → IsSame xs ys → IsSame ys zs → IsSame xs zs
same_trans xs ys zs a b = record {
  kept = λ x w. b.kept x (a.kept x w);
  only = λ x w. a.only x (b.only x w);
  len = omega (arith, a.len, b.len);
}

-- the second list has the same entries
pub same_right : (xs ys ys' : List Entry) → IsSame ys ys' → IsSame (xs ++ ys) (xs ++ ys')
same_right xs ys ys' s = record {
  kept = λ x w. elim (waits_cases xs ys x w) [
    | inl p ↦ waits_left xs ys' x p
    | inr q ↦ waits_right xs ys' x (s.kept x q)
  ];
  only = λ x w. elim (waits_cases xs ys' x w) [
    | inl p ↦ waits_left xs ys x p
    | inr q ↦ waits_right xs ys x (s.only x q)
  ];
  len = omega (arith, s.len, length-append xs ys, length-append xs ys');
}

-- the first list has the same entries
pub same_left : (xs xs' ys : List Entry) → IsSame xs xs' → IsSame (xs ++ ys) (xs' ++ ys)
same_left xs xs' ys s = record {
  kept = λ x w. elim (waits_cases xs ys x w) [
    | inl p ↦ waits_left xs' ys x (s.kept x p)
    | inr q ↦ waits_right xs' ys x q
  ];
  only = λ x w. elim (waits_cases xs' ys x w) [
    | inl p ↦ waits_left xs ys x (s.only x p)
    | inr q ↦ waits_right xs ys x q
  ];
  len = omega (arith, s.len, length-append xs ys, length-append xs' ys);
}

-- an entry that is drawn and added again
pub replaced : (xs ys zs : List Entry) (e : Entry) → IsDrawn xs e ys → IsAdded ys e zs → IsSame xs zs
replaced xs ys zs e d a = record {
  kept = λ x w. elim (d.kept x w) [ inl p ↦ a.kept x p | inr q ↦ subst (Waits zs) (sym q) a.here ];
  only = λ x w. elim (a.only x w) [ inl p ↦ d.only x p | inr q ↦ subst (Waits xs) (sym q) d.there ];
  len = omega (arith, d.len, a.len);
}

-- two lists change places around a third
pub turned : (xs ys zs : List Entry) → IsSame (xs ++ (ys ++ zs)) (zs ++ (ys ++ xs))
turned xs ys zs = record {
  kept = λ x w. elim (waits_cases xs (ys ++ zs) x w) [
    | inl p ↦ waits_right zs (ys ++ xs) x (waits_right ys xs x p)
    | inr q ↦ elim (waits_cases ys zs x q) [
      | inl s ↦ waits_right zs (ys ++ xs) x (waits_left ys xs x s)
      | inr t ↦ waits_left zs (ys ++ xs) x t
    ]
  ];
  only = λ x w. elim (waits_cases zs (ys ++ xs) x w) [
    | inl p ↦ waits_right xs (ys ++ zs) x (waits_right ys zs x p)
    | inr q ↦ elim (waits_cases ys xs x q) [
      | inl s ↦ waits_right xs (ys ++ zs) x (waits_left ys zs x s)
      | inr t ↦ waits_left xs (ys ++ zs) x t
    ]
  ];
  len = omega (
    arith,
    length-append xs (ys ++ zs),
    length-append ys zs,
    length-append zs (ys ++ xs),
    length-append ys xs,
  );
}

-- the first of four changes places with the last
pub first_turned : (n l t s : List Entry) → IsSame (n ++ (l ++ (t ++ s))) (s ++ (l ++ (t ++ n)))
first_turned n l t s = subst (λ (q : List Entry). IsSame (n ++ (l ++ (t ++ s))) (s ++ q)) (append_assoc l t n)
    (subst (λ (q : List Entry). IsSame (n ++ q) (s ++ ((l ++ t) ++ n))) (append_assoc l t s) (turned n (l ++ t) s))

-- two lists change places
pub last_turned : (t s : List Entry) → IsSame (t ++ s) (s ++ t)
last_turned t s = turned t [] s

-- an entry goes from the second list to the first
pub moved : (xs xs' ys ys' : List Entry) (e : Entry) → IsDrawn ys e ys' → IsAdded xs e xs'
    → IsSame (xs ++ ys) (xs' ++ ys')
moved xs xs' ys ys' e d a = replaced (xs ++ ys) (xs ++ ys') (xs' ++ ys') e (drawn_right xs ys ys' e d)
    (added_left xs xs' ys' e a)

-- the second list went to the first
pub emptied : (xs ys zs rest : List Entry) → IsSame (xs ++ ys) zs → IsSame (xs ++ (ys ++ rest)) (zs ++ rest)
emptied xs ys zs rest s = subst (λ (q : List Entry). IsSame q (zs ++ rest)) (append_assoc xs ys rest) (same_left
    (xs ++ ys) zs rest s)

-- where nothing waits the list is empty
pub nothing : (xs : List Entry) → ((e : Entry) → Waits xs e → ⊥) → xs ≡ []
nothing [] f = refl
nothing (x ∷ xs) f = absurd (f x (inl refl))

-- the least of the first list, where each of the second has one in the first that isn't greater
pub taken_before : (xs xs' ys : List Entry) (e : Entry) → IsTaken xs e xs' → ((y : Entry) → Waits ys y
    → (z : Entry) × Waits xs z × (z.key ≤ y.key)) → IsTaken (xs ++ ys) e (xs' ++ ys)
taken_before xs xs' ys e t f = record {
  there = waits_left xs ys e t.there;
  least = λ x w. elim (waits_cases xs ys x w) [
    | inl p ↦ t.least x p
    | inr q ↦ let z = f x q in omega (
      arith,
      t.least z.0 z.1,
      z.2,
    )
  ];
  kept = λ x w. elim (waits_cases xs ys x w) [
    | inl p ↦ elim (t.kept x p) [ inl s ↦ inl (waits_left xs' ys x s) | inr r ↦ inr r ]
    | inr q ↦ inl (waits_right xs' ys x q)
  ];
  only = λ x w. elim (waits_cases xs' ys x w) [
    | inl p ↦ waits_left xs ys x (t.only x p)
    | inr q ↦ waits_right xs ys x q
  ];
  len = omega (arith, t.len, length-append xs ys, length-append xs' ys);
}

-- what is taken from the same entries
pub taken_same : (xs ys zs : List Entry) (e : Entry) → IsSame xs ys → IsTaken ys e zs → IsTaken xs e zs
taken_same xs ys zs e s t = record {
  there = s.only e t.there;
  least = λ x w. t.least x (s.kept x w);
  kept = λ x w. t.kept x (s.kept x w);
  only = λ x w. s.only x (t.only x w);
  len = omega (arith, t.len, s.len);
}

-- a bin with an item at its end
pub binned : (items more : List Waiting) (i : Waiting) → more ≡ items ++ i ∷ []
    → IsAdded (entries_in items) (entry_of i) (entries_in more)
binned items more i e = subst (λ (q : List Waiting). IsAdded (entries_in items) (entry_of i) (entries_in q)) (sym e)
    (subst (IsAdded (entries_in items) (entry_of i)) (sym (map-append entry_of items (i ∷ []))) (record {
      here = waits_right (entries_in items) (entry_of i ∷ []) (entry_of i) (inl refl);
      kept = λ x w. waits_left (entries_in items) (entry_of i ∷ []) x w;
      only = λ x w. elim (waits_cases (entries_in items)
          (entry_of i ∷ []) x w) [ inl p ↦ inl p | inr q ↦ elim q [ inl s ↦ inr (sym s) | inr t ↦ absurd t ] ];
      len = omega (arith, length-append (entries_in items) (entry_of i ∷ []));
    }))

-- and its bound
pub bounded : (least : ℕ) (items more : List Waiting) (i : Waiting) → more ≡ items ++ i ∷ []
    → IsBounded least (entries_in items) → IsBounded (min least i.key) (entries_in more)
bounded least items more i e b x w = elim ((binned items more i e).only x w) [
  | inl p ↦ omega (
    arith,
    b x p,
  )
  | inr q ↦ omega (arith, ap (λ (y : Entry). y.key) q)
]

-- a bin without the item at its end
pub unbinned : (items fewer : List Waiting) (i : Waiting) → items ≡ fewer ++ i ∷ []
    → IsDrawn (entries_in items) (entry_of i) (entries_in fewer)
unbinned items fewer i e = let a = binned fewer items i e in record {
  there = a.here;
  kept = a.only;
  only = a.kept;
  len = omega (
    arith,
    ap (length {A = Waiting}) e,
    length-append fewer (i ∷ []),
    length-map items entry_of,
    length-map fewer entry_of,
  );
}

-- a bound from below on the keys of four lists
pub far_bound : (n l t s : List Entry) (a b d f : ℕ) → IsBounded a n → IsBounded b l → IsBounded d t
    → IsBounded f s → (g h k : ℕ) → g ≡ min a b → h ≡ min d f → k ≡ min g h → IsBounded k (n ++ (l ++ (t ++ s)))
far_bound n l t s a b d f p q r u g h k x y z e w = elim (waits_cases n (l ++ (t ++ s)) e w) [
  | inl i ↦ omega (arith, p e i)
  | inr j ↦ elim (waits_cases l (t ++ s) e j) [
    | inl i ↦ omega (arith, q e i)
    | inr m ↦ elim (waits_cases t s e m) [ inl i ↦ omega (arith, r e i) | inr o ↦ omega (arith, u e o) ]
  ]
]

-- of four lists after a first, the first and the last change places
pub first_swapped : (near n l t s : List Entry)
    → IsSame (near ++ (n ++ (l ++ (t ++ s)))) (near ++ (s ++ (l ++ (t ++ n))))
first_swapped near n l t s = same_right near (n ++ (l ++ (t ++ s))) (s ++ (l ++ (t ++ n))) (first_turned n l t s)

-- the second and the last
pub second_swapped : (near n l t s : List Entry)
    → IsSame (near ++ (n ++ (l ++ (t ++ s)))) (near ++ (n ++ (s ++ (t ++ l))))
second_swapped near n l t s = same_right near (n ++ (l ++ (t ++ s))) (n ++ (s ++ (t ++ l))) (same_right n (l ++
    (t ++ s)) (s ++ (t ++ l)) (turned l t s))

-- the third and the last
pub third_swapped : (near n l t s : List Entry)
    → IsSame (near ++ (n ++ (l ++ (t ++ s)))) (near ++ (n ++ (l ++ (s ++ t))))
third_swapped near n l t s = same_right near (n ++ (l ++ (t ++ s))) (n ++ (l ++ (s ++ t))) (same_right n (l ++
    (t ++ s)) (l ++ (s ++ t)) (same_right l (t ++ s) (s ++ t) (last_turned t s)))

-- an entry is added to the first of four lists after a first
pub added_first : (near n n' l t s : List Entry) (e : Entry) → IsAdded n e n'
    → IsAdded (near ++ (n ++ (l ++ (t ++ s)))) e (near ++ (n' ++ (l ++ (t ++ s))))
added_first near n n' l t s e a = added_right near _ _ e (added_left n n' (l ++ (t ++ s)) e a)

-- to the second
pub added_second : (near n l l' t s : List Entry) (e : Entry) → IsAdded l e l'
    → IsAdded (near ++ (n ++ (l ++ (t ++ s)))) e (near ++ (n ++ (l' ++ (t ++ s))))
added_second near n l l' t s e a = added_right near _ _ e (added_right n _ _ e (added_left l l' (t ++ s) e a))

-- to the third
pub added_third : (near n l t t' s : List Entry) (e : Entry) → IsAdded t e t'
    → IsAdded (near ++ (n ++ (l ++ (t ++ s)))) e (near ++ (n ++ (l ++ (t' ++ s))))
added_third near n l t t' s e a = added_right near _ _ e (added_right n _ _ e (added_right l _ _ e
    (added_left t t' s e a)))

-- an entry is drawn from the last of them
pub drawn_last : (near n l t s s' : List Entry) (e : Entry) → IsDrawn s e s'
    → IsDrawn (near ++ (n ++ (l ++ (t ++ s)))) e (near ++ (n ++ (l ++ (t ++ s'))))
drawn_last near n l t s s' e d = drawn_right near _ _ e (drawn_right n _ _ e (drawn_right l _ _ e
    (drawn_right t s s' e d)))

-- four lists without entries
pub none_of_four : (n l t s : List Entry) → n ≡ [] → l ≡ [] → t ≡ [] → s ≡ [] → (e : Entry)
    → Waits (n ++ (l ++ (t ++ s))) e → ⊥
none_of_four n l t s p q r u e w =
    elim (waits_cases n (l ++ (t ++ s)) e w) [
      | inl i ↦ subst (λ (z : List Entry). Waits z e) p i
      | inr j ↦ elim (waits_cases l (t ++ s) e j) [
        | inl i ↦ subst (λ (z : List Entry). Waits z e) q i
        | inr m ↦ elim (waits_cases t s e m) [
          | inl i ↦ subst (λ (z : List Entry). Waits z e) r i
          | inr o ↦ subst (λ (z : List Entry). Waits z e) u o
        ]
      ]
    ]

-- four lists went to a first, one after another
pub all_emptied : (near n l t s n1 n2 n3 n4 n' l' t' s' : List Entry) → IsSame (near ++ n) n1 → IsSame (n1 ++ l) n2
    → IsSame (n2 ++ t) n3 → IsSame (n3 ++ s) n4 → n' ≡ [] → l' ≡ [] → t' ≡ [] → s' ≡ []
    → IsSame (near ++ (n ++ (l ++ (t ++ s)))) (n4 ++ (n' ++ (l' ++ (t' ++ s'))))
all_emptied near n l t s n1 n2 n3 n4 n' l' t' s' a b d f p q r u =
    let one : IsSame (near ++ (n ++ (l ++ (t ++ s)))) (n1 ++ (l ++ (t ++ s))) = emptied near n n1 (l ++ (t ++ s)) a in
    let two : IsSame (n1 ++ (l ++ (t ++ s))) (n2 ++ (t ++ s)) = emptied n1 l n2 (t ++ s) b in
    let three : IsSame (n2 ++ (t ++ s)) (n3 ++ s) = emptied n2 t n3 s d in
    let four : IsSame (near ++ (n ++ (l ++ (t ++ s)))) n4 = same_trans _ _ _ one (same_trans _ _ _ two
    (same_trans _ _ _ three f)) in
    let rest : n' ++ (l' ++ (t' ++ s')) ≡ [] = nothing (n' ++ (l' ++ (t' ++ s'))) (none_of_four n' l' t' s' p q r u) in
    same_trans _ _ _ four (with_none n4 (n' ++ (l' ++ (t' ++ s'))) rest)
  where
    with_none : (xs ys : List Entry) → ys ≡ [] → IsSame xs (xs ++ ys)
    with_none xs ys e = record {
      kept = λ x w. waits_left xs ys x w;
      only = λ x w. elim (waits_cases xs ys x w) [
        | inl p ↦ p
        | inr q ↦ absurd (subst (λ (z : List Entry). Waits z x) e q)
      ];
      len = omega (arith, length-append xs ys, ap (length {A = Entry}) e);
    }

-- nothing waits where the first list is empty, and each of the second would have one in it
pub nothing_waits : (near near' far old : List Entry) → near ≡ [] → near' ≡ [] → ((y : Entry) → Waits far y
    → (z : Entry) × Waits near z × (z.key ≤ y.key)) → IsSame old (near ++ far) → (old ≡ []) × ((near' ++ far) ≡ [])
nothing_waits near near' far old p q f s =
    let none_far : (y : Entry) → Waits far y → ⊥ = λ y w. subst (λ (z : List Entry). Waits z (f y w).0) p (f y w).1 in (
      nothing old (λ y w. elim (waits_cases near far y (s.kept y w)) [
        | inl i ↦ subst (λ (z : List Entry). Waits z y) p i
        | inr j ↦ none_far y j
      ]),
      nothing (near' ++ far) (λ y w. elim (waits_cases near' far y w) [
        | inl i ↦ subst (λ (z : List Entry). Waits z y) q i
        | inr j ↦ none_far y j
      ]),
    )
