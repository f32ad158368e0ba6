-- How a search begins, and what it hands out.
use Rattle.std.proofs.Common.{◌≡◌, ℕ, ◌+◌, ◌*◌, ◌^◌, ◌<◌, ◌≤◌, List, [], ◌∷◌, ◌++◌, length, take, Option, Some, None}
use Rattle.std.proofs.Common.{sym, refl, ap, ◌∙◌, subst, inl, inr, arith, get_or}
use Rattle.std.proofs.lemmas.List.Elements.{Contains-append_left, Contains-push, Contains-push_cases}
use Rattle.wave_search.specs.declared.rows.Label.{Label}
use Rattle.wave_search.specs.declared.front.Entry.{Entry}
use Rattle.wave_search.specs.inner.Waiting.{Waits, IsAdded}
use Rattle.route_lattice.specs.Walks.{MoveGraph}
use Rattle.wave_search.specs.inner.State.{label_at, done_by, IsPut, entry, Comes, IsState}
use Rattle.std.proofs.lemmas.List.{take_more}
use Rattle.wave_search.proofs.Steps.{put_cases, cheap_kept, comes_kept, zero_or, not_done}

more_starts : (graph : MoveGraph) (xs ys : List ℕ) (t : List (Option Label)) (v p r : ℕ) (o : Option ℕ)
    → Comes graph xs t v p r o → Comes graph (xs ++ ys) t v p r o
more_starts graph xs ys t v p r None c = (Contains-append_left xs ys v c.0, c.1)
more_starts graph xs ys t v p r (Some o) c = c

-- one more start has its label and waits
pub seeded_one : (graph : MoveGraph) (xs goals : List ℕ) (low : ℕ → ℕ) (t : List (Option Label)) (q : List Entry)
    → IsState graph xs goals low t q 0 0 0 graph.arity
    → (s : ℕ) (l : Label) → l.price ≡ 0 → l.rank ≡ 0 → l.origin ≡ None → (t' : List (Option Label)) (q' : List Entry)
    → IsPut t s l t' → IsAdded q (entry (low s) s) q' → IsState graph (xs ++ s ∷ []) goals low t' q' 0 0 0 graph.arity
seeded_one graph xs goals low t q i s l price_is rank_is origin_is t' q' w a = record {
  roots = record {
    size = w.size ∙ i.roots.size;
    comes = λ v k h. elim (put_cases t s l t' w v k h) [
      | inl p ↦ subst (λ (y : ℕ × Label). Comes graph (xs ++ s ∷ []) t' y.0 y.1.price y.1.rank y.1.origin)
          (λ x. (sym p.0 x, sym p.1 x))
          (subst (λ (o : Option ℕ). Comes graph (xs ++ s ∷ []) t' s l.price l.rank o) (sym origin_is)
          (Contains-push xs s, price_is))
      | inr p ↦ comes_kept graph (xs ++ s ∷ []) t s l t' w none_is_done v k.price k.rank k.origin
          (more_starts graph xs (s ∷ []) t v k.price k.rank k.origin (i.roots.comes v k p.1))
    ];
  };
  seeded = λ x c. elim (Contains-push_cases xs s x c) [
    | inl p ↦ cheap_kept t s l t' w (λ k h. omega (arith, price_is)) x 0 (i.seeded x p)
    | inr p ↦ record {
      label = l;
      there = subst (λ (y : ℕ). label_at t' y ≡ Some l) p w.here;
      cheap = omega (arith, price_is);
    }
  ];
  priced = λ v k h. elim (put_cases t s l t' w v k h) [
    | inl p ↦ subst (λ (y : Label). y.price + 2 ^ 35 * done_by y.rank ≤ 2 ^ 35 * 0) (sym p.1)
        (omega (arith, price_is, ap done_by rank_is))
    | inr p ↦ i.priced v k p.1
  ];
  ranked = λ v k h. elim (put_cases t s l t' w v k h) [
    | inl p ↦ omega (arith, rank_is, ap (λ (y : Label). y.rank) p.1)
    | inr p ↦ i.ranked v k p.1
  ];
  waits = λ v k h z. elim (put_cases t s l t' w v k h) [
    | inl p ↦ subst (λ (e : Entry). Waits q' e) (λ x. entry (at_start v k p.0 p.1 x) (sym p.0 x)) a.here
    | inr p ↦ a.kept (entry (k.price + low v) v) (i.waits v k p.1 z)
  ];
  settled = λ v k h d. absurd (never v k h d);
  no_goal = λ v k h d g. never v k h d;
  relaxed = λ v k h e d c o. absurd (never v k e d);
  above = λ e h. omega arith;
  labelled = λ e h. elim (a.only e h) [
    | inl p ↦ let b = i.labelled e p in
        (b.0, cheap_kept t s l t' w (λ k2 e2. omega (arith, price_is)) e.node b.0 b.1, b.2)
    | inr p ↦ (
      0,
      record {
        label = l;
        there = subst (λ (x : ℕ). label_at t' x ≡ Some l) (λ x. (sym p x).node) w.here;
        cheap = omega (arith, price_is);
      },
      omega (arith, ap (λ (x : Entry). x.key) p, ap (λ (x : Entry). low x.node) p),
    )
  ];
  done = omega (arith, w.done, not_done (label_at t s) none_is_done, ap done_by rank_is, i.done);
}
  where
    none_is_done : (k : Label) → label_at t s ≡ Some k → k.rank ≡ 0
    none_is_done k h = zero_or k.rank (λ d. omega (arith, d, i.ranked s k h))

    never : (v : ℕ) (k : Label) → label_at t' v ≡ Some k → 0 < k.rank → ⊥
    never v k h d = elim (put_cases t s l t' w v k h) [
      | inl p ↦ omega (arith, d, rank_is, ap (λ (y : Label). y.rank) p.1)
      | inr p ↦ omega (arith, d, i.ranked v k p.1)
    ]

    at_start : (v : ℕ) (k : Label) → v ≡ s → k ≡ l → low s ≡ k.price + low v
    at_start v k e f = omega (arith, ap low e, price_is, ap (λ (y : Label). y.price) f)

pub seed_step : (graph : MoveGraph) (starts xs goals : List ℕ) (low : ℕ → ℕ) (t : List (Option Label)) (q : List Entry)
    (i key : ℕ) → xs ≡ starts → i < length xs → IsState graph (take i starts) goals low t q 0 0 0 graph.arity
    → key ≡ low (get_or xs i 0) → (t' : List (Option Label)) (q' : List Entry)
    → IsPut t (get_or xs i 0) (record { price = 0; rank = 0; origin = None }) t'
    → IsAdded q (entry key (get_or xs i 0)) q'
    → IsState graph (take (i + 1) starts) goals low t' q' 0 0 0 graph.arity
seed_step graph starts xs goals low t q i key e h inv key_is t' q' w a =
    let before : IsState graph (take i xs) goals low t q 0 0 0 graph.arity =
    subst (λ (ys : List ℕ). IsState graph (take i ys) goals low t q 0 0 0 graph.arity) (sym e) inv in
    let s : ℕ = get_or xs i 0 in
    let after : IsState graph (take i xs ++ s ∷ []) goals low t' q' 0 0 0 graph.arity =
    seeded_one graph (take i xs) goals low t q before s (record { price = 0; rank = 0; origin = None }) refl refl
    refl t' q' w (subst (λ (k : ℕ). IsAdded q (entry k s) q') key_is a) in
    subst (λ (ys : List ℕ). IsState graph (take (i + 1) ys) goals low t' q' 0 0 0 graph.arity) e
    (subst (λ (ys : List ℕ). IsState graph ys goals low t' q' 0 0 0 graph.arity) (sym (take_more xs i 0 h)) after)
