-- What is known of the touched nodes after a write.
use Rattle.std.proofs.Common.{◌≡◌, ℕ, ◌<◌, List, [], ◌∷◌, ◌++◌, length, Option, Some, None, Bool, true, false}
use Rattle.std.proofs.Common.{get_or, length-append, sym, refl, ◌∙◌, subst, inl, inr, arith}
use Rattle.std.proofs.lemmas.List.{get_or_append_left}
use Rattle.std.specs.Prelude.{Contains, All}
use Rattle.std.proofs.lemmas.List.Elements.{All-push, Contains-append_left, Contains-push, Contains-push_cases}
use Rattle.std.proofs.lemmas.Option.{none-some}
use Rattle.wave_search.specs.declared.rows.Label.{Label}
use Rattle.wave_search.specs.inner.State.{label_at, IsPut}
use Rattle.wave_search.specs.inner.Rows.{AreTouched}
use Rattle.wave_search.proofs.Steps.{same_or_not, put_cases}

labelled_put : (t t' : List (Option Label)) (v : ℕ) (l : Label) → IsPut t v l t' → (u : ℕ)
    → (k : Label) × (label_at t u ≡ Some k) → (k : Label) × (label_at t' u ≡ Some k)
labelled_put t t' v l w u was = elim (same_or_not u v) [
  | inl p ↦ (l, subst (λ (y : ℕ). label_at t' y ≡ Some l) (sym p) w.here)
  | inr p ↦ (was.0, w.others u p ∙ was.1)
]

nodes_kept : (t t' : List (Option Label)) (touched : List ℕ) → length t' ≡ length t → All (λ u. u < length t) touched
    → All (λ u. u < length t') touched
nodes_kept t t' touched same all = λ k d h. omega (arith, all k d h, same)

-- a node gets a label where some aren't listed any more
pub touched_past : (t t' : List (Option Label)) (unlisted : Bool) (touched : List ℕ) → AreTouched t unlisted touched
    → length t' ≡ length t → AreTouched t' true touched
touched_past t t' unlisted touched a same = record {
  nodes = nodes_kept t t' touched same a.nodes;
  covers = λ h. absurd (true_false h);
  labelled = λ h. absurd (true_false h);
}
  where
    true_false : true ≡ false → ⊥
    true_false h = cc

-- a node that has a label gets another
pub touched_kept : (t t' : List (Option Label)) (unlisted : Bool) (touched : List ℕ) (v : ℕ) (l k : Label)
    → AreTouched t unlisted touched → IsPut t v l t' → label_at t v ≡ Some k → AreTouched t' unlisted touched
touched_kept t t' unlisted touched v l k a w was = record {
  nodes = nodes_kept t t' touched w.size a.nodes;
  covers = λ all u x f. elim (put_cases t v l t' w u x f) [
    | inl p ↦ a.covers all u k (subst (λ (y : ℕ). label_at t y ≡ Some k) (sym p.0) was)
    | inr p ↦ a.covers all u x p.1
  ];
  labelled = λ all u c. labelled_put t t' v l w u (a.labelled all u c);
}

-- a node gets its first label
pub touched_more : (t t' : List (Option Label)) (unlisted : Bool) (touched more : List ℕ) (v : ℕ) (l : Label)
    → AreTouched t unlisted touched → IsPut t v l t' → v < length t → more ≡ touched ++ v ∷ []
    → AreTouched t' unlisted more
touched_more t t' unlisted touched more v l a w h same =
    subst (λ (xs : List ℕ). AreTouched t' unlisted xs) (sym same) (record {
      nodes = nodes_kept t t' (touched ++ v ∷ []) w.size (All-push (λ u. u < length t) touched v a.nodes h);
      covers = λ all u x f. elim (put_cases t v l t' w u x f) [
        | inl p ↦ subst (λ (y : ℕ). Contains (touched ++ v ∷ []) y) (sym p.0) (Contains-push touched v)
        | inr p ↦ Contains-append_left touched (v ∷ []) u (a.covers all u x p.1)
      ];
      labelled = λ all u c. elim (Contains-push_cases touched v u c) [
        | inl p ↦ labelled_put t t' v l w u (a.labelled all u p)
        | inr p ↦ (l, subst (λ (y : ℕ). label_at t' y ≡ Some l) p w.here)
      ];
    })

none_or : (o : Option Label) → ((l : Label) → o ≡ Some l → ⊥) → o ≡ None
none_or None f = refl
none_or (Some l) f = absurd (f l refl)

-- where nothing is touched, no node has a label
pub uncovered : (t : List (Option Label)) (touched : List ℕ) → length touched ≡ 0
    → ((v : ℕ) (l : Label) → label_at t v ≡ Some l → Contains touched v) → (v : ℕ) → label_at t v ≡ None
uncovered t touched empty covers v = none_or (label_at t v) (λ l e. let k = covers v l e in omega (arith, k.1, empty))

-- where no node has a label, nothing is touched
pub untouched : (t : List (Option Label)) (unlisted : Bool) (touched : List ℕ) → ((v : ℕ) → label_at t v ≡ None)
    → touched ≡ [] → AreTouched t unlisted touched
untouched t unlisted touched none empty =
    subst (λ (ts : List ℕ). AreTouched t unlisted ts) (sym empty) (record {
      nodes = λ k d h. absurd (omega (arith, h));
      covers = λ all v l f. absurd (none-some l (sym (none v) ∙ f));
      labelled = λ all v c. absurd (omega (arith, c.1));
    })

-- without the last of the touched, the others are nodes
pub fewer_nodes : (t t' : List (Option Label)) (touched rest : List ℕ) (v : ℕ) → length t' ≡ length t
    → touched ≡ rest ++ v ∷ [] → All (λ u. u < length t) touched → All (λ u. u < length t') rest
fewer_nodes t t' touched rest v same all_is all = λ k d lt.
    let long : k < length (rest ++ v ∷ []) = omega (arith, lt, length-append rest (v ∷ [])) in
    let below : get_or (rest ++ v ∷ []) k d < length t = subst (All (λ u. u < length t)) all_is all k d long in
    omega (arith, below, same, get_or_append_left rest (v ∷ []) d k lt)

-- the last of the touched loses its label
pub cleared : (t t' : List (Option Label)) (touched rest : List ℕ) (v : ℕ) → label_at t' v ≡ None
    → ((u : ℕ) → (u ≡ v → ⊥) → label_at t' u ≡ label_at t u) → touched ≡ rest ++ v ∷ []
    → ((u : ℕ) (l : Label) → label_at t u ≡ Some l → Contains touched u)
    → (u : ℕ) (l : Label) → label_at t' u ≡ Some l → Contains rest u
cleared t t' touched rest v none others same covers u l f = elim (same_or_not u v) [
  | inl p ↦ absurd (none-some l (sym none ∙ subst (λ (y : ℕ). label_at t' y ≡ Some l) p f))
  | inr p ↦ elim (Contains-push_cases rest v u
      (subst (λ (xs : List ℕ). Contains xs u) same (covers u l (sym (others u p) ∙ f)))) [
        | inl q ↦ q
        | inr q ↦ absurd (p (sym q))
      ]
]
