-- Spines that keep a distance: as the code finds it, and the laws of keeping.
use Rattle.std.proofs.Common.{◌≡◌, ℕ, ◌<◌, ◌≤◌, ◌⊎◌, inl, inr, ⊎_elim, List, [], ◌∷◌, All, Any, ◌↔◌, IsTrue, Bool, true}
use Rattle.std.proofs.Common.{false, not, true≢false, ℤ, pos, ◌≤ℤ◌, ◌<ℤ◌, refl, sym, ◌∙◌, subst, arith}
use Rattle.std.proofs.lemmas.Int.{ints, by_lt_z}
use Rattle.std.proofs.lemmas.List.Elements.{All-nil, All-cons, All-head, All-tail}
use Rattle.geo_kernel.specs.declared.point.Point.{Point}
use Rattle.geo_kernel.specs.declared.point.Rect4.{Rect4}
use Rattle.geo_kernel.specs.declared.spine.Spine.{Spine}
use Rattle.geo_kernel.specs.declared.spine.Spine.TheVariants.{Chain}
use Rattle.geo_kernel.specs.declared.close.Closeness.{Closeness}
use Rattle.geo_kernel.specs.declared.close.Closeness.TheVariants.{Nearer}
use Rattle.geo_kernel.specs.Plane.{SegmentsKeep}
use Rattle.geo_kernel.specs.Spine.{Keeps, Touches, chain_segments, spine_segments, BeginsInside, IsFirst, SpinesKeep}
use Rattle.geo_kernel.specs.Spine.{Segment, SpinesTouch}
use Rattle.geo_kernel.specs.Boxes.{IsIn, IsInBox, IsParted}
use Rattle.geo_kernel.specs.Close.{IsClose, IsCloseTo, IsMovedClose, IsInsideSpine}
use Rattle.geo_kernel.proofs.Paths.{Any-here, Any-there, Any-cases, Any-nil}
use Rattle.geo_kernel.proofs.Segments.{keep_swapped, touch_swapped, keep_less, keep_no_touch}
use Rattle.geo_kernel.proofs.Boxes.{parted_keep}
use Rattle.geo_kernel.proofs.Ends.{segments_have}
use Rattle.geo_kernel.proofs.Outside.{begins_outside}
use Rattle.geo_kernel.proofs.Moves.{spine_stays, spine_told}
use Rattle.geo_kernel.proofs.Firsts.{begins_is}

-- ---- all keep where none is nearer
stable : (a b c d : Point) (k : ℕ) → ¬ (¬ (SegmentsKeep a b c d k)) → SegmentsKeep a b c d k
stable a b c d k h =
    record { keep = λ n s t p q r. by_lt_z _ _ (λ l. absurd (h (λ x. clash _ _ l (x.keep n s t p q r)))) (λ l. l) }
  where
    clash : (x y : ℤ) → x <ℤ y → y ≤ℤ x → ⊥
    clash x y h k = omega (arith, ints)

module _ {X : Type 0} (P Q : X → Type 0) where
  none_all : ((x : X) → ¬ (Q x) → P x) → (xs : List X) → ¬ (Any Q xs) → All P xs
  none_all f [] h = All-nil P
  none_all f (x ∷ xs) h =
      All-cons P x xs (f x (λ q. h (Any-here Q x xs q))) (none_all f xs (λ q. h (Any-there Q x xs q)))

  all_none : ((x : X) → P x → ¬ (Q x)) → (xs : List X) → All P xs → ¬ (Any Q xs)
  all_none f [] h q = Any-nil Q q
  all_none f (x ∷ xs) h q =
      ⊎_elim (λ a. f x (All-head P x xs h) a) (λ a. all_none f xs (All-tail P x xs h) a) (Any-cases Q x xs q)

module _ (s t : Spine) (k : ℕ) where
  pub keep_if : ¬ (Any (IsCloseTo Nearer k t) (spine_segments s)) → ¬ (BeginsInside s t ⊎ BeginsInside t s)
      → SpinesKeep s t k
  keep_if far out = record {
    segments = none_all (λ g. All (Keeps k g) (spine_segments t)) (IsCloseTo Nearer k t)
        (λ g. none_all (Keeps k g) (λ h. ¬ (Keeps k g h)) (λ h. stable g.from g.to h.from h.to k) (spine_segments t))
        (spine_segments s) far;
    s_outside = λ x. out (inl x);
    t_outside = λ x. out (inr x);
  }

  pub keep_far : SpinesKeep s t k → ¬ (Any (IsCloseTo Nearer k t) (spine_segments s))
  keep_far h =
      all_none (λ g. All (Keeps k g) (spine_segments t)) (IsCloseTo Nearer k t)
      (λ g. all_none (Keeps k g) (λ h. ¬ (Keeps k g h)) (λ h x y. y x) (spine_segments t)) (spine_segments s) h.segments

  pub keep_outside : SpinesKeep s t k → ¬ (BeginsInside s t ⊎ BeginsInside t s)
  keep_outside h = ⊎_elim h.s_outside h.t_outside

-- the code's two tests
not_told : {A : Type 0} (r : Bool) → IsTrue r ↔ A → IsTrue (not r) ↔ ¬ A
not_told true h = (λ t. absurd (true≢false (sym t)), λ n. absurd (n (h.0 refl)))
not_told false h = (λ t a. absurd (true≢false (sym (h.1 a))), λ n. refl)

pub keep_told : (s t : Spine) (k : ℕ) (near within : Bool) → IsTrue near ↔ Any (IsCloseTo Nearer k t) (spine_segments s)
    → near ≡ false → IsTrue within ↔ (BeginsInside s t ⊎ BeginsInside t s) →
    IsTrue (not within) ↔ SpinesKeep s t k
keep_told s t k near within h e g =
    let out = not_told within g in (
      λ r. keep_if s t k (λ a. true≢false (sym (h.1 a) ∙ e)) (out.0 r),
      λ r. out.1 (keep_outside s t k r),
    )

pub keep_not : (s t : Spine) (k : ℕ) (near : Bool) → IsTrue near ↔ Any (IsCloseTo Nearer k t) (spine_segments s)
    → near ≡ true → ¬ (SpinesKeep s t k)
keep_not s t k near h e r = keep_far s t k r (h.0 e)

-- what is close to these segments is close to the spine that has them
pub close_to : (how : Closeness) (k : ℕ) (g : Segment) (t : Spine) (segments : List Segment) (r : Bool)
    → segments ≡ spine_segments t → IsTrue r ↔ Any (IsClose how k g) segments → IsTrue r ↔ IsCloseTo how k t g
close_to how k g t segments r is told = subst (λ xs. IsTrue r ↔ Any (IsClose how k g) xs) is told

-- the same for the points of a chain
pub chain_near : (ps : List Point) (t : Spine) (k : ℕ) (r : Bool)
    → IsTrue r ↔ Any (IsMovedClose Nearer k t (record { x = pos 0; y = pos 0 })) (chain_segments ps)
    → IsTrue r ↔ Any (IsCloseTo Nearer k t) (chain_segments ps)
chain_near ps t k r h =
    let F : Spine → Type 0 = λ s. IsTrue r ↔ Any (IsCloseTo Nearer k t) (spine_segments s) in
    subst F (spine_stays (Chain ps))
    (spine_told (IsCloseTo Nearer k t) (record { x = pos 0; y = pos 0 }) (Chain ps) (Chain ps) refl r h)

pub chain_within : (ps : List Point) (t : Spine) (p : Point) (r : Bool) → IsFirst (Chain ps) p
    → IsTrue r ↔ IsInsideSpine p t → IsTrue r ↔ (BeginsInside (Chain ps) t ⊎ BeginsInside t (Chain ps))
chain_within ps t p r f h = let b = begins_is (Chain ps) t p f in
    (λ a. inl (b.0 (h.0 a)), ⊎_elim (λ a. h.1 (b.1 a)) (λ a. absurd a))

-- ---- the laws of keeping and touching
pub keep_symmetric : (s t : Spine) (k : ℕ) → SpinesKeep s t k → SpinesKeep t s k
keep_symmetric s t k h = record {
  segments = λ i d l. λ j e m. keep_swapped _ _ _ _ k (h.segments j e m i d l);
  s_outside = h.t_outside;
  t_outside = h.s_outside;
}

pub touch_symmetric : (s t : Spine) (k : ℕ) → SpinesTouch s t k → SpinesTouch t s k
touch_symmetric s t k (inl (i, g, l, e, (j, h, m, f, x))) = inl (j, h, m, f, (i, g, l, e, touch_swapped _ _ _ _ k x))
touch_symmetric s t k (inr (inl x)) = inr (inr x)
touch_symmetric s t k (inr (inr x)) = inr (inl x)

pub keep_less_far : (s t : Spine) (k j : ℕ) → SpinesKeep s t k → j ≤ k → SpinesKeep s t j
keep_less_far s t k j h l = record {
  segments = λ i d m. λ i' d' m'. keep_less _ _ _ _ k j (h.segments i d m i' d' m') l;
  s_outside = h.s_outside;
  t_outside = h.t_outside;
}

pub keep_bars_touch : (s t : Spine) (k j : ℕ) → SpinesKeep s t k → j < k → ¬ (SpinesTouch s t j)
keep_bars_touch s t k j h l (inl x) =
    all_none (λ g. All (Keeps k g) (spine_segments t)) (λ g. Any (Touches j g) (spine_segments t))
    (λ g. all_none (Keeps k g) (Touches j g) (λ e. λ a b. keep_no_touch g.from g.to e.from e.to k j a l b)
    (spine_segments t)) (spine_segments s) h.segments x
keep_bars_touch s t k j h l (inr x) = keep_outside s t k h x

-- ---- spines in parted boxes
pub parted_spines : (A B : Rect4) (k : ℕ) → 0 < k → IsParted A B k → (s t : Spine) → IsInBox A s → IsInBox B t
    → SpinesKeep s t k
parted_spines A B k some g s t hs ht = record {
  segments = λ i d l. λ j e m.
      let u = segments_have (IsIn A) s hs i d l in
      let v = segments_have (IsIn B) t ht j e m in
      parted_keep A B k _ _ _ _ g u.0 u.1 v.0 v.1;
  s_outside = begins_outside A B k some g s t hs ht;
  t_outside = begins_outside B A k some (mirrored A B k g) t s ht hs;
}
  where
    mirrored : (A B : Rect4) (k : ℕ) → IsParted A B k → IsParted B A k
    mirrored A B k (inl (inl g)) = inl (inr g)
    mirrored A B k (inl (inr g)) = inl (inl g)
    mirrored A B k (inr (inl g)) = inr (inr g)
    mirrored A B k (inr (inr g)) = inr (inl g)
