-- A loop over the points of a path, from the point before: what is asked of all links is asked of the links that are
-- left.
use Rattle.std.proofs.Common.{◌≡◌, ℕ, suc, zero, ◌+◌, ◌%◌, ◌-◌, ◌<◌, ◌≤◌, List, [], ◌∷◌, ◌++◌, drop, get_or}
use Rattle.std.proofs.Common.{flat_map, length, drop-cons, add-one, All, Any, ◌↔◌, ◌⊎◌, inl, inr, ⊎_elim, count_by}
use Rattle.std.proofs.Common.{Bool, true, false, true≢false, not, cond, IsTrue, refl, sym, ap, ◌∙◌, subst, arith}
use Rattle.std.proofs.lemmas.List.{drop_all}
use Rattle.std.proofs.lemmas.List.Elements.{All-nil, All-cons, All-head, All-tail}
use Rattle.std.proofs.lemmas.List.Sums.{sum_by-cons, sum_by-append}
use Rattle.geo_kernel.specs.declared.point.Point.{Point}
use Rattle.geo_kernel.specs.Spine.{Segment, links, last_of, loop_segments}

-- the link from the last point to that at place i
abbrev pub link_at : Point → Point → List Point → ℕ → Segment
link_at last d points i = record { from = last; to = get_or points i d }

module _ (last d : Point) (points : List Point) (i : ℕ) where
  -- the links that are left at place i begin with that to the point there
  pub links-drop : i < length points
      → links last (drop i points) ≡ link_at last d points i ∷ links (get_or points i d) (drop (i + 1) points)
  links-drop h = ap (links last) (drop-cons points i d h) ∙ rw add-one refl

-- ---- some element
pub Any-here : {X : Type 0} (P : X → Type 0) (x : X) (xs : List X) → P x → Any P (x ∷ xs)
Any-here P x xs h = (0, x, omega arith, refl, h)

pub Any-there : {X : Type 0} (P : X → Type 0) (x : X) (xs : List X) → Any P xs → Any P (x ∷ xs)
Any-there P x xs h = (suc h.0, h.1, omega (arith, h.2), h.3, h.4)

pub Any-cases : {X : Type 0} (P : X → Type 0) (x : X) (xs : List X) → Any P (x ∷ xs) → P x ⊎ Any P xs
Any-cases P x xs (zero, y, l, e, h) = inl (subst P (sym e) h)
Any-cases P x xs (suc k, y, l, e, h) = inr (k, y, omega arith, e, h)

pub Any-nil : {X : Type 0} (P : X → Type 0) → Any P [] → ⊥
Any-nil P (k, y, l, e, h) = omega arith

-- ---- as far as the loop has come, F of all links is F of those that are left
pub record LeftOver (F : List Segment → Type 0) (start last : Point) (points : List Point) (i : ℕ) : Type 0 where
  pub whole : F (links last (drop i points)) → F (links start points)
  pub part : F (links start points) → F (links last (drop i points))

pub left_at_first : (F : List Segment → Type 0) (start : Point) (points : List Point) → LeftOver F start start points 0
left_at_first F start points = record { whole = λ h. h; part = λ h. h }

pub left_none : (F : List Segment → Type 0) (start last : Point) (points : List Point) (i : ℕ) → length points ≤ i
    → LeftOver F start last points i → F [] ↔ F (links start points)
left_none F start last points i h left =
    (λ f. left.whole (rw (drop_all i points h) f), λ f. rw (drop_all i points h) at left.part f)

left_next : (F : List Segment → Type 0) (start last d : Point) (points : List Point) (i : ℕ)
    → LeftOver F start last points i → i < length points →
    ((gs : List Segment) → F gs → F (link_at last d points i ∷ gs))
    → ((gs : List Segment) → F (link_at last d points i ∷ gs) → F gs)
    → LeftOver F start (get_or points i d) points (i + 1)
left_next F start last d points i left h up down = record {
  whole = λ rest. left.whole (rw (links-drop last d points i h) (up _ rest));
  part = λ all. down _ (rw (links-drop last d points i h) at left.part all);
}

module _ (P : Segment → Type 0) (start last d : Point) (points : List Point) (i : ℕ) where
  pub any_next : LeftOver (Any P) start last points i → i < length points → ¬ (P (link_at last d points i))
      → LeftOver (Any P) start (get_or points i d) points (i + 1)
  any_next left h none =
      left_next (Any P) start last d points i left h (λ gs. Any-there P _ gs) (λ gs f. pick gs (Any-cases P _ gs f))
    where
      pick : (gs : List Segment) → P (link_at last d points i) ⊎ Any P gs → Any P gs
      pick gs (inl x) = absurd (none x)
      pick gs (inr x) = x

  pub any_stops : LeftOver (Any P) start last points i → i < length points → P (link_at last d points i)
      → Any P (links start points)
  any_stops left h here = left.whole (rw (links-drop last d points i h) (Any-here P _ _ here))

  -- the loop came to the end of the path, so no link is as P says
  pub any_none : LeftOver (Any P) start last points i → length points ≤ i → IsTrue false ↔ Any P (links start points)
  any_none left h =
      (λ t. absurd (true≢false (sym t)), λ a. absurd (Any-nil P ((left_none (Any P) start last points i h left).1 a)))

-- ---- parity
abbrev pub bit : Bool → ℕ
bit b = cond b 1 0

pub record ParityLeft (f : Segment → Bool) (start last : Point) (points : List Point) (i : ℕ) (odd : Bool) : Type 0
  where
    pub same : count_by f (links start points) % 2 ≡ (bit odd + count_by f (links last (drop i points))) % 2

turned : (f : Bool) (odd : Bool) (r : ℕ) → f ≡ true → (bit odd + (cond f 1 0 + r)) % 2 ≡ (bit (not odd) + r) % 2
turned true true r e = omega arith
turned true false r e = omega arith
turned false true r e = cc
turned false false r e = cc

kept : (f : Bool) (odd : Bool) (r : ℕ) → f ≡ false → (bit odd + (cond f 1 0 + r)) % 2 ≡ (bit odd + r) % 2
kept true odd r e = cc
kept false odd r e = omega arith

pub count_first : (f : Segment → Bool) (g : Segment) (gs : List Segment)
    → count_by f (g ∷ gs) ≡ cond (f g) 1 0 + count_by f gs
count_first f g gs = sum_by-cons (λ x. cond (f x) 1 0) g gs

module _ (f : Segment → Bool) (start last d : Point) (points : List Point) (i : ℕ) (odd : Bool)
    (left : ParityLeft f start last points i odd) where
  pub parity_turns : i < length points → f (link_at last d points i) ≡ true
      → ParityLeft f start (get_or points i d) points (i + 1) (not odd)
  parity_turns h e =
      record {
        same = left.same ∙ ap (λ gs. (bit odd + count_by f gs) % 2) (links-drop last d points i h)
            ∙ ap (λ n. (bit odd + n) % 2)
            (count_first f (link_at last d points i) (links (get_or points i d) (drop (i + 1) points)))
            ∙ turned (f (link_at last d points i)) odd (count_by f (links (get_or points i d) (drop (i + 1) points))) e;
      }

  pub parity_stays : i < length points → f (link_at last d points i) ≡ false
      → ParityLeft f start (get_or points i d) points (i + 1) odd
  parity_stays h e =
      record {
        same = left.same ∙ ap (λ gs. (bit odd + count_by f gs) % 2) (links-drop last d points i h)
            ∙ ap (λ n. (bit odd + n) % 2)
            (count_first f (link_at last d points i) (links (get_or points i d) (drop (i + 1) points)))
            ∙ kept (f (link_at last d points i)) odd (count_by f (links (get_or points i d) (drop (i + 1) points))) e;
      }

  pub parity_told : length points ≤ i → IsTrue odd ↔ (count_by f (links start points) % 2 ≡ 1)
  parity_told h =
      let e : count_by f (links start points) % 2 ≡ (bit odd + 0) % 2 =
      left.same ∙ ap (λ ps. (bit odd + count_by f (links last ps)) % 2) (drop_all i points h) in
      by odd (count_by f (links start points) % 2) e
    where
      by : (b : Bool) (n : ℕ) → n ≡ (bit b + 0) % 2 → IsTrue b ↔ (n ≡ 1)
      by true n e = (λ t. omega arith, λ h. refl)
      by false n e = (λ t. cc, λ h. absurd (omega arith))

-- ---- chains and loops as paths
at_last : (p d : Point) (ps : List Point) → get_or (p ∷ ps) (length ps) d ≡ last_of p ps
at_last p d [] = refl
at_last p d (q ∷ qs) = at_last q d qs

pub loop_of : (d : Point) (points : List Point) → 0 < length points
    → loop_segments points ≡ links (get_or points (length points - 1) d) points
loop_of d [] h = absurd (omega arith)
loop_of d (p ∷ ps) h =
    let e : length (p ∷ ps) - 1 ≡ length ps = omega arith in
    ap (λ x. links x (p ∷ ps)) (sym (at_last p d ps) ∙ ap (λ n. get_or (p ∷ ps) n d) (sym e))

-- ---- the loops of an area, one after another
pub All-append_first : {X : Type 0} (P : X → Type 0) (xs ys : List X) → All P (xs ++ ys) → All P xs
All-append_first P [] ys h = All-nil P
All-append_first P (x ∷ xs) ys h =
    All-cons P x xs (All-head P x (xs ++ ys) h) (All-append_first P xs ys (All-tail P x (xs ++ ys) h))

pub All-append_second : {X : Type 0} (P : X → Type 0) (xs ys : List X) → All P (xs ++ ys) → All P ys
All-append_second P [] ys h = h
All-append_second P (x ∷ xs) ys h = All-append_second P xs ys (All-tail P x (xs ++ ys) h)

-- as far as a loop over ls has come: the parity of what is counted in what g gives for each
pub record RestOdd {X : Type 0} (f : Segment → Bool) (g : X → List Segment) (ls : List X) (i : ℕ) (odd : Bool) : Type 0
  where
    pub same : count_by f (flat_map g ls) % 2 ≡ (bit odd + count_by f (flat_map g (drop i ls))) % 2

module _ {X : Type 0} (f : Segment → Bool) (g : X → List Segment) (ls : List X) where
  count-drop : (i : ℕ) (d : X) → i < length ls → count_by f (flat_map g (drop i ls))
      ≡ count_by f (g (get_or ls i d)) + count_by f (flat_map g (drop (i + 1) ls))
  count-drop i d h =
      ap (λ xs. count_by f (flat_map g xs)) (drop-cons ls i d h) ∙ sum_by-append (λ x. cond (f x) 1 0)
      (g (get_or ls i d)) (flat_map g (drop (suc i) ls))
      ∙ ap (λ n. count_by f (g (get_or ls i d)) + count_by f (flat_map g (drop n ls))) (sym (add-one i))

  odd_more : (b : Bool) (c r : ℕ) → c % 2 ≡ 1 → (bit b + (c + r)) % 2 ≡ (bit (not b) + r) % 2
  odd_more true c r e = omega arith
  odd_more false c r e = omega arith

  even_more : (b : Bool) (c r : ℕ) → ¬ (c % 2 ≡ 1) → (bit b + (c + r)) % 2 ≡ (bit b + r) % 2
  even_more b c r e = omega arith

  pub rest_odd_turns : (i : ℕ) (d : X) (odd : Bool) → RestOdd f g ls i odd → i < length ls
      → count_by f (g (get_or ls i d)) % 2 ≡ 1 → RestOdd f g ls (i + 1) (not odd)
  rest_odd_turns i d odd left h e =
      record {
        same = left.same ∙ ap (λ n. (bit odd + n) % 2) (count-drop i d h)
            ∙ odd_more odd (count_by f (g (get_or ls i d))) (count_by f (flat_map g (drop (i + 1) ls))) e;
      }

  pub rest_odd_stays : (i : ℕ) (d : X) (odd : Bool) → RestOdd f g ls i odd → i < length ls
      → ¬ (count_by f (g (get_or ls i d)) % 2 ≡ 1) → RestOdd f g ls (i + 1) odd
  rest_odd_stays i d odd left h e =
      record {
        same = left.same ∙ ap (λ n. (bit odd + n) % 2) (count-drop i d h)
            ∙ even_more odd (count_by f (g (get_or ls i d))) (count_by f (flat_map g (drop (i + 1) ls))) e;
      }

  pub rest_odd_told : (i : ℕ) (odd : Bool) → RestOdd f g ls i odd → length ls ≤ i
      → IsTrue odd ↔ (count_by f (flat_map g ls) % 2 ≡ 1)
  rest_odd_told i odd left h =
      let e : count_by f (flat_map g ls) % 2 ≡ (bit odd + 0) % 2 =
      left.same ∙ ap (λ xs. (bit odd + count_by f (flat_map g xs)) % 2) (drop_all i ls h) in
      by odd (count_by f (flat_map g ls) % 2) e
    where
      by : (b : Bool) (n : ℕ) → n ≡ (bit b + 0) % 2 → IsTrue b ↔ (n ≡ 1)
      by true n e = (λ t. omega arith, λ h. refl)
      by false n e = (λ t. cc, λ h. absurd (omega arith))

-- ---- some of what a loop over ls has left
pub Any-append_first : {X : Type 0} (P : X → Type 0) (xs ys : List X) → Any P xs → Any P (xs ++ ys)
Any-append_first P [] ys h = absurd (Any-nil P h)
Any-append_first P (x ∷ xs) ys h =
    ⊎_elim (λ a. Any-here P x (xs ++ ys) a) (λ a. Any-there P x (xs ++ ys) (Any-append_first P xs ys a))
    (Any-cases P x xs h)

pub Any-append_second : {X : Type 0} (P : X → Type 0) (xs ys : List X) → Any P ys → Any P (xs ++ ys)
Any-append_second P [] ys h = h
Any-append_second P (x ∷ xs) ys h = Any-there P x (xs ++ ys) (Any-append_second P xs ys h)

Any-append_cases : {X : Type 0} (P : X → Type 0) (xs ys : List X) → Any P (xs ++ ys) → Any P xs ⊎ Any P ys
Any-append_cases P [] ys h = inr h
Any-append_cases P (x ∷ xs) ys h =
    ⊎_elim (λ a. inl (Any-here P x xs a))
    (λ a. ⊎_elim (λ b. inl (Any-there P x xs b)) (λ b. inr b) (Any-append_cases P xs ys a))
    (Any-cases P x (xs ++ ys) h)

pub record SomeLeft {X : Type 0} (P : Segment → Type 0) (f : X → List Segment) (ls : List X) (i : ℕ) : Type 0 where
  pub whole : Any P (flat_map f (drop i ls)) → Any P (flat_map f ls)
  pub part : Any P (flat_map f ls) → Any P (flat_map f (drop i ls))

module _ {X : Type 0} (P : Segment → Type 0) (f : X → List Segment) (ls : List X) where
  some-drop : (i : ℕ) (d : X) → i < length ls → flat_map f (drop i ls) ≡ f (get_or ls i d)
      ++ flat_map f (drop (i + 1) ls)
  some-drop i d h = ap (flat_map f) (drop-cons ls i d h) ∙ rw add-one refl

  pub some_next : (i : ℕ) (d : X) → SomeLeft P f ls i → i < length ls → ¬ (Any P (f (get_or ls i d)))
      → SomeLeft P f ls (i + 1)
  some_next i d left h none = record {
    whole = λ rest.
        left.whole (rw (some-drop i d h) (Any-append_second P (f (get_or ls i d)) (flat_map f (drop (i + 1) ls)) rest));
    part = λ all. ⊎_elim (λ a. absurd (none a)) (λ a. a)
        (Any-append_cases P (f (get_or ls i d)) (flat_map f (drop (i + 1) ls)) (rw (some-drop i d h) at left.part all));
  }

  pub some_stops : (i : ℕ) (d : X) → SomeLeft P f ls i → i < length ls → Any P (f (get_or ls i d))
      → Any P (flat_map f ls)
  some_stops i d left h here =
      left.whole (rw (some-drop i d h) (Any-append_first P (f (get_or ls i d)) (flat_map f (drop (i + 1) ls)) here))

  pub some_none : (i : ℕ) → length ls ≤ i → SomeLeft P f ls i → ¬ (Any P (flat_map f ls))
  some_none i h left all = Any-nil P (rw (drop_all i ls h) at left.part all)

  -- the loop came to the end of the list, so no segment is as P says
  pub none_told : (i : ℕ) → SomeLeft P f ls i → length ls ≤ i → IsTrue false ↔ Any P (flat_map f ls)
  none_told i left h = (λ t. absurd (true≢false (sym t)), λ a. absurd (some_none i h left a))

-- what holds of each loop holds of that at a place
pub at_place : (Q : List Point → Type 0) (loops : List (List Point)) (i : ℕ) (d ps : List Point) → All Q loops
    → i < length loops → ps ≡ get_or loops i d → Q ps
at_place Q loops i d ps all h e = subst Q (sym e) (all i d h)
