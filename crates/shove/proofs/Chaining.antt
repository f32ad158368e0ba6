-- Points without repeats, one point after another.
use Rattle.std.proofs.Common.{◌≡◌, ℕ, ◌+◌, ◌<◌, Bool, true, false, cond, List, [], ◌∷◌, ◌++◌, take, drop, length}
use Rattle.std.proofs.Common.{get_or, refl, ap, sym, ◌∙◌, arith}
use Rattle.std.proofs.lemmas.List.{take_more}
use Rattle.geo_kernel.specs.declared.point.Point.{Point}
use Rattle.geo_kernel.specs.Spine.{last_of}
use Rattle.shove.specs.Shoves.{is_same_point, fresh_after, without_repeats}

-- x behind the others, unless it is equal to the last
abbrev pub unless_same : Bool → Point → List Point
unless_same same x = cond same [] (x ∷ [])

pub fresh_push : (p : Point) (qs : List Point) (x : Point) → fresh_after p (qs ++ x ∷ [])
    ≡ fresh_after p qs ++ unless_same (is_same_point (last_of p qs) x) x
fresh_push p [] x = either (is_same_point p x)
  where
    either : (b : Bool) → cond b [] (x ∷ []) ≡ unless_same b x
    either true = refl
    either false = refl
fresh_push p (q ∷ qs) x = either (is_same_point p q) (fresh_push q qs x)
  where
    either : (b : Bool) → fresh_after q (qs ++ x ∷ [])
        ≡ fresh_after q qs ++ unless_same (is_same_point (last_of q qs) x) x
        → cond b (fresh_after q (qs ++ x ∷ [])) (q ∷ fresh_after q (qs ++ x ∷ []))
        ≡ cond b (fresh_after q qs) (q ∷ fresh_after q qs) ++ unless_same (is_same_point (last_of q qs) x) x
    either true h = h
    either false h = ap (λ (xs : List Point). q ∷ xs) h

pub last_push : (p : Point) (qs : List Point) (x : Point) → last_of p (qs ++ x ∷ []) ≡ x
last_push p [] x = refl
last_push p (q ∷ qs) x = last_push q qs x

-- one point more
pub fresh_more : (p : Point) (ps : List Point) (i : ℕ) (d last : Point) (old new : List Point) (same : Bool)
    → i < length ps
    → record { fresh_is : old ≡ p ∷ fresh_after p (take i ps); last_is : last ≡ last_of p (take i ps) }
    → is_same_point last (get_or ps i d) ≡ same → new ≡ old ++ unless_same same (get_or ps i d)
    → record {
      fresh_is : new ≡ p ∷ fresh_after p (take (i + 1) ps);
      last_is : get_or ps i d
          ≡ last_of p (take (i + 1) ps);
    }
fresh_more p ps i d last old new same within h is new_is =
    let more = take_more ps i d within in
    let x = get_or ps i d in
    record {
      fresh_is = new_is ∙ (λ k. h.fresh_is k ++ unless_same (is_now k) x)
          ∙ ap (λ (xs : List Point). p ∷ xs) (sym (fresh_push p (take i ps) x))
          ∙ ap (λ (qs : List Point). p ∷ fresh_after p qs) (sym more);
      last_is = sym (last_push p (take i ps) x) ∙ ap (last_of p) (sym more);
    }
  where
    is_now : same ≡ is_same_point (last_of p (take i ps)) (get_or ps i d)
    is_now = sym is ∙ ap (λ (q : Point). is_same_point q (get_or ps i d)) h.last_is

append_none : (xs : List Point) → xs ++ [] ≡ xs
append_none [] = refl
append_none (x ∷ xs) = ap (λ (ys : List Point). x ∷ ys) (append_none xs)

pub nothing_more : (xs new : List Point) → new ≡ xs → new ≡ xs ++ []
nothing_more xs new e = e ∙ sym (append_none xs)

-- a list that isn't empty is its first element and the others
pub whole_is : (xs : List Point) (d : Point) → 0 < length xs → without_repeats xs
    ≡ get_or xs 0 d ∷ fresh_after (get_or xs 0 d) (drop 1 xs)
whole_is [] d h = absurd (omega arith)
whole_is (x ∷ xs) d h = refl
