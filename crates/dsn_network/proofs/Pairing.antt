-- Couples of class lists: what a loop has found and counted, with one more.
use Rattle.std.proofs.Common.{◌≡◌, ◌≤◌, ◌+◌, ◌<◌, ◌∙◌, ap, sym, ℕ, List, [], ◌∷◌, ◌++◌, length, take, get_or, map, Bool}
use Rattle.std.proofs.Common.{true, false, cond, refl, subst, arith, append_assoc}
use Rattle.std.specs.Prelude.{Err, IfOk, Ok, Result, filter, sum_by}
use Rattle.std.specs.Borrow.{Bor}
use Rattle.std.specs.List.{flat_map}
use Rattle.std.specs.Str.{bytes_eq}
use Rattle.std.proofs.lemmas.List.{append-nil, length-append, length-map, map-append, map_more}
use Rattle.std.proofs.lemmas.List.{take_more}
use Rattle.std.proofs.lemmas.List.Elements.{filter-append}
use Rattle.std.proofs.lemmas.List.Sums.{sum_by-cons, sum_by_push}
use Rattle.dsn_tree.specs.declared.tree.Tree.{Tree}
use Rattle.dsn_shapes.specs.Lists.{text_of, trees_of}
use Rattle.dsn_shapes.specs.Rules.{pair_rule_set}
use Rattle.dsn_network.specs.Pairs.{counts_with, couples, couples_of, couples_with, pair_by, pair_count, pair_names}
use Rattle.dsn_network.specs.Pairs.{pairs_of, places_named}
use Rattle.dsn_network.specs.declared.pairs.Pairs.{Pairs}
use Rattle.dsn_network.specs.Words.{rules_in}

-- ---- the couples of one class list
with_both : (same : Bool) (a : ℕ) (ys zs : List ℕ) → couples_with same (ys ++ zs) a
    ≡ couples_with same ys a ++ couples_with same zs a
with_both same a ys zs =
    ap (map (λ b. (a, b))) (filter-append (counts_with same a) ys zs)
    ∙ map-append (λ b. (a, b)) (filter (counts_with same a) ys) (filter (counts_with same a) zs)

with_more : (same : Bool) (a : ℕ) (ys : List ℕ) (i y : ℕ) → i < length ys → y ≡ get_or ys i y
    → couples_with same (take (i + 1) ys) a ≡ couples_with same (take i ys) a ++ couples_with same (y ∷ []) a
with_more same a ys i y h e =
    ap (λ zs. couples_with same zs a) (take_more ys i y h ∙ ap (λ z. take i ys ++ z ∷ []) (sym e))
    ∙ with_both same a (take i ys) (y ∷ [])

-- one that counts is found, and one that doesn't is passed
pub found_more : (same : Bool) (a : ℕ) (ys : List ℕ) (i y : ℕ) (old now new : List (ℕ × ℕ)) → i < length ys
    → y ≡ get_or ys i y → counts_with same a y ≡ true → now ≡ old ++ couples_with same (take i ys) a
    → new ≡ now ++ (a, y) ∷ [] → new ≡ old ++ couples_with same (take (i + 1) ys) a
found_more same a ys i y old now new h e t p q =
    let one : couples_with same (y ∷ []) a ≡ (a, y) ∷ [] =
    ap (λ b. map (λ b. (a, b)) (cond b (y ∷ []) [])) t in
    q ∙ ap (λ cs. cs ++ (a, y) ∷ []) p ∙ append_assoc old (couples_with same (take i ys) a) ((a, y) ∷ [])
    ∙ ap (λ cs. old ++ cs)
    (ap (λ cs. couples_with same (take i ys) a ++ cs) (sym one) ∙ sym (with_more same a ys i y h e))

pub passed_more : (same : Bool) (a : ℕ) (ys : List ℕ) (i y : ℕ) (old now : List (ℕ × ℕ)) → i < length ys
    → y ≡ get_or ys i y → counts_with same a y ≡ false → now ≡ old ++ couples_with same (take i ys) a
    → now ≡ old ++ couples_with same (take (i + 1) ys) a
passed_more same a ys i y old now h e t p =
    let none : couples_with same (y ∷ []) a ≡ [] = ap (λ b. map (λ b. (a, b)) (cond b (y ∷ []) [])) t in
    p ∙ ap (λ cs. old ++ cs) (sym (append-nil (couples_with same (take i ys) a))
    ∙ ap (λ cs. couples_with same (take i ys) a ++ cs) (sym none) ∙ sym (with_more same a ys i y h e))

-- ---- the couples of two lists

-- no class list has the second name
pub none_between : (same : Bool) (xs ys : List ℕ) → ys ≡ [] → [] ≡ couples same xs ys
unfolding couples
none_between same xs ys e = all xs ∙ ap (λ zs. flat_map (couples_with same zs) xs) (sym e)
  where
    all : (xs : List ℕ) → [] ≡ flat_map (couples_with same []) xs
    all [] = refl
    all (x ∷ xs) = all xs

nil_of : (xs : List ℕ) → length xs ≡ 0 → xs ≡ []
nil_of [] e = refl
nil_of (x ∷ xs) e = absurd (omega arith)

-- and so two names stand for none
pub none_of : (names : List (List ℕ)) (ws : List (Bor Tree)) (w : Bor Tree) (others : List ℕ) → 2 ≤ length ws
    → length ws ≤ 2 → w ≡ get_or ws 1 w → others ≡ places_named (text_of w.now) names → length others ≡ 0
    → [] ≡ couples_of names (trees_of ws)
none_of names [] w others h k e p z = absurd (omega arith)
none_of names (a ∷ []) w others h k e p z = absurd (omega arith)
none_of names (a ∷ (b ∷ [])) w others h k e p z =
    none_between (bytes_eq (text_of a.now) (text_of b.now)) (places_named (text_of a.now) names)
    (places_named (text_of b.now) names)
    (ap (λ (x : Bor Tree). places_named (text_of x.now) names) (sym e) ∙ sym p ∙ nil_of others z)
none_of names (a ∷ (b ∷ (c ∷ ws))) w others h k e p z = absurd (omega arith)

-- ---- how many there are
pub count_more : (f : Tree → ℕ) (ts : List (Bor Tree)) (i : ℕ) (t : Bor Tree) (left next all : ℕ) → i < length ts
    → t ≡ get_or ts i t → left + sum_by f (trees_of (take i ts)) ≡ all → next + f t.now ≡ left
    → next + sum_by f (trees_of (take (i + 1) ts)) ≡ all
count_more f ts i t left next all h e p q =
    let more : sum_by f (trees_of (take i ts)) + f t.now ≡ sum_by f (trees_of (take (i + 1) ts)) =
    sym (sum_by_push f (trees_of (take i ts)) t.now)
    ∙ ap (sum_by f) (ap (λ (b : Bor Tree). trees_of (take i ts) ++ (b.now ∷ [])) e
    ∙ sym (map_more (λ (b : Bor Tree). b.now) ts i t h)) in
    omega (arith, p, q, more)

-- the pairs are as many as the couples
pub pairs_counted : (nm : ℕ) (names : List (List ℕ)) (ts : List Tree)
    → length (flat_map (pairs_of nm names) ts) ≡ pair_count names ts
unfolding pairs_of
pairs_counted nm names [] = refl
pairs_counted nm names (t ∷ ts) =
    let some = couples_of names (pair_names t) in
    omega (
      arith,
      length-append (pairs_of nm names t) (flat_map (pairs_of nm names) ts),
      length-map some (pair_by (pair_rule_set nm (rules_in (t ∷ [])))),
      pairs_counted nm names ts,
      sum_by-cons (λ t. length (couples_of names (pair_names t))) t ts,
    )

-- where the couples are few, so are the pairs that are read
pub few_made : {E : Type 0} (nm : ℕ) (names : List (List ℕ)) (ts : List Tree) (most : ℕ) (r : Result Pairs E)
    → IfOk r (λ (v : Pairs). v.pairs ≡ flat_map (pairs_of nm names) ts) → pair_count names ts ≤ most
    → IfOk r (λ (v : Pairs). length v.pairs ≤ most)
few_made nm names ts most (Ok v) e h =
    subst (λ n. n ≤ most) (sym (ap (λ ps. length ps) e ∙ pairs_counted nm names ts)) h
few_made nm names ts most (Err error) e h = tt
