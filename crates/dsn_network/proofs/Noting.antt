-- How many lists were passed over in those that a loop has seen, with one more.
use Rattle.std.proofs.Common.{◌≡◌, ◌∙◌, ap, sym, ℕ, ◌+◌, ◌<◌, List, [], ◌∷◌, ◌++◌, length, take, get_or, arith}
use Rattle.std.specs.Prelude.{sum_by}
use Rattle.std.specs.Borrow.{Bor}
use Rattle.std.proofs.lemmas.List.{map_more}
use Rattle.std.proofs.lemmas.List.Sums.{sum_by_push}
use Rattle.dsn_tree.specs.declared.tree.Tree.{Tree}
use Rattle.dsn_shapes.specs.Lists.{capped, trees_of}

-- a sum that ends at the greatest number, with one more
capped_sum : (n k m j : ℕ) → n ≡ capped m → k ≡ capped j → capped (n + k) ≡ capped (m + j)
capped_sum n k m j e f = omega (arith, e, f)

-- the count of each
pub counted_more : (f : Tree → ℕ) (ts : List (Bor Tree)) (i : ℕ) (t : Bor Tree) (n k new : ℕ) → i < length ts
    → t ≡ get_or ts i t → n ≡ capped (sum_by f (trees_of (take i ts))) → k ≡ capped (f t.now) → new ≡ capped (n + k)
    → new ≡ capped (sum_by f (trees_of (take (i + 1) ts)))
counted_more f ts i t n k new h is e g s =
    s ∙ capped_sum n k _ _ e g ∙ ap capped
    (sym (sum_by_push f (trees_of (take i ts)) t.now)
    ∙ ap (sum_by f) (ap (λ (b : Bor Tree). trees_of (take i ts) ++ (b.now ∷ [])) is
    ∙ sym (map_more (λ (b : Bor Tree). b.now) ts i t h)))
