-- What is counted and told of each net, cut by cut.
use Rattle.std.proofs.Common.{◌≡◌, ℕ, ◌+◌, ◌<◌, ◌≤◌, ◌==◌, Bool, true, false, cond, refl, sym, ◌∙◌, ap, subst, arith}
use Rattle.std.proofs.Common.{List, [], ◌∷◌, ◌++◌, length, get_or, drop, filter, flat_map, suc, ap₂}
use Rattle.std.specs.List.{enumerate_from}
use Rattle.pcb_model.specs.declared.design.Net.{Net}
use Rattle.std.specs.Prelude.{if◌then◌else◌}
use Rattle.std.proofs.lemmas.List.{at_drop_all, at_drop_more, append-nil}
use Rattle.cut_certificate.specs.declared.cut.Cut.{Cut}
use Rattle.ses_writer.specs.Words.{Appends}
use Rattle.ses_writer.proofs.Puts.{Leads, leads_on}
use Rattle.route_report.specs.Report.{is_at_net, is_of_net}

-- what is made of the rest of a list, with its next one in front
pub next_front : {X Y : Type 0} (F : List X → Y) (xs : List X) (i : ℕ) (x : X) → i < length xs → x ≡ get_or xs i x
    → F (drop i xs) ≡ F (x ∷ drop (i + 1) xs)
next_front F xs i x lt is = at_drop_more F xs i x lt ∙ ap (λ y. F (y ∷ drop (i + 1) xs)) (sym is)

-- what leads with nothing left is all
pub all_told : {X : Type 0} {out all : List ℕ} (F : List X → List ℕ) (xs : List X) (i : ℕ) → length xs ≤ i
    → F [] ≡ [] → Leads out (F (drop i xs)) all → out ≡ all
all_told {X} {out} F xs i past none before =
    sym (append-nil out) ∙ ap (λ r. out ++ r) (sym (at_drop_all F xs i past ∙ none)) ∙ before.is

-- one that passes counts for one
one_counts : (b : Bool) (x : Cut) (xs : List Cut) → length (cond b (x ∷ xs) xs) ≡ (if b then 1 else 0) + length xs
one_counts true x xs = omega arith
one_counts false x xs = omega arith

-- a count and what is left, behind one more cut
pub counted_more : (k n : ℕ) (cuts : List Cut) (i : ℕ) (cut : Cut) (old new : ℕ) → i < length cuts
    → cut ≡ get_or cuts i cut → new ≡ old + (if cut.net == k then 1 else 0)
    → old + length (filter (is_of_net k) (drop i cuts)) ≡ n
    → new + length (filter (is_of_net k) (drop (i + 1) cuts)) ≡ n
counted_more k n cuts i cut old new lt is adds so_far =
    let front = next_front (λ xs. length (filter (is_of_net k) xs)) cuts i cut lt is
    ∙ one_counts (cut.net == k) cut (filter (is_of_net k) (drop (i + 1) cuts)) in
    omega (arith, front, adds, so_far)

-- one that passes tells its lines
one_tells : {X : Type 0} (lines : X → List ℕ) (b : Bool) (x : X) (xs : List X)
    → flat_map lines (cond b (x ∷ xs) xs) ≡ (if b then lines x else []) ++ flat_map lines xs
one_tells lines true x xs = refl
one_tells lines false x xs = refl

-- a text and what is left, behind one more cut
pub told_more : (lines : (ℕ × Cut) → List ℕ) (k : ℕ) (cuts : List Cut) (i : ℕ) (cut : Cut) (old new all : List ℕ)
    → i < length cuts → cut ≡ get_or cuts i cut → Appends old new (if cut.net == k then lines (i, cut) else [])
    → Leads old (flat_map lines (filter (is_at_net k) (enumerate_from i (drop i cuts)))) all
    → Leads new (flat_map lines (filter (is_at_net k) (enumerate_from (i + 1) (drop (i + 1) cuts)))) all
told_more lines k cuts i cut old new all lt is put so_far =
    leads_on (subst (λ r. Leads old r all)
    (next_front (λ (xs : List Cut). flat_map lines (filter (is_at_net k) (enumerate_from i xs))) cuts i cut lt is
    ∙ one_tells lines (cut.net == k) (i, cut)
    (filter (is_at_net k) (enumerate_from (i + 1) (drop (i + 1) cuts)))) so_far) put

-- with no cut left the count is all
pub all_counted : (k : ℕ) (cuts : List Cut) (i count n : ℕ) → length cuts ≤ i
    → count + length (filter (is_of_net k) (drop i cuts)) ≡ n → count ≡ n
all_counted k cuts i count n past so_far =
    let none = at_drop_all (λ xs. length (filter (is_of_net k) xs)) cuts i past in
    omega (arith, none, so_far)

-- before the first cut all are left
pub none_counted : {count : ℕ} (n : ℕ) → count ≡ 0 → count + n ≡ n
none_counted n none = omega (arith, none)

-- nets whose lines are the same
pub same_lines : (f g : (ℕ × Net) → List ℕ) (nets : List Net) (i : ℕ)
    → ((k : ℕ) (net : Net) → k < length nets → f (i + k, net) ≡ g (i + k, net))
    → flat_map f (enumerate_from i nets) ≡ flat_map g (enumerate_from i nets)
same_lines f g [] i same = refl
same_lines f g (net ∷ nets) i same =
    let here : i + 0 ≡ i = omega arith in
    ap₂ (λ (xs ys : List ℕ). xs ++ ys) (subst (λ j. f (j, net) ≡ g (j, net)) here (same 0 net (omega arith)))
    (same_lines f g nets (i + 1) (λ k n within.
    let there : i + suc k ≡ i + 1 + k = omega arith in
    subst (λ j. f (j, n) ≡ g (j, n)) there (same (suc k) n (omega (arith, within)))))
