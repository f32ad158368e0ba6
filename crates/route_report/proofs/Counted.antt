-- Counts of cuts, net by net.
use Rattle.std.proofs.Common.{◌≡◌, ℕ, ◌+◌, ◌<◌, suc, Bool, true, false, true≢false, cond, refl, sym, ◌∙◌, ap}
use Rattle.std.proofs.Common.{List, [], ◌∷◌, length, get_or, filter, arith}
use Rattle.std.specs.Prelude.{◌==◌, not}
use Rattle.std.specs.List.{enumerate_from, count_by}
use Rattle.std.proofs.lemmas.List.Sums.{length-filter}
use Rattle.pcb_model.specs.declared.design.Net.{Net}
use Rattle.route_run.specs.declared.facts.Facts.{Facts}
use Rattle.route_report.specs.Report.{cuts_of, is_complete, is_open}
use Rattle.route_report.specs.inner.Tallies.{AreCounts}

-- two lists grow by one alike
one_more : {X Y : Type 0} (b c : Bool) → b ≡ c → (x : X) (y : Y) (xs : List X) (ys : List Y) → length xs ≡ length ys
    → length (cond b (x ∷ xs) xs) ≡ length (cond c (y ∷ ys) ys)
one_more true true same x y xs ys long = omega (arith, long)
one_more true false same x y xs ys long = absurd (true≢false same)
one_more false true same x y xs ys long = absurd (true≢false (sym same))
one_more false false same x y xs ys long = long

-- the numbers from one on that pass are as many as the nets with such a number
counted_from : (p : ℕ → Bool) (f : ℕ → ℕ) (nets : List Net) (counts : List ℕ) (i : ℕ) → length counts ≡ length nets
    → ((k : ℕ) → k < length nets → get_or counts k 0 ≡ f (i + k))
    → length (filter p counts) ≡ length (filter (λ (n : ℕ × Net). p (f n.0)) (enumerate_from i nets))
counted_from p f [] [] i long are = refl
counted_from p f [] (n ∷ counts) i long are = absurd (omega (arith, long))
counted_from p f (net ∷ nets) [] i long are = absurd (omega (arith, long))
counted_from p f (net ∷ nets) (n ∷ counts) i long are =
    let here : n ≡ f i = are 0 (omega arith) ∙ ap f (omega arith) in
    let rest = counted_from p f nets counts (i + 1) (omega (arith, long))
    (λ k within. are (suc k) (omega (arith, within)) ∙ ap f (omega arith)) in
    one_more (p n) (p (f i)) (ap p here) n (i, net) (filter p counts)
    (filter (λ (n : ℕ × Net). p (f n.0)) (enumerate_from (i + 1) nets)) rest

kept : (b : Bool) (n : ℕ) (xs ys ns : List ℕ) → length xs + length ys ≡ length ns
    → length (cond b (n ∷ xs) xs) + length (cond (not b) (n ∷ ys) ys) ≡ length (n ∷ ns)
kept true n xs ys ns e = omega (arith, e)
kept false n xs ys ns e = omega (arith, e)

parted : (p : ℕ → Bool) (ns : List ℕ) → length (filter p ns) + length (filter (λ n. not (p n)) ns) ≡ length ns
parted p [] = refl
parted p (n ∷ ns) = kept (p n) n (filter p ns) (filter (λ n. not (p n)) ns) ns (parted p ns)

-- those that pass, and those that don't, are all
pub all_counted : (p : ℕ → Bool) (ns : List ℕ) → count_by p ns + count_by (λ n. not (p n)) ns ≡ length ns
all_counted p ns =
    omega (arith, length-filter p ns, length-filter (λ n. not (p n)) ns, parted p ns)

module _ (facts : Facts) (nets : List Net) (counts : List ℕ) (are : AreCounts facts.cuts (length nets) counts) where
  counted : (p : ℕ → Bool) → count_by p counts
      ≡ length (filter (λ (n : ℕ × Net). p (length (cuts_of facts n.0))) (enumerate_from 0 nets))
  counted p =
      sym (length-filter p counts)
      ∙ counted_from p (λ net. length (cuts_of facts net)) nets counts 0 are.count_is
      (λ k within. are.counts_are k within ∙ ap (λ net. length (cuts_of facts net)) (omega arith))

  pub completes : count_by (λ n. n == 0) counts ≡ length (filter (is_complete facts) (enumerate_from 0 nets))
  completes = counted (λ n. n == 0)

  pub opens : count_by (λ n. not (n == 0)) counts ≡ length (filter (is_open facts) (enumerate_from 0 nets))
  opens = counted (λ n. not (n == 0))
