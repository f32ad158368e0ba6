-- What an insert into an ordered set of numbers leaves.
use Rattle.std.proofs.Common.{◌≡◌, ℕ, Bool, true, false, not, cond, sym, ◌∙◌, ap, refl, inl, inr, ◌⊎◌, true≢false}
use Rattle.std.proofs.Common.{arith}
use Rattle.std.specs.Prelude.{Contains}
use Rattle.std.specs.Ordering.{nat_cmp}
use Rattle.std.specs.BTreeMap.{is_at}
use Rattle.std.specs.BTreeSet.{BTreeSet, contains, Updates}
use Rattle.std.proofs.lemmas.Cmp.{nat_cmp_total}
use Rattle.std.proofs.lemmas.Map.Lookups.{exact_unsigned}
use Rattle.std.proofs.lemmas.Map.Views.{btree_set_contains_iff}
use Rattle.std.proofs.lemmas.Bool.Decides.{nat_tests}
use Rattle.pcb_islands.specs.inner.Numbers.{IsWith}

found : (s : BTreeSet ℕ) (q : ℕ) → contains nat_cmp s q ≡ true → Contains s.keys q
found s q h = (btree_set_contains_iff nat_cmp_total exact_unsigned s q).0 h

finds : (s : BTreeSet ℕ) (q : ℕ) → Contains s.keys q → contains nat_cmp s q ≡ true
finds s q h = (btree_set_contains_iff nat_cmp_total exact_unsigned s q).1 h

-- old holds of q, or q is k
either : (old new at : Bool) (k q : ℕ) → at ≡ is_at (nat_cmp k) q → new ≡ cond at true old → new ≡ true
    → (old ≡ true) ⊎ (q ≡ k)
either old new true k q at_is is h = inr (grind (arith, nat_tests))
either old new false k q at_is is h = inl (sym is ∙ h)

stays : (old new at : Bool) → new ≡ cond at true old → old ≡ true → new ≡ true
stays old new true is h = is
stays old new false is h = is ∙ h

pub inserted : (s n : BTreeSet ℕ) (k : ℕ) (fresh : Bool) → fresh ≡ not (contains nat_cmp s k)
    → Updates nat_cmp s n k true → IsWith s.keys k fresh n.keys
inserted s n k fresh fresh_is u = record {
  here = found n k u.1;
  kept = λ q h. found n q (stays _ _ _ (u.0 q) (finds s q h));
  only = λ q h. elim (either _ _ _ k q refl (u.0 q) (finds n q h)) [
    | inl old ↦ inl (found s q old)
    | inr same ↦
        inr same
  ];
  fresh_is = λ f h. true≢false (sym f ∙ fresh_is ∙ ap not (finds s k h));
  stale_is = λ f. found s k (let back : not fresh ≡ contains nat_cmp s k = grind arith in sym back ∙ ap not f);
}
