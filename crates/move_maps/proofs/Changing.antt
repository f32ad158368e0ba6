-- Tallies as copper comes and goes.
use Rattle.std.proofs.Common.{◌≡◌, ℕ, ◌+◌, ◌-◌, ◌==◌, min, Bool, true, false, cond, List, ◌∷◌}
use Rattle.std.proofs.Common.{Some, refl, sym, ap, subst, arith, inl, inr}
use Rattle.std.proofs.lemmas.Bool.{eqb-true, eqb-false}
use Rattle.pcb_model.specs.declared.item.Item.{Item}
use Rattle.pcb_model.specs.declared.item.Probe.{Probe}
use Rattle.pcb_model.specs.declared.design.Design.{Design}
use Rattle.move_maps.specs.Clear.{IsClearOf}
use Rattle.move_maps.specs.Maps.{ShutBy, IsTally, more, fewer, TalliesChange}

-- one more item that the probe isn't clear of
shut_more : (d : Design) (g : ℕ) (items : List Item) (b : Item) (p : Probe) (n : ℕ) → ¬ (IsClearOf d g p b)
    → ShutBy d g items p n → ShutBy d g (b ∷ items) p (n + 1)
shut_more d g items b p n bad (k, o, misses, out, e) = (k + 1, o, inr (bad, k, refl, misses), out, omega (arith, e))

-- one fewer
shut_fewer : (d : Design) (g : ℕ) (items : List Item) (b : Item) (p : Probe) (n : ℕ) → ¬ (IsClearOf d g p b)
    → ShutBy d g (b ∷ items) p n → ShutBy d g items p (n - 1)
shut_fewer d g items b p n bad (k, o, inl (clear, misses), out, e) = absurd (bad clear)
shut_fewer d g items b p n bad (k, o, inr (fails, m, is, misses), out, e) = (m, o, misses, out, omega (arith, e, is))

-- a clear item that comes leaves the tally
come_clear : (d : Design) (g : ℕ) (items : List Item) (b : Item) (p : Probe) (n : ℕ) → IsClearOf d g p b
    → IsTally d g items (Some p) n → IsTally d g (b ∷ items) (Some p) n
come_clear d g items b p n clear (inl top) = inl top
come_clear d g items b p n clear (inr (few, (k, o, misses, out, e))) = inr (few, (k, o, inl (clear, misses), out, e))

-- a clear item that goes leaves it too
gone_clear : (d : Design) (g : ℕ) (items : List Item) (b : Item) (p : Probe) (n : ℕ) → IsClearOf d g p b
    → IsTally d g (b ∷ items) (Some p) n → IsTally d g items (Some p) n
gone_clear d g items b p n clear (inl top) = inl top
gone_clear d g items b p n clear (inr (few, (k, o, inl (also, misses), out, e))) = inr (few, (k, o, misses, out, e))
gone_clear d g items b p n clear (inr (few, (k, o, inr (fails, m, is, misses), out, e))) = absurd (fails clear)

-- an item that shuts the move and comes makes one more, up to the top
come_shut : (d : Design) (g : ℕ) (items : List Item) (b : Item) (p : Probe) (n : ℕ) → ¬ (IsClearOf d g p b)
    → IsTally d g items (Some p) n → IsTally d g (b ∷ items) (Some p) (more n)
come_shut d g items b p n bad (inl top) = inl (at_top n top)
  where
    at_top : (n : ℕ) → n ≡ 255 → min 255 (n + 1) ≡ 255
    at_top n e = omega (arith, e)
come_shut d g items b p n bad (inr (few, shut)) = split (254 == n) refl
  where
    split : (t : Bool) → (254 == n) ≡ t → IsTally d g (b ∷ items) (Some p) (more n)
    split true e = let k = eqb-true 254 n e in inl (omega (arith, k))
    split false e =
        let k = eqb-false 254 n e in
        let is : n + 1 ≡ min 255 (n + 1) = omega (arith, few) in
        inr (omega (arith, k, few), subst (λ x. ShutBy d g (b ∷ items) p x) is (shut_more d g items b p n bad shut))

-- an item that shut the move and goes makes one fewer, but at the top
gone_shut : (d : Design) (g : ℕ) (items : List Item) (b : Item) (p : Probe) (n : ℕ) → ¬ (IsClearOf d g p b)
    → IsTally d g (b ∷ items) (Some p) n → IsTally d g items (Some p) (fewer n)
gone_shut d g items b p n bad (inl top) = inl (ap (λ x. cond (x == 255) 255 (x - 1)) top)
gone_shut d g items b p n bad (inr (few, shut)) = split (n == 255) refl
  where
    split : (t : Bool) → (n == 255) ≡ t → IsTally d g items (Some p) (fewer n)
    split true e = let k = eqb-true n 255 e in absurd (omega (arith, k, few))
    split false e = subst (λ (t : Bool). IsTally d g items (Some p) (cond t 255 (n - 1))) (sym e)
        (inr (omega (arith, few), shut_fewer d g items b p n bad shut))

-- the four together
pub changes : TalliesChange
changes = record { come_clear = come_clear; come_shut = come_shut; gone_clear = gone_clear; gone_shut = gone_shut }
