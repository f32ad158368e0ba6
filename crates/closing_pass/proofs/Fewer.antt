-- Fewer open connections, or never more, from one board to the next.
use Rattle.std.proofs.Common.{◌≡◌, ℕ, List, length, ap, subst, inl, inr, arith}
use Rattle.std.specs.Prelude.{Contains}
use Rattle.pcb_model.specs.declared.item.Item.{Item}
use Rattle.pcb_model.specs.declared.design.Design.{Design}
use Rattle.pcb_model.proofs.Symmetry.{touching_swapped}
use Rattle.pcb_islands.specs.declared.net.Island.{Island}
use Rattle.pcb_islands.specs.Islands.{pins_of}
use Rattle.pcb_islands.proofs.Merging.{fewer_islands, no_more_islands, one_list_of_islands}
use Rattle.pcb_islands.proofs.Pads.{net_pins}
use Rattle.pcb_islands.proofs.Touches.{below_or_same}
use Rattle.pcb_board.specs.Boards.{BoardOf}
use Rattle.pcb_board.specs.Keeping.{IsBoard}
use Rattle.pcb_board.proofs.Standing.{ascends_now, serves_now}
use Rattle.closing_pass.specs.OpenCount.{FewerOpen, IsOpenCount, NeverMore}
use Rattle.closing_pass.proofs.Counts.{counts_stay}
use Rattle.closing_pass.proofs.Joining.{Falls, Single}
use Rattle.closing_pass.proofs.Sure.{sure_count}

-- what the laws of islands say
pub single : Single
single d items net found others sound serves are too = one_list_of_islands d items net sound (pins_of d net) serves
    touching_swapped (net_pins d net sound).0 found others are too

pub falls : Falls
falls d items later net old found sound serves up more was is i j a b a_in b_in at_i at_j apart joined =
    fewer_islands d items later net sound serves touching_swapped more (pins_of d net) (net_pins d net sound).0 old
    found was is up i j a b a_in b_in at_i at_j apart joined

-- a board has one count
pub never_same : (b c : BoardOf) → IsBoard b → c ≡ b → NeverMore b c
never_same b c kept same n k old new =
    counts_stay b.design b.items b.items n k old (subst (λ (x : BoardOf). IsOpenCount x.design x.items k) same new)
    (λ net was is was_are is_are. let e = ap (λ (xs : List Island). length xs)
    (single b.design b.items net was is kept.sound (serves_now b kept) was_are is_are) in omega (arith, e))

-- where copper comes, no more are open
pub never_grown : (b c : BoardOf) → IsBoard b → c.design ≡ b.design
    → ((x : Item) → Contains b.items x → Contains c.items x) → NeverMore b c
never_grown b c kept same more n k old new =
    counts_stay b.design b.items c.items n k old (subst (λ (d : Design). IsOpenCount d c.items k) same new)
    (λ net was is was_are is_are. no_more_islands b.design b.items c.items net kept.sound (serves_now b kept)
    touching_swapped more (pins_of b.design net) (net_pins b.design net kept.sound).0 was is was_are is_are)

pub never_fewer : (b c : BoardOf) → FewerOpen b c → NeverMore b c
never_fewer b c fewer n k old new = let less = fewer n k old new in omega (arith, less)

-- ---- two steps
-- the board between them has some count
between : (b : BoardOf) → IsBoard b → ¬ ((m : ℕ) → ¬ (IsOpenCount b.design b.items m))
between b kept = sure_count b.design b.items kept.sound (serves_now b kept) (ascends_now b kept)

pub never_on : (a b c : BoardOf) → IsBoard b → NeverMore a b → NeverMore b c → NeverMore a c
never_on a b c kept first second n k old new = elim (below_or_same n k) [
  | inl less ↦ absurd (between b kept (λ m is.
      let x = first n m old is in let y = second m k is new in omega (arith, less, x, y)))
  | inr o ↦ elim o [ inl more ↦ omega (arith, more) | inr same ↦ omega (arith, same) ]
]

pub fewer_on : (a b c : BoardOf) → IsBoard b → FewerOpen a b → NeverMore b c → FewerOpen a c
fewer_on a b c kept first second n k old new = elim (below_or_same k n) [
  | inl less ↦ less
  | inr o ↦ absurd (between b kept (λ m is.
      let x = first n m old is in
      let y = second m k is new in
      elim o [ inl more ↦ omega (arith, more, x, y) | inr same ↦ omega (arith, same, x, y) ]))
]

pub fewer_later : (a b c : BoardOf) → IsBoard b → NeverMore a b → FewerOpen b c → FewerOpen a c
fewer_later a b c kept first second n k old new = elim (below_or_same k n) [
  | inl less ↦ less
  | inr o ↦ absurd (between b kept (λ m is.
      let x = first n m old is in
      let y = second m k is new in
      elim o [ inl more ↦ omega (arith, more, x, y) | inr same ↦ omega (arith, same, x, y) ]))
]
