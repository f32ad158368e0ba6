-- Padstacks with one more behind.
use Rattle.std.proofs.Common.{◌≡◌, ◌∙◌, ap, sym, subst, ℕ, Bool, List, [], ◌∷◌, ◌++◌, refl, IsTrue, ◌↔◌}
use Rattle.std.specs.Prelude.{All, map}
use Rattle.std.specs.List.{zip}
use Rattle.std.proofs.lemmas.List.{map-append}
use Rattle.std.proofs.lemmas.List.Elements.{All-nil, All-cons, All-head, All-tail}
use Rattle.pcb_model.specs.declared.design.Padstack.{Padstack}
use Rattle.pcb_model.specs.Bounds.{IsFit}
use Rattle.pcb_model.specs.Sound.{IsUsable}
use Rattle.dsn_shapes.specs.declared.parts.Stack.{Stack}
use Rattle.dsn_design.specs.Copper.{stack_pieces}
use Rattle.dsn_design.specs.Fit.{IsStackFit}
use Rattle.dsn_design.proofs.Fitting.{stack_fit}
use Rattle.dsn_design.specs.Usable.{AreUsable, padstack_of, padstacks_of, usables}

zip_push : (n : ℕ) (us : List Bool) (ss : List Stack) (u : Bool) (s : Stack) → AreUsable n us ss
    → zip (us ++ u ∷ []) (ss ++ s ∷ []) ≡ zip us ss ++ (u, s) ∷ []
zip_push n [] [] u s h = refl
zip_push n [] (y ∷ ss) u s h = absurd h
zip_push n (x ∷ us) [] u s h = absurd h
zip_push n (x ∷ us) (y ∷ ss) u s h = ap (λ es. (x, y) ∷ es) (zip_push n us ss u s h.1)

usable_push : (n : ℕ) (us : List Bool) (ss : List Stack) (u : Bool) (s : Stack) → AreUsable n us ss
    → IsTrue u ↔ IsUsable (stack_pieces n s) → AreUsable n (us ++ u ∷ []) (ss ++ s ∷ [])
usable_push n [] [] u s h k = (k, tt)
usable_push n [] (y ∷ ss) u s h k = absurd h
usable_push n (x ∷ us) [] u s h k = absurd h
usable_push n (x ∷ us) (y ∷ ss) u s h k = (h.0, usable_push n us ss u s h.1 k)

usables_push : (ps : List Padstack) (p : Padstack) → usables (ps ++ p ∷ []) ≡ usables ps ++ p.usable ∷ []
usables_push ps p = map-append (λ (q : Padstack). q.usable) ps (p ∷ [])

-- these padstacks are those of these of the library
pub record ArePadstacks (n : ℕ) (ss : List Stack) (ps : List Padstack) : Type 0 where
  pub are : ps ≡ padstacks_of n (usables ps) ss
  pub usable : AreUsable n (usables ps) ss

pub padstacks_none : (n : ℕ) (ps : List Padstack) → ps ≡ [] → ArePadstacks n [] ps
unfolding padstacks_of
padstacks_none n ps e = rw e (record { are = refl; usable = tt })

pub padstacks_push : (n : ℕ) (ss more : List Stack) (ps qs : List Padstack) (s : Stack) (p : Padstack)
    → ArePadstacks n ss ps → p ≡ padstack_of n (p.usable, s) → IsTrue p.usable ↔ IsUsable (stack_pieces n s)
    → more ≡ ss ++ s ∷ [] → qs ≡ ps ++ p ∷ [] → ArePadstacks n more qs
unfolding padstacks_of
padstacks_push n ss more ps qs s p h e k m q =
    let us = usables ps in
    let u : usables (ps ++ p ∷ []) ≡ us ++ p.usable ∷ [] = usables_push ps p in
    let a : ps ++ p ∷ [] ≡ map (padstack_of n) (zip (us ++ p.usable ∷ []) (ss ++ s ∷ [])) =
    ap (λ xs. xs ++ p ∷ []) h.are
    ∙ ap (λ x. map (padstack_of n) (zip us ss) ++ x ∷ []) e
    ∙ sym (map-append (padstack_of n) (zip us ss) ((p.usable, s) ∷ []))
    ∙ sym (ap (map (padstack_of n)) (zip_push n us ss p.usable s h.usable)) in
    rw (m, q) (record {
      are = a ∙ ap (λ (vs : List Bool). map (padstack_of n) (zip vs (ss ++ s ∷ []))) (sym u);
      usable = subst (λ (vs : List Bool). AreUsable n vs (ss ++ s ∷ [])) (sym u)
          (usable_push n us ss p.usable s h.usable k);
    })

-- the pieces of padstacks that fit, fit
pub padstacks_fit : (n : ℕ) (us : List Bool) (ss : List Stack) → AreUsable n us ss → All IsStackFit ss
    → All (λ (s : Padstack). All IsFit s.pieces) (padstacks_of n us ss)
unfolding padstacks_of
padstacks_fit n [] [] u h = All-nil (λ (s : Padstack). All IsFit s.pieces)
padstacks_fit n [] (s ∷ ss) u h = absurd u
padstacks_fit n (b ∷ us) [] u h = absurd u
padstacks_fit n (b ∷ us) (s ∷ ss) u h =
    All-cons (λ (p : Padstack). All IsFit p.pieces) (padstack_of n (b, s)) (padstacks_of n us ss)
    (stack_fit n s (All-head IsStackFit s ss h)) (padstacks_fit n us ss u.1 (All-tail IsStackFit s ss h))
