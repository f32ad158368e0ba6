-- How nets end, one after another, and island by island.
use Rattle.std.proofs.Common.{◌≡◌, ℕ, ◌+◌, ◌≤◌, List, [], ◌∷◌, ◌++◌, length, Some, sym, ap, ◌∙◌, subst, inl, inr}
use Rattle.std.proofs.Common.{Result, refl, rules, arith, length-append}
use Rattle.std.specs.Prelude.{slice_get, remove, IfOk}
use Rattle.pcb_model.specs.declared.item.Item.{Item}
use Rattle.pcb_model.specs.declared.design.Design.{Design}
use Rattle.pcb_islands.specs.declared.net.Island.{Island}
use Rattle.pcb_islands.proofs.Elements.{look_cases}
use Rattle.route_lattice.specs.Mesh.{Mesh}
use Rattle.cut_certificate.specs.declared.cut.Cut.{Cut}
use Rattle.cut_certificate.specs.Cuts.{Cuts}
use Rattle.closing_pass.specs.Closing.{CanClose, Ends, AreEnds, HaveCuts}
use Rattle.pcb_model.specs.Sound.{Serves}
use Rattle.pcb_board.specs.Boards.{BoardOf, SnapOf}
use Rattle.pcb_board.specs.Answers.{snap_of}
use Rattle.pcb_board.specs.Keeping.{IsBoard}
use Rattle.closing_pass.specs.inner.Steps.{IsShutAt, IsClosedOn}
use Rattle.closing_pass.specs.inner.ClosedBoard.{CanCut}

-- ---- islands of a net
-- the first n islands have their cuts
pub record HaveCutsTo (d : Design) (m : Mesh) (via_cost : ℕ) (items : List Item) (found : List Island) (n : ℕ)
    (cuts : List Cut) : Type 0 where
  pub count : length cuts ≡ n
  pub each : (place : ℕ) (island : Island) (cut : Cut) → slice_get found place ≡ Some island
      → slice_get cuts place ≡ Some cut
      → Cuts d m items via_cost island (remove found place) (Some cut)

-- before the first island
pub cuts_none : (d : Design) (m : Mesh) (via_cost : ℕ) (items : List Item) (found : List Island)
    → HaveCutsTo d m via_cost items found 0 []
cuts_none d m via_cost items found = record { count = refl; each = search rules }

pub cuts_more : (d : Design) (m : Mesh) (via_cost : ℕ) (items : List Item) (found : List Island) (n : ℕ)
    (cuts more : List Cut) (cut : Cut)
    → HaveCutsTo d m via_cost items found n cuts
    → ((island : Island) → slice_get found n ≡ Some island → Cuts d m items via_cost island (remove found n)
    (Some cut)) → more ≡ cuts ++ cut ∷ []
    → HaveCutsTo d m via_cost items found (n + 1) more
cuts_more d m via_cost items found n cuts more cut have here is = record {
  count = (let count : length cuts ≡ n = have.count in ap length is ∙ length-append cuts (cut ∷ []) ∙ omega
      (arith, count));
  each = λ place island c found_there there. elim (look_cases cuts cut place c
      (subst (λ (xs : List Cut). slice_get xs place ≡ Some c) is there)) [
        | inl before ↦ have.each place island c found_there before
        | inr last ↦ (let at : place ≡ n = last.0 ∙ have.count in
            subst (λ (x : Cut). Cuts d m items via_cost island (remove found place) (Some x)) last.1
            (subst (λ (k : ℕ). Cuts d m items via_cost island (remove found k) (Some cut)) (sym at)
            (here island (subst (λ (k : ℕ). slice_get found k ≡ Some island) at found_there))))
      ];
}

-- no island of a net that is closed leads on
pub shut_of : (d : Design) (m : Mesh) (via_cost net : ℕ) (items : List Item) (found : List Island)
    (closed : IsClosedOn d m via_cost items net)
    → closed.found ≡ found → (length found ≤ 1 → ⊥) → (place : ℕ) → IsShutAt d m via_cost items found place
shut_of d m via_cost net items found closed same several = elim closed.shut [
  | inl few ↦ absurd (several (subst (λ (fs : List Island). length fs ≤ 1) same few))
  | inr shut ↦ subst (λ (fs : List Island). (place : ℕ) → IsShutAt d m via_cost items fs place) same shut
]

-- ---- nets
-- before the first net
pub ends_none : (d : Design) (m : Mesh) (via_cost : ℕ) (items : List Item) → AreEnds d m via_cost items 0 []
ends_none d m via_cost items = record { all = refl; each = search rules }

-- one net's end more
pub ends_more : (d : Design) (m : Mesh) (via_cost : ℕ) (items : List Item) (n : ℕ) (ends more : List (List Cut))
    (cuts : List Cut)
    → AreEnds d m via_cost items n ends → Ends d m via_cost items n cuts → more ≡ ends ++ cuts ∷ []
    → AreEnds d m via_cost items (n + 1) more
ends_more d m via_cost items n ends more cuts have ending is = record {
  all = (let count : length ends ≡ n = have.all in ap length is ∙ length-append ends (cuts ∷ []) ∙ omega
      (arith, count));
  each = λ net c there. elim (look_cases ends cuts net c (subst (λ (xs : List (List Cut)). slice_get xs net ≡ Some c)
      is there)) [
        | inl before ↦ have.each net c before
        | inr last ↦ subst (λ (k : ℕ). Ends d m via_cost items k c) (sym (last.0 ∙ have.all))
            (subst (Ends d m via_cost items n) last.1 ending)
      ];
}

-- ---- a snapshot of the board
module _ (m : Mesh) (via_cost : ℕ) (b : BoardOf) (s : SnapOf) (d : Design) (is : s ≡ snap_of b)
    (d_is : d ≡ s.design) where
  -- its islands and cuts may be asked for
  pub can_cut : CanClose m via_cost b.design → IsBoard b → Serves b.items b.design → CanCut d m via_cost s
  can_cut can kept serves =
      let here : CanCut b.design m via_cost (snap_of b) = record {
        sound = kept.sound;
        fits = can.fits;
        small_cost = can.small_cost;
        own = refl;
        serves = serves;
      } in
      subst (λ (e : Design). CanCut e m via_cost s) (sym d_is)
      (subst (λ (x : SnapOf). CanCut x.design m via_cost x) (sym is) here)

  -- and the cuts of a net's islands there are those on the board
  pub cuts_here : {E : Type 0} (found : List Island) (r : Result (List Cut) E)
      → IfOk r (HaveCuts d m via_cost s.items found) → IfOk r (HaveCuts b.design m via_cost b.items found)
  cuts_here found r h =
      subst (λ (x : SnapOf). IfOk r (HaveCuts x.design m via_cost x.items found)) is
      (subst (λ (e : Design). IfOk r (HaveCuts e m via_cost s.items found)) d_is h)
