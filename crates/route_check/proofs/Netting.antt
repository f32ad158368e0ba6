-- The nets of a report as they are told, and as they were kept.
use Rattle.std.proofs.Common.{◌≡◌, ◌∙◌, ◌<◌, ℕ, zero, suc, List, [], ◌∷◌, Some, None, Option}
use Rattle.std.proofs.Common.{ap, arith, length, refl, subst, sym}
use Rattle.std.specs.Prelude.{map, remove, slice_get}
use Rattle.std.specs.List.{AllZip}
use Rattle.std.specs.Option.{option_map}
use Rattle.std.proofs.lemmas.List.{length-map}
use Rattle.std.proofs.lemmas.Option.{same_Some, slice_get-map, slice_get_within}
use Rattle.pcb_model.specs.declared.item.Item.{Item}
use Rattle.pcb_model.specs.declared.design.Design.{Design}
use Rattle.pcb_islands.specs.declared.net.Island.{Island}
use Rattle.route_lattice.specs.Mesh.{Mesh}
use Rattle.report_form.specs.declared.reading.ReadCut.{ReadCut}
use Rattle.report_form.specs.Form.{AreCutsTold, CutTold, IsCutTold, IsNetTold, NetTold, Told}
use Rattle.report_form.specs.Reading.{AreCutsKept, AreNetsKept, IsCutKept}
use Rattle.route_check.specs.Judged.{AreCutsTrue, AreTrueBelow, IsCutTrue, IsFalseCut, IsLineTrue, first_name}
use Rattle.route_check.specs.Judged.{first_names, first_of}
use Rattle.route_check.specs.inner.Kept.{AreAllJudged, HasFalse, HasItsCuts, HaveTheirCuts, IsFirstLine, IsPinBelow}
use Rattle.route_check.proofs.Zipped.{AtPlace, at_place, zip_at, zip_from}

-- ---- lengths
cuts_long : (firsts : List (List ℕ)) (cs : List CutTold) (ks : List ReadCut) → AreCutsKept firsts cs ks
    → length cs ≡ length ks
cuts_long firsts [] [] h = refl
cuts_long firsts [] (k ∷ ks) h = absurd h
cuts_long firsts (c ∷ cs) [] h = absurd h
cuts_long [] (c ∷ cs) (k ∷ ks) h = ap suc (cuts_long [] cs ks h.1)
cuts_long (first ∷ firsts) (c ∷ cs) (k ∷ ks) h = ap suc (cuts_long firsts cs ks h.1)

pub nets_long : (firsts : List (List (List ℕ))) (ns : List NetTold) (ks : List (List ReadCut))
    → AreNetsKept firsts ns ks → length ns ≡ length ks
nets_long firsts [] [] h = refl
nets_long firsts [] (k ∷ ks) h = absurd h
nets_long firsts (n ∷ ns) [] h = absurd h
nets_long [] (n ∷ ns) (k ∷ ks) h = absurd h
nets_long (own ∷ firsts) (n ∷ ns) (k ∷ ks) h = ap suc (nets_long firsts ns ks h.1)

told_long : (fs : List (List (List ℕ))) (ns : List NetTold) → AllZip IsNetTold fs ns → length fs ≡ length ns
told_long [] [] h = refl
told_long [] (n ∷ ns) h = absurd h
told_long (f ∷ fs) [] h = absurd h
told_long (f ∷ fs) (n ∷ ns) h = ap suc (told_long fs ns h.1)

-- the first line that isn't true, of a report as it is told
pub record FirstLine (found : List (List Island)) (t : Told) (at : ℕ) : Type 0 where
  pub own : List Island
  pub own_is : slice_get found at ≡ Some own
  pub line : NetTold
  pub line_is : slice_get t.nets at ≡ Some line
  pub false_ : IsLineTrue own line → ⊥
  pub before : (net : ℕ) (os : List Island) (n : NetTold) → net < at → slice_get found net ≡ Some os
      → slice_get t.nets net ≡ Some n → IsLineTrue os n

module _ (d : Design) where
  -- ---- at a place
  kept_cuts : (found : List (List Island)) (ns : List NetTold) (ks : List (List ReadCut))
      → AreNetsKept (first_names d found) ns ks → (net : ℕ) (own : List Island) (n : NetTold) (cuts : List ReadCut)
      → slice_get found net ≡ Some own → slice_get ns net ≡ Some n → slice_get ks net ≡ Some cuts
      → AreCutsKept (map (first_name d) own) n.cuts cuts
  kept_cuts found [] [] h net own n cuts p q r = absurd (cc)
  kept_cuts found [] (k ∷ ks) h net own n cuts p q r = absurd h
  kept_cuts found (m ∷ ns) [] h net own n cuts p q r = absurd h
  kept_cuts [] (m ∷ ns) (k ∷ ks) h net own n cuts p q r = absurd h
  kept_cuts (o ∷ found) (m ∷ ns) (k ∷ ks) h zero own n cuts p q r =
      subst (λ (os : List Island). AreCutsKept (map (first_name d) os) n.cuts cuts) (same_Some o own p)
      (subst (λ (t : NetTold). AreCutsKept (map (first_name d) o) t.cuts cuts) (same_Some m n q)
      (subst (λ (cs : List ReadCut). AreCutsKept (map (first_name d) o) m.cuts cs) (same_Some k cuts r) h.0))
  kept_cuts (o ∷ found) (m ∷ ns) (k ∷ ks) h (suc net) own n cuts p q r =
      kept_cuts found ns ks h.1 net own n cuts p q r

  kept_cut : (own : List Island) (cs : List CutTold) (ks : List ReadCut)
      → AreCutsKept (map (first_name d) own) cs ks → (k : ℕ) (island : Island) (c : CutTold) (cut : ReadCut)
      → slice_get own k ≡ Some island → slice_get cs k ≡ Some c → slice_get ks k ≡ Some cut
      → IsCutKept (Some (first_name d island)) c cut
  kept_cut own [] [] h k island c cut p q r = absurd (cc)
  kept_cut own [] (y ∷ ks) h k island c cut p q r = absurd h
  kept_cut own (x ∷ cs) [] h k island c cut p q r = absurd h
  kept_cut [] (x ∷ cs) (y ∷ ks) h k island c cut p q r = absurd (cc)
  kept_cut (s ∷ own) (x ∷ cs) (y ∷ ks) h zero island c cut p q r =
      subst (λ (t : Island). IsCutKept (Some (first_name d t)) c cut) (same_Some s island p)
      (subst (λ (t : CutTold). IsCutKept (Some (first_name d s)) t cut) (same_Some x c q)
      (subst (IsCutKept (Some (first_name d s)) x) (same_Some y cut r) h.0))
  kept_cut (s ∷ own) (x ∷ cs) (y ∷ ks) h (suc k) island c cut p q r = kept_cut own cs ks h.1 k island c cut p q r

  told_cut : (own : List Island) (cs : List CutTold) → AreCutsTold (map (first_name d) own) cs
      → (k : ℕ) (island : Island) (c : CutTold) → slice_get own k ≡ Some island → slice_get cs k ≡ Some c
      → IsCutTold (Some (first_name d island)) c
  told_cut own [] h k island c p q = absurd (cc)
  told_cut [] (x ∷ cs) h k island c p q = absurd (cc)
  told_cut (s ∷ own) (x ∷ cs) h zero island c p q =
      subst (λ (t : Island). IsCutTold (Some (first_name d t)) c) (same_Some s island p)
      (subst (IsCutTold (Some (first_name d s))) (same_Some x c q) h.0)
  told_cut (s ∷ own) (x ∷ cs) h (suc k) island c p q = told_cut own cs h.1 k island c p q

  -- ---- the nets of a report
  module _ (found : List (List Island)) (t : Told) (ks : List (List ReadCut))
      (kept : AreNetsKept (first_names d found) t.nets ks) (told : AllZip IsNetTold (first_names d found) t.nets) where
    pub found_long : length found ≡ length t.nets
    found_long =
        let names : length (first_names d found) ≡ length found = length-map found (map (first_name d)) in
        let same = told_long (first_names d found) t.nets told in
        omega (arith, names, same)

    -- a net's cuts
    one_kept : (net : ℕ) (own : List Island) (n : NetTold) (cuts : List ReadCut) → slice_get found net ≡ Some own
        → slice_get t.nets net ≡ Some n → slice_get ks net ≡ Some cuts
        → AreCutsKept (map (first_name d) own) n.cuts cuts
    one_kept = kept_cuts found t.nets ks kept

    net_told : (net : ℕ) (own : List Island) (n : NetTold) → slice_get found net ≡ Some own
        → slice_get t.nets net ≡ Some n → AreCutsTold (map (first_name d) own) n.cuts
    net_told net own n p q =
        (zip_at IsNetTold (first_names d found) t.nets told net (map (first_name d) own) n
        (slice_get-map (map (first_name d)) found net ∙ ap (option_map (map (first_name d))) p) q).cuts

    -- a net that is told was kept, and the other way
    net_kept : (net : ℕ) (n : NetTold) → slice_get t.nets net ≡ Some n → AtPlace ks net
    net_kept net n q =
        let low = slice_get_within t.nets net n q in
        at_place ks net (omega (arith, low, nets_long (first_names d found) t.nets ks kept))

    net_of : (net : ℕ) (cuts : List ReadCut) → slice_get ks net ≡ Some cuts → AtPlace t.nets net
    net_of net cuts r =
        let low = slice_get_within ks net cuts r in
        at_place t.nets net (omega (arith, low, nets_long (first_names d found) t.nets ks kept))

    -- ---- lines
    line_of : (net : ℕ) (own : List Island) (n : NetTold) (cuts : List ReadCut) → slice_get found net ≡ Some own
        → slice_get t.nets net ≡ Some n → slice_get ks net ≡ Some cuts → HasItsCuts own cuts → IsLineTrue own n
    line_of net own n cuts p q r is =
        cuts_long (map (first_name d) own) n.cuts cuts (one_kept net own n cuts p q r) ∙ is

    pub lines_true : HaveTheirCuts found ks → AllZip IsLineTrue found t.nets
    lines_true have = zip_from IsLineTrue found t.nets found_long (λ net own n p q.
        let r = net_kept net n q in line_of net own n r.one p q r.is (have.each net own r.one p r.is))

    -- the first line that isn't true
    pub first_line : (at : ℕ) → IsFirstLine found ks at → FirstLine found t at
    first_line at f =
        let n = net_of at f.cuts f.cuts_is in
        record {
          own = f.own;
          own_is = f.own_is;
          line = n.one;
          line_is = n.is;
          false_ = λ is. f.not_
              (sym (cuts_long (map (first_name d) f.own) n.one.cuts f.cuts
              (one_kept at f.own n.one f.cuts f.own_is n.is f.cuts_is)) ∙ is);
          before = λ net os m less p q.
              let r = net_kept net m q in line_of net os m r.one p q r.is (f.before net os r.one less p r.is);
        }

    -- ---- cuts
    module _ (m : Mesh) (items : List Item) where
      cut_true : (bound : Option ℕ) → AreAllJudged d m items found ks (length ks) bound → (net k : ℕ)
          (own : List Island) (n : NetTold) (island : Island) (c : CutTold) → slice_get found net ≡ Some own
          → slice_get t.nets net ≡ Some n → slice_get own k ≡ Some island → slice_get n.cuts k ≡ Some c
          → IsPinBelow bound (first_of island.pins) → IsCutTrue d m items island (remove own k) c
      cut_true bound judged net k own n island c p q at there low =
          let r = net_kept net n q in
          let all = one_kept net own n r.one p q r.is in
          let within = slice_get_within n.cuts k c there in
          let cut = at_place r.one k (omega (arith, within, cuts_long (map (first_name d) own) n.cuts r.one all)) in
          let told_as = told_cut own n.cuts (net_told net own n p q) k island c at there in
          (judged.true_ net k own r.one island cut.one (slice_get_within ks net r.one r.is) p r.is at cut.is low).each
          island c at told_as.reached told_as.blocked
          (kept_cut own n.cuts r.one all k island c cut.one at there cut.is)

      pub cuts_true : AreAllJudged d m items found ks (length ks) None
          → AllZip (AreCutsTrue d m items) found t.nets
      cuts_true judged = zip_from (AreCutsTrue d m items) found t.nets found_long (λ net own n p q. record {
        each = λ k island c at there. cut_true None judged net k own n island c p q at there tt;
      })

      pub true_below : (pin : ℕ) → AreAllJudged d m items found ks (length ks) (Some pin)
          → AreTrueBelow d m items found t pin
      true_below pin judged = record {
        each = λ net k own n island c p q at there low.
            cut_true (Some pin) judged net k own n island c p q at there low;
      }

      pub false_cut : (pin : ℕ) → HasFalse d m items found ks pin → IsFalseCut d m items found t pin
      false_cut pin h =
          let n = net_of h.net h.cuts h.cuts_is in
          let all = one_kept h.net h.own n.one h.cuts h.own_is n.is h.cuts_is in
          let f = h.at in
          let within = slice_get_within h.cuts f.k f.cut f.cut_is in
          let c = at_place n.one.cuts f.k
          (omega (arith, within, cuts_long (map (first_name d) h.own) n.one.cuts h.cuts all)) in
          record {
            net = h.net;
            k = f.k;
            own = h.own;
            own_is = h.own_is;
            told = n.one;
            told_is = n.is;
            island = f.island;
            island_is = f.island_is;
            cut = c.one;
            cut_is = c.is;
            pin_is = f.pin_is;
            false_ = f.false_.each f.island c.one f.island_is
                (kept_cut h.own n.one.cuts h.cuts all f.k f.island c.one f.cut f.island_is c.is f.cut_is);
          }
