-- The lines of a list with one more at its end.
use Rattle.std.proofs.Common.{◌≡◌, ℕ, ◌+◌, ◌<◌, List, [], ◌∷◌, ◌++◌, length, refl, sym, ap, ◌∙◌, arith}
use Rattle.std.proofs.Common.{flat_map}
use Rattle.std.specs.Prelude.{codes, slice_get}
use Rattle.std.proofs.lemmas.List.{append_assoc, append-nil}
use Rattle.pcb_model.specs.declared.item.Kind.{Kind}
use Rattle.pcb_model.specs.declared.design.Net.{Net}
use Rattle.report_form.specs.Form.{NetTold, CutTold, RunTold, PassTold, line, by_line, by_lines, run_line, run_lines}
use Rattle.report_form.specs.Form.{cut_lines, net_lines, nets_lines, pass_lines, place_lines}
use Rattle.report_form.specs.inner.State.{pass_line, name_of}

-- the lines of the places
pub place_more : (ps : List (List ℕ)) (p : List ℕ)
    → place_lines (ps ++ p ∷ []) ≡ place_lines ps ++ line (codes "drop " ++ p) ∷ []
place_more [] p = refl
place_more (x ∷ ps) p = ap (λ (L : List (List ℕ)). line (codes "drop " ++ x) ∷ L) (place_more ps p)

-- of the passes
pub pass_more : (k : ℕ) (ps : List PassTold) (p : PassTold)
    → pass_lines k (ps ++ p ∷ []) ≡ pass_lines k ps ++ pass_line (k + length ps) p ∷ []
pass_more k [] p = let e : k ≡ k + 0 = omega arith in
    ap (λ (j : ℕ). pass_line j p ∷ []) e
pass_more k (x ∷ ps) p =
    let e : (k + 1) + length ps ≡ k + length (x ∷ ps) = omega arith in
    ap (λ (L : List (List ℕ)). pass_line k x ∷ L)
    (pass_more (k + 1) ps p ∙ ap (λ (j : ℕ). pass_lines (k + 1) ps ++ pass_line j p ∷ []) e)

-- of the items that shut moves
pub by_more : (bs : List (Kind × List ℕ)) (b : Kind × List ℕ)
    → by_lines (bs ++ b ∷ []) ≡ by_lines bs ++ by_line b ∷ []
by_more [] b = refl
by_more (x ∷ bs) b = ap (λ (L : List (List ℕ)). by_line x ∷ L) (by_more bs b)

-- of the stretches
pub run_more : (rs : List RunTold) (r : RunTold) → run_lines (rs ++ r ∷ []) ≡ run_lines rs ++ run_line r ∷ []
run_more [] r = refl
run_more (x ∷ rs) r = ap (λ (L : List (List ℕ)). run_line x ∷ L) (run_more rs r)

-- of the cuts
pub cuts_more : (cs : List CutTold) (c : CutTold)
    → flat_map cut_lines (cs ++ c ∷ []) ≡ flat_map cut_lines cs ++ cut_lines c
cuts_more [] c = append-nil (cut_lines c)
cuts_more (x ∷ cs) c = ap (λ (L : List (List ℕ)). cut_lines x ++ L) (cuts_more cs c)
    ∙ sym (append_assoc (cut_lines x) (flat_map cut_lines cs) (cut_lines c))

pub no_nets : (nets : List Net) → nets_lines nets [] ≡ []
no_nets [] = refl
no_nets (net ∷ nets) = refl

-- of the nets
pub nets_more : (nets : List Net) (ns : List NetTold) (n : NetTold) → length ns < length nets
    → nets_lines nets (ns ++ n ∷ []) ≡ nets_lines nets ns ++ net_lines (name_of (slice_get nets (length ns))) n
nets_more [] ns n h = absurd (omega arith)
nets_more (net ∷ nets) [] n h =
    ap (λ (L : List (List ℕ)). net_lines net.name n ++ L) (no_nets nets) ∙ append-nil (net_lines net.name n)
nets_more (net ∷ nets) (x ∷ ns) n h =
    ap (λ (L : List (List ℕ)). net_lines net.name x ++ L) (nets_more nets ns n (omega arith))
    ∙ sym (append_assoc (net_lines net.name x) (nets_lines nets ns)
    (net_lines (name_of (slice_get nets (length ns))) n))
