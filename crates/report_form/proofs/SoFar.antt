-- The lines so far, with one more.
use Rattle.std.proofs.Common.{◌≡◌, inl, inr, ℕ, ◌+◌, ◌<◌, ◌≤◌, true, List, [], ◌∷◌, ◌++◌, Option, Some, None}
use Rattle.std.proofs.Common.{length, refl, sym, ap, ◌∙◌, subst, arith, flat_map}
use Rattle.std.specs.Prelude.{codes}
use Rattle.std.proofs.lemmas.List.{append_assoc, append-nil}
use Rattle.pcb_model.specs.declared.design.Design.{Design}
use Rattle.pcb_model.specs.declared.item.Kind.{Kind}
use Rattle.ses_writer.specs.Words.{spelled}
use Rattle.report_form.specs.Form.{Told, NetTold, CutTold, RunTold, line, by_line, by_lines, outside_lines}
use Rattle.report_form.specs.Form.{run_line, run_lines, wide_line, wide_lines, cut_line, cut_lines, nets_lines}
use Rattle.report_form.specs.Form.{pass_lines, size_line, total_line, head_lines, pass_part, lines}
use Rattle.report_form.specs.inner.State.{Page, State, Start, Named, Sized, Gridded, Dropping, Passing, Joining}
use Rattle.report_form.specs.inner.State.{Netting}
use Rattle.report_form.specs.inner.State.{Opened, Parts, Ended}
use Rattle.report_form.specs.inner.State.{NetStep, CutStep}
use Rattle.report_form.specs.inner.State.{PartStep, Next, Path, IsGood}
use Rattle.report_form.specs.inner.State.{so_far, board_line, grid_line, pass_line, opened_line}
use Rattle.report_form.specs.inner.State.{complete_line}
use Rattle.report_form.specs.inner.State.{name_after, whole, opened, bare, IsEarly, IsPage}
use Rattle.report_form.proofs.Agree.{open_words}
use Rattle.report_form.proofs.Snocs.{place_more, pass_more, by_more, run_more, cuts_more, no_nets, nets_more}
use Rattle.report_form.proofs.Goods.{good_next}

-- ---- lists in lists
-- the last of three parts with more behind it
behind_three : (a b x y : List (List ℕ)) → a ++ (b ++ (x ++ y)) ≡ (a ++ (b ++ x)) ++ y
behind_three a b x y =
    ap (λ (z : List (List ℕ)). a ++ z) (sym (append_assoc b x y)) ∙ sym (append_assoc a (b ++ x) y)

-- ---- what a step adds
-- the state behind the step, the lines of which are those before and one more
step_adds : (d : Design) (t v : State) (L : List (List ℕ)) (l m : List ℕ) → t ≡ v → l ≡ m
    → so_far d v ≡ L ++ m ∷ [] → so_far d t ≡ L ++ l ∷ []
step_adds d t v L l m e f h =
    ap (λ (s : State). so_far d s) e ∙ h ∙ ap (λ (x : List ℕ). L ++ x ∷ []) (sym f)

complete_adds : (d : Design) (h : Told) (ns : List NetTold) → length ns < length d.nets
    → so_far d (Netting h (ns ++ whole ∷ [])) ≡ so_far d (Netting h ns) ++ complete_line (name_after d ns) ∷ []
complete_adds d h ns less =
    ap (λ (z : List (List ℕ)). head_lines d h ++ (pass_part h ++ z)) (nets_more d.nets ns whole less)
    ∙ behind_three (head_lines d h) (pass_part h) (nets_lines d.nets ns) (complete_line (name_after d ns) ∷ [])

net_adds : (p : Page) (h : Told) (ns : List NetTold) (l : List ℕ) (t : State) → NetStep p h ns l t
    → so_far p.design t ≡ so_far p.design (Netting h ns) ++ l ∷ []
unfolding lines
net_adds p h ns l t (inl e) = step_adds p.design t (Netting h (ns ++ whole ∷ [])) (so_far p.design (Netting h ns)) l
    (complete_line (name_after p.design ns)) e.to e.is (complete_adds p.design h ns e.below)
net_adds p h ns l t (inr (inl e)) =
    step_adds p.design t (Opened h ns e.islands) (so_far p.design (Netting h ns)) l
    (opened_line (name_after p.design ns) e.islands) e.to e.is
    (behind_three (head_lines p.design h) (pass_part h) (nets_lines p.design.nets ns)
    (opened_line (name_after p.design ns) e.islands ∷ []))
net_adds p h ns l t (inr (inr e)) =
    step_adds p.design t (Ended (record h { nets = ns })) (so_far p.design (Netting h ns)) l (total_line ns) e.to e.is
    (behind_three (head_lines p.design h) (pass_part h) (nets_lines p.design.nets ns) (total_line ns ∷ []))

-- ---- cuts
-- the lines up to those of a net's cuts
before_cuts : Design → Told → List NetTold → List ℕ → List (List ℕ) → List (List ℕ)
before_cuts d h ns islands x =
    head_lines d h ++ (pass_part h ++ (nets_lines d.nets ns ++ opened_line (name_after d ns) islands ∷ x))

more_behind : (d : Design) (h : Told) (ns : List NetTold) (islands : List ℕ) (x y : List (List ℕ))
    → before_cuts d h ns islands (x ++ y) ≡ before_cuts d h ns islands x ++ y
unfolding before_cuts
more_behind d h ns islands x y =
    let o = opened_line (name_after d ns) islands in
    ap (λ (z : List (List ℕ)). head_lines d h ++ (pass_part h ++ z))
    (sym (append_assoc (nets_lines d.nets ns) (o ∷ x) y))
    ∙ behind_three (head_lines d h) (pass_part h) (nets_lines d.nets ns ++ o ∷ x) y

first_cut_adds : (p : Page) (h : Told) (ns : List NetTold) (islands : List ℕ) (l : List ℕ) (t : State)
    → CutStep p h ns islands [] l t → so_far p.design t ≡ so_far p.design (Opened h ns islands) ++ l ∷ []
unfolding before_cuts
first_cut_adds p h ns islands l t e =
    let c = bare e.pin e.reached e.blocked in
    step_adds p.design t (Parts h ns islands [] c) (so_far p.design (Opened h ns islands)) l (cut_line c) e.to e.is
    (more_behind p.design h ns islands [] (cut_line c ∷ []))

cut_adds : (p : Page) (h : Told) (ns : List NetTold) (islands : List ℕ) (cs : List CutTold) (k : CutTold) (l : List ℕ)
    (t : State) → CutStep p h ns islands (cs ++ k ∷ []) l t
    → so_far p.design t ≡ so_far p.design (Parts h ns islands cs k) ++ l ∷ []
unfolding before_cuts
cut_adds p h ns islands cs k l t e =
    let c = bare e.pin e.reached e.blocked in
    step_adds p.design t (Parts h ns islands (cs ++ k ∷ []) c) (so_far p.design (Parts h ns islands cs k)) l
    (cut_line c)
    e.to e.is
    (ap (λ (z : List (List ℕ)). before_cuts p.design h ns islands (z ++ cut_line c ∷ [])) (cuts_more cs k)
    ∙ more_behind p.design h ns islands (flat_map cut_lines cs ++ cut_lines k) (cut_line c ∷ []))

-- the lines of the last cut with one more
last_adds : (d : Design) (h : Told) (ns : List NetTold) (islands : List ℕ) (cs : List CutTold) (c e : CutTold)
    (l : List ℕ) → cut_lines e ≡ cut_lines c ++ l ∷ []
    → so_far d (Parts h ns islands cs e) ≡ so_far d (Parts h ns islands cs c) ++ l ∷ []
unfolding before_cuts
last_adds d h ns islands cs c e l f =
    ap (λ (z : List (List ℕ)). before_cuts d h ns islands z)
    (ap (λ (z : List (List ℕ)). flat_map cut_lines cs ++ z) f
    ∙ sym (append_assoc (flat_map cut_lines cs) (cut_lines c) (l ∷ [])))
    ∙ more_behind d h ns islands (flat_map cut_lines cs ++ cut_lines c) (l ∷ [])

by_adds : (c : CutTold) (item : Kind × List ℕ) → IsEarly c
    → cut_lines (record c { by_items = c.by_items ++ item ∷ [] }) ≡ cut_lines c ++ by_line item ∷ []
by_adds c item e =
    let items = by_lines c.by_items in
    ap (λ (z : List (List ℕ)). cut_line c ∷ z)
    ((λ i. by_lines (c.by_items ++ item ∷ [])
    ++ (outside_lines (e.inside i) ++ (run_lines (e.no_run i) ++ wide_lines (e.no_wide i))))
    ∙ append-nil (by_lines (c.by_items ++ item ∷ [])) ∙ by_more c.by_items item
    ∙ ap (λ (z : List (List ℕ)). z ++ by_line item ∷ []) (sym (append-nil items))
    ∙ (λ i. (items ++ (outside_lines (sym e.inside i) ++ (run_lines (sym e.no_run i) ++ wide_lines (sym e.no_wide i))))
    ++ by_line item ∷ []))

outside_adds : (c : CutTold) → IsEarly c
    → cut_lines (record c { by_outside = true }) ≡ cut_lines c ++ codes "by outside\n" ∷ []
outside_adds c e =
    let items = by_lines c.by_items in
    let o = codes "by outside\n" in
    ap (λ (z : List (List ℕ)). cut_line c ∷ z)
    ((λ i. items ++ (o ∷ (run_lines (e.no_run i) ++ wide_lines (e.no_wide i))))
    ∙ ap (λ (z : List (List ℕ)). z ++ o ∷ []) (sym (append-nil items))
    ∙ (λ i. (items ++ (outside_lines (sym e.inside i) ++ (run_lines (sym e.no_run i) ++ wide_lines (sym e.no_wide i))))
    ++ o ∷ []))

-- a line behind those of a cut without the last one
last_line : (c : CutTold) (rs : List (List ℕ)) (l : List ℕ) → c.wide ≡ None → rs ≡ run_lines c.runs ++ l ∷ []
    → cut_line c ∷ (by_lines c.by_items ++ (outside_lines c.by_outside ++ rs)) ≡ cut_lines c ++ l ∷ []
last_line c rs l none is =
    let items = by_lines c.by_items in
    let outside = outside_lines c.by_outside in
    ap (λ (z : List (List ℕ)). cut_line c ∷ z)
    (ap (λ (z : List (List ℕ)). items ++ (outside ++ z)) is
    ∙ behind_three items outside (run_lines c.runs) (l ∷ [])
    ∙ ap (λ (z : List (List ℕ)). (items ++ (outside ++ z)) ++ l ∷ [])
    (sym (append-nil (run_lines c.runs)) ∙ ap (λ (w : Option (List ℕ)). run_lines c.runs ++ wide_lines w) (sym none)))

run_adds : (c : CutTold) (r : RunTold) → c.wide ≡ None
    → cut_lines (record c { runs = c.runs ++ r ∷ [] }) ≡ cut_lines c ++ run_line r ∷ []
run_adds c r none =
    last_line c (run_lines (c.runs ++ r ∷ []) ++ wide_lines c.wide) (run_line r) none
    (ap (λ (w : Option (List ℕ)). run_lines (c.runs ++ r ∷ []) ++ wide_lines w) none
    ∙ (append-nil (run_lines (c.runs ++ r ∷ [])) ∙ run_more c.runs r))

wide_adds : (c : CutTold) (size : List ℕ) → c.wide ≡ None
    → cut_lines (record c { wide = Some size }) ≡ cut_lines c ++ wide_line size ∷ []
wide_adds c size none = last_line c (run_lines c.runs ++ wide_line size ∷ []) (wide_line size) none refl

part_adds : (d : Design) (h : Told) (ns : List NetTold) (islands : List ℕ) (cs : List CutTold) (c : CutTold)
    (l : List ℕ) (t : State) → PartStep h ns islands cs c l t
    → so_far d t ≡ so_far d (Parts h ns islands cs c) ++ l ∷ []
part_adds d h ns islands cs c l t (inl e) =
    let k = record c { by_items = c.by_items ++ e.item ∷ [] } in
    step_adds d t (Parts h ns islands cs k) (so_far d (Parts h ns islands cs c)) l (by_line e.item) e.to e.is
    (last_adds d h ns islands cs c k (by_line e.item) (by_adds c e.item e.early))
part_adds d h ns islands cs c l t (inr (inl e)) =
    let k = record c { by_outside = true } in
    step_adds d t (Parts h ns islands cs k) (so_far d (Parts h ns islands cs c)) l (codes "by outside\n") e.to e.is
    (last_adds d h ns islands cs c k (codes "by outside\n") (outside_adds c e.early))
part_adds d h ns islands cs c l t (inr (inr (inl e))) =
    let k = record c { runs = c.runs ++ e.run ∷ [] } in
    step_adds d t (Parts h ns islands cs k) (so_far d (Parts h ns islands cs c)) l (run_line e.run) e.to e.is
    (last_adds d h ns islands cs c k (run_line e.run) (run_adds c e.run e.no_wide))
part_adds d h ns islands cs c l t (inr (inr (inr e))) =
    let k = record c { wide = Some e.size } in
    step_adds d t (Parts h ns islands cs k) (so_far d (Parts h ns islands cs c)) l (wide_line e.size) e.to e.is
    (last_adds d h ns islands cs c k (wide_line e.size) (wide_adds c e.size e.no_wide))

-- where all cuts of a net are there, the lines are those behind the net
pub filled_lines : (d : Design) (h : Told) (ns : List NetTold) (islands : List ℕ) (cs : List CutTold) (c : CutTold)
    → length ns < length d.nets → 2 ≤ length (cs ++ c ∷ [])
    → so_far d (Netting h (ns ++ opened islands (cs ++ c ∷ []) ∷ [])) ≡ so_far d (Parts h ns islands cs c)
unfolding before_cuts
filled_lines d h ns islands cs c less many =
    let n = opened islands (cs ++ c ∷ []) in
    let name = name_after d ns in
    ap (λ (z : List (List ℕ)). head_lines d h ++ (pass_part h ++ z)) (nets_more d.nets ns n less)
    ∙ ap (λ (w : List ℕ). head_lines d h ++ (pass_part h ++ (nets_lines d.nets ns
    ++ line (codes "net " ++ spelled name ++ w) ∷ flat_map cut_lines (cs ++ c ∷ [])))) (open_words n many)
    ∙ ap (λ (z : List (List ℕ)). before_cuts d h ns islands z) (cuts_more cs c)

-- ---- the lines behind a line more
pub adds : (p : Page) (s t : State) (l : List ℕ) → IsGood p s → Next p s l t
    → so_far p.design t ≡ so_far p.design s ++ l ∷ []
adds p Start t l good e = step_adds p.design t Named [] l (board_line p.design) e.1 e.0 refl
adds p Named t l good e =
    step_adds p.design t Sized (so_far p.design Named) l (size_line p.design) e.1 e.0 refl
adds p Sized t l good e = ap (λ (s : State). so_far p.design s) e.to
    ∙ ap (λ (x : List ℕ). board_line p.design ∷ size_line p.design ∷ x ∷ []) (sym e.is)
adds p (Gridded h) t l good e = ap (λ (s : State). so_far p.design s) e.to
    ∙ ap (λ (x : List ℕ). board_line p.design ∷ size_line p.design ∷ grid_line h.grid h.nodes ∷ x ∷ []) (sym e.is)
adds p (Dropping h ps) t l good (inl e) =
    step_adds p.design t (Dropping h (ps ++ e.place ∷ [])) (so_far p.design (Dropping h ps)) l
    (line (codes "drop " ++ e.place)) e.to e.is
    (ap (λ (L : List (List ℕ)). board_line p.design ∷ size_line p.design ∷ grid_line h.grid h.nodes
    ∷ line (codes "dropped " ++ h.dropped) ∷ L) (place_more ps e.place))
adds p (Dropping h ps) t l good (inr e) =
    let k = record h { places = ps; notes = e.notes } in
    step_adds p.design t (Passing k []) (so_far p.design (Dropping h ps)) l (line (codes "notes " ++ e.notes)) e.to e.is
    (append-nil (head_lines p.design k))
adds p (Passing h ps) t l good (inl e) =
    step_adds p.design t (Passing h (ps ++ e.pass ∷ [])) (so_far p.design (Passing h ps)) l
    (pass_line (1 + length ps) e.pass) e.to e.is
    (ap (λ (L : List (List ℕ)). head_lines p.design h ++ L) (pass_more 1 ps e.pass)
    ∙ sym (append_assoc (head_lines p.design h) (pass_lines 1 ps) (pass_line (1 + length ps) e.pass ∷ [])))
adds p (Passing h ps) t l good (inr e) =
    step_adds p.design t (Joining (record h { passes = ps; kept = e.kept })) (so_far p.design (Passing h ps)) l
    (line (codes "kept " ++ e.kept)) e.to e.is
    (sym (append_assoc (head_lines p.design h) (pass_lines 1 ps) (line (codes "kept " ++ e.kept) ∷ [])))
adds p (Joining h) t l good e =
    let k = record h { joins = e.joins } in
    let kept = line (codes "kept " ++ h.kept) in
    let joins = line (codes "joins " ++ e.joins) in
    step_adds p.design t (Netting k []) (so_far p.design (Joining h)) l joins e.to e.is
    (ap (λ (L : List (List ℕ)). head_lines p.design h ++ (pass_part k ++ L)) (no_nets p.design.nets)
    ∙ ap (λ (L : List (List ℕ)). head_lines p.design h ++ L) (append-nil (pass_part k))
    ∙ ap (λ (L : List (List ℕ)). head_lines p.design h ++ L)
    (sym (append_assoc (pass_lines 1 h.passes) (kept ∷ []) (joins ∷ [])))
    ∙ sym (append_assoc (head_lines p.design h) (pass_lines 1 h.passes ++ kept ∷ []) (joins ∷ [])))
adds p (Netting h ns) t l good e = net_adds p h ns l t e
adds p (Opened h ns islands) t l good e = first_cut_adds p h ns islands l t e
adds p (Parts h ns islands cs c) t l good (inl e) = part_adds p.design h ns islands cs c l t e
adds p (Parts h ns islands cs c) t l good (inr (inl e)) = cut_adds p h ns islands cs c l t e.step
adds p (Parts h ns islands cs c) t l good (inr (inr e)) =
    net_adds p h (ns ++ opened islands (cs ++ c ∷ []) ∷ []) l t e.step
    ∙ ap (λ (L : List (List ℕ)). L ++ l ∷ [])
    (filled_lines p.design h ns islands cs c good.opened.below
    (let many = good.opened.many in omega (arith, e.full, many)))
adds p (Ended h) t l good e = absurd e

-- ---- the lines of a path
pub path_adds : (p : Page) (s t : State) (L : List (List ℕ)) → IsPage p → IsGood p s → Path p s L t
    → so_far p.design t ≡ so_far p.design s ++ L
path_adds p s t [] page good e =
    ap (λ (x : State). so_far p.design x) (sym e) ∙ sym (append-nil (so_far p.design s))
path_adds p s t (l ∷ L) page good e =
    path_adds p e.0 t L page (good_next p s e.0 l page good e.1) e.2
    ∙ ap (λ (z : List (List ℕ)). z ++ L) (adds p s e.0 l good e.1)
    ∙ append_assoc (so_far p.design s) (l ∷ []) L

-- paths one after another
pub path_append : (p : Page) (s m t : State) (L K : List (List ℕ)) → Path p s L m → Path p m K t → Path p s (L ++ K) t
path_append p s m t [] K e f = subst (λ (x : State). Path p x K t) (sym e) f
path_append p s m t (l ∷ L) K e f = (e.0, e.1, path_append p e.0 m t L K e.2 f)
