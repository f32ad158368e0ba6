-- Of the lines that may come next, a text begins with at most one.
use Rattle.std.proofs.Common.{◌≡◌, ◌⊎◌, inl, inr, ℕ, ◌+◌, List, [], ◌∷◌, ◌++◌, length, get_or, refl, sym, ap}
use Rattle.std.proofs.Common.{ap₂, ◌∙◌, arith, true, Some}
use Rattle.std.specs.Prelude.{codes, decimal, slice_get}
use Rattle.std.proofs.lemmas.List.{append_cancel_left}
use Rattle.pcb_model.specs.declared.item.Kind.{Kind}
use Rattle.ses_writer.specs.Words.{spelled}
use Rattle.report_form.specs.Form.{Told, NetTold, CutTold, RunTold, PassTold, line, by_line, run_line, cut_line}
use Rattle.report_form.specs.Form.{total_line, wide_line}
use Rattle.report_form.specs.inner.State.{Page, State, Start, Named, Sized, Gridded, Dropping, Passing, Joining}
use Rattle.report_form.specs.inner.State.{Netting}
use Rattle.report_form.specs.inner.State.{Opened, Parts, Ended, GridStep, DroppedStep, DropStep, NotesStep, PassStep}
use Rattle.report_form.specs.inner.State.{KeptStep, JoinsStep, CompleteStep, OpenStep, NetStep, CutStep}
use Rattle.report_form.specs.inner.State.{ByStep, OutsideStep, RunStep, WideStep, PartStep, NextStep, FilledStep}
use Rattle.report_form.specs.inner.State.{Next, gridded, whole}
use Rattle.report_form.specs.inner.State.{opened, bare, grid_line, pass_line, opened_line, complete_line}
use Rattle.report_form.specs.inner.State.{name_after, firsts_after}
use Rattle.report_form.proofs.Peels.{one_peel, two_peel, four_peel, cut_peel, by_peel, letter_of, no_boundary}
use Rattle.report_form.proofs.Peels.{ended, ended_is}
use Rattle.report_form.proofs.Agree.{head}

-- the lines as they are
shown : (l m f g r q : List ℕ) → l ≡ f → m ≡ g → l ++ r ≡ m ++ q → f ++ r ≡ g ++ q
shown l m f g r q a b e =
    ap (λ (x : List ℕ). x ++ r) (sym a) ∙ e ∙ ap (λ (x : List ℕ). x ++ q) b

-- one line and one state
abbrev pub IsOne : List ℕ → List ℕ → State → State → Type 0
IsOne l m t v = (l ≡ m) × (t ≡ v)

one : (l m f g : List ℕ) (t v x y : State) → l ≡ f → m ≡ g → t ≡ x → v ≡ y → f ≡ g → x ≡ y → IsOne l m t v
one l m f g t v x y a b c e u w = (a ∙ u ∙ sym b, c ∙ w ∙ sym e)

-- ---- the first lines
grid_one : (l m r q : List ℕ) (t v : State) → GridStep l t → GridStep m v → l ++ r ≡ m ++ q → IsOne l m t v
grid_one l m r q t v a b e =
    let w = two_peel (codes "grid ") (codes " nodes ") a.grid a.nodes b.grid b.nodes r q (λ z. refl) a.good.grid
    a.good.nodes b.good.grid b.good.nodes
    (shown l m (grid_line a.grid a.nodes) (grid_line b.grid b.nodes) r q a.is b.is e) in
    one l m (grid_line a.grid a.nodes) (grid_line b.grid b.nodes) t v (Gridded (gridded a.grid a.nodes))
    (Gridded (gridded b.grid b.nodes)) a.is b.is a.to b.to (ap₂ grid_line w.first w.second)
    (ap₂ (λ (x y : List ℕ). Gridded (gridded x y)) w.first w.second)

dropped_one : (h : Told) (l m r q : List ℕ) (t v : State) → DroppedStep h l t → DroppedStep h m v → l ++ r ≡ m ++ q
    → IsOne l m t v
dropped_one h l m r q t v a b e =
    let f = λ (x : List ℕ). line (codes "dropped " ++ x) in
    let s = λ (x : List ℕ). Dropping (record h { dropped = x }) [] in
    let w = one_peel (codes "dropped ") a.dropped b.dropped r q a.number b.number
    (shown l m (f a.dropped) (f b.dropped) r q a.is b.is e) in
    one l m (f a.dropped) (f b.dropped) t v (s a.dropped) (s b.dropped) a.is b.is a.to b.to (ap f w.0) (ap s w.0)

drop_one : (h : Told) (ps : List (List ℕ)) (l m r q : List ℕ) (t v : State) → DropStep h ps l t → DropStep h ps m v
    → l ++ r ≡ m ++ q → IsOne l m t v
drop_one h ps l m r q t v a b e =
    let f = λ (x : List ℕ). line (codes "drop " ++ x) in
    let s = λ (x : List ℕ). Dropping h (ps ++ x ∷ []) in
    let w = one_peel (codes "drop ") a.place b.place r q a.number b.number
    (shown l m (f a.place) (f b.place) r q a.is b.is e) in
    one l m (f a.place) (f b.place) t v (s a.place) (s b.place) a.is b.is a.to b.to (ap f w.0) (ap s w.0)

notes_one : (h : Told) (ps : List (List ℕ)) (l m r q : List ℕ) (t v : State) → NotesStep h ps l t → NotesStep h ps m v
    → l ++ r ≡ m ++ q → IsOne l m t v
notes_one h ps l m r q t v a b e =
    let f = λ (x : List ℕ). line (codes "notes " ++ x) in
    let s = λ (x : List ℕ). Passing (record h { places = ps; notes = x }) [] in
    let w = one_peel (codes "notes ") a.notes b.notes r q a.number b.number
    (shown l m (f a.notes) (f b.notes) r q a.is b.is e) in
    one l m (f a.notes) (f b.notes) t v (s a.notes) (s b.notes) a.is b.is a.to b.to (ap f w.0) (ap s w.0)

-- ---- the passes
pass_one : (h : Told) (ps : List PassTold) (l m r q : List ℕ) (t v : State) → PassStep h ps l t → PassStep h ps m v
    → l ++ r ≡ m ++ q → IsOne l m t v
pass_one h ps l m r q t v a b e =
    let k = 1 + length ps in
    let s = λ (x : PassTold). Passing h (ps ++ x ∷ []) in
    let w = two_peel (codes "pass " ++ decimal k ++ codes " commits ") (codes " open ") a.pass.commits a.pass.parted
    b.pass.commits b.pass.parted r q (λ z. refl) a.told.commits a.told.parted b.told.commits b.told.parted
    (shown l m (pass_line k a.pass) (pass_line k b.pass) r q a.is b.is e) in
    let same : a.pass ≡ b.pass = λ i. record { commits = w.first i; parted = w.second i } in
    one l m (pass_line k a.pass) (pass_line k b.pass) t v (s a.pass) (s b.pass) a.is b.is a.to b.to
    (ap (pass_line k) same) (ap s same)

kept_one : (h : Told) (ps : List PassTold) (l m r q : List ℕ) (t v : State) → KeptStep h ps l t → KeptStep h ps m v
    → l ++ r ≡ m ++ q → IsOne l m t v
kept_one h ps l m r q t v a b e =
    let f = λ (x : List ℕ). line (codes "kept " ++ x) in
    let s = λ (x : List ℕ). Joining (record h { passes = ps; kept = x }) in
    let w = one_peel (codes "kept ") a.kept b.kept r q a.number b.number
    (shown l m (f a.kept) (f b.kept) r q a.is b.is e) in
    one l m (f a.kept) (f b.kept) t v (s a.kept) (s b.kept) a.is b.is a.to b.to (ap f w.0) (ap s w.0)

pass_or_kept : (h : Told) (ps : List PassTold) (l m r q : List ℕ) (t v : State) → PassStep h ps l t → KeptStep h ps m v
    → l ++ r ≡ m ++ q → ⊥
pass_or_kept h ps l m r q t v a b e =
    let z : 112 ≡ 107 = ap head (shown l m (pass_line (1 + length ps) a.pass) (line (codes "kept " ++ b.kept)) r q a.is
    b.is e) in omega (arith, z)

joins_one : (h : Told) (l m r q : List ℕ) (t v : State) → JoinsStep h l t → JoinsStep h m v → l ++ r ≡ m ++ q
    → IsOne l m t v
joins_one h l m r q t v a b e =
    let f = λ (x : List ℕ). line (codes "joins " ++ x) in
    let s = λ (x : List ℕ). Netting (record h { joins = x }) [] in
    let w = one_peel (codes "joins ") a.joins b.joins r q a.number b.number
    (shown l m (f a.joins) (f b.joins) r q a.is b.is e) in
    one l m (f a.joins) (f b.joins) t v (s a.joins) (s b.joins) a.is b.is a.to b.to (ap f w.0) (ap s w.0)

-- ---- nets
open_one : (p : Page) (h : Told) (ns : List NetTold) (l m r q : List ℕ) (t v : State) → OpenStep p h ns l t
    → OpenStep p h ns m v → l ++ r ≡ m ++ q → IsOne l m t v
open_one p h ns l m r q t v a b e =
    let front = codes "net " ++ spelled (name_after p.design ns) in
    let f = opened_line (name_after p.design ns) in
    let x = codes " open " ++ a.islands in
    let y = codes " open " ++ b.islands in
    let inside : ended x r ≡ ended y q =
    append_cancel_left front (ended x r) (ended y q)
    (sym (ended_is front x r) ∙ shown l m (f a.islands) (f b.islands) r q a.is b.is e ∙ ended_is front y q) in
    let w = one_peel (codes " open ") a.islands b.islands r q a.number b.number
    (ended_is [] x r ∙ inside ∙ sym (ended_is [] y q)) in
    one l m (f a.islands) (f b.islands) t v (Opened h ns a.islands) (Opened h ns b.islands) a.is b.is a.to b.to
    (ap f w.0) (ap (Opened h ns) w.0)

complete_or_open : (p : Page) (h : Told) (ns : List NetTold) (l m r q : List ℕ) (t v : State) → CompleteStep p h ns l t
    → OpenStep p h ns m v → l ++ r ≡ m ++ q → ⊥
complete_or_open p h ns l m r q t v a b e =
    let name = name_after p.design ns in
    let front = codes "net " ++ spelled name in
    let x = codes " complete" in
    let y = codes " open " ++ b.islands in
    let inside : ended x r ≡ ended y q =
    append_cancel_left front (ended x r) (ended y q)
    (sym (ended_is front x r) ∙ shown l m (complete_line name) (opened_line name b.islands) r q a.is b.is e
    ∙ ended_is front y q) in
    let z : 99 ≡ 111 = ap (λ (xs : List ℕ). get_or xs 1 0) inside in omega (arith, z)

net_one : (p : Page) (h : Told) (ns : List NetTold) (l m r q : List ℕ) (t v : State) → NetStep p h ns l t
    → NetStep p h ns m v → l ++ r ≡ m ++ q → IsOne l m t v
net_one p h ns l m r q t v (inl a) (inl b) e =
    one l m (complete_line (name_after p.design ns)) (complete_line (name_after p.design ns)) t v
    (Netting h (ns ++ whole ∷ [])) (Netting h (ns ++ whole ∷ [])) a.is b.is a.to b.to refl refl
net_one p h ns l m r q t v (inl a) (inr (inl b)) e = absurd (complete_or_open p h ns l m r q t v a b e)
net_one p h ns l m r q t v (inl a) (inr (inr b)) e = absurd (omega (arith, a.below, b.all))
net_one p h ns l m r q t v (inr (inl a)) (inl b) e = absurd (complete_or_open p h ns m l q r v t b a (sym e))
net_one p h ns l m r q t v (inr (inl a)) (inr (inl b)) e = open_one p h ns l m r q t v a b e
net_one p h ns l m r q t v (inr (inl a)) (inr (inr b)) e = absurd (omega (arith, a.below, b.all))
net_one p h ns l m r q t v (inr (inr a)) (inl b) e = absurd (omega (arith, b.below, a.all))
net_one p h ns l m r q t v (inr (inr a)) (inr (inl b)) e = absurd (omega (arith, b.below, a.all))
net_one p h ns l m r q t v (inr (inr a)) (inr (inr b)) e =
    one l m (total_line ns) (total_line ns) t v (Ended (record h { nets = ns })) (Ended (record h { nets = ns })) a.is
    b.is a.to b.to refl refl

-- ---- cuts
cut_one : (p : Page) (h : Told) (ns : List NetTold) (islands : List ℕ) (cs : List CutTold) (l m r q : List ℕ)
    (t v : State) → CutStep p h ns islands cs l t → CutStep p h ns islands cs m v → l ++ r ≡ m ++ q → IsOne l m t v
cut_one p h ns islands cs l m r q t v a b e =
    let x = bare a.pin a.reached a.blocked in
    let y = bare b.pin b.reached b.blocked in
    let w = cut_peel (slice_get (firsts_after p.firsts ns) (length cs)) a.pin a.reached a.blocked b.pin b.reached
    b.blocked r q a.name b.name a.first a.second b.first b.second
    (shown l m (cut_line x) (cut_line y) r q a.is b.is e) in
    let same : x ≡ y = λ i. bare (w.name i) (w.reached i) (w.blocked i) in
    one l m (cut_line x) (cut_line y) t v (Parts h ns islands cs x) (Parts h ns islands cs y) a.is b.is a.to b.to
    (ap cut_line same) (ap (Parts h ns islands cs) same)

by_one : (h : Told) (ns : List NetTold) (islands : List ℕ) (cs : List CutTold) (c : CutTold) (l m r q : List ℕ)
    (t v : State) → ByStep h ns islands cs c l t → ByStep h ns islands cs c m v → l ++ r ≡ m ++ q → IsOne l m t v
by_one h ns islands cs c l m r q t v a b e =
    let s = λ (x : Kind × List ℕ). Parts h ns islands cs (record c { by_items = c.by_items ++ x ∷ [] }) in
    let w = by_peel a.item.0 b.item.0 a.item.1 b.item.1 r q a.number b.number
    (shown l m (by_line a.item) (by_line b.item) r q a.is b.is e) in
    let same : a.item ≡ b.item = λ i. (w.0 i, w.1 i) in
    one l m (by_line a.item) (by_line b.item) t v (s a.item) (s b.item) a.is b.is a.to b.to (ap by_line same)
    (ap s same)

by_or_outside : (h : Told) (ns : List NetTold) (islands : List ℕ) (cs : List CutTold) (c : CutTold) (l m r q : List ℕ)
    (t v : State) → ByStep h ns islands cs c l t → OutsideStep h ns islands cs c m v → l ++ r ≡ m ++ q → ⊥
by_or_outside h ns islands cs c l m r q t v a b e =
    no_boundary a.item.0 (sym (letter_of a.item.0 a.item.1 r) ∙ ap (λ (xs : List ℕ). get_or xs 3 0)
    (shown l m (by_line a.item) (codes "by outside\n") r q a.is b.is e))

run_one : (h : Told) (ns : List NetTold) (islands : List ℕ) (cs : List CutTold) (c : CutTold) (l m r q : List ℕ)
    (t v : State) → RunStep h ns islands cs c l t → RunStep h ns islands cs c m v → l ++ r ≡ m ++ q → IsOne l m t v
run_one h ns islands cs c l m r q t v a b e =
    let x = a.run in
    let y = b.run in
    let s = λ (z : RunTold). Parts h ns islands cs (record c { runs = c.runs ++ z ∷ [] }) in
    let w = four_peel (codes "run ") (codes " ") x.level x.row x.first x.last y.level y.row y.first y.last r q
    (λ z. refl) a.told.level a.told.row a.told.first a.told.last b.told.level b.told.row b.told.first b.told.last
    (shown l m (run_line x) (run_line y) r q a.is b.is e) in
    let same : x ≡ y = λ i. record { level = w.one i; row = w.two i; first = w.three i; last = w.four i } in
    one l m (run_line x) (run_line y) t v (s x) (s y) a.is b.is a.to b.to (ap run_line same) (ap s same)

-- the first byte of a line of an item or a boundary
early_head : (h : Told) (ns : List NetTold) (islands : List ℕ) (cs : List CutTold) (c : CutTold) (l r : List ℕ)
    (t : State) → (ByStep h ns islands cs c l t ⊎ OutsideStep h ns islands cs c l t) → head (l ++ r) ≡ 98
early_head h ns islands cs c l r t (inl a) = ap (λ (x : List ℕ). head (x ++ r)) a.is
early_head h ns islands cs c l r t (inr a) = ap (λ (x : List ℕ). head (x ++ r)) a.is

-- of a stretch's
pub run_head : (h : Told) (ns : List NetTold) (islands : List ℕ) (cs : List CutTold) (c : CutTold) (l r : List ℕ)
    (t : State) → RunStep h ns islands cs c l t → head (l ++ r) ≡ 114
run_head h ns islands cs c l r t a = ap (λ (x : List ℕ). head (x ++ r)) a.is

pub wide_head : (h : Told) (ns : List NetTold) (islands : List ℕ) (cs : List CutTold) (c : CutTold) (l r : List ℕ)
    (t : State) → WideStep h ns islands cs c l t → head (l ++ r) ≡ 119
wide_head h ns islands cs c l r t a = ap (λ (x : List ℕ). head (x ++ r)) a.is

wide_one : (h : Told) (ns : List NetTold) (islands : List ℕ) (cs : List CutTold) (c : CutTold) (l m r q : List ℕ)
    (t v : State) → WideStep h ns islands cs c l t → WideStep h ns islands cs c m v → l ++ r ≡ m ++ q → IsOne l m t v
wide_one h ns islands cs c l m r q t v a b e =
    let s = λ (x : List ℕ). Parts h ns islands cs (record c { wide = Some x }) in
    let w = one_peel (codes "wide ") a.size b.size r q a.number b.number
    (shown l m (wide_line a.size) (wide_line b.size) r q a.is b.is e) in
    one l m (wide_line a.size) (wide_line b.size) t v (s a.size) (s b.size) a.is b.is a.to b.to (ap wide_line w.0)
    (ap s w.0)

-- what comes before the last line of a cut
abbrev Other : Told → List NetTold → List ℕ → List CutTold → CutTold → List ℕ → State → Type 0
Other h ns islands cs c l t = (ByStep h ns islands cs c l t ⊎ OutsideStep h ns islands cs c l t)
    ⊎ RunStep h ns islands cs c l t

other_or_wide : (h : Told) (ns : List NetTold) (islands : List ℕ) (cs : List CutTold) (c : CutTold) (l m r q : List ℕ)
    (t v : State) → Other h ns islands cs c l t → WideStep h ns islands cs c m v → l ++ r ≡ m ++ q → ⊥
other_or_wide h ns islands cs c l m r q t v (inl a) b e =
    let z : 98 ≡ 119 = sym (early_head h ns islands cs c l r t a) ∙ ap head e ∙ wide_head h ns islands cs c m q v b in
    omega (arith, z)
other_or_wide h ns islands cs c l m r q t v (inr a) b e =
    let z : 114 ≡ 119 = sym (run_head h ns islands cs c l r t a) ∙ ap head e ∙ wide_head h ns islands cs c m q v b in
    omega (arith, z)

early_or_run : (h : Told) (ns : List NetTold) (islands : List ℕ) (cs : List CutTold) (c : CutTold) (l m r q : List ℕ)
    (t v : State) → (ByStep h ns islands cs c l t ⊎ OutsideStep h ns islands cs c l t)
    → RunStep h ns islands cs c m v → l ++ r ≡ m ++ q → ⊥
early_or_run h ns islands cs c l m r q t v a b e =
    let z : 98 ≡ 114 = sym (early_head h ns islands cs c l r t a) ∙ ap head e ∙ run_head h ns islands cs c m q v b in
    omega (arith, z)

part_one : (h : Told) (ns : List NetTold) (islands : List ℕ) (cs : List CutTold) (c : CutTold) (l m r q : List ℕ)
    (t v : State) → PartStep h ns islands cs c l t → PartStep h ns islands cs c m v → l ++ r ≡ m ++ q → IsOne l m t v
part_one h ns islands cs c l m r q t v (inl a) (inl b) e = by_one h ns islands cs c l m r q t v a b e
part_one h ns islands cs c l m r q t v (inl a) (inr (inl b)) e =
    absurd (by_or_outside h ns islands cs c l m r q t v a b e)
part_one h ns islands cs c l m r q t v (inl a) (inr (inr (inl b))) e =
    absurd (early_or_run h ns islands cs c l m r q t v (inl a) b e)
part_one h ns islands cs c l m r q t v (inl a) (inr (inr (inr b))) e =
    absurd (other_or_wide h ns islands cs c l m r q t v (inl (inl a)) b e)
part_one h ns islands cs c l m r q t v (inr (inl a)) (inl b) e =
    absurd (by_or_outside h ns islands cs c m l q r v t b a (sym e))
part_one h ns islands cs c l m r q t v (inr (inl a)) (inr (inl b)) e =
    let k = record c { by_outside = true } in
    one l m (codes "by outside\n") (codes "by outside\n") t v (Parts h ns islands cs k) (Parts h ns islands cs k) a.is
    b.is a.to b.to refl refl
part_one h ns islands cs c l m r q t v (inr (inl a)) (inr (inr (inl b))) e =
    absurd (early_or_run h ns islands cs c l m r q t v (inr a) b e)
part_one h ns islands cs c l m r q t v (inr (inl a)) (inr (inr (inr b))) e =
    absurd (other_or_wide h ns islands cs c l m r q t v (inl (inr a)) b e)
part_one h ns islands cs c l m r q t v (inr (inr (inl a))) (inl b) e =
    absurd (early_or_run h ns islands cs c m l q r v t (inl b) a (sym e))
part_one h ns islands cs c l m r q t v (inr (inr (inl a))) (inr (inl b)) e =
    absurd (early_or_run h ns islands cs c m l q r v t (inr b) a (sym e))
part_one h ns islands cs c l m r q t v (inr (inr (inl a))) (inr (inr (inl b))) e =
    run_one h ns islands cs c l m r q t v a b e
part_one h ns islands cs c l m r q t v (inr (inr (inl a))) (inr (inr (inr b))) e =
    absurd (other_or_wide h ns islands cs c l m r q t v (inr a) b e)
part_one h ns islands cs c l m r q t v (inr (inr (inr a))) (inl b) e =
    absurd (other_or_wide h ns islands cs c m l q r v t (inl (inl b)) a (sym e))
part_one h ns islands cs c l m r q t v (inr (inr (inr a))) (inr (inl b)) e =
    absurd (other_or_wide h ns islands cs c m l q r v t (inl (inr b)) a (sym e))
part_one h ns islands cs c l m r q t v (inr (inr (inr a))) (inr (inr (inl b))) e =
    absurd (other_or_wide h ns islands cs c m l q r v t (inr b) a (sym e))
part_one h ns islands cs c l m r q t v (inr (inr (inr a))) (inr (inr (inr b))) e =
    wide_one h ns islands cs c l m r q t v a b e

-- ---- what follows a cut's lines
abbrev pub IsPartByte : ℕ → Type 0
IsPartByte byte = (byte ≡ 98) ⊎ ((byte ≡ 114) ⊎ (byte ≡ 119))

pub part_head : (h : Told) (ns : List NetTold) (islands : List ℕ) (cs : List CutTold) (c : CutTold) (l r : List ℕ)
    (t : State) → PartStep h ns islands cs c l t → IsPartByte (head (l ++ r))
part_head h ns islands cs c l r t (inl a) = inl (early_head h ns islands cs c l r t (inl a))
part_head h ns islands cs c l r t (inr (inl a)) = inl (early_head h ns islands cs c l r t (inr a))
part_head h ns islands cs c l r t (inr (inr (inl a))) = inr (inl (run_head h ns islands cs c l r t a))
part_head h ns islands cs c l r t (inr (inr (inr a))) = inr (inr (wide_head h ns islands cs c l r t a))

pub cut_head : (p : Page) (h : Told) (ns : List NetTold) (islands : List ℕ) (cs : List CutTold) (l r : List ℕ)
    (t : State) → CutStep p h ns islands cs l t → head (l ++ r) ≡ 99
cut_head p h ns islands cs l r t a = ap (λ (x : List ℕ). head (x ++ r)) a.is

pub net_head : (p : Page) (h : Told) (ns : List NetTold) (l r : List ℕ) (t : State) → NetStep p h ns l t
    → (head (l ++ r) ≡ 110) ⊎ (head (l ++ r) ≡ 99)
net_head p h ns l r t (inl a) = inl (ap (λ (x : List ℕ). head (x ++ r)) a.is)
net_head p h ns l r t (inr (inl a)) = inl (ap (λ (x : List ℕ). head (x ++ r)) a.is)
net_head p h ns l r t (inr (inr a)) = inr (ap (λ (x : List ℕ). head (x ++ r)) a.is)

apart : (x y : ℕ) → IsPartByte x → (y ≡ 110) ⊎ (y ≡ 99) → x ≡ y → ⊥
apart x y (inl a) (inl b) e = omega (arith, a, b, e)
apart x y (inl a) (inr b) e = omega (arith, a, b, e)
apart x y (inr (inl a)) (inl b) e = omega (arith, a, b, e)
apart x y (inr (inl a)) (inr b) e = omega (arith, a, b, e)
apart x y (inr (inr a)) (inl b) e = omega (arith, a, b, e)
apart x y (inr (inr a)) (inr b) e = omega (arith, a, b, e)

abbrev Leaves : Page → Told → List NetTold → List ℕ → List CutTold → CutTold → List ℕ → State → Type 0
Leaves p h ns islands cs c l t = NextStep p h ns islands cs c l t ⊎ FilledStep p h ns islands cs c l t

leave_head : (p : Page) (h : Told) (ns : List NetTold) (islands : List ℕ) (cs : List CutTold) (c : CutTold)
    (l r : List ℕ) (t : State) → Leaves p h ns islands cs c l t → (head (l ++ r) ≡ 110) ⊎ (head (l ++ r) ≡ 99)
leave_head p h ns islands cs c l r t (inl a) = inr (cut_head p h ns islands (cs ++ c ∷ []) l r t a.step)
leave_head p h ns islands cs c l r t (inr a) =
    net_head p h (ns ++ opened islands (cs ++ c ∷ []) ∷ []) l r t a.step

leave_one : (p : Page) (h : Told) (ns : List NetTold) (islands : List ℕ) (cs : List CutTold) (c : CutTold)
    (l m r q : List ℕ) (t v : State) → Leaves p h ns islands cs c l t → Leaves p h ns islands cs c m v
    → l ++ r ≡ m ++ q → IsOne l m t v
leave_one p h ns islands cs c l m r q t v (inl a) (inl b) e =
    cut_one p h ns islands (cs ++ c ∷ []) l m r q t v a.step b.step e
leave_one p h ns islands cs c l m r q t v (inl a) (inr b) e =
    let more = a.step.more in absurd (omega (arith, more, b.full))
leave_one p h ns islands cs c l m r q t v (inr a) (inl b) e =
    let more = b.step.more in absurd (omega (arith, more, a.full))
leave_one p h ns islands cs c l m r q t v (inr a) (inr b) e =
    net_one p h (ns ++ opened islands (cs ++ c ∷ []) ∷ []) l m r q t v a.step b.step e

-- one text begins with one line that may come next
pub tells : (p : Page) (s t v : State) (l m r q : List ℕ) → Next p s l t → Next p s m v → l ++ r ≡ m ++ q
    → IsOne l m t v
tells p Start t v l m r q a b e = (a.0 ∙ sym b.0, a.1 ∙ sym b.1)
tells p Named t v l m r q a b e = (a.0 ∙ sym b.0, a.1 ∙ sym b.1)
tells p Sized t v l m r q a b e = grid_one l m r q t v a b e
tells p (Gridded h) t v l m r q a b e = dropped_one h l m r q t v a b e
tells p (Dropping h ps) t v l m r q (inl a) (inl b) e = drop_one h ps l m r q t v a b e
tells p (Dropping h ps) t v l m r q (inl a) (inr b) e = absurd (omega (arith, a.more, b.all))
tells p (Dropping h ps) t v l m r q (inr a) (inl b) e = absurd (omega (arith, b.more, a.all))
tells p (Dropping h ps) t v l m r q (inr a) (inr b) e = notes_one h ps l m r q t v a b e
tells p (Passing h ps) t v l m r q (inl a) (inl b) e = pass_one h ps l m r q t v a b e
tells p (Passing h ps) t v l m r q (inl a) (inr b) e = absurd (pass_or_kept h ps l m r q t v a b e)
tells p (Passing h ps) t v l m r q (inr a) (inl b) e = absurd (pass_or_kept h ps m l q r v t b a (sym e))
tells p (Passing h ps) t v l m r q (inr a) (inr b) e = kept_one h ps l m r q t v a b e
tells p (Joining h) t v l m r q a b e = joins_one h l m r q t v a b e
tells p (Netting h ns) t v l m r q a b e = net_one p h ns l m r q t v a b e
tells p (Opened h ns islands) t v l m r q a b e = cut_one p h ns islands [] l m r q t v a b e
tells p (Parts h ns islands cs c) t v l m r q (inl a) (inl b) e = part_one h ns islands cs c l m r q t v a b e
tells p (Parts h ns islands cs c) t v l m r q (inl a) (inr b) e = absurd (apart (head (l ++ r)) (head (m ++ q))
    (part_head h ns islands cs c l r t a) (leave_head p h ns islands cs c m q v b) (ap head e))
tells p (Parts h ns islands cs c) t v l m r q (inr a) (inl b) e = absurd (apart (head (m ++ q)) (head (l ++ r))
    (part_head h ns islands cs c m q v b) (leave_head p h ns islands cs c l r t a) (ap head (sym e)))
tells p (Parts h ns islands cs c) t v l m r q (inr a) (inr b) e =
    leave_one p h ns islands cs c l m r q t v a b e
tells p (Ended h) t v l m r q a b e = absurd a
