-- Two reports that begin a text have the same lines as far as both begin it.
use Rattle.std.proofs.Common.{◌≡◌, ◌⊎◌, inl, inr, ℕ, zero, suc, ◌+◌, ◌^◌, ◌<◌, ◌≤◌, Bool, true, false, cond}
use Rattle.std.proofs.Common.{List, [], ◌∷◌, ◌++◌, Option, Some, None, length, get_or, take, refl, sym, ap, ap₂}
use Rattle.std.proofs.Common.{◌∙◌, subst, arith, All}
use Rattle.std.proofs.Common.{flat_map, filter}
use Rattle.std.specs.Prelude.{IfSome, codes, decimal}
use Rattle.std.specs.List.{AllZip}
use Rattle.std.proofs.lemmas.List.{append_assoc, append_cancel_left}
use Rattle.std.proofs.lemmas.List.Elements.{All-head, All-tail}
use Rattle.pcb_model.specs.declared.item.Kind.{Kind}
use Rattle.pcb_model.specs.declared.design.Net.{Net}
use Rattle.pcb_model.specs.declared.design.Design.{Design}
use Rattle.ses_writer.specs.Words.{spelled}
use Rattle.report_form.specs.Form.{Told, NetTold, CutTold, RunTold, PassTold, IsNumber, IsRun, IsCutTold}
use Rattle.report_form.specs.Form.{AreCutsTold, IsNetTold}
use Rattle.report_form.specs.Form.{BeginsAs, IsPassTold, IsTold, lines, joined, line, by_line, by_lines}
use Rattle.report_form.specs.Form.{outside_lines, run_line, wide_lines}
use Rattle.report_form.specs.Form.{run_lines, cut_line, cut_lines, net_words, net_line, net_lines, nets_lines}
use Rattle.report_form.specs.Form.{pass_lines, place_lines}
use Rattle.report_form.specs.Form.{size_line, total_line, value, is_complete, is_open}
use Rattle.report_form.proofs.Numbers.{number_of}
use Rattle.report_form.proofs.Peels.{one_peel, two_peel, four_peel, cut_peel, by_peel, letter_of, no_boundary}
use Rattle.report_form.proofs.Peels.{ended, ended_is, ended_cut}
use Rattle.report_form.proofs.Agree.{Follows, FollowsRuns, head, not_wide, runs_not_by, runs_not_run}
use Rattle.report_form.proofs.Agree.{complete_words, open_words}

-- line by line: where both stand in one text they are one, and so on
abbrev pub Agrees : List (List ℕ) → List (List ℕ) → Type 0
Agrees [] K = Unit {0}
Agrees (l ∷ L) [] = Unit {0}
Agrees (l ∷ L) (k ∷ K) = (r s : List ℕ) → l ++ r ≡ k ++ s → (l ≡ k) × Agrees L K

-- ---- what that says of beginnings
pub fronts : (n k : ℕ) (L K : List (List ℕ)) (r s : List ℕ) → Agrees L K
    → joined (take n L) ++ r ≡ joined (take k K) ++ s → n ≤ k → n ≤ length L → k ≤ length K → take n L ≡ take n K
fronts zero k L K r s h e less p q = refl
fronts (suc n) zero L K r s h e less p q = absurd (omega arith)
fronts (suc n) (suc k) [] K r s h e less p q = absurd (omega arith)
fronts (suc n) (suc k) (l ∷ L) [] r s h e less p q = absurd (omega arith)
fronts (suc n) (suc k) (l ∷ L) (m ∷ K) r s h e less p q =
    let x = joined (take n L) ++ r in
    let y = joined (take k K) ++ s in
    let whole : l ++ x ≡ m ++ y =
    sym (append_assoc l (joined (take n L)) r) ∙ e ∙ append_assoc m (joined (take k K)) s in
    let one = h x y whole in
    let rest : x ≡ y = append_cancel_left m x y (ap (λ (z : List ℕ). z ++ x) (sym one.0) ∙ whole) in
    ap₂ (λ (z : List ℕ) (zs : List (List ℕ)). z ∷ zs) one.0
    (fronts n k L K r s one.1 rest (omega arith) (omega arith) (omega arith))

-- ---- lines that both reports have
pub same_line : (l : List ℕ) (L K : List (List ℕ)) → Agrees L K → Agrees (l ∷ L) (l ∷ K)
same_line l L K h r s e = (refl, h)

pub number_line : (w a b : List ℕ) (L K : List (List ℕ)) → IsNumber a → IsNumber b → (a ≡ b → Agrees L K)
    → Agrees (line (w ++ a) ∷ L) (line (w ++ b) ∷ K)
number_line w a b L K p q h r s e =
    let one = one_peel w a b r s p q e in (ap (λ (x : List ℕ). line (w ++ x)) one.0, h one.0)

-- ---- the places and the passes
places_agree : (ps qs : List (List ℕ)) (L K : List (List ℕ)) → All IsNumber ps → All IsNumber qs
    → length ps ≡ length qs
    → Agrees L K → Agrees (place_lines ps ++ L) (place_lines qs ++ K)
places_agree [] [] L K p q l h = h
places_agree [] (y ∷ qs) L K p q l h = absurd (omega arith)
places_agree (x ∷ ps) [] L K p q l h = absurd (omega arith)
places_agree (x ∷ ps) (y ∷ qs) L K p q l h =
    number_line (codes "drop ") x y (place_lines ps ++ L) (place_lines qs ++ K) (All-head IsNumber x ps p)
    (All-head IsNumber y qs q)
    (λ e. places_agree ps qs L K (All-tail IsNumber x ps p) (All-tail IsNumber y qs q) (omega arith) h)

passes_agree : (i : ℕ) (ps qs : List PassTold) (l k : List ℕ) (L K : List (List ℕ)) → All IsPassTold ps
    → All IsPassTold qs → ((r : List ℕ) → head (l ++ r) ≡ 107) → ((r : List ℕ) → head (k ++ r) ≡ 107)
    → Agrees (l ∷ L) (k ∷ K) → Agrees (pass_lines i ps ++ l ∷ L) (pass_lines i qs ++ k ∷ K)
passes_agree i [] [] l k L K p q f g h = h
passes_agree i [] (y ∷ qs) l k L K p q f g h = λ r s e.
    let z : 107 ≡ 112 = sym (f r) ∙ ap head e in absurd (omega (arith, z))
passes_agree i (x ∷ ps) [] l k L K p q f g h = λ r s e.
    let z : 107 ≡ 112 = sym (g s) ∙ ap head (sym e) in absurd (omega (arith, z))
passes_agree i (x ∷ ps) (y ∷ qs) l k L K p q f g h = λ r s e.
    let hx = All-head IsPassTold x ps p in
    let hy = All-head IsPassTold y qs q in
    let w = codes "pass " ++ decimal i ++ codes " commits " in
    let one = two_peel w (codes " open ") x.commits x.parted y.commits y.parted r s (λ z. refl) hx.commits hx.parted
    hy.commits hy.parted e in (
      ap₂ (λ (a b : List ℕ). line (w ++ a ++ codes " open " ++ b)) one.first one.second,
      passes_agree (i + 1) ps qs l k L K (All-tail IsPassTold x ps p) (All-tail IsPassTold y qs q) f g h,
    )

-- ---- the runs, before a line that isn't one
abbrev FollowsAll : List ℕ → Type 0
FollowsAll l = (r : List ℕ) → Follows (l ++ r)

-- lines of which the first may follow stretches
abbrev FollowRuns : List (List ℕ) → Type 0
FollowRuns [] = ⊥
FollowRuns (l ∷ L) = (r : List ℕ) → FollowsRuns (l ++ r)

-- the last line of a cut, or the line behind it
last_follows : (w : Option (List ℕ)) (l : List ℕ) (L : List (List ℕ)) → FollowsAll l
    → FollowRuns (wide_lines w ++ l ∷ L)
last_follows None l L f = λ r. inl (f r)
last_follows (Some size) l L f = λ r. inr refl

wide_agree : (w v : Option (List ℕ)) (l k : List ℕ) (L K : List (List ℕ)) → IfSome w IsNumber → IfSome v IsNumber
    → FollowsAll l → FollowsAll k → Agrees (l ∷ L) (k ∷ K)
    → Agrees (wide_lines w ++ l ∷ L) (wide_lines v ++ k ∷ K)
wide_agree None None l k L K p q f g h = h
wide_agree None (Some y) l k L K p q f g h = λ r s e. absurd (not_wide (l ++ r) (f r) (ap head e))
wide_agree (Some x) None l k L K p q f g h = λ r s e. absurd (not_wide (k ++ s) (g s) (ap head (sym e)))
wide_agree (Some x) (Some y) l k L K p q f g h =
    number_line (codes "wide ") x y (l ∷ L) (k ∷ K) p q (λ same. h)

runs_agree : (rs qs : List RunTold) (X Y : List (List ℕ)) → All IsRun rs → All IsRun qs → FollowRuns X
    → FollowRuns Y → Agrees X Y → Agrees (run_lines rs ++ X) (run_lines qs ++ Y)
runs_agree [] [] X Y p q f g h = h
runs_agree [] (y ∷ qs) [] Y p q f g h = absurd f
runs_agree [] (y ∷ qs) (l ∷ L) Y p q f g h = λ r s e. absurd (runs_not_run (l ++ r) (f r) (ap head e))
runs_agree (x ∷ rs) [] X [] p q f g h = absurd g
runs_agree (x ∷ rs) [] X (k ∷ K) p q f g h = λ r s e. absurd (runs_not_run (k ++ s) (g s) (ap head (sym e)))
runs_agree (x ∷ rs) (y ∷ qs) X Y p q f g h = λ r s e.
    let hx = All-head IsRun x rs p in
    let hy = All-head IsRun y qs q in
    let one = four_peel (codes "run ") (codes " ") x.level x.row x.first x.last y.level y.row y.first y.last r s
    (λ z. refl) hx.level hx.row hx.first hx.last hy.level hy.row hy.first hy.last e in (
      ap run_line (λ i. record { level = one.one i; row = one.two i; first = one.three i; last = one.four i }),
      runs_agree rs qs X Y (All-tail IsRun x rs p) (All-tail IsRun y qs q) f g h,
    )

-- ---- a boundary's line and the items' lines
abbrev NoItem : List (List ℕ) → Type 0
NoItem [] = Unit {0}
NoItem (x ∷ X) = (r : List ℕ) (k : Kind) (id s : List ℕ) → x ++ r ≡ by_line (k, id) ++ s → ⊥

by_head : (k : Kind) (id r : List ℕ) → head (by_line (k, id) ++ r) ≡ 98
by_head k id r = refl

runs_no_item : (rs : List RunTold) (X : List (List ℕ)) → FollowRuns X → NoItem (run_lines rs ++ X)
runs_no_item [] [] f = tt
runs_no_item [] (l ∷ L) f = λ r k id s e. runs_not_by (l ++ r) (f r) (ap head e ∙ by_head k id s)
runs_no_item (x ∷ rs) X f = λ r k id s e. let z : 114 ≡ 98 = ap head e ∙ by_head k id s in absurd (omega (arith, z))

tail_no_item : (b : Bool) (rs : List RunTold) (X : List (List ℕ)) → FollowRuns X
    → NoItem (outside_lines b ++ (run_lines rs ++ X))
tail_no_item true rs X f = λ r k id s e.
    no_boundary k (sym (letter_of k id s) ∙ sym (ap (λ (xs : List ℕ). get_or xs 3 0) e))
tail_no_item false rs X f = runs_no_item rs X f

not_outside : (rs : List RunTold) (X : List (List ℕ)) → FollowRuns X → (K : List (List ℕ))
    → Agrees (run_lines rs ++ X) (codes "by outside\n" ∷ K)
not_outside [] [] f K = tt
not_outside [] (l ∷ L) f K = λ r s e. absurd (runs_not_by (l ++ r) (f r) (ap head e))
not_outside (x ∷ rs) X f K = λ r s e. let z : 114 ≡ 98 = ap head e in absurd (omega (arith, z))

outside_not : (rs : List RunTold) (X : List (List ℕ)) → FollowRuns X → (K : List (List ℕ))
    → Agrees (codes "by outside\n" ∷ K) (run_lines rs ++ X)
outside_not [] [] f K = tt
outside_not [] (l ∷ L) f K = λ r s e. absurd (runs_not_by (l ++ s) (f s) (ap head (sym e)))
outside_not (x ∷ rs) X f K = λ r s e. let z : 98 ≡ 114 = ap head e in absurd (omega (arith, z))

outside_agree : (b c : Bool) (rs qs : List RunTold) (X Y : List (List ℕ)) → FollowRuns X → FollowRuns Y
    → Agrees (run_lines rs ++ X) (run_lines qs ++ Y)
    → Agrees (outside_lines b ++ (run_lines rs ++ X)) (outside_lines c ++ (run_lines qs ++ Y))
outside_agree true true rs qs X Y f g h =
    same_line (codes "by outside\n") (run_lines rs ++ X) (run_lines qs ++ Y) h
outside_agree true false rs qs X Y f g h = outside_not qs Y g (run_lines rs ++ X)
outside_agree false true rs qs X Y f g h = not_outside rs X f (run_lines qs ++ Y)
outside_agree false false rs qs X Y f g h = h

no_item_left : (X : List (List ℕ)) (j : Kind × List ℕ) (K : List (List ℕ)) → NoItem X → Agrees X (by_line j ∷ K)
no_item_left [] j K h = tt
no_item_left (x ∷ X) j K h = λ r s e. absurd (h r j.0 j.1 s e)

no_item_right : (X : List (List ℕ)) (j : Kind × List ℕ) (K : List (List ℕ)) → NoItem X → Agrees (by_line j ∷ K) X
no_item_right [] j K h = tt
no_item_right (x ∷ X) j K h = λ r s e. absurd (h s j.0 j.1 r (sym e))

items_agree : (bs cs : List (Kind × List ℕ)) (X Y : List (List ℕ)) → All (λ (i : Kind × List ℕ). IsNumber i.1) bs
    → All (λ (i : Kind × List ℕ). IsNumber i.1) cs → NoItem X → NoItem Y → Agrees X Y
    → Agrees (by_lines bs ++ X) (by_lines cs ++ Y)
items_agree [] [] X Y p q f g h = h
items_agree [] (j ∷ cs) X Y p q f g h = no_item_left X j (by_lines cs ++ Y) f
items_agree (i ∷ bs) [] X Y p q f g h = no_item_right Y i (by_lines bs ++ X) g
items_agree (i ∷ bs) (j ∷ cs) X Y p q f g h = λ r s e.
    let N : Kind × List ℕ → Type 0 = λ k. IsNumber k.1 in
    let one = by_peel i.0 j.0 i.1 j.1 r s (All-head N i bs p) (All-head N j cs q) e in (
      ap₂ (λ (k : Kind) (id : List ℕ). by_line (k, id)) one.0 one.1,
      items_agree bs cs X Y (All-tail N i bs p) (All-tail N j cs q) f g h,
    )

-- ---- a cut
-- its last line, and those behind it
abbrev ends_of : CutTold → List ℕ → List (List ℕ) → List (List ℕ)
ends_of c l L = wide_lines c.wide ++ l ∷ L

cut_agree : (first : Option (List ℕ)) (c e : CutTold) (l k : List ℕ) (L K : List (List ℕ)) → IsCutTold first c
    → IsCutTold first e → FollowsAll l → FollowsAll k → Agrees (l ∷ L) (k ∷ K)
    → Agrees (cut_lines c ++ l ∷ L) (cut_lines e ++ k ∷ K)
cut_agree first c e l k L K p q f g h r s z =
    let one = cut_peel first c.pin c.reached c.blocked e.pin e.reached e.blocked r s p.pin q.pin p.reached p.blocked
    q.reached q.blocked z in (
      (λ i. line (codes "cut " ++ spelled (one.name i) ++ codes " reached " ++ one.reached i ++ codes " blocked "
          ++ one.blocked i)),
      subst (λ (X : List (List ℕ)). Agrees X
          (by_lines e.by_items ++ (outside_lines e.by_outside ++ (run_lines e.runs ++ wide_lines e.wide)) ++ k ∷ K))
          (nested c l L)
          (subst (λ (Y : List (List ℕ)). Agrees
          (by_lines c.by_items ++ (outside_lines c.by_outside ++ (run_lines c.runs ++ ends_of c l L))) Y) (nested e k K)
          (items_agree c.by_items e.by_items (outside_lines c.by_outside ++ (run_lines c.runs ++ ends_of c l L))
          (outside_lines e.by_outside ++ (run_lines e.runs ++ ends_of e k K)) p.by_items q.by_items
          (tail_no_item c.by_outside c.runs (ends_of c l L) (last_follows c.wide l L f))
          (tail_no_item e.by_outside e.runs (ends_of e k K) (last_follows e.wide k K g))
          (outside_agree c.by_outside e.by_outside c.runs e.runs (ends_of c l L) (ends_of e k K)
          (last_follows c.wide l L f) (last_follows e.wide k K g)
          (runs_agree c.runs e.runs (ends_of c l L) (ends_of e k K) p.runs q.runs (last_follows c.wide l L f)
          (last_follows e.wide k K g) (wide_agree c.wide e.wide l k L K p.wide q.wide f g h))))),
    )
  where
    nested : (c : CutTold) (l : List ℕ) (L : List (List ℕ)) →
        by_lines c.by_items ++ (outside_lines c.by_outside ++ (run_lines c.runs ++ ends_of c l L))
        ≡ by_lines c.by_items ++ (outside_lines c.by_outside ++ (run_lines c.runs ++ wide_lines c.wide)) ++ l ∷ L
    nested c l L =
        let runs = run_lines c.runs ++ wide_lines c.wide in
        ap (λ (X : List (List ℕ)). by_lines c.by_items ++ (outside_lines c.by_outside ++ X))
        (sym (append_assoc (run_lines c.runs) (wide_lines c.wide) (l ∷ L)))
        ∙ (ap (λ (X : List (List ℕ)). by_lines c.by_items ++ X)
        (sym (append_assoc (outside_lines c.by_outside) runs (l ∷ L)))
        ∙ sym (append_assoc (by_lines c.by_items) (outside_lines c.by_outside ++ runs) (l ∷ L)))

-- ---- the cuts of a net
abbrev own_first : List (List ℕ) → Option (List ℕ)
own_first [] = None
own_first (first ∷ firsts) = Some first

abbrev other_firsts : List (List ℕ) → List (List ℕ)
other_firsts [] = []
other_firsts (first ∷ firsts) = firsts

parted : (firsts : List (List ℕ)) (c : CutTold) (cs : List CutTold) → AreCutsTold firsts (c ∷ cs)
    → IsCutTold (own_first firsts) c × AreCutsTold (other_firsts firsts) cs
parted [] c cs h = (h.0, h.1)
parted (first ∷ firsts) c cs h = (h.0, h.1)

cut_follows : (c : CutTold) → FollowsAll (cut_line c)
cut_follows c r = inl refl

cuts_agree : (firsts : List (List ℕ)) (cs es : List CutTold) (l k : List ℕ) (L K : List (List ℕ))
    → AreCutsTold firsts cs → AreCutsTold firsts es → length cs ≡ length es → FollowsAll l → FollowsAll k
    → Agrees (l ∷ L) (k ∷ K) → Agrees (flat_map cut_lines cs ++ l ∷ L) (flat_map cut_lines es ++ k ∷ K)
cuts_agree firsts [] [] l k L K p q m f g h = h
cuts_agree firsts [] (e ∷ es) l k L K p q m f g h = absurd (omega arith)
cuts_agree firsts (c ∷ cs) [] l k L K p q m f g h = absurd (omega arith)
cuts_agree firsts (c ∷ cs) (e ∷ es) l k L K p q m f g h =
    let pc = parted firsts c cs p in
    let qe = parted firsts e es q in
    subst (λ (X : List (List ℕ)). Agrees X ((cut_lines e ++ flat_map cut_lines es) ++ k ∷ K))
    (sym (append_assoc (cut_lines c) (flat_map cut_lines cs) (l ∷ L)))
    (subst (λ (Y : List (List ℕ)). Agrees (cut_lines c ++ (flat_map cut_lines cs ++ l ∷ L)) Y)
    (sym (append_assoc (cut_lines e) (flat_map cut_lines es) (k ∷ K)))
    (with_rest cs es (omega arith) pc.0 qe.0
    (cuts_agree (other_firsts firsts) cs es l k L K pc.1 qe.1 (omega arith) f g h)))
  where
    with_rest : (cs es : List CutTold) → length cs ≡ length es → IsCutTold (own_first firsts) c
        → IsCutTold (own_first firsts) e → Agrees (flat_map cut_lines cs ++ l ∷ L) (flat_map cut_lines es ++ k ∷ K)
        → Agrees (cut_lines c ++ (flat_map cut_lines cs ++ l ∷ L)) (cut_lines e ++ (flat_map cut_lines es ++ k ∷ K))
    with_rest [] [] m pc qe h = cut_agree (own_first firsts) c e l k L K pc qe f g h
    with_rest [] (b ∷ es) m pc qe h = absurd (omega arith)
    with_rest (a ∷ cs) [] m pc qe h = absurd (omega arith)
    with_rest (a ∷ cs) (b ∷ es) m pc qe h =
        cut_agree (own_first firsts) c e (cut_line a) (cut_line b)
        (((by_lines a.by_items ++ (outside_lines a.by_outside ++ (run_lines a.runs ++ wide_lines a.wide)))
        ++ flat_map cut_lines cs) ++ l ∷ L)
        (((by_lines b.by_items ++ (outside_lines b.by_outside ++ (run_lines b.runs ++ wide_lines b.wide)))
        ++ flat_map cut_lines es) ++ k ∷ K) pc qe
        (cut_follows a) (cut_follows b) h

-- ---- a net
net_agree : (name : List ℕ) (firsts : List (List ℕ)) (n m : NetTold) (l k : List ℕ) (L K : List (List ℕ))
    → IsNetTold firsts n → IsNetTold firsts m → FollowsAll l → FollowsAll k → Agrees (l ∷ L) (k ∷ K)
    → Agrees (net_lines name n ++ l ∷ L) (net_lines name m ++ k ∷ K)
net_agree name firsts n m l k L K p q f g h r s e = by p.counts q.counts
  where
    inside : ended (net_words n) r ≡ ended (net_words m) s
    inside = append_cancel_left (codes "net " ++ spelled name) (ended (net_words n) r) (ended (net_words m) s)
        (sym (ended_is (codes "net " ++ spelled name) (net_words n) r) ∙ e
        ∙ ended_is (codes "net " ++ spelled name) (net_words m) s)

    told_by : (v w : List ℕ) → net_words n ≡ v → net_words m ≡ w → ended v r ≡ ended w s
    told_by v w a b = ap (λ (x : List ℕ). ended x r) (sym a) ∙ inside ∙ ap (λ (x : List ℕ). ended x s) b

    clash : (x y a : List ℕ) → ended (codes " complete") x ≡ ended (codes " open " ++ a) y → ⊥
    clash x y a z = let w : 99 ≡ 111 = ap (λ (xs : List ℕ). get_or xs 1 0) z in omega (arith, w)

    one_line : net_words n ≡ net_words m → net_line name n ≡ net_line name m
    one_line z = ap (λ (x : List ℕ). line (codes "net " ++ spelled name ++ x)) z

    by : (((n.cuts ≡ []) × (n.islands ≡ decimal 0))
        ⊎ ((2 ≤ length n.cuts) × IsNumber n.islands × (value n.islands ≡ length n.cuts)))
        → (((m.cuts ≡ []) × (m.islands ≡ decimal 0))
        ⊎ ((2 ≤ length m.cuts) × IsNumber m.islands × (value m.islands ≡ length m.cuts)))
        → (net_line name n ≡ net_line name m)
        × Agrees (flat_map cut_lines n.cuts ++ l ∷ L) (flat_map cut_lines m.cuts ++ k ∷ K)
    by (inl a) (inl b) = (
      one_line (complete_words n a.0 ∙ sym (complete_words m b.0)),
      cuts_agree firsts n.cuts m.cuts l k L K p.cuts q.cuts (ap length (a.0 ∙ sym b.0)) f g h,
    )
    by (inl a) (inr b) = absurd (clash r s m.islands (told_by (codes " complete") (codes " open " ++ m.islands)
        (complete_words n a.0) (open_words m b.0)))
    by (inr a) (inl b) = absurd (clash s r n.islands (sym (told_by (codes " open " ++ n.islands) (codes " complete")
        (open_words n a.0) (complete_words m b.0))))
    by (inr a) (inr b) =
        let z = told_by (codes " open " ++ n.islands) (codes " open " ++ m.islands) (open_words n a.0)
        (open_words m b.0) in
        let numbers = ended_cut n.islands m.islands r s a.1 b.1
        (append_cancel_left (codes " open ") (ended n.islands r) (ended m.islands s)
        (sym (append_assoc (codes " open ") n.islands (10 ∷ r)) ∙ z
        ∙ append_assoc (codes " open ") m.islands (10 ∷ s))) in (
          one_line (open_words n a.0 ∙ ap (λ (x : List ℕ). codes " open " ++ x) numbers.0 ∙ sym (open_words m b.0)),
          cuts_agree firsts n.cuts m.cuts l k L K p.cuts q.cuts (sym a.2 ∙ ap value numbers.0 ∙ b.2) f g h,
        )

net_follows : (name : List ℕ) (n : NetTold) → FollowsAll (net_line name n)
net_follows name n r = inr refl

nets_agree : (nets : List Net) (firsts : List (List (List ℕ))) (ns ms : List NetTold) (l k : List ℕ)
    (L K : List (List ℕ)) → AllZip IsNetTold firsts ns → AllZip IsNetTold firsts ms → length ns ≡ length nets
    → length ms ≡ length nets → FollowsAll l → FollowsAll k → Agrees (l ∷ L) (k ∷ K)
    → Agrees (nets_lines nets ns ++ l ∷ L) (nets_lines nets ms ++ k ∷ K)
nets_agree [] firsts [] [] l k L K p q a b f g h = h
nets_agree [] firsts [] (m ∷ ms) l k L K p q a b f g h = absurd (omega arith)
nets_agree [] firsts (n ∷ ns) ms l k L K p q a b f g h = absurd (omega arith)
nets_agree (net ∷ nets) firsts [] ms l k L K p q a b f g h = absurd (omega arith)
nets_agree (net ∷ nets) firsts (n ∷ ns) [] l k L K p q a b f g h = absurd (omega arith)
nets_agree (net ∷ nets) [] (n ∷ ns) (m ∷ ms) l k L K p q a b f g h = absurd p
nets_agree (net ∷ nets) (first ∷ firsts) (n ∷ ns) (m ∷ ms) l k L K p q a b f g h =
    subst (λ (X : List (List ℕ)). Agrees X ((net_lines net.name m ++ nets_lines nets ms) ++ k ∷ K))
    (sym (append_assoc (net_lines net.name n) (nets_lines nets ns) (l ∷ L)))
    (subst (λ (Y : List (List ℕ)). Agrees (net_lines net.name n ++ (nets_lines nets ns ++ l ∷ L)) Y)
    (sym (append_assoc (net_lines net.name m) (nets_lines nets ms) (k ∷ K)))
    (with_rest nets ns ms (omega arith) (omega arith)
    (nets_agree nets firsts ns ms l k L K p.1 q.1 (omega arith) (omega arith) f g h)))
  where
    with_rest : (nets : List Net) (ns ms : List NetTold) → length ns ≡ length nets → length ms ≡ length nets
        → Agrees (nets_lines nets ns ++ l ∷ L) (nets_lines nets ms ++ k ∷ K)
        → Agrees (net_lines net.name n ++ (nets_lines nets ns ++ l ∷ L))
        (net_lines net.name m ++ (nets_lines nets ms ++ k ∷ K))
    with_rest [] ns ms a b h = net_agree net.name first n m l k L K p.0 q.0 f g h
    with_rest (z ∷ nets) [] ms a b h = absurd (omega arith)
    with_rest (z ∷ nets) (x ∷ ns) [] a b h = absurd (omega arith)
    with_rest (z ∷ nets) (x ∷ ns) (y ∷ ms) a b h =
        net_agree net.name first n m (net_line z.name x) (net_line z.name y)
        ((flat_map cut_lines x.cuts ++ nets_lines nets ns) ++ l ∷ L)
        ((flat_map cut_lines y.cuts ++ nets_lines nets ms) ++ k ∷ K) p.0 q.0 (net_follows z.name x)
        (net_follows z.name y) h

-- ---- the last line
fewer : (p : NetTold → Bool) (xs : List NetTold) → length (filter p xs) ≤ length xs
fewer p [] = omega arith
fewer p (x ∷ xs) = by (p x) (fewer p xs)
  where
    by : (b : Bool) → length (filter p xs) ≤ length xs
        → length (cond b (x ∷ filter p xs) (filter p xs)) ≤ length (x ∷ xs)
    by true h = omega (arith, h)
    by false h = omega (arith, h)

total_agree : (ns ms : List NetTold) → length ns < 2 ^ 64 → length ms < 2 ^ 64
    → Agrees (total_line ns ∷ []) (total_line ms ∷ [])
total_agree ns ms p q r s e =
    let one = two_peel (codes "complete ") (codes " open ") (decimal (length (filter is_complete ns)))
    (decimal (length (filter is_open ns))) (decimal (length (filter is_complete ms)))
    (decimal (length (filter is_open ms)))
    r s (λ z. refl) (number_of (length (filter is_complete ns)) (omega (arith, p, fewer is_complete ns)))
    (number_of (length (filter is_open ns)) (omega (arith, p, fewer is_open ns)))
    (number_of (length (filter is_complete ms)) (omega (arith, q, fewer is_complete ms)))
    (number_of (length (filter is_open ms)) (omega (arith, q, fewer is_open ms))) e in
    (ap₂ (λ (a b : List ℕ). line (codes "complete " ++ a ++ codes " open " ++ b)) one.first one.second, tt)

-- ---- the whole
tail_of : Design → Told → List (List ℕ)
tail_of d t = nets_lines d.nets t.nets ++ total_line t.nets ∷ []

plain_lines : Design → Told → List (List ℕ)
plain_lines d t = line (codes "board " ++ spelled d.name) ∷ size_line d
    ∷ line (codes "grid " ++ t.grid ++ codes " nodes " ++ t.nodes) ∷ line (codes "dropped " ++ t.dropped)
    ∷ (place_lines t.places ++ line (codes "notes " ++ t.notes)
    ∷ (pass_lines 1 t.passes ++ line (codes "kept " ++ t.kept) ∷ line (codes "joins " ++ t.joins) ∷ tail_of d t))

lines_are : (d : Design) (t : Told) → lines d t ≡ plain_lines d t
unfolding lines plain_lines tail_of
lines_are d t =
    let rest = nets_lines d.nets t.nets ++ total_line t.nets ∷ [] in
    let kept = line (codes "kept " ++ t.kept) ∷ line (codes "joins " ++ t.joins) ∷ [] in
    let notes = line (codes "notes " ++ t.notes) ∷ [] in
    ap (λ (X : List (List ℕ)). line (codes "board " ++ spelled d.name) ∷ size_line d
    ∷ line (codes "grid " ++ t.grid ++ codes " nodes " ++ t.nodes) ∷ line (codes "dropped " ++ t.dropped) ∷ X)
    (append_assoc (place_lines t.places) notes ((pass_lines 1 t.passes ++ kept) ++ rest)
    ∙ ap (λ (X : List (List ℕ)). place_lines t.places ++ line (codes "notes " ++ t.notes) ∷ X)
    (append_assoc (pass_lines 1 t.passes) kept rest))

whole_agrees : (d : Design) (firsts : List (List (List ℕ))) (t u : Told) → length d.nets < 2 ^ 64 → IsTold d firsts t
    → IsTold d firsts u → Agrees (plain_lines d t) (plain_lines d u)
unfolding plain_lines tail_of
whole_agrees d firsts t u few p q =
    λ r s e. (
      refl,
      λ r s e. (
        refl,
        λ r s e.
            let grid = two_peel (codes "grid ") (codes " nodes ") t.grid t.nodes u.grid u.nodes r s
            (λ z. refl) p.grid p.nodes q.grid
            q.nodes e in (
              ap₂ (λ (a b : List ℕ). line (codes "grid " ++ a ++ codes " nodes " ++ b)) grid.first grid.second,
              number_line (codes "dropped ") t.dropped u.dropped _ _ p.dropped q.dropped
                  (λ same. places_agree t.places u.places _ _ p.places q.places
                  (sym p.drops ∙ ap value same ∙ q.drops)
                  (number_line (codes "notes ") t.notes u.notes _ _ p.notes q.notes
                  (λ same. passes_agree 1 t.passes u.passes _ _ _ _ p.passes q.passes (λ r. refl) (λ r. refl)
                  (number_line (codes "kept ") t.kept u.kept (line (codes "joins " ++ t.joins) ∷ tail_of d t)
                  (line (codes "joins " ++ u.joins) ∷ tail_of d u) p.kept q.kept
                  (λ same. number_line (codes "joins ") t.joins u.joins (tail_of d t) (tail_of d u) p.joins q.joins
                  (λ same. nets_agree d.nets firsts t.nets u.nets (total_line t.nets) (total_line u.nets)
                  [] [] p.nets q.nets
                  p.all_nets q.all_nets (λ r. inl refl) (λ r. inl refl)
                  (total_agree t.nets u.nets (omega (arith, few, p.all_nets)) (omega (arith, few, q.all_nets))))))))),
            ),
      ),
    )

pub lines_agree : (d : Design) (firsts : List (List (List ℕ))) (t u : Told) → length d.nets < 2 ^ 64
    → IsTold d firsts t
    → IsTold d firsts u → Agrees (lines d t) (lines d u)
lines_agree d firsts t u few p q =
    subst (λ (L : List (List ℕ)). Agrees L (lines d u)) (sym (lines_are d t))
    (subst (λ (K : List (List ℕ)). Agrees (plain_lines d t) K) (sym (lines_are d u))
    (whole_agrees d firsts t u few p q))

-- of two that begin a text, the one with fewer lines begins as the other does
pub begin_alike : (d : Design) (firsts : List (List (List ℕ))) (t u : Told) (text : List ℕ) (n k : ℕ)
    → length d.nets < 2 ^ 64 → IsTold d firsts t → IsTold d firsts u → BeginsAs d t text n → BeginsAs d u text k
    → n ≤ k
    → take n (lines d t) ≡ take n (lines d u)
begin_alike d firsts t u text n k few p q a b less =
    fronts n k (lines d t) (lines d u) a.rest b.rest (lines_agree d firsts t u few p q)
    (sym a.is ∙ b.is) less a.within
    b.within
