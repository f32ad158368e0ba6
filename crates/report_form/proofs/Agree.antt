-- A text is the report of one record alone.
use Rattle.std.proofs.Common.{◌≡◌, ◌⊎◌, inl, inr, ℕ, ◌+◌, ◌≤◌, ◌==◌, Bool, true, false}
use Rattle.std.proofs.Common.{List, [], ◌∷◌, ◌++◌, Option, Some, None, length, get_or, refl, sym, ap, ap₂}
use Rattle.std.proofs.Common.{◌∙◌, arith, All}
use Rattle.std.proofs.Common.{flat_map, eqb-true}
use Rattle.std.specs.Prelude.{IfSome, codes, decimal, if◌then◌else◌}
use Rattle.std.specs.List.{AllZip}
use Rattle.std.proofs.lemmas.List.{append_assoc, append_cancel_left}
use Rattle.std.proofs.lemmas.List.Elements.{All-head, All-tail}
use Rattle.pcb_model.specs.declared.item.Kind.{Kind}
use Rattle.pcb_model.specs.declared.design.Net.{Net}
use Rattle.pcb_model.specs.declared.design.Design.{Design}
use Rattle.ses_writer.specs.Words.{spelled}
use Rattle.report_form.specs.Form.{Told, NetTold, CutTold, RunTold, PassTold, IsNumber, IsRun, IsCutTold}
use Rattle.report_form.specs.Form.{AreCutsTold, IsNetTold}
use Rattle.report_form.specs.Form.{IsPassTold, IsTold, Says, lines, joined, line, by_line, by_lines, outside_lines}
use Rattle.report_form.specs.Form.{run_line, wide_line, wide_lines}
use Rattle.report_form.specs.Form.{run_lines, cut_line, cut_lines, net_words, net_line, net_lines, nets_lines}
use Rattle.report_form.specs.Form.{pass_lines, place_lines}
use Rattle.report_form.specs.Form.{size_line, total_line, head_lines, pass_part, value}
use Rattle.report_form.proofs.Joining.{joined-append}
use Rattle.report_form.proofs.Peels.{one_peel, two_peel, four_peel, cut_peel, by_peel}
use Rattle.report_form.proofs.Peels.{letter_of, no_boundary, ended, ended_is, ended_cut}

-- ---- what may follow the lines of a cut: another cut, a net or the last line
abbrev pub head : List ℕ → ℕ
head xs = get_or xs 0 0

abbrev pub Follows : List ℕ → Type 0
Follows r = (head r ≡ 99) ⊎ (head r ≡ 110)

pub not_run : (r : List ℕ) → Follows r → head r ≡ 114 → ⊥
not_run r (inl e) h = omega (arith, e, h)
not_run r (inr e) h = omega (arith, e, h)

pub not_by : (r : List ℕ) → Follows r → head r ≡ 98 → ⊥
not_by r (inl e) h = omega (arith, e, h)
not_by r (inr e) h = omega (arith, e, h)

-- what may follow the lines of stretches: so may the last line of the cut
abbrev pub FollowsRuns : List ℕ → Type 0
FollowsRuns r = Follows r ⊎ (head r ≡ 119)

pub runs_not_run : (r : List ℕ) → FollowsRuns r → head r ≡ 114 → ⊥
runs_not_run r (inl f) h = not_run r f h
runs_not_run r (inr e) h = omega (arith, e, h)

pub runs_not_by : (r : List ℕ) → FollowsRuns r → head r ≡ 98 → ⊥
runs_not_by r (inl f) h = not_by r f h
runs_not_by r (inr e) h = omega (arith, e, h)

pub not_wide : (r : List ℕ) → Follows r → head r ≡ 119 → ⊥
not_wide r (inl e) h = omega (arith, e, h)
not_wide r (inr e) h = omega (arith, e, h)

-- ---- the last line of a cut
wide_follows : (w : Option (List ℕ)) (r : List ℕ) → Follows r → FollowsRuns (joined (wide_lines w) ++ r)
wide_follows None r f = inl f
wide_follows (Some size) r f = inr refl

wide_peel : (w v : Option (List ℕ)) (r s : List ℕ) → IfSome w IsNumber → IfSome v IsNumber → Follows r → Follows s
    → joined (wide_lines w) ++ r ≡ joined (wide_lines v) ++ s → (w ≡ v) × (r ≡ s)
wide_peel None None r s p q f g e = (refl, e)
wide_peel None (Some y) r s p q f g e = absurd (not_wide r f (ap head e))
wide_peel (Some x) None r s p q f g e = absurd (not_wide s g (ap head (sym e)))
wide_peel (Some x) (Some y) r s p q f g e =
    let one = one_peel (codes "wide ") x y r s p q
    (sym (append_assoc (wide_line x) [] r) ∙ e ∙ append_assoc (wide_line y) [] s) in
    (ap (λ (z : List ℕ). Some z) one.0, one.1)

-- ---- the runs
runs_peel : (rs qs : List RunTold) (r s : List ℕ) → All IsRun rs → All IsRun qs → FollowsRuns r → FollowsRuns s
    → joined (run_lines rs) ++ r ≡ joined (run_lines qs) ++ s → (rs ≡ qs) × (r ≡ s)
runs_peel [] [] r s p q f g e = (refl, e)
runs_peel [] (x ∷ qs) r s p q f g e = absurd (runs_not_run r f (ap head e))
runs_peel (x ∷ rs) [] r s p q f g e = absurd (runs_not_run s g (ap head (sym e)))
runs_peel (x ∷ rs) (y ∷ qs) r s p q f g e =
    let hx = All-head IsRun x rs p in
    let hy = All-head IsRun y qs q in
    let one = four_peel (codes "run ") (codes " ") x.level x.row x.first x.last y.level y.row y.first y.last
    (joined (run_lines rs) ++ r) (joined (run_lines qs) ++ s)
    (λ z. refl) hx.level hx.row hx.first hx.last hy.level hy.row
    hy.first hy.last
    (sym (append_assoc (run_line x) (joined (run_lines rs)) r) ∙ e
    ∙ append_assoc (run_line y) (joined (run_lines qs)) s) in
    let rest = runs_peel rs qs r s (All-tail IsRun x rs p) (All-tail IsRun y qs q) f g one.rest in (
      ap₂ (λ (z : RunTold) (zs : List RunTold). z ∷ zs)
          (λ i. record { level = one.one i; row = one.two i; first = one.three i; last = one.four i }) rest.0,
      rest.1,
    )

-- ---- a boundary's line, and the items' lines
runs_head : (rs : List RunTold) (r : List ℕ) → FollowsRuns r → head (joined (run_lines rs) ++ r) ≡ 98 → ⊥
runs_head [] r f e = runs_not_by r f e
runs_head (x ∷ rs) r f e = omega (arith, e)

-- what follows the items' lines
abbrev behind : Bool → List RunTold → List ℕ → List ℕ
behind b rs r = joined (outside_lines b) ++ (joined (run_lines rs) ++ r)

outside_peel : (b c : Bool) (x y : List ℕ) → (head x ≡ 98 → ⊥) → (head y ≡ 98 → ⊥)
    → joined (outside_lines b) ++ x ≡ joined (outside_lines c) ++ y → (b ≡ c) × (x ≡ y)
outside_peel true true x y p q e = (refl, append_cancel_left (codes "by outside\n") x y e)
outside_peel true false x y p q e = absurd (q (ap head (sym e)))
outside_peel false true x y p q e = absurd (p (ap head e))
outside_peel false false x y p q e = (refl, e)

no_item : (b : Bool) (x : List ℕ) (k : Kind) (id r : List ℕ) → (head x ≡ 98 → ⊥)
    → joined (outside_lines b) ++ x ≡ by_line (k, id) ++ r → ⊥
no_item true x k id r p e = no_boundary k (sym (letter_of k id r) ∙ sym (ap (λ (xs : List ℕ). get_or xs 3 0) e))
no_item false x k id r p e = p (ap head e ∙ by_head k id r)
  where
    by_head : (k : Kind) (id r : List ℕ) → head (by_line (k, id) ++ r) ≡ 98
    by_head k id r = refl

by_all : (bs cs : List (Kind × List ℕ)) (b c : Bool) (x y : List ℕ)
    → All (λ (i : Kind × List ℕ). IsNumber i.1) bs → All (λ (i : Kind × List ℕ). IsNumber i.1) cs
    → (head x ≡ 98 → ⊥) → (head y ≡ 98 → ⊥)
    → joined (by_lines bs) ++ (joined (outside_lines b) ++ x) ≡ joined (by_lines cs)
    ++ (joined (outside_lines c) ++ y)
    → (bs ≡ cs) × (b ≡ c) × (x ≡ y)
by_all [] [] b c x y p q f g e = let o = outside_peel b c x y f g e in (refl, o.0, o.1)
by_all [] (j ∷ cs) b c x y p q f g e =
    absurd (no_item b x j.0 j.1 (joined (by_lines cs) ++ (joined (outside_lines c) ++ y)) f
    (e ∙ append_assoc (by_line j) (joined (by_lines cs)) (joined (outside_lines c) ++ y)))
by_all (i ∷ bs) [] b c x y p q f g e =
    absurd (no_item c y i.0 i.1 (joined (by_lines bs) ++ (joined (outside_lines b) ++ x)) g
    (sym e ∙ append_assoc (by_line i) (joined (by_lines bs)) (joined (outside_lines b) ++ x)))
by_all (i ∷ bs) (j ∷ cs) b c x y p q f g e =
    let N : Kind × List ℕ → Type 0 = λ k. IsNumber k.1 in
    let one = by_peel i.0 j.0 i.1 j.1 (joined (by_lines bs) ++ (joined (outside_lines b) ++ x))
    (joined (by_lines cs) ++ (joined (outside_lines c) ++ y)) (All-head N i bs p) (All-head N j cs q)
    (sym (append_assoc (by_line i) (joined (by_lines bs)) (joined (outside_lines b) ++ x)) ∙ e
    ∙ append_assoc (by_line j) (joined (by_lines cs)) (joined (outside_lines c) ++ y)) in
    let rest = by_all bs cs b c x y (All-tail N i bs p) (All-tail N j cs q) f g one.2 in (
      ap₂ (λ (z : Kind × List ℕ) (zs : List (Kind × List ℕ)). z ∷ zs) (λ k. (one.0 k, one.1 k)) rest.0,
      rest.1,
      rest.2,
    )

-- ---- a cut
cut_text : (c : CutTold) (r : List ℕ) → joined (cut_lines c) ++ r
    ≡ cut_line c ++ (joined (by_lines c.by_items)
    ++ (joined (outside_lines c.by_outside) ++ (joined (run_lines c.runs) ++ (joined (wide_lines c.wide) ++ r))))
cut_text c r =
    let last = run_lines c.runs ++ wide_lines c.wide in
    append_assoc (cut_line c) (joined (by_lines c.by_items ++ (outside_lines c.by_outside ++ last))) r
    ∙ ap (λ (x : List ℕ). cut_line c ++ x)
    (ap (λ (x : List ℕ). x ++ r) (joined-append (by_lines c.by_items) (outside_lines c.by_outside ++ last)
    ∙ ap (λ (x : List ℕ). joined (by_lines c.by_items) ++ x)
    (joined-append (outside_lines c.by_outside) last))
    ∙ append_assoc (joined (by_lines c.by_items)) (joined (outside_lines c.by_outside) ++ joined last) r
    ∙ ap (λ (x : List ℕ). joined (by_lines c.by_items) ++ x)
    (append_assoc (joined (outside_lines c.by_outside)) (joined last) r
    ∙ ap (λ (x : List ℕ). joined (outside_lines c.by_outside) ++ x)
    (ap (λ (x : List ℕ). x ++ r) (joined-append (run_lines c.runs) (wide_lines c.wide))
    ∙ append_assoc (joined (run_lines c.runs)) (joined (wide_lines c.wide)) r)))

one_cut : (first : Option (List ℕ)) (c e : CutTold) (r s : List ℕ) → IsCutTold first c → IsCutTold first e → Follows r
    → Follows s → joined (cut_lines c) ++ r ≡ joined (cut_lines e) ++ s → (c ≡ e) × (r ≡ s)
one_cut first c e r s p q f g h =
    let last = joined (wide_lines c.wide) ++ r in
    let other = joined (wide_lines e.wide) ++ s in
    let x = joined (run_lines c.runs) ++ last in
    let y = joined (run_lines e.runs) ++ other in
    let one = cut_peel first c.pin c.reached c.blocked e.pin e.reached e.blocked
    (joined (by_lines c.by_items) ++ (joined (outside_lines c.by_outside) ++ x))
    (joined (by_lines e.by_items) ++ (joined (outside_lines e.by_outside)
    ++ y)) p.pin q.pin p.reached p.blocked q.reached
    q.blocked (sym (cut_text c r) ∙ h ∙ cut_text e s) in
    let two = by_all c.by_items e.by_items c.by_outside e.by_outside x y p.by_items q.by_items
    (runs_head c.runs last (wide_follows c.wide r f))
    (runs_head e.runs other (wide_follows e.wide s g)) one.rest in
    let three = runs_peel c.runs e.runs last other p.runs q.runs (wide_follows c.wide r f) (wide_follows e.wide s g)
    two.2 in
    let four = wide_peel c.wide e.wide r s p.wide q.wide f g three.1 in (
      λ i. record {
        pin = one.name i;
        reached = one.reached i;
        blocked = one.blocked i;
        by_items = two.0 i;
        by_outside = two.1 i;
        runs = three.0 i;
        wide = four.0 i;
      },
      four.1,
    )

cuts_follow : (cs : List CutTold) (r : List ℕ) → Follows r → Follows (joined (flat_map cut_lines cs) ++ r)
cuts_follow [] r f = f
cuts_follow (c ∷ cs) r f = inl refl

more_cuts : (c : CutTold) (cs : List CutTold) (r : List ℕ)
    → joined (flat_map cut_lines (c ∷ cs)) ++ r ≡ joined (cut_lines c) ++ (joined (flat_map cut_lines cs) ++ r)
more_cuts c cs r =
    ap (λ (x : List ℕ). x ++ r) (joined-append (cut_lines c) (flat_map cut_lines cs))
    ∙ append_assoc (joined (cut_lines c)) (joined (flat_map cut_lines cs)) r

all_cuts : (firsts : List (List ℕ)) (cs es : List CutTold) (r s : List ℕ) → AreCutsTold firsts cs
    → AreCutsTold firsts es
    → length cs ≡ length es → Follows r → Follows s
    → joined (flat_map cut_lines cs) ++ r ≡ joined (flat_map cut_lines es) ++ s → (cs ≡ es) × (r ≡ s)
all_cuts firsts [] [] r s p q l f g e = (refl, e)
all_cuts firsts [] (c ∷ es) r s p q l f g e = absurd (omega arith)
all_cuts firsts (c ∷ cs) [] r s p q l f g e = absurd (omega arith)
all_cuts [] (c ∷ cs) (k ∷ es) r s p q l f g e =
    let one = one_cut None c k (joined (flat_map cut_lines cs) ++ r) (joined (flat_map cut_lines es) ++ s) p.0 q.0
    (cuts_follow cs r f) (cuts_follow es s g) (sym (more_cuts c cs r) ∙ e ∙ more_cuts k es s) in
    let rest = all_cuts [] cs es r s p.1 q.1 (omega arith) f g one.1 in
    (ap₂ (λ (z : CutTold) (zs : List CutTold). z ∷ zs) one.0 rest.0, rest.1)
all_cuts (first ∷ firsts) (c ∷ cs) (k ∷ es) r s p q l f g e =
    let one = one_cut (Some first) c k (joined (flat_map cut_lines cs) ++ r)
    (joined (flat_map cut_lines es) ++ s) p.0 q.0
    (cuts_follow cs r f) (cuts_follow es s g) (sym (more_cuts c cs r) ∙ e ∙ more_cuts k es s) in
    let rest = all_cuts firsts cs es r s p.1 q.1 (omega arith) f g one.1 in
    (ap₂ (λ (z : CutTold) (zs : List CutTold). z ∷ zs) one.0 rest.0, rest.1)

-- ---- a net
not_none : (n : ℕ) → 2 ≤ n → (n == 0) ≡ false
not_none n h = by (n == 0) refl
  where
    by : (b : Bool) → (n == 0) ≡ b → (n == 0) ≡ false
    by true e = let z : n ≡ 0 = eqb-true n 0 e in absurd (omega (arith, z))
    by false e = e

pub complete_words : (n : NetTold) → n.cuts ≡ [] → net_words n ≡ codes " complete"
complete_words n h = ap (λ (cs : List CutTold). if length cs == 0 then codes " complete" else codes " open "
    ++ n.islands) h

pub open_words : (n : NetTold) → 2 ≤ length n.cuts → net_words n ≡ codes " open " ++ n.islands
open_words n h = ap (λ (b : Bool). if b then codes " complete" else codes " open " ++ n.islands)
    (not_none (length n.cuts) h)

net_text : (name : List ℕ) (n : NetTold) (r : List ℕ) → joined (net_lines name n) ++ r
    ≡ (codes "net " ++ spelled name) ++ ended (net_words n) (joined (flat_map cut_lines n.cuts) ++ r)
net_text name n r =
    append_assoc (net_line name n) (joined (flat_map cut_lines n.cuts)) r
    ∙ ended_is (codes "net " ++ spelled name) (net_words n) (joined (flat_map cut_lines n.cuts) ++ r)

one_net : (name : List ℕ) (firsts : List (List ℕ)) (n k : NetTold) (r s : List ℕ) → IsNetTold firsts n
    → IsNetTold firsts k → Follows r → Follows s → joined (net_lines name n) ++ r ≡ joined (net_lines name k) ++ s
    → (n ≡ k) × (r ≡ s)
one_net name firsts n k r s p q f g e = by p.counts q.counts
  where
    abbrev_x : List ℕ
    abbrev_x = joined (flat_map cut_lines n.cuts) ++ r

    inside : ended (net_words n) (joined (flat_map cut_lines n.cuts) ++ r)
        ≡ ended (net_words k) (joined (flat_map cut_lines k.cuts) ++ s)
    inside = append_cancel_left (codes "net " ++ spelled name)
        (ended (net_words n) (joined (flat_map cut_lines n.cuts) ++ r))
        (ended (net_words k) (joined (flat_map cut_lines k.cuts) ++ s))
        (sym (net_text name n r) ∙ e ∙ net_text name k s)

    -- with the words known
    told_by : (v w : List ℕ) → net_words n ≡ v → net_words k ≡ w
        → ended v (joined (flat_map cut_lines n.cuts) ++ r) ≡ ended w (joined (flat_map cut_lines k.cuts) ++ s)
    told_by v w a b = ap (λ (x : List ℕ). ended x (joined (flat_map cut_lines n.cuts) ++ r)) (sym a) ∙ inside
        ∙ ap (λ (x : List ℕ). ended x (joined (flat_map cut_lines k.cuts) ++ s)) b

    clash : (x y a : List ℕ) → ended (codes " complete") x ≡ ended (codes " open " ++ a) y → ⊥
    clash x y a h = let z : 99 ≡ 111 = ap (λ (xs : List ℕ). get_or xs 1 0) h in omega (arith, z)

    by : (((n.cuts ≡ []) × (n.islands ≡ decimal 0))
        ⊎ ((2 ≤ length n.cuts) × IsNumber n.islands × (value n.islands ≡ length n.cuts)))
        → (((k.cuts ≡ []) × (k.islands ≡ decimal 0))
        ⊎ ((2 ≤ length k.cuts) × IsNumber k.islands × (value k.islands ≡ length k.cuts))) → (n ≡ k) × (r ≡ s)
    by (inl a) (inl b) =
        let tails : joined (flat_map cut_lines n.cuts) ++ r ≡ joined (flat_map cut_lines k.cuts) ++ s =
        append_cancel_left (codes " complete\n") (joined (flat_map cut_lines n.cuts) ++ r)
        (joined (flat_map cut_lines k.cuts) ++ s)
        (told_by (codes " complete") (codes " complete") (complete_words n a.0) (complete_words k b.0)) in
        let cuts : n.cuts ≡ k.cuts = a.0 ∙ sym b.0 in
        let islands : n.islands ≡ k.islands = a.1 ∙ sym b.1 in (
          λ i. record { islands = islands i; cuts = cuts i },
          append_cancel_left (joined (flat_map cut_lines k.cuts)) r s
              (ap (λ (cs : List CutTold). joined (flat_map cut_lines cs) ++ r) (sym cuts) ∙ tails),
        )
    by (inl a) (inr b) = absurd (clash (joined (flat_map cut_lines n.cuts) ++ r)
        (joined (flat_map cut_lines k.cuts) ++ s)
        k.islands (told_by (codes " complete") (codes " open " ++ k.islands) (complete_words n a.0)
        (open_words k b.0)))
    by (inr a) (inl b) = absurd (clash (joined (flat_map cut_lines k.cuts) ++ s)
        (joined (flat_map cut_lines n.cuts) ++ r)
        n.islands (sym (told_by (codes " open " ++ n.islands) (codes " complete") (open_words n a.0)
        (complete_words k b.0))))
    by (inr a) (inr b) =
        let x = joined (flat_map cut_lines n.cuts) ++ r in
        let y = joined (flat_map cut_lines k.cuts) ++ s in
        let h = told_by (codes " open " ++ n.islands) (codes " open " ++ k.islands) (open_words n a.0)
        (open_words k b.0) in
        let numbers = ended_cut n.islands k.islands x y a.1 b.1
        (append_cancel_left (codes " open ") (ended n.islands x) (ended k.islands y)
        (sym (append_assoc (codes " open ") n.islands (10 ∷ x)) ∙ h
        ∙ append_assoc (codes " open ") k.islands (10 ∷ y))) in
        let many : length n.cuts ≡ length k.cuts = sym a.2 ∙ ap value numbers.0 ∙ b.2 in
        let cuts = all_cuts firsts n.cuts k.cuts r s p.cuts q.cuts many f g numbers.1 in
        (λ i. record { islands = numbers.0 i; cuts = cuts.0 i }, cuts.1)

nets_follow : (nets : List Net) (ns : List NetTold) (r : List ℕ) → Follows r
    → Follows (joined (nets_lines nets ns) ++ r)
nets_follow [] ns r f = f
nets_follow (net ∷ nets) [] r f = f
nets_follow (net ∷ nets) (n ∷ ns) r f = inr refl

more_nets : (net : Net) (nets : List Net) (n : NetTold) (ns : List NetTold) (r : List ℕ)
    → joined (nets_lines (net ∷ nets) (n ∷ ns)) ++ r ≡ joined (net_lines net.name n)
    ++ (joined (nets_lines nets ns) ++ r)
more_nets net nets n ns r =
    ap (λ (x : List ℕ). x ++ r) (joined-append (net_lines net.name n) (nets_lines nets ns))
    ∙ append_assoc (joined (net_lines net.name n)) (joined (nets_lines nets ns)) r

all_nets : (nets : List Net) (firsts : List (List (List ℕ))) (ns ks : List NetTold) (r s : List ℕ)
    → AllZip IsNetTold firsts ns → AllZip IsNetTold firsts ks → length ns ≡ length nets → length ks ≡ length nets
    → Follows r → Follows s → joined (nets_lines nets ns) ++ r ≡ joined (nets_lines nets ks) ++ s → (ns ≡ ks)
    × (r ≡ s)
all_nets [] firsts [] [] r s p q l m f g e = (refl, e)
all_nets [] firsts [] (k ∷ ks) r s p q l m f g e = absurd (omega arith)
all_nets [] firsts (n ∷ ns) ks r s p q l m f g e = absurd (omega arith)
all_nets (net ∷ nets) firsts [] ks r s p q l m f g e = absurd (omega arith)
all_nets (net ∷ nets) firsts (n ∷ ns) [] r s p q l m f g e = absurd (omega arith)
all_nets (net ∷ nets) [] (n ∷ ns) (k ∷ ks) r s p q l m f g e = absurd p
all_nets (net ∷ nets) (first ∷ firsts) (n ∷ ns) (k ∷ ks) r s p q l m f g e =
    let one = one_net net.name first n k (joined (nets_lines nets ns) ++ r) (joined (nets_lines nets ks) ++ s) p.0 q.0
    (nets_follow nets ns r f) (nets_follow nets ks s g)
    (sym (more_nets net nets n ns r) ∙ e ∙ more_nets net nets k ks s) in
    let rest = all_nets nets firsts ns ks r s p.1 q.1 (omega arith) (omega arith) f g one.1 in
    (ap₂ (λ (z : NetTold) (zs : List NetTold). z ∷ zs) one.0 rest.0, rest.1)

-- ---- the passes, which end at `kept`
all_passes : (k : ℕ) (ps qs : List PassTold) (r s : List ℕ) → All IsPassTold ps → All IsPassTold qs → head r ≡ 107
    → head s ≡ 107 → joined (pass_lines k ps) ++ r ≡ joined (pass_lines k qs) ++ s → (ps ≡ qs) × (r ≡ s)
all_passes k [] [] r s p q f g e = (refl, e)
all_passes k [] (y ∷ qs) r s p q f g e = let z : 107 ≡ 112 = sym f ∙ ap head e in absurd (omega (arith, z))
all_passes k (x ∷ ps) [] r s p q f g e = let z : 107 ≡ 112 = sym g ∙ ap head (sym e) in absurd (omega (arith, z))
all_passes k (x ∷ ps) (y ∷ qs) r s p q f g e =
    let hx = All-head IsPassTold x ps p in
    let hy = All-head IsPassTold y qs q in
    let lx = line (codes "pass " ++ decimal k ++ codes " commits " ++ x.commits ++ codes " open " ++ x.parted) in
    let ly = line (codes "pass " ++ decimal k ++ codes " commits " ++ y.commits ++ codes " open " ++ y.parted) in
    let one = two_peel (codes "pass " ++ decimal k ++ codes " commits ") (codes " open ") x.commits x.parted y.commits
    y.parted (joined (pass_lines (k + 1) ps) ++ r) (joined (pass_lines (k + 1) qs) ++ s)
    (λ z. refl) hx.commits hx.parted
    hy.commits hy.parted
    (sym (append_assoc lx (joined (pass_lines (k + 1) ps)) r) ∙ e
    ∙ append_assoc ly (joined (pass_lines (k + 1) qs)) s) in
    let rest = all_passes (k + 1) ps qs r s (All-tail IsPassTold x ps p)
    (All-tail IsPassTold y qs q) f g one.rest in (
      ap₂ (λ (z : PassTold) (zs : List PassTold). z ∷ zs)
          (λ i. record { commits = one.first i; parted = one.second i }) rest.0,
      rest.1,
    )

-- ---- the places
all_places : (ps qs : List (List ℕ)) (r s : List ℕ) → All IsNumber ps → All IsNumber qs → length ps ≡ length qs
    → joined (place_lines ps) ++ r ≡ joined (place_lines qs) ++ s → (ps ≡ qs) × (r ≡ s)
all_places [] [] r s p q l e = (refl, e)
all_places [] (y ∷ qs) r s p q l e = absurd (omega arith)
all_places (x ∷ ps) [] r s p q l e = absurd (omega arith)
all_places (x ∷ ps) (y ∷ qs) r s p q l e =
    let one = one_peel (codes "drop ") x y (joined (place_lines ps) ++ r) (joined (place_lines qs) ++ s)
    (All-head IsNumber x ps p) (All-head IsNumber y qs q)
    (sym (append_assoc (line (codes "drop " ++ x)) (joined (place_lines ps)) r) ∙ e
    ∙ append_assoc (line (codes "drop " ++ y)) (joined (place_lines qs)) s) in
    let rest = all_places ps qs r s (All-tail IsNumber x ps p) (All-tail IsNumber y qs q) (omega arith) one.1 in
    (ap₂ (λ (z : List ℕ) (zs : List (List ℕ)). z ∷ zs) one.0 rest.0, rest.1)

-- ---- the whole
tail_text : Design → Told → List ℕ
tail_text d t = joined (nets_lines d.nets t.nets) ++ (total_line t.nets ++ [])

middle_text : Design → Told → List ℕ
middle_text d t = joined (pass_lines 1 t.passes)
    ++ (line (codes "kept " ++ t.kept) ++ (line (codes "joins " ++ t.joins) ++ tail_text d t))

whole_text : Design → Told → List ℕ
whole_text d t = line (codes "board " ++ spelled d.name) ++ (size_line d
    ++ (line (codes "grid " ++ t.grid ++ codes " nodes " ++ t.nodes) ++ (line (codes "dropped " ++ t.dropped)
    ++ (joined (place_lines t.places) ++ (line (codes "notes " ++ t.notes) ++ middle_text d t)))))

five : (a b c e x y : List ℕ) → (a ++ (b ++ (c ++ (e ++ x)))) ++ y ≡ a ++ (b ++ (c ++ (e ++ (x ++ y))))
five a b c e x y =
    append_assoc a (b ++ (c ++ (e ++ x))) y ∙ ap (λ (z : List ℕ). a ++ z)
    (append_assoc b (c ++ (e ++ x)) y ∙ ap (λ (z : List ℕ). b ++ z)
    (append_assoc c (e ++ x) y ∙ ap (λ (z : List ℕ). c ++ z) (append_assoc e x y)))

lines_text : (d : Design) (t : Told) → joined (lines d t) ≡ whole_text d t
unfolding lines whole_text middle_text tail_text
lines_text d t =
    let rest = pass_part t ++ (nets_lines d.nets t.nets ++ total_line t.nets ∷ []) in
    let notes = line (codes "notes " ++ t.notes) in
    let places : joined (place_lines t.places ++ notes ∷ []) ++ joined rest
    ≡ joined (place_lines t.places) ++ (notes ++ joined rest) =
    ap (λ (z : List ℕ). z ++ joined rest) (joined-append (place_lines t.places) (notes ∷ []))
    ∙ append_assoc (joined (place_lines t.places)) (notes ++ []) (joined rest)
    ∙ ap (λ (z : List ℕ). joined (place_lines t.places) ++ z) (append_assoc notes [] (joined rest)) in
    let kept = line (codes "kept " ++ t.kept) in
    let joins = line (codes "joins " ++ t.joins) in
    let nets = nets_lines d.nets t.nets ++ total_line t.nets ∷ [] in
    let middle : joined rest ≡ joined (pass_lines 1 t.passes) ++ (kept ++ (joins ++ (joined (nets_lines d.nets t.nets)
    ++ (total_line t.nets ++ [])))) =
    joined-append (pass_part t) nets
    ∙ ap (λ (z : List ℕ). z ++ joined nets) (joined-append (pass_lines 1 t.passes) (kept ∷ joins ∷ []))
    ∙ append_assoc (joined (pass_lines 1 t.passes)) (kept ++ (joins ++ [])) (joined nets)
    ∙ ap (λ (z : List ℕ). joined (pass_lines 1 t.passes) ++ z)
    (append_assoc kept (joins ++ []) (joined nets) ∙ ap (λ (z : List ℕ). kept ++ z)
    (append_assoc joins [] (joined nets) ∙ ap (λ (z : List ℕ). joins ++ z)
    (joined-append (nets_lines d.nets t.nets) (total_line t.nets ∷ [])))) in
    joined-append (head_lines d t) rest
    ∙ five (line (codes "board " ++ spelled d.name)) (size_line d)
    (line (codes "grid " ++ t.grid ++ codes " nodes " ++ t.nodes)) (line (codes "dropped " ++ t.dropped))
    (joined (place_lines t.places ++ notes ∷ [])) (joined rest)
    ∙ ap (λ (z : List ℕ). line (codes "board " ++ spelled d.name) ++ (size_line d
    ++ (line (codes "grid " ++ t.grid ++ codes " nodes " ++ t.nodes) ++ (line (codes "dropped " ++ t.dropped) ++ z))))
    (places ∙ ap (λ (z : List ℕ). joined (place_lines t.places) ++ (notes ++ z)) middle)

pub one_told : (d : Design) (firsts : List (List (List ℕ))) (t u : Told) (text : List ℕ) → IsTold d firsts t
    → IsTold d firsts u → Says d t text → Says d u text → t ≡ u
unfolding whole_text middle_text tail_text
one_told d firsts t u text p q s v =
    let start : whole_text d t ≡ whole_text d u = sym (lines_text d t) ∙ sym s.is ∙ v.is ∙ lines_text d u in
    let after = λ (w : Told). line (codes "dropped " ++ w.dropped)
    ++ (joined (place_lines w.places) ++ (line (codes "notes " ++ w.notes) ++ middle_text d w)) in
    let lattice = λ (w : Told). line (codes "grid " ++ w.grid ++ codes " nodes " ++ w.nodes) ++ after w in
    let one : lattice t ≡ lattice u =
    append_cancel_left (size_line d) (lattice t) (lattice u)
    (append_cancel_left (line (codes "board " ++ spelled d.name)) (size_line d ++ lattice t)
    (size_line d ++ lattice u) start)
    in
    let grid = two_peel (codes "grid ") (codes " nodes ") t.grid t.nodes u.grid u.nodes (after t) (after u)
    (λ z. refl)
    p.grid p.nodes q.grid q.nodes one in
    let behind_places = λ (w : Told). line (codes "notes " ++ w.notes) ++ middle_text d w in
    let dropped = one_peel (codes "dropped ") t.dropped u.dropped (joined (place_lines t.places) ++ behind_places t)
    (joined (place_lines u.places) ++ behind_places u) p.dropped q.dropped grid.rest in
    let many : length t.places ≡ length u.places = sym p.drops ∙ ap value dropped.0 ∙ q.drops in
    let places = all_places t.places u.places (behind_places t) (behind_places u) p.places q.places many dropped.1 in
    let notes = one_peel (codes "notes ") t.notes u.notes (middle_text d t)
    (middle_text d u) p.notes q.notes places.1 in
    let joins_on = λ (w : Told). line (codes "joins " ++ w.joins) ++ tail_text d w in
    let kept_on = λ (w : Told). line (codes "kept " ++ w.kept) ++ joins_on w in
    let passes = all_passes 1 t.passes u.passes (kept_on t) (kept_on u) p.passes q.passes refl refl notes.1 in
    let kept = one_peel (codes "kept ") t.kept u.kept (joins_on t) (joins_on u) p.kept q.kept passes.1 in
    let joins = one_peel (codes "joins ") t.joins u.joins (tail_text d t) (tail_text d u) p.joins q.joins kept.1 in
    let nets = all_nets d.nets firsts t.nets u.nets (total_line t.nets ++ []) (total_line u.nets ++ []) p.nets q.nets
    p.all_nets q.all_nets (inl refl) (inl refl) joins.1 in
    λ i. record {
      grid = grid.first i;
      nodes = grid.second i;
      dropped = dropped.0 i;
      places = places.0 i;
      notes = notes.0 i;
      passes = passes.0 i;
      kept = kept.0 i;
      joins = joins.0 i;
      nets = nets.0 i;
    }
