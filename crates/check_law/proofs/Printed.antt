-- A report that was printed is of the form.
use Rattle.std.proofs.Common.{◌≡◌, ℕ, ◌+◌, Bool, true, false, not, ◌==◌, List, [], ◌∷◌, ◌++◌}
use Rattle.std.proofs.Common.{length, map, Option, Some, None}
use Rattle.std.proofs.Common.{refl, sym, ap, ap₂, ◌∙◌, arith, filter, flat_map, cond}
use Rattle.std.specs.Prelude.{decimal, codes, if◌then◌else◌}
use Rattle.std.specs.List.{enumerate_from}
use Rattle.std.specs.Option.{option_map}
use Rattle.std.proofs.lemmas.List.{append_assoc, append-nil, length-map}
use Rattle.pcb_model.specs.declared.item.Kind.{Kind}
use Rattle.pcb_model.specs.declared.item.Kind.TheVariants as kind
use Rattle.pcb_model.specs.declared.item.Item.{Item}
use Rattle.pcb_model.specs.declared.design.Net.{Net}
use Rattle.pcb_model.specs.declared.design.Design.{Design}
use Rattle.route_lattice.specs.Mesh.{Mesh, column, row, level}
use Rattle.cut_certificate.specs.declared.cut.Block.{Block}
use Rattle.cut_certificate.specs.declared.cut.Cut.{Cut}
use Rattle.ses_writer.specs.Words.{spelled}
use Rattle.route_run.specs.declared.facts.Facts.{Facts}
use Rattle.route_run.specs.declared.facts.PassLine.{PassLine}
use Rattle.route_report.specs.Report as report
use Rattle.told_words.specs.PinNames.{pin_name}
use Rattle.report_form.proofs.Joining.{joined-append}
use Rattle.report_form.specs.Form.{Told, NetTold, CutTold, RunTold, PassTold, lines, joined, line, by_line}
use Rattle.report_form.specs.Form.{by_lines, outside_lines, wide_lines}
use Rattle.report_form.specs.Form.{run_line, run_lines, cut_line, cut_lines, net_lines}
use Rattle.report_form.specs.Form.{nets_lines, pass_lines}
use Rattle.report_form.specs.Form.{place_lines, is_complete, is_open, size_line, total_line, head_lines, pass_part}

-- ---- what is told
abbrev pub run_told : Mesh → ℕ → ℕ → RunTold
run_told m first last = record {
  level = decimal (level m first);
  row = decimal (row m first);
  first = decimal (column m first);
  last = decimal (column m last);
}

abbrev pub runs_from : Mesh → ℕ → ℕ → List ℕ → List RunTold
runs_from m first last [] = run_told m first last ∷ []
runs_from m first last (node ∷ nodes) =
    if report.goes_on m last node then runs_from m first node nodes
    else run_told m first last ∷ runs_from m node node nodes

abbrev pub runs_of : Mesh → List ℕ → List RunTold
runs_of m [] = []
runs_of m (node ∷ nodes) = runs_from m node node nodes

abbrev pub item_told : Item → Kind × List ℕ
item_told a = (a.kind, decimal a.id)

abbrev pub cut_told : Design → Mesh → List Item → Option ℕ → Cut → CutTold
cut_told d m items wide cut = record {
  pin = pin_name d cut.pin;
  reached = decimal (length cut.reach.nodes);
  blocked = decimal (length cut.blocked);
  by_items = map item_told (filter (λ (a : Item). report.is_named cut.blocked a.id) items);
  by_outside = report.has_outside cut.blocked;
  runs = runs_of m cut.reach.nodes;
  wide = option_map decimal wide;
}

-- that of a cut with its number among all
abbrev pub numbered_told : Design → Mesh → List Item → Facts → (ℕ × Cut) → CutTold
numbered_told d m items facts numbered = cut_told d m items (report.wide_at facts.wide numbered.0) numbered.1

abbrev pub net_told : Design → Mesh → List Item → Facts → ℕ → NetTold
net_told d m items facts net = record {
  islands = decimal (length (report.cuts_of facts net));
  cuts = map (numbered_told d m items facts) (report.numbered_cuts facts net);
}

abbrev pub nets_from : Design → Mesh → List Item → Facts → ℕ → List Net → List NetTold
nets_from d m items facts i [] = []
nets_from d m items facts i (net ∷ nets) = net_told d m items facts i ∷ nets_from d m items facts (i + 1) nets

abbrev pub pass_told : PassLine → PassTold
pass_told p = record { commits = decimal p.commits; parted = decimal p.parted }

abbrev pub told_of : Design → Mesh → List Item → Facts → Told
told_of d m items facts = record {
  grid = decimal facts.grid;
  nodes = decimal facts.nodes;
  dropped = decimal (length facts.dropped);
  places = map decimal facts.dropped;
  notes = decimal d.notes;
  passes = map pass_told facts.passes;
  kept = decimal facts.kept;
  joins = decimal facts.joins;
  nets = nets_from d m items facts 0 d.nets;
}

-- ---- words of the report
-- a pin's name is spelled
pin_word_is : (d : Design) (pin : ℕ) → report.pin_word d pin ≡ spelled (pin_name d pin)
unfolding report.pin_word
pin_word_is d pin = refl

glue : (w : List ℕ) (n : ℕ) (rest : List ℕ) → report.counted w n ++ rest ≡ w ++ (decimal n ++ rest)
unfolding report.counted
glue w n rest = append_assoc w (decimal n) rest

counted_is : (w : List ℕ) (n : ℕ) → report.counted w n ≡ w ++ decimal n
unfolding report.counted
counted_is w n = refl

-- ---- texts of one to four numbers
one_number : (w a : List ℕ) → line (w ++ a) ≡ w ++ (a ++ codes "\n")
one_number w a = append_assoc w a (codes "\n")

two_numbers : (w a v b : List ℕ) → line (w ++ a ++ v ++ b) ≡ w ++ (a ++ (v ++ (b ++ codes "\n")))
two_numbers w a v b =
    append_assoc (w ++ a ++ v) b (codes "\n") ∙ append_assoc (w ++ a) v (b ++ codes "\n")
    ∙ append_assoc w a (v ++ (b ++ codes "\n"))

three_numbers : (w a v b u c : List ℕ)
    → line (w ++ a ++ v ++ b ++ u ++ c) ≡ w ++ (a ++ (v ++ (b ++ (u ++ (c ++ codes "\n")))))
three_numbers w a v b u c =
    append_assoc (w ++ a ++ v ++ b ++ u) c (codes "\n") ∙ append_assoc (w ++ a ++ v ++ b) u (c ++ codes "\n")
    ∙ append_assoc (w ++ a ++ v) b (u ++ (c ++ codes "\n")) ∙ append_assoc (w ++ a) v (b ++ (u ++ (c ++ codes "\n")))
    ∙ append_assoc w a (v ++ (b ++ (u ++ (c ++ codes "\n"))))

four_numbers : (w a v b u c t e : List ℕ) → line (w ++ a ++ v ++ b ++ u ++ c ++ t ++ e)
    ≡ w ++ (a ++ (v ++ (b ++ (u ++ (c ++ (t ++ (e ++ codes "\n")))))))
four_numbers w a v b u c t e =
    append_assoc (w ++ a ++ v ++ b ++ u ++ c ++ t) e (codes "\n")
    ∙ append_assoc (w ++ a ++ v ++ b ++ u ++ c) t (e ++ codes "\n")
    ∙ append_assoc (w ++ a ++ v ++ b ++ u) c (t ++ (e ++ codes "\n"))
    ∙ append_assoc (w ++ a ++ v ++ b) u (c ++ (t ++ (e ++ codes "\n")))
    ∙ append_assoc (w ++ a ++ v) b (u ++ (c ++ (t ++ (e ++ codes "\n"))))
    ∙ append_assoc (w ++ a) v (b ++ (u ++ (c ++ (t ++ (e ++ codes "\n")))))
    ∙ append_assoc w a (v ++ (b ++ (u ++ (c ++ (t ++ (e ++ codes "\n"))))))

told_one : (w : List ℕ) (n : ℕ) → report.count_line w n ≡ w ++ (decimal n ++ codes "\n")
told_one w n = glue w n (codes "\n")

told_two : (w v : List ℕ) (n k : ℕ) → report.counted w n ++ report.count_line v k
    ≡ w ++ (decimal n ++ (v ++ (decimal k ++ codes "\n")))
told_two w v n k = glue w n (report.count_line v k) ∙ ap (λ (x : List ℕ). w ++ (decimal n ++ x)) (told_one v k)

told_three : (w v u : List ℕ) (n k j : ℕ) → report.counted w n ++ (report.counted v k ++ report.count_line u j)
    ≡ w ++ (decimal n ++ (v ++ (decimal k ++ (u ++ (decimal j ++ codes "\n")))))
told_three w v u n k j = glue w n (report.counted v k ++ report.count_line u j)
    ∙ ap (λ (x : List ℕ). w ++ (decimal n ++ x)) (told_two v u k j)

told_four : (w v u t : List ℕ) (n k j i : ℕ)
    → report.counted w n ++ (report.counted v k ++ (report.counted u j ++ report.count_line t i))
    ≡ w ++ (decimal n ++ (v ++ (decimal k ++ (u ++ (decimal j ++ (t ++ (decimal i ++ codes "\n")))))))
told_four w v u t n k j i = glue w n (report.counted v k ++ (report.counted u j ++ report.count_line t i))
    ∙ ap (λ (x : List ℕ). w ++ (decimal n ++ x)) (told_three v u t k j i)

-- as the report joins them
left_three : (w v u : List ℕ) (n k j : ℕ) → report.counted w n ++ report.counted v k ++ report.count_line u j
    ≡ w ++ (decimal n ++ (v ++ (decimal k ++ (u ++ (decimal j ++ codes "\n")))))
left_three w v u n k j = append_assoc (report.counted w n) (report.counted v k) (report.count_line u j)
    ∙ told_three w v u n k j

left_four : (w v u t : List ℕ) (n k j i : ℕ)
    → report.counted w n ++ report.counted v k ++ report.counted u j ++ report.count_line t i
    ≡ w ++ (decimal n ++ (v ++ (decimal k ++ (u ++ (decimal j ++ (t ++ (decimal i ++ codes "\n")))))))
left_four w v u t n k j i =
    append_assoc (report.counted w n ++ report.counted v k) (report.counted u j) (report.count_line t i)
    ∙ append_assoc (report.counted w n) (report.counted v k) (report.counted u j ++ report.count_line t i)
    ∙ told_four w v u t n k j i

-- ---- lists that grow alike
as_many : {X Y : Type 0} (b c : Bool) (x : X) (xs : List X) (y : Y) (ys : List Y) → b ≡ c → length xs ≡ length ys
    → length (cond b (x ∷ xs) xs) ≡ length (cond c (y ∷ ys) ys)
as_many true true x xs y ys e h = omega (arith, h)
as_many true false x xs y ys e h = absurd (cc)
as_many false true x xs y ys e h = absurd (cc)
as_many false false x xs y ys e h = h

-- ---- the lines of a cut
one_run : (m : Mesh) (first last : ℕ) → run_line (run_told m first last) ≡ report.stretch_line m first last
unfolding report.stretch_line
one_run m first last =
    four_numbers (codes "run ") (decimal (level m first)) (codes " ") (decimal (row m first)) (codes " ")
    (decimal (column m first)) (codes " ") (decimal (column m last))
    ∙ sym (left_four (codes "run ") (codes " ") (codes " ") (codes " ") (level m first) (row m first) (column m first)
    (column m last))

runs_text : (m : Mesh) (first last : ℕ) (nodes : List ℕ)
    → joined (run_lines (runs_from m first last nodes)) ≡ report.stretches_from m first last nodes
runs_text m first last [] = append-nil (run_line (run_told m first last)) ∙ one_run m first last
runs_text m first last (node ∷ nodes) = by (report.goes_on m last node) (runs_text m first node nodes)
    (runs_text m node node nodes)
  where
    by : (b : Bool) → joined (run_lines (runs_from m first node nodes)) ≡ report.stretches_from m first node nodes
        → joined (run_lines (runs_from m node node nodes)) ≡ report.stretches_from m node node nodes
        → joined (run_lines (if b then runs_from m first node nodes
        else run_told m first last ∷ runs_from m node node nodes))
        ≡ (if b then report.stretches_from m first node nodes
        else report.stretch_line m first last ++ report.stretches_from m node node nodes)
    by true one other = one
    by false one other = ap₂ (λ (x y : List ℕ). x ++ y) (one_run m first last) other

all_runs : (m : Mesh) (nodes : List ℕ) → joined (run_lines (runs_of m nodes)) ≡ report.stretch_lines m nodes
all_runs m [] = refl
all_runs m (node ∷ nodes) = runs_text m node node nodes

one_by : (a : Item) → by_line (item_told a) ≡ report.by_line a
unfolding report.by_line
one_by a = by a.kind
  where
    by : (k : Kind) → by_line (k, decimal a.id) ≡ codes "by " ++ report.kind_word k
        ++ report.count_line (codes " ") a.id
    by kind.Wire = simp (counted_is, append_assoc)
    by kind.Via = simp (counted_is, append_assoc)
    by kind.Pin = simp (counted_is, append_assoc)
    by kind.Smd = simp (counted_is, append_assoc)
    by kind.Area = simp (counted_is, append_assoc)

all_by : (items : List Item) → joined (by_lines (map item_told items)) ≡ flat_map report.by_line items
all_by [] = refl
all_by (a ∷ items) = ap₂ (λ (x y : List ℕ). x ++ y) (one_by a) (all_by items)

outside_text : (blocked : List Block)
    → joined (outside_lines (report.has_outside blocked)) ≡ report.outside_line blocked
outside_text blocked = by (report.has_outside blocked)
  where
    by : (b : Bool) → joined (outside_lines b) ≡ (if b then codes "by outside\n" else [])
    by true = refl
    by false = refl

one_cut : (d : Design) (m : Mesh) (items : List Item) (wide : Option ℕ) (cut : Cut)
    → cut_line (cut_told d m items wide cut) ≡ report.cut_line d cut
unfolding report.cut_line
one_cut d m items wide cut =
    three_numbers (codes "cut ") (spelled (pin_name d cut.pin)) (codes " reached ")
    (decimal (length cut.reach.nodes)) (codes " blocked ") (decimal (length cut.blocked))
    ∙ sym (ap (λ (x : List ℕ). codes "cut " ++ x ++ report.counted (codes " reached ") (length cut.reach.nodes)
    ++ report.count_line (codes " blocked ") (length cut.blocked)) (pin_word_is d cut.pin)
    ∙ append_assoc (codes "cut " ++ spelled (pin_name d cut.pin))
    (report.counted (codes " reached ") (length cut.reach.nodes))
    (report.count_line (codes " blocked ") (length cut.blocked))
    ∙ append_assoc (codes "cut ") (spelled (pin_name d cut.pin))
    (report.counted (codes " reached ") (length cut.reach.nodes)
    ++ report.count_line (codes " blocked ") (length cut.blocked))
    ∙ ap (λ (x : List ℕ). codes "cut " ++ (spelled (pin_name d cut.pin) ++ x))
    (told_two (codes " reached ") (codes " blocked ") (length cut.reach.nodes) (length cut.blocked)))

wide_text : (wide : Option ℕ) → joined (wide_lines (option_map decimal wide)) ≡ report.wide_line wide
wide_text None = refl
wide_text (Some size) =
    append-nil (line (codes "wide " ++ decimal size)) ∙ one_number (codes "wide ") (decimal size)
    ∙ sym (told_one (codes "wide ") size)

cut_text : (d : Design) (m : Mesh) (items : List Item) (wide : Option ℕ) (cut : Cut)
    → joined (cut_lines (cut_told d m items wide cut)) ≡ report.cut_lines d m items false wide cut
unfolding report.cut_lines
cut_text d m items wide cut =
    let named = filter (λ (a : Item). report.is_named cut.blocked a.id) items in
    let outside = outside_lines (report.has_outside cut.blocked) in
    let runs = run_lines (runs_of m cut.reach.nodes) in
    let last = wide_lines (option_map decimal wide) in
    let bys = flat_map report.by_line named in
    let stretches = report.stretch_lines m cut.reach.nodes in
    ap₂ (λ (x y : List ℕ). x ++ y) (one_cut d m items wide cut)
    (joined-append (by_lines (map item_told named)) (outside ++ (runs ++ last))
    ∙ (ap₂ (λ (x y : List ℕ). x ++ y) (all_by named)
    (joined-append outside (runs ++ last)
    ∙ ap₂ (λ (x y : List ℕ). x ++ y) (outside_text cut.blocked)
    (joined-append runs last
    ∙ ap₂ (λ (x y : List ℕ). x ++ y) (all_runs m cut.reach.nodes) (wide_text wide)))
    ∙ (sym (append_assoc bys (report.outside_line cut.blocked) (stretches ++ report.wide_line wide))
    ∙ sym (append_assoc (bys ++ report.outside_line cut.blocked) stretches (report.wide_line wide)))))

-- ---- the lines of a net
cuts_text : (d : Design) (m : Mesh) (items : List Item) (facts : Facts) (cuts : List (ℕ × Cut))
    → joined (flat_map cut_lines (map (numbered_told d m items facts) cuts))
    ≡ flat_map (report.told_cut d m items facts false) cuts
cuts_text d m items facts [] = refl
cuts_text d m items facts (cut ∷ cuts) =
    joined-append (cut_lines (numbered_told d m items facts cut))
    (flat_map cut_lines (map (numbered_told d m items facts) cuts))
    ∙ ap₂ (λ (x y : List ℕ). x ++ y) (cut_text d m items (report.wide_at facts.wide cut.0) cut.1)
    (cuts_text d m items facts cuts)

-- as many cuts as the net has
unnumbered : (net i : ℕ) (cuts : List Cut)
    → length (filter (report.is_at_net net) (enumerate_from i cuts)) ≡ length (filter (report.is_of_net net) cuts)
unnumbered net i [] = refl
unnumbered net i (cut ∷ cuts) =
    as_many (report.is_of_net net cut) (report.is_of_net net cut) (i, cut)
    (filter (report.is_at_net net) (enumerate_from (i + 1) cuts)) cut (filter (report.is_of_net net) cuts) refl
    (unnumbered net (i + 1) cuts)

no_more : (d : Design) (m : Mesh) (items : List Item) (facts : Facts) (net : ℕ)
    → length (map (numbered_told d m items facts) (report.numbered_cuts facts net)) == 0
    ≡ length (report.cuts_of facts net) == 0
no_more d m items facts net = ap (λ (n : ℕ). n == 0)
    (length-map (report.numbered_cuts facts net) (numbered_told d m items facts) ∙ unnumbered net 0 facts.cuts)

verdict_text : (name : List ℕ) (count : ℕ) (b : Bool) →
    line (codes "net " ++ spelled name ++ (if b then codes " complete" else codes " open " ++ decimal count))
    ≡ codes "net " ++ spelled name ++ (if b then codes " complete\n" else report.count_line (codes " open ") count)
verdict_text name count true = append_assoc (codes "net " ++ spelled name) (codes " complete") (codes "\n")
verdict_text name count false =
    append_assoc (codes "net " ++ spelled name) (codes " open " ++ decimal count) (codes "\n")
    ∙ ap (λ (x : List ℕ). codes "net " ++ spelled name ++ x)
    (append_assoc (codes " open ") (decimal count) (codes "\n") ∙ sym (told_one (codes " open ") count))

net_text : (d : Design) (m : Mesh) (items : List Item) (facts : Facts) (i : ℕ) (net : Net)
    → joined (net_lines net.name (net_told d m items facts i)) ≡ report.net_lines d m items facts false (i, net)
unfolding report.net_line
net_text d m items facts i net =
    ap₂ (λ (x y : List ℕ). x ++ y)
    (ap (λ (b : Bool). line (codes "net " ++ spelled net.name ++ (if b then codes " complete"
    else codes " open " ++ decimal (length (report.cuts_of facts i))))) (no_more d m items facts i)
    ∙ verdict_text net.name (length (report.cuts_of facts i)) (length (report.cuts_of facts i) == 0))
    (cuts_text d m items facts (report.numbered_cuts facts i))

nets_text : (d : Design) (m : Mesh) (items : List Item) (facts : Facts) (i : ℕ) (nets : List Net)
    → joined (nets_lines nets (nets_from d m items facts i nets))
    ≡ flat_map (report.net_lines d m items facts false) (enumerate_from i nets)
nets_text d m items facts i [] = refl
nets_text d m items facts i (net ∷ nets) =
    joined-append (net_lines net.name (net_told d m items facts i))
    (nets_lines nets (nets_from d m items facts (i + 1) nets))
    ∙ ap₂ (λ (x y : List ℕ). x ++ y) (net_text d m items facts i net) (nets_text d m items facts (i + 1) nets)

-- ---- how many nets are complete, and how many open
complete_many : (d : Design) (m : Mesh) (items : List Item) (facts : Facts) (i : ℕ) (nets : List Net)
    → length (filter is_complete (nets_from d m items facts i nets))
    ≡ length (filter (report.is_complete facts) (enumerate_from i nets))
complete_many d m items facts i [] = refl
complete_many d m items facts i (net ∷ nets) =
    as_many (is_complete (net_told d m items facts i)) (report.is_complete facts (i, net))
    (net_told d m items facts i) (filter is_complete (nets_from d m items facts (i + 1) nets)) (i, net)
    (filter (report.is_complete facts) (enumerate_from (i + 1) nets)) (no_more d m items facts i)
    (complete_many d m items facts (i + 1) nets)

open_many : (d : Design) (m : Mesh) (items : List Item) (facts : Facts) (i : ℕ) (nets : List Net)
    → length (filter is_open (nets_from d m items facts i nets))
    ≡ length (filter (report.is_open facts) (enumerate_from i nets))
open_many d m items facts i [] = refl
open_many d m items facts i (net ∷ nets) =
    as_many (is_open (net_told d m items facts i)) (report.is_open facts (i, net))
    (net_told d m items facts i) (filter is_open (nets_from d m items facts (i + 1) nets)) (i, net)
    (filter (report.is_open facts) (enumerate_from (i + 1) nets))
    (ap not (no_more d m items facts i))
    (open_many d m items facts (i + 1) nets)

total_text : (d : Design) (m : Mesh) (items : List Item) (facts : Facts)
    → total_line (nets_from d m items facts 0 d.nets) ≡ report.total_line d facts
unfolding report.total_line
total_text d m items facts =
    ap₂ (λ (a b : ℕ). line (codes "complete " ++ decimal a ++ codes " open " ++ decimal b))
    (complete_many d m items facts 0 d.nets) (open_many d m items facts 0 d.nets)
    ∙ two_numbers (codes "complete ")
    (decimal (length (filter (report.is_complete facts) (enumerate_from 0 d.nets)))) (codes " open ")
    (decimal (length (filter (report.is_open facts) (enumerate_from 0 d.nets))))
    ∙ sym (told_two (codes "complete ") (codes " open ")
    (length (filter (report.is_complete facts) (enumerate_from 0 d.nets)))
    (length (filter (report.is_open facts) (enumerate_from 0 d.nets))))

-- ---- the passes
one_pass : (k : ℕ) (p : PassLine)
    → line (codes "pass " ++ decimal k ++ codes " commits " ++ decimal p.commits ++ codes " open "
    ++ decimal p.parted)
    ≡ report.pass_line (k, p)
unfolding report.pass_line
one_pass k p =
    three_numbers (codes "pass ") (decimal k) (codes " commits ") (decimal p.commits) (codes " open ")
    (decimal p.parted)
    ∙ sym (left_three (codes "pass ") (codes " commits ") (codes " open ") k p.commits p.parted)

passes_text : (k : ℕ) (ps : List PassLine)
    → joined (pass_lines k (map pass_told ps)) ≡ flat_map report.pass_line (enumerate_from k ps)
passes_text k [] = refl
passes_text k (p ∷ ps) = ap₂ (λ (x y : List ℕ). x ++ y) (one_pass k p) (passes_text (k + 1) ps)

runs_part : (d : Design) (m : Mesh) (items : List Item) (facts : Facts)
    → joined (pass_part (told_of d m items facts)) ≡ report.run_lines facts
unfolding report.run_lines
runs_part d m items facts =
    joined-append (pass_lines 1 (map pass_told facts.passes))
    (line (codes "kept " ++ decimal facts.kept) ∷ line (codes "joins " ++ decimal facts.joins) ∷ [])
    ∙ ap₂ (λ (x y : List ℕ). x ++ y) (passes_text 1 facts.passes)
    (ap₂ (λ (x y : List ℕ). x ++ y)
    (one_number (codes "kept ") (decimal facts.kept) ∙ sym (told_one (codes "kept ") facts.kept))
    (append-nil (line (codes "joins " ++ decimal facts.joins))
    ∙ one_number (codes "joins ") (decimal facts.joins) ∙ sym (told_one (codes "joins ") facts.joins)))
    ∙ sym (append_assoc (report.pass_lines facts.passes) (report.count_line (codes "kept ") facts.kept)
    (report.count_line (codes "joins ") facts.joins))

-- ---- the head
places_text : (ps : List ℕ) → joined (place_lines (map decimal ps)) ≡ flat_map report.drop_line ps
places_text [] = refl
places_text (p ∷ ps) =
    ap₂ (λ (x y : List ℕ). x ++ y) (one_number (codes "drop ") (decimal p) ∙ sym (told_one (codes "drop ") p))
    (places_text ps)

board_text : (d : Design) → line (codes "board " ++ spelled d.name) ≡ report.board_line d
unfolding report.board_line
board_text d = refl

size_text : (d : Design) → size_line d ≡ report.size_line d
unfolding report.size_line
size_text d =
    three_numbers (codes "layers ") (decimal (length d.layers)) (codes " nets ") (decimal (length d.nets))
    (codes " pins ") (decimal (length d.pins))
    ∙ sym (left_three (codes "layers ") (codes " nets ") (codes " pins ") (length d.layers) (length d.nets)
    (length d.pins))

lattice_text : (facts : Facts)
    → line (codes "grid " ++ decimal facts.grid ++ codes " nodes " ++ decimal facts.nodes) ≡ report.lattice_line facts
unfolding report.lattice_line
lattice_text facts =
    two_numbers (codes "grid ") (decimal facts.grid) (codes " nodes ") (decimal facts.nodes)
    ∙ sym (told_two (codes "grid ") (codes " nodes ") facts.grid facts.nodes)

head_text : (d : Design) (m : Mesh) (items : List Item) (facts : Facts)
    → joined (head_lines d (told_of d m items facts)) ≡ report.head_lines d facts
unfolding report.head_lines
head_text d m items facts =
    let dropped = report.count_line (codes "dropped ") (length facts.dropped) in
    let drops = flat_map report.drop_line facts.dropped in
    let notes = report.count_line (codes "notes ") d.notes in
    let tail : joined (place_lines (map decimal facts.dropped) ++ line (codes "notes " ++ decimal d.notes) ∷ [])
    ≡ drops ++ notes =
    joined-append (place_lines (map decimal facts.dropped)) (line (codes "notes " ++ decimal d.notes) ∷ [])
    ∙ ap₂ (λ (x y : List ℕ). x ++ y) (places_text facts.dropped)
    (append-nil (line (codes "notes " ++ decimal d.notes))
    ∙ one_number (codes "notes ") (decimal d.notes) ∙ sym (told_one (codes "notes ") d.notes)) in
    let drop_line : line (codes "dropped " ++ decimal (length facts.dropped)) ≡ dropped =
    one_number (codes "dropped ") (decimal (length facts.dropped))
    ∙ sym (told_one (codes "dropped ") (length facts.dropped)) in
    ap₂ (λ (x y : List ℕ). x ++ y) (board_text d)
    (ap₂ (λ (x y : List ℕ). x ++ y) (size_text d)
    (ap₂ (λ (x y : List ℕ). x ++ y) (lattice_text facts) (ap₂ (λ (x y : List ℕ). x ++ y) drop_line tail)))
    ∙ sym (append_assoc (report.board_line d ++ report.size_line d ++ report.lattice_line facts
    ++ dropped) drops notes
    ∙ append_assoc (report.board_line d ++ report.size_line d ++ report.lattice_line facts) dropped (drops ++ notes)
    ∙ append_assoc (report.board_line d ++ report.size_line d) (report.lattice_line facts)
    (dropped ++ (drops ++ notes))
    ∙ append_assoc (report.board_line d) (report.size_line d)
    (report.lattice_line facts ++ (dropped ++ (drops ++ notes))))

-- ---- the whole
pub report_text : (d : Design) (m : Mesh) (items : List Item) (facts : Facts)
    → joined (lines d (told_of d m items facts)) ≡ report.report_of d m items facts false
unfolding report.report_of lines
report_text d m items facts =
    let t = told_of d m items facts in
    let nets = flat_map (report.net_lines d m items facts false) (enumerate_from 0 d.nets) in
    joined-append (head_lines d t) (pass_part t ++ (nets_lines d.nets t.nets ++ total_line t.nets ∷ []))
    ∙ ap₂ (λ (x y : List ℕ). x ++ y) (head_text d m items facts)
    (joined-append (pass_part t) (nets_lines d.nets t.nets ++ total_line t.nets ∷ [])
    ∙ ap₂ (λ (x y : List ℕ). x ++ y) (runs_part d m items facts)
    (joined-append (nets_lines d.nets t.nets) (total_line t.nets ∷ [])
    ∙ ap₂ (λ (x y : List ℕ). x ++ y) (nets_text d m items facts 0 d.nets)
    (append-nil (total_line t.nets) ∙ total_text d m items facts)))
    ∙ sym (append_assoc (report.head_lines d facts ++ report.run_lines facts) nets (report.total_line d facts)
    ∙ append_assoc (report.head_lines d facts) (report.run_lines facts) (nets ++ report.total_line d facts))
