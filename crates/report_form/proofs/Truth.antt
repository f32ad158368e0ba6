-- Where the number of nodes counts, too: which line isn't in its place.
use Rattle.std.proofs.Common.{◌≡◌, ℕ, zero, suc, ◌+◌, ◌^◌, ◌<◌, ◌≤◌, Bool, true, false, List, [], ◌∷◌, ◌++◌}
use Rattle.std.proofs.Common.{length}
use Rattle.std.proofs.Common.{take, get_or, Some, None, refl, sym, ap, ◌∙◌, subst, arith}
use Rattle.std.specs.Prelude.{codes, decimal, nat_lt, if◌then◌else◌}
use Rattle.std.proofs.lemmas.List.{append_assoc, append_cancel_left, length-append, append-nil}
use Rattle.pcb_model.specs.declared.design.Design.{Design}
use Rattle.route_lattice.specs.Mesh.{node_count}
use Rattle.route_lattice.specs.Whole.{lattice_of}
use Rattle.report_form.specs.Form.{Told, IsNumber, IsTold, IsTrulyTold, Says, BeginsAs, IsOutOfPlace, lines, front}
use Rattle.report_form.specs.Form.{joined}
use Rattle.report_form.specs.Form.{line_ends, line, value, size_line, nodes_of, place_lines, pass_part, nets_lines}
use Rattle.report_form.specs.Form.{total_line}
use Rattle.report_form.specs.Reading.{exact, node_total, TellsNodes}
use Rattle.report_form.specs.declared.reading.GridLine.{GridLine}
use Rattle.report_form.specs.inner.State.{Page, State, Start, Named, Sized, Gridded, Dropping, Passing, Joining}
use Rattle.report_form.specs.inner.State.{Netting}
use Rattle.report_form.specs.inner.State.{Opened, Parts, Ended, IsPage, Path, At, IsStuck, IsBeforeGrid, so_far}
use Rattle.report_form.specs.inner.State.{board_line, grid_line, gridded, IsGrid, GridStep}
use Rattle.report_form.proofs.Numbers.{number_of, value_of}
use Rattle.report_form.proofs.Peels.{two_peel}
use Rattle.report_form.proofs.Goods.{good_path}
use Rattle.report_form.proofs.SoFar.{path_adds}
use Rattle.report_form.proofs.Finish.{finish, finish_gridded}
use Rattle.report_form.proofs.Standing.{line_of, take_front, front_is, begins_so, no_further, no_report}
use Rattle.report_form.proofs.Values.{exact_is, exact_small}
use Rattle.report_form.proofs.Wide.{value_wide, number_wide, written_wide}

-- ---- the third line
-- the lines of a report behind it
record Shape (d : Design) (t : Told) : Type 0 where
  after : List (List ℕ)
  is : lines d t ≡ board_line d ∷ size_line d ∷ grid_line t.grid t.nodes ∷ after

shape : (d : Design) (t : Told) → Shape d t
unfolding lines
shape d t = record {
  after = (line (codes "dropped " ++ t.dropped) ∷ (place_lines t.places ++ line (codes "notes " ++ t.notes) ∷ []))
      ++ (pass_part t ++ (nets_lines d.nets t.nets ++ total_line t.nets ∷ []));
  is = refl;
}

three : (b s g x r : List ℕ) → (b ++ (s ++ (g ++ x))) ++ r ≡ b ++ (s ++ (g ++ (x ++ r)))
three b s g x r =
    append_assoc b (s ++ (g ++ x)) r ∙ ap (λ (z : List ℕ). b ++ z)
    (append_assoc s (g ++ x) r ∙ ap (λ (z : List ℕ). s ++ z) (append_assoc g x r))

-- the text up to there
pub head_text : (p : Page) (h : Told) (r : List ℕ) → At p (Gridded h) r
    → p.text ≡ board_line p.design ++ (size_line p.design ++ (grid_line h.grid h.nodes ++ r))
head_text p h r at =
    at.is ∙ three (board_line p.design) (size_line p.design) (grid_line h.grid h.nodes) [] r

pub record SameGrid (t h : Told) : Type 0 where
  pub grid : t.grid ≡ h.grid
  pub nodes : t.nodes ≡ h.nodes

grids_same : (t h : Told) (x y : List ℕ) → IsNumber t.grid → IsNumber t.nodes → IsGrid h
    → grid_line t.grid t.nodes ++ x ≡ grid_line h.grid h.nodes ++ y → SameGrid t h
grids_same t h x y p q good e =
    let w = two_peel (codes "grid ") (codes " nodes ") t.grid t.nodes h.grid h.nodes x y (λ z. refl) p q good.grid
    good.nodes e in record { grid = w.first; nodes = w.second }

-- a report that begins the text by three lines tells this grid and these nodes
pub same_grid : (p : Page) (h t : Told) (r : List ℕ) (n : ℕ) → At p (Gridded h) r → IsTold p.design p.firsts t
    → BeginsAs p.design t p.text n → 3 ≤ n → SameGrid t h
same_grid p h t r zero at told begins many = absurd (omega (arith, many))
same_grid p h t r (suc zero) at told begins many = absurd (omega (arith, many))
same_grid p h t r (suc (suc zero)) at told begins many = absurd (omega (arith, many))
same_grid p h t r (suc (suc (suc m))) at told begins many =
    let s = shape p.design t in
    let x = joined (take m s.after) ++ begins.rest in
    let b = board_line p.design in
    let z = size_line p.design in
    let own = grid_line t.grid t.nodes in
    let text : p.text ≡ b ++ (z ++ (own ++ x)) =
    begins.is ∙ ap (λ (L : List (List ℕ)). joined (take (suc (suc (suc m))) L) ++ begins.rest) s.is
    ∙ three b z own (joined (take m s.after)) begins.rest in
    grids_same t h x r told.grid told.nodes at.good
    (append_cancel_left z (own ++ x) (grid_line h.grid h.nodes ++ r)
    (append_cancel_left b (z ++ (own ++ x)) (z ++ (grid_line h.grid h.nodes ++ r)) (sym text ∙ head_text p h r at)))

-- where reading is stuck behind that line, three lines are read
pub late : (p : Page) (h : Told) (r : List ℕ) (s : State) (rest : List ℕ) → At p (Gridded h) r → At p s rest
    → IsStuck p s rest → 3 ≤ length (so_far p.design s)
unfolding lines
late p h r Start rest grid at stuck =
    absurd (stuck.none (board_line p.design) Named (size_line p.design ++ (grid_line h.grid h.nodes ++ r)) (refl, refl)
    (sym at.is ∙ head_text p h r grid))
late p h r Named rest grid at stuck =
    let b = board_line p.design in
    let behind = size_line p.design ++ (grid_line h.grid h.nodes ++ r) in
    absurd (stuck.none (size_line p.design) Sized (grid_line h.grid h.nodes ++ r) (refl, refl)
    (append_cancel_left b rest behind
    (sym (append_assoc b [] rest) ∙ sym at.is ∙ head_text p h r grid)))
late p h r Sized rest grid at stuck =
    let b = board_line p.design in
    let z = size_line p.design in
    let g = grid_line h.grid h.nodes in
    let good = grid.good in
    absurd (stuck.none g (Gridded (gridded h.grid h.nodes)) r (record {
      grid = h.grid;
      nodes = h.nodes;
      good = record {
        grid = good.grid;
        grid_from = good.grid_from;
        grid_to = good.grid_to;
        nodes = good.nodes;
      };
      is = refl;
      to = refl;
    })
    (append_cancel_left z rest (g ++ r) (append_cancel_left b (z ++ rest) (z ++ (g ++ r))
    (sym (append_assoc b (z ++ []) rest ∙ ap (λ (x : List ℕ). b ++ x) (append_assoc z [] rest)) ∙ sym at.is
    ∙ head_text p h r grid))))
late p h r (Gridded k) rest grid at stuck = omega arith
late p h r (Dropping k ps) rest grid at stuck = omega arith
late p h r (Passing k ps) rest grid at stuck = omega arith
late p h r (Joining k) rest grid at stuck = omega arith
late p h r (Netting k ns) rest grid at stuck = omega arith
late p h r (Opened k ns w) rest grid at stuck = omega arith
late p h r (Parts k ns w cs c) rest grid at stuck = omega arith
late p h r (Ended t) rest grid at stuck = omega arith

-- ---- the number of nodes
-- what is kept of the line
pub record IsGridOf (h : Told) (g : GridLine) : Type 0 where
  pub grid : g.grid ≡ value h.grid
  pub nodes : g.nodes ≡ exact h.nodes

exact_below : (w : List ℕ) (n : ℕ) → exact w ≡ Some n → n < 2 ^ 128
exact_below w n e = by (nat_lt (value w) (2 ^ 128)) refl e
  where
    by : (b : Bool) → nat_lt (value w) (2 ^ 128) ≡ b → (if b then Some (value w) else None) ≡ Some n → n < 2 ^ 128
    by true h f = let same = exact_is w n e in grind (arith, h, same)
    by false h f = cc

-- the lattice of the grid
pub total_is : (d : Design) (h : Told) (g : GridLine) → IsGridOf h g → nodes_of d h ≡ node_total d g
total_is d h g is = ap (λ (x : ℕ). node_count (lattice_of d x)) (sym is.grid)

pub truly : (p : Page) (u h : Told) (g : GridLine) → IsTold p.design p.firsts u → SameGrid u h → IsGridOf h g
    → TellsNodes p.design g → IsTrulyTold p.design p.firsts u
truly p u h g told same is tells =
    let n = node_total p.design g in
    let e : exact u.nodes ≡ Some n = ap exact same.nodes ∙ sym is.nodes ∙ tells in record {
      told = told;
      nodes_true = written_wide u.nodes n told.nodes (omega (arith, exact_below u.nodes n e))
          (sym (exact_is u.nodes n e))
          ∙ ap decimal (sym (ap (λ (w : List ℕ). node_count (lattice_of p.design (value w))) same.grid
          ∙ total_is p.design h g is));
    }

pub tells_nodes : (p : Page) (t h : Told) (g : GridLine) → IsTrulyTold p.design p.firsts t → SameGrid t h
    → IsGridOf h g → node_total p.design g < 2 ^ 128 → TellsNodes p.design g
tells_nodes p t h g true_ same is few =
    let n = node_total p.design g in
    let own : nodes_of p.design t ≡ n =
    ap (λ (w : List ℕ). node_count (lattice_of p.design (value w))) same.grid ∙ total_is p.design h g is in
    let e : t.nodes ≡ decimal n = true_.nodes_true ∙ ap decimal own in
    let v : n ≡ value t.nodes = sym (ap value e ∙ value_wide n (omega (arith, few))) in
    is.nodes ∙ ap exact (sym same.nodes) ∙ exact_small t.nodes n v few

-- ---- a report of this grid and these nodes
-- one that begins so
pub record Made (p : Page) (grid nodes : List ℕ) : Type 0 where
  pub lines : List (List ℕ)
  pub told : Told
  pub path : Path p Sized lines (Ended told)
  pub is : IsTold p.design p.firsts told
  pub grid_is : told.grid ≡ grid
  pub nodes_is : told.nodes ≡ nodes

pub made : (p : Page) (grid nodes : List ℕ) → IsPage p → IsGrid (gridded grid nodes) → Made p grid nodes
made p grid nodes page good =
    let h = gridded grid nodes in
    let step : GridStep (grid_line grid nodes) (Gridded h) =
    record { grid = grid; nodes = nodes; good = good; is = refl; to = refl } in
    let f = finish_gridded p h in
    let path : Path p Sized (grid_line grid nodes ∷ f.lines) (Ended f.told) = (Gridded h, step, f.path) in
    let told = good_path p Sized (Ended f.told) (grid_line grid nodes ∷ f.lines) page tt path in
    let s = shape p.design f.told in
    let third : grid_line f.told.grid f.told.nodes ≡ grid_line grid nodes =
    ap (λ (L : List (List ℕ)). get_or L 2 [])
    (sym s.is ∙ path_adds p Sized (Ended f.told) (grid_line grid nodes ∷ f.lines) page tt path) in
    let same = grids_same f.told h [] [] told.grid told.nodes good (ap (λ (x : List ℕ). x ++ []) third) in record {
      lines = grid_line grid nodes ∷ f.lines;
      told = f.told;
      path = path;
      is = told;
      grid_is = same.grid;
      nodes_is = same.nodes;
    }

made_truly : (p : Page) (grid : List ℕ) (n : ℕ) → (m : Made p grid (decimal n))
    → node_count (lattice_of p.design (value grid)) ≡ n → IsTrulyTold p.design p.firsts m.told
made_truly p grid n m e = record {
  told = m.is;
  nodes_true = m.nodes_is
      ∙ ap decimal (sym (ap (λ (w : List ℕ). node_count (lattice_of p.design (value w))) m.grid_is ∙ e));
}

-- ---- which line
-- the true number is told: the same line
pub told_line : (p : Page) (h : Told) (g : GridLine) (r : List ℕ) (s : State) (rest : List ℕ) → IsPage p
    → At p (Gridded h) r → IsGridOf h g → At p s rest → IsStuck p s rest → TellsNodes p.design g
    → IsOutOfPlace p.design (IsTrulyTold p.design p.firsts) p.text (line_of p s)
told_line p h g r s rest page grid is at stuck tells =
    let f = finish p s at.good in
    let same = front_is p s rest f.lines f.told page at f.path in
    let begins = begins_so p s rest f.lines f.told page at f.path in
    let told = good_path p s (Ended f.told) f.lines page at.good f.path in record {
      none = λ t t_told says. no_report p s rest t at stuck t_told.told says;
      told = f.told;
      is = truly p f.told h g told
          (same_grid p h f.told r (length (so_far p.design s)) grid told begins (late p h r s rest grid at stuck))
          is tells;
      count = length (so_far p.design s);
      begins = begins;
      longest = λ t n t_told t_begins. subst (λ (k : ℕ). length (front p.design t n) ≤ k) (sym (ap length same))
          (no_further p s rest t n at stuck t_told.told t_begins);
      at_is = ap (λ (z : List ℕ). 1 + line_ends z) (sym same);
    }

-- lines that lead to the report
record Begun (p : Page) (s : State) (t : Told) : Type 0 where
  lines : List (List ℕ)
  path : Path p s lines (Ended t)

-- before the line of the grid
pub early_line : (p : Page) (s : State) (rest : List ℕ) (n : ℕ) → IsPage p → At p s rest → IsStuck p s rest
    → IsBeforeGrid s → 1000 ≤ n → n ≤ 409600000 → node_count (lattice_of p.design n) < 2 ^ 128
    → IsOutOfPlace p.design (IsTrulyTold p.design p.firsts) p.text (line_of p s)
early_line p s rest n page at stuck before low high few =
    let nodes = node_count (lattice_of p.design n) in
    let v = value_of n (omega (arith, high)) in
    let m = made p (decimal n) (decimal nodes) page (record {
      grid = number_of n (omega (arith, high));
      grid_from = omega (arith, v, low);
      grid_to = omega (arith, v, high);
      nodes = number_wide nodes (omega (arith, few));
    }) in
    let t = made_truly p (decimal n) nodes m (ap (λ (x : ℕ). node_count (lattice_of p.design x)) v) in
    let f = begin m s before in
    let same = front_is p s rest f.lines m.told page at f.path in record {
      none = λ t t_told says. no_report p s rest t at stuck t_told.told says;
      told = m.told;
      is = t;
      count = length (so_far p.design s);
      begins = begins_so p s rest f.lines m.told page at f.path;
      longest = λ t n t_told t_begins. subst (λ (k : ℕ). length (front p.design t n) ≤ k) (sym (ap length same))
          (no_further p s rest t n at stuck t_told.told t_begins);
      at_is = ap (λ (z : List ℕ). 1 + line_ends z) (sym same);
    }
  where
    begin : (m : Made p (decimal n) (decimal (node_count (lattice_of p.design n)))) (s : State) → IsBeforeGrid s
        → Begun p s m.told
    begin m Start b = record {
      lines = board_line p.design ∷ size_line p.design ∷ m.lines;
      path = (Named, (refl, refl), (Sized, (refl, refl), m.path));
    }
    begin m Named b = record { lines = size_line p.design ∷ m.lines; path = (Sized, (refl, refl), m.path) }
    begin m Sized b = record { lines = m.lines; path = m.path }
    begin m (Gridded k) b = absurd b
    begin m (Dropping k ps) b = absurd b
    begin m (Passing k ps) b = absurd b
    begin m (Joining k) b = absurd b
    begin m (Netting k ns) b = absurd b
    begin m (Opened k ns w) b = absurd b
    begin m (Parts k ns w cs c) b = absurd b
    begin m (Ended k) b = absurd b

-- ---- another number is told
short_front : (b z : List ℕ) (X : List (List ℕ)) (n : ℕ) → n ≤ 2
    → length (joined (take n (b ∷ z ∷ X))) ≤ length (joined (b ∷ z ∷ []))
short_front b z X zero less = omega arith
short_front b z X (suc zero) less =
    omega (arith, length-append b [], length-append b (z ++ []), length-append z [])
short_front b z X (suc (suc zero)) less = omega arith
short_front b z X (suc (suc (suc n))) less = absurd (omega (arith, less))

pub whole_begins : (d : Design) (t : Told) (text : List ℕ) → Says d t text → BeginsAs d t text (length (lines d t))
whole_begins d t text says = record {
  within = omega arith;
  rest = [];
  is = says.is ∙ ap joined (sym (take_front (lines d t) [] (lines d t) (sym (append-nil (lines d t)))))
      ∙ sym (append-nil (joined (take (length (lines d t)) (lines d t))));
}

pub many_lines : (d : Design) (t : Told) → 3 ≤ length (lines d t)
many_lines d t = let s = shape d t in let e = ap length s.is in omega (arith, e)

-- the lines before it
pub front_two : (d : Design) (t : Told) → front d t 2 ≡ joined (board_line d ∷ size_line d ∷ [])
front_two d t = let s = shape d t in ap (λ (L : List (List ℕ)). joined (take 2 L)) s.is

-- the line of the grid
pub other_line : (p : Page) (h : Told) (g : GridLine) (before r : List ℕ) → IsPage p → At p Sized before
    → At p (Gridded h) r → IsGridOf h g → (TellsNodes p.design g → ⊥) → node_total p.design g < 2 ^ 128
    → IsOutOfPlace p.design (IsTrulyTold p.design p.firsts) p.text (line_of p Sized)
other_line p h g before r page sized grid is other few =
    let d = p.design in
    let good = grid.good in
    let nodes = node_total d g in
    let m = made p h.grid (decimal nodes) page (record {
      grid = good.grid;
      grid_from = good.grid_from;
      grid_to = good.grid_to;
      nodes = number_wide nodes (omega (arith, few));
    }) in
    let same = front_is p Sized before m.lines m.told page sized m.path in
    let clash = λ (t : Told) (n : ℕ) (true_ : IsTrulyTold d p.firsts t) (begins : BeginsAs d t p.text n) (many : 3 ≤ n).
    other (tells_nodes p t h g true_ (same_grid p h t r n grid true_.told begins many) is few) in record {
      none = λ t true_ says. clash t (length (lines d t)) true_ (whole_begins d t p.text says) (many_lines d t);
      told = m.told;
      is = made_truly p h.grid nodes m (total_is d h g is);
      count = 2;
      begins = begins_so p Sized before m.lines m.told page sized m.path;
      longest = λ t n true_ begins. subst (λ (k : ℕ). length (front d t n) ≤ k) (sym (ap length same))
          (by t n true_ begins (clash t n true_ begins));
      at_is = ap (λ (z : List ℕ). 1 + line_ends z) (sym same);
    }
  where
    by : (t : Told) (n : ℕ) → IsTrulyTold p.design p.firsts t → BeginsAs p.design t p.text n → (3 ≤ n → ⊥)
        → length (front p.design t n) ≤ length (joined (so_far p.design Sized))
    by t n true_ begins few =
        let s = shape p.design t in
        subst (λ (L : List (List ℕ)). length (joined (take n L)) ≤ length (joined (so_far p.design Sized))) (sym s.is)
        (short_front (board_line p.design) (size_line p.design) (grid_line t.grid t.nodes ∷ s.after) n (small n few))
      where
        small : (n : ℕ) → (3 ≤ n → ⊥) → n ≤ 2
        small zero f = omega arith
        small (suc zero) f = omega arith
        small (suc (suc zero)) f = omega arith
        small (suc (suc (suc n))) f = absurd (f (omega arith))
