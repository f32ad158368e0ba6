-- The lines of stretches are those of the longest ones.
use Rattle.std.proofs.Common.{◌≡◌, ◌∙◌, ℕ, Bool, true, false, cond, refl, sym, ap, subst, List, [], ◌∷◌, ◌++◌, All}
use Rattle.std.specs.Prelude.{flat_map, IsTrue}
use Rattle.std.proofs.lemmas.List.{append-nil, append_assoc}
use Rattle.std.proofs.lemmas.List.Elements.{All-cons, All-nil}
use Rattle.route_lattice.specs.Mesh.{Mesh}
use Rattle.route_report.specs.Report.{goes_on, stretch_line, stretches_from, stretch_lines}
use Rattle.route_report.specs.Stretches.{Stretch, nodes_in, last_from, GoOn, EndEach, AreLongest, line_of}

-- ---- one node more
go_on_more : (m : Mesh) (first node : ℕ) (run : List ℕ) → GoOn m first run
    → IsTrue (goes_on m (last_from first run) node) → GoOn m first (run ++ node ∷ [])
go_on_more m first node [] go next = (next, tt)
go_on_more m first node (x ∷ run) go next = (go.0, go_on_more m x node run go.1 next)

last_more : (first node : ℕ) (run : List ℕ) → last_from first (run ++ node ∷ []) ≡ node
last_more first node [] = refl
last_more first node (x ∷ run) = last_more x node run

-- ---- from a stretch that has begun
-- the stretch, with what goes on of the nodes, and the others
record Told (m : Mesh) (first : ℕ) (nodes lines : List ℕ) : Type 0 where
  rest : List ℕ
  others : List Stretch
  all : nodes ≡ rest ++ flat_map nodes_in others
  each : All (λ (s : Stretch). GoOn m s.first s.rest) (record { first = first; rest = rest } ∷ others)
  ends : EndEach m (record { first = first; rest = rest } ∷ others)
  lines_are : lines ≡ stretch_line m first (last_from first rest) ++ flat_map (line_of m) others

abbrev begun : ℕ → List ℕ → Stretch
begun first rest = record { first = first; rest = rest }

told : (m : Mesh) (first last : ℕ) (run nodes : List ℕ) → GoOn m first run → last_from first run ≡ last
    → Told m first (run ++ nodes) (stretches_from m first last nodes)
told m first last run [] go is = record {
  rest = run;
  others = [];
  all = refl;
  each = All-cons (λ (s : Stretch). GoOn m s.first s.rest) (begun first run) [] go (All-nil _);
  ends = tt;
  lines_are = ap (stretch_line m first) (sym is) ∙ sym (append-nil _);
}
told m first last run (node ∷ nodes) go is = by (goes_on m last node) refl
    (λ e. subst (λ (xs : List ℕ). Told m first xs (stretches_from m first node nodes))
    (append_assoc run (node ∷ []) nodes)
    (told m first node (run ++ node ∷ []) nodes
    (go_on_more m first node run go (subst (λ (n : ℕ). IsTrue (goes_on m n node)) (sym is) e))
    (last_more first node run)))
    (told m node node [] nodes tt refl)
  where
    by : (b : Bool) → goes_on m last node ≡ b
        → (goes_on m last node ≡ true → Told m first (run ++ node ∷ nodes) (stretches_from m first node nodes))
        → Told m node nodes (stretches_from m node node nodes)
        → Told m first (run ++ node ∷ nodes) (cond b (stretches_from m first node nodes)
        (stretch_line m first last ++ stretches_from m node node nodes))
    by true e more other = more e
    by false e more t = record {
      rest = run;
      others = begun node t.rest ∷ t.others;
      all = ap (λ (xs : List ℕ). run ++ node ∷ xs) t.all;
      each = All-cons (λ (s : Stretch). GoOn m s.first s.rest) (begun first run) (begun node t.rest ∷ t.others) go
          t.each;
      ends = (ap (λ (n : ℕ). goes_on m n node) is ∙ e, t.ends);
      lines_are = ap (λ (n : ℕ). stretch_line m first n ++ stretches_from m node node nodes) (sym is)
          ∙ ap (λ (xs : List ℕ). stretch_line m first (last_from first run) ++ xs) t.lines_are;
    }

-- ---- all
pub longest : (m : Mesh) (nodes : List ℕ) → (stretches : List Stretch) × AreLongest m nodes stretches
    × (stretch_lines m nodes ≡ flat_map (line_of m) stretches)
longest m [] = ([], record { all = refl; each = All-nil _; ends = tt }, refl)
longest m (node ∷ nodes) =
    let t = told m node node [] nodes tt refl in (
      begun node t.rest ∷ t.others,
      record { all = ap (λ (xs : List ℕ). node ∷ xs) t.all; each = t.each; ends = t.ends },
      t.lines_are,
    )
