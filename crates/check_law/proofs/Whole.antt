-- A run of a design that has edges and wiring, its session read back, and its report.
use Rattle.std.proofs.Common.{◌≡◌, ◌⊎◌, ◌∙◌, inl, inr, ℕ, suc, ◌+◌, ◌-◌, ◌<◌, ◌≤◌, Bool, List, [], ◌∷◌, All}
use Rattle.std.proofs.Common.{Option, Some, None, true, false}
use Rattle.std.specs.List.{AllZip}
use Rattle.std.proofs.Common.{ap, arith, filter, get_or, length, map, refl, subst, sym}
use Rattle.std.specs.Prelude.{slice_get}
use Rattle.std.proofs.lemmas.List.Elements.{All-nil}
use Rattle.std.proofs.lemmas.Option.{slice_get-get_or}
use Rattle.pcb_model.specs.declared.item.Item.{Item}
use Rattle.pcb_model.specs.declared.design.Design.{Design}
use Rattle.pcb_model.specs.Pairs.{AreTouching}
use Rattle.pcb_model.specs.Board.{IsLegal}
use Rattle.pcb_model.specs.Copper.{Ascends}
use Rattle.pcb_model.specs.Sound.{Serves}
use Rattle.pcb_islands.specs.Islands.{pins_of}
use Rattle.pcb_islands.proofs.Gathering.{island_at}
use Rattle.pcb_islands.proofs.Whole.{whole}
use Rattle.route_lattice.specs.Mesh.{Mesh, node_count}
use Rattle.route_lattice.specs.Whole.{lattice_of}
use Rattle.route_lattice.specs.declared.limits.TheConstants.{MOST_NODES}
use Rattle.cut_certificate.specs.declared.cut.Cut.{Cut}
use Rattle.pcb_board.specs.Boards.{BoardOf}
use Rattle.pcb_board.specs.Keeping.{IsBoard}
use Rattle.closing_pass.specs.Closing.{Ends}
use Rattle.copper_alike.specs.Twins.{HasEdges}
use Rattle.route_run.specs.declared.facts.Facts.{Facts}
use Rattle.route_run.specs.declared.facts.PassLine.{PassLine}
use Rattle.wide_pass.specs.Rounds.{IsWideSize}
use Rattle.route_run.specs.Runs.{AreWide, IsRun, RunOf}
use Rattle.route_report.specs.Report.{cuts_of, is_of_net}
use Rattle.ses_reader.specs.declared.item.SesItem.{SesItem}
use Rattle.session_law.specs.Back.{printed_wiring, told}
use Rattle.session_law.specs.Wired.{HasWiring}
use Rattle.session_law.proofs.ToldBoards.{is_routed}
use Rattle.check_law.specs.Written.{AreSmall, HaveSizes, IsWritten, NetEnds}
use Rattle.check_law.proofs.Ends.{AreEndsFrom, AreOf, all_of, own_cuts}
use Rattle.check_law.proofs.Fixed.{HasKind}
use Rattle.check_law.proofs.Lists.{there}
use Rattle.check_law.proofs.Sourced.{source}

-- ---- the cuts of the nets
-- those with which a net ends are its own
cuts_own : (d : Design) (m : Mesh) (via_cost : ℕ) (items : List Item) (net : ℕ) (cuts : List Cut)
    → Ends d m via_cost items net cuts → AreOf net cuts
cuts_own d m via_cost items net cuts h = elim h.ends [
  | inl none ↦ subst (AreOf net) (sym none.1) (All-nil (λ (c : Cut). c.net ≡ net))
  | inr several ↦ λ i x within.
      let s = there h.found i (let all = several.1.all in omega (arith, all, within)) in
      (several.1.each i s.0 (get_or cuts i x) s.1 (slice_get-get_or cuts i x within)).0.net_is
      ∙ (island_at d items net (pins_of d net) h.found i s.0 h.islands s.1).net_is
]

-- net by net
ends_from : (net : ℕ) (ends : List (List Cut))
    → ((k : ℕ) (cuts : List Cut) → slice_get ends k ≡ Some cuts → AreOf (net + k) cuts) → AreEndsFrom net ends
ends_from net [] h = tt
ends_from net (cuts ∷ ends) h = (
  subst (λ (n : ℕ). AreOf n cuts) (let e : net + 0 ≡ net = omega arith in e) (h 0 cuts refl),
  ends_from (net + 1) ends (λ k cs at.
      subst (λ (n : ℕ). AreOf n cs) (let e : net + suc k ≡ net + 1 + k = omega arith in e) (h (suc k) cs at)),
)

-- a list with a last element isn't empty
some_last : (lines : List PassLine) (last : PassLine) → slice_get lines (length lines - 1) ≡ Some last
    → 1 ≤ length lines
some_last [] last e = absurd (cc)
some_last (line ∷ lines) last e = omega arith

module _ (touch_back : (a b : Item) → AreTouching a b → AreTouching b a) (grid : ℕ) (r : RunOf) (b : BoardOf)
    (facts : Facts) (edges : HasEdges b.design) (kinds : All HasKind b.design.fixed) (legal : IsLegal b.design b.items)
    (up : Ascends b.items) (serve : Serves b.items b.design) (wiring : HasWiring b.design)
    (run : IsRun b.design (lattice_of b.design grid) r b facts) where
  abbrev d : Design
  d = b.design

  abbrev m : Mesh
  m = lattice_of b.design grid

  abbrev board : IsBoard b
  board = run.board

  -- ---- how a net ends
  froms : AreEndsFrom 0 run.facts_are.ends
  froms = ends_from 0 run.facts_are.ends (λ k cuts at.
      subst (λ (n : ℕ). AreOf n cuts) (let e : k ≡ 0 + k = omega arith in e)
      (cuts_own d m r.via_cost b.items k cuts (run.facts_are.ends_are.each k cuts at)))

  -- its cuts in the report
  own : (net : ℕ) (cuts : List Cut) → slice_get run.facts_are.ends net ≡ Some cuts → cuts_of facts net ≡ cuts
  own net cuts at =
      ap (filter (is_of_net net)) run.facts_are.cuts_are
      ∙ subst (λ (n : ℕ). filter (is_of_net n) (all_of run.facts_are.ends) ≡ cuts)
      (let e : 0 + net ≡ net = omega arith in e) (own_cuts 0 net run.facts_are.ends cuts froms at)

  net_ends : (net : ℕ) → net < length d.nets → NetEnds d m b.items facts net
  net_ends net within =
      let c = there run.facts_are.ends net
      (let all = run.facts_are.ends_are.all in omega (arith, all, within)) in
      let e : Ends d m r.via_cost b.items net c.0 = run.facts_are.ends_are.each net c.0 c.1 in
      let same : cuts_of facts net ≡ c.0 = own net c.0 c.1 in
      record {
        old = e.found;
        islands = e.islands;
        ends = subst (λ (cs : List Cut). ((cs ≡ []) × (length e.found ≤ 1))
            ⊎ ((2 ≤ length e.found) × (length cs ≡ length e.found))) (sym same) (elim e.ends [
              | inl none ↦ inl (none.1, (whole d b.items net board.sound serve touch_back e.found e.islands).1 none.0)
              | inr several ↦ inr (several.0, several.1.all)
            ]);
        cuts = λ k island cut at cut_at. elim e.ends [
          | inl none ↦
              let gone : slice_get {X = Cut} [] k ≡ Some cut =
              ap (λ (cs : List Cut). slice_get cs k) (sym (same ∙ none.1)) ∙ cut_at in
              absurd (cc)
          | inr several ↦ (several.1.each k island cut at
              (ap (λ (cs : List Cut). slice_get cs k) (sym same) ∙ cut_at)).0
        ];
      }

  -- ---- the whole
  one_grid : facts.grid ≡ grid
  one_grid = run.facts_are.grid_is

  one_count : facts.nodes ≡ node_count m
  one_count = run.facts_are.nodes_are

  sized : (diagonal : Bool) (wide : Option (List ℕ)) → AreWide diagonal m r.via_cost b facts.cuts wide
      → HaveSizes wide (length facts.cuts)
  sized false wide none = subst (λ (w : Option (List ℕ)). HaveSizes w (length facts.cuts)) (sym none) tt
  sized true None h = absurd h
  sized true (Some sizes) h = as_long facts.cuts sizes h
    where
      as_long : (cuts : List Cut) (sizes : List ℕ)
          → AllZip (IsWideSize b.design m b.items r.via_cost) cuts sizes → length sizes ≡ length cuts
      as_long [] [] h = refl
      as_long [] (n ∷ sizes) h = absurd h
      as_long (cut ∷ cuts) [] h = absurd h
      as_long (cut ∷ cuts) (n ∷ sizes) h = let rest = as_long cuts sizes h.1 in omega (arith, rest)

  pub run_written : (omit : Bool) (xs : List SesItem) → 1000 ≤ grid → grid ≤ 409600000 → node_count m ≤ MOST_NODES
      → AreSmall d b.items facts → map told xs ≡ printed_wiring d b.items omit
      → IsWritten d b.items (filter is_routed b.items) omit xs facts
  run_written omit xs from to few small reads = record {
    sound = board.sound;
    edges = edges;
    legal = legal;
    rise = up;
    serve = serve;
    source = source b board kinds legal up serve wiring omit xs reads;
    grid_from = subst (λ (n : ℕ). 1000 ≤ n) (sym one_grid) from;
    grid_to = subst (λ (n : ℕ). n ≤ 409600000) (sym one_grid) to;
    nodes_are = one_count ∙ ap (λ (g : ℕ). node_count (lattice_of d g)) (sym one_grid);
    few = subst (λ (n : ℕ). n ≤ MOST_NODES) (sym one_count) few;
    some_pass = some_last facts.passes run.ended.last run.ended.last_is;
    small = small;
    sizes = sized r.diagonal facts.wide run.facts_are.wide_is;
    ends = subst (λ (g : ℕ). (net : ℕ) → net < length d.nets → NetEnds d (lattice_of d g) b.items facts net)
        (sym one_grid) net_ends;
  }
