-- What the size of stretches says of a cut as it is told.
use Rattle.std.proofs.Common.{◌≡◌, ◌∙◌, ◌^◌, ◌<◌, ◌≤◌, ℕ, List, [], ap, arith, get_or, length, subst, sym}
use Rattle.std.proofs.Common.{true, false, Some, None}
use Rattle.std.specs.Prelude.{Contains, decimal, map, remove}
use Rattle.std.proofs.lemmas.Bool.{false≢true}
use Rattle.std.proofs.lemmas.List.{get_or-map, length-map}
use Rattle.std.proofs.lemmas.List.Elements.{All-contains, Contains-get_or}
use Rattle.std.proofs.lemmas.Option.{same_Some}
use Rattle.pcb_model.specs.declared.item.Item.{Item}
use Rattle.pcb_model.specs.declared.design.Design.{Design}
use Rattle.pcb_islands.specs.declared.net.Island.{Island}
use Rattle.route_lattice.specs.Mesh.{Mesh, node_count}
use Rattle.copper_alike.specs.Sets.{IsCutSet}
use Rattle.cut_check.specs.declared.stretch.Stretch.{Stretch}
use Rattle.cut_check.specs.declared.cut.CutSize.{CutSize}
use Rattle.cut_check.specs.Sizes.{IsOutCount, IsSized}
use Rattle.cut_check.specs.Stretches as kept
use Rattle.cut_check.proofs.Outgoing.{few}
use Rattle.report_form.specs.Form.{RunTold, value}
use Rattle.report_form.specs.Reading.{run_kept}
use Rattle.report_form.specs.declared.reading.ReadCut.{ReadCut}
use Rattle.report_form.proofs.Wide.{value_wide, written_wide}
use Rattle.route_check.specs.Judged.{AreNodesOf, IsOfRun, first_name}
use Rattle.route_check.specs.inner.Kept.{IsKeptFalse, IsKeptTrue, stretch_of}
use Rattle.route_check.proofs.Stretching.{laid, to_kept, to_told}

-- ---- a cut that names another pin
pub not_named : (d : Design) (m : Mesh) (items : List Item) (own : List Island) (k : ℕ) (cut : ReadCut)
    → cut.named ≡ false → IsKeptFalse d m items own k cut
not_named d m items own k cut other = record {
  each = λ island told at by t.
      false≢true (sym other ∙ by.named.1 (ap (λ (w : List ℕ). Some w) (sym t.names)));
}

-- ---- the stretches of runs
abbrev laid_all : List RunTold → List Stretch
laid_all rs = map stretch_of (map run_kept rs)

blank : RunTold
blank = record { level = []; row = []; first = []; last = [] }

laid_long : (rs : List RunTold) → length (laid_all rs) ≡ length rs
laid_long rs = length-map (map run_kept rs) stretch_of ∙ length-map rs run_kept

laid_at : (rs : List RunTold) (i : ℕ) (r : RunTold) (s : Stretch) → i < length rs
    → get_or (laid_all rs) i s ≡ laid (get_or rs i r)
laid_at rs i r s within =
    get_or-map stretch_of (map run_kept rs) i (run_kept r) s (omega (arith, within, length-map rs run_kept))
    ∙ ap stretch_of (get_or-map run_kept rs i r (run_kept r) within)

laid_in : (rs : List RunTold) (r : RunTold) → Contains rs r → Contains (laid_all rs) (laid r)
laid_in rs r c =
    let within : c.0 < length rs = c.1 in
    (c.0, omega (arith, within, laid_long rs), laid_at rs c.0 r (laid r) within ∙ ap laid c.2)

-- the run of a stretch
record LaidFrom (rs : List RunTold) (s : Stretch) : Type 0 where
  run : RunTold
  there : Contains rs run
  is : s ≡ laid run

laid_from : (rs : List RunTold) (s : Stretch) → Contains (laid_all rs) s → LaidFrom rs s
laid_from rs s c =
    let low : c.0 < length (laid_all rs) = c.1 in
    let within : c.0 < length rs = omega (arith, low, laid_long rs) in
    record {
      run = get_or rs c.0 blank;
      there = Contains-get_or rs c.0 blank within;
      is = sym c.2 ∙ laid_at rs c.0 blank s within;
    }

-- ---- their nodes
module _ (m : Mesh) (few_nodes : node_count m ≤ 2 ^ 24) (levels : length m.layers ≤ 2 ^ 24) where
  nodes_kept : (rs : List RunTold) (nodes : List ℕ) → AreNodesOf m rs nodes → kept.AreNodesOf m (laid_all rs) nodes
  nodes_kept rs nodes a = record {
    on_lattice = λ i s within.
        let low : i < length rs = omega (arith, within, laid_long rs) in
        let o = a.on_lattice i blank low in (
          o.0,
          subst (λ (t : Stretch). kept.IsOfStretch m t o.0) (sym (laid_at rs i blank s low))
              (to_kept m few_nodes levels (get_or rs i blank) o.0 o.1),
        );
    ascends = a.ascends;
    only = λ node c.
        let o = All-contains (λ (v : ℕ). (r : RunTold) × Contains rs r × IsOfRun m r v) nodes node a.only c in
        record {
          run = laid o.0;
          there = laid_in rs o.0 o.1;
          of_run = to_kept m few_nodes levels o.0 node o.2;
        };
    all = λ node s.
        let l = laid_from rs s.run s.there in
        a.all l.run node l.there (to_told m few_nodes levels l.run node
        (subst (λ (t : Stretch). kept.IsOfStretch m t node) l.is s.of_run));
  }

  nodes_told : (rs : List RunTold) (nodes : List ℕ) → kept.AreNodesOf m (laid_all rs) nodes → AreNodesOf m rs nodes
  nodes_told rs nodes a = record {
    on_lattice = λ i r within.
        let s = a.on_lattice i (laid r) (omega (arith, within, laid_long rs)) in (
          s.0,
          to_told m few_nodes levels (get_or rs i r) s.0
              (subst (λ (t : Stretch). kept.IsOfStretch m t s.0) (laid_at rs i r (laid r) within) s.1),
        );
    ascends = a.ascends;
    only = λ i v within.
        let node = get_or nodes i v in
        let o = a.only node (Contains-get_or nodes i v within) in
        let l = laid_from rs o.run o.there in (
          l.run,
          l.there,
          to_told m few_nodes levels l.run node (subst (λ (t : Stretch). kept.IsOfStretch m t node) l.is o.of_run),
        );
    all = λ r node c o.
        a.all node (record { run = laid r; there = laid_in rs r c; of_run = to_kept m few_nodes levels r node o });
  }

  -- the nodes of a set are few
  set_few : (d : Design) (items : List Item) (island : Island) (others : List Island) (nodes : List ℕ)
      → IsCutSet d m items island others nodes → length nodes ≤ 2 ^ 24
  set_few d items island others nodes set =
      let low = few nodes (node_count m) set.ascends
      (λ v c. All-contains (λ (n : ℕ). n < node_count m) nodes v set.there c) in
      omega (arith, low, few_nodes)

  -- ---- a cut that was kept
  module _ (d : Design) (items : List Item) (own : List Island) (k : ℕ) (cut : ReadCut) where
    -- the stretches are a set of the told size
    pub kept_true : (size : CutSize) → cut.named ≡ true
        → IsSized d m items own k (map stretch_of cut.runs) (Some size) → (size.reached ≡ cut.reached)
        × (size.blocked ≡ cut.blocked) → IsKeptTrue d m items own k cut
    kept_true size named sized same = record {
      each = λ island told at number_reached number_blocked by.
          let shut = sized.at island at in
          let low = set_few d items island (remove own k) shut.nodes shut.set in
          let reached_is : value told.reached ≡ length shut.nodes =
          let a = by.reached in
          let b = shut.reached in
          let c = same.0 in
          omega (arith, a, b, c, low) in
          let blocked_is : value told.blocked ≡ size.blocked =
          let a = by.blocked in
          let b = shut.few in
          let c = same.1 in
          omega (arith, a, b, c) in
          record {
            names = sym (same_Some (first_name d island) told.pin (by.named.0 named));
            nodes = shut.nodes;
            nodes_are = nodes_told told.runs shut.nodes
                (subst (λ (ss : List Stretch). kept.AreNodesOf m ss shut.nodes) (ap (map stretch_of) by.runs)
                shut.nodes_are);
            set = shut.set;
            reached = written_wide told.reached (length shut.nodes) number_reached (omega (arith, low)) reached_is;
            count = size.blocked;
            out = shut.blocked;
            blocked = written_wide told.blocked size.blocked number_blocked
                (let f = shut.few in omega (arith, f)) blocked_is;
          };
    }

    -- the stretches are no set
    pub not_shut : IsSized d m items own k (map stretch_of cut.runs) None → IsKeptFalse d m items own k cut
    not_shut sized = record {
      each = λ island told at by t.
          (sized.at island at).none t.nodes
          (subst (λ (ss : List Stretch). kept.AreNodesOf m ss t.nodes) (sym (ap (map stretch_of) by.runs))
          (nodes_kept told.runs t.nodes t.nodes_are)) t.set;
    }

    -- they are one of another size
    pub not_sized : (size : CutSize) → ((xs ys : List ℕ) → kept.AreNodesOf m (map stretch_of cut.runs) xs
        → kept.AreNodesOf m (map stretch_of cut.runs) ys → xs ≡ ys)
        → ((net : ℕ) (nodes : List ℕ) (a b : ℕ) → IsOutCount d m net nodes a → IsOutCount d m net nodes b → a ≡ b)
        → IsSized d m items own k (map stretch_of cut.runs) (Some size)
        → ((size.reached ≡ cut.reached) × (size.blocked ≡ cut.blocked) → ⊥) → IsKeptFalse d m items own k cut
    not_sized size one_list one_count sized other = record {
      each = λ island told at by t.
          let shut = sized.at island at in
          let low = set_few d items island (remove own k) shut.nodes shut.set in
          let same : t.nodes ≡ shut.nodes =
          one_list t.nodes shut.nodes
          (subst (λ (ss : List Stretch). kept.AreNodesOf m ss t.nodes) (sym (ap (map stretch_of) by.runs))
          (nodes_kept told.runs t.nodes t.nodes_are)) shut.nodes_are in
          let count : t.count ≡ size.blocked =
          one_count island.net shut.nodes t.count size.blocked
          (subst (λ (ns : List ℕ). IsOutCount d m island.net ns t.count) same t.out) shut.blocked in
          let reached_is : value told.reached ≡ length shut.nodes =
          ap value (t.reached ∙ ap (λ (ns : List ℕ). decimal (length ns)) same)
          ∙ value_wide (length shut.nodes) (omega (arith, low)) in
          let blocked_is : value told.blocked ≡ size.blocked =
          ap value (t.blocked ∙ ap decimal count) ∙ value_wide size.blocked (let f = shut.few in omega (arith, f)) in
          let reached : size.reached ≡ cut.reached =
          let a = by.reached in
          let b = shut.reached in
          omega (arith, a, b, reached_is, low) in
          let blocked : size.blocked ≡ cut.blocked =
          let a = by.blocked in
          let b = shut.few in
          omega (arith, a, b, blocked_is) in
          other (reached, blocked);
    }
