-- The stretches of a cut's nodes give back the nodes.
use Rattle.std.proofs.Common.{◌≡◌, ◌⊎◌, inl, inr, ℕ, zero, suc, ◌+◌, ◌-◌, ◌*◌, ◌/◌, ◌%◌, ◌^◌, ◌<◌, ◌≤◌, ◌==◌}
use Rattle.std.proofs.Common.{not, Bool, true, false}
use Rattle.std.proofs.Common.{true≢false, List, [], ◌∷◌, refl, sym, ap, ap₂, ◌∙◌, subst, arith, All, length}
use Rattle.std.proofs.Common.{eqb-true, get_or}
use Rattle.std.specs.Prelude.{Contains, decimal, if◌then◌else◌}
use Rattle.std.specs.List.Sorted.{IsStrictlyIncreasing}
use Rattle.std.proofs.lemmas.Bool.{and_parts, cases_lt}
use Rattle.std.proofs.Math.Nat.{div-le_self}
use Rattle.std.proofs.lemmas.Nat.{div-add-mod', mod-mul-add, mod_below}
use Rattle.std.proofs.lemmas.List.Elements.{All-nil, All-head, All-tail, All-contains_itself}
use Rattle.pcb_islands.proofs.Elements.{in_none, in_here, in_later, in_cons}
use Rattle.route_lattice.specs.Mesh.{Mesh, column, row, level, node_count}
use Rattle.route_lattice.proofs.Places.{back, left, width_positive, level_below, row_below}
use Rattle.route_report.specs.Report.{goes_on}
use Rattle.report_form.specs.Form.{RunTold, value}
use Rattle.route_check.specs.Judged.{IsOfRun, AreNodesOf}
use Rattle.report_form.proofs.Numbers.{value_of}
use Rattle.check_law.proofs.Printed.{run_told, runs_from, runs_of}

module _ (m : Mesh) where
  -- where the row of a node begins
  abbrev pub base : ℕ → ℕ
  base v = (level m v * length m.ys + row m v) * length m.xs

  stands : (v : ℕ) → base v + column m v ≡ v
  stands v = back (length m.xs) (length m.ys) v

  -- the last node is of the row of the first, and not before it
  pub record IsRow (first last : ℕ) : Type 0 where
    pub one_row : base first + column m last ≡ last
    pub order : column m first ≤ column m last

  alone : (v : ℕ) → IsRow v v
  alone v = record { one_row = stands v; order = omega arith }

  -- the next node of the row
  next_column : (last node : ℕ) → 0 < length m.xs → node ≡ last + 1 → 0 < column m node
      → column m last + 1 ≡ column m node
  next_column last node some is positive =
      let below : column m node < length m.xs = mod_below node (length m.xs) some in
      let before : base node + (column m node - 1) ≡ node - 1 = left (length m.xs) (length m.ys) node positive in
      let same : base node + (column m node - 1) ≡ last = omega (arith, before, is) in
      let rest : (base node + (column m node - 1)) % length m.xs ≡ column m node - 1 =
      mod-mul-add (level m node * length m.ys + row m node) (length m.xs) (column m node - 1) (omega arith) in
      let one : column m last ≡ column m node - 1 = ap (λ (v : ℕ). v % length m.xs) (sym same) ∙ rest in
      omega arith

  goes_further : (first last node : ℕ) → 0 < length m.xs → IsRow first last → goes_on m last node ≡ true
      → IsRow first node
  goes_further first last node some r e =
      let both = and_parts (node == last + 1) (not (column m node == 0)) e in
      let is : node ≡ last + 1 = eqb-true node (last + 1) both.0 in
      let positive : 0 < column m node = above_zero (column m node) both.1 in
      let c = next_column last node some is positive in
      record { one_row = omega (arith, r.one_row, c, is); order = omega (arith, r.order, c) }
    where
      above_zero : (n : ℕ) → not (n == 0) ≡ true → 0 < n
      above_zero zero h = absurd (true≢false (sym h))
      above_zero (suc n) h = omega arith

  goes_next : (last node : ℕ) → goes_on m last node ≡ true → node ≡ last + 1
  goes_next last node e = eqb-true node (last + 1) (and_parts (node == last + 1) (not (column m node == 0)) e).0

  -- ---- the nodes of a stretch
  pub record Holds (r : RunTold) (v : ℕ) : Type 0 where
    pub first : ℕ
    pub last : ℕ
    pub is_row : IsRow first last
    pub within : last < node_count m
    pub told : r ≡ run_told m first last
    pub from : first ≤ v
    pub to : v ≤ last

  module _ (some : 0 < length m.xs) where
    -- each node from the first to the last of a stretch, and each node that follows, is in some stretch
    pub held : (first last : ℕ) (nodes : List ℕ) → IsRow first last → last < node_count m
        → All (λ (v : ℕ). v < node_count m) nodes → (v : ℕ) → (((first ≤ v) × (v ≤ last)) ⊎ Contains nodes v)
        → (r : RunTold) × Contains (runs_from m first last nodes) r × Holds r v
    held first last [] row within all v (inl p) = (
      run_told m first last,
      in_here (run_told m first last) [],
      record { first = first; last = last; is_row = row; within = within; told = refl; from = p.0; to = p.1 },
    )
    held first last [] row within all v (inr h) = absurd (in_none v h)
    held first last (node ∷ nodes) row within all v where_is =
        let there = All-head (λ (x : ℕ). x < node_count m) node nodes all in
        let rest = All-tail (λ (x : ℕ). x < node_count m) node nodes all in
        by (goes_on m last node) refl (λ e.
        held first node nodes (goes_further first last node some row e) there rest v)
        (held node node nodes (alone node) there rest v)
      where
        by : (b : Bool) → goes_on m last node ≡ b
            → (goes_on m last node ≡ true → (((first ≤ v) × (v ≤ node)) ⊎ Contains nodes v)
            → (r : RunTold) × Contains (runs_from m first node nodes) r × Holds r v)
            → ((((node ≤ v) × (v ≤ node)) ⊎ Contains nodes v)
            → (r : RunTold) × Contains (runs_from m node node nodes) r × Holds r v)
            → (r : RunTold) × Contains (if b then runs_from m first node nodes
            else run_told m first last ∷ runs_from m node node nodes) r × Holds r v
        by true e f g = f e (more where_is)
          where
            more : (((first ≤ v) × (v ≤ last)) ⊎ Contains (node ∷ nodes) v)
                → ((first ≤ v) × (v ≤ node)) ⊎ Contains nodes v
            more (inl p) = inl (p.0, omega (arith, p.1, goes_next last node e))
            more (inr h) = elim (in_cons node v nodes h) [
              | inl same ↦ inl (
                omega (arith, same, goes_next last node e, row.order, row.one_row, stands first),
                omega (arith, same),
              )
              | inr k ↦ inr k
            ]
        by false e f g = pick where_is
          where
            later : ((r : RunTold) × Contains (runs_from m node node nodes) r × Holds r v)
                → (r : RunTold) × Contains (run_told m first last ∷ runs_from m node node nodes) r × Holds r v
            later (r, k, h) = (r, in_later (run_told m first last) r (runs_from m node node nodes) k, h)

            pick : (((first ≤ v) × (v ≤ last)) ⊎ Contains (node ∷ nodes) v)
                → (r : RunTold) × Contains (run_told m first last ∷ runs_from m node node nodes) r × Holds r v
            pick (inl p) = (
              run_told m first last,
              in_here (run_told m first last) (runs_from m node node nodes),
              record {
                first = first;
                last = last;
                is_row = row;
                within = within;
                told = refl;
                from = p.0;
                to = p.1;
              },
            )
            pick (inr h) = elim (in_cons node v nodes h) [
              | inl same ↦ later (g (inl (omega (arith, same), omega (arith, same))))
              | inr k ↦ later (g (inr k))
            ]

    -- and what is in a stretch is one of these
    pub only : (P : ℕ → Type 0) (first last : ℕ) (nodes : List ℕ) → IsRow first last → last < node_count m
        → All (λ (v : ℕ). v < node_count m) nodes → ((v : ℕ) → first ≤ v → v ≤ last → P v)
        → ((v : ℕ) → Contains nodes v → P v) → (r : RunTold) → Contains (runs_from m first last nodes) r
        → (f : ℕ) × (l : ℕ) × IsRow f l × (l < node_count m) × (r ≡ run_told m f l)
        × ((v : ℕ) → f ≤ v → v ≤ l → P v)
    only P first last [] row within all p q r h = elim (in_cons (run_told m first last) r [] h) [
      | inl same ↦ (first, last, row, within, sym same, p)
      | inr none ↦ absurd (in_none r none)
    ]
    only P first last (node ∷ nodes) row within all p q r h =
        let there = All-head (λ (x : ℕ). x < node_count m) node nodes all in
        let rest = All-tail (λ (x : ℕ). x < node_count m) node nodes all in
        by (goes_on m last node) refl
        (λ e. only P first node nodes (goes_further first last node some row e) there rest
        (λ v a b. elim (cases_lt last v) [
          | inl above ↦
              let one : node ≡ v = omega (arith, goes_next last node e) in
              subst P one (q node (in_here node nodes))
          | inr below ↦ p v a below
        ]) (λ v k. q v (in_later node v nodes k)) r)
        (only P node node nodes (alone node) there rest
        (λ v a b. let one : node ≡ v = omega arith in subst P one (q node (in_here node nodes)))
        (λ v k. q v (in_later node v nodes k)) r) h
      where
        abbrev_result : Type 0
        abbrev_result = (f : ℕ) × (l : ℕ) × IsRow f l × (l < node_count m) × (r ≡ run_told m f l)
            × ((v : ℕ) → f ≤ v → v ≤ l → P v)

        by : (b : Bool) → goes_on m last node ≡ b
            → (goes_on m last node ≡ true → Contains (runs_from m first node nodes) r → abbrev_result)
            → (Contains (runs_from m node node nodes) r → abbrev_result)
            → Contains (if b then runs_from m first node nodes
            else run_told m first last ∷ runs_from m node node nodes) r → abbrev_result
        by true e f g k = f e k
        by false e f g k = elim (in_cons (run_told m first last) r (runs_from m node node nodes) k) [
          | inl same ↦ (first, last, row, within, sym same, p)
          | inr more ↦ g more
        ]

  -- ---- as they are told
  pub below_all : (v : ℕ) → level m v ≤ v × (row m v ≤ v) × (column m v ≤ v)
  below_all v =
      let e = stands v in
      let w = div-le_self v (length m.xs) in
      let h = div-le_self (v / length m.xs) (length m.ys) in
      let r = div-add-mod' (v / length m.xs) (length m.ys) in
      (omega (arith, w, h), omega (arith, w, r), omega (arith, e))

  module _ (few : node_count m ≤ 2 ^ 24) where
    small : (v k : ℕ) → k ≤ v → v < node_count m → value (decimal k) ≡ k
    small v k h l = value_of k (omega arith)

    as_told : (r : RunTold) (v : ℕ) → Holds r v → IsOfRun m r v
    as_told r v h = subst (λ (x : RunTold). IsOfRun m x v) (sym h.told) (record {
      level_there = subst (λ (n : ℕ). n < length m.layers)
          (sym (small h.first (level m h.first) (below_all h.first).0 f_in))
          (level_below (length m.xs) (length m.ys) (length m.layers) h.first f_in);
      row_there = subst (λ (n : ℕ). n < length m.ys) (sym (small h.first (row m h.first) (below_all h.first).1 f_in))
          (row_below (length m.xs) (length m.ys) (length m.layers) h.first f_in);
      column = v - base h.first;
      from = subst (λ (n : ℕ). n ≤ v - base h.first)
          (sym (small h.first (column m h.first) (below_all h.first).2 f_in))
          (omega (arith, h.from, stands h.first));
      to = subst (λ (n : ℕ). v - base h.first ≤ n)
          (sym (small h.last (column m h.last) (below_all h.last).2 h.within))
          (omega (arith, h.to, h.is_row.one_row));
      there = subst (λ (n : ℕ). n < length m.xs) (sym (small h.last (column m h.last) (below_all h.last).2 h.within))
          (mod_below h.last (length m.xs)
          (width_positive (length m.xs) (length m.layers * length m.ys) h.last h.within));
      is = sym (ap₂ (λ (a b : ℕ). (a * length m.ys + b) * length m.xs + (v - base h.first))
          (small h.first (level m h.first) (below_all h.first).0 f_in)
          (small h.first (row m h.first) (below_all h.first).1 f_in)
          ∙ again (base h.first) v (omega (arith, h.from, stands h.first)));
    })
      where
        f_in : h.first < node_count m
        f_in = omega (arith, h.from, h.to, h.within, h.is_row.order, h.is_row.one_row, stands h.first)

        again : (b v : ℕ) → b ≤ v → b + (v - b) ≡ v
        again b v h = omega arith

    -- what is told lies between the ends
    between : (r : RunTold) (f l v : ℕ) → IsRow f l → l < node_count m → r ≡ run_told m f l → IsOfRun m r v
        → (f ≤ v) × (v ≤ l)
    between r f l v line l_in told h =
        let x = subst (λ (y : RunTold). IsOfRun m y v) told h in
        let f_in : f < node_count m = omega (arith, l_in, line.order, line.one_row, stands f) in
        let c_from : column m f ≤ x.column =
        subst (λ (n : ℕ). n ≤ x.column) (small f (column m f) (below_all f).2 f_in) x.from in
        let c_to : x.column ≤ column m l =
        subst (λ (n : ℕ). x.column ≤ n) (small l (column m l) (below_all l).2 l_in) x.to in
        let is : v ≡ base f + x.column =
        x.is ∙ ap₂ (λ (a b : ℕ). (a * length m.ys + b) * length m.xs + x.column)
        (small f (level m f) (below_all f).0 f_in) (small f (row m f) (below_all f).1 f_in) in
        (omega (arith, is, c_from, stands f), omega (arith, is, c_to, line.one_row))

    -- the stretches of nodes that ascend give back the nodes
    pub runs_back : (nodes : List ℕ) → IsStrictlyIncreasing nodes → All (λ (v : ℕ). v < node_count m) nodes
        → AreNodesOf m (runs_of m nodes) nodes
    runs_back [] up there = record {
      on_lattice = All-nil (λ (r : RunTold). (node : ℕ) × IsOfRun m r node);
      ascends = up;
      only = All-nil (λ node. (r : RunTold) × Contains [] r × IsOfRun m r node);
      all = λ r node h. absurd (in_none r h);
    }
    runs_back (node ∷ nodes) up there =
        let P : ℕ → Type 0 = λ v. Contains (node ∷ nodes) v in
        let here : node < node_count m = All-head (λ (v : ℕ). v < node_count m) node nodes there in
        let rest = All-tail (λ (v : ℕ). v < node_count m) node nodes there in
        let some : 0 < length m.xs = width_positive (length m.xs) (length m.layers * length m.ys) node here in
        let each : (r : RunTold) → Contains (runs_of m (node ∷ nodes)) r
        → (f : ℕ) × (l : ℕ) × IsRow f l × (l < node_count m) × (r ≡ run_told m f l)
        × ((v : ℕ) → f ≤ v → v ≤ l → P v) =
        λ r h. only some P node node nodes (alone node) here rest
        (λ v a b. let one : node ≡ v = omega arith in subst P one (in_here node nodes))
        (λ v k. in_later node v nodes k) r h in
        record {
          on_lattice = λ i d lt.
              let r = get_or (runs_of m (node ∷ nodes)) i d in
              let e = each r (All-contains_itself (runs_of m (node ∷ nodes)) i d lt) in (
                e.0,
                as_told r e.0 (record {
                  first = e.0;
                  last = e.1;
                  is_row = e.2;
                  within = e.3;
                  told = e.4;
                  from = omega arith;
                  to = omega (arith, e.2.order, e.2.one_row, stands e.0);
                }),
              );
          ascends = up;
          only = λ i d lt.
              let v = get_or (node ∷ nodes) i d in
              let h = held some node node nodes (alone node) here rest v
              (first_or_later v (All-contains_itself (node ∷ nodes) i d lt)) in
              (h.0, h.1, as_told h.0 v h.2);
          all = λ r v h k.
              let e = each r h in
              let b = between r e.0 e.1 v e.2 e.3 e.4 k in
              e.5 v b.0 b.1;
        }
      where
        first_or_later : (v : ℕ) → Contains (node ∷ nodes) v → ((node ≤ v) × (v ≤ node)) ⊎ Contains nodes v
        first_or_later v h = elim (in_cons node v nodes h) [
          | inl same ↦ inl (omega (arith, same), omega (arith, same))
          | inr more ↦ inr more
        ]
