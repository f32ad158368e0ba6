-- The whole: a session and a report that were written are judged right.
use Rattle.std.proofs.Common.{◌≡◌, ◌⊎◌, inl, inr, ℕ, suc, ◌+◌, ◌<◌, ◌≤◌, ◌^◌, Bool, true, false, cond}
use Rattle.std.proofs.Common.{List, [], ◌∷◌, Option}
use Rattle.std.proofs.Common.{Some, refl, sym, ap, ◌∙◌, subst, arith, All, length, map, filter}
use Rattle.std.proofs.Common.{get_or}
use Rattle.std.specs.Prelude.{Contains, IfSome, decimal, is_some, slice_get}
use Rattle.std.specs.List.{AllZip}
use Rattle.std.proofs.lemmas.List.{length-map}
use Rattle.std.proofs.lemmas.List.Elements.{All-nil, All-cons, All-head, All-tail}
use Rattle.std.proofs.lemmas.List.Elements.{All-contains_itself, All-filter}
use Rattle.pcb_model.specs.declared.item.Item.{Item}
use Rattle.pcb_model.specs.declared.item.Kind.{Kind}
use Rattle.pcb_model.specs.declared.design.Net.{Net}
use Rattle.pcb_model.specs.declared.design.Design.{Design}
use Rattle.pcb_model.specs.Pairs.{Agrees, AreTouching}
use Rattle.pcb_model.specs.Board.{IsLegal, IsRouted}
use Rattle.pcb_model.specs.Copper.{Ascends}
use Rattle.pcb_model.specs.Sound.{Serves}
use Rattle.pcb_islands.specs.declared.net.Island.{Island}
use Rattle.pcb_islands.specs.Islands.{AreIslands}
use Rattle.pcb_islands.proofs.Joined.{read_at}
use Rattle.pcb_islands.proofs.Touches.{below_or_same}
use Rattle.route_lattice.specs.Mesh.{Mesh, node_count, level, row, column}
use Rattle.route_lattice.specs.Whole.{lattice_of}
use Rattle.route_lattice.specs.declared.limits.TheConstants.{MOST_NODES}
use Rattle.cut_certificate.specs.declared.cut.Cut.{Cut}
use Rattle.copper_alike.proofs.Legal.{all_legal}
use Rattle.route_run.specs.declared.facts.Facts.{Facts}
use Rattle.route_run.specs.declared.facts.PassLine.{PassLine}
use Rattle.ses_reader.specs.declared.item.SesItem.{SesItem}
use Rattle.told_words.specs.PinNames.{pin_name}
use Rattle.route_report.specs.Report.{cuts_of, numbered_cuts, report_of, is_named, is_of_net, goes_on, wide_at}
use Rattle.route_check.specs.Board.{board_of}
use Rattle.report_form.specs.Form.{NetTold, IsNetTold, IsCutTold, AreCutsTold}
use Rattle.report_form.specs.Form.{IsNumber, IsRun, IsPassTold}
use Rattle.report_form.specs.Form.{IsTold, value}
use Rattle.copper_check.specs.Checks.{AreAllIslands}
use Rattle.route_check.specs.Judged.{first_name, first_names, IsLineTrue, AreCutsTrue}
use Rattle.route_check.specs.Judged.{IsRight, IsRead}
use Rattle.check_law.specs.Written.{AreFewEach, IsSmallCut, IsWritten}
use Rattle.report_form.proofs.Numbers.{number_of, value_of}
use Rattle.check_law.proofs.Numbered.{own_cut, own_cuts_are, tell_alike, wide_number, wide_small}
use Rattle.check_law.proofs.Numbered.{as_many as numbered_many}
use Rattle.check_law.proofs.Printed.{cut_told, net_told, nets_from, item_told, numbered_told, run_told, runs_from}
use Rattle.check_law.proofs.Printed.{runs_of}
use Rattle.check_law.proofs.Printed.{pass_told, told_of, report_text}
use Rattle.check_law.proofs.Stretching.{below_all}
use Rattle.route_check.proofs.Boards.{fixed_stay}
use Rattle.check_law.proofs.Alike.{routed_twin, same_copper}
use Rattle.check_law.proofs.Written.{own_name, line_true, cuts_true, one_length, named}

run_numbers : (m : Mesh) (first last : ℕ) → first < 2 ^ 64 → last < 2 ^ 64 → IsRun (run_told m first last)
run_numbers m first last p q =
    let f = below_all m first in
    let l = below_all m last in
    record {
      level = number_of (level m first) (omega (arith, f.0));
      row = number_of (row m first) (omega (arith, f.1));
      first = number_of (column m first) (omega (arith, f.2));
      last = number_of (column m last) (omega (arith, l.2));
    }

runs_numbers : (m : Mesh) (first last : ℕ) (nodes : List ℕ) → first < 2 ^ 64 → last < 2 ^ 64
    → All (λ n. n < 2 ^ 64) nodes → All IsRun (runs_from m first last nodes)
runs_numbers m first last [] p q h =
    All-cons IsRun (run_told m first last) [] (run_numbers m first last p q) (All-nil IsRun)
runs_numbers m first last (node ∷ nodes) p q h =
    let here = All-head (λ n. n < 2 ^ 64) node nodes h in
    let rest = All-tail (λ n. n < 2 ^ 64) node nodes h in
    by (goes_on m last node) (runs_numbers m first node nodes p here rest)
    (runs_numbers m node node nodes here here rest)
  where
    by : (b : Bool) → All IsRun (runs_from m first node nodes) → All IsRun (runs_from m node node nodes)
        → All IsRun (cond b (runs_from m first node nodes) (run_told m first last ∷ runs_from m node node nodes))
    by true f g = f
    by false f g = All-cons IsRun (run_told m first last) (runs_from m node node nodes)
        (run_numbers m first last p q) g

cut_numbers : (m : Mesh) (nodes : List ℕ) → All (λ n. n < 2 ^ 64) nodes → All IsRun (runs_of m nodes)
cut_numbers m [] h = All-nil IsRun
cut_numbers m (node ∷ nodes) h =
    let here = All-head (λ n. n < 2 ^ 64) node nodes h in
    runs_numbers m node node nodes here here (All-tail (λ n. n < 2 ^ 64) node nodes h)

by_numbers : (items : List Item) → All (λ (a : Item). a.id < 2 ^ 64) items
    → All (λ (b : Kind × List ℕ). IsNumber b.1) (map item_told items)
by_numbers [] h = All-nil (λ (b : Kind × List ℕ). IsNumber b.1)
by_numbers (a ∷ items) h =
    All-cons (λ (b : Kind × List ℕ). IsNumber b.1) (item_told a) (map item_told items)
    (number_of a.id (All-head (λ (x : Item). x.id < 2 ^ 64) a items h))
    (by_numbers items (All-tail (λ (x : Item). x.id < 2 ^ 64) a items h))

module _ (d : Design) (m : Mesh) (items : List Item) (ids : All (λ (a : Item). a.id < 2 ^ 64) items) where
  one_cut : (t : Island) (wide : Option ℕ) (cut : Cut) → IfSome wide (λ n. n < 2 ^ 64) → IsSmallCut cut
      → pin_name d cut.pin ≡ first_name d t → IsCutTold (Some (first_name d t)) (cut_told d m items wide cut)
  one_cut t wide cut few small named = record {
    pin = own_name (first_name d t) (pin_name d cut.pin) named;
    reached = number_of (length cut.reach.nodes) small.reached;
    blocked = number_of (length cut.blocked) small.blocked;
    by_items = by_numbers (filter (λ (a : Item). is_named cut.blocked a.id) items)
        (All-filter (λ (a : Item). is_named cut.blocked a.id) (λ (a : Item). a.id < 2 ^ 64) items ids);
    runs = cut_numbers m cut.reach.nodes small.nodes;
    wide = wide_number wide few;
  }

  all_cuts : (facts : Facts) → AreFewEach facts.wide → (own : List Island) (cuts : List (ℕ × Cut))
      → length cuts ≤ length own → All IsSmallCut (map own_cut cuts)
      → ((k : ℕ) (t : Island) (cut : Cut) → slice_get own k ≡ Some t → slice_get (map own_cut cuts) k ≡ Some cut
      → pin_name d cut.pin ≡ first_name d t)
      → AreCutsTold (map (first_name d) own) (map (numbered_told d m items facts) cuts)
  all_cuts facts wide own [] few small named = tt
  all_cuts facts wide [] (cut ∷ cuts) few small named = absurd (omega arith)
  all_cuts facts wide (t ∷ own) (cut ∷ cuts) few small named = (
    one_cut t (wide_at facts.wide cut.0) cut.1 (wide_small facts.wide cut.0 wide)
        (All-head IsSmallCut cut.1 (map own_cut cuts) small) (named 0 t cut.1 refl refl),
    all_cuts facts wide own cuts (omega arith) (All-tail IsSmallCut cut.1 (map own_cut cuts) small)
        (λ k s c p q. named (suc k) s c p q),
  )

-- no element, no list
none_left : {X : Type 0} (xs : List X) → length xs ≡ 0 → xs ≡ []
none_left [] e = refl
none_left (x ∷ xs) e = absurd (omega (arith, e))

filtered_fewer : (p : Cut → Bool) (xs : List Cut) → length (filter p xs) ≤ length xs
filtered_fewer p [] = omega arith
filtered_fewer p (x ∷ xs) = by (p x) (filtered_fewer p xs)
  where
    by : (b : Bool) → length (filter p xs) ≤ length xs
        → length (cond b (x ∷ filter p xs) (filter p xs)) ≤ length (x ∷ xs)
    by true h = omega (arith, h)
    by false h = omega (arith, h)

module _ (touch_back : (a b : Item) → AreTouching a b → AreTouching b a)
    (agree_back : (d : Design) (a b : Item) → Agrees d a b → Agrees d b a) (d : Design) (items routed : List Item)
    (omit : Bool) (xs : List SesItem) (facts : Facts) (w : IsWritten d items routed omit xs facts)
    (rise : Ascends (board_of d xs)) (serve : Serves (board_of d xs) d) (found : List (List Island))
    (islands : AreAllIslands d (board_of d xs) found) where
  abbrev ys : List Item
  ys = board_of d xs

  abbrev m : Mesh
  m = lattice_of d facts.grid

  few : node_count m ≤ 2 ^ 24
  few = subst (λ (n : ℕ). n ≤ 2 ^ 24) w.nodes_are w.few

  -- ---- copper
  legal : IsLegal d ys
  legal = all_legal agree_back d items w.legal w.edges ys (routed_twin d items routed omit xs w.source)
      (fixed_stay d xs w.source.fixed)

  agrees : (a b : Item) (p : Contains ys a) (q : Contains ys b) → (b.id ≡ a.id → ⊥) → IsRouted a ⊎ IsRouted b
      → Agrees d a b
  agrees a b p q other one = elim (below_or_same p.0 q.0) [
    | inl less ↦ subst (λ (u : Item). Agrees d u b) (read_at ys a p b)
        (subst (λ (u : Item). Agrees d (get_or ys p.0 b) u) q.2
        (legal.agree p.0 q.0 b less q.1
        (subst (λ (u : Item). IsRouted u ⊎ IsRouted (get_or ys q.0 b)) (sym (read_at ys a p b))
        (subst (λ (u : Item). IsRouted a ⊎ IsRouted u) (sym q.2) one))))
    | inr n ↦ elim n [
      | inl more ↦ agree_back d b a (subst (λ (u : Item). Agrees d u a) (read_at ys b q a)
          (subst (λ (u : Item). Agrees d (get_or ys q.0 a) u) p.2
          (legal.agree q.0 p.0 a more p.1
          (subst (λ (u : Item). IsRouted u ⊎ IsRouted (get_or ys p.0 a)) (sym (read_at ys b q a))
          (subst (λ (u : Item). IsRouted b ⊎ IsRouted u) (sym p.2) (turned one))))))
      | inr same ↦
          absurd (other (ap (λ (x : Item). x.id)
          (sym (sym (read_at ys a p b) ∙ ap (λ k. get_or ys k b) same ∙ q.2))))
    ]
  ]
    where
      turned : (IsRouted a ⊎ IsRouted b) → IsRouted b ⊎ IsRouted a
      turned (inl x) = inr x
      turned (inr x) = inl x

  -- ---- the nets
  cuts_few : (net : ℕ) → length (cuts_of facts net) < 2 ^ 64
  cuts_few net = omega (
    arith,
    w.small.few_cuts,
    filtered_fewer (is_of_net net) facts.cuts,
  )

  net_told_well : (net : ℕ) → net < length d.nets → (own : List Island) → AreIslands d ys net own
      → IsNetTold (map (first_name d) own) (net_told d m items facts net)
  net_told_well net within own is =
      let e = w.ends net within in
      let same = same_copper d items routed omit xs w.source in
      let one =
      one_length touch_back agree_back d m net w.sound few items ys w.rise rise w.serve serve same facts e own
      is in
      let names =
      named touch_back agree_back d m net w.sound few items ys w.rise rise w.serve serve same facts e own is in
      record {
        counts = counts e.ends;
        cuts = subst (λ (cs : List Cut). length (numbered_cuts facts net) ≤ length own → All IsSmallCut cs
            → ((k : ℕ) (t : Island) (cut : Cut) → slice_get own k ≡ Some t → slice_get cs k ≡ Some cut
            → pin_name d cut.pin ≡ first_name d t)
            → AreCutsTold (map (first_name d) own)
            (map (numbered_told d m items facts) (numbered_cuts facts net)))
            (own_cuts_are facts net) (all_cuts d m items w.small.ids facts w.small.wide own (numbered_cuts facts net))
            (let fits = length_fits e.old own e.ends one in
            let many = numbered_many facts net in omega (arith, fits, many))
            (All-filter (is_of_net net) IsSmallCut facts.cuts w.small.cuts) names;
      }
    where
      many : length (map (numbered_told d m items facts) (numbered_cuts facts net)) ≡ length (cuts_of facts net)
      many = length-map (numbered_cuts facts net) (numbered_told d m items facts) ∙ numbered_many facts net

      counts : {n : ℕ} → (((cuts_of facts net ≡ []) × (n ≤ 1)) ⊎ ((2 ≤ n) × (length (cuts_of facts net) ≡ n)))
          → ((map (numbered_told d m items facts) (numbered_cuts facts net) ≡ [])
          × (decimal (length (cuts_of facts net)) ≡ decimal 0))
          ⊎ ((2 ≤ length (map (numbered_told d m items facts) (numbered_cuts facts net)))
          × IsNumber (decimal (length (cuts_of facts net)))
          × (value (decimal (length (cuts_of facts net)))
          ≡ length (map (numbered_told d m items facts) (numbered_cuts facts net))))
      counts (inl h) = inl (
        none_left (map (numbered_told d m items facts) (numbered_cuts facts net)) (many ∙ ap length h.0),
        ap (λ (cs : List Cut). decimal (length cs)) h.0,
      )
      counts (inr h) = inr (
        omega (arith, h.0, h.1, many),
        number_of (length (cuts_of facts net)) (cuts_few net),
        value_of (length (cuts_of facts net)) (cuts_few net) ∙ sym many,
      )

      length_fits : (old own : List Island)
          → (((cuts_of facts net ≡ []) × (length old ≤ 1))
          ⊎ ((2 ≤ length old) × (length (cuts_of facts net) ≡ length old)))
          → length old ≡ length own → length (cuts_of facts net) ≤ length own
      length_fits old own (inl h) e = let none : length (cuts_of facts net) ≡ 0 = ap length h.0 in omega (arith, none)
      length_fits old own (inr h) e = omega (arith, h.1, e)

  -- of all nets, what holds of each
  each_net : (R : List Island → NetTold → Type 0) → ((net : ℕ) → net < length d.nets → (own : List Island)
      → AreIslands d ys net own → R own (net_told d m items facts net)) → (i : ℕ) (nets : List Net)
      (fs : List (List Island)) → length fs ≡ length nets → i + length nets ≡ length d.nets
      → ((k : ℕ) (own : List Island) → slice_get fs k ≡ Some own → AreIslands d ys (i + k) own)
      → AllZip R fs (nets_from d m items facts i nets)
  each_net R h i [] [] e f g = tt
  each_net R h i [] (own ∷ fs) e f g = absurd (omega arith)
  each_net R h i (net ∷ nets) [] e f g = absurd (omega arith)
  each_net R h i (net ∷ nets) (own ∷ fs) e f g = (
    h i (omega arith) own (subst (λ (n : ℕ). AreIslands d ys n own) (plain i) (g 0 own refl)),
    each_net R h (i + 1) nets fs (omega arith) (omega arith)
        (λ k os p. subst (λ (n : ℕ). AreIslands d ys n os) (moved i k) (g (suc k) os p)),
  )
    where
      plain : (i : ℕ) → i + 0 ≡ i
      plain i = omega arith

      moved : (i k : ℕ) → i + suc k ≡ i + 1 + k
      moved i k = omega arith

  all_nets : (R : List Island → NetTold → Type 0) → ((net : ℕ) → net < length d.nets → (own : List Island)
      → AreIslands d ys net own → R own (net_told d m items facts net))
      → AllZip R found (nets_from d m items facts 0 d.nets)
  all_nets R h = each_net R h 0 d.nets found islands.all (omega arith)
      (λ k own p. subst (λ (n : ℕ). AreIslands d ys n own) (plain k) (islands.each k own p))
    where
      plain : (k : ℕ) → k ≡ 0 + k
      plain k = omega arith

  -- ---- the report
  zip_map : {A B C : Type 0} (f : A → B) (R : B → C → Type 0) (us : List A) (cs : List C)
      → AllZip (λ (a : A) (c : C). R (f a) c) us cs → AllZip R (map f us) cs
  zip_map f R [] [] h = tt
  zip_map f R [] (c ∷ cs) h = absurd h
  zip_map f R (a ∷ us) [] h = absurd h
  zip_map f R (a ∷ us) (c ∷ cs) h = (h.0, zip_map f R us cs h.1)

  places_told : (ps : List ℕ) → All (λ n. n < 2 ^ 64) ps → All IsNumber (map decimal ps)
  places_told [] h = All-nil IsNumber
  places_told (p ∷ ps) h = All-cons IsNumber (decimal p) (map decimal ps)
      (number_of p (All-head (λ n. n < 2 ^ 64) p ps h)) (places_told ps (All-tail (λ n. n < 2 ^ 64) p ps h))

  passes_told : (ps : List PassLine) → All (λ (p : PassLine). (p.commits < 2 ^ 64) × (p.parted < 2 ^ 64)) ps
      → All IsPassTold (map pass_told ps)
  passes_told [] h = All-nil IsPassTold
  passes_told (p ∷ ps) h =
      let Q : PassLine → Type 0 = λ q. (q.commits < 2 ^ 64) × (q.parted < 2 ^ 64) in
      let here = All-head Q p ps h in
      All-cons IsPassTold (pass_told p) (map pass_told ps)
      (record { commits = number_of p.commits here.0; parted = number_of p.parted here.1 })
      (passes_told ps (All-tail Q p ps h))

  nets_many : (i : ℕ) (nets : List Net) → length (nets_from d m items facts i nets) ≡ length nets
  nets_many i [] = refl
  nets_many i (net ∷ nets) = let h = nets_many (i + 1) nets in omega (arith, h)

  grid_small : facts.grid < 2 ^ 64
  grid_small = omega (arith, w.grid_to)

  nodes_small : facts.nodes < 2 ^ 64
  nodes_small = omega (arith, w.few)

  is_told : IsTold d (first_names d found) (told_of d m items facts)
  is_told = record {
    grid = number_of facts.grid grid_small;
    grid_from = subst (λ (n : ℕ). 1000 ≤ n) (sym (value_of facts.grid grid_small)) w.grid_from;
    grid_to = subst (λ (n : ℕ). n ≤ 409600000) (sym (value_of facts.grid grid_small)) w.grid_to;
    nodes = number_of facts.nodes nodes_small;
    dropped = number_of (length facts.dropped) w.small.dropped;
    drops = value_of (length facts.dropped) w.small.dropped ∙ sym (length-map facts.dropped decimal);
    places = places_told facts.dropped w.small.places;
    notes = number_of d.notes w.small.notes;
    some_pass = omega (arith, w.some_pass, length-map facts.passes pass_told);
    passes = passes_told facts.passes w.small.passes;
    kept = number_of facts.kept w.small.kept;
    joins = number_of facts.joins w.small.joins;
    all_nets = nets_many 0 d.nets;
    nets = zip_map (map (first_name d)) IsNetTold found (nets_from d m items facts 0 d.nets)
        (all_nets (λ (own : List Island) (n : NetTold). IsNetTold (map (first_name d) own) n) net_told_well);
    alike = record { wide = is_some facts.wide; each = tell_alike d m items facts w.sizes 0 d.nets };
  }

  same_mesh : lattice_of d (value (decimal facts.grid)) ≡ m
  same_mesh = ap (lattice_of d) (value_of facts.grid grid_small)

  is_read : IsRead (record { design = d; items = ys; found = found; report = report_of d m items facts false })
      (told_of d m items facts)
  is_read = record {
    report = (
      record { told = is_told; nodes_true = ap decimal (w.nodes_are ∙ ap node_count (sym same_mesh)) },
      record { is = sym (report_text d m items facts) },
    );
    few = subst (λ (n : ℕ). n ≤ MOST_NODES) (w.nodes_are ∙ ap node_count (sym same_mesh)) w.few;
  }

  -- ---- the whole
  pub written_is_right : IsRight (record {
    design = d;
    items = ys;
    found = found;
    report = report_of d m items facts false;
  })
  written_is_right = record {
    told = told_of d m items facts;
    read = is_read;
    legal = record {
      agree = λ i x lt. record {
        each = λ b q other one. agrees (get_or ys i x) b (All-contains_itself ys i x lt) q other one;
      };
      inside = legal.inside;
      laid = legal.laid;
    };
    lines = all_nets IsLineTrue (λ net within own is.
        line_true touch_back agree_back d m net w.sound few items ys w.rise rise w.serve serve
        (same_copper d items routed omit xs w.source) facts (w.ends net within) own is);
    cuts = subst (λ (n : Mesh). AllZip (AreCutsTrue d n ys) found (nets_from d m items facts 0 d.nets))
        (sym same_mesh)
        (all_nets (AreCutsTrue d m ys) (λ net within own is.
        cuts_true touch_back agree_back d m net w.sound few items ys w.rise rise w.serve serve
        (same_copper d items routed omit xs w.source) facts (w.ends net within) own is));
  }
