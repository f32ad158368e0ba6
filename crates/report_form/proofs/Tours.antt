-- The lines of a report lead from the first state to the last.
use Rattle.std.proofs.Common.{◌≡◌, ◌⊎◌, inl, inr, ℕ, zero, suc, ◌+◌, ◌<◌, ◌≤◌, Bool, true, false, List, [], ◌∷◌, ◌++◌}
use Rattle.std.proofs.Common.{length, drop, refl, sym, ap, ◌∙◌, subst, arith, All, flat_map, Some, None, Option}
use Rattle.std.specs.Prelude.{IfSome, codes, decimal, is_some, slice_get}
use Rattle.std.specs.List.{AllZip}
use Rattle.std.proofs.lemmas.List.{append_assoc, append-nil, length_push, length-append}
use Rattle.std.proofs.lemmas.List.Elements.{All-append, All-head, All-tail}
use Rattle.pcb_model.specs.declared.item.Kind.{Kind}
use Rattle.pcb_model.specs.declared.design.Net.{Net}
use Rattle.ses_writer.specs.Words.{spelled}
use Rattle.report_form.specs.Form.{Told, NetTold, CutTold, RunTold, PassTold, IsNumber, IsRun, IsCutTold, AreCutsTold}
use Rattle.report_form.specs.Form.{IsNetTold, IsPassTold, IsTold, value, line, by_lines, outside_lines}
use Rattle.report_form.specs.Form.{run_lines, wide_lines, cut_line, cut_lines, net_line, net_lines, nets_lines}
use Rattle.report_form.specs.Form.{cuts_in, tells_wide}
use Rattle.report_form.specs.Form.{pass_lines, place_lines, total_line, lines, head_lines, pass_part}
use Rattle.report_form.specs.inner.State.{Page, State, Start, Named, Sized, Gridded, Dropping, Passing, Joining}
use Rattle.report_form.specs.inner.State.{Netting}
use Rattle.report_form.specs.inner.State.{Opened, Parts, Ended, GridStep, DroppedStep}
use Rattle.report_form.specs.inner.State.{NetStep, CutStep}
use Rattle.report_form.specs.inner.State.{Next, Path, gridded}
use Rattle.report_form.specs.inner.State.{whole, MayTell}
use Rattle.report_form.specs.inner.State.{opened, bare, name_after, name_of, firsts_after, own_firsts, grid_line}
use Rattle.report_form.proofs.Agree.{open_words}
use Rattle.report_form.proofs.SoFar.{path_append}
use Rattle.report_form.proofs.Alike.{Tells, all_left, all_right, like_cut, tell_before, tell_here}

-- ---- states from which the same lines come
-- those behind these nets
pub record LeadsNets (p : Page) (h : Told) (ns : List NetTold) (s : State) : Type 0 where
  pub all : (l : List ℕ) (t : State) → NetStep p h ns l t → Next p s l t

-- those of a cut behind these cuts
pub record LeadsCut (p : Page) (h : Told) (ns : List NetTold) (islands : List ℕ) (cs : List CutTold) (s : State) :
    Type 0 where
  pub all : (l : List ℕ) (t : State) → CutStep p h ns islands cs l t → Next p s l t

-- ---- lists of lines
places_tour : (p : Page) (h : Told) (done ps : List (List ℕ)) → All IsNumber ps
    → length done + length ps ≤ value h.dropped
    → Path p (Dropping h done) (place_lines ps) (Dropping h (done ++ ps))
places_tour p h done [] all less = ap (Dropping h) (sym (append-nil done))
places_tour p h done (x ∷ ps) all less = (
  Dropping h (done ++ x ∷ []),
  inl (record {
    more = omega (arith, less);
    place = x;
    number = All-head IsNumber x ps all;
    is = refl;
    to = refl;
  }),
  subst (λ (z : List (List ℕ)). Path p (Dropping h (done ++ x ∷ [])) (place_lines ps) (Dropping h z))
      (append_assoc done (x ∷ []) ps)
      (places_tour p h (done ++ x ∷ []) ps (All-tail IsNumber x ps all) (omega (arith, less, length_push done x))),
)

passes_tour : (p : Page) (h : Told) (k : ℕ) (done ps : List PassTold) → All IsPassTold ps → k ≡ 1 + length done
    → Path p (Passing h done) (pass_lines k ps) (Passing h (done ++ ps))
passes_tour p h k done [] all e = ap (Passing h) (sym (append-nil done))
passes_tour p h k done (x ∷ ps) all e = (
  Passing h (done ++ x ∷ []),
  inl (record {
    pass = x;
    told = All-head IsPassTold x ps all;
    is = ap (λ (j : ℕ). line (codes "pass " ++ decimal j ++ codes " commits " ++ x.commits ++ codes " open "
        ++ x.parted)) e;
    to = refl;
  }),
  subst (λ (z : List PassTold). Path p (Passing h (done ++ x ∷ [])) (pass_lines (k + 1) ps) (Passing h z))
      (append_assoc done (x ∷ []) ps)
      (passes_tour p h (k + 1) (done ++ x ∷ []) ps (All-tail IsPassTold x ps all)
      (omega (arith, e, length_push done x))),
)

-- ---- a cut
items_tour : (p : Page) (h : Told) (ns : List NetTold) (islands : List ℕ) (cs : List CutTold)
    (pin reached blocked : List ℕ) (done bs : List (Kind × List ℕ)) → All (λ (b : Kind × List ℕ). IsNumber b.1) bs
    → Path p (Parts h ns islands cs (record (bare pin reached blocked) { by_items = done })) (by_lines bs)
    (Parts h ns islands cs (record (bare pin reached blocked) { by_items = done ++ bs }))
items_tour p h ns islands cs pin reached blocked done [] all =
    ap (λ (z : List (Kind × List ℕ)). Parts h ns islands cs (record (bare pin reached blocked) { by_items = z }))
    (sym (append-nil done))
items_tour p h ns islands cs pin reached blocked done (x ∷ bs) all =
    let N : Kind × List ℕ → Type 0 = λ b. IsNumber b.1 in
    let c = bare pin reached blocked in (
      Parts h ns islands cs (record c { by_items = done ++ x ∷ [] }),
      inl (inl (record {
        early = record { inside = refl; no_run = refl; no_wide = refl };
        item = x;
        number = All-head N x bs all;
        is = refl;
        to = refl;
      })),
      subst (λ (z : List (Kind × List ℕ)). Path p (Parts h ns islands cs (record c { by_items = done ++ x ∷ [] }))
          (by_lines bs) (Parts h ns islands cs (record c { by_items = z }))) (append_assoc done (x ∷ []) bs)
          (items_tour p h ns islands cs pin reached blocked (done ++ x ∷ []) bs (All-tail N x bs all)),
    )

outside_tour : (p : Page) (h : Told) (ns : List NetTold) (islands : List ℕ) (cs : List CutTold)
    (pin reached blocked : List ℕ) (bs : List (Kind × List ℕ)) (b : Bool)
    → Path p (Parts h ns islands cs (record (bare pin reached blocked) { by_items = bs })) (outside_lines b)
    (Parts h ns islands cs (record (bare pin reached blocked) { by_items = bs; by_outside = b }))
outside_tour p h ns islands cs pin reached blocked bs false = refl
outside_tour p h ns islands cs pin reached blocked bs true = (
  Parts h ns islands cs (record (bare pin reached blocked) { by_items = bs; by_outside = true }),
  inl (inr (inl (record { early = record { inside = refl; no_run = refl; no_wide = refl }; is = refl; to = refl }))),
  refl,
)

runs_tour : (p : Page) (h : Told) (ns : List NetTold) (islands : List ℕ) (cs : List CutTold) (c : CutTold)
    (done rs : List RunTold) → c.wide ≡ None → All IsRun rs
    → Path p (Parts h ns islands cs (record c { runs = done })) (run_lines rs)
    (Parts h ns islands cs (record c { runs = done ++ rs }))
runs_tour p h ns islands cs c done [] none all =
    ap (λ (z : List RunTold). Parts h ns islands cs (record c { runs = z })) (sym (append-nil done))
runs_tour p h ns islands cs c done (x ∷ rs) none all = (
  Parts h ns islands cs (record c { runs = done ++ x ∷ [] }),
  inl (inr (inr (inl (record {
    no_wide = none;
    run = x;
    told = All-head IsRun x rs all;
    is = refl;
    to = refl;
  })))),
  subst (λ (z : List RunTold). Path p (Parts h ns islands cs (record c { runs = done ++ x ∷ [] })) (run_lines rs)
      (Parts h ns islands cs (record c { runs = z }))) (append_assoc done (x ∷ []) rs)
      (runs_tour p h ns islands cs c (done ++ x ∷ []) rs none (All-tail IsRun x rs all)),
)

wide_tour : (p : Page) (h : Told) (ns : List NetTold) (islands : List ℕ) (cs : List CutTold) (c : CutTold)
    (wide : Option (List ℕ)) → IfSome wide IsNumber → (is_some wide ≡ true → MayTell true ns cs)
    → Path p (Parts h ns islands cs (record c { wide = None })) (wide_lines wide)
    (Parts h ns islands cs (record c { wide = wide }))
wide_tour p h ns islands cs c None number may = refl
wide_tour p h ns islands cs c (Some size) number may = (
  Parts h ns islands cs (record c { wide = Some size }),
  inl (inr (inr (inr (record {
    no_wide = refl;
    may = may refl;
    size = size;
    number = number;
    is = refl;
    to = refl;
  })))),
  refl,
)

cut_tour : (p : Page) (h : Told) (ns : List NetTold) (islands : List ℕ) (cs : List CutTold) (c : CutTold) (s : State)
    → LeadsCut p h ns islands cs s → length cs < value islands
    → IsCutTold (slice_get (firsts_after p.firsts ns) (length cs)) c → (tells_wide c ≡ true → MayTell true ns cs)
    → Path p s (cut_lines c) (Parts h ns islands cs c)
cut_tour p h ns islands cs c s leads less told may =
    let k = bare c.pin c.reached c.blocked in
    let with_items = record k { by_items = c.by_items } in
    let with_outside = record with_items { by_outside = c.by_outside } in
    let with_runs = record with_outside { runs = c.runs } in (
      Parts h ns islands cs k,
      leads.all (cut_line c) (Parts h ns islands cs k) (record {
        more = less;
        pin = c.pin;
        reached = c.reached;
        blocked = c.blocked;
        name = told.pin;
        first = told.reached;
        second = told.blocked;
        is = refl;
        to = refl;
      }),
      path_append p (Parts h ns islands cs k) (Parts h ns islands cs with_items) (Parts h ns islands cs c)
          (by_lines c.by_items) (outside_lines c.by_outside ++ (run_lines c.runs ++ wide_lines c.wide))
          (items_tour p h ns islands cs c.pin c.reached c.blocked [] c.by_items told.by_items)
          (path_append p (Parts h ns islands cs with_items) (Parts h ns islands cs with_outside)
          (Parts h ns islands cs c) (outside_lines c.by_outside) (run_lines c.runs ++ wide_lines c.wide)
          (outside_tour p h ns islands cs c.pin c.reached c.blocked c.by_items c.by_outside)
          (path_append p (Parts h ns islands cs with_outside) (Parts h ns islands cs with_runs)
          (Parts h ns islands cs c) (run_lines c.runs) (wide_lines c.wide)
          (runs_tour p h ns islands cs with_outside [] c.runs refl told.runs)
          (wide_tour p h ns islands cs with_runs c.wide told.wide may))),
    )

-- ---- the cuts of a net
-- own names behind a cut's
rest_told : (own : List (List ℕ)) (done : List CutTold) (c : CutTold) (cs : List CutTold)
    → AreCutsTold own (done ++ c ∷ cs) → IsCutTold (slice_get own (length done)) c
rest_told [] [] c cs h = h.0
rest_told (first ∷ own) [] c cs h = h.0
rest_told [] (x ∷ done) c cs h = rest_told [] done c cs h.1
rest_told (first ∷ own) (x ∷ done) c cs h = rest_told own done c cs h.1

-- behind the cuts, the lines of the next net or the last one
pub record NetsEnd (p : Page) (h : Told) (ns : List NetTold) (L : List (List ℕ)) (s : State) : Type 0 where
  pub state : State
  pub path : Path p s L state
  pub leads : LeadsNets p h ns state

-- the cuts before one that tells as they do
tour_may : (wide : Bool) (ns : List NetTold) (before : List CutTold) (x : CutTold) (cs : List CutTold)
    → MayTell wide ns (before ++ x ∷ cs) → tells_wide x ≡ true → MayTell true ns before
tour_may wide ns before x cs all own =
    subst (λ (b : Bool). MayTell b ns before) (sym (tell_here wide ns before x cs all) ∙ own)
    (tell_before wide ns before (x ∷ cs) all)

-- of a cut with others behind it
own_may : (wide : Bool) (ns : List NetTold) (done : List CutTold) (c : CutTold) (cs : List CutTold)
    → MayTell wide ns ((done ++ c ∷ []) ++ cs) → MayTell (tells_wide c) ns done
own_may wide ns done c cs all =
    let here = subst (λ (z : List CutTold). MayTell wide ns z) (append_assoc done (c ∷ []) cs) all in
    like_cut wide ns done c (tell_here wide ns done c cs here) (tell_before wide ns done (c ∷ cs) here)

cuts_tour : (p : Page) (h : Told) (ns : List NetTold) (islands : List ℕ) (done : List CutTold) (c : CutTold)
    (cs : List CutTold) (wide : Bool) → MayTell wide ns ((done ++ c ∷ []) ++ cs)
    → AreCutsTold (firsts_after p.firsts ns) ((done ++ c ∷ []) ++ cs)
    → length ((done ++ c ∷ []) ++ cs) ≡ value islands
    → NetsEnd p h (ns ++ opened islands ((done ++ c ∷ []) ++ cs) ∷ []) (flat_map cut_lines cs)
    (Parts h ns islands done c)
cuts_tour p h ns islands done c [] wide all told full =
    let e = append-nil (done ++ c ∷ []) in
    subst (λ (z : List CutTold). NetsEnd p h (ns ++ opened islands z ∷ []) [] (Parts h ns islands done c)) (sym e)
    (record {
      state = Parts h ns islands done c;
      path = refl;
      leads = record {
        all = λ l t step. inr (inr (record {
          may = own_may wide ns done c [] all;
          full = sym (ap length e) ∙ full;
          step = step;
        }));
      };
    })
cuts_tour p h ns islands done c (x ∷ cs) wide all told full =
    let before = done ++ c ∷ [] in
    let e = append_assoc before (x ∷ []) cs in
    let rest = cuts_tour p h ns islands before x cs wide
    (subst (λ (z : List CutTold). MayTell wide ns z) (sym e) all)
    (subst (λ (z : List CutTold). AreCutsTold (firsts_after p.firsts ns) z) (sym e) told) (ap length e ∙ full) in
    subst (λ (z : List CutTold). NetsEnd p h (ns ++ opened islands z ∷ []) (flat_map cut_lines (x ∷ cs))
    (Parts h ns islands done c)) e (record {
      state = rest.state;
      path = path_append p (Parts h ns islands done c) (Parts h ns islands before x) rest.state (cut_lines x)
          (flat_map cut_lines cs)
          (cut_tour p h ns islands before x (Parts h ns islands done c)
          (record {
            all = λ l t step. inr (inl (record { may = own_may wide ns done c (x ∷ cs) all; step = step }));
          })
          (omega (arith, full, length-append before (x ∷ cs)))
          (rest_told (firsts_after p.firsts ns) before x cs told) (tour_may wide ns before x cs all)) rest.path;
      leads = rest.leads;
    })

-- ---- nets
open_net_tour : (p : Page) (h : Told) (ns : List NetTold) (islands : List ℕ) (cs : List CutTold) (s : State)
    (wide : Bool) → LeadsNets p h ns s → length ns < length p.design.nets → IsNumber islands → 2 ≤ length cs
    → value islands ≡ length cs → AreCutsTold (firsts_after p.firsts ns) cs → MayTell wide ns cs
    → NetsEnd p h (ns ++ opened islands cs ∷ []) (net_lines (name_after p.design ns) (opened islands cs)) s
open_net_tour p h ns islands [] s wide leads less number many full told all = absurd (omega (arith, many))
open_net_tour p h ns islands (c ∷ cs) s wide leads less number many full told all =
    let n = opened islands (c ∷ cs) in
    let rest = cuts_tour p h ns islands [] c cs wide all told (sym full) in
    let first = Opened h ns islands in record {
      state = rest.state;
      path = (
        first,
        leads.all (net_line (name_after p.design ns) n) first (inr (inl (record {
          below = less;
          islands = islands;
          number = number;
          many = omega (arith, full, many);
          is = ap (λ (w : List ℕ). line (codes "net " ++ spelled (name_after p.design ns) ++ w)) (open_words n many);
          to = refl;
        }))),
        path_append p first (Parts h ns islands [] c) rest.state (cut_lines c) (flat_map cut_lines cs)
            (cut_tour p h ns islands [] c first (record { all = λ l t step. step })
            (omega (arith, full))
            (rest_told (firsts_after p.firsts ns) [] c cs told) (tour_may wide ns [] c cs all)) rest.path,
      );
      leads = rest.leads;
    }

whole_net_tour : (p : Page) (h : Told) (ns : List NetTold) (s : State) → LeadsNets p h ns s
    → length ns < length p.design.nets
    → NetsEnd p h (ns ++ whole ∷ []) (net_lines (name_after p.design ns) whole) s
whole_net_tour p h ns s leads less = record {
  state = Netting h (ns ++ whole ∷ []);
  path = (
    Netting h (ns ++ whole ∷ []),
    leads.all (net_line (name_after p.design ns) whole) (Netting h (ns ++ whole ∷ []))
        (inl (record { below = less; is = refl; to = refl })),
    refl,
  );
  leads = record { all = λ l t step. step };
}

net_tour : (p : Page) (h : Told) (ns : List NetTold) (n : NetTold) (s : State) (wide : Bool) → LeadsNets p h ns s
    → length ns < length p.design.nets → IsNetTold (firsts_after p.firsts ns) n → MayTell wide ns n.cuts
    → NetsEnd p h (ns ++ n ∷ []) (net_lines (name_after p.design ns) n) s
net_tour p h ns n s wide leads less told all = by told.counts
  where
    by : (((n.cuts ≡ []) × (n.islands ≡ decimal 0))
        ⊎ ((2 ≤ length n.cuts) × IsNumber n.islands × (value n.islands ≡ length n.cuts)))
        → NetsEnd p h (ns ++ n ∷ []) (net_lines (name_after p.design ns) n) s
    by (inl a) =
        let same : whole ≡ n = λ i. record { islands = sym a.1 i; cuts = sym a.0 i } in
        subst (λ (m : NetTold). NetsEnd p h (ns ++ m ∷ []) (net_lines (name_after p.design ns) m) s) same
        (whole_net_tour p h ns s leads less)
    by (inr a) = open_net_tour p h ns n.islands n.cuts s wide leads less a.1 a.0 a.2 told.cuts all

-- ---- lists from a place on
drop_here : {X : Type 0} (xs : List X) (k : ℕ) (x : X) (rest : List X) → drop k xs ≡ x ∷ rest
    → slice_get xs k ≡ Some x
drop_here [] zero x rest e = cc
drop_here [] (suc k) x rest e = cc
drop_here {X = X} (y ∷ xs) zero x rest e = ap (λ (zs : List X). slice_get zs 0) e
drop_here (y ∷ xs) (suc k) x rest e = drop_here xs k x rest e

drop_on : {X : Type 0} (xs : List X) (k : ℕ) (x : X) (rest : List X) → drop k xs ≡ x ∷ rest → drop (suc k) xs ≡ rest
drop_on [] zero x rest e = cc
drop_on [] (suc k) x rest e = cc
drop_on {X = X} (y ∷ xs) zero x rest e = ap (λ (zs : List X). drop 1 zs) e
drop_on (y ∷ xs) (suc k) x rest e = drop_on xs k x rest e

drop_below : {X : Type 0} (xs : List X) (k : ℕ) (x : X) (rest : List X) → drop k xs ≡ x ∷ rest → k < length xs
drop_below [] zero x rest e = cc
drop_below [] (suc k) x rest e = cc
drop_below (y ∷ xs) zero x rest e = omega arith
drop_below (y ∷ xs) (suc k) x rest e = omega (arith, drop_below xs k x rest e)

-- the cuts of a net among others
net_may : (wide : Bool) (done : List NetTold) (n : NetTold) (ns : List NetTold)
    → All (Tells wide) (cuts_in (done ++ n ∷ ns)) → MayTell wide done n.cuts
net_may wide [] n ns all = all_left (Tells wide) n.cuts (cuts_in ns) all
net_may wide (x ∷ done) n ns all =
    subst (All (Tells wide)) (sym (append_assoc x.cuts (cuts_in done) n.cuts))
    (All-append (Tells wide) x.cuts (cuts_in done ++ n.cuts)
    (all_left (Tells wide) x.cuts (cuts_in (done ++ n ∷ ns)) all)
    (net_may wide done n ns (all_right (Tells wide) x.cuts (cuts_in (done ++ n ∷ ns)) all)))

nets_tour : (p : Page) (h : Told) (nets : List Net) (firsts : List (List (List ℕ))) (done ns : List NetTold)
    (s : State) (wide : Bool) → All (Tells wide) (cuts_in (done ++ ns)) → LeadsNets p h done s
    → drop (length done) p.design.nets ≡ nets → drop (length done) p.firsts ≡ firsts → AllZip IsNetTold firsts ns
    → length ns ≡ length nets
    → NetsEnd p h (done ++ ns) (nets_lines nets ns) s
nets_tour p h [] firsts done [] s wide alike leads e f all same =
    subst (λ (z : List NetTold). NetsEnd p h z [] s) (sym (append-nil done))
    (record { state = s; path = refl; leads = leads })
nets_tour p h [] firsts done (n ∷ ns) s wide alike leads e f all same = absurd (omega arith)
nets_tour p h (net ∷ nets) firsts done [] s wide alike leads e f all same = absurd (omega arith)
nets_tour p h (net ∷ nets) [] done (n ∷ ns) s wide alike leads e f all same = absurd all
nets_tour p h (net ∷ nets) (own ∷ firsts) done (n ∷ ns) s wide alike leads e f all same =
    let more : suc (length done) ≡ length (done ++ n ∷ []) = omega (arith, length_push done n) in
    let name = ap name_of (drop_here p.design.nets (length done) net nets e) in
    let first = ap own_firsts (drop_here p.firsts (length done) own firsts f) in
    let here = net_tour p h done n s wide leads (drop_below p.design.nets (length done) net nets e)
    (subst (λ (z : List (List ℕ)). IsNetTold z n) (sym first) all.0) (net_may wide done n ns alike) in
    let rest = nets_tour p h nets firsts (done ++ n ∷ []) ns here.state wide
    (subst (λ (z : List NetTold). All (Tells wide) (cuts_in z)) (sym (append_assoc done (n ∷ []) ns)) alike)
    here.leads
    (ap (λ (k : ℕ). drop k p.design.nets) (sym more) ∙ drop_on p.design.nets (length done) net nets e)
    (ap (λ (k : ℕ). drop k p.firsts) (sym more) ∙ drop_on p.firsts (length done) own firsts f) all.1 (omega arith) in
    subst (λ (z : List NetTold). NetsEnd p h z (net_lines net.name n ++ nets_lines nets ns) s)
    (append_assoc done (n ∷ []) ns)
    (record {
      state = rest.state;
      path = path_append p s here.state rest.state (net_lines net.name n) (nets_lines nets ns)
          (subst (λ (w : List ℕ). Path p s (net_lines w n) here.state) name here.path) rest.path;
      leads = rest.leads;
    })

-- ---- the whole
pub tour : (p : Page) (u : Told) → IsTold p.design p.firsts u → Path p Start (lines p.design u) (Ended u)
unfolding lines
tour p u told =
    let d = p.design in
    let h1 = gridded u.grid u.nodes in
    let h2 = record h1 { dropped = u.dropped } in
    let h3 = record h2 { places = u.places; notes = u.notes } in
    let h4 = record h3 { passes = u.passes; kept = u.kept } in
    let h5 = record h4 { joins = u.joins } in
    let notes = line (codes "notes " ++ u.notes) in
    let kept = line (codes "kept " ++ u.kept) in
    let joins = line (codes "joins " ++ u.joins) in
    let nets = nets_tour p h5 d.nets p.firsts [] u.nets (Netting h5 []) told.alike.wide told.alike.each
    (record { all = λ l t step. step }) refl refl told.nets told.all_nets in
    let to_end : Path p nets.state (total_line u.nets ∷ []) (Ended u) = (
      Ended u,
      nets.leads.all (total_line u.nets) (Ended u) (inr (inr (record { all = told.all_nets; is = refl; to = refl }))),
      refl,
    ) in
    let passes : Path p (Passing h3 []) (pass_part u) (Netting h5 []) =
    path_append p (Passing h3 []) (Passing h3 u.passes) (Netting h5 []) (pass_lines 1 u.passes) (kept ∷ joins ∷ [])
    (passes_tour p h3 1 [] u.passes told.passes refl) (
      Joining h4,
      inr (record { some = told.some_pass; kept = u.kept; number = told.kept; is = refl; to = refl }),
      (Netting h5 [], record { joins = u.joins; number = told.joins; is = refl; to = refl }, refl),
    ) in
    let places : Path p (Dropping h2 []) (place_lines u.places ++ notes ∷ []) (Passing h3 []) =
    path_append p (Dropping h2 []) (Dropping h2 u.places) (Passing h3 []) (place_lines u.places) (notes ∷ [])
    (places_tour p h2 [] u.places told.places (omega (arith, told.drops))) (
      Passing h3 [],
      inr (record { all = sym told.drops; notes = u.notes; number = told.notes; is = refl; to = refl }),
      refl,
    ) in
    let grid : GridStep (grid_line u.grid u.nodes) (Gridded h1) = record {
      grid = u.grid;
      nodes = u.nodes;
      good = record { grid = told.grid; grid_from = told.grid_from; grid_to = told.grid_to; nodes = told.nodes };
      is = refl;
      to = refl;
    } in
    let dropped : DroppedStep h1 (line (codes "dropped " ++ u.dropped)) (Dropping h2 []) =
    record { dropped = u.dropped; number = told.dropped; is = refl; to = refl } in
    let front : Path p Start (head_lines d u) (Passing h3 []) =
    (Named, (refl, refl), (Sized, (refl, refl), (Gridded h1, grid, (Dropping h2 [], dropped, places)))) in
    path_append p Start (Passing h3 []) (Ended u) (head_lines d u) (pass_part u ++ (nets_lines d.nets u.nets
    ++ total_line u.nets ∷ [])) front
    (path_append p (Passing h3 []) (Netting h5 []) (Ended u) (pass_part u) (nets_lines d.nets u.nets
    ++ total_line u.nets ∷ []) passes
    (path_append p (Netting h5 []) nets.state (Ended u) (nets_lines d.nets u.nets) (total_line u.nets ∷ []) nets.path
    to_end))
