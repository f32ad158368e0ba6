-- A line on, or a stop: cuts and nets.
use Rattle.std.proofs.Common.{◌≡◌, ◌⊎◌, inl, inr, ℕ, suc, ◌<◌, Bool, true, false, List, [], ◌∷◌, ◌++◌, Option, is_some}
use Rattle.std.proofs.Common.{length}
use Rattle.std.proofs.Common.{refl, sym, ap, ◌∙◌, subst, arith, Some, map}
use Rattle.std.specs.Prelude.{codes, slice_get}
use Rattle.std.proofs.lemmas.List.{map-append}
use Rattle.report_form.specs.Form.{Told, NetTold, CutTold, RunTold, value, by_line, run_line, cut_line, total_line}
use Rattle.report_form.specs.Form.{tells_wide, wide_line}
use Rattle.report_form.specs.Reading.{run_kept, IsCutKept, AreCutsKept, AreNetsKept}
use Rattle.report_form.specs.declared.reading.ReadRun.{ReadRun}
use Rattle.report_form.specs.declared.reading.ReadCut.{ReadCut}
use Rattle.report_form.specs.inner.State.{Page, State, Netting, Opened, Parts, Ended, IsPage, At, IsStuck}
use Rattle.report_form.specs.inner.State.{IsStopped, IsBetween, IsBeforeCut, Next, NetStep, CutStep, PartStep}
use Rattle.report_form.specs.inner.State.{RunStep, WideStep, MayTell}
use Rattle.report_form.specs.inner.State.{bare, opened, whole, name_after, firsts_after}
use Rattle.report_form.specs.inner.State.{complete_line, opened_line}
use Rattle.report_form.specs.inner.Fields.{HasOne, HasRun, HasCut, RunAt, ItemAt, HasWhole, HasOpened}
use Rattle.report_form.specs.inner.Halts.{IsHead, ItemsRead, AllItemsRead, OutsideRead, BlockersRead}
use Rattle.report_form.specs.inner.Halts.{CutRead, MostRead, RunsRead}
use Rattle.report_form.specs.inner.Halts.{HasNoNetLine}
use Rattle.report_form.proofs.Agree.{head}
use Rattle.report_form.proofs.Standing.{line_on}
use Rattle.report_form.proofs.Tells.{IsPartByte, part_head, cut_head, net_head, run_head, wide_head}
use Rattle.report_form.proofs.Fields.{one_line, one_of_line}
use Rattle.report_form.proofs.Alike.{like_cut, some_told}

-- a line that is the beginning
shown : (l m r rest : List ℕ) → rest ≡ l ++ r → l ≡ m → rest ≡ m ++ r
shown l m r rest e f = e ∙ ap (λ (x : List ℕ). x ++ r) f

-- ---- first bytes
head_of : (byte : ℕ) (xs : List ℕ) → IsHead byte xs → head xs ≡ byte
head_of byte [] h = absurd h
head_of byte (b ∷ bs) h = h

of_head : (byte : ℕ) (xs : List ℕ) → head xs ≡ suc byte → IsHead (suc byte) xs
of_head byte [] h = absurd (omega (arith, h))
of_head byte (b ∷ bs) h = h

-- the first byte of a line that begins the rest
rest_head : (l r rest : List ℕ) (byte : ℕ) → rest ≡ l ++ r → IsHead byte rest → head (l ++ r) ≡ byte
rest_head l r rest byte e h = ap head (sym e) ∙ head_of byte rest h

-- no line of a net or of a cut begins with such a byte
no_net : (p : Page) (h : Told) (ns : List NetTold) (l r rest : List ℕ) (t : State) (byte : ℕ) → rest ≡ l ++ r
    → IsHead byte rest → NetStep p h ns l t → IsPartByte byte → ⊥
no_net p h ns l r rest t byte e f step which =
    let x = rest_head l r rest byte e f in by (net_head p h ns l r t step) which
  where
    by : (head (l ++ r) ≡ 110) ⊎ (head (l ++ r) ≡ 99) → IsPartByte byte → ⊥
    by (inl a) (inl b) = let x = rest_head l r rest byte e f in omega (arith, a, b, x)
    by (inl a) (inr (inl b)) = let x = rest_head l r rest byte e f in omega (arith, a, b, x)
    by (inl a) (inr (inr b)) = let x = rest_head l r rest byte e f in omega (arith, a, b, x)
    by (inr a) (inl b) = let x = rest_head l r rest byte e f in omega (arith, a, b, x)
    by (inr a) (inr (inl b)) = let x = rest_head l r rest byte e f in omega (arith, a, b, x)
    by (inr a) (inr (inr b)) = let x = rest_head l r rest byte e f in omega (arith, a, b, x)

no_cut : (p : Page) (h : Told) (ns : List NetTold) (w : List ℕ) (cs : List CutTold) (l r rest : List ℕ) (t : State)
    (byte : ℕ) → rest ≡ l ++ r → IsHead byte rest → CutStep p h ns w cs l t → IsPartByte byte → ⊥
no_cut p h ns w cs l r rest t byte e f step (inl b) =
    let x = rest_head l r rest byte e f in
    let y = cut_head p h ns w cs l r t step in omega (arith, x, y, b)
no_cut p h ns w cs l r rest t byte e f step (inr (inl b)) =
    let x = rest_head l r rest byte e f in
    let y = cut_head p h ns w cs l r t step in omega (arith, x, y, b)
no_cut p h ns w cs l r rest t byte e f step (inr (inr b)) =
    let x = rest_head l r rest byte e f in
    let y = cut_head p h ns w cs l r t step in omega (arith, x, y, b)

-- where the rest begins with such a byte and no line of a part begins it, reading is stuck
part_stuck : (p : Page) (h : Told) (ns : List NetTold) (w : List ℕ) (cs : List CutTold) (c : CutTold) (rest : List ℕ)
    (byte : ℕ) → IsHead byte rest → IsPartByte byte
    → ((l : List ℕ) (t : State) (r : List ℕ) → PartStep h ns w cs c l t → rest ≡ l ++ r → ⊥)
    → IsStuck p (Parts h ns w cs c) rest
part_stuck p h ns w cs c rest byte first which none = record { none = each; more = λ e f. e }
  where
    each : (l : List ℕ) (t : State) (r : List ℕ) → Next p (Parts h ns w cs c) l t → rest ≡ l ++ r → ⊥
    each l t r (inl a) e = none l t r a e
    each l t r (inr (inl a)) e = no_cut p h ns w (cs ++ c ∷ []) l r rest t byte e first a.step which
    each l t r (inr (inr a)) e =
        no_net p h (ns ++ opened w (cs ++ c ∷ []) ∷ []) l r rest t byte e first a.step which

-- a line of a stretch or the last one begins with other bytes
last_apart : (h : Told) (ns : List NetTold) (w : List ℕ) (cs : List CutTold) (c : CutTold) (l r rest : List ℕ)
    (t : State) (byte : ℕ) → (RunStep h ns w cs c l t ⊎ WideStep h ns w cs c l t) → rest ≡ l ++ r → IsHead byte rest
    → (114 ≡ byte → ⊥) → (119 ≡ byte → ⊥) → ⊥
last_apart h ns w cs c l r rest t byte (inl a) e first no_run no_wide =
    no_run (sym (run_head h ns w cs c l r t a) ∙ rest_head l r rest byte e first)
last_apart h ns w cs c l r rest t byte (inr a) e first no_run no_wide =
    no_wide (sym (wide_head h ns w cs c l r t a) ∙ rest_head l r rest byte e first)

-- ---- a cut's own line
pub cut_on : (p : Page) (h : Told) (ns : List NetTold) (w : List ℕ) (cs : List CutTold) (pin a b rest r : List ℕ)
    → IsPage p → IsBeforeCut p h ns w cs rest → length cs < value w
    → HasCut (slice_get (firsts_after p.firsts ns) (length cs)) pin a b r rest
    → At p (Parts h ns w cs (bare pin a b)) r
cut_on p h ns w cs pin a b rest r page before less has =
    let t = Parts h ns w cs (bare pin a b) in
    line_on p before.state t (cut_line (bare pin a b)) rest r page before.at
    (before.all (cut_line (bare pin a b)) t (record {
      more = less;
      pin = pin;
      reached = a;
      blocked = b;
      name = has.name;
      first = has.first_number;
      second = has.second_number;
      is = refl;
      to = refl;
    })) has.is

pub cut_stop : (p : Page) (h : Told) (ns : List NetTold) (w : List ℕ) (cs : List CutTold) (rest : List ℕ)
    → IsBeforeCut p h ns w cs rest
    → ((pin a b r : List ℕ) → HasCut (slice_get (firsts_after p.firsts ns) (length cs)) pin a b r rest → ⊥)
    → IsStopped p rest
cut_stop p h ns w cs rest before none = record {
  state = before.state;
  at = before.at;
  stuck = record {
    none = λ l t r step e. let c = before.only l t r step e in
        none c.pin c.reached c.blocked r (record {
          name = c.name;
          first_number = c.first;
          second_number = c.second;
          is = shown l (cut_line (bare c.pin c.reached c.blocked)) r rest e c.is;
        });
    more = λ e f. before.going e;
  };
}

-- ---- lines of items and of a boundary
pub item_on : (p : Page) (h : Told) (ns : List NetTold) (w : List ℕ) (cs : List CutTold) (c : CutTold)
    (rest r : List ℕ) → IsPage p → ItemsRead p h ns w cs c rest → ItemAt r rest → ItemsRead p h ns w cs c r
item_on p h ns w cs c rest r page read found =
    let k = record (read.cut) { by_items = read.cut.by_items ++ found.item ∷ [] } in record {
      cut = k;
      same = record { pin = read.same.pin; reached = read.same.reached; blocked = read.same.blocked };
      early = record {
        inside = read.early.inside;
        no_run = read.early.no_run;
        no_wide = read.early.no_wide;
      };
      at = line_on p (Parts h ns w cs read.cut) (Parts h ns w cs k) (by_line found.item) rest r page read.at
          (inl (inl (record {
            early = read.early;
            item = found.item;
            number = found.has.number;
            is = refl;
            to = refl;
          }))) found.has.is;
    }

-- a cut whose boundary's line was read
pub outside_on : (p : Page) (h : Told) (ns : List NetTold) (w : List ℕ) (cs : List CutTold) (c : CutTold)
    (rest r : List ℕ) → IsPage p → AllItemsRead p h ns w cs c rest → rest ≡ codes "by outside\n" ++ r
    → OutsideRead p h ns w cs c r
outside_on p h ns w cs c rest r page read e =
    let items = read.items in
    let k = record (items.cut) { by_outside = true } in record {
      cut = k;
      same = record { pin = items.same.pin; reached = items.same.reached; blocked = items.same.blocked };
      no_run = items.early.no_run;
      no_wide = items.early.no_wide;
      at = line_on p (Parts h ns w cs items.cut) (Parts h ns w cs k) (codes "by outside\n") rest r page items.at
          (inl (inr (inl (record { early = items.early; is = refl; to = refl })))) e;
      stuck = λ first. part_stuck p h ns w cs k r 98 first (inl refl) (λ l t x step f. elim step [
        | inl a ↦ late a.early.inside
        | inr rest_of ↦ elim rest_of [
          | inl a ↦ late a.early.inside
          | inr a ↦ last_apart h ns w cs k l x r t 98 a f first (λ z. omega (arith, z)) (λ z. omega (arith, z))
        ]
      ]);
    }
  where
    late : true ≡ false → ⊥
    late e = cc

pub no_outside : (p : Page) (h : Told) (ns : List NetTold) (w : List ℕ) (cs : List CutTold) (c : CutTold)
    (rest : List ℕ) → AllItemsRead p h ns w cs c rest → ((r : List ℕ) → rest ≡ codes "by outside\n" ++ r → ⊥)
    → OutsideRead p h ns w cs c rest
no_outside p h ns w cs c rest read none =
    let items = read.items in record {
      cut = items.cut;
      same = items.same;
      no_run = items.early.no_run;
      no_wide = items.early.no_wide;
      at = items.at;
      stuck = λ first. part_stuck p h ns w cs items.cut rest 98 first (inl refl) (λ l t x step f. elim step [
        | inl a ↦ read.none a.item x (record { number = a.number; is = shown l (by_line a.item) x rest f a.is })
        | inr rest_of ↦ elim rest_of [
          | inl a ↦ none x (shown l (codes "by outside\n") x rest f a.is)
          | inr a ↦ last_apart h ns w cs items.cut l x rest t 98 a f first (λ z. omega (arith, z))
              (λ z. omega (arith, z))
        ]
      ]);
    }

pub blockers_stop : (p : Page) (h : Told) (ns : List NetTold) (w : List ℕ) (cs : List CutTold) (c : CutTold)
    (rest : List ℕ) → OutsideRead p h ns w cs c rest → IsHead 98 rest → IsStopped p rest
blockers_stop p h ns w cs c rest read first =
    record { state = Parts h ns w cs read.cut; at = read.at; stuck = read.stuck first }

pub blockers_read : (p : Page) (h : Told) (ns : List NetTold) (w : List ℕ) (cs : List CutTold) (c : CutTold)
    (rest : List ℕ) → OutsideRead p h ns w cs c rest → (IsHead 98 rest → ⊥) → BlockersRead p h ns w cs c rest
blockers_read p h ns w cs c rest read none =
    record {
      cut = read.cut;
      same = read.same;
      no_run = read.no_run;
      no_wide = read.no_wide;
      at = read.at;
      head = none;
    }

-- ---- stretches
pub runs_start : (p : Page) (h : Told) (ns : List NetTold) (w : List ℕ) (cs : List CutTold) (c : CutTold)
    (rest : List ℕ) → BlockersRead p h ns w cs c rest → RunsRead p h ns w cs c [] rest
runs_start p h ns w cs c rest read = record {
  cut = read.cut;
  same = read.same;
  no_wide = read.no_wide;
  runs_are = ap (λ (rs : List RunTold). map run_kept rs) (sym read.no_run);
  at = read.at;
  head = read.head;
}

-- the cut with a stretch more
abbrev with_run : CutTold → RunTold → CutTold
with_run c r = record c { runs = c.runs ++ r ∷ [] }

run_at : (p : Page) (h : Told) (ns : List NetTold) (w : List ℕ) (cs : List CutTold) (c : CutTold)
    (runs : List ReadRun) (run : ReadRun) (rest r : List ℕ) → IsPage p → (read : RunsRead p h ns w cs c runs rest)
    → (found : RunAt run r rest) → At p (Parts h ns w cs (with_run read.cut found.told)) r
run_at p h ns w cs c runs run rest r page read found =
    line_on p (Parts h ns w cs read.cut) (Parts h ns w cs (with_run read.cut found.told)) (run_line found.told) rest r
    page read.at (inl (inr (inr (inl (record {
      no_wide = read.no_wide;
      run = found.told;
      told = found.has.told;
      is = refl;
      to = refl;
    }))))) found.has.is

pub run_on : (p : Page) (h : Told) (ns : List NetTold) (w : List ℕ) (cs : List CutTold) (c : CutTold)
    (runs : List ReadRun) (run : ReadRun) (rest r : List ℕ) → IsPage p → RunsRead p h ns w cs c runs rest
    → RunAt run r rest → (IsHead 98 r → ⊥) → RunsRead p h ns w cs c (runs ++ run ∷ []) r
run_on p h ns w cs c runs run rest r page read found none = record {
  cut = with_run read.cut found.told;
  same = record { pin = read.same.pin; reached = read.same.reached; blocked = read.same.blocked };
  no_wide = read.no_wide;
  runs_are = (λ i. read.runs_are i ++ found.kept i ∷ []) ∙ sym (map-append run_kept read.cut.runs (found.told ∷ []));
  at = run_at p h ns w cs c runs run rest r page read found;
  head = none;
}

pub run_stop : (p : Page) (h : Told) (ns : List NetTold) (w : List ℕ) (cs : List CutTold) (c : CutTold)
    (runs : List ReadRun) (rest : List ℕ) → RunsRead p h ns w cs c runs rest → IsHead 114 rest
    → ((run : RunTold) (r : List ℕ) → HasRun run r rest → ⊥) → IsStopped p rest
run_stop p h ns w cs c runs rest read first none = record {
  state = Parts h ns w cs read.cut;
  at = read.at;
  stuck = part_stuck p h ns w cs read.cut rest 114 first (inr (inl refl)) (λ l t x step f. elim step [
    | inl a ↦ read.head (of_head 97 rest (ap head f ∙ ap (λ (z : List ℕ). head (z ++ x)) a.is))
    | inr rest_of ↦ elim rest_of [
      | inl a ↦ read.head (of_head 97 rest (ap head f ∙ ap (λ (z : List ℕ). head (z ++ x)) a.is))
      | inr last ↦ elim last [
        | inl a ↦ none a.run x (record { told = a.told; is = shown l (run_line a.run) x rest f a.is })
        | inr a ↦ let y = rest_head l x rest 114 f first in
            let z = wide_head h ns w cs read.cut l x t a in omega (arith, y, z)
      ]
    ]
  ]);
}

-- a line of an item may not follow a stretch
pub late_stop : (p : Page) (h : Told) (ns : List NetTold) (w : List ℕ) (cs : List CutTold) (c : CutTold)
    (runs : List ReadRun) (run : ReadRun) (rest r : List ℕ) → IsPage p → RunsRead p h ns w cs c runs rest
    → RunAt run r rest → IsHead 98 r → IsStopped p r
late_stop p h ns w cs c runs run rest r page read found first =
    let k = with_run read.cut found.told in record {
      state = Parts h ns w cs k;
      at = run_at p h ns w cs c runs run rest r page read found;
      stuck = part_stuck p h ns w cs k r 98 first (inl refl) (λ l t x step f. elim step [
        | inl a ↦ late read.cut.runs found.told a.early.no_run
        | inr rest_of ↦ elim rest_of [
          | inl a ↦ late read.cut.runs found.told a.early.no_run
          | inr a ↦ last_apart h ns w cs k l x r t 98 a f first (λ z. omega (arith, z)) (λ z. omega (arith, z))
        ]
      ]);
    }
  where
    late : (rs : List RunTold) (r : RunTold) → rs ++ r ∷ [] ≡ [] → ⊥
    late [] r e = cc
    late (x ∷ rs) r e = cc

-- ---- the last line of a cut
no_part : (p : Page) (h : Told) (ns : List NetTold) (w : List ℕ) (cs : List CutTold) (c : CutTold) (rest : List ℕ)
    → (IsHead 98 rest → ⊥) → (IsHead 114 rest → ⊥) → (IsHead 119 rest → ⊥) → (l : List ℕ) (t : State) (r : List ℕ)
    → PartStep h ns w cs c l t → rest ≡ l ++ r → ⊥
no_part p h ns w cs c rest no_b no_r no_w l t r step e = by (part_head h ns w cs c l r t step)
  where
    by : IsPartByte (head (l ++ r)) → ⊥
    by (inl a) = no_b (of_head 97 rest (ap head e ∙ a))
    by (inr (inl a)) = no_r (of_head 113 rest (ap head e ∙ a))
    by (inr (inr a)) = no_w (of_head 118 rest (ap head e ∙ a))

-- behind it no line of the cut comes
none_behind : (h : Told) (ns : List NetTold) (w : List ℕ) (cs : List CutTold) (c : CutTold) (size l : List ℕ)
    (t : State) → PartStep h ns w cs (record c { wide = Some size }) l t → ⊥
none_behind h ns w cs c size l t (inl a) = some_told (Some size) a.early.no_wide refl
none_behind h ns w cs c size l t (inr (inl a)) = some_told (Some size) a.early.no_wide refl
none_behind h ns w cs c size l t (inr (inr (inl a))) = some_told (Some size) a.no_wide refl
none_behind h ns w cs c size l t (inr (inr (inr a))) = some_told (Some size) a.no_wide refl

pub wide_on : (p : Page) (h : Told) (ns : List NetTold) (w : List ℕ) (cs : List CutTold) (k : ReadCut)
    (size rest r : List ℕ) → IsPage p → MostRead p h ns w cs k rest → MayTell true ns cs
    → HasOne (codes "wide ") size r rest → CutRead p h ns w cs k true r
wide_on p h ns w cs k size rest r page read may one =
    let c = record (read.cut) { wide = Some size } in record {
      cut = c;
      kept = record {
        named = read.kept.named;
        reached = read.kept.reached;
        blocked = read.kept.blocked;
        runs = read.kept.runs;
      };
      at = line_on p (Parts h ns w cs read.cut) (Parts h ns w cs c) (wide_line size) rest r page read.at
          (inl (inr (inr (inr (record {
            no_wide = read.no_wide;
            may = may;
            size = size;
            number = one.number;
            is = refl;
            to = refl;
          }))))) (one_line (codes "wide ") size r rest one);
      wide_is = refl;
      may = may;
      no_part = λ l t x step e. none_behind h ns w cs read.cut size l t step;
    }

pub wide_stop : (p : Page) (h : Told) (ns : List NetTold) (w : List ℕ) (cs : List CutTold) (k : ReadCut)
    (rest : List ℕ) → MostRead p h ns w cs k rest → IsHead 119 rest
    → ((size r : List ℕ) → MayTell true ns cs → HasOne (codes "wide ") size r rest → ⊥) → IsStopped p rest
wide_stop p h ns w cs k rest read first none = record {
  state = Parts h ns w cs read.cut;
  at = read.at;
  stuck = part_stuck p h ns w cs read.cut rest 119 first (inr (inr refl)) (λ l t x step f. elim step [
    | inl a ↦ read.no_blocker (of_head 97 rest (ap head f ∙ ap (λ (z : List ℕ). head (z ++ x)) a.is))
    | inr rest_of ↦ elim rest_of [
      | inl a ↦ read.no_blocker (of_head 97 rest (ap head f ∙ ap (λ (z : List ℕ). head (z ++ x)) a.is))
      | inr last ↦ elim last [
        | inl a ↦ read.no_run (of_head 113 rest (ap head f ∙ ap (λ (z : List ℕ). head (z ++ x)) a.is))
        | inr a ↦ none a.size x a.may
            (one_of_line (codes "wide ") a.size x rest a.number (shown l (wide_line a.size) x rest f a.is))
      ]
    ]
  ]);
}

pub plain_on : (p : Page) (h : Told) (ns : List NetTold) (w : List ℕ) (cs : List CutTold) (k : ReadCut)
    (rest : List ℕ) → MostRead p h ns w cs k rest → MayTell false ns cs → (IsHead 119 rest → ⊥)
    → CutRead p h ns w cs k false rest
plain_on p h ns w cs k rest read may no_w = record {
  cut = read.cut;
  kept = read.kept;
  at = read.at;
  wide_is = ap (λ (o : Option (List ℕ)). is_some o) read.no_wide;
  may = may;
  no_part = no_part p h ns w cs read.cut rest read.no_blocker read.no_run no_w;
}

pub plain_stop : (p : Page) (h : Told) (ns : List NetTold) (w : List ℕ) (cs : List CutTold) (k : ReadCut)
    (rest : List ℕ) → MostRead p h ns w cs k rest → (MayTell false ns cs → ⊥) → (IsHead 119 rest → ⊥)
    → IsStopped p rest
plain_stop p h ns w cs k rest read may_not no_w = record {
  state = Parts h ns w cs read.cut;
  at = read.at;
  stuck = record { none = each; more = λ e f. e };
}
  where
    own : MayTell (tells_wide read.cut) ns cs → ⊥
    own may = may_not (subst (λ (o : Option (List ℕ)). MayTell (is_some o) ns cs) read.no_wide may)

    each : (l : List ℕ) (t : State) (r : List ℕ) → Next p (Parts h ns w cs read.cut) l t → rest ≡ l ++ r → ⊥
    each l t r (inl a) e = no_part p h ns w cs read.cut rest read.no_blocker read.no_run no_w l t r a e
    each l t r (inr (inl a)) e = own a.may
    each l t r (inr (inr a)) e = own a.may

-- ---- behind a cut
module _ (p : Page) (h : Told) (ns : List NetTold) (w : List ℕ) (cs : List CutTold) (k : ReadCut) (wide : Bool)
    (rest : List ℕ) (read : CutRead p h ns w cs k wide rest) where
  own_may : MayTell (tells_wide read.cut) ns cs
  own_may = like_cut wide ns cs read.cut read.wide_is read.may

  pub before_next : length (cs ++ read.cut ∷ []) < value w → IsBeforeCut p h ns w (cs ++ read.cut ∷ []) rest
  before_next less = record {
    state = Parts h ns w cs read.cut;
    at = read.at;
    going = λ e. e;
    only = λ l t r step e. elim step [
      | inl a ↦ absurd (read.no_part l t r a e)
      | inr rest_of ↦ elim rest_of [ inl a ↦ a.step | inr a ↦ absurd (omega (arith, less, a.full)) ]
    ];
    all = λ l t step. inr (inl (record { may = own_may; step = step }));
  }

  pub between_next : length (cs ++ read.cut ∷ []) ≡ value w
      → IsBetween p h (ns ++ opened w (cs ++ read.cut ∷ []) ∷ []) rest
  between_next full = record {
    state = Parts h ns w cs read.cut;
    at = read.at;
    going = λ e. e;
    only = λ l t r step e. elim step [
      | inl a ↦ absurd (read.no_part l t r a e)
      | inr rest_of ↦ elim rest_of [
        | inl a ↦ let more = a.step.more in absurd (omega (arith, full, more))
        | inr a ↦ a.step
      ]
    ];
    all = λ l t step. inr (inr (record { may = own_may; full = full; step = step }));
  }

pub first_cut : (p : Page) (h : Told) (ns : List NetTold) (w rest : List ℕ) → At p (Opened h ns w) rest
    → IsBeforeCut p h ns w [] rest
first_cut p h ns w rest at =
    record { state = Opened h ns w; at = at; going = λ e. e; only = λ l t r step e. step; all = λ l t step. step }

-- ---- nets
pub first_net : (p : Page) (h : Told) (ns : List NetTold) (rest : List ℕ) → At p (Netting h ns) rest
    → IsBetween p h ns rest
first_net p h ns rest at =
    record { state = Netting h ns; at = at; going = λ e. e; only = λ l t r step e. step; all = λ l t step. step }

pub whole_on : (p : Page) (h : Told) (ns : List NetTold) (name rest r : List ℕ) → IsPage p → IsBetween p h ns rest
    → length ns < length p.design.nets → name_after p.design ns ≡ name → HasWhole name r rest
    → IsBetween p h (ns ++ whole ∷ []) r
whole_on p h ns name rest r page between below same has =
    let t = Netting h (ns ++ whole ∷ []) in
    first_net p h (ns ++ whole ∷ []) r
    (line_on p between.state t (complete_line name) rest r page between.at
    (between.all (complete_line name) t (inl (record { below = below; is = ap complete_line (sym same); to = refl })))
    has.is)

pub opened_on : (p : Page) (h : Told) (ns : List NetTold) (name w rest r : List ℕ) → IsPage p → IsBetween p h ns rest
    → length ns < length p.design.nets → name_after p.design ns ≡ name → HasOpened name w r rest
    → At p (Opened h ns w) r
opened_on p h ns name w rest r page between below same has =
    line_on p between.state (Opened h ns w) (opened_line name w) rest r page between.at
    (between.all (opened_line name w) (Opened h ns w) (inr (inl (record {
      below = below;
      islands = w;
      number = has.number;
      many = has.many;
      is = ap (λ (x : List ℕ). opened_line x w) (sym same);
      to = refl;
    })))) has.is

pub net_stop : (p : Page) (h : Told) (ns : List NetTold) (name rest : List ℕ) → IsBetween p h ns rest
    → length ns < length p.design.nets → name_after p.design ns ≡ name → HasNoNetLine name rest → IsStopped p rest
net_stop p h ns name rest between below same none = record {
  state = between.state;
  at = between.at;
  stuck = record { none = λ l t r step e. by l t r (between.only l t r step e) e; more = λ e f. between.going e };
}
  where
    by : (l : List ℕ) (t : State) (r : List ℕ) → NetStep p h ns l t → rest ≡ l ++ r → ⊥
    by l t r (inl a) e =
        none.no_whole r (record { is = shown l (complete_line name) r rest e (a.is ∙ ap complete_line same) })
    by l t r (inr (inl a)) e = none.no_opened a.islands r (record {
      number = a.number;
      many = a.many;
      is = shown l (opened_line name a.islands) r rest e
          (a.is ∙ ap (λ (x : List ℕ). opened_line x a.islands) same);
    })
    by l t r (inr (inr a)) e = omega (arith, below, a.all)

-- ---- the last line
pub total_on : (p : Page) (h : Told) (ns : List NetTold) (rest r : List ℕ) → IsPage p → IsBetween p h ns rest
    → length ns ≡ length p.design.nets → rest ≡ total_line ns ++ r → At p (Ended (record h { nets = ns })) r
total_on p h ns rest r page between all e =
    let t = Ended (record h { nets = ns }) in
    line_on p between.state t (total_line ns) rest r page between.at
    (between.all (total_line ns) t (inr (inr (record { all = all; is = refl; to = refl })))) e

pub total_stop : (p : Page) (h : Told) (ns : List NetTold) (rest : List ℕ) → IsBetween p h ns rest
    → length ns ≡ length p.design.nets → ((r : List ℕ) → rest ≡ total_line ns ++ r → ⊥) → IsStopped p rest
total_stop p h ns rest between all none = record {
  state = between.state;
  at = between.at;
  stuck = record { none = λ l t r step e. by l t r (between.only l t r step e) e; more = λ e f. between.going e };
}
  where
    by : (l : List ℕ) (t : State) (r : List ℕ) → NetStep p h ns l t → rest ≡ l ++ r → ⊥
    by l t r (inl a) e = omega (arith, a.below, all)
    by l t r (inr (inl a)) e = omega (arith, a.below, all)
    by l t r (inr (inr a)) e = none r (shown l (total_line ns) r rest e a.is)

pub end_stop : (p : Page) (t : Told) (rest : List ℕ) → At p (Ended t) rest → (rest ≡ [] → ⊥) → IsStopped p rest
end_stop p t rest at some = record {
  state = Ended t;
  at = at;
  stuck = record { none = λ l s r step e. step; more = λ e f. some f };
}

-- ---- what is kept
pub kept_more : (own : List (List ℕ)) (cs : List CutTold) (ks : List ReadCut) (c : CutTold) (k : ReadCut)
    → AreCutsKept own cs ks → IsCutKept (slice_get own (length cs)) c k
    → AreCutsKept own (cs ++ c ∷ []) (ks ++ k ∷ [])
kept_more [] [] [] c k h one = (one, tt)
kept_more (first ∷ own) [] [] c k h one = (one, tt)
kept_more own [] (y ∷ ks) c k h one = absurd h
kept_more own (x ∷ cs) [] c k h one = absurd h
kept_more [] (x ∷ cs) (y ∷ ks) c k h one = (h.0, kept_more [] cs ks c k h.1 one)
kept_more (first ∷ own) (x ∷ cs) (y ∷ ks) c k h one = (h.0, kept_more own cs ks c k h.1 one)

pub nets_kept_more : (firsts : List (List (List ℕ))) (ns : List NetTold) (ks : List (List ReadCut)) (n : NetTold)
    (k : List ReadCut) (own : List (List ℕ)) → AreNetsKept firsts ns ks → slice_get firsts (length ns) ≡ Some own
    → AreCutsKept own n.cuts k → AreNetsKept firsts (ns ++ n ∷ []) (ks ++ k ∷ [])
nets_kept_more [] [] [] n k own h e one = cc
nets_kept_more (first ∷ firsts) [] [] n k own h e one =
    (subst (λ (x : List (List ℕ)). AreCutsKept x n.cuts k) (some_is own first (sym e)) one, tt)
  where
    some_is : (a b : List (List ℕ)) → Some a ≡ Some b → a ≡ b
    some_is a b e = cc
nets_kept_more firsts [] (y ∷ ks) n k own h e one = absurd h
nets_kept_more firsts (x ∷ ns) [] n k own h e one = absurd h
nets_kept_more [] (x ∷ ns) (y ∷ ks) n k own h e one = absurd h
nets_kept_more (first ∷ firsts) (x ∷ ns) (y ∷ ks) n k own h e one =
    (h.0, nets_kept_more firsts ns ks n k own h.1 e one)
