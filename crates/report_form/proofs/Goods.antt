-- What is told so far is told as in a report when a line more was read.
use Rattle.std.proofs.Common.{◌≡◌, inl, inr, ℕ, ◌<◌, List, [], ◌∷◌, ◌++◌, length, refl, sym}
use Rattle.std.proofs.Common.{◌∙◌, subst, arith, All, Bool, true, false, true≢false, Some}
use Rattle.std.specs.Prelude.{slice_get}
use Rattle.std.specs.List.{AllZip}
use Rattle.std.proofs.lemmas.List.{length_push}
use Rattle.std.proofs.lemmas.List.Elements.{All-push, All-nil}
use Rattle.pcb_model.specs.declared.item.Kind.{Kind}
use Rattle.report_form.specs.Form.{Told, NetTold, CutTold, IsNumber, IsRun, IsCutTold, AreCutsTold}
use Rattle.report_form.specs.Form.{IsNetTold, IsPassTold, IsTold, tells_wide, value}
use Rattle.report_form.specs.inner.State.{Page, State, Start, Named, Sized, Gridded, Dropping, Passing, Joining}
use Rattle.report_form.specs.inner.State.{Netting}
use Rattle.report_form.specs.inner.State.{Opened, Parts, Ended, AreNetsTold}
use Rattle.report_form.specs.inner.State.{IsNetting, IsOpened, IsParts, IsGood, MayTell}
use Rattle.report_form.specs.inner.State.{NetStep, CutStep, PartStep}
use Rattle.report_form.specs.inner.State.{Next, Path, whole, opened, bare, own_firsts, firsts_after, IsPage}
use Rattle.report_form.proofs.Alike.{Tells, no_cuts_yet, tell_more, tell_net}

-- ---- lists with one more
all_more : {X : Type 0} (P : X → Type 0) (xs : List X) (x : X) → All P xs → P x → All P (xs ++ x ∷ [])
all_more P xs x h one = All-push P xs x h one

pub cut_more : (own : List (List ℕ)) (cs : List CutTold) (c : CutTold) → AreCutsTold own cs
    → IsCutTold (slice_get own (length cs)) c → AreCutsTold own (cs ++ c ∷ [])
cut_more [] [] c h one = (one, tt)
cut_more (first ∷ own) [] c h one = (one, tt)
cut_more [] (x ∷ cs) c h one = (h.0, cut_more [] cs c h.1 one)
cut_more (first ∷ own) (x ∷ cs) c h one = (h.0, cut_more own cs c h.1 one)

pub cut_less : (own : List (List ℕ)) (cs : List CutTold) (c : CutTold) → AreCutsTold own (cs ++ c ∷ [])
    → AreCutsTold own cs × IsCutTold (slice_get own (length cs)) c
cut_less [] [] c h = (tt, h.0)
cut_less (first ∷ own) [] c h = (tt, h.0)
cut_less [] (x ∷ cs) c h = let rest = cut_less [] cs c h.1 in ((h.0, rest.0), rest.1)
cut_less (first ∷ own) (x ∷ cs) c h = let rest = cut_less own cs c h.1 in ((h.0, rest.0), rest.1)

pub net_more : (firsts : List (List (List ℕ))) (ns : List NetTold) (n : NetTold) → AreNetsTold firsts ns
    → length ns < length firsts → IsNetTold (own_firsts (slice_get firsts (length ns))) n
    → AreNetsTold firsts (ns ++ n ∷ [])
net_more [] ns n h less one = absurd (omega arith)
net_more (first ∷ firsts) [] n h less one = (one, tt)
net_more (first ∷ firsts) (x ∷ ns) n h less one = (h.0, net_more firsts ns n h.1 (omega arith) one)

-- nets from the first on, as many as there are
pub all_nets_told : (firsts : List (List (List ℕ))) (ns : List NetTold) → AreNetsTold firsts ns
    → length ns ≡ length firsts → AllZip IsNetTold firsts ns
all_nets_told [] [] h e = tt
all_nets_told [] (n ∷ ns) h e = absurd h
all_nets_told (first ∷ firsts) [] h e = absurd (omega arith)
all_nets_told (first ∷ firsts) (n ∷ ns) h e = (h.0, all_nets_told firsts ns h.1 (omega arith))

-- ---- a net more
whole_told : (own : List (List ℕ)) → IsNetTold own whole
whole_told own = record { counts = inl (refl, refl); cuts = tt }

pub complete_more : (p : Page) (h : Told) (ns : List NetTold) → IsPage p → IsNetting p h ns
    → length ns < length p.design.nets → IsNetting p h (ns ++ whole ∷ [])
complete_more p h ns page good less = record {
  front = good.front;
  nets = net_more p.firsts ns whole good.nets (omega (arith, page.same, less)) (whole_told (firsts_after p.firsts ns));
  within = omega (arith, length_push ns whole, less);
  alike = record {
    wide = good.alike.wide;
    each = tell_net good.alike.wide ns whole (no_cuts_yet good.alike.wide ns good.alike.each);
  };
}

pub opened_more : (p : Page) (h : Told) (ns : List NetTold) (islands : List ℕ) (cs : List CutTold) (wide : Bool)
    → IsPage p → IsOpened p h ns islands cs → MayTell wide ns cs → length cs ≡ value islands
    → IsNetting p h (ns ++ opened islands cs ∷ [])
opened_more p h ns islands cs wide page good may full = record {
  front = good.before.front;
  nets = net_more p.firsts ns (opened islands cs) good.before.nets (omega (arith, page.same, good.below)) (record {
    counts = inr (omega (arith, good.many, full), good.number, sym full);
    cuts = good.cuts;
  });
  within = omega (arith, length_push ns (opened islands cs), good.below);
  alike = record { wide = wide; each = tell_net wide ns (opened islands cs) may };
}

told_from : (p : Page) (h : Told) (ns : List NetTold) → IsPage p → IsNetting p h ns
    → length ns ≡ length p.design.nets → IsTold p.design p.firsts (record h { nets = ns })
told_from p h ns page good all = record {
  grid = good.front.head.grid.grid;
  grid_from = good.front.head.grid.grid_from;
  grid_to = good.front.head.grid.grid_to;
  nodes = good.front.head.grid.nodes;
  dropped = good.front.head.dropped;
  drops = good.front.head.drops;
  places = good.front.head.places;
  notes = good.front.head.notes;
  some_pass = good.front.some_pass;
  passes = good.front.passes;
  kept = good.front.kept;
  joins = good.front.joins;
  all_nets = all;
  nets = all_nets_told p.firsts ns good.nets (all ∙ sym page.same);
  alike = good.alike;
}

-- ---- by cases on what comes
good_net : (p : Page) (h : Told) (ns : List NetTold) (l : List ℕ) (t : State) → IsPage p → IsNetting p h ns
    → NetStep p h ns l t → IsGood p t
good_net p h ns l t page good (inl e) =
    subst (λ (s : State). IsGood p s) (sym e.to) (complete_more p h ns page good e.below)
good_net p h ns l t page good (inr (inl e)) = subst (λ (s : State). IsGood p s) (sym e.to) (record {
  before = good;
  below = e.below;
  number = e.number;
  many = e.many;
  within = omega arith;
  cuts = tt;
})
good_net p h ns l t page good (inr (inr e)) =
    subst (λ (s : State). IsGood p s) (sym e.to) (told_from p h ns page good e.all)

cut_step_good : (p : Page) (h : Told) (ns : List NetTold) (islands : List ℕ) (cs : List CutTold) (wide : Bool)
    (l : List ℕ) (t : State) → IsOpened p h ns islands cs → MayTell wide ns cs → CutStep p h ns islands cs l t
    → IsGood p t
cut_step_good p h ns islands cs wide l t good may e =
    let c = bare e.pin e.reached e.blocked in
    subst (λ (s : State). IsGood p s) (sym e.to) (record {
      opened = record {
        before = good.before;
        below = good.below;
        number = good.number;
        many = good.many;
        within = omega (arith, length_push cs c, e.more);
        cuts = cut_more (firsts_after p.firsts ns) cs c good.cuts (record {
          pin = e.name;
          reached = e.first;
          blocked = e.second;
          by_items = All-nil (λ (b : Kind × List ℕ). IsNumber b.1);
          runs = All-nil IsRun;
          wide = tt;
        });
      };
      alike = record { wide = wide; each = may };
      may = λ no. absurd (true≢false (sym no));
    })

-- another last cut that is told
other_last : (p : Page) (h : Told) (ns : List NetTold) (islands : List ℕ) (cs : List CutTold) (c e : CutTold)
    → IsOpened p h ns islands (cs ++ c ∷ [])
    → (IsCutTold (slice_get (firsts_after p.firsts ns) (length cs)) c
    → IsCutTold (slice_get (firsts_after p.firsts ns) (length cs)) e)
    → IsOpened p h ns islands (cs ++ e ∷ [])
other_last p h ns islands cs c e good f =
    let both = cut_less (firsts_after p.firsts ns) cs c good.cuts in record {
      before = good.before;
      below = good.below;
      number = good.number;
      many = good.many;
      within = omega (arith, good.within, length_push cs c, length_push cs e);
      cuts = cut_more (firsts_after p.firsts ns) cs e both.0 (f both.1);
    }

-- so it is with one that tells how far moves at 45 degrees reach only where those before do
other_parts : (p : Page) (h : Told) (ns : List NetTold) (islands : List ℕ) (cs : List CutTold) (c e : CutTold)
    → IsParts p h ns islands cs c
    → (IsCutTold (slice_get (firsts_after p.firsts ns) (length cs)) c
    → IsCutTold (slice_get (firsts_after p.firsts ns) (length cs)) e)
    → (tells_wide e ≡ true → MayTell true ns cs) → IsParts p h ns islands cs e
other_parts p h ns islands cs c e good f may =
    record { opened = other_last p h ns islands cs c e good.opened f; alike = good.alike; may = may }

good_part : (p : Page) (h : Told) (ns : List NetTold) (islands : List ℕ) (cs : List CutTold) (c : CutTold)
    (l : List ℕ) (t : State) → IsParts p h ns islands cs c → PartStep h ns islands cs c l t → IsGood p t
good_part p h ns islands cs c l t good (inl e) = subst (λ (s : State). IsGood p s) (sym e.to)
    (other_parts p h ns islands cs c (record c { by_items = c.by_items ++ e.item ∷ [] }) good (λ k. record {
      pin = k.pin;
      reached = k.reached;
      blocked = k.blocked;
      by_items = all_more (λ (b : Kind × List ℕ). IsNumber b.1) c.by_items e.item k.by_items e.number;
      runs = k.runs;
      wide = k.wide;
    }) good.may)
good_part p h ns islands cs c l t good (inr (inl e)) = subst (λ (s : State). IsGood p s) (sym e.to)
    (other_parts p h ns islands cs c (record c { by_outside = true }) good (λ k. record {
      pin = k.pin;
      reached = k.reached;
      blocked = k.blocked;
      by_items = k.by_items;
      runs = k.runs;
      wide = k.wide;
    }) good.may)
good_part p h ns islands cs c l t good (inr (inr (inl e))) = subst (λ (s : State). IsGood p s) (sym e.to)
    (other_parts p h ns islands cs c (record c { runs = c.runs ++ e.run ∷ [] }) good (λ k. record {
      pin = k.pin;
      reached = k.reached;
      blocked = k.blocked;
      by_items = k.by_items;
      runs = all_more IsRun c.runs e.run k.runs e.told;
      wide = k.wide;
    }) good.may)
good_part p h ns islands cs c l t good (inr (inr (inr e))) = subst (λ (s : State). IsGood p s) (sym e.to)
    (other_parts p h ns islands cs c (record c { wide = Some e.size }) good (λ k. record {
      pin = k.pin;
      reached = k.reached;
      blocked = k.blocked;
      by_items = k.by_items;
      runs = k.runs;
      wide = e.number;
    }) (λ _. e.may))

-- what is told behind a line more is told as in a report
pub good_next : (p : Page) (s t : State) (l : List ℕ) → IsPage p → IsGood p s → Next p s l t → IsGood p t
good_next p Start t l page good e = subst (λ (s : State). IsGood p s) (sym e.1) tt
good_next p Named t l page good e = subst (λ (s : State). IsGood p s) (sym e.1) tt
good_next p Sized t l page good e = subst (λ (s : State). IsGood p s) (sym e.to) e.good
good_next p (Gridded h) t l page good e = subst (λ (s : State). IsGood p s) (sym e.to) (record {
  grid = record { grid = good.grid; grid_from = good.grid_from; grid_to = good.grid_to; nodes = good.nodes };
  dropped = e.number;
  places = All-nil IsNumber;
  within = omega arith;
})
good_next p (Dropping h ps) t l page good (inl e) = subst (λ (s : State). IsGood p s) (sym e.to) (record {
  grid = good.grid;
  dropped = good.dropped;
  places = all_more IsNumber ps e.place good.places e.number;
  within = omega (arith, length_push ps e.place, e.more);
})
good_next p (Dropping h ps) t l page good (inr e) = subst (λ (s : State). IsGood p s) (sym e.to) (record {
  head = record {
    grid = record {
      grid = good.grid.grid;
      grid_from = good.grid.grid_from;
      grid_to = good.grid.grid_to;
      nodes = good.grid.nodes;
    };
    dropped = good.dropped;
    drops = sym e.all;
    places = good.places;
    notes = e.number;
  };
  passes = All-nil IsPassTold;
})
good_next p (Passing h ps) t l page good (inl e) = subst (λ (s : State). IsGood p s) (sym e.to) (record {
  head = good.head;
  passes = all_more IsPassTold ps e.pass good.passes e.told;
})
good_next p (Passing h ps) t l page good (inr e) = subst (λ (s : State). IsGood p s) (sym e.to) (record {
  head = record {
    grid = record {
      grid = good.head.grid.grid;
      grid_from = good.head.grid.grid_from;
      grid_to = good.head.grid.grid_to;
      nodes = good.head.grid.nodes;
    };
    dropped = good.head.dropped;
    drops = good.head.drops;
    places = good.head.places;
    notes = good.head.notes;
  };
  some_pass = e.some;
  passes = good.passes;
  kept = e.number;
})
good_next p (Joining h) t l page good e = subst (λ (s : State). IsGood p s) (sym e.to) (record {
  front = record {
    head = record {
      grid = record {
        grid = good.head.grid.grid;
        grid_from = good.head.grid.grid_from;
        grid_to = good.head.grid.grid_to;
        nodes = good.head.grid.nodes;
      };
      dropped = good.head.dropped;
      drops = good.head.drops;
      places = good.head.places;
      notes = good.head.notes;
    };
    some_pass = good.some_pass;
    passes = good.passes;
    kept = good.kept;
    joins = e.number;
  };
  nets = tt;
  within = omega arith;
  alike = record { wide = false; each = All-nil (Tells false) };
})
good_next p (Netting h ns) t l page good e = good_net p h ns l t page good e
good_next p (Opened h ns islands) t l page good e =
    let alike = good.before.alike in
    cut_step_good p h ns islands [] alike.wide l t good (no_cuts_yet alike.wide ns alike.each) e
good_next p (Parts h ns islands cs c) t l page good (inl e) = good_part p h ns islands cs c l t good e
good_next p (Parts h ns islands cs c) t l page good (inr (inl e)) =
    cut_step_good p h ns islands (cs ++ c ∷ []) (tells_wide c) l t good.opened
    (tell_more (tells_wide c) ns cs c e.may refl) e.step
good_next p (Parts h ns islands cs c) t l page good (inr (inr e)) =
    good_net p h (ns ++ opened islands (cs ++ c ∷ []) ∷ []) l t page
    (opened_more p h ns islands (cs ++ c ∷ []) (tells_wide c) page good.opened
    (tell_more (tells_wide c) ns cs c e.may refl) e.full) e.step
good_next p (Ended h) t l page good e = absurd e

-- and so is what is told behind many
pub good_path : (p : Page) (s t : State) (L : List (List ℕ)) → IsPage p → IsGood p s → Path p s L t → IsGood p t
good_path p s t [] page good e = subst (λ (x : State). IsGood p x) e good
good_path p s t (l ∷ L) page good e =
    good_path p e.0 t L page (good_next p s e.0 l page good e.1) e.2
