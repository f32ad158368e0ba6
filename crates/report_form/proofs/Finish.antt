-- What was told so far can be filled up: some report begins so.
use Rattle.std.proofs.Common.{◌≡◌, inl, inr, ℕ, zero, suc, ◌+◌, ◌-◌, ◌<◌, Bool, true, false, List, [], ◌∷◌, ◌++◌}
use Rattle.std.proofs.Common.{length, refl, arith, Option, Some, None, ◌≢◌}
use Rattle.std.specs.Prelude.{codes, slice_get}
use Rattle.std.proofs.lemmas.List.{length_push}
use Rattle.std.proofs.lemmas.List.Elements.{All-nil}
use Rattle.report_form.specs.Form.{Told, NetTold, CutTold, PassTold, IsNumber, IsName, IsNameBeside, has_mark, value}
use Rattle.report_form.specs.Form.{line, cut_line, size_line, tells_wide, total_line, wide_line}
use Rattle.report_form.specs.inner.State.{Page, State, Start, Named, Sized, Gridded, Dropping, Passing, Joining}
use Rattle.report_form.specs.inner.State.{Netting}
use Rattle.report_form.specs.inner.State.{Opened, Parts, Ended, CutStep, Next, Path, IsGood, gridded, whole, opened}
use Rattle.report_form.specs.inner.State.{bare, IsParts, MayTell}
use Rattle.report_form.specs.inner.State.{name_after, firsts_after, board_line, grid_line, pass_line, complete_line}
use Rattle.report_form.proofs.Tours.{LeadsNets}
use Rattle.report_form.proofs.Alike.{like_cut, no_cuts_yet, none_told, tell_more}

pub record Finished (p : Page) (s : State) : Type 0 where
  pub lines : List (List ℕ)
  pub told : Told
  pub path : Path p s lines (Ended told)

-- a line before others
behind : (p : Page) (s t : State) (l : List ℕ) → Next p s l t → Finished p t → Finished p s
behind p s t l step f = record { lines = l ∷ f.lines; told = f.told; path = (t, step, f.path) }

zero_number : IsNumber (codes "0")
zero_number = refl

-- ---- nets
finish_nets : (p : Page) (h : Told) (ns : List NetTold) (s : State) (k : ℕ) → LeadsNets p h ns s
    → length ns + k ≡ length p.design.nets → Finished p s
finish_nets p h ns s zero leads e = record {
  lines = total_line ns ∷ [];
  told = record h { nets = ns };
  path = (
    Ended (record h { nets = ns }),
    leads.all (total_line ns) (Ended (record h { nets = ns }))
        (inr (inr (record { all = omega (arith, e); is = refl; to = refl }))),
    refl,
  );
}
finish_nets p h ns s (suc k) leads e =
    let t = Netting h (ns ++ whole ∷ []) in
    let l = complete_line (name_after p.design ns) in
    behind p s t l (leads.all l t (inl (record { below = omega (arith, e); is = refl; to = refl })))
    (finish_nets p h (ns ++ whole ∷ []) t k (record { all = λ l t step. step })
    (omega (arith, e, length_push ns whole)))

-- ---- cuts
-- a name that can stand behind `cut`
record Filler (first : Option (List ℕ)) : Type 0 where
  pin : List ℕ
  is : IsName first pin

record FillerBeside (b : Bool) (first : List ℕ) : Type 0 where
  pin : List ℕ
  is : IsNameBeside b first pin

filler_beside : (b : Bool) (first : List ℕ) → FillerBeside b first
filler_beside true first = record { pin = first; is = refl }
filler_beside false first = record { pin = []; is = All-nil (λ (c : ℕ). c ≢ 34) }

filler : (first : Option (List ℕ)) → Filler first
filler None = record { pin = []; is = All-nil (λ (c : ℕ). c ≢ 34) }
filler (Some first) = let x = filler_beside (has_mark first) first in record { pin = x.pin; is = x.is }

-- a cut whose name is this
pub filled : List ℕ → CutTold
filled pin = bare pin (codes "0") (codes "0")

-- it has no last line
no_last : (pin : List ℕ) → (filled pin).wide ≡ None
unfolding filled
no_last pin = refl

plain : (pin : List ℕ) → tells_wide (filled pin) ≡ false
unfolding filled
plain pin = refl

fill : (p : Page) (h : Told) (ns : List NetTold) (islands : List ℕ) (cs : List CutTold) (pin : List ℕ)
    → length cs < value islands → IsName (slice_get (firsts_after p.firsts ns) (length cs)) pin
    → CutStep p h ns islands cs (cut_line (filled pin)) (Parts h ns islands cs (filled pin))
unfolding filled
fill p h ns islands cs pin less name = record {
  more = less;
  pin = pin;
  reached = codes "0";
  blocked = codes "0";
  name = name;
  first = refl;
  second = refl;
  is = refl;
  to = refl;
}

-- with its last line
abbrev ended : CutTold → CutTold
ended c = record c { wide = Some (codes "0") }

end_cut : (p : Page) (h : Told) (ns : List NetTold) (islands : List ℕ) (cs : List CutTold) (c : CutTold)
    → c.wide ≡ None → MayTell true ns cs → Finished p (Parts h ns islands cs (ended c))
    → Finished p (Parts h ns islands cs c)
end_cut p h ns islands cs c none may f =
    behind p (Parts h ns islands cs c) (Parts h ns islands cs (ended c)) (wide_line (codes "0"))
    (inl (inr (inr (inr (record {
      no_wide = none;
      may = may;
      size = codes "0";
      number = zero_number;
      is = refl;
      to = refl;
    }))))) f

finish_cuts : (p : Page) (h : Told) (ns : List NetTold) (islands : List ℕ) (cs : List CutTold) (c : CutTold)
    (wide : Bool) (k : ℕ) → length ns < length p.design.nets → MayTell wide ns cs → tells_wide c ≡ wide
    → length (cs ++ c ∷ []) + k ≡ value islands → Finished p (Parts h ns islands cs c)
finish_cuts p h ns islands cs c wide zero less may own e =
    let n = opened islands (cs ++ c ∷ []) in
    let full : length (cs ++ c ∷ []) ≡ value islands = omega (arith, e) in
    finish_nets p h (ns ++ n ∷ []) (Parts h ns islands cs c) (length p.design.nets - length (ns ++ n ∷ []))
    (record { all = λ l t step. inr (inr (record { may = like_cut wide ns cs c own may; full = full; step = step })) })
    (omega (arith, length_push ns n, less))
finish_cuts p h ns islands cs c false (suc k) less may own e =
    let done = cs ++ c ∷ [] in
    let x = filler (slice_get (firsts_after p.firsts ns) (length done)) in
    behind p (Parts h ns islands cs c) (Parts h ns islands done (filled x.pin)) (cut_line (filled x.pin))
    (inr (inl (record {
      may = like_cut false ns cs c own may;
      step = fill p h ns islands done x.pin (omega (arith, e)) x.is;
    })))
    (finish_cuts p h ns islands done (filled x.pin) false k less (tell_more false ns cs c may own) (plain x.pin)
    (omega (arith, e, length_push done (filled x.pin))))
finish_cuts p h ns islands cs c true (suc k) less may own e =
    let done = cs ++ c ∷ [] in
    let x = filler (slice_get (firsts_after p.firsts ns) (length done)) in
    let more = tell_more true ns cs c may own in
    behind p (Parts h ns islands cs c) (Parts h ns islands done (filled x.pin)) (cut_line (filled x.pin))
    (inr (inl (record {
      may = like_cut true ns cs c own may;
      step = fill p h ns islands done x.pin (omega (arith, e)) x.is;
    })))
    (end_cut p h ns islands done (filled x.pin) (no_last x.pin) more
    (finish_cuts p h ns islands done (ended (filled x.pin)) true k less more refl
    (omega (arith, e, length_push done (ended (filled x.pin))))))

-- a cut that is begun, and those behind it
finish_begun : (p : Page) (h : Told) (ns : List NetTold) (islands : List ℕ) (cs : List CutTold) (c : CutTold)
    (wide : Bool) (k : ℕ) → length ns < length p.design.nets → MayTell wide ns cs → tells_wide c ≡ false
    → length (cs ++ c ∷ []) + k ≡ value islands → Finished p (Parts h ns islands cs c)
finish_begun p h ns islands cs c false k less may own e = finish_cuts p h ns islands cs c false k less may own e
finish_begun p h ns islands cs c true k less may own e =
    end_cut p h ns islands cs c (none_told c.wide own) may
    (finish_cuts p h ns islands cs (ended c) true k less may refl
    (omega (arith, e, length_push cs c, length_push cs (ended c))))

finish_parts : (p : Page) (h : Told) (ns : List NetTold) (islands : List ℕ) (cs : List CutTold) (c : CutTold)
    → IsParts p h ns islands cs c → Finished p (Parts h ns islands cs c)
finish_parts p h ns islands cs c good = by (tells_wide c) refl
  where
    left : length (cs ++ c ∷ []) + (value islands - length (cs ++ c ∷ [])) ≡ value islands
    left = let within = good.opened.within in omega (arith, within)

    by : (b : Bool) → tells_wide c ≡ b → Finished p (Parts h ns islands cs c)
    by true own = finish_cuts p h ns islands cs c true (value islands - length (cs ++ c ∷ [])) good.opened.below
        (good.may own) own left
    by false own = finish_begun p h ns islands cs c good.alike.wide (value islands - length (cs ++ c ∷ []))
        good.opened.below good.alike.each own left

-- ---- places
finish_places : (p : Page) (h : Told) (ps : List (List ℕ)) (k : ℕ) → length ps + k ≡ value h.dropped
    → ((h : Told) → Finished p (Passing h [])) → Finished p (Dropping h ps)
finish_places p h ps zero e f =
    let g = record h { places = ps; notes = codes "0" } in
    behind p (Dropping h ps) (Passing g []) (line (codes "notes " ++ codes "0"))
    (inr (record { all = omega (arith, e); notes = codes "0"; number = zero_number; is = refl; to = refl })) (f g)
finish_places p h ps (suc k) e f =
    let more = ps ++ codes "0" ∷ [] in
    behind p (Dropping h ps) (Dropping h more) (line (codes "drop " ++ codes "0"))
    (inl (record { more = omega (arith, e); place = codes "0"; number = zero_number; is = refl; to = refl }))
    (finish_places p h more k (omega (arith, e, length_push ps (codes "0"))) f)

-- ---- the other states, from the last on
finish_joining : (p : Page) (h : Told) → Finished p (Joining h)
finish_joining p h =
    let g = record h { joins = codes "0" } in
    behind p (Joining h) (Netting g []) (line (codes "joins " ++ codes "0"))
    (record { joins = codes "0"; number = zero_number; is = refl; to = refl })
    (finish_nets p g [] (Netting g []) (length p.design.nets) (record { all = λ l t step. step }) (omega arith))

finish_passing : (p : Page) (h : Told) (ps : List PassTold) → Finished p (Passing h ps)
finish_passing p h ps =
    let x : PassTold = record { commits = codes "0"; parted = codes "0" } in
    let more = ps ++ x ∷ [] in
    let g = record h { passes = more; kept = codes "0" } in
    behind p (Passing h ps) (Passing h more) (pass_line (1 + length ps) x) (inl (record {
      pass = x;
      told = record { commits = zero_number; parted = zero_number };
      is = refl;
      to = refl;
    }))
    (behind p (Passing h more) (Joining g) (line (codes "kept " ++ codes "0")) (inr (record {
      some = omega (arith, length_push ps x);
      kept = codes "0";
      number = zero_number;
      is = refl;
      to = refl;
    })) (finish_joining p g))

pub finish_gridded : (p : Page) (h : Told) → Finished p (Gridded h)
finish_gridded p h =
    let g = record h { dropped = codes "0" } in
    behind p (Gridded h) (Dropping g []) (line (codes "dropped " ++ codes "0"))
    (record { dropped = codes "0"; number = zero_number; is = refl; to = refl })
    (finish_places p g [] zero refl (λ k. finish_passing p k []))

finish_sized : (p : Page) (grid nodes : List ℕ) → Next p Sized (grid_line grid nodes) (Gridded (gridded grid nodes))
    → Finished p Sized
finish_sized p grid nodes step =
    behind p Sized (Gridded (gridded grid nodes)) (grid_line grid nodes) step (finish_gridded p (gridded grid nodes))

-- a line of a grid that is in range
pub GridTold : List ℕ → Type 0
GridTold nodes = (p : Page) → Next p Sized (grid_line (codes "1000") nodes) (Gridded (gridded (codes "1000") nodes))

pub grid_told : (nodes : List ℕ) → IsNumber nodes → GridTold nodes
unfolding GridTold
grid_told nodes number p = record {
  grid = codes "1000";
  nodes = nodes;
  good = record { grid = refl; grid_from = omega arith; grid_to = omega arith; nodes = number };
  is = refl;
  to = refl;
}

-- up to the grid, with these nodes
pub finish_early : (p : Page) (nodes : List ℕ) → GridTold nodes → Finished p Start × Finished p Named × Finished p Sized
unfolding GridTold
finish_early p nodes step =
    let sized = finish_sized p (codes "1000") nodes (step p) in
    let named = behind p Named Sized (size_line p.design) (refl, refl) sized in
    (behind p Start Named (board_line p.design) (refl, refl) named, named, sized)

-- what is told so far is the beginning of a report
pub finish : (p : Page) (s : State) → IsGood p s → Finished p s
finish p Start good = (finish_early p (codes "0") (grid_told (codes "0") zero_number)).0
finish p Named good = (finish_early p (codes "0") (grid_told (codes "0") zero_number)).1
finish p Sized good = (finish_early p (codes "0") (grid_told (codes "0") zero_number)).2
finish p (Gridded h) good = finish_gridded p h
finish p (Dropping h ps) good =
    finish_places p h ps (value h.dropped - length ps) (omega (arith, good.within)) (λ k. finish_passing p k [])
finish p (Passing h ps) good = finish_passing p h ps
finish p (Joining h) good = finish_joining p h
finish p (Netting h ns) good =
    finish_nets p h ns (Netting h ns) (length p.design.nets - length ns) (record { all = λ l t step. step })
    (omega (arith, good.within))
finish p (Opened h ns islands) good =
    let x = filler (slice_get (firsts_after p.firsts ns) 0) in
    behind p (Opened h ns islands) (Parts h ns islands [] (filled x.pin)) (cut_line (filled x.pin))
    (fill p h ns islands [] x.pin (omega (arith, good.many)) x.is)
    (finish_begun p h ns islands [] (filled x.pin) good.before.alike.wide (value islands - 1) good.below
    (no_cuts_yet good.before.alike.wide ns good.before.alike.each) (plain x.pin) (omega (arith, good.many)))
finish p (Parts h ns islands cs c) good = finish_parts p h ns islands cs c good
finish p (Ended t) good = record { lines = []; told = t; path = refl }
