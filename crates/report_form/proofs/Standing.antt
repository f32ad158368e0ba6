-- Where reading stands, line by line, and what a stop says of the text.
use Rattle.std.proofs.Common.{◌≡◌, ℕ, ◌+◌, ◌≤◌, List, [], ◌∷◌, ◌++◌, length, take, refl}
use Rattle.std.proofs.Common.{sym, ap}
use Rattle.std.proofs.Common.{◌∙◌, subst, arith}
use Rattle.std.proofs.lemmas.List.{append_assoc, append-nil, length-append}
use Rattle.std.proofs.lemmas.List.{take_at}
use Rattle.report_form.specs.Form.{Told, IsTold, Says, BeginsAs, IsOutOfPlace, lines, front, joined, line_ends}
use Rattle.report_form.specs.inner.State.{Page, State, Start, Ended, Next, Path, At, IsStuck}
use Rattle.report_form.specs.inner.State.{IsPage, so_far}
use Rattle.report_form.proofs.Joining.{joined-append}
use Rattle.report_form.proofs.Goods.{good_next, good_path}
use Rattle.report_form.proofs.SoFar.{adds, path_adds, path_append}
use Rattle.report_form.proofs.Tours.{tour}
use Rattle.report_form.proofs.Longest.{ahead, not_whole}
use Rattle.report_form.proofs.Finish.{finish}

-- before the first line
pub at_start : (p : Page) → At p Start p.text
at_start p = record { path = refl; good = tt; is = refl }

-- a line on
pub line_on : (p : Page) (s t : State) (l rest behind : List ℕ) → IsPage p → At p s rest → Next p s l t
    → rest ≡ l ++ behind → At p t behind
line_on p s t l rest behind page at step e =
    let more = adds p s t l at.good step in record {
      path = subst (λ (L : List (List ℕ)). Path p Start L t) (sym more)
          (path_append p Start s t (so_far p.design s) (l ∷ []) at.path (t, step, refl));
      good = good_next p s t l page at.good step;
      is = at.is ∙ ap (λ (z : List ℕ). joined (so_far p.design s) ++ z) e
          ∙ sym (append_assoc (joined (so_far p.design s)) l behind)
          ∙ ap (λ (z : List ℕ). z ++ behind) (ap (λ (z : List ℕ). joined (so_far p.design s) ++ z) (sym (append-nil l))
          ∙ sym (joined-append (so_far p.design s) (l ∷ [])) ∙ ap joined (sym more));
    }

-- behind the last line the text is the report
pub says : (p : Page) (t : Told) → At p (Ended t) [] → Says p.design t p.text
says p t at = record { is = at.is ∙ append-nil (joined (lines p.design t)) }

-- the lines so far and others
pub take_front : (xs ys zs : List (List ℕ)) → zs ≡ xs ++ ys → take (length xs) zs ≡ xs
take_front xs ys zs e = ap (λ (l : List (List ℕ)). take (length xs) l) e ∙ take_at xs ys (length xs) refl

-- a report that begins as the text does up to here
pub begins_so : (p : Page) (s : State) (rest : List ℕ) (L : List (List ℕ)) (t : Told) → IsPage p → At p s rest
    → Path p s L (Ended t) → BeginsAs p.design t p.text (length (so_far p.design s))
begins_so p s rest L t page at path =
    let whole = path_adds p s (Ended t) L page at.good path in record {
      within = omega (arith, ap length whole, length-append (so_far p.design s) L);
      rest = rest;
      is = at.is ∙ ap (λ (z : List (List ℕ)). joined z ++ rest)
          (sym (take_front (so_far p.design s) L (lines p.design t) whole));
    }

-- its front is that of the text
pub front_is : (p : Page) (s : State) (rest : List ℕ) (L : List (List ℕ)) (t : Told) → IsPage p → At p s rest
    → Path p s L (Ended t) → front p.design t (length (so_far p.design s)) ≡ joined (so_far p.design s)
front_is p s rest L t page at path =
    ap joined (take_front (so_far p.design s) L (lines p.design t) (path_adds p s (Ended t) L page at.good path))

-- no report goes further
pub no_further : (p : Page) (s : State) (rest : List ℕ) (u : Told) (n : ℕ) → At p s rest → IsStuck p s rest
    → IsTold p.design p.firsts u → BeginsAs p.design u p.text n
    → length (front p.design u n) ≤ length (joined (so_far p.design s))
no_further p s rest u n at stuck told begins =
    ahead p Start s (Ended u) (so_far p.design s) (lines p.design u) n rest begins.rest at.path stuck (tour p u told)
    begins.within (sym at.is ∙ begins.is)

-- nor does one say the text
pub no_report : (p : Page) (s : State) (rest : List ℕ) (u : Told) → At p s rest → IsStuck p s rest
    → IsTold p.design p.firsts u → Says p.design u p.text → ⊥
no_report p s rest u at stuck told says =
    not_whole p Start s u (so_far p.design s) (lines p.design u) rest at.path stuck (tour p u told)
    (sym at.is ∙ says.is)

-- the number of the line that begins here
abbrev pub line_of : Page → State → ℕ
line_of p s = 1 + line_ends (joined (so_far p.design s))

-- a line that isn't in its place
pub out_of_place : (p : Page) (s : State) (rest : List ℕ) → IsPage p → At p s rest → IsStuck p s rest
    → IsOutOfPlace p.design (IsTold p.design p.firsts) p.text (line_of p s)
out_of_place p s rest page at stuck =
    let f = finish p s at.good in
    let same = front_is p s rest f.lines f.told page at f.path in record {
      none = λ t told says. no_report p s rest t at stuck told says;
      told = f.told;
      is = good_path p s (Ended f.told) f.lines page at.good f.path;
      count = length (so_far p.design s);
      begins = begins_so p s rest f.lines f.told page at f.path;
      longest = λ t n told begins. subst (λ (k : ℕ). length (front p.design t n) ≤ k) (sym (ap length same))
          (no_further p s rest t n at stuck told begins);
      at_is = ap (λ (z : List ℕ). 1 + line_ends z) (sym same);
    }
