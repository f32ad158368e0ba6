-- What reading a text answers, from where it ends.
use Rattle.std.proofs.Common.{◌≡◌, ℕ, ◌+◌, ◌-◌, ◌^◌, ◌≤◌, List, length, Some, None}
use Rattle.std.proofs.Common.{sym, ap}
use Rattle.std.proofs.Common.{◌∙◌, subst, arith}
use Rattle.std.proofs.lemmas.List.{length-append}
use Rattle.report_form.specs.Form.{IsTold, IsTrulyTold, IsOutOfPlace, value, line_ends, lines, joined}
use Rattle.report_form.specs.Reading.{capped, exact, Reads}
use Rattle.report_form.specs.declared.reading.ReadCut.{ReadCut}
use Rattle.report_form.specs.declared.reading.GridLine.{GridLine}
use Rattle.report_form.specs.declared.reading.Reading.TheVariants.{Read, OutOfPlace}
use Rattle.report_form.specs.inner.State.{Page, State, Sized, IsPage, At, IsStopped, IsStoppedEarly}
use Rattle.report_form.specs.inner.State.{so_far}
use Rattle.report_form.specs.inner.State.{gridded}
use Rattle.report_form.specs.inner.Halts.{HeadRead, WholeRead}
use Rattle.report_form.proofs.Standing.{line_of, out_of_place, says}
use Rattle.report_form.proofs.Truth.{IsGridOf, same_grid, truly, told_line, other_line, early_line}
use Rattle.report_form.proofs.Truth.{whole_begins, many_lines, front_two}

-- the line of the grid, as it is kept
pub record IsLineOf (p : Page) (grid nodes : List ℕ) (g : GridLine) : Type 0 where
  pub grid_is : g.grid ≡ capped (2 ^ 64 - 1) grid
  pub nodes_is : g.nodes ≡ exact nodes
  pub line_is : g.line ≡ line_of p Sized

grid_of : (p : Page) (before grid nodes r : List ℕ) (g : GridLine) → HeadRead p before grid nodes r
    → IsLineOf p grid nodes g → IsGridOf (gridded grid nodes) g
grid_of p before grid nodes r g head own =
    let high : value grid ≤ 409600000 = head.at.good.grid_to in
    let e = own.grid_is in record { grid = omega (arith, high, e); nodes = own.nodes_is }

-- a line isn't in its place, before that of the grid was passed
pub early : (p : Page) (rest : List ℕ) (line : ℕ) → IsPage p → (stop : IsStoppedEarly p rest)
    → line ≡ line_of p stop.state → Reads p.design p.firsts p.text (OutOfPlace line None)
early p rest line page stop e = (
  subst (λ (n : ℕ). IsOutOfPlace p.design (IsTold p.design p.firsts) p.text n) (sym e)
      (out_of_place p stop.state rest page stop.at stop.stuck),
  λ grid low high few. subst (λ (n : ℕ). IsOutOfPlace p.design (IsTrulyTold p.design p.firsts) p.text n) (sym e)
      (early_line p stop.state rest grid page stop.at stop.stuck stop.before low high few),
)

-- or behind it
pub misread : (p : Page) (before grid nodes r rest : List ℕ) (g : GridLine) (line : ℕ) → IsPage p
    → HeadRead p before grid nodes r → IsLineOf p grid nodes g → (stop : IsStopped p rest)
    → line ≡ line_of p stop.state → Reads p.design p.firsts p.text (OutOfPlace line (Some g))
misread p before grid nodes r rest g line page head own stop e =
    let h = gridded grid nodes in
    let is = grid_of p before grid nodes r g head own in (
      subst (λ (n : ℕ). IsOutOfPlace p.design (IsTold p.design p.firsts) p.text n) (sym e)
          (out_of_place p stop.state rest page stop.at stop.stuck),
      record {
        from = let low : 1000 ≤ value grid = head.at.good.grid_from in
            let high : value grid ≤ 409600000 = head.at.good.grid_to in
            let same = own.grid_is in
            omega (arith, low, high, same);
        to = let high : value grid ≤ 409600000 = head.at.good.grid_to in
            let same = own.grid_is in
            omega (arith, high, same);
        told = λ tells. subst (λ (n : ℕ). IsOutOfPlace p.design (IsTrulyTold p.design p.firsts) p.text n) (sym e)
            (told_line p h g r stop.state rest page head.at is stop.at stop.stuck tells);
        not_told = λ other few. subst (λ (n : ℕ). IsOutOfPlace p.design (IsTrulyTold p.design p.firsts) p.text n)
            (sym own.line_is) (other_line p h g before r page head.sized head.at is other few);
      },
    )

-- or the text is a report
pub read : (p : Page) (before grid nodes r : List ℕ) (g : GridLine) (cuts : List (List ReadCut)) → IsPage p
    → HeadRead p before grid nodes r → IsLineOf p grid nodes g → WholeRead p cuts
    → Reads p.design p.firsts p.text (Read g cuts)
read p before grid nodes r g cuts page head own whole =
    let h = gridded grid nodes in
    let t = whole.told in
    let is = grid_of p before grid nodes r g head own in
    let says = says p t whole.at in
    let same = same_grid p h t r (length (lines p.design t)) head.at whole.at.good
    (whole_begins p.design t p.text says) (many_lines p.design t) in record {
      told = t;
      is = whole.at.good;
      says = says;
      grid = record {
        grid = is.grid ∙ ap value (sym same.grid);
        nodes = is.nodes ∙ ap exact (sym same.nodes);
        line = own.line_is ∙ ap (λ (x : List ℕ). 1 + line_ends x) (sym (front_two p.design t));
      };
      nets = whole.kept;
      true_ = λ tells. truly p t h g whole.at.good same is tells;
      not_true = λ other few. subst (λ (n : ℕ). IsOutOfPlace p.design (IsTrulyTold p.design p.firsts) p.text n)
          (sym own.line_is) (other_line p h g before r page head.sized head.at is other few);
    }

-- the rest is no longer than the text
pub rest_within : (p : Page) (s : State) (rest : List ℕ) → At p s rest → length rest ≤ length p.text
rest_within p s rest at =
    let e = ap length at.is in omega (arith, e, length-append (joined (so_far p.design s)) rest)
