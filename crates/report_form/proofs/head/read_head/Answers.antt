use Rattle.std.proofs.Common.{◌≡◌, ℕ, List, ◌++◌, sym, ap, ◌∙◌, subst}
use Rattle.pcb_model.specs.declared.design.Design.{Design}
use Rattle.report_form.specs.Form.{size_line}
use Rattle.report_form.specs.inner.State.{Page, Start, At, board_line}
use Rattle.report_form.proofs.Standing.{at_start}
use Rattle.report_form.proofs.Steps.{board_on, board_stop, sizes_on, sizes_stop, grid_on, grid_stop}
use Rattle.report_form.proofs.head.read_head.Goals as goal

start : (p : Page) (text : List ℕ) → p.text ≡ text → At p Start text
start p text e = subst (λ (x : List ℕ). At p Start x) e (at_start p)

board_is : (p : Page) (d : Design) (text r : List ℕ) → p.design ≡ d → text ≡ board_line d ++ r
    → text ≡ board_line p.design ++ r
board_is p d text r e f = f ∙ ap (λ (x : Design). board_line x ++ r) (sym e)

size_is : (p : Page) (d : Design) (text r : List ℕ) → p.design ≡ d → text ≡ size_line d ++ r
    → text ≡ size_line p.design ++ r
size_is p d text r e f = f ∙ ap (λ (x : Design). size_line x ++ r) (sym e)

pub returns-in_default : goal.returns-in_default
returns-in_default c = λ p page e f. board_stop p c.args.text.now (start p c.args.text.now f)
    (λ r g. c.in_default.ensures r (g ∙ ap (λ (x : Design). board_line x ++ r) e))

pub returns-in_default-after_sizes : goal.returns-in_default-after_sizes
returns-in_default-after_sizes c = λ p page e f.
    let named = board_on p c.args.text.now c.in-Some.named.now page (start p c.args.text.now f)
    (board_is p c.args.d.now c.args.text.now c.in-Some.named.now e c.in-Some.ensures) in
    sizes_stop p c.in-Some.named.now named
    (λ r g. c.in_default-after_sizes.ensures r (g ∙ ap (λ (x : Design). size_line x ++ r) e))

pub returns-in_default-grid_line : goal.returns-in_default-grid_line
returns-in_default-grid_line c = λ p page e f.
    let named = board_on p c.args.text.now c.in-Some.named.now page (start p c.args.text.now f)
    (board_is p c.args.d.now c.args.text.now c.in-Some.named.now e c.in-Some.ensures) in
    let sized = sizes_on p c.in-Some.named.now c.in-Some-after_sizes.sized.now page named
    (size_is p c.args.d.now c.in-Some.named.now c.in-Some-after_sizes.sized.now e c.in-Some-after_sizes.ensures) in
    grid_stop p c.in-Some-after_sizes.sized.now sized c.in_default-grid_line.ensures

pub returns : goal.returns
returns c = λ p page e f.
    let named = board_on p c.args.text.now c.in-Some.named.now page (start p c.args.text.now f)
    (board_is p c.args.d.now c.args.text.now c.in-Some.named.now e c.in-Some.ensures) in
    let sized = sizes_on p c.in-Some.named.now c.in-Some-after_sizes.sized.now page named
    (size_is p c.args.d.now c.in-Some.named.now c.in-Some-after_sizes.sized.now e c.in-Some-after_sizes.ensures) in
    let line = c.in-Some-grid_line.line in
    let has = c.in-Some-grid_line.ensures in record {
      sized = sized;
      number = has.good.grid;
      nodes_number = has.good.nodes;
      at = grid_on p line.a.now line.b.now c.in-Some-after_sizes.sized.now line.rest.now page sized has;
    }
