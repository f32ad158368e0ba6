use Rattle.std.proofs.Common.{ℕ, ◌+◌, List, ◌++◌, length, filter, Vec, Global, flat_map, ap, ap₂, sym, ◌∙◌}
use Rattle.std.proofs.Common.{arith}
use Rattle.std.specs.List.{enumerate_from}
use Rattle.std.specs.Option.{option_map_or}
use Rattle.std.specs.Prelude.{Option, []}
use Rattle.std.proofs.lemmas.Option.{slice_get-get_or}
use Rattle.std.proofs.lemmas.Result.{on_ok_weaker}
use Rattle.pcb_model.specs.declared.design.Net.{Net}
use Rattle.cut_certificate.specs.declared.cut.Cut.{Cut}
use Rattle.ses_writer.specs.Words.{Appends}
use Rattle.route_report.specs.Report.{net_line, net_lines, is_at_net, is_of_net, told_cut}
use Rattle.route_report.specs.inner.Tallies.{told_lines}
use Rattle.route_report.proofs.Tallied.{same_lines}
use Rattle.route_report.proofs.nets.put_nets.Goals as goal

pub put_told-requires-clause-counts : goal.put_told-requires-clause-counts
put_told-requires-clause-counts c =
    ap (λ (ns : List ℕ). length ns) c.as_slice-4.ensures.value ∙ c.in_ok-counts.ensures.count_is ∙ c.len.ensures
    ∙ sym (ap (λ (ns : List Net). length ns) c.as_slice-3.ensures)

pub put_told-requires-clause-texts : goal.put_told-requires-clause-texts
put_told-requires-clause-texts c =
    ap (λ (ts : List (Vec ℕ Global)). length ts) c.as_slice-5.ensures.value ∙ c.in_ok-texts.ensures.count_is
    ∙ sym (ap (λ (ns : List Net). length ns) c.as_slice-3.ensures)

pub returns : goal.returns
returns c =
    let input = c.args.input.now in
    let lines = net_lines input.d.now input.lat.now input.board.now.items input.facts.now input.short in
    let told = told_cut input.d.now input.lat.now input.board.now.items input.facts.now input.short in
    let nets = input.d.now.nets in
    let counts = c.in_ok-counts.counts.items in
    let texts = c.in_ok-texts.texts.items in
    let e : Vec ℕ Global = c.args.out.now in
    let same = same_lines (told_lines counts texts) lines nets 0 (λ k net within.
    let counted = c.in_ok-counts.ensures.counts_are (0 + k) (omega (arith, within, c.len.ensures))
    ∙ ap (λ (cuts : List Cut). length (filter (is_of_net (0 + k)) cuts)) c.as_slice.ensures in
    let there = slice_get-get_or texts (0 + k) e (omega (arith, within, c.in_ok-texts.ensures.count_is)) in
    let text = ap (λ (o : Option (Vec ℕ Global)). option_map_or (λ (t : Vec ℕ Global). t.items) o []) there
    ∙ c.in_ok-texts.ensures.texts_are (0 + k) e (omega (arith, within))
    ∙ ap (λ (cuts : List Cut). flat_map told (filter (is_at_net (0 + k)) (enumerate_from 0 cuts)))
    c.as_slice-2.ensures in
    ap₂ (λ m ls. net_line net.name m ++ ls) counted text) in
    let put = rw (c.as_slice-4.ensures.value, c.as_slice-5.ensures.value, c.as_slice-3.ensures) at c.put_told.ensures in
    on_ok_weaker c.put_told.result
    (λ (one : Appends c.args.out.now.items c.put_told.new.out.items (flat_map (told_lines counts texts)
    (enumerate_from 0 nets))). record { is = one.is ∙ ap (λ (l : List ℕ). c.args.out.now.items ++ l) same }) put
