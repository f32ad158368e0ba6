use Rattle.std.proofs.Common.{◌≡◌, ℕ, ◌<◌, length, get_or, drop, filter, flat_map, Vec, Global}
use Rattle.std.specs.List.{enumerate_from}
use Rattle.ses_writer.proofs.Puts.{Leads}
use Rattle.route_report.specs.Report.{is_at_net, told_cut}
use Rattle.route_report.proofs.nets.cut_texts.Given as goal

-- the lines of a net so far, and those of its cuts that are left
abbrev pub invariant-loop-number : goal.invariant-loop-number
invariant-loop-number l =
    let i = l.input in
    let lines = told_cut i.d.now i.lat.now i.board.now.items i.facts.now i.short in
    record {
      count_is : length l.texts.items ≡ length i.d.now.nets;
      texts_are : (k : ℕ) (e : Vec ℕ Global) → k < length i.d.now.nets
          → Leads (get_or l.texts.items k e).items
          (flat_map lines (filter (is_at_net k) (enumerate_from l.number (drop l.number l.cuts))))
          (flat_map lines (filter (is_at_net k) (enumerate_from 0 l.cuts)));
    }
