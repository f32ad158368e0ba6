use Rattle.std.proofs.Common.{◌≡◌, ◌≤◌, ℕ, Ok, filter, map, subst, sym}
use Rattle.std.specs.Prelude.{All, false}
use Rattle.pcb_model.specs.declared.design.Design.{Design}
use Rattle.route_lattice.specs.Mesh.{node_count}
use Rattle.route_lattice.specs.Whole.{lattice_of}
use Rattle.route_lattice.specs.declared.limits.TheConstants.{MOST_NODES}
use Rattle.route_run.specs.Runs.{IsRun}
use Rattle.route_report.specs.Report.{report_of}
use Rattle.dsn_design.specs.Reading.{HasDesign}
use Rattle.ses_reader.specs.Sound.{IsItemSound}
use Rattle.ses_reader.proofs.Sound.{session_sound}
use Rattle.session_law.specs.Back.{printed_wiring, told}
use Rattle.session_law.proofs.ToldBoards.{is_routed}
use Rattle.route_check.specs.Board.{board_of}
use Rattle.route_check.specs.Judged.{IsRight}
use Rattle.check_law.specs.Written.{AreSmall, IsWritten}
use Rattle.check_law.proofs.Edges.{edges_of_read}
use Rattle.check_law.proofs.Fixed.{fixed_kinds}
use Rattle.check_law.proofs.Judging.{judged_yes}
use Rattle.check_law.proofs.Whole.{run_written}
use Rattle.check_law.proofs.runs_are_right.Goals as goal

pub returns : goal.returns
returns c = λ text d grid r b facts omit xs answer has workers from to few run small session judged.
    let reads : map told xs ≡ printed_wiring d b.items omit =
    c.runs_read_back.ensures text d grid r b facts omit (Ok xs) has workers run session in
    let written : IsWritten d b.items (filter is_routed b.items) omit xs facts =
    subst (λ (e : Design). HasDesign text e → node_count (lattice_of e grid) ≤ MOST_NODES
    → IsRun e (lattice_of e grid) r b facts → AreSmall e b.items facts → map told xs ≡ printed_wiring e b.items omit
    → IsWritten e b.items (filter is_routed b.items) omit xs facts)
    run.design_is
    (λ own_has own_few own_run own_small own_reads.
    run_written c.pairs_are_symmetric.ensures.touch grid r b facts (edges_of_read text b.design own_has)
    (fixed_kinds text b.design own_has)
    (c.boards_serve.ensures.legal b run.board) (c.boards_serve.ensures.ascends b run.board)
    (c.boards_serve.ensures.serves b run.board) (c.designs_have_wiring.ensures text b.design own_has) own_run omit xs
    from to own_few own_small own_reads) has few run small reads in
    let sound : All (IsItemSound d) xs = subst (All (IsItemSound d)) (sym session.session.items_are)
    (session_sound d session.tree written.sound.parts session.session.none_refused) in
    judged_yes c.right_is_yes.ensures d xs (report_of d (lattice_of d grid) b.items facts false) (λ found islands.
    subst (λ (g : ℕ). IsRight (record {
      design = d;
      items = board_of d xs;
      found = found;
      report = report_of d (lattice_of d g) b.items facts false;
    }))
    run.facts_are.grid_is
    (c.written_is_right.ensures d b.items (filter is_routed b.items) omit xs facts found written sound islands))
    answer judged
