use Rattle.std.proofs.Common.{◌≡◌, ◌≤◌, ◌∙◌, ℕ, List, Ok, ap, filter, map, subst, sym}
use Rattle.std.specs.Prelude.{All, false}
use Rattle.pcb_model.specs.declared.design.Design.{Design}
use Rattle.pcb_model.specs.Scale.{scale_of}
use Rattle.pcb_model.specs.Sound.{IsSound}
use Rattle.route_lattice.specs.Mesh.{Mesh, node_count}
use Rattle.route_lattice.specs.Whole.{lattice_of}
use Rattle.route_lattice.specs.declared.limits.TheConstants.{MOST_NODES}
use Rattle.copper_alike.specs.Twins.{HasEdges}
use Rattle.route_run.specs.Runs.{IsRun}
use Rattle.route_report.specs.Report.{report_of}
use Rattle.ses_reader.specs.Sound.{IsItemSound}
use Rattle.ses_reader.specs.Wiring.{wire_of}
use Rattle.ses_reader.proofs.Sound.{session_sound}
use Rattle.session_law.specs.Back.{printed_wiring, told}
use Rattle.session_law.specs.Wired.{HasWiring}
use Rattle.session_law.proofs.ToldBoards.{is_routed}
use Rattle.session_start.specs.Starting.{started}
use Rattle.route_check.specs.Board.{board_of, left_of}
use Rattle.route_check.specs.Judged.{IsRight, Judges}
use Rattle.check_law.specs.Written.{AreSmall, IsWritten}
use Rattle.check_law.proofs.Edges.{edges_of_read}
use Rattle.check_law.proofs.Fixed.{HasKind, fixed_kinds}
use Rattle.check_law.proofs.Judging.{judged_yes}
use Rattle.check_law.proofs.Later.{edges_too, same_lattice, same_report, started_wiring, written_too}
use Rattle.check_law.proofs.Whole.{run_written}
use Rattle.check_law.proofs.later_runs_are_right.Goals as goal

pub returns : goal.returns
returns c = λ text read d grid r b facts omit xs answer has sound later workers from to few run small session judged.
    let start = started read later.old in
    let is = run.design_is ∙ later.design_is in
    let reads : map told xs ≡ printed_wiring d b.items omit =
    c.later_runs_read_back.ensures text read d grid r b facts omit (Ok xs) has later workers run session in
    let written : IsWritten start b.items (filter is_routed b.items) omit xs facts =
    subst (λ (e : Design). IsWritten e b.items (filter is_routed b.items) omit xs facts) is
    (run_written c.pairs_are_symmetric.ensures.touch grid r b facts
    (subst HasEdges (sym is) (edges_too read (map wire_of (left_of read.fixed later.old))
    (edges_of_read text read has)))
    (subst (λ (e : Design). All HasKind e.fixed) (sym is) (fixed_kinds text read has))
    (c.boards_serve.ensures.legal b run.board) (c.boards_serve.ensures.ascends b run.board)
    (c.boards_serve.ensures.serves b run.board)
    (subst HasWiring (sym is) (started_wiring read later.told later.old later.reads
    (subst IsSound is run.board.sound) (c.designs_have_wiring.ensures text read has)))
    (subst (λ (e : Design). IsRun e (lattice_of e grid) r b facts) (sym run.design_is) run) omit xs from to
    (subst (λ (e : Design). node_count (lattice_of e grid) ≤ MOST_NODES) (sym run.design_is) few)
    (subst (λ (e : Design). AreSmall e b.items facts) (sym run.design_is) small)
    (subst (λ (e : Design). map told xs ≡ printed_wiring e b.items omit) (sym run.design_is) reads)) in
    let scale = subst (λ (e : Design). scale_of e ≡ scale_of read) later.design_is later.scale_is in
    let own : IsWritten read b.items (filter is_routed b.items) omit xs facts =
    written_too start read.free scale sound b.items (filter is_routed b.items) omit xs facts written in
    let page = same_report start read.free (lattice_of start grid) b.items facts
    ∙ ap (λ (m : Mesh). report_of read m b.items facts false) (same_lattice start read.free scale grid) in
    let fit : All (IsItemSound read) xs = subst (All (IsItemSound read)) (sym session.session.items_are)
    (session_sound read session.tree sound.parts session.session.none_refused) in
    judged_yes c.right_is_yes.ensures read xs (report_of read (lattice_of read grid) b.items facts false)
    (λ found islands. subst (λ (g : ℕ). IsRight (record {
      design = read;
      items = board_of read xs;
      found = found;
      report = report_of read (lattice_of read g) b.items facts false;
    }))
    run.facts_are.grid_is
    (c.written_is_right.ensures read b.items (filter is_routed b.items) omit xs facts found own fit islands)) answer
    (subst (λ (t : List ℕ). Judges read xs t answer) (subst (λ (e : Design).
    report_of e (lattice_of e grid) b.items facts false ≡ report_of read (lattice_of read grid) b.items facts false)
    (sym later.design_is) page) judged)
