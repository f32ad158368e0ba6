-- What was read of a report, what was found wrong with it first, and what that answers.
use Rattle.std.proofs.Common.{◌≡◌, ◌∙◌, ◌⊎◌, ◌^◌, ◌<◌, ◌≤◌, ℕ, List, Option, Some, None}
use Rattle.std.proofs.Common.{ap, arith, get_or, inl, inr, length}
use Rattle.std.proofs.Common.{refl, subst, sym}
use Rattle.std.specs.Prelude.{All, Err, IfSome, Ok, Result}
use Rattle.std.proofs.lemmas.List.Elements.{All-weaker}
use Rattle.std.proofs.lemmas.Option.{slice_get-get_or}
use Rattle.pcb_model.specs.declared.item.Item.{Item}
use Rattle.pcb_model.specs.declared.design.Design.{Design}
use Rattle.pcb_islands.specs.declared.net.Island.{Island}
use Rattle.pcb_islands.specs.Islands.{IsIsland, pins_of}
use Rattle.route_lattice.specs.Mesh.{Mesh, node_count}
use Rattle.route_lattice.specs.Whole.{lattice_of}
use Rattle.route_lattice.specs.declared.limits.TheConstants.{MOST_NODES}
use Rattle.copper_check.specs.Checks.{AreAllIslands}
use Rattle.report_form.specs.declared.reading.ReadCut.{ReadCut}
use Rattle.report_form.specs.declared.reading.GridLine.{GridLine}
use Rattle.report_form.specs.Form.{IsOutOfPlace, IsTold, IsTrulyTold, Says, Told, nodes_of}
use Rattle.report_form.specs.Reading.{TellsNodes, node_total}
use Rattle.report_form.specs.Reading as reading
use Rattle.ses_reader.specs.declared.item.SesItem.{SesItem}
use Rattle.route_check.specs.declared.verdict.Verdict.{Verdict}
use Rattle.route_check.specs.declared.verdict.Verdict.TheVariants.{No, Yes}
use Rattle.route_check.specs.declared.verdict.JudgeFault.{JudgeFault}
use Rattle.route_check.specs.declared.verdict.JudgeFault.TheVariants.{Memory, TooManyNodes}
use Rattle.route_check.specs.Board.{board_of}
use Rattle.route_check.specs.Judged.{Answers, Case, IsMisplaced, IsRead, IsTooFine, Judges, first_names, mesh_told}
use Rattle.route_check.specs.inner.Order.{IsBadCopper, IsNetsVerdict, IsVerdictOf, IsWellLaid, JudgesBoard}
use Rattle.route_check.proofs.Netting.{cuts_true, false_cut, first_line, lines_true, true_below}

-- one text says one thing
abbrev pub SaysOne : Design → List (List (List ℕ)) → List ℕ → Type 0
SaysOne d firsts text = (t u : Told) → IsTold d firsts t → IsTold d firsts u → Says d t text → Says d u text → t ≡ u

module _ (d : Design) (items : List Item) (found : List (List Island)) (text : List ℕ) where
  abbrev the_case : Case
  the_case = record { design = d; items = items; found = found; report = text }

  -- the text is no report
  pub out_answers : (at line : ℕ) → IsOutOfPlace d (IsTold d (first_names d found)) text line
      → IsOutOfPlace d (IsTrulyTold d (first_names d found)) text at → Answers the_case (Ok (No 2 at))
  out_answers at line out truly = inl (
    refl,
    record { out = truly; not_fine = λ count f. out.none f.told f.is f.says },
  )

  module _ (g : GridLine) (ks : List (List ReadCut))
      (r : reading.IsRead d (first_names d found) text g ks) where
    nodes_is : node_total d g ≡ nodes_of d r.told
    nodes_is = ap (λ (n : ℕ). node_count (lattice_of d n)) r.grid.grid

    -- its lattice is too large
    pub too_fine : (count : ℕ) → count ≡ node_total d g → MOST_NODES < node_total d g → IsTooFine the_case count
    too_fine count e many = record {
      told = r.told;
      is = r.is;
      says = r.says;
      count_is = e ∙ nodes_is;
      many = subst (λ (n : ℕ). MOST_NODES < n) (sym e) many;
    }

    -- it tells another number of nodes
    pub told_other : SaysOne d (first_names d found) text → (TellsNodes d g → ⊥) → node_total d g ≤ MOST_NODES
        → node_total d g < 2 ^ 128 → Answers the_case (Ok (No 2 g.line))
    told_other one other few low = inl (
      refl,
      record {
        out = r.not_true other low;
        not_fine = λ count f.
            let same = one f.told r.told f.is r.is f.says r.says in
            let is : count ≡ node_total d g = f.count_is ∙ ap (nodes_of d) same ∙ sym nodes_is in
            let many : MOST_NODES < node_total d g = subst (λ (n : ℕ). MOST_NODES < n) is f.many in
            omega (arith, many, few);
      },
    )

    -- it is read
    pub read_as : TellsNodes d g → node_total d g ≤ MOST_NODES → IsRead the_case r.told
    read_as tells few = record {
      report = (r.true_ tells, r.says);
      few = subst (λ (n : ℕ). n ≤ MOST_NODES) nodes_is few;
    }

    -- what is wrong with the copper
    bad_answers : IsRead the_case r.told → (v : Verdict) → IsBadCopper d items v → Answers the_case (Ok v)
    bad_answers read Yes b = absurd b
    bad_answers read (No number at) b = elim b [
      | inl three ↦ inr (inl (three.0, record { told = r.told; read = read; first = three.1 }))
      | inr rest ↦ elim rest [
        | inl four ↦
            inr (inr (inl (four.0, record { told = r.told; read = read; agree = four.1; first = four.2 })))
        | inr five ↦ inr (inr (inr (inl (
          five.0,
          record { told = r.told; read = read; agree = five.1; inside = five.2; first = five.3 },
        ))))
      ]
    ]

    -- and with the lines and the cuts
    nets_answer : IsRead the_case r.told → IsWellLaid d items → (v : Verdict)
        → IsNetsVerdict d (mesh_told the_case r.told) items found ks v → Answers the_case (Ok v)
    nets_answer read laid Yes n = record {
      told = r.told;
      read = read;
      legal = record { agree = laid.agree; inside = laid.inside; laid = laid.laid };
      lines = lines_true d found r.told ks r.nets r.is.nets n.0;
      cuts = cuts_true d found r.told ks r.nets r.is.nets (mesh_told the_case r.told) items n.1;
    }
    nets_answer read laid (No number at) n = elim n [
      | inl six ↦
          let f = first_line d found r.told ks r.nets r.is.nets at six.1 in
          inr (inr (inr (inr (inl (
            six.0,
            record {
              told = r.told;
              read = read;
              legal = record { agree = laid.agree; inside = laid.inside; laid = laid.laid };
              own = f.own;
              own_is = f.own_is;
              line = f.line;
              line_is = f.line_is;
              false_ = f.false_;
              before = f.before;
            },
          )))))
      | inr seven ↦ inr (inr (inr (inr (inr (
        seven.0,
        record {
          told = r.told;
          read = read;
          legal = record { agree = laid.agree; inside = laid.inside; laid = laid.laid };
          lines = lines_true d found r.told ks r.nets r.is.nets seven.1;
          false_ = false_cut d found r.told ks r.nets r.is.nets (mesh_told the_case r.told) items at seven.2.reached;
          below = true_below d found r.told ks r.nets r.is.nets (mesh_told the_case r.told) items at seven.2;
        },
      )))))
    ]

    pub verdict_answers : (m : Mesh) → m ≡ lattice_of d g.grid → TellsNodes d g → node_total d g ≤ MOST_NODES
        → (v : Verdict) → IsVerdictOf d m items found ks v → Answers the_case (Ok v)
    verdict_answers m e tells few v is = elim is [
      | inl bad ↦ bad_answers (read_as tells few) v bad
      | inr good ↦ nets_answer (read_as tells few) good.0 v
          (subst (λ (l : Mesh). IsNetsVerdict d l items found ks v) (e ∙ ap (lattice_of d) r.grid.grid) good.1)
    ]

-- ---- what the steps of the judge ask for
-- a grid that was passed may be told
pub ranged : (d : Design) (firsts : List (List (List ℕ))) (text : List ℕ) (line : ℕ) (passed : Option GridLine)
    → reading.IsMisread d firsts text line passed → IfSome passed (λ g. (1000 ≤ g.grid) × (g.grid ≤ 409600000))
ranged d firsts text line None h = tt
ranged d firsts text line (Some g) h = (h.from, h.to)

-- the islands on a board are of nets of the design
pub of_nets : (d : Design) (items : List Item) (found : List (List Island)) → AreAllIslands d items found
    → All (All (λ (s : Island). s.net < length d.nets)) found
of_nets d items found all i own within =
    let os = get_or found i own in
    let islands = all.each i os (slice_get-get_or found i own within) in
    let count = all.all in
    All-weaker (IsIsland d items i (pins_of d i)) (λ (s : Island). s.net < length d.nets)
    (λ s h. let e = h.net_is in omega (arith, e, within, count)) os islands.each

-- a board with the items of a session is judged: so is the session
pub judged_of : (d : Design) (xs : List SesItem) (report : List ℕ) (answer : Result Verdict JudgeFault)
    → JudgesBoard d (board_of d xs) report answer → Judges d xs report answer
judged_of d xs report (Ok verdict) j = record { found = j.found; islands = j.islands; answers = j.answers }
judged_of d xs report (Err (TooManyNodes count)) j =
    record { found = j.found; islands = j.islands; answers = j.answers }
judged_of d xs report (Err (Memory e)) j = tt
