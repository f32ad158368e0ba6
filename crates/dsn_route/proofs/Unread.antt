-- A call whose text has no design, and what is due then.
use Rattle.std.proofs.Common.{◌≡◌, ◌≢◌, ◌≤◌, inl, inr, refl, sym, ap, subst, ℕ, List, Bool, true, false, ◌==◌}
use Rattle.std.proofs.Common.{if◌then◌else◌, Option, Some, unwrap_or, Ok, Err, arith}
use Rattle.std.proofs.lemmas.Option.{none-some, same_Some}
use Rattle.std.proofs.lemmas.Bool.{eqb-true, eqb-false}
use Rattle.desk_io.specs.States.{DeskState, SinkState}
use Rattle.dsn_tree.specs.declared.fault.TreeFault.{TreeFault}
use Rattle.dsn_tree.specs.declared.fault.TreeFault.TheVariants.{Memory, QuoteOpen, BadQuoteByte, Unclosed, Surplus}
use Rattle.dsn_tree.specs.declared.fault.TreeFault.TheVariants.{TooDeep, Empty}
use Rattle.dsn_tree.specs.Trees.{HasFault, Unless}
use Rattle.dsn_shapes.specs.declared.refusal.Refusal.{Refusal}
use Rattle.dsn_shapes.specs.declared.refusal.What.TheVariants.{Nothing}
use Rattle.dsn_shapes.specs.declared.refusal.DesignFault.{DesignFault}
use Rattle.dsn_shapes.specs.declared.refusal.DesignFault.TheVariants as design
use Rattle.dsn_shapes.specs.declared.table.TheConstants.{BAD_PAIR}
use Rattle.dsn_shapes.specs.Refusals.{refused}
use Rattle.dsn_shapes.specs.Limits.{most_of}
use Rattle.dsn_design.specs.Reading.{HasRefusal, ReadsDesign}
use Rattle.dsn_design.proofs.Tabled.{refusal_tabled}
use Rattle.dsn_route.specs.declared.status.Status.{Status}
use Rattle.dsn_route.specs.declared.status.Status.TheVariants.{Refused, Limit}
use Rattle.route_words.specs.declared.command.Command.{Command}
use Rattle.dsn_route.specs.Texts.{tree_refusal, refusal_of, IsMisspelt, LacksDesign, limit_number}
use Rattle.dsn_route.specs.Lines.{over_line, refused_line}
use Rattle.dsn_route.specs.Commands.{IsText}
use Rattle.dsn_route.specs.Answers.{Stops, Stopped}
use Rattle.dsn_route.specs.inner.Said.{EndsBy, line_of, due_of}
use Rattle.dsn_route.proofs.Ended.{stopped}

-- a fault of the tree, or want of memory, of which there is no refusal
misspelt : (text : List ℕ) (f : TreeFault) (r : Refusal) → Unless f (HasFault text f) → tree_refusal f ≡ Some r
    → IsMisspelt text r
misspelt text (Memory e) r has is = absurd (none-some r is)
misspelt text (QuoteOpen at) r has is = record { fault = QuoteOpen at; has = has; refusal = is }
misspelt text (BadQuoteByte at) r has is = record { fault = BadQuoteByte at; has = has; refusal = is }
misspelt text (Unclosed at) r has is = record { fault = Unclosed at; has = has; refusal = is }
misspelt text (Surplus at) r has is = record { fault = Surplus at; has = has; refusal = is }
misspelt text (TooDeep at) r has is = record { fault = TooDeep at; has = has; refusal = is }
misspelt text Empty r has is = record { fault = Empty; has = has; refusal = is }

-- the refusal of a fault is that of the text
pub lacks : (text : List ℕ) (f : DesignFault) (r : Refusal) → ReadsDesign text (Err f) → refusal_of f ≡ Some r
    → LacksDesign text r
lacks text (design.Spelling f) r reads is = inl (misspelt text f r reads is)
lacks text (design.Refused q) r reads is =
    inr (subst (HasRefusal text) (ap (λ (o : Option Refusal). unwrap_or o q) is) reads)
lacks text (design.Memory e) r reads is = absurd (none-some r is)

-- ---- the table of refusals
record IsKnown (r : Refusal) : Type 0 where
  from : 1 ≤ r.number
  to : r.number ≤ BAD_PAIR
  counts : r.number ≡ limit_number → r.what ≢ Nothing
  most : r.number ≡ limit_number → r.limit ≡ most_of r.what

low : (n at : ℕ) → 1 ≤ n → n ≤ 6 → IsKnown (refused n at)
low n at h k =
    record { from = h; to = omega arith; counts = λ e. absurd (omega arith); most = λ e. absurd (omega arith) }

fault_known : (f : TreeFault) (r : Refusal) → tree_refusal f ≡ Some r → IsKnown r
fault_known (Memory e) r is = absurd (none-some r is)
fault_known (QuoteOpen at) r is = subst IsKnown (same_Some (refused 1 at) r is) (low 1 at (omega arith) (omega arith))
fault_known (BadQuoteByte at) r is =
    subst IsKnown (same_Some (refused 2 at) r is) (low 2 at (omega arith) (omega arith))
fault_known (Unclosed at) r is = subst IsKnown (same_Some (refused 3 at) r is) (low 3 at (omega arith) (omega arith))
fault_known (Surplus at) r is = subst IsKnown (same_Some (refused 4 at) r is) (low 4 at (omega arith) (omega arith))
fault_known (TooDeep at) r is = subst IsKnown (same_Some (refused 5 at) r is) (low 5 at (omega arith) (omega arith))
fault_known Empty r is = subst IsKnown (same_Some (refused 6 0) r is) (low 6 0 (omega arith) (omega arith))

-- a text lacks a design for one of the table
known : (text : List ℕ) (r : Refusal) → LacksDesign text r → IsKnown r
known text r (inl a) = fault_known a.fault r a.refusal
known text r (inr a) =
    let h =
    refusal_tabled text r a in record {
      from = omega (arith, h.from);
      to = h.to;
      counts = h.counts.0;
      most = λ e. h.limit;
    }

-- a refusal is the cause of its line
cause : (command : Command) (desk : DeskState) (text : List ℕ) (r : Refusal) (b : Bool) → (r.number == limit_number) ≡ b
    → IsText command desk text → LacksDesign text r
    → Stops (Ok command) desk desk (if b then Limit else Refused)
    (if b then over_line r.what r.limit else refused_line r.number r.at)
cause command desk text r true is is_text lack = inr (inl (record {
  text = text;
  what = r.what;
  limit = r.limit;
  is_text = is_text;
  over =
      record {
        refusal = r;
        lacks = lack;
        passed = eqb-true r.number limit_number is;
        what_is = refl;
        limit_is = refl;
      };
  counts = (known text r lack).counts (eqb-true r.number limit_number is);
  most = (known text r lack).most (eqb-true r.number limit_number is);
  line_is = refl;
}))
cause command desk text r false is is_text lack = record {
  text = text;
  number = r.number;
  place = r.at;
  is_text = is_text;
  refused =
      record {
        refusal = r;
        lacks = lack;
        other = eqb-false r.number limit_number is;
        number_is = refl;
        place_is = refl;
      };
  from = (known text r lack).from;
  to = (known text r lack).to;
  line_is = refl;
}

-- A call ends by the line of its refusal.
pub unread : (command : Command) (desk : DeskState) (sink after : SinkState) (status : Status) (text : List ℕ)
    (r : Refusal)
    → IsText command desk text → LacksDesign text r → EndsBy (line_of r) (due_of r) sink after status
    → Stopped (Ok command) desk desk sink after status
unread command desk sink after status text r is_text lack ends =
    subst (Stopped (Ok command) desk desk sink after) (sym ends.is)
    (stopped (Ok command) desk desk sink after ends.put (due_of r) (line_of r)
    (cause command desk text r (r.number == limit_number) refl is_text lack) refl ends.gives)
