-- The law: of a written session reading answers the printed wiring, or want of memory.
use Rattle.std.proofs.Common.{◌≡◌, ◌∙◌, ap, Bool, List, map, refl}
use Rattle.std.specs.Prelude.{All, Result, Ok, Err, filter}
use Rattle.std.proofs.lemmas.List.Elements.{All-filter}
use Rattle.pcb_model.specs.declared.item.Item.{Item}
use Rattle.pcb_model.specs.Board.{IsLegal, IsMade, IsRouted}
use Rattle.pcb_model.specs.Scale.{scale_of}
use Rattle.pcb_model.specs.Sound.{IsItemOf, Serves}
use Rattle.pcb_board.specs.Boards.{BoardOf}
use Rattle.pcb_board.specs.Keeping.{IsBoard}
use Rattle.dsn_tree.specs.declared.tree.Tree.{Tree}
use Rattle.dsn_tree.specs.declared.fault.TreeFault.{TreeFault}
use Rattle.dsn_tree.specs.declared.fault.TreeFault.TheVariants.{BadQuoteByte, Empty, QuoteOpen, Surplus, TooDeep}
use Rattle.dsn_tree.specs.declared.fault.TreeFault.TheVariants.{Unclosed}
use Rattle.dsn_tree.specs.declared.fault.TreeFault.TheVariants as tree
use Rattle.dsn_tree.specs.Trees.{HasFault, HasTree, Unless}
use Rattle.dsn_shapes.specs.Refusals.{least}
use Rattle.ses_writer.specs.Session.{is_printed, session_of}
use Rattle.session_law.specs.Told.{IsOnScale}
use Rattle.session_law.proofs.ToldDesigns.{IsWholeMetal, copper_on_scale}
use Rattle.ses_reader.specs.declared.item.SesItem.{SesItem}
use Rattle.ses_reader.specs.declared.item.SesFault.{SesFault}
use Rattle.ses_reader.specs.declared.item.SesFault.TheVariants.{Memory, Refused, Spelling}
use Rattle.ses_reader.specs.Reading.{HasSession, OneSession, ReadsSession}
use Rattle.ses_reader.specs.Session.{session_items}
use Rattle.session_law.specs.Shape.{session_tree, unplaced}
use Rattle.session_law.specs.Back.{IsReadable, TellsWiring, printed_wiring, told}
use Rattle.session_law.proofs.BackBoards.{all_back}
use Rattle.session_law.proofs.BackNets.{IsReadBack}
use Rattle.session_law.proofs.BackWhole.{measure_of, none_of_tree, scaled_of, told_by_tree}

-- a fault that there can't be is want of memory
no_fault : (f : TreeFault) (P : Type 0) → (P → ⊥) → Unless f P → Unless f ⊥
no_fault (tree.Memory e) P h u = tt
no_fault (QuoteOpen at) P h u = h u
no_fault (BadQuoteByte at) P h u = h u
no_fault (Unclosed at) P h u = h u
no_fault (Surplus at) P h u = h u
no_fault (TooDeep at) P h u = h u
no_fault Empty P h u = h u

module _ (b : BoardOf) (omit_fixed : Bool) (board : IsBoard b) (legal : IsLegal b.design b.items)
    (serves : Serves b.items b.design)
    (routed_whole : IsOnScale (scale_of b.design).nm b.items)
    (readable : All (IsReadable b.design) (filter (is_printed omit_fixed) b.items))
    (t : Tree) (shape : unplaced t ≡ session_tree b.design b.items omit_fixed) where
  -- the printed copper is read back
  back_of : All (λ (a : Item). IsReadBack b.design (measure_of (scale_of b.design)) (scale_of b.design).nm
      (scaled_of b.design board.sound.few_per) board.sound.distinct_names board.sound.parts a.metal)
      (filter (is_printed omit_fixed) b.items)
  back_of = all_back b.design (measure_of (scale_of b.design)) (scale_of b.design).nm
      (scaled_of b.design board.sound.few_per) board.sound.distinct_names board.sound.parts
      (filter (is_printed omit_fixed) b.items)
      (All-filter (is_printed omit_fixed) (IsItemOf b.design) b.items serves.items_fit)
      (All-filter (is_printed omit_fixed) (λ (a : Item). IsRouted a → IsMade b.design a) b.items legal.made)
      (All-filter (is_printed omit_fixed) (λ (a : Item). IsWholeMetal (scale_of b.design).nm a.metal) b.items
      (copper_on_scale b.design b.items serves.fixed_there routed_whole))
      readable

  -- the tree tells the wiring
  pub tells : map told (session_items b.design t) ≡ printed_wiring b.design b.items omit_fixed
  tells = told_by_tree b.design b.items omit_fixed board.sound.few_per board.sound.distinct_names board.sound.parts
      back_of t shape

  -- the text has a session
  has_session : HasTree (session_of b.design b.items omit_fixed) t
      → HasSession (session_of b.design b.items omit_fixed) b.design (session_items b.design t)
  has_session there = record {
    tree = t;
    has_tree = there;
    session = record {
      none_refused = ap least (none_of_tree b.design b.items omit_fixed board.sound.few_per board.sound.distinct_names
          board.sound.parts back_of t shape);
      items_are = refl;
    };
  }

  -- reading answers it, or want of memory
  pub reads_back : OneSession → HasTree (session_of b.design b.items omit_fixed) t
      → (result : Result (List SesItem) SesFault)
      → ReadsSession (session_of b.design b.items omit_fixed) b.design result
      → TellsWiring b.design b.items omit_fixed result
  reads_back one there (Ok xs) reads = ap (map told) (one.sessions (session_of b.design b.items omit_fixed) b.design xs
      (session_items b.design t) reads (has_session there)) ∙ tells
  reads_back one there (Err (Spelling f)) reads = no_fault f (HasFault (session_of b.design b.items omit_fixed) f)
      (one.no_fault (session_of b.design b.items omit_fixed) b.design (session_items b.design t) f (has_session there))
      reads
  reads_back one there (Err (Refused number at)) reads = one.no_refusal (session_of b.design b.items omit_fixed)
      b.design (session_items b.design t) number at (has_session there) reads
  reads_back one there (Err (Memory e)) reads = tt
