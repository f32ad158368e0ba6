-- A run that starts from an earlier session, in the scale of the design that was read, is one that this design has
-- written too: its session reads back by it, and its report is the same.
use Rattle.std.proofs.Common.{◌≡◌, ◌∙◌, ℕ, Bool, true, false, List, Result, Ok, Err, ap, get_or, map, refl, subst}
use Rattle.std.proofs.Common.{sym}
use Rattle.std.specs.Prelude.{◌<◌, All, length, remove}
use Rattle.std.proofs.lemmas.List.Elements.{All-map, All-weaker}
use Rattle.pcb_model.specs.declared.item.Item.{Item}
use Rattle.pcb_model.specs.declared.item.Metal.{Metal}
use Rattle.pcb_model.specs.declared.item.Metal.TheVariants.{Wire, Via, Pad, Ban}
use Rattle.pcb_model.specs.declared.design.FreeWire.{FreeWire}
use Rattle.pcb_model.specs.declared.design.SesScale.{SesScale}
use Rattle.pcb_model.specs.declared.design.Design.{Design}
use Rattle.pcb_model.specs.Scale.{scale_of}
use Rattle.pcb_model.specs.Sound.{IsItemOf, IsSound, Serves}
use Rattle.route_lattice.specs.Gather.{anchors_of, outline_of, signals_of}
use Rattle.route_lattice.specs.Lines.{line_list}
use Rattle.route_lattice.specs.Mesh.{Mesh, node_count}
use Rattle.route_lattice.specs.Whole.{lattice_of}
use Rattle.copper_alike.specs.Twins.{HasEdges}
use Rattle.dsn_tree.specs.declared.tree.Tree.{Tree}
use Rattle.dsn_shapes.specs.Refusals.{least}
use Rattle.route_run.specs.declared.facts.Facts.{Facts}
use Rattle.told_words.specs.PinNames.{pin_name}
use Rattle.route_report.specs.Report.{board_line, cut_line, cut_lines, head_lines, pin_word, report_of, size_line}
use Rattle.route_report.specs.Report.{total_line}
use Rattle.ses_reader.specs.declared.item.SesItem.{SesItem}
use Rattle.ses_reader.specs.declared.item.SesFault.{SesFault}
use Rattle.ses_reader.specs.declared.item.SesFault.TheVariants.{Spelling, Refused, Memory}
use Rattle.ses_reader.specs.Copper.{metal_of, metal_refusals, path_metal, path_refusals, via_metal, via_refusals}
use Rattle.ses_reader.specs.Copper.{wire_metal, wire_refusals}
use Rattle.ses_reader.specs.Reading.{HasSession, ReadsSession}
use Rattle.ses_reader.specs.Session.{net_items, net_refusals, routes_items, routes_refusals, session_items}
use Rattle.ses_reader.specs.Session.{session_refusals}
use Rattle.ses_reader.specs.Sound.{IsCopperSound, IsItemSound}
use Rattle.ses_reader.specs.Wiring.{wire_of}
use Rattle.ses_reader.proofs.Sound.{session_sound}
use Rattle.route_check.specs.Board.{left_of}
use Rattle.route_check.proofs.Boards.{left_sound}
use Rattle.session_law.specs.Back.{HasTwoPoints, IsReadable, TellsWiring, printed_wiring}
use Rattle.session_law.specs.Wired.{HasWiring}
use Rattle.session_start.specs.Starting.{started, with_free}
use Rattle.session_start.proofs.Alike.{legal_too, same_pieces}
use Rattle.session_start.proofs.Keeping.{fit, item_of, parts}
use Rattle.check_law.specs.Written.{AreSmall, IsOfMetal, IsSource, IsWired, IsWritten, NetEnds}
use Rattle.check_law.proofs.Rewired.{cut_too, islands_too}

-- the lattice of a design, by the scale of its session
abbrev scaled_lattice : Design → ℕ → SesScale → Mesh
scaled_lattice d grid s = record {
  grid = grid;
  unit = s.nm;
  xs = line_list s.nm grid (outline_of d).x0 (outline_of d).x1 (anchors_of s.nm false d.pins);
  ys = line_list s.nm grid (outline_of d).y0 (outline_of d).y1 (anchors_of s.nm true d.pins);
  layers = signals_of d.layers;
}

-- ---- from a design to the same with other free wiring
module _ (d : Design) (wires : List FreeWire) where
  abbrev e : Design
  e = with_free d wires

  -- ---- what is read
  -- the refusals of a session and its items are the same
  same_refusals : (t : Tree) → session_refusals e t ≡ session_refusals d t
  unfolding session_refusals routes_refusals net_refusals metal_refusals wire_refusals path_refusals via_refusals
  same_refusals t = refl

  same_items : (t : Tree) → session_items e t ≡ session_items d t
  unfolding session_items routes_items net_items metal_of wire_metal path_metal via_metal
  same_items t = refl

  pub reads_too : (text : List ℕ) (result : Result (List SesItem) SesFault) → ReadsSession text d result
      → ReadsSession text e result
  reads_too text (Ok xs) h = record {
    tree = h.tree;
    has_tree = h.has_tree;
    session = record {
      none_refused = ap least (same_refusals h.tree) ∙ h.session.none_refused;
      items_are = h.session.items_are ∙ sym (same_items h.tree);
    };
  }
  reads_too text (Err (Spelling f)) h = h
  reads_too text (Err (Refused number at)) h = record {
    tree = h.tree;
    has_tree = h.has_tree;
    refused = record {
      refusal = h.refused.refusal;
      counts = ap least (same_refusals h.tree) ∙ h.refused.counts;
      number_is = h.refused.number_is;
      at_is = h.refused.at_is;
    };
  }
  reads_too text (Err (Memory cause)) h = h

  -- so is the printed wiring
  same_printed : (items : List Item) (omit : Bool) → printed_wiring e items omit ≡ printed_wiring d items omit
  unfolding printed_wiring
  same_printed items omit = refl

  -- fixed items can be read as before, and so can the wires, where they have two points or more
  wiring_too : HasWiring d → All (λ (w : FreeWire). HasTwoPoints w.metal) wires → HasWiring e
  wiring_too h long = record {
    fixed = All-weaker (IsReadable d) (IsReadable e) (λ a r. record {
      points = r.points;
      pieces = λ fixed copper. r.pieces fixed copper ∙ sym (same_pieces d wires a.metal);
    }) d.fixed h.fixed;
    free = long;
  }

  -- ---- what is written
  pub edges_too : HasEdges d → HasEdges e
  edges_too h = record { each = h.each }

  of_metal_too : (a : Item) → IsOfMetal d a → IsOfMetal e a
  of_metal_too a h = record { kind = h.kind; pieces = h.pieces ∙ sym (same_pieces d wires a.metal) }

  wired_too : (a : Item) → IsWired d a → IsWired e a
  wired_too a h = record {
    routed = h.routed;
    net = h.net;
    net_is = h.net_is;
    within = h.within;
    copper = h.copper;
    of_metal = of_metal_too a h.of_metal;
  }

  source_too : (items routed : List Item) (omit : Bool) (xs : List SesItem) → IsSource d items routed omit xs
      → IsSource e items routed omit xs
  source_too items routed omit xs h = record {
    items_are = h.items_are;
    fixed = h.fixed;
    fixed_copper = λ i x within copper. of_metal_too (get_or d.fixed i x) (h.fixed_copper i x within copper);
    wired = All-weaker (IsWired d) (IsWired e) wired_too routed h.wired;
    reads = h.reads ∙ sym (same_printed items omit);
  }

  serve_too : (items : List Item) → Serves items d → Serves items e
  serve_too items h = record {
    design_fits = fit d wires h.design_fits;
    fixed_there = h.fixed_there;
    items_fit = All-weaker (IsItemOf d) (IsItemOf e) (item_of d wires) items h.items_fit;
  }

  small_too : (items : List Item) (facts : Facts) → AreSmall d items facts → AreSmall e items facts
  small_too items facts h = record {
    dropped = h.dropped;
    places = h.places;
    notes = h.notes;
    passes = h.passes;
    kept = h.kept;
    joins = h.joins;
    cuts = h.cuts;
    few_cuts = h.few_cuts;
    wide = h.wide;
    ids = h.ids;
  }

  -- its report is the same
  pub same_report : (m : Mesh) (items : List Item) (facts : Facts) → report_of d m items facts false
      ≡ report_of e m items facts false
  unfolding report_of head_lines board_line size_line cut_lines cut_line pin_word total_line
  same_report m items facts = refl

  -- ---- where the scale is the same
  module _ (scale : scale_of d ≡ scale_of e) where
    pub same_lattice : (grid : ℕ) → lattice_of d grid ≡ lattice_of e grid
    same_lattice grid = ap (scaled_lattice d grid) scale

    ends_too : (m : Mesh) (items : List Item) (facts : Facts) (net : ℕ) → NetEnds d m items facts net
        → NetEnds e m items facts net
    ends_too m items facts net h = record {
      old = h.old;
      islands = islands_too d wires items net h.old h.islands;
      ends = h.ends;
      cuts = λ k island cut at cut_at. cut_too d wires m items scale island (remove h.old k) cut
          (h.cuts k island cut at cut_at);
    }

    pub written_too : IsSound e → (items routed : List Item) (omit : Bool) (xs : List SesItem) (facts : Facts)
        → IsWritten d items routed omit xs facts → IsWritten e items routed omit xs facts
    written_too sound items routed omit xs facts w = record {
      sound = sound;
      edges = edges_too w.edges;
      legal = legal_too d wires items w.legal;
      rise = w.rise;
      serve = serve_too items w.serve;
      source = source_too items routed omit xs w.source;
      grid_from = w.grid_from;
      grid_to = w.grid_to;
      nodes_are = w.nodes_are ∙ ap node_count (same_lattice facts.grid);
      few = w.few;
      some_pass = w.some_pass;
      small = small_too items facts w.small;
      sizes = w.sizes;
      ends = λ net within. subst (λ (m : Mesh). NetEnds e m items facts net) (same_lattice facts.grid)
          (ends_too (lattice_of d facts.grid) items facts net (w.ends net within));
    }

-- ---- earlier sessions
-- sound copper has two points or more
copper_long : (d : Design) (m : Metal) → IsCopperSound d m → HasTwoPoints m
copper_long d (Wire layer width chain) h = h.2
copper_long d (Via padstack at) h = tt
copper_long d (Pad pin) h = tt
copper_long d (Ban wires vias) h = tt

-- so have the wires that are left of a session
left_long : (d : Design) (old : List SesItem) → All (IsItemSound d) old
    → All (λ (w : FreeWire). HasTwoPoints w.metal) (map wire_of (left_of d.fixed old))
left_long d old sound =
    All-map (λ (w : FreeWire). HasTwoPoints w.metal) wire_of (left_of d.fixed old)
    (All-weaker (IsItemSound d) (λ (x : SesItem). HasTwoPoints x.metal) (λ x h. copper_long d x.metal h.copper)
    (left_of d.fixed old) (left_sound d old sound))

-- where the design that was read has wiring that reads back, so has the one that starts from a session of it
pub started_wiring : (read : Design) (told : List ℕ) (old : List SesItem) → HasSession told read old
    → IsSound (started read old) → HasWiring read → HasWiring (started read old)
started_wiring read told old reads sound wiring =
    let few = parts (started read old) read.free sound.parts in
    let all : All (IsItemSound read) old = subst (All (IsItemSound read)) (sym reads.session.items_are)
    (session_sound read reads.tree few reads.session.none_refused) in
    wiring_too read (map wire_of (left_of read.fixed old)) wiring (left_long read old all)
