-- A snapshot of a board is later than what was mapped of it before.
use Rattle.std.proofs.Common.{◌≡◌, ◌∙◌, refl, sym, ap, subst, List, [], ◌++◌, length, Option, Some, None}
use Rattle.std.proofs.Common.{◌+◌, arith, length-append}
use Rattle.std.specs.Prelude.{All, IfSome}
use Rattle.std.proofs.lemmas.List.{append-nil, append_assoc, nil_from_length}
use Rattle.pcb_model.specs.declared.item.Item.{Item}
use Rattle.pcb_model.specs.declared.design.Design.{Design}
use Rattle.pcb_model.specs.Sound.{IsItemOf, Serves}
use Rattle.route_lattice.specs.Mesh.{Mesh}
use Rattle.route_lattice.specs.Fits.{FitsDesign}
use Rattle.copper_change.specs.Changes.{AreOneById}
use Rattle.move_maps.specs.Maps.{AreMapsOf}
use Rattle.pcb_board.specs.declared.answer.Entry.{Entry}
use Rattle.pcb_board.specs.Boards.{BoardOf, SnapOf, replay}
use Rattle.pcb_board.specs.Answers.{snap_of}
use Rattle.pcb_board.specs.Keeping.{IsBoard, Grows}
use Rattle.route_plan.specs.declared.mapped.MappedSnap.{MappedSnap}
use Rattle.route_plan.specs.Mapped.{CanMap, IsMapped, IsLater, IsMappedOn}

-- ---- boards
-- what the laws of boards say
abbrev pub BoardsServe : Type 0
BoardsServe = (b : BoardOf) → IsBoard b → Serves b.items b.design

abbrev pub IdsStay : Type 0
IdsStay = (b c : BoardOf) → IsBoard b → IsBoard c → Grows b c → AreOneById b.items c.items

-- a snapshot of a board can be mapped
pub can_map : (m : Mesh) (b : BoardOf) (s : SnapOf) → IsBoard b → FitsDesign b.design m → BoardsServe → s ≡ snap_of b
    → CanMap m s
can_map m b s kept fits serve is =
    subst (CanMap m) (sym is) (record { sound = kept.sound; fits = fits; serves = serve b kept })

-- where a board has no more entries than before, it has the same items
same_items : (a b : BoardOf) → IsBoard a → IsBoard b → Grows a b → length a.history ≡ length b.history
    → a.items ≡ b.items
same_items a b before after grows e =
    let all : length b.history ≡ length a.history + length grows.entries =
    ap (λ (es : List Entry). length es) grows.history_is ∙ length-append a.history grows.entries in
    let none : grows.entries ≡ [] = nil_from_length grows.entries (omega (arith, all, e)) in
    let history : b.history ≡ a.history =
    grows.history_is ∙ (ap (λ (es : List Entry). a.history ++ es) none ∙ append-nil a.history) in
    sym before.replays ∙ ((λ i. replay (sym grows.design_stays i) (sym grows.start_stays i) (sym history i)
    (length (sym history i))) ∙ after.replays)

-- it is later than what was mapped before
pub later : (m : Mesh) (b : BoardOf) (mapped : MappedSnap) → IsBoard b → BoardsServe → IdsStay → IsMappedOn m b mapped
    → IsLater m mapped (snap_of b)
later m b mapped kept serve ids is =
    let a = is.board in
    let items_is : a.items ≡ mapped.snap.items = ap (λ (s : SnapOf). s.items) (sym is.mapped_is.snap_is) in
    let design_is : b.design ≡ a.design = is.grows.design_stays in
    record {
      design_is = ap (λ (s : SnapOf). s.design) is.mapped_is.snap_is ∙ sym design_is;
      fit = subst (λ (d : Design). All (IsItemOf d) mapped.snap.items) (sym design_is)
          (subst (λ (xs : List Item). All (IsItemOf a.design) xs) items_is (serve a is.kept).items_fit);
      one = subst (λ (xs : List Item). AreOneById xs b.items) items_is (ids a b is.kept kept is.grows);
      same = λ e. sym items_is ∙ same_items a b is.kept kept is.grows (sym (ap (λ (s : SnapOf). s.number)
          is.mapped_is.snap_is) ∙ e);
      maps_are = subst (λ (d : Design). AreMapsOf d m mapped.snap.items mapped.maps) (sym design_is)
          (subst (λ (xs : List Item). AreMapsOf a.design m xs mapped.maps) items_is is.mapped_is.maps_are);
    }

-- the same where nothing may have been mapped
pub some_later : (m : Mesh) (b : BoardOf) (s : SnapOf) (o : Option MappedSnap) → IsBoard b → BoardsServe → IdsStay
    → s ≡ snap_of b → IfSome o (IsMappedOn m b) → IfSome o (λ mapped. IsLater m mapped s)
some_later m b s None kept serve ids is h = h
some_later m b s (Some mapped) kept serve ids is h =
    subst (λ (x : SnapOf). IsLater m mapped x) (sym is) (later m b mapped kept serve ids h)

-- a board has grown into itself
grows_none : (b : BoardOf) → Grows b b
grows_none b = record {
  design_stays = refl;
  start_stays = refl;
  cap_stays = refl;
  entries = [];
  history_is = sym (append-nil b.history);
}

-- a mapped snapshot of the board is mapped on it
pub mapped_now : (m : Mesh) (b : BoardOf) (s : SnapOf) (mapped : MappedSnap) → IsBoard b → s ≡ snap_of b
    → IsMapped m s mapped → IsMappedOn m b mapped
mapped_now m b s mapped kept is h = record {
  board = b;
  kept = kept;
  grows = grows_none b;
  mapped_is = subst (λ (x : SnapOf). IsMapped m x mapped) is h;
}

-- what was mapped stays so while the board grows
pub still_mapped : (m : Mesh) (b c : BoardOf) (o : Option MappedSnap) → Grows b c → IfSome o (IsMappedOn m b)
    → IfSome o (IsMappedOn m c)
still_mapped m b c None more h = h
still_mapped m b c (Some mapped) more h = record {
  board = h.board;
  kept = h.kept;
  grows = record {
    design_stays = more.design_stays ∙ h.grows.design_stays;
    start_stays = more.start_stays ∙ h.grows.start_stays;
    cap_stays = more.cap_stays ∙ h.grows.cap_stays;
    entries = h.grows.entries ++ more.entries;
    history_is = more.history_is ∙ (ap (λ (es : List Entry). es ++ more.entries) h.grows.history_is ∙ append_assoc
        h.board.history h.grows.entries more.entries);
  };
  mapped_is = h.mapped_is;
}
