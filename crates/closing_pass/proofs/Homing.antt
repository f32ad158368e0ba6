-- What was mapped of a board that grew from another, back on that one.
use Rattle.std.proofs.Common.{◌≡◌, ◌∙◌, ◌⊎◌, List, [], ◌∷◌, ◌++◌, length, Option, Some, None, refl, sym, ap, subst}
use Rattle.std.proofs.Common.{inl, inr, arith, All}
use Rattle.std.specs.Prelude.{IfSome}
use Rattle.pcb_model.specs.declared.item.Item.{Item}
use Rattle.pcb_model.specs.declared.design.Design.{Design}
use Rattle.pcb_model.specs.Sound.{IsItemOf}
use Rattle.route_lattice.specs.Mesh.{Mesh}
use Rattle.copper_change.specs.Changes.{AreOneById}
use Rattle.move_maps.specs.Maps.{AreMapsOf}
use Rattle.pcb_board.specs.Boards.{BoardOf, SnapOf, replay}
use Rattle.pcb_board.specs.Answers.{snap_of}
use Rattle.pcb_board.specs.Keeping.{IsBoard, Grows}
use Rattle.route_plan.specs.declared.mapped.MappedSnap.{MappedSnap}
use Rattle.route_plan.specs.Mapped.{IsLater, IsMappedOn}
use Rattle.route_plan.proofs.Mapping.{BoardsServe, IdsStay}

-- ---- two beginnings of one list
-- one of them begins with the other
record Begins {X : Type 0} (xs ys : List X) : Type 0 where
  more : List X
  is : ys ≡ xs ++ more

head_same : {X : Type 0} (x y : X) (xs ys : List X) → (x ∷ xs) ≡ (y ∷ ys) → x ≡ y
head_same x y xs ys e = cc

tail_same : {X : Type 0} (x y : X) (xs ys : List X) → (x ∷ xs) ≡ (y ∷ ys) → xs ≡ ys
tail_same x y xs ys e = cc

begin_so : {X : Type 0} (xs ys ends others : List X) → xs ++ ends ≡ ys ++ others → Begins xs ys ⊎ Begins ys xs
begin_so [] ys ends others e = inl (record { more = ys; is = refl })
begin_so (x ∷ xs) [] ends others e = inr (record { more = x ∷ xs; is = refl })
begin_so (x ∷ xs) (y ∷ ys) ends others e =
    let h = head_same x y (xs ++ ends) (ys ++ others) e in
    elim (begin_so xs ys ends others (tail_same x y (xs ++ ends) (ys ++ others) e)) [
      | inl a ↦ inl (record {
        more = a.more;
        is = (λ i. sym h i ∷ a.is i);
      })
      | inr a ↦ inr (record {
        more = a.more;
        is = (λ i. h i ∷ a.is i);
      })
    ]

same_length : {X : Type 0} (xs ys ends others : List X) → xs ++ ends ≡ ys ++ others → length xs ≡ length ys → xs ≡ ys
same_length [] [] ends others e l = refl
same_length [] (y ∷ ys) ends others e l = absurd (omega (arith, l))
same_length (x ∷ xs) [] ends others e l = absurd (omega (arith, l))
same_length (x ∷ xs) (y ∷ ys) ends others e l =
    let h = head_same x y (xs ++ ends) (ys ++ others) e in
    let t = same_length xs ys ends others (tail_same x y (xs ++ ends) (ys ++ others) e) (omega (arith, l)) in
    λ i. h i ∷ t i

-- ---- boards
module _ (a b c : BoardOf) (first : Grows a c) (second : Grows b c) where
  histories : a.history ++ first.entries ≡ b.history ++ second.entries
  histories = sym first.history_is ∙ second.history_is

  designs : a.design ≡ b.design
  designs = sym first.design_stays ∙ second.design_stays

  starts : a.start ≡ b.start
  starts = sym first.start_stays ∙ second.start_stays

  caps : a.cap ≡ b.cap
  caps = sym first.cap_stays ∙ second.cap_stays

  -- they have one item for an id
  pub one_by_id : IsBoard a → IsBoard b → IdsStay → AreOneById a.items b.items
  one_by_id kept_a kept_b ids = elim (begin_so a.history b.history first.entries second.entries histories) [
    | inl before ↦ ids a b kept_a kept_b (record {
      design_stays = sym designs;
      start_stays = sym starts;
      cap_stays = sym caps;
      entries = before.more;
      history_is = before.is;
    })
    | inr after ↦
        let one = ids b a kept_b kept_a (record {
          design_stays = designs;
          start_stays = starts;
          cap_stays = caps;
          entries = after.more;
          history_is = after.is;
        }) in
        record { same = λ x y in_a in_b e. sym (one.same y x in_b in_a (sym e)) }
  ]

  -- and the same items after as many entries
  pub same_items : IsBoard a → IsBoard b → length a.history ≡ length b.history → a.items ≡ b.items
  same_items kept_a kept_b l =
      let history = same_length a.history b.history first.entries second.entries histories l in
      sym kept_a.replays
      ∙ ((λ i. replay (designs i) (starts i) (history i) (length (history i))) ∙ kept_b.replays)

-- what was mapped of the later board may follow back
pub back_later : (m : Mesh) (b c : BoardOf) (mapped : MappedSnap) → IsBoard b → BoardsServe → IdsStay → Grows b c
    → IsMappedOn m c mapped → IsLater m mapped (snap_of b)
back_later m b c mapped kept serve ids grows is =
    let a = is.board in
    let items_is : a.items ≡ mapped.snap.items = ap (λ (s : SnapOf). s.items) (sym is.mapped_is.snap_is) in
    let design_is : a.design ≡ b.design = designs a b c is.grows grows in
    record {
      design_is = ap (λ (s : SnapOf). s.design) is.mapped_is.snap_is ∙ design_is;
      fit = subst (λ (d : Design). All (IsItemOf d) mapped.snap.items) design_is
          (subst (λ (xs : List Item). All (IsItemOf a.design) xs) items_is (serve a is.kept).items_fit);
      one = subst (λ (xs : List Item). AreOneById xs b.items) items_is
          (one_by_id a b c is.grows grows is.kept kept ids);
      same = λ e. sym items_is ∙ same_items a b c is.grows grows is.kept kept
          (sym (ap (λ (s : SnapOf). s.number) is.mapped_is.snap_is) ∙ e);
      maps_are = subst (λ (d : Design). AreMapsOf d m mapped.snap.items mapped.maps) design_is
          (subst (λ (xs : List Item). AreMapsOf a.design m xs mapped.maps) items_is is.mapped_is.maps_are);
    }

pub some_back : (m : Mesh) (b c : BoardOf) (s : SnapOf) (o : Option MappedSnap) → IsBoard b → BoardsServe → IdsStay
    → Grows b c → s ≡ snap_of b → IfSome o (IsMappedOn m c) → IfSome o (λ mapped. IsLater m mapped s)
some_back m b c s None kept serve ids grows is h = h
some_back m b c s (Some mapped) kept serve ids grows is h =
    subst (λ (x : SnapOf). IsLater m mapped x) (sym is) (back_later m b c mapped kept serve ids grows h)
