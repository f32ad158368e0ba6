-- One name more, where it is shown.
use Rattle.std.proofs.Common.{◌≡◌, ℕ, Bool, true, false, if◌then◌else◌, List, [], ◌∷◌, ◌++◌, refl, sym, subst}
use Rattle.pcb_model.specs.declared.design.Component.{Component}
use Rattle.board_picture.specs.declared.names.NameBox.{NameBox}
use Rattle.board_picture.specs.declared.sheet.Sheet.{Sheet}
use Rattle.ses_writer.specs.Words.{Appends}
use Rattle.ses_writer.proofs.Puts.{Leads, leads_on}
use Rattle.board_picture.specs.Names.{name_box, is_free}
use Rattle.board_picture.specs.Picture.{name_text, names_from}
use Rattle.board_picture.specs.inner.Showing.{shown_name, told_boxes}

-- what is done on either side of a choice
chosen : (b : Bool) (t : List ℕ) (x y : List NameBox) (F : List NameBox → List ℕ)
    → (if b then t ++ F x else F y) ≡ (if b then t else []) ++ F (if b then x else y)
chosen true t x y F = refl
chosen false t x y F = refl

-- the next name is put where it is shown
pub name_more : {out new all : List ℕ} (s : Sheet) (shown told : List NameBox) (c : Component) (rest : List Component)
    → Leads out (names_from s shown (c ∷ rest)) all → Appends out new (shown_name s shown c)
    → told ≡ told_boxes s shown c → Leads new (names_from s told rest) all
name_more {out} {new} {all} s shown told c rest before put told_is =
    let step = chosen (is_free s shown c) (name_text c) (shown ++ name_box s c ∷ []) shown
    (λ (boxes : List NameBox). names_from s boxes rest) in
    let left : Leads out (shown_name s shown c ++ names_from s (told_boxes s shown c) rest) all =
    subst (λ (l : List ℕ). Leads out l all) step before in
    subst (λ (boxes : List NameBox). Leads new (names_from s boxes rest) all) (sym told_is) (leads_on left put)
