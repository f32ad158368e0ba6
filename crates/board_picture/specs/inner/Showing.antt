-- One name more, where it is shown.
use Rattle.std.specs.Prelude.{ℕ, if◌then◌else◌, List, [], ◌∷◌, ◌++◌}
use Rattle.pcb_model.specs.declared.design.Component.{Component}
use Rattle.board_picture.specs.declared.names.NameBox.{NameBox}
use Rattle.board_picture.specs.declared.sheet.Sheet.{Sheet}
use Rattle.board_picture.specs.Names.{name_box, is_free}
use Rattle.board_picture.specs.Picture.{name_text}

abbrev pub shown_name : Sheet → List NameBox → Component → List ℕ
shown_name s shown c = if is_free s shown c then name_text c else []

abbrev pub told_boxes : Sheet → List NameBox → Component → List NameBox
told_boxes s shown c = if is_free s shown c then shown ++ name_box s c ∷ [] else shown
