-- What the printed components of a session spell.
use Rattle.std.proofs.Common.{◌≡◌, ℕ, suc, Bool, true, false, List, [], ◌∷◌, ◌++◌, refl, append_assoc}
use Rattle.std.specs.Prelude.{codes, bytes_eq, All}
use Rattle.std.proofs.lemmas.List.Elements.{All-head, All-tail}
use Rattle.pcb_model.specs.declared.design.Component.{Component}
use Rattle.pcb_model.specs.Sound.{IsPrintable}
use Rattle.ses_writer.specs.Words.{spelled, point_words, degrees}
use Rattle.ses_writer.specs.Session.{side_words, place_line, component_line, places_after, component_lines}
use Rattle.session_law.specs.Shape.{word_tree, group_tree, point_trees, side_tree, place_tree, places_on}
use Rattle.session_law.specs.Shape.{component_tree, components_on, component_trees}
use Rattle.session_law.proofs.TreePlain.{name_word, plainly, degrees_plain}
use Rattle.session_law.proofs.TreeSaying.{Says, closes, end, blank, gap, word, group, constant, both, respell}
use Rattle.session_law.proofs.TreeNumbers.{point_says}

-- a component's name and its image's can be printed
abbrev pub IsNamed : Component → Type 0
IsNamed c = IsPrintable c.name × IsPrintable c.image

-- a place
place_says : (room nm : ℕ) (c : Component) → IsNamed c → Says (suc room) (place_tree nm c ∷ []) (place_line nm c) []
unfolding place_tree place_line
place_says room nm c h = by c.back
  where
    by : (back : Bool) → Says (suc room) (group_tree (codes "place")
        (word_tree c.name ∷ point_trees nm c.at ++ side_tree back ∷ word_tree (degrees c.microdegrees) ∷ []) ∷ [])
        (codes "      (place " ++ spelled c.name ++ point_words nm c.at ++ side_words back ++ degrees c.microdegrees
        ++ codes ")\n") []
    by true = respell
        (gap (codes "      ") refl (group (codes "place") refl
        (word (spelled c.name) (name_word c.name h.0) (both (point_says room nm c.at)
        (word (codes "back") (constant (codes "back") refl)
        (word (degrees c.microdegrees) (plainly _ (degrees_plain c.microdegrees)) closes))))
        (blank 10 refl end)))
        (simp (append_assoc) refl)
    by false = respell
        (gap (codes "      ") refl (group (codes "place") refl
        (word (spelled c.name) (name_word c.name h.0) (both (point_says room nm c.at)
        (word (codes "front") (constant (codes "front") refl)
        (word (degrees c.microdegrees) (plainly _ (degrees_plain c.microdegrees)) closes))))
        (blank 10 refl end)))
        (simp (append_assoc) refl)

-- The places behind a component: those of its image close its group, and the rest are groups of their own.
record After (room nm : ℕ) (b : Component) (cs : List Component) : Type 0 where
  behind : List ℕ
  inside : Says (suc room) (places_on nm b cs) (places_after nm b cs) (41 ∷ behind)
  outside : Says (suc (suc room)) (components_on nm b cs) behind []

-- an image with its places, and the images behind it
image_says : (room nm : ℕ) (c : Component) (cs : List Component) → IsNamed c → After room nm c cs
    → Says (suc (suc room)) (component_tree nm c cs ∷ components_on nm c cs)
    (component_line c ++ (place_line nm c ++ places_after nm c cs)) []
unfolding component_line
image_says room nm c cs h a = respell
    (gap (codes "    ") refl (group (codes "component") refl
    (word (spelled c.image) (name_word c.image h.1) (blank 10 refl (both (place_says room nm c h) a.inside)))
    a.outside))
    (simp (append_assoc) refl)

-- one more place, of the same image or of another
one_more : (room nm : ℕ) (b c : Component) (cs : List Component) (same : Bool) → bytes_eq b.image c.image ≡ same
    → IsNamed c
    → After room nm c cs → After room nm b (c ∷ cs)
one_more room nm b c cs true e h a = record {
  behind = a.behind;
  inside = rw e (both (place_says room nm c h) a.inside);
  outside = rw e a.outside;
}
one_more room nm b c cs false e h a = record {
  behind = 10 ∷ (component_line c ++ (place_line nm c ++ places_after nm c cs));
  inside = rw e (respell (gap (codes "    ") refl closes) (simp (append_assoc) refl));
  outside = rw e (blank 10 refl (image_says room nm c cs h a));
}

-- so are those behind any component
after : (room nm : ℕ) (b : Component) (cs : List Component) → All IsNamed cs → After room nm b cs
after room nm b [] h = record {
  behind = codes "\n";
  inside = gap (codes "    ") refl closes;
  outside = blank 10 refl end;
}
after room nm b (c ∷ cs) h = one_more room nm b c cs (bytes_eq b.image c.image) refl (All-head IsNamed c cs h)
    (after room nm c cs (All-tail IsNamed c cs h))

-- the components
pub components_say : (room nm : ℕ) (cs : List Component) → All IsNamed cs
    → Says (suc (suc room)) (component_trees nm cs) (component_lines nm cs) []
unfolding component_lines
components_say room nm [] h = end
components_say room nm (c ∷ cs) h = respell
    (image_says room nm c cs (All-head IsNamed c cs h) (after room nm c cs (All-tail IsNamed c cs h)))
    (append_assoc (component_line c) (place_line nm c) (places_after nm c cs))
