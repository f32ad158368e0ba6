-- The text of a session has the session's tree.
use Rattle.std.proofs.Common.{◌≡◌, ℕ, suc, ◌≤◌, Bool, false, List, [], ◌∷◌, ◌++◌, length, map, refl, ap, sym, ◌∙◌}
use Rattle.std.proofs.Common.{arith, append_assoc}
use Rattle.std.specs.Prelude.{codes, flat_map, filter, None}
use Rattle.std.specs.List.{AllByRecursion}
use Rattle.std.proofs.lemmas.List.{append-nil}
use Rattle.dsn_tokens.specs.Place.{Place, start}
use Rattle.dsn_tokens.specs.Gaps.{Ends}
use Rattle.dsn_tokens.specs.Spelling.{Reading}
use Rattle.dsn_tokens.specs.declared.token.Token.{Token}
use Rattle.dsn_tree.specs.declared.tree.Tree.{Tree}
use Rattle.dsn_tree.specs.declared.tree.Tree.TheVariants.{Word, Group, rolls-Word, rolls-Group}
use Rattle.dsn_tree.specs.declared.tree.Tree.TheOpen.{Tree-F}
use Rattle.dsn_tree.specs.declared.tree.Tree.TheOpen as layer
use Rattle.dsn_tree.specs.declared.tree.Tree.TheViews.{out-Tree, roll-Tree, roll-out-Tree}
use Rattle.dsn_tree.specs.Flat.{flat, depth, shown}
use Rattle.dsn_tree.specs.Groups.{Leads}
use Rattle.dsn_tree.specs.Trees.{HasTree}
use Rattle.dsn_tree.proofs.Flats.{depth_word, depth_group}
use Rattle.pcb_model.specs.declared.item.Item.{Item}
use Rattle.pcb_model.specs.declared.design.Design.{Design}
use Rattle.pcb_model.specs.declared.design.SesScale.{SesScale}
use Rattle.pcb_model.specs.Scale.{scale_of}
use Rattle.pcb_model.specs.Sound.{HasPrintableNames}
use Rattle.ses_writer.specs.Words.{spelled}
use Rattle.ses_writer.specs.Session.{is_printed, placement_part, routes_part, session_of}
use Rattle.session_law.specs.Shape.{unplaced, base_tree, placement_tree, library_tree, network_tree, routes_tree}
use Rattle.session_law.specs.Shape.{session_tree}
use Rattle.session_law.specs.Spelled.{HasSessionTree}
use Rattle.session_law.proofs.TreePlain.{name_word}
use Rattle.session_law.proofs.TreeTaken.{Stands, at_end}
use Rattle.session_law.proofs.TreeSaying.{Spelled, Says, unplaced_word, closes, end, blank, gap, word, group}
use Rattle.session_law.proofs.TreeSaying.{both, last, respell}
use Rattle.session_law.proofs.TreeNumbers.{resolution_says}
use Rattle.session_law.proofs.TreeMetals.{network_says}
use Rattle.session_law.proofs.TreeLibrary.{library_says, parser_says}
use Rattle.session_law.proofs.TreePlaces.{components_say}

-- ---- the parts
-- the routes
routes_say : (room : ℕ) (d : Design) (s : SesScale) (items : List Item) → HasPrintableNames d
    → Says (suc (suc (suc (suc (suc room))))) (routes_tree d s items ∷ []) (routes_part d s items) []
unfolding routes_part routes_tree library_tree network_tree
routes_say room d s items h = respell
    (gap (codes "  ") refl (group (codes "routes") refl
    (blank 10 refl (both (resolution_says (suc (suc (suc room))) s) (both (parser_says (suc (suc room)) d h)
    (gap (codes "    ") refl (group (codes "library_out") refl
    (blank 10 refl (last (library_says room d s.nm items h) (gap (codes "    ") refl closes)))
    (blank 10 refl (gap (codes "    ") refl (group (codes "network_out") refl
    (blank 10 refl (last (network_says room d s.nm items h) (gap (codes "    ") refl closes)))
    (blank 10 refl (gap (codes "  ") refl closes))))))))))
    (blank 10 refl end)))
    (simp (append_assoc) refl)

-- the session
session_says : (room : ℕ) (d : Design) (items : List Item) (omit_fixed : Bool) → HasPrintableNames d
    → Says (suc (suc (suc (suc (suc (suc room)))))) (session_tree d items omit_fixed ∷ [])
    (session_of d items omit_fixed) []
unfolding session_of placement_part session_tree base_tree placement_tree
session_says room d items omit_fixed h = respell
    (group (codes "session") refl
    (word (spelled d.name) (name_word d.name h.design)
    (blank 10 refl (gap (codes "  ") refl (group (codes "base_design") refl
    (word (spelled d.name) (name_word d.name h.design) closes)
    (blank 10 refl (gap (codes "  ") refl (group (codes "placement") refl
    (blank 10 refl (both (resolution_says (suc (suc (suc room))) (scale_of d))
    (last (components_say (suc (suc room)) (scale_of d).nm d.components h.components) (gap (codes "  ") refl closes))))
    (blank 10 refl (gap (codes "  ") refl (group (codes "was_is") refl
    (blank 10 refl (gap (codes "  ") refl closes))
    (blank 10 refl (last (routes_say room d (scale_of d) (filter (is_printed omit_fixed) items) h) closes))))))))))))
    (blank 10 refl end))
    (simp (append_assoc) refl)

-- ---- the whole
-- a tree that is a group without its places is one with them
group_layer : (l : Tree-F Tree) (inside : List Tree) → unplaced (roll-Tree l) ≡ Group 0 inside
    → (at : ℕ) × (items : List Tree) × (roll-Tree l ≡ Group at items)
group_layer (layer.Word at text) inside e =
    let f : Word 0 text ≡ Group 0 inside = sym (unplaced_word at text) ∙ ap unplaced (sym (rolls-Word at text)) ∙ e in
    absurd (omega (arith, ap depth f, depth_word 0 text, depth_group 0 inside))
group_layer (layer.Group at items) inside e = (at, items, rolls-Group at items)

-- so a tree is a group
group_is : (t : Tree) (inside : List Tree) → unplaced t ≡ Group 0 inside
    → (at : ℕ) × (items : List Tree) × (t ≡ Group at items)
group_is t inside e =
    let r = group_layer (out-Tree t) inside (ap unplaced (roll-out-Tree t) ∙ e) in
    (r.0, r.1, sym (roll-out-Tree t) ∙ r.2)

-- behind all tokens the text ends
reading_end : (p q : Place) (ts : List Token) → Leads p ts q → Ends q → Reading p ts None
reading_end p q [] l e = rw l e
reading_end p q (t ∷ ts) l e = (l.0, l.1, reading_end l.0 q ts l.2 e)

-- A tree of the text, but for places.
record HasTreeAs (text : List ℕ) (shape : Tree) : Type 0 where
  tree : Tree
  has_tree : HasTree text tree
  is_shape : unplaced tree ≡ shape

-- a text of one group has its tree
one_tree : (text : List ℕ) (inside : List Tree) (a : Spelled 64 (start text) (Group 0 inside ∷ []) [])
    → HasTreeAs text (Group 0 inside)
one_tree text inside a = by a.items a.is a.shows a.deep
  where
    by : (items : List Tree) → map unplaced items ≡ Group 0 inside ∷ [] → map shown a.ts ≡ flat_map flat items
        → AllByRecursion (λ t. depth t ≤ 64) items → HasTreeAs text (Group 0 inside)
    by [] e s d = absurd (omega (arith, ap length e))
    by (t ∷ u ∷ ts) e s d = absurd (omega (arith, ap length e))
    by (t ∷ []) e s d =
        let f : unplaced t ≡ Group 0 inside = cc in
        let g = group_is t inside f in record {
          tree = t;
          has_tree = record {
            at = g.0;
            items = g.1;
            is_group = g.2;
            ts = a.ts;
            spells = reading_end (start text) a.q a.ts a.leads (at_end false a.q a.stands);
            shows = s ∙ append-nil (flat t);
            deep = d.0;
          };
          is_shape = f;
        }

-- where a text begins
starts : (text : List ℕ) → Stands false (start text) (text ++ [])
starts text = record {
  gap = [];
  blanks = tt;
  text = sym (append-nil text);
  no_quote = tt;
  opened_is = refl;
  quote_is = refl;
}

-- the text of a session has the session's tree
pub session_has_tree : (d : Design) (items : List Item) (omit_fixed : Bool) → HasPrintableNames d
    → HasSessionTree d items omit_fixed
unfolding session_tree
session_has_tree d items omit_fixed h =
    let text = session_of d items omit_fixed in
    let a = (session_says 58 d items omit_fixed h).spells (start text) [] tt (starts text) in
    let r = one_tree text _ a in
    record { tree = r.tree; has_tree = r.has_tree; is_shape = r.is_shape }
