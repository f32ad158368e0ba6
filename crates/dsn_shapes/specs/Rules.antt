-- Rule sets: widths, plain clearances and clearances of pairs of kinds.
use Rattle.std.specs.Prelude.{◌==◌, ◌+◌, ◌-◌, ℕ, Bool, true, false, List, [], ◌∷◌, ◌++◌, Option, Some, None, codes}
use Rattle.std.specs.Prelude.{length, take, drop, map, position, slice_get, count_by, if◌then◌else◌}
use Rattle.std.specs.List.{flat_map}
use Rattle.std.specs.Option.{option_map_or}
use Rattle.std.specs.Str.{str_eq_ignore_ascii_case}
use Rattle.dsn_tree.specs.declared.tree.Tree.{Tree}
use Rattle.dsn_tree.specs.Heads.{child}
use Rattle.pcb_model.specs.declared.item.Kind.{Kind}
use Rattle.pcb_model.specs.declared.item.Kind.TheVariants.{Wire, Via, Pin, Smd, Area}
use Rattle.pcb_model.specs.declared.design.Typed.{Typed}
use Rattle.pcb_model.specs.declared.design.RuleSet.{RuleSet}
use Rattle.dsn_shapes.specs.declared.known.ListKind.TheVariants as list
use Rattle.dsn_shapes.specs.declared.refusal.Refusal.{Refusal}
use Rattle.dsn_shapes.specs.declared.rules.Pairing.{Pairing}
use Rattle.dsn_shapes.specs.declared.rules.Pairing.TheVariants.{Plain, Unknown, Known}
use Rattle.dsn_shapes.specs.Refusals.{refused}
use Rattle.dsn_shapes.specs.Lists.{lists, name_of, nth_word, place_of, notes_in, left_out_in}
use Rattle.dsn_shapes.specs.Numbers.{word_extent, extent_at, extent_refusal}
use Rattle.dsn_shapes.specs.declared.table.TheConstants.{LEFT_OUT, NO_NUMBER}

-- ---- which pairs a clearance is for
abbrev pub kind_of : List ℕ → Option Kind
kind_of text =
    if str_eq_ignore_ascii_case text (codes "wire") then Some Wire else
    (if str_eq_ignore_ascii_case text (codes "via") then Some Via else
    (if str_eq_ignore_ascii_case text (codes "pin") then Some Pin else
    (if str_eq_ignore_ascii_case text (codes "smd") then Some Smd else
    (if str_eq_ignore_ascii_case text (codes "area") then Some Area else
    None))))

abbrev pub both : Option Kind → Option Kind → Pairing
both (Some a) (Some b) = Known a (Some b)
both (Some a) None = Unknown
both None b = Unknown

-- a type `a_b` is split at its first underscore
abbrev pub split_pair : List ℕ → Option ℕ → Pairing
split_pair text None = Unknown
split_pair text (Some i) = both (kind_of (take i text)) (kind_of (drop (i + 1) text))

abbrev pub pair_of : List ℕ → Pairing
pair_of text = if str_eq_ignore_ascii_case text (codes "default_smd") then Known Smd None
    else split_pair text (position (λ b. b == 95) text)

-- a clearance without a type is plain; else the first word of its first type counts
unfoldable pub pairing_of : Tree → Pairing
pairing_of t = option_map_or (λ type. pair_of (name_of type 1)) (child t (codes "type")) Plain

-- ---- the values of some rules
abbrev pub last_of : List ℕ → Option ℕ
last_of vs = slice_get vs (length vs - 1)

abbrev pub is_plain : Pairing → Bool
is_plain Plain = true
is_plain Unknown = false
is_plain (Known a b) = false

abbrev pub is_unknown : Pairing → Bool
is_unknown Plain = false
is_unknown Unknown = true
is_unknown (Known a b) = false

abbrev pub typed_by : ℕ → Pairing → List Typed
typed_by value Plain = []
typed_by value Unknown = []
typed_by value (Known a b) = record { a = a; b = b; value = value } ∷ []

abbrev pub plain_at : ℕ → Tree → List ℕ
plain_at nm t = if is_plain (pairing_of t) then extent_at nm t 1 ∷ [] else []

abbrev pub typed_at : ℕ → Tree → List Typed
typed_at nm t = typed_by (extent_at nm t 1) (pairing_of t)

abbrev pub widths_in : List Tree → List Tree
widths_in rules = lists (codes "width" ∷ []) rules

abbrev pub clearances_in : List Tree → List Tree
clearances_in rules = lists (codes "clearance" ∷ []) rules

-- of several widths, and of several plain clearances, the last counts
unfoldable pub set_of : ℕ → List Tree → List Tree → RuleSet
set_of nm widths clearances =
    record {
      width = last_of (map (λ t. extent_at nm t 1) widths);
      plain = last_of (flat_map (plain_at nm) clearances);
      typed = flat_map (typed_at nm) clearances;
    }

-- the rule set of these rules
abbrev pub rule_set : ℕ → List Tree → RuleSet
rule_set nm rules = set_of nm (widths_in rules) (clearances_in rules)

-- ---- refusals and notes
abbrev pub is_zero : Option ℕ → Bool
is_zero None = false
is_zero (Some n) = n == 0

-- a width of 0 is no width
abbrev pub zero_width : ℕ → Tree → List Refusal
zero_width nm t = if is_zero (option_map_or (word_extent nm) (nth_word t 1) None)
    then refused NO_NUMBER (place_of t 1) ∷ [] else []

abbrev pub width_refusals : ℕ → Tree → List Refusal
width_refusals nm t = extent_refusal nm t 1 ++ zero_width nm t

unfoldable pub set_refusals : ℕ → List Tree → List Tree → List Refusal
set_refusals nm widths clearances =
    flat_map (width_refusals nm) widths ++ flat_map (λ t. extent_refusal nm t 1) clearances

unfoldable pub rules_left_out : List Tree → List Tree → List Refusal
rules_left_out rules clearances = left_out_in rules ++ left_out_in clearances

-- of some rules, of whose widths these are looked at
abbrev pub refusals_with : ℕ → List Tree → List Tree → List Refusal
refusals_with nm rules widths =
    rules_left_out rules (clearances_in rules) ++ set_refusals nm widths (clearances_in rules)

abbrev pub rule_refusals : ℕ → List Tree → List Refusal
rule_refusals nm rules = refusals_with nm rules (widths_in rules)

-- a clearance of an unknown type is passed over
unfoldable pub notes_with : List Tree → List Tree → ℕ
notes_with rules clearances = notes_in list.Rule rules
    + (notes_in list.Rule clearances + count_by (λ t. is_unknown (pairing_of t)) clearances)

abbrev pub rule_notes : List Tree → ℕ
rule_notes rules = notes_with rules (clearances_in rules)

-- ---- rules between two classes, which give clearances alone
abbrev pub pair_rule_set : ℕ → List Tree → RuleSet
pair_rule_set nm rules = set_of nm [] (clearances_in rules)

-- a width there is left out, and its number isn't looked at
abbrev pub width_left_out : Tree → List Refusal
width_left_out t = refused LEFT_OUT (place_of t 0) ∷ []

unfoldable pub pair_rule_refusals : ℕ → List Tree → List Refusal
pair_rule_refusals nm rules = flat_map width_left_out (widths_in rules) ++ refusals_with nm rules []
