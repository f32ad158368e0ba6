use Rattle.std.proofs.Common.{◌≡◌, ◌∙◌, ap, ℕ, List, [], ◌∷◌, ◌++◌, Option}
use Rattle.std.specs.List.{flat_map}
use Rattle.pcb_model.specs.declared.design.RuleSet.{RuleSet}
use Rattle.dsn_tree.specs.declared.tree.Tree.{Tree}
use Rattle.dsn_shapes.specs.declared.parts.Library.{Library}
use Rattle.dsn_shapes.specs.declared.parts.PinRef.{PinRef}
use Rattle.dsn_shapes.specs.declared.parts.Placing.{Placing}
use Rattle.dsn_shapes.specs.declared.parts.ReadNet.{ReadNet}
use Rattle.dsn_shapes.specs.declared.refusal.Refusal.{Refusal}
use Rattle.dsn_shapes.specs.Lists.{name_of, quoted_name}
use Rattle.dsn_shapes.specs.Refusals.{noted}
use Rattle.dsn_shapes.specs.Rules.{rule_refusals, rule_set}
use Rattle.dsn_shapes.proofs.Looped.{then_noted}
use Rattle.dsn_network.specs.Classes.{class_of}
use Rattle.dsn_network.specs.Nets.{net_of, net_pins, net_refusals, ref_refusals, refs_of}
use Rattle.dsn_network.specs.Words.{rules_in}
use Rattle.dsn_network.proofs.net.read_net.Goals as goal

-- the refusals of the name, of the pins and of the rules, one after another
net_noted : (nm : ℕ) (lib : Library) (placing : Placing) (t : Tree) (first a b new : Option Refusal)
    → a ≡ noted first (quoted_name t 1) → b ≡ noted a (flat_map (ref_refusals lib placing) (refs_of t))
    → new ≡ noted b (rule_refusals nm (rules_in (t ∷ []))) → new ≡ noted first (net_refusals nm lib placing t)
unfolding net_refusals
net_noted nm lib placing t first a b new p q r =
    let pins = flat_map (ref_refusals lib placing) (refs_of t) in
    let set = rule_refusals nm (rules_in (t ∷ [])) in
    then_noted first a new (quoted_name t 1) (pins ++ set) p (then_noted a b new pins set q r)

abbrev made : List ℕ → List PinRef → RuleSet → Option ℕ → ReadNet
made name pins rules class = record { name = name; pins = pins; rules = rules; class = class }

-- the net of what was read of each, where its name was read twice
net_made : (nm : ℕ) (lib : Library) (placing : Placing) (classes : List Tree) (t : Tree) (name given word : List ℕ)
    (pins : List PinRef) (set : RuleSet) (class : Option ℕ) → name ≡ given → given ≡ name_of t 1
    → pins ≡ net_pins lib placing t → set ≡ rule_set nm (rules_in (t ∷ [])) → class ≡ class_of word classes
    → word ≡ name_of t 1 → made name pins set class ≡ net_of nm lib placing classes t
unfolding net_of
net_made nm lib placing classes t name given word pins set class a b p s k w =
    ap (λ n. made n pins set class) (a ∙ b)
    ∙ ap (λ ps. made (name_of t 1) ps set class) p
    ∙ ap (λ rs. made (name_of t 1) (net_pins lib placing t) rs class) s
    ∙ ap (made (name_of t 1) (net_pins lib placing t) (rule_set nm (rules_in (t ∷ []))))
    (k ∙ ap (λ n. class_of n classes) w)

pub returns-in-Ok-rules_of-clause-noted : goal.returns-in-Ok-rules_of-clause-noted
returns-in-Ok-rules_of-clause-noted c =
    net_noted c.args.scale.nm c.args.pins.now.lib.now c.args.pins.now.placing.now c.args.tree.now c.args.first.now
    c.refuse_quoted_name.new.first c.read_pins.new.first c.rules_of.new.first c.refuse_quoted_name.ensures
    c.in_ok-named.ensures.noted c.in-Ok-rules_of.ensures.noted

pub returns-in-Ok-rules_of-clause-net : goal.returns-in-Ok-rules_of-clause-net
returns-in-Ok-rules_of-clause-net c =
    net_made c.args.scale.nm c.args.pins.now.lib.now c.args.pins.now.placing.now c.args.classes.now.lists.now
    c.args.tree.now c.in-Ok.name c.name_of.result.now c.name_of-2.result.now c.in_ok-named.named
    c.in-Ok-rules_of.field-0.set c.class_of-class.result c.in-Ok.ensures c.name_of.ensures
    c.in_ok-named.ensures.value c.in-Ok-rules_of.ensures.set c.class_of-class.ensures c.name_of-2.ensures

pub returns-in-Ok-rules_of-clause-notes : goal.returns-in-Ok-rules_of-clause-notes
returns-in-Ok-rules_of-clause-notes c = c.in-Ok-rules_of.ensures.notes
