use Rattle.std.proofs.Common.{◌≡◌, ◌∙◌, ap, ℕ, List, [], ◌∷◌, Option}
use Rattle.std.specs.Prelude.{codes}
use Rattle.pcb_model.specs.declared.design.RuleSet.{RuleSet}
use Rattle.dsn_tree.specs.declared.tree.Tree.{Tree}
use Rattle.dsn_shapes.specs.declared.parts.ReadClass.{ReadClass}
use Rattle.dsn_shapes.specs.declared.refusal.Refusal.{Refusal}
use Rattle.dsn_shapes.specs.Lists.{lists}
use Rattle.dsn_shapes.specs.Refusals.{noted}
use Rattle.dsn_shapes.specs.Rules.{rule_refusals, rule_set}
use Rattle.dsn_shapes.proofs.Looped.{then_noted}
use Rattle.dsn_network.specs.Classes.{class_refusals, read_class_of, via_lists, via_refusals, vias_of}
use Rattle.dsn_network.specs.Words.{rules_in}
use Rattle.dsn_network.proofs.class.read_class.Goals as goal

-- the refusals of the vias and of the rules, one after another
class_noted : (nm : ℕ) (stacks : List (List ℕ)) (t : Tree) (lists : List Tree) (first now new : Option Refusal)
    → lists ≡ via_lists (t ∷ []) → now ≡ noted first (via_refusals stacks lists)
    → new ≡ noted now (rule_refusals nm (rules_in (t ∷ []))) → new ≡ noted first (class_refusals nm stacks t)
unfolding class_refusals
class_noted nm stacks t lists first now new e p q =
    then_noted first now new (via_refusals stacks (via_lists (t ∷ []))) (rule_refusals nm (rules_in (t ∷ [])))
    (p ∙ ap (λ ts. noted first (via_refusals stacks ts)) e) q

abbrev made : Option (List ℕ) → RuleSet → ReadClass
made vias rules = record { vias = vias; rules = rules }

-- the class of these vias and rules
class_made : (nm : ℕ) (stacks : List (List ℕ)) (t : Tree) (lists : List Tree) (vias : Option (List ℕ)) (set : RuleSet)
    → lists ≡ via_lists (t ∷ []) → vias ≡ vias_of stacks lists → set ≡ rule_set nm (rules_in (t ∷ []))
    → made vias set ≡ read_class_of nm stacks t
unfolding read_class_of
class_made nm stacks t lists vias set e p s =
    ap (λ vs. made vs set) (p ∙ ap (vias_of stacks) e) ∙ ap (made (vias_of stacks (via_lists (t ∷ [])))) s

pub returns-in-Ok-rules_of-clause-noted : goal.returns-in-Ok-rules_of-clause-noted
returns-in-Ok-rules_of-clause-noted c =
    let are = c.in_ok-lists.ensures ∙ ap (lists (codes "use_via" ∷ [])) c.in_ok-in_list.ensures in
    class_noted c.args.scale.nm c.args.stacks.now c.args.tree.now c.in_ok-lists.lists c.args.first.now
    c.vias_of.new.first c.rules_of.new.first are c.in-Ok.ensures.noted
    c.in-Ok-rules_of.ensures.noted

pub returns-in-Ok-rules_of-clause-class : goal.returns-in-Ok-rules_of-clause-class
returns-in-Ok-rules_of-clause-class c =
    let are = c.in_ok-lists.ensures ∙ ap (lists (codes "use_via" ∷ [])) c.in_ok-in_list.ensures in
    class_made c.args.scale.nm c.args.stacks.now c.args.tree.now c.in_ok-lists.lists c.in-Ok.vias
    c.in-Ok-rules_of.field-0.set are c.in-Ok.ensures.value c.in-Ok-rules_of.ensures.set

pub returns-in-Ok-rules_of-clause-notes : goal.returns-in-Ok-rules_of-clause-notes
returns-in-Ok-rules_of-clause-notes c = c.in-Ok-rules_of.ensures.notes
