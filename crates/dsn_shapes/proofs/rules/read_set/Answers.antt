use Rattle.std.proofs.Common.{◌≡◌, ◌∙◌, ap, ℕ, List, Option}
use Rattle.std.specs.Prelude.{map}
use Rattle.std.specs.List.{flat_map}
use Rattle.pcb_model.specs.declared.design.RuleSet.{RuleSet}
use Rattle.pcb_model.specs.declared.design.Typed.{Typed}
use Rattle.dsn_tree.specs.declared.tree.Tree.{Tree}
use Rattle.dsn_shapes.specs.declared.refusal.Refusal.{Refusal}
use Rattle.dsn_shapes.specs.Numbers.{extent_at, extent_refusal}
use Rattle.dsn_shapes.specs.Refusals.{noted}
use Rattle.dsn_shapes.specs.Rules.{last_of, plain_at, set_of, set_refusals, typed_at, width_refusals}
use Rattle.dsn_shapes.proofs.Looped.{then_noted}
use Rattle.dsn_shapes.proofs.rules.read_set.Goals as goal

-- the refusals of the widths, and after them those of the clearances
set_noted : (nm : ℕ) (ws us cs ds : List Tree) (first now new : Option Refusal)
    → now ≡ noted first (flat_map (width_refusals nm) us) → us ≡ ws
    → new ≡ noted now (flat_map (λ t. extent_refusal nm t 1) ds) → ds ≡ cs
    → new ≡ noted first (set_refusals nm ws cs)
unfolding set_refusals
set_noted nm ws us cs ds first now new p e q f =
    then_noted first now new (flat_map (width_refusals nm) ws) (flat_map (λ t. extent_refusal nm t 1) cs)
    (p ∙ ap (λ ts. noted first (flat_map (width_refusals nm) ts)) e)
    (q ∙ ap (λ ts. noted now (flat_map (λ t. extent_refusal nm t 1) ts)) f)

abbrev made : Option ℕ → Option ℕ → List Typed → RuleSet
made width plain typed = record { width = width; plain = plain; typed = typed }

-- the set of what was read of each, where w and p are the last ones
set_made : (nm : ℕ) (ws us cs ds : List Tree) (widths vs plain ps : List ℕ) (typed : List Typed) (w p : Option ℕ)
    → us ≡ ws → ds ≡ cs → w ≡ last_of vs → vs ≡ widths → widths ≡ map (λ t. extent_at nm t 1) us
    → p ≡ last_of ps → ps ≡ plain → plain ≡ flat_map (plain_at nm) ds → typed ≡ flat_map (typed_at nm) ds
    → made w p typed ≡ set_of nm ws cs
unfolding set_of
set_made nm ws us cs ds widths vs plain ps typed w p e f a b g k l m n =
    ap (λ o. made o p typed) (a ∙ ap last_of (b ∙ g ∙ ap (map (λ t. extent_at nm t 1)) e))
    ∙ ap (λ o. made (last_of (map (λ t. extent_at nm t 1) ws)) o typed)
    (k ∙ ap last_of (l ∙ m ∙ ap (flat_map (plain_at nm)) f))
    ∙ ap (made (last_of (map (λ t. extent_at nm t 1) ws)) (last_of (flat_map (plain_at nm) cs)))
    (n ∙ ap (flat_map (typed_at nm)) f)

pub returns-clause-noted : goal.returns-clause-noted
returns-clause-noted c =
    set_noted c.args.s.nm c.args.widths.now _ c.args.clearances.now _ c.args.first.now c.read_widths.new.first
    c.read_clearances.new.first c.in_ok-width.ensures.noted c.as_slice.ensures c.in_ok-values.ensures.noted
    c.as_slice-2.ensures

pub returns-clause-value : goal.returns-clause-value
returns-clause-value c =
    set_made c.args.s.nm c.args.widths.now _ c.args.clearances.now _ c.in_ok-width.width _ c.in_ok-values.values.plain _
    c.in_ok-values.values.typed c.last_of.result c.last_of-2.result c.as_slice.ensures c.as_slice-2.ensures
    c.last_of.ensures c.as_slice-3.ensures c.in_ok-width.ensures.value c.last_of-2.ensures c.as_slice-4.ensures
    c.in_ok-values.ensures.plain c.in_ok-values.ensures.typed
