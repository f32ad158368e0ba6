-- A text has one design, one fault of its tree or one refusal, and only one of these.
use Rattle.std.proofs.Common.{◌≡◌, ◌⊎◌, ◌∙◌, refl, sym, ap, subst, inl, inr, ℕ, Bool, true, false, List, [], ◌∷◌}
use Rattle.std.proofs.Common.{Option, Some, None, unwrap_or, Ok, IsTrue, true≢false, ◌↔◌}
use Rattle.std.proofs.lemmas.Option.{none-some}
use Rattle.pcb_model.specs.declared.design.Design.{Design}
use Rattle.pcb_model.specs.declared.design.Padstack.{Padstack}
use Rattle.pcb_model.specs.Sound.{IsUsable}
use Rattle.dsn_tree.specs.declared.tree.Tree.{Tree}
use Rattle.dsn_tree.specs.declared.fault.TreeFault.{TreeFault}
use Rattle.dsn_tree.specs.Trees.{HasTree, HasFault, OneAnswer}
use Rattle.dsn_shapes.specs.declared.parts.Head.{Head}
use Rattle.dsn_shapes.specs.declared.parts.Structure.{Structure}
use Rattle.dsn_shapes.specs.declared.parts.Library.{Library}
use Rattle.dsn_shapes.specs.declared.parts.Placing.{Placing}
use Rattle.dsn_shapes.specs.declared.parts.Network.{Network}
use Rattle.dsn_shapes.specs.declared.parts.Wiring.{Wiring}
use Rattle.dsn_shapes.specs.declared.parts.Stack.{Stack}
use Rattle.dsn_shapes.specs.declared.refusal.Refusal.{Refusal}
use Rattle.dsn_shapes.specs.Refusals.{least}
use Rattle.dsn_structure.specs.Header.{head_of, head_refusals}
use Rattle.dsn_structure.specs.Layout.{structure_of, structure_refusals}
use Rattle.dsn_library.specs.Whole.{library_of, library_refusals}
use Rattle.dsn_placement.specs.Placing.{placing_of, placement_refusals}
use Rattle.dsn_network.specs.Whole.{network_of, network_refusals}
use Rattle.dsn_wiring.specs.Whole.{wiring_of, wiring_refusals}
use Rattle.dsn_design.specs.declared.parts.Parts.{Parts}
use Rattle.dsn_design.specs.Copper.{stack_pieces}
use Rattle.dsn_design.specs.Made.{ArePadstacksOf, IsDesignOf, design_from, design_with}
use Rattle.dsn_design.specs.Pins.{layer_count}
use Rattle.dsn_design.specs.Usable.{AreUsable, padstacks_of, usables}
use Rattle.dsn_design.specs.Reading.{ArePartsOf, FirstRefusal, in_head, in_structure, in_library, in_placement}
use Rattle.dsn_design.specs.Reading.{in_network, in_wiring, HasDesign, HasRefusal, OneOutcome, ReadsHead}
use Rattle.dsn_design.specs.Reading.{ReadsStructure, ReadsLibrary, ReadsPlacing, ReadsNetwork}

one_refusal : (r s : Refusal) (o : Option Refusal) → o ≡ Some r → o ≡ Some s → r ≡ s
one_refusal r s o first second = ap (λ (p : Option Refusal). unwrap_or p r) (sym first ∙ second)

-- ---- the refusal of the first phase that has one
abbrev phase : Option Refusal → Option Refusal → Option Refusal
phase (Some r) next = Some r
phase None next = next

passed : {V : Type 0} (o : Option Refusal) (next : V → Option Refusal) (v w : V) → (o ≡ None) × (v ≡ w)
    → phase o (next w) ≡ next v
passed o next v w reads = ap (λ (p : Option Refusal). phase p (next w)) reads.0 ∙ ap next (sym reads.1)

stops : (o next : Option Refusal) (r : Refusal) → o ≡ Some r → phase o next ≡ Some r
stops o next r is = ap (λ (p : Option Refusal). phase p next) is

module _ (pcb : Tree) where
  abbrev in_last : Head → Structure → Library → Placing → Network → Option Refusal
  in_last h st lib pl net = least (wiring_refusals h.scale.nm st lib pl net pcb)

  abbrev from_network : Head → Structure → Library → Placing → Option Refusal
  from_network h st lib pl =
      phase (least (network_refusals h.scale.nm lib pl pcb)) (in_last h st lib pl (network_of h.scale.nm lib pl pcb))

  abbrev from_placement : Head → Structure → Library → Option Refusal
  from_placement h st lib =
      phase (least (placement_refusals h.scale.nm st lib pcb))
      (from_network h st lib (placing_of h.scale.nm st lib pcb))

  abbrev from_library : Head → Structure → Option Refusal
  from_library h st =
      phase (least (library_refusals h.scale.nm st.layers pcb))
      (from_placement h st (library_of h.scale.nm st.layers pcb))

  abbrev from_structure : Head → Option Refusal
  from_structure h = phase (least (structure_refusals h.scale.nm pcb)) (from_library h (structure_of h.scale.nm pcb))

  first_of : Option Refusal
  first_of = phase (least (head_refusals pcb)) (from_structure (head_of pcb))

  first_is : (r : Refusal) → FirstRefusal pcb r → first_of ≡ Some r
  unfolding first_of
  first_is r (in_head a) = stops (least (head_refusals pcb)) (from_structure (head_of pcb)) r a
  first_is r (in_structure h a b) =
      passed (least (head_refusals pcb)) from_structure h (head_of pcb) a
      ∙ stops (least (structure_refusals h.scale.nm pcb)) (from_library h (structure_of h.scale.nm pcb)) r b
  first_is r (in_library h st a b c) = passed (least (head_refusals pcb)) from_structure h (head_of pcb) a
      ∙ passed (least (structure_refusals h.scale.nm pcb)) (from_library h) st (structure_of h.scale.nm pcb) b
      ∙ stops (least (library_refusals h.scale.nm st.layers pcb))
      (from_placement h st (library_of h.scale.nm st.layers pcb)) r c
  first_is r (in_placement h st lib a b c d) = passed (least (head_refusals pcb)) from_structure h (head_of pcb) a
      ∙ passed (least (structure_refusals h.scale.nm pcb)) (from_library h) st (structure_of h.scale.nm pcb) b
      ∙ passed (least (library_refusals h.scale.nm st.layers pcb)) (from_placement h st) lib
      (library_of h.scale.nm st.layers pcb) c
      ∙ stops (least (placement_refusals h.scale.nm st lib pcb))
      (from_network h st lib (placing_of h.scale.nm st lib pcb)) r d
  first_is r (in_network h st lib pl a b c d e) = passed (least (head_refusals pcb)) from_structure h (head_of pcb) a
      ∙ passed (least (structure_refusals h.scale.nm pcb)) (from_library h) st (structure_of h.scale.nm pcb) b
      ∙ passed (least (library_refusals h.scale.nm st.layers pcb)) (from_placement h st) lib
      (library_of h.scale.nm st.layers pcb) c
      ∙ passed (least (placement_refusals h.scale.nm st lib pcb)) (from_network h st lib) pl
      (placing_of h.scale.nm st lib pcb) d
      ∙ stops (least (network_refusals h.scale.nm lib pl pcb)) (in_last h st lib pl (network_of h.scale.nm lib pl pcb))
      r e
  first_is r (in_wiring h st lib pl net a b c d e w) =
      passed (least (head_refusals pcb)) from_structure h (head_of pcb) a
      ∙ passed (least (structure_refusals h.scale.nm pcb)) (from_library h) st (structure_of h.scale.nm pcb) b
      ∙ passed (least (library_refusals h.scale.nm st.layers pcb)) (from_placement h st) lib
      (library_of h.scale.nm st.layers pcb) c
      ∙ passed (least (placement_refusals h.scale.nm st lib pcb)) (from_network h st lib) pl
      (placing_of h.scale.nm st lib pcb) d
      ∙ passed (least (network_refusals h.scale.nm lib pl pcb)) (in_last h st lib pl) net
      (network_of h.scale.nm lib pl pcb) e
      ∙ w

  none_is : (p : Parts) → ArePartsOf pcb p → first_of ≡ None
  unfolding first_of
  none_is p are = passed (least (head_refusals pcb)) from_structure p.head (head_of pcb) are.head
      ∙ passed (least (structure_refusals p.head.scale.nm pcb)) (from_library p.head) p.structure
      (structure_of p.head.scale.nm pcb) are.structure
      ∙ passed (least (library_refusals p.head.scale.nm p.structure.layers pcb)) (from_placement p.head p.structure)
      p.library (library_of p.head.scale.nm p.structure.layers pcb) are.library
      ∙ passed (least (placement_refusals p.head.scale.nm p.structure p.library pcb))
      (from_network p.head p.structure p.library) p.placing (placing_of p.head.scale.nm p.structure p.library pcb)
      are.placing
      ∙ passed (least (network_refusals p.head.scale.nm p.library p.placing pcb))
      (in_last p.head p.structure p.library p.placing) p.network
      (network_of p.head.scale.nm p.library p.placing pcb) are.network
      ∙ are.wiring.0

  -- ---- the parts of a tree
  abbrev with_wiring : Head → Structure → Library → Placing → Network → Wiring → Parts
  with_wiring h st lib pl net w =
      record { head = h; structure = st; library = lib; placing = pl; network = net; wiring = w }

  abbrev with_network : Head → Structure → Library → Placing → Network → Parts
  with_network h st lib pl net = with_wiring h st lib pl net (wiring_of h.scale.nm st lib pl net pcb)

  abbrev with_placing : Head → Structure → Library → Placing → Parts
  with_placing h st lib pl = with_network h st lib pl (network_of h.scale.nm lib pl pcb)

  abbrev with_library : Head → Structure → Library → Parts
  with_library h st lib = with_placing h st lib (placing_of h.scale.nm st lib pcb)

  abbrev with_structure : Head → Structure → Parts
  with_structure h st = with_library h st (library_of h.scale.nm st.layers pcb)

  abbrev with_head : Head → Parts
  with_head h = with_structure h (structure_of h.scale.nm pcb)

  parts_of : Parts
  parts_of = with_head (head_of pcb)

  parts_are : (p : Parts) → ArePartsOf pcb p → p ≡ parts_of
  unfolding parts_of
  parts_are p are = ap (with_wiring p.head p.structure p.library p.placing p.network) are.wiring.1
      ∙ ap (with_network p.head p.structure p.library p.placing) are.network.1
      ∙ ap (with_placing p.head p.structure p.library) are.placing.1
      ∙ ap (with_library p.head p.structure) are.library.1
      ∙ ap (with_structure p.head) are.structure.1
      ∙ ap with_head are.head.1

  -- ---- each tree has its parts or a refusal
  abbrev Phases : Type 0
  Phases = ((r : Refusal) × FirstRefusal pcb r) ⊎ ((p : Parts) × ArePartsOf pcb p)

  wiring_phase : (h : Head) (st : Structure) (lib : Library) (pl : Placing) (net : Network) → ReadsHead pcb (Ok h)
      → ReadsStructure pcb h (Ok st) → ReadsLibrary pcb h st (Ok lib) → ReadsPlacing pcb h st lib (Ok pl)
      → ReadsNetwork pcb h lib pl (Ok net)
      → (o : Option Refusal) → least (wiring_refusals h.scale.nm st lib pl net pcb) ≡ o → Phases
  wiring_phase h st lib pl net a b c d e (Some r) is = inl (r, in_wiring h st lib pl net a b c d e is)
  wiring_phase h st lib pl net a b c d e None is =
      inr (
        with_network h st lib pl net,
        record { head = a; structure = b; library = c; placing = d; network = e; wiring = (is, refl) },
      )

  network_phase : (h : Head) (st : Structure) (lib : Library) (pl : Placing) → ReadsHead pcb (Ok h)
      → ReadsStructure pcb h (Ok st) → ReadsLibrary pcb h st (Ok lib) → ReadsPlacing pcb h st lib (Ok pl)
      → (o : Option Refusal) → least (network_refusals h.scale.nm lib pl pcb) ≡ o → Phases
  network_phase h st lib pl a b c d (Some r) is = inl (r, in_network h st lib pl a b c d is)
  network_phase h st lib pl a b c d None is =
      wiring_phase h st lib pl (network_of h.scale.nm lib pl pcb) a b c d (is, refl) _ refl

  placement_phase : (h : Head) (st : Structure) (lib : Library) → ReadsHead pcb (Ok h) → ReadsStructure pcb h (Ok st)
      → ReadsLibrary pcb h st (Ok lib)
      → (o : Option Refusal) → least (placement_refusals h.scale.nm st lib pcb) ≡ o → Phases
  placement_phase h st lib a b c (Some r) is = inl (r, in_placement h st lib a b c is)
  placement_phase h st lib a b c None is =
      network_phase h st lib (placing_of h.scale.nm st lib pcb) a b c (is, refl) _ refl

  library_phase : (h : Head) (st : Structure) → ReadsHead pcb (Ok h) → ReadsStructure pcb h (Ok st)
      → (o : Option Refusal) → least (library_refusals h.scale.nm st.layers pcb) ≡ o → Phases
  library_phase h st a b (Some r) is = inl (r, in_library h st a b is)
  library_phase h st a b None is = placement_phase h st (library_of h.scale.nm st.layers pcb) a b (is, refl) _ refl

  structure_phase : (h : Head) → ReadsHead pcb (Ok h) → (o : Option Refusal) → least (structure_refusals h.scale.nm pcb)
      ≡ o → Phases
  structure_phase h a (Some r) is = inl (r, in_structure h a is)
  structure_phase h a None is = library_phase h (structure_of h.scale.nm pcb) a (is, refl) _ refl

  phases : (o : Option Refusal) → least (head_refusals pcb) ≡ o → Phases
  phases (Some r) is = inl (r, in_head is)
  phases None is = structure_phase (head_of pcb) (is, refl) _ refl

-- ---- the design of parts
one_bit : (u v : Bool) (P : Type 0) → IsTrue u ↔ P → IsTrue v ↔ P → u ≡ v
one_bit true true P a b = refl
one_bit false false P a b = refl
one_bit true false P a b = absurd (true≢false (sym (b.1 (a.0 refl))))
one_bit false true P a b = absurd (true≢false (sym (a.1 (b.0 refl))))

one_usable : (n : ℕ) (us vs : List Bool) (ss : List Stack) → AreUsable n us ss → AreUsable n vs ss → us ≡ vs
one_usable n [] [] ss a b = refl
one_usable n [] (v ∷ vs) [] a b = absurd b
one_usable n [] (v ∷ vs) (s ∷ ss) a b = absurd a
one_usable n (u ∷ us) [] [] a b = absurd a
one_usable n (u ∷ us) [] (s ∷ ss) a b = absurd b
one_usable n (u ∷ us) (v ∷ vs) [] a b = absurd a
one_usable n (u ∷ us) (v ∷ vs) (s ∷ ss) a b =
    ap (λ (x : Bool). x ∷ us) (one_bit u v (IsUsable (stack_pieces n s)) a.0 b.0)
    ∙ ap (λ (xs : List Bool). v ∷ xs) (one_usable n us vs ss a.1 b.1)

one_made : (p : Parts) (d e : Design) → IsDesignOf p d → IsDesignOf p e → d ≡ e
one_made p d e a b =
    let bits = one_usable (layer_count p) (usables d.padstacks) (usables e.padstacks) p.library.stacks
    a.padstacks.usable b.padstacks.usable in
    let stacks : d.padstacks ≡ e.padstacks =
    a.padstacks.are ∙ ap (λ (us : List Bool). padstacks_of (layer_count p) us p.library.stacks) bits
    ∙ sym b.padstacks.are in
    a.design ∙ ap (λ (ss : List Padstack). design_from p ss) stacks ∙ sym b.design

-- ---- parts make a design
some_bit : (P : Type 0) → ((u : Bool) → IsTrue u ↔ P → ⊥) → ⊥
some_bit P lacking =
    lacking false ((λ t. absurd (true≢false (sym t))), (λ p. absurd (lacking true ((λ t. p), (λ q. refl)))))

some_bits : (n : ℕ) (ss : List Stack) → ((us : List Bool) → AreUsable n us ss → ⊥) → ⊥
some_bits n [] lacking = lacking [] tt
some_bits n (s ∷ ss) lacking =
    some_bits n ss (λ us are. some_bit (IsUsable (stack_pieces n s)) (λ u is. lacking (u ∷ us) (is, are)))

usables_are : (n : ℕ) (us : List Bool) (ss : List Stack) → AreUsable n us ss → usables (padstacks_of n us ss) ≡ us
unfolding padstacks_of
usables_are n [] [] are = refl
usables_are n [] (s ∷ ss) are = absurd are
usables_are n (u ∷ us) [] are = absurd are
usables_are n (u ∷ us) (s ∷ ss) are = ap (λ (xs : List Bool). u ∷ xs) (usables_are n us ss are.1)

stacks_are : (p : Parts) (us : List Bool) → AreUsable (layer_count p) us p.library.stacks
    → ArePadstacksOf p (padstacks_of (layer_count p) us p.library.stacks)
stacks_are p us are =
    let e : us ≡ usables (padstacks_of (layer_count p) us p.library.stacks) =
    sym (usables_are (layer_count p) us p.library.stacks are) in
    record {
      are = ap (λ (xs : List Bool). padstacks_of (layer_count p) xs p.library.stacks) e;
      usable = subst (λ (xs : List Bool). AreUsable (layer_count p) xs p.library.stacks) e are;
    }

design_is : (p : Parts) (stacks : List Padstack) → ArePadstacksOf p stacks → IsDesignOf p (design_from p stacks)
unfolding design_with
design_is p stacks are = record { padstacks = are; design = refl }

some_design : (p : Parts) → ((d : Design) → IsDesignOf p d → ⊥) → ⊥
some_design p lacking =
    some_bits (layer_count p) p.library.stacks (λ us are. lacking _ (design_is p _ (stacks_are p us are)))

-- ---- texts
sections : (text : List ℕ) (pcb : Tree) → HasTree text pcb → Phases pcb → ((d : Design) → HasDesign text d → ⊥)
    → ((f : TreeFault) × HasFault text f) ⊎ ((r : Refusal) × HasRefusal text r)
sections text pcb tree (inl first) lacking = inr (first.0, record { pcb = pcb; tree = tree; first = first.1 })
sections text pcb tree (inr parts) lacking =
    absurd (some_design parts.0
    (λ d is. lacking d (record { pcb = pcb; tree = tree; parts = parts.0; are_parts = parts.1; design = is })))

whole : (text : List ℕ) → ((t : Tree) × HasTree text t) ⊎ ((f : TreeFault) × HasFault text f)
    → ((d : Design) → HasDesign text d → ⊥) → ((f : TreeFault) × HasFault text f) ⊎ ((r : Refusal) × HasRefusal text r)
whole text (inl t) lacking = sections text t.0 t.1 (phases t.0 _ refl) lacking
whole text (inr f) lacking = inl f

module _ (one : OneAnswer) (text : List ℕ) where
  one_design : (d e : Design) → HasDesign text d → HasDesign text e → d ≡ e
  one_design d e a b =
      let trees : b.pcb ≡ a.pcb = one.trees text b.pcb a.pcb b.tree a.tree in
      let parts : b.parts ≡ a.parts = parts_are b.pcb b.parts b.are_parts ∙ ap parts_of trees
      ∙ sym (parts_are a.pcb a.parts a.are_parts) in
      one_made a.parts d e a.design (subst (λ (p : Parts). IsDesignOf p e) parts b.design)

  one_first : (r s : Refusal) → HasRefusal text r → HasRefusal text s → r ≡ s
  one_first r s a b =
      one_refusal r s (first_of a.pcb) (first_is a.pcb r a.first)
      (ap first_of (one.trees text a.pcb b.pcb a.tree b.tree) ∙ first_is b.pcb s b.first)

  not_both : (d : Design) (r : Refusal) → HasDesign text d → HasRefusal text r → ⊥
  not_both d r a b =
      none-some r (sym (none_is a.pcb a.parts a.are_parts) ∙ ap first_of (one.trees text a.pcb b.pcb a.tree b.tree)
      ∙ first_is b.pcb r b.first)

pub one_outcome : OneAnswer → OneOutcome
one_outcome one = record {
  some = λ text lacking. whole text (one.some text) lacking;
  designs = λ text d e a b. one_design one text d e a b;
  faults = one.faults;
  refusals = λ text r s a b. one_first one text r s a b;
  no_fault = λ text d f a b. one.apart text a.pcb f a.tree b;
  no_refusal = λ text d r a b. not_both one text d r a b;
  apart = λ text f r a b. one.apart text b.pcb f b.tree a;
}
