use Rattle.std.proofs.Common.{◌≡◌, ℕ, ◌<◌, ◌==◌, ◌++◌, List, Option, None, Some, get_or, below_more, arith}
use Rattle.std.proofs.Common.{refl, ap, sym, ◌∙◌, subst, if◌then◌else◌}
use Rattle.std.proofs.lemmas.Bool.Decides.{Decides-eqb}
use Rattle.std.proofs.lemmas.List.{append_cancel_left}
use Rattle.std.proofs.lemmas.Slice.Eq.{strip_prefix_is}
use Rattle.fault_notes.specs.declared.said.Counted.{Counted}
use Rattle.fault_notes.specs.declared.said.Counted.TheVariants.{Bytes, Layers, Nets, Pins, Items, Vertices, Nodes}
use Rattle.fault_notes.specs.Lines.{word_of}
use Rattle.fault_notes.proofs.line.front_counted.Goals as goal

-- what a text counts, by the first two letters of its word
abbrev key : List ℕ → Option Counted
key text =
    if get_or text 0 0 == 98 then Some Bytes else if get_or text 0 0 == 108 then Some Layers
    else if get_or text 0 0 == 112 then Some Pins else if get_or text 0 0 == 105 then Some Items
    else if get_or text 0 0 == 118 then Some Vertices else if get_or text 1 0 == 101 then Some Nets else Some Nodes

key_is : (a : Counted) (r : List ℕ) → key (word_of a ++ r) ≡ Some a
key_is Bytes r = refl
key_is Layers r = refl
key_is Nets r = refl
key_is Pins r = refl
key_is Items r = refl
key_is Vertices r = refl
key_is Nodes r = refl

-- a text begins with one of the words alone
same_word : (a b : Counted) (r s : List ℕ) → word_of a ++ r ≡ word_of b ++ s → (a ≡ b) × (r ≡ s)
same_word a b r s e =
    let keys : Some a ≡ Some b = sym (key_is a r) ∙ ap key e ∙ key_is b s in
    let same : a ≡ b = cc in
    (same, append_cancel_left (word_of b) r s (subst (λ w. word_of w ++ r ≡ word_of b ++ s) same e))

pub returns-in-Some-clause-told : goal.returns-in-Some-clause-told
returns-in-Some-clause-told c =
    strip_prefix_is Decides-eqb c.args.bytes.now c.as_bytes.result.now (Some c.in-Some.rest) c.in-Some.ensures.cases
    ∙ ap (λ (w : List ℕ). w ++ c.in-Some.rest.now) (c.as_bytes.ensures.value ∙ c.word.ensures)

pub returns-in-Some-clause-whole : goal.returns-in-Some-clause-whole
returns-in-Some-clause-whole c = λ counted rest is.
    let told = strip_prefix_is Decides-eqb c.args.bytes.now c.as_bytes.result.now (Some c.in-Some.rest)
    c.in-Some.ensures.cases
    ∙ ap (λ (w : List ℕ). w ++ c.in-Some.rest.now) (c.as_bytes.ensures.value ∙ c.word.ensures) in
    same_word _ counted c.in-Some.rest.now rest (sym told ∙ is)

pub loop-counted-preserved : goal.loop-counted-preserved
loop-counted-preserved c = below_more _ _ c.loop-counted.invariant
    (λ rest is. strip_prefix_is Decides-eqb c.args.bytes.now c.as_bytes.result.now None c.in_default.ensures.cases rest
    (is ∙ ap (λ (w : List ℕ). w ++ rest) (sym (c.as_bytes.ensures.value ∙ c.word.ensures))))

pub returns-clause-whole : goal.returns-clause-whole
returns-clause-whole c = λ counted rest is.
    let none = λ (k : ℕ) (less : k < 7). c.loop-counted.invariant k (omega arith) in
    elim counted as (λ w. c.args.bytes.now ≡ word_of w ++ rest → ⊥) [
      | Bytes ↦ λ e. none 0 (omega arith) rest e
      | Layers ↦ λ e. none 1 (omega arith) rest e
      | Nets ↦ λ e. none 2 (omega arith) rest e
      | Pins ↦ λ e. none 3 (omega arith) rest e
      | Items ↦ λ e. none 4 (omega arith) rest e
      | Vertices ↦ λ e. none 5 (omega arith) rest e
      | Nodes ↦ λ e. none 6 (omega arith) rest e
    ] is
