-- For each design a text has one list of items, one fault of its tree or one refusal, and only one of these.
use Rattle.std.proofs.Common.{◌≡◌, ◌⊎◌, ◌∙◌, refl, sym, ap, inl, inr, ℕ, List, Option, Some, None}
use Rattle.std.proofs.lemmas.Option.{none-some, same_Some}
use Rattle.pcb_model.specs.declared.design.Design.{Design}
use Rattle.dsn_tree.specs.declared.tree.Tree.{Tree}
use Rattle.dsn_tree.specs.declared.fault.TreeFault.{TreeFault}
use Rattle.dsn_tree.specs.Trees.{HasTree, HasFault, OneAnswer}
use Rattle.dsn_shapes.specs.declared.refusal.Refusal.{Refusal}
use Rattle.dsn_shapes.specs.Refusals.{least}
use Rattle.ses_reader.specs.declared.item.SesItem.{SesItem}
use Rattle.ses_reader.specs.Session.{session_items, session_refusals}
use Rattle.ses_reader.specs.Reading.{HasRefusal, HasSession, OneSession}

-- the refusal that counts in a tree
abbrev least_in : Design → Tree → Option Refusal
least_in d t = least (session_refusals d t)

-- what a text has for a design
abbrev Outcome : List ℕ → Design → Type 0
Outcome text d = ((items : List SesItem) × HasSession text d items)
    ⊎ (((f : TreeFault) × HasFault text f) ⊎ ((number : ℕ) × ((at : ℕ) × HasRefusal text d number at)))

-- a tree is a session, or has a refusal that counts
judged : (text : List ℕ) (d : Design) (t : Tree) → HasTree text t → (o : Option Refusal) → least_in d t ≡ o
    → Outcome text d
judged text d t has None e = inl (
  session_items d t,
  record {
    tree = t;
    has_tree = has;
    session = record { none_refused = e; items_are = refl };
  },
)
judged text d t has (Some r) e = inr (inr (
  r.number,
  (
    r.at,
    record {
      tree = t;
      has_tree = has;
      refused = record { refusal = r; counts = e; number_is = refl; at_is = refl };
    },
  ),
))

-- a text with a tree or a fault has an outcome
some_outcome : (text : List ℕ) (d : Design) → ((t : Tree) × HasTree text t) ⊎ ((f : TreeFault) × HasFault text f)
    → Outcome text d
some_outcome text d (inl t) = judged text d t.0 t.1 (least_in d t.0) refl
some_outcome text d (inr f) = inr (inl f)

module _ (one : OneAnswer) (text : List ℕ) (d : Design) where
  -- one list of items
  one_list : (xs ys : List SesItem) → HasSession text d xs → HasSession text d ys → xs ≡ ys
  one_list xs ys a b = a.session.items_are ∙ ap (session_items d) (one.trees text a.tree b.tree a.has_tree b.has_tree)
      ∙ sym b.session.items_are

  -- one refusal that counts
  one_refusal : (n at m place : ℕ) (a : HasRefusal text d n at) (b : HasRefusal text d m place)
      → a.refused.refusal ≡ b.refused.refusal
  one_refusal n at m place a b = same_Some a.refused.refusal b.refused.refusal
      (sym a.refused.counts ∙ ap (least_in d) (one.trees text a.tree b.tree a.has_tree b.has_tree) ∙ b.refused.counts)

  -- one number
  one_number : (n at m place : ℕ) → HasRefusal text d n at → HasRefusal text d m place → n ≡ m
  one_number n at m place a b = a.refused.number_is ∙ ap (λ (r : Refusal). r.number) (one_refusal n at m place a b)
      ∙ sym b.refused.number_is

  -- one place
  one_place : (n at m place : ℕ) → HasRefusal text d n at → HasRefusal text d m place → at ≡ place
  one_place n at m place a b = a.refused.at_is ∙ ap (λ (r : Refusal). r.at) (one_refusal n at m place a b)
      ∙ sym b.refused.at_is

  -- no session is refused
  not_both : (items : List SesItem) (n at : ℕ) → HasSession text d items → HasRefusal text d n at → ⊥
  not_both items n at a b = none-some b.refused.refusal (sym a.session.none_refused
      ∙ ap (least_in d) (one.trees text a.tree b.tree a.has_tree b.has_tree) ∙ b.refused.counts)

-- the law, from that of trees
pub one_session : OneAnswer → OneSession
one_session one = record {
  some = λ text d. some_outcome text d (one.some text);
  sessions = λ text d xs ys a b. one_list one text d xs ys a b;
  faults = one.faults;
  numbers = λ text d n at m place a b. one_number one text d n at m place a b;
  places = λ text d n at m place a b. one_place one text d n at m place a b;
  no_fault = λ text d items f a b. one.apart text a.tree f a.has_tree b;
  no_refusal = λ text d items n at a b. not_both one text d items n at a b;
  apart = λ text d f n at a b. one.apart text b.tree f b.has_tree a;
}
