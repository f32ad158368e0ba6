-- Stretches that go on, node by node.
use Rattle.std.proofs.Common.{◌≡◌, ℕ, ◌+◌, ◌<◌, ◌≤◌, Bool, true, false, cond, sym, ◌∙◌, ap, ap₂, subst, List, ◌++◌}
use Rattle.std.proofs.Common.{length, get_or, drop}
use Rattle.std.proofs.lemmas.List.{at_drop_all, at_drop_more}
use Rattle.route_lattice.specs.Mesh.{Mesh}
use Rattle.ses_writer.specs.Words.{Appends}
use Rattle.ses_writer.proofs.Puts.{Leads, leads_on}
use Rattle.route_report.specs.Report.{goes_on, stretch_line, stretches_from}

module _ (m : Mesh) (first last : ℕ) (others : List ℕ) (i : ℕ) (f l : ℕ) (old new all : List ℕ)
    (within : i < length others) (so_far : Leads old (stretches_from m first last (drop i others)) all) where
  -- the next node
  abbrev pub next : ℕ
  next = get_or others i 0

  -- the nodes behind it
  abbrev pub rest : List ℕ
  rest = drop (i + 1) others

  -- the next node goes on, or it doesn't
  front : (b : Bool) → goes_on m last next ≡ b
      → Leads old (cond b (stretches_from m first next rest)
      (stretch_line m first last ++ stretches_from m next next rest)) all
  front b e =
      subst (λ r. Leads old r all) (at_drop_more (stretches_from m first last) others i 0 within
      ∙ ap (λ t. cond t (stretches_from m first next rest)
      (stretch_line m first last ++ stretches_from m next next rest)) e) so_far

  -- a stretch that goes on
  pub goes_further : goes_on m last next ≡ true → f ≡ first → l ≡ next → new ≡ old
      → Leads new (stretches_from m f l rest) all
  goes_further e same is out_is =
      subst (λ out. Leads out (stretches_from m f l rest) all) (sym out_is)
      (subst (λ r. Leads old r all) (sym (ap₂ (λ x y. stretches_from m x y rest) same is)) (front true e))

  -- a stretch that is put, with the next one begun
  pub begins : goes_on m last next ≡ false → f ≡ next → l ≡ next → Appends old new (stretch_line m first last)
      → Leads new (stretches_from m f l rest) all
  begins e same is put =
      subst (λ r. Leads new r all) (sym (ap₂ (λ x y. stretches_from m x y rest) same is)) (leads_on (front false e) put)

-- with no node left the last stretch is all that is left
pub ends : (m : Mesh) (first last : ℕ) (others : List ℕ) (i : ℕ) (start old new piece : List ℕ) → length others ≤ i
    → Leads old (stretches_from m first last (drop i others)) (start ++ piece)
    → Appends old new (stretch_line m first last) → Appends start new piece
ends m first last others i start old new piece past so_far put = record {
  is = put.is ∙ ap (λ r. old ++ r) (sym (at_drop_all (stretches_from m first last) others i past)) ∙ so_far.is;
}
