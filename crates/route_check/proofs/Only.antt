-- Where nothing is wrong the answer is yes, or want of memory.
use Rattle.std.proofs.Common.{◌≡◌, inl, inr, ℕ}
use Rattle.std.proofs.Common.{Result, Ok, Err, sym, ap, subst}
use Rattle.std.proofs.Common.{arith}
use Rattle.std.specs.List.{AllZip}
use Rattle.std.proofs.lemmas.List.Elements.{All-contains}
use Rattle.route_check.specs.declared.verdict.Verdict.{Verdict}
use Rattle.route_check.specs.declared.verdict.Verdict.TheVariants.{Yes, No}
use Rattle.route_check.specs.declared.verdict.JudgeFault.{JudgeFault}
use Rattle.route_check.specs.declared.verdict.JudgeFault.TheVariants.{TooManyNodes, Memory}
use Rattle.report_form.specs.Form.{Told, nodes_of}
use Rattle.route_check.specs.Judged.{Case, IsRight, IsRead, IsWrong, IsClash, IsOutside, IsIllLaid}
use Rattle.route_check.specs.Judged.{IsFalseLine, IsNoCut}
use Rattle.copper_check.specs.Checks.{AgreesWithAll, IsLaidWell, IsWithinEdges}
use Rattle.route_check.specs.Judged.{AreCutsTrue, IsLineTrue, IsTooFine}
use Rattle.route_check.specs.Judged.{Answers, IsYes}
use Rattle.route_check.specs.Judged.{first_names, mesh_told}
use Rattle.report_form.proofs.Agree.{one_told}
use Rattle.route_check.proofs.Zipped.{zip_at}

module _ (c : Case) (right : IsRight c) where
  one_read : (t : Told) → IsRead c t → t ≡ right.told
  one_read t r = one_told c.design (first_names c.design c.found) t right.told c.report r.report.0.told
      right.read.report.0.told r.report.1 right.read.report.1

  no_clash : (at : ℕ) → IsClash c at → ⊥
  no_clash at w =
      let bad = w.first.bad in
      bad.disagree
      ((All-contains (AgreesWithAll c.design c.items) c.items w.first.item right.legal.agree w.first.there).each
      bad.other bad.there bad.apart bad.one_routed)

  no_outside : (at : ℕ) → IsOutside c at → ⊥
  no_outside at w =
      w.first.bad (All-contains (IsWithinEdges c.design) c.items w.first.item right.legal.inside w.first.there)

  no_ill_laid : (at : ℕ) → IsIllLaid c at → ⊥
  no_ill_laid at w =
      w.first.bad (All-contains (IsLaidWell c.design) c.items w.first.item right.legal.laid w.first.there)

  no_false_line : (at : ℕ) → IsFalseLine c at → ⊥
  no_false_line at w =
      w.false_ (zip_at IsLineTrue c.found w.told.nets
      (subst (λ (t : Told). AllZip IsLineTrue c.found t.nets)
      (sym (one_read w.told w.read)) right.lines) at w.own w.line
      w.own_is w.line_is)

  no_false_cut : (at : ℕ) → IsNoCut c at → ⊥
  no_false_cut at w =
      let f = w.false_ in
      f.false_ ((zip_at (AreCutsTrue c.design (mesh_told c w.told) c.items) c.found w.told.nets
      (subst (λ (t : Told). AllZip (AreCutsTrue c.design (mesh_told c t) c.items) c.found t.nets)
      (sym (one_read w.told w.read)) right.cuts) f.net f.own f.told f.own_is f.told_is).each f.k f.island f.cut
      f.island_is
      f.cut_is)

  not_wrong : (number at : ℕ) → IsWrong c number at → ⊥
  not_wrong number at (inl w) = w.1.out.none right.told right.read.report.0 right.read.report.1
  not_wrong number at (inr (inl w)) = no_clash at w.1
  not_wrong number at (inr (inr (inl w))) = no_outside at w.1
  not_wrong number at (inr (inr (inr (inl w)))) = no_ill_laid at w.1
  not_wrong number at (inr (inr (inr (inr (inl w))))) = no_false_line at w.1
  not_wrong number at (inr (inr (inr (inr (inr w))))) = no_false_cut at w.1

  not_fine : (count : ℕ) → IsTooFine c count → ⊥
  not_fine count w =
      let one : w.told ≡ right.told =
      one_told c.design (first_names c.design c.found) w.told right.told c.report w.is right.read.report.0.told w.says
      right.read.report.1 in
      let same : nodes_of c.design w.told ≡ nodes_of c.design right.told = ap (nodes_of c.design) one in
      absurd (omega (arith, w.count_is, w.many, right.read.few, same))

  pub only_yes : (r : Result Verdict JudgeFault) → Answers c r → IsYes r
  only_yes (Ok Yes) h = tt
  only_yes (Ok (No number at)) h = not_wrong number at h
  only_yes (Err (TooManyNodes count)) h = not_fine count h
  only_yes (Err (Memory e)) h = tt
