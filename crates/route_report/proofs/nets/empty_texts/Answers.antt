use Rattle.std.proofs.Common.{◌≡◌, ℕ, ◌+◌, [], ◌∷◌, length, All, Vec, Global, ap, sym, subst, ◌∙◌}
use Rattle.std.proofs.Common.{length-append}
use Rattle.std.proofs.lemmas.List.Elements.{All-append, All-cons, All-nil}
use Rattle.route_report.proofs.nets.empty_texts.Goals as goal

-- a text without a byte
abbrev is_empty_text : Vec ℕ Global → Type 0
is_empty_text t = t.items ≡ []

pub loop-init : goal.loop-init
loop-init c = record {
  count_is = ap length c.new-texts.ensures.items;
  all_empty = subst (All is_empty_text) (sym c.new-texts.ensures.items) (All-nil is_empty_text);
}

pub loop-preserved : goal.loop-preserved
loop-preserved c =
    let one = All-cons is_empty_text c.new.result [] c.new.ensures.items (All-nil is_empty_text) in
    record {
      count_is = ap length c.in_ok-push.ensures.items ∙ length-append c.loop.texts.items (c.new.result ∷ [])
          ∙ ap (λ (n : ℕ). n + 1) c.loop.invariant.count_is;
      all_empty = subst (All is_empty_text) (sym c.in_ok-push.ensures.items)
          (All-append is_empty_text c.loop.texts.items (c.new.result ∷ []) c.loop.invariant.all_empty one);
    }
