use Rattle.std.proofs.Common.{◌≡◌, ◌==◌, ◌∙◌, ◌++◌, ◌∷◌, [], ℕ, Bool, true, false, List, not, filter, take, get_or}
use Rattle.std.proofs.Common.{cond, arith, sym, ap}
use Rattle.std.proofs.lemmas.Bool.Decides.{nat_tests}
use Rattle.std.proofs.lemmas.List.{take_all, append-nil}
use Rattle.std.proofs.lemmas.List.Elements.{filter_more}
use Rattle.dsn_tokens.proofs.lexer.without.Goals.{then-b-byte+in_ok-push, else-b-byte}
use Rattle.dsn_tokens.proofs.lexer.without.Goals as goal

kept : (x b : ℕ) → (x ≡ b → ⊥) → not (x == b) ≡ true
kept x b n = grind (arith, nat_tests)

left : (x b : ℕ) → x ≡ b → not (x == b) ≡ false
left x b e = grind (arith, nat_tests)

pub loop-b-preserved : goal.loop-b-preserved
loop-b-preserved c =
    let p : ℕ → Bool = λ b. not (b == c.args.byte) in
    let x = get_or c.args.bytes.now c.loop-b.b-index 0 in
    let front : List ℕ = filter p (take c.loop-b.b-index c.args.bytes.now) in
    let more = filter_more p c.args.bytes.now c.loop-b.b-index 0 c.loop-b-test.true in
    elim c.if-b-byte.branch [
      | then-b-byte+in_ok-push w ↦ ap (λ v. v.items) w.rest-is
          ∙ (w.in_ok-push.ensures.items
          ∙ (ap (λ xs. xs ++ x ∷ []) c.loop-b.invariant
          ∙ sym (more ∙ ap (λ t. front ++ cond t (x ∷ []) []) (kept x c.args.byte w.if-b-byte.true))))
      | else-b-byte w ↦ ap (λ v. v.items) w.rest-is
          ∙ (c.loop-b.invariant
          ∙ sym (more ∙ (ap (λ t. front ++ cond t (x ∷ []) []) (left x c.args.byte w.if-b-byte.false)
          ∙ append-nil front)))
    ]

pub returns : goal.returns
returns c =
    c.loop-b.invariant
    ∙ ap (filter (λ b. not (b == c.args.byte))) (take_all c.loop-b.b-index c.args.bytes.now c.loop-b-test.false)
