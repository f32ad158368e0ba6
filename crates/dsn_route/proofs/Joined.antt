-- Lines of three and of five pieces.
use Rattle.std.proofs.Common.{◌≡◌, ◌∙◌, ◌++◌, ℕ, List, [], sym, ap, append_assoc, append-nil}

pub three : (a b c d : List ℕ) → b ≡ d → a ++ (b ++ (c ++ [])) ≡ a ++ d ++ c
three a b c d e =
    ap (λ (l : List ℕ). a ++ (l ++ (c ++ []))) e ∙ ap (λ (l : List ℕ). a ++ (d ++ l)) (append-nil c)
    ∙ sym (append_assoc a d c)

pub five : (a b c d e x y : List ℕ) → b ≡ x → d ≡ y → a ++ (b ++ (c ++ (d ++ (e ++ [])))) ≡ a ++ x ++ c ++ y ++ e
five a b c d e x y p q =
    ap (λ (l : List ℕ). a ++ (l ++ (c ++ (d ++ (e ++ []))))) p
    ∙ sym (append_assoc a x (c ++ (d ++ (e ++ []))))
    ∙ sym (append_assoc (a ++ x) c (d ++ (e ++ [])))
    ∙ three (a ++ x ++ c) d e y q
