-- The bytes of lines one after another.
use Rattle.std.proofs.Common.{◌≡◌, ℕ, List, [], ◌∷◌, ◌++◌, refl, sym, ap, ◌∙◌}
use Rattle.std.proofs.lemmas.List.{append_assoc}
use Rattle.report_form.specs.Form.{joined}

-- of two lists of lines the bytes of the one and then those of the other
pub joined-append : (xs ys : List (List ℕ)) → joined (xs ++ ys) ≡ joined xs ++ joined ys
joined-append [] ys = refl
joined-append (x ∷ xs) ys =
    ap (λ (zs : List ℕ). x ++ zs) (joined-append xs ys) ∙ sym (append_assoc x (joined xs) (joined ys))
