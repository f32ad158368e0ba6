-- What is put last, behind what was put first.
use Rattle.std.proofs.Common.{◌∙◌, ℕ, List, ◌++◌, sym, ap, append_assoc}
use Rattle.std.proofs.lemmas.Result.{on_ok_weaker}
use Rattle.std.specs.Prelude.{Result, OnOk}
use Rattle.ses_writer.specs.Words.{Appends}
use Rattle.ses_writer.proofs.Puts.{then_put}

module _ {T E : Type 0} (r : Result T E) where
  -- first x, and y last
  pub put_last : {a b x : List ℕ} (c y : List ℕ) → Appends a b x → OnOk r (Appends b c y)
      → OnOk r (Appends a c (x ++ y))
  put_last {a} {b} {x} c y first last = on_ok_weaker r (λ (put : Appends b c y). then_put first put) last

  -- first x, and y and z last
  pub two_last : {a b x : List ℕ} (c y z : List ℕ) → Appends a b x → OnOk r (Appends b c (y ++ z))
      → OnOk r (Appends a c (x ++ y ++ z))
  two_last {a} {b} {x} c y z first last = on_ok_weaker r
      (λ (put : Appends b c (y ++ z)). record {
        is = (then_put first put).is ∙ ap (λ (l : List ℕ). a ++ l) (sym (append_assoc x y z));
      }) last
