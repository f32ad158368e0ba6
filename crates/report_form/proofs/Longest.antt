-- No other report goes further into a text than to where none of the lines that may come next begins the rest.
use Rattle.std.proofs.Common.{◌≡◌, ℕ, zero, suc, ◌≤◌, List, [], ◌∷◌, ◌++◌, length, take, sym}
use Rattle.std.proofs.Common.{ap, ◌∙◌}
use Rattle.std.proofs.Common.{subst, arith}
use Rattle.std.proofs.lemmas.List.{append_assoc, append_cancel_left, length-append}
use Rattle.report_form.specs.Form.{Told, joined}
use Rattle.report_form.specs.inner.State.{Page, State, Ended, Next, Path, IsStuck, IsEnded}
use Rattle.report_form.proofs.Tells.{tells}

-- the first lines of both, and what follows them
pub record Met (p : Page) (l k : List ℕ) (x y : List ℕ) (a b : State) : Type 0 where
  pub line : l ≡ k
  pub state : a ≡ b
  pub rest : x ≡ y

meet : (p : Page) (s a b : State) (l k x y : List ℕ) → Next p s l a → Next p s k b → l ++ x ≡ k ++ y
    → Met p l k x y a b
meet p s a b l k x y f g e =
    let w = tells p s a b l k x y f g e in record {
      line = w.0;
      state = w.1;
      rest = append_cancel_left k x y (ap (λ (z : List ℕ). z ++ x) (sym w.0) ∙ e);
    }

pub ahead : (p : Page) (s t e : State) (L K : List (List ℕ)) (n : ℕ) (rest q : List ℕ) → Path p s L t
    → IsStuck p t rest → Path p s K e → n ≤ length K → joined L ++ rest ≡ joined (take n K) ++ q
    → length (joined (take n K)) ≤ length (joined L)
ahead p s t e L K zero rest q a stuck b less h = omega arith
ahead p s t e [] [] (suc n) rest q a stuck b less h = absurd (omega (arith, less))
ahead p s t e [] (k ∷ K) (suc n) rest q a stuck b less h =
    absurd (stuck.none k b.0 (joined (take n K) ++ q) (subst (λ (x : State). Next p x k b.0) a b.1)
    (h ∙ append_assoc k (joined (take n K)) q))
ahead p s t e (l ∷ L) [] (suc n) rest q a stuck b less h = absurd (omega (arith, less))
ahead p s t e (l ∷ L) (k ∷ K) (suc n) rest q a stuck b less h =
    let x = joined L ++ rest in
    let y = joined (take n K) ++ q in
    let w = meet p s a.0 b.0 l k x y a.1 b.1
    (sym (append_assoc l (joined L) rest) ∙ h ∙ append_assoc k (joined (take n K)) q) in
    let behind = ahead p a.0 t e L K n rest q a.2 stuck (subst (λ (z : State). Path p z K e) (sym w.state) b.2)
    (omega (arith, less)) w.rest in
    let same : length l ≡ length k = ap length w.line in
    omega (arith, behind, same, length-append l (joined L), length-append k (joined (take n K)))

-- nor is the text a report
pub not_whole : (p : Page) (s t : State) (u : Told) (L K : List (List ℕ)) (rest : List ℕ) → Path p s L t
    → IsStuck p t rest → Path p s K (Ended u) → joined L ++ rest ≡ joined K → ⊥
not_whole p s t u [] [] rest a stuck b h = stuck.more (subst (λ (x : State). IsEnded x) (sym b ∙ a) tt) h
not_whole p s t u [] (k ∷ K) rest a stuck b h =
    stuck.none k b.0 (joined K) (subst (λ (x : State). Next p x k b.0) a b.1) h
not_whole p s t u (l ∷ L) [] rest a stuck b h = subst (λ (x : State). Next p x l a.0) b a.1
not_whole p s t u (l ∷ L) (k ∷ K) rest a stuck b h =
    let w = meet p s a.0 b.0 l k (joined L ++ rest) (joined K) a.1 b.1 (sym (append_assoc l (joined L) rest) ∙ h) in
    not_whole p a.0 t u L K rest a.2 stuck (subst (λ (z : State). Path p z K (Ended u)) (sym w.state) b.2) w.rest
