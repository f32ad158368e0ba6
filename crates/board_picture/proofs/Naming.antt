-- A name, byte by byte, and names one after another.
use Rattle.std.proofs.Common.{◌≡◌, ◌∙◌, ℕ, zero, suc, ◌+◌, ◌<◌, List, ◌∷◌, ◌++◌, get_or}
use Rattle.std.proofs.Common.{drop, length, refl, sym, ap, subst}
use Rattle.std.proofs.lemmas.List.{drop_more}
use Rattle.ses_writer.specs.Words.{Appends}
use Rattle.ses_writer.proofs.Puts.{Leads, leads_on}
use Rattle.board_picture.specs.Words.{escaped_from}
use Rattle.board_picture.specs.inner.Naming.{next_words, next_skip}

-- the first byte of what is left
escaped_step : (skip b : ℕ) (rest : List ℕ)
    → escaped_from skip (b ∷ rest) ≡ next_words skip (b ∷ rest) ++ escaped_from (next_skip skip (b ∷ rest)) rest
escaped_step zero b rest = refl
escaped_step (suc k) b rest = refl

-- one byte more of a name
pub name_on : {out new all : List ℕ} (skip next : ℕ) (name left : List ℕ) (at : ℕ) → at < length name
    → left ≡ drop at name → next ≡ next_skip skip left → Appends out new (next_words skip left)
    → Leads out (escaped_from skip (drop at name)) all → Leads new (escaped_from next (drop (at + 1) name)) all
name_on {out} {new} {all} skip next name left at lt left_is next_is put before =
    let b = get_or name at 0 in
    let rest = drop (at + 1) name in
    let cut : drop at name ≡ b ∷ rest = drop_more name at 0 lt in
    let split : left ≡ b ∷ rest = left_is ∙ cut in
    let ahead : Leads out (next_words skip (b ∷ rest) ++ escaped_from (next_skip skip (b ∷ rest)) rest) all =
    subst (λ (l : List ℕ). Leads out l all) (ap (escaped_from skip) cut ∙ escaped_step skip b rest) before in
    let there : Appends out new (next_words skip (b ∷ rest)) =
    subst (λ (l : List ℕ). Appends out new (next_words skip l)) split put in
    subst (λ (k : ℕ). Leads new (escaped_from k rest) all) (sym (next_is ∙ ap (next_skip skip) split))
    (leads_on ahead there)
