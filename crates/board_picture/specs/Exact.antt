-- That a printed length is exact.
use Rattle.std.specs.Prelude.{◌≡◌, ℕ, ◌+◌, ◌-◌, ◌*◌, ◌/◌, ◌%◌, ◌==◌, if◌then◌else◌, List, [], ◌∷◌, ◌++◌, codes, decimal}

-- how many nm a digit is worth at each place behind the point
abbrev pub places : List ℕ
places = 100000 ∷ 10000 ∷ 1000 ∷ 100 ∷ 10 ∷ 1 ∷ []

-- what digits are worth, the first of them at the first of these places
abbrev pub worth : List ℕ → List ℕ → ℕ
worth [] digits = 0
worth (place ∷ rest) [] = 0
worth (place ∷ rest) (b ∷ digits) = (b - 48) * place + worth rest digits

-- the whole mm, and where nm are left over, a point and digits that are worth just these
pub record IsExact (nm : ℕ) (word : List ℕ) : Type 0 where
  pub digits : List ℕ
  pub word_is : word ≡ decimal (nm / 1000000) ++ (if nm % 1000000 == 0 then [] else codes "." ++ digits)
  pub worth_is : worth places digits ≡ nm % 1000000
