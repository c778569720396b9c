-- RFC 4180 as a grammar of bytes: which bytes are a field, a line, the front of a text. Assumes nothing.
use Rattle.std.specs.Prelude.{◌≡◌, ℕ, Bool, true, not, ◌&&◌, ◌||◌, ◌⊎◌, List, [], ◌∷◌, ◌++◌, ◌==◌, nat_le}

-- a byte of a plain field: printable, and neither a quotation mark (34) nor a comma (44)
abbrev pub plain : ℕ → Bool
plain b = nat_le 32 b && (nat_le b 126 && (not (b == 34) && not (b == 44)))

-- a byte that may stand alone between quotation marks: such a one, a comma, CR (13) or LF (10)
abbrev pub inside : ℕ → Bool
inside b = plain b || (b == 44 || (b == 13 || b == 10))

-- a field: its bytes, or what stands between its quotation marks
pub data FieldText : Type 0 where
  plainly : List ℕ → FieldText
  quoted : List ℕ → FieldText

abbrev pub Plain : List ℕ → Type 0
Plain [] = Unit {0}
Plain (b ∷ bs) = (plain b ≡ true) × Plain bs

-- between quotation marks a mark is doubled
pub data Inside : List ℕ → Type 0 where
  empty : Inside []
  one : {b : ℕ} {bs : List ℕ} → inside b ≡ true → Inside bs → Inside (b ∷ bs)
  doubled : {b c : ℕ} {bs : List ℕ} → b ≡ 34 → c ≡ 34 → Inside bs → Inside (b ∷ c ∷ bs)

abbrev pub Lawful : FieldText → Type 0
Lawful (plainly bs) = Plain bs
Lawful (quoted bs) = Inside bs

abbrev pub AllLawful : List FieldText → Type 0
AllLawful [] = Unit {0}
AllLawful (f ∷ fs) = Lawful f × AllLawful fs

-- the bytes of a field
abbrev pub written : FieldText → List ℕ
written (plainly bs) = bs
written (quoted bs) = 34 ∷ (bs ++ 34 ∷ [])

-- fields with a comma behind each
abbrev pub with_commas : List FieldText → List ℕ
with_commas [] = []
with_commas (f ∷ fs) = written f ++ 44 ∷ with_commas fs

-- a line ends with CR LF; the last may end with the text
abbrev pub LineEnd : List ℕ → List ℕ → Type 0
LineEnd behind rest = (behind ≡ 13 ∷ 10 ∷ rest) ⊎ ((behind ≡ []) × (rest ≡ []))

-- text begins with a line of the fields front and last, with commas between them, and rest is behind its end
pub record Derives (text : List ℕ) (front : List FieldText) (last : FieldText) (rest : List ℕ) : Type 0 where
  pub behind : List ℕ
  pub split : text ≡ with_commas front ++ (written last ++ behind)
  pub lawful : AllLawful front × Lawful last
  pub ends : LineEnd behind rest
