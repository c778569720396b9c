-- What the reading of a line means, in the words of the grammar. Assumes nothing.
use Rattle.std.specs.Prelude.{◌≡◌, ℕ, suc, ◌+◌, ◌<◌, true, false, List, [], ◌∷◌, ◌++◌, length, take, drop, ◌≢◌, slice_index}
use Rattle.rfc4180.specs.Grammar.{FieldText, Lawful, AllLawful, written, with_commas, Derives}
use Rattle.rfc4180.specs.Reading.{begins_with_lf, Wrong, not_allowed, unclosed, LineRead, cut, damaged, read_line}

-- a line stands at the front of text
pub record HasLine (text : List ℕ) : Type 0 where
  pub front : List FieldText
  pub last : FieldText
  pub rest : List ℕ
  pub derives : Derives text front last rest

-- the byte at p is the first at which no continuation is lawful; a CR could still be made lawful by an LF, so it
-- offends where none follows
pub record Offends (text : List ℕ) (p : ℕ) : Type 0 where
  pub within : p < length text
  pub before : (more : List ℕ) × HasLine (take p text ++ more)
  pub here : (more : List ℕ) → HasLine (take (suc p) text ++ more) → (slice_index text p ≡ 13) × (begins_with_lf more ≡ true)
  pub alone : slice_index text p ≡ 13 → begins_with_lf (drop (suc p) text) ≡ false

-- the text ends at p, and whatever could make it lawful has the quotation mark that is missing
pub record Unclosed (text : List ℕ) (p : ℕ) : Type 0 where
  pub end : p ≡ length text
  pub before : (more : List ℕ) × HasLine (text ++ more)
  pub here : (more : List ℕ) → HasLine (text ++ more) → (i : ℕ) × (i < length more) × (slice_index more i ≡ 34)

abbrev pub Because : Wrong → List ℕ → ℕ → Type 0
Because not_allowed text p = Offends text p
Because unclosed text p = Unclosed text p

-- the lawful fields at the front of text are these and no more, and the field behind them is spoilt by the byte that
-- stands n bytes behind its first
pub record Damage (text : List ℕ) (front : List FieldText) (w : Wrong) (n : ℕ) : Type 0 where
  pub tail : List ℕ
  pub split : text ≡ with_commas front ++ tail
  pub lawful : AllLawful front
  pub no_more : (f : FieldText) (rest : List ℕ) → Lawful f → tail ≢ written f ++ 44 ∷ rest
  pub because : Because w text (length (with_commas front) + n)

abbrev pub Means : List ℕ → LineRead → Type 0
Means text (cut front last rest) = Derives text front last rest
Means text (damaged front w n) = Damage text front w n

-- what is read the grammar derives, what the grammar derives is read, and a damaged line is one for which it derives nothing
pub record Agrees (text : List ℕ) : Type 0 where
  pub means : Means text (read_line text)
  pub reads : (front : List FieldText) (last : FieldText) (rest : List ℕ) → Derives text front last rest → read_line text ≡ cut front last rest

abbrev pub NoLineEnd : List ℕ → Type 0
NoLineEnd text = (front rest : List ℕ) → text ≢ front ++ 13 ∷ 10 ∷ rest

-- rest is what stands behind the first CR LF of text, or nothing where there is none
pub data Resumes : List ℕ → List ℕ → Type 0 where
  behind_first : {text rest : List ℕ} (front : List ℕ) → text ≡ front ++ 13 ∷ 10 ∷ rest → NoLineEnd (front ++ 13 ∷ []) → Resumes text rest
  at_end : {text : List ℕ} → NoLineEnd text → Resumes text []
