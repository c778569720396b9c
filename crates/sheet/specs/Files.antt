-- Whole texts: the lines that the grammar cuts a text into, to its end. Assumes nothing.
use Rattle.std.specs.Prelude.{◌≡◌, ℕ, ◌<◌, List, [], ◌∷◌, ◌++◌, length}
use Rattle.rfc4180.specs.Grammar.{FieldText, Derives}

-- a text is these lines one after another, each given by its fields
pub data File : List ℕ → List (List FieldText) → Type 0 where
  at_end : {text : List ℕ} → text ≡ [] → File text []
  one_more : {text rest : List ℕ} {front : List FieldText} {last : FieldText} {lines : List (List FieldText)} → 0 < length text → Derives text front last rest → File rest lines → File text ((front ++ last ∷ []) ∷ lines)

-- read to its end, a text gives these lines and no others
pub record ReadBack (text : List ℕ) (lines : List (List FieldText)) : Type 0 where
  pub whole : File text lines
  pub only : (others : List (List FieldText)) → File text others → others ≡ lines
