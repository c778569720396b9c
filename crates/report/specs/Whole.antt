-- A text of report lines as a whole. Assumes nothing.
use Rattle.std.specs.Prelude.{◌≡◌, ℕ, zero, suc, ◌+◌, ◌<◌, List, [], ◌∷◌, map, length, take, drop, Ok, Err}
use Rattle.std.specs.List.{flat_map, AllByRecursion}
use Rattle.report.specs.Lines.{Outcome, size, left, outcomes}

-- the lines of a text, each with its end, or with what is lost by its damage; at most k of them
abbrev pub first_lines : ℕ → List ℕ → List (List ℕ)
first_lines k [] = []
first_lines zero (b ∷ bs) = []
first_lines (suc k) (b ∷ bs) = take (size (b ∷ bs)) (b ∷ bs) ∷ first_lines k (left (b ∷ bs))

abbrev pub lines_of : List ℕ → List (List ℕ)
lines_of text = first_lines (length text) text

abbrev pub bytes_of : List (List ℕ) → List ℕ
bytes_of ls = flat_map (λ l. l) ls

-- the same outcome behind so many more lines and bytes
abbrev pub moved : (lines bytes : ℕ) → Outcome → Outcome
moved lines bytes (Ok r) = Ok (record { line = lines + r.line; byte = bytes + r.byte; owner = r.owner; values = r.values; reading = r.reading })
moved lines bytes (Err d) =
    Err (record { number = d.number; layer = d.layer; at = record { line = lines + d.at.line; column = d.at.column; byte = bytes + d.at.byte } })

-- the lines cut the text from its first byte to its last, none of them empty, and each has one outcome; and what stands
-- behind the first k lines is read as it would be read alone
pub record Whole (width : ℕ) (text : List ℕ) : Type 0 where
  pub cuts : bytes_of (lines_of text) ≡ text
  pub none_empty : AllByRecursion (λ l. 0 < length l) (lines_of text)
  pub one_each : length (outcomes width text) ≡ length (lines_of text)
  pub alone : (k : ℕ) → drop k (outcomes width text) ≡ map (moved k (length (bytes_of (take k (lines_of text))))) (outcomes width (bytes_of (drop k (lines_of text))))
