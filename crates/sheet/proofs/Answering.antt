-- Which answer a row gets, and how its bytes go on with those of the sheet. Assumes nothing.
use Rattle.std.proofs.Common.{◌≡◌, ℕ, List, [], ◌∷◌, ◌++◌, length, take, drop, sym, ap, ◌∙◌, subst, append-nil}
use Rattle.rfc4180.specs.Reading.{read_line}
use Rattle.release.specs.declared.Line.{Line}
use Rattle.std.proofs.lemmas.List.{take_at}
use Rattle.sheet.specs.Files.{ReadBack}
use Rattle.sheet.specs.Rows.{attribute_fields, reading_field, row_bytes}
use Rattle.sheet.specs.Sheets.{row_fields, RowBack}
use Rattle.sheet.specs.Shown.{Shown}
use Rattle.sheet.proofs.Lawfully.{row_lawful, line_reads_back}
use Rattle.sheet.proofs.Wholes.{rows_back}

front_told : (width : ℕ) (line : Line) (rest area : List ℕ) (n : ℕ) → area ≡ row_bytes width line ++ rest → n ≡ length (row_bytes width line) → take n area ≡ row_bytes width line
front_told width line rest area n e k = ap (take n) e ∙ take_at (row_bytes width line) rest n (sym k)

pub row_back : (width : ℕ) (line : Line) (n : ℕ) (before after : List ℕ) → Shown width line → after ≡ row_bytes width line ++ drop n before → n ≡ length (row_bytes width line) → RowBack width line n before after
row_back width line n before after s e k =
    record {
      reads = ap read_line e ∙ line_reads_back (attribute_fields width line) (reading_field line) (drop n before) (row_lawful width line);
      alone = subst (λ t. ReadBack t (row_fields width line ∷ [])) (append-nil (row_bytes width line) ∙ sym (front_told width line (drop n before) after n e k)) (rows_back width (line ∷ []));
      shown = s;
    }
