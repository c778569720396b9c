-- A whole sheet is read back line by line. Assumes nothing.
use Rattle.std.proofs.Common.{◌≡◌, ℕ, ◌<◌, List, [], ◌∷◌, ◌++◌, map, length, sym, refl, ap, ◌∙◌, subst, arith, length-append}
use Rattle.rfc4180.specs.Grammar.{FieldText, Lawful, AllLawful}
use Rattle.rfc4180.specs.Reading.{cut}
use Rattle.rfc4180.proofs.Agreement.{derived_reads}
use Rattle.release.specs.declared.Line.{Line}
use Rattle.std.specs.List.{flat_map}
use Rattle.sheet.specs.Rows.{line_bytes, attribute_fields, reading_field, row_bytes}
use Rattle.sheet.specs.Files.{File, at_end, one_more, ReadBack}
use Rattle.sheet.specs.Sheets.{row_fields, GivesBack}
use Rattle.sheet.proofs.Lawfully.{row_lawful, line_derives}

some_bytes : (front : List FieldText) (last : FieldText) (rest : List ℕ) → 0 < length (line_bytes front last ++ rest)
some_bytes front last rest = simp length-append (omega arith)

rows_file : (width : ℕ) (lines : List Line) → File (flat_map (row_bytes width) lines) (map (row_fields width) lines)
rows_file width [] = at_end refl
rows_file width (line ∷ lines) =
    let rest = flat_map (row_bytes width) lines in
    one_more (some_bytes (attribute_fields width line) (reading_field line) rest) (line_derives (attribute_fields width line) (reading_field line) rest (row_lawful width line)) (rows_file width lines)

pub sheet_file : (width : ℕ) (front : List FieldText) (last : FieldText) (lines : List Line) → AllLawful front × Lawful last → File (line_bytes front last ++ flat_map (row_bytes width) lines) ((front ++ last ∷ []) ∷ map (row_fields width) lines)
sheet_file width front last lines l =
    let rest = flat_map (row_bytes width) lines in
    one_more (some_bytes front last rest) (line_derives front last rest l) (rows_file width lines)

-- the grammar cuts a text in one way only

same_front : {f g : List FieldText} {a b : FieldText} {r s : List ℕ} → cut f a r ≡ cut g b s → f ++ a ∷ [] ≡ g ++ b ∷ []
same_front e = cc

same_rest : {f g : List FieldText} {a b : FieldText} {r s : List ℕ} → cut f a r ≡ cut g b s → r ≡ s
same_rest e = cc

pub file_only : {text : List ℕ} {lines : List (List FieldText)} (others : List (List FieldText)) → File text lines → File text others → others ≡ lines
file_only others (at_end e) (at_end d) = refl
file_only others (at_end e) (one_more h d m) = absurd (omega (arith, ap length e))
file_only others (one_more h d m) (at_end e) = absurd (omega (arith, ap length e))
file_only others (one_more {rest = r} {front = f} {last = a} {lines = ls} h d m) (one_more {rest = s} {front = g} {last = b} {lines = ms} k e n) =
    let same = sym (derived_reads _ _ _ _ e) ∙ derived_reads _ _ _ _ d in
    let tail = file_only ms m (subst (λ t. File t ms) (same_rest same) n) in
    ap (λ l. l ∷ ms) (same_front same) ∙ ap (λ l. (f ++ a ∷ []) ∷ l) tail

pub rows_back : (width : ℕ) (lines : List Line) → ReadBack (flat_map (row_bytes width) lines) (map (row_fields width) lines)
rows_back width lines = record { whole = rows_file width lines; only = λ others o. file_only others (rows_file width lines) o }

pub gives_back : (width rows : ℕ) → GivesBack width rows
gives_back width rows front last lines text w =
    let whole = subst (λ t. File t ((front ++ last ∷ []) ∷ map (row_fields width) lines)) (sym w.bytes) (sheet_file width front last lines w.lawful) in
    record { whole = whole; only = λ others o. file_only others whole o }
