-- From the reading of a line to what becomes of it. Assumes nothing.
use Rattle.std.proofs.Common.{◌≡◌, ℕ, suc, ◌+◌, ◌-◌, ◌<◌, ◌≤◌, eqb, List, [], ◌∷◌, ◌++◌, map, length, take, Some, None, Ok, Err, Result, sym, refl, ap, ◌∙◌, subst, arith, length-append}
use Rattle.std.proofs.lemmas.List.{length_push, take_all}
use Rattle.std.proofs.lemmas.Bool.{cond-true, cond-false, eq-eqb, ne_eqb}
use Rattle.rfc4180.specs.declared.fields.Field.{Field}
use Rattle.rfc4180.specs.declared.lines.Line.{Line}
use Rattle.rfc4180.specs.Grammar.{FieldText, written, with_commas}
use Rattle.rfc4180.specs.Laws as laws
use Rattle.rfc4180.specs.Reading.{LineRead, cut, damaged, read_line}
use Rattle.rfc4180.specs.Told.{field_text, fields_of, line_answer, Filled}
use Rattle.rfc4180.proofs.Damages.{agrees}
use Rattle.rfc4180.proofs.Progress.{size_push}
use Rattle.report.specs.declared.columns.Report.{Report}
use Rattle.report.specs.declared.faults.LineFault.{LineFault}
use Rattle.report.specs.declared.faults.LineFault.TheVariants.{FieldCount}
use Rattle.report.specs.Columns.{columns, of_columns, miscounted, of_fields}
use Rattle.report.specs.Lines.{told, of_reading}
use Rattle.report.specs.Readers.{next}

-- a line was read, with so many fields
pub record WasCut (r : LineRead) (count : ℕ) : Type 0 where
  pub front : List FieldText
  pub last : FieldText
  pub rest : List ℕ
  pub is : r ≡ cut front last rest
  pub counts : count ≡ length (front ++ last ∷ [])

pub was_cut : (line place all : ℕ) (r : LineRead) (l : Line) → Ok l ≡ line_answer line place all r → WasCut r l.fields
was_cut line place all (cut front last rest) l e =
    let same : l ≡ record { fields = length front + 1; next = all - length rest } = cc in
    record { front = front; last = last; rest = rest; is = refl; counts = ap (λ x. x.fields) same ∙ sym (length_push front last) }
was_cut line place all (damaged front w n) l e = let z : ◌≡◌ {A = ℕ} 0 1 = cc in absurd (omega arith)

module _ {r : LineRead} {count : ℕ} (w : WasCut r count) where
  fields_are : fields_of r ≡ w.front ++ w.last ∷ []
  fields_are = ap fields_of w.is

  is_of_fields : (width line byte : ℕ) → of_reading width line byte r ≡ of_fields width line byte (fields_of r)
  is_of_fields width line byte = ap (of_reading width line byte) w.is ∙ ap (of_fields width line byte) (sym fields_are)

  counted : count ≡ length (fields_of r)
  counted = w.counts ∙ ap length (sym fields_are)

  pub another_count : (width line byte : ℕ) → (count ≡ width + 2 → ⊥) → Err (FieldCount (miscounted line byte count (width + 2))) ≡ of_reading width line byte r
  another_count width line byte n =
      ap (λ k. Err (FieldCount (miscounted line byte k (width + 2)))) counted
      ∙ sym (is_of_fields width line byte ∙ cond-false (eqb (length (fields_of r)) (width + 2)) (of_columns line byte (fields_of r) (columns (suc width) (fields_of r))) _ (ne_eqb (length (fields_of r)) (width + 2) (λ e. n (counted ∙ e))))

  pub right_count : (width line byte : ℕ) → count ≡ width + 2 → of_columns line byte (fields_of r) (columns (suc width) (fields_of r)) ≡ of_reading width line byte r
  right_count width line byte e =
      sym (is_of_fields width line byte ∙ cond-true (eqb (length (fields_of r)) (width + 2)) (of_columns line byte (fields_of r) (columns (suc width) (fields_of r))) _ (eq-eqb (length (fields_of r)) (width + 2) (sym counted ∙ e)))

  pub all_shown : (entry after : List Field) (k : ℕ) → Filled (fields_of r) entry after → k ≡ count → count ≤ length after → map field_text (take k after) ≡ fields_of r
  all_shown entry after k f e h =
      ap (λ n. map field_text (take n after)) (e ∙ counted) ∙ f.shows ∙ take_all (length after) (fields_of r) (omega (arith, counted))

-- the fields with their commas take at most one byte more than the text has
pub room : (xs : List ℕ) (count : ℕ) → WasCut (read_line xs) count → length (with_commas (fields_of (read_line xs))) ≤ length xs + 1
room xs count w =
    let d = subst (laws.Means xs) w.is (agrees xs).means in
    let F = with_commas w.front in
    let long = ap length d.split ∙ length-append F (written w.last ++ d.behind) in
    let long2 = length-append (written w.last) d.behind in
    let size = ap (λ l. length (with_commas l)) (fields_are w) ∙ size_push w.front w.last in
    omega arith

pub taken : (width lines bytes : ℕ) (xs : List ℕ) (o : Result Report LineFault) → 0 < length xs → o ≡ of_reading width (lines + 1) bytes (read_line xs) → Some (told o) ≡ next width lines bytes xs
taken width lines bytes [] o h e = absurd (omega arith)
taken width lines bytes (b ∷ bs) o h e = ap (λ x. Some (told x)) e

pub at_end : (width lines bytes : ℕ) (xs : List ℕ) → length xs ≡ 0 → None ≡ next width lines bytes xs
at_end width lines bytes [] h = refl
at_end width lines bytes (b ∷ bs) h = absurd (omega arith)
