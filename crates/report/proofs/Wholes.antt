-- A text is read line by line to its end. Assumes nothing.
use Rattle.std.proofs.Common.{◌≡◌, ℕ, zero, suc, ◌+◌, ◌<◌, ◌≤◌, eqb, List, [], ◌∷◌, ◌++◌, map, length, take, drop, Ok, Err, Result, sym, refl, ap, ◌∙◌, subst, ⊎_elim, add-zero, add_assoc, zero-add, one-add, arith, length-append, take-append-drop}
use Rattle.std.proofs.lemmas.List.{length-map, drop-map, length-take-le}
use Rattle.std.proofs.lemmas.Bool.{cases_Bool, cond-true, cond-false}
use Rattle.std.specs.List.{AllByRecursion}
use Rattle.rfc4180.specs.declared.faults.Layer.TheVariants as layers
use Rattle.rfc4180.specs.Grammar.{FieldText, with_commas}
use Rattle.rfc4180.specs.Reading.{Wrong, not_allowed, unclosed, LineRead, cut, damaged, read_line}
use Rattle.rfc4180.specs.Told.{field_behind, text_fault}
use Rattle.report.specs.declared.faults.LineFault.TheVariants.{Text, FieldCount, FieldKind}
use Rattle.report.specs.Columns.{Columns, columns, of_columns, miscounted, of_fields}
use Rattle.report.specs.Faults.{line_diagnostic}
use Rattle.report.specs.Lines.{Outcome, told, of_reading, outcome, left, size, outcomes_behind, outcomes}
use Rattle.report.specs.Whole.{first_lines, lines_of, bytes_of, moved, Whole}
use Rattle.report.proofs.Advance.{advances}

-- The outcome of a line only shows where it stands.

module _ (a c : ℕ) where
  kind_moved : (line byte : ℕ) (fs : List FieldText) (r : Result Columns ℕ) → told (of_columns (a + line) (c + byte) fs r) ≡ moved a c (told (of_columns line byte fs r))
  kind_moved line byte fs (Ok x) = refl
  kind_moved line byte fs (Err i) =
      ap (λ b. Err (line_diagnostic (FieldKind (record { line = a + line; column = length (take i fs) + 1; byte = b })))) (add_assoc c byte (length (with_commas (take i fs))))

  fields_moved : (width line byte : ℕ) (fs : List FieldText) → told (of_fields width (a + line) (c + byte) fs) ≡ moved a c (told (of_fields width line byte fs))
  fields_moved width line byte fs =
      let some = of_columns line byte fs (columns (suc width) fs) in
      let some' = of_columns (a + line) (c + byte) fs (columns (suc width) fs) in
      let other = Err (FieldCount (miscounted line byte (length fs) (width + 2))) in
      let other' = Err (FieldCount (miscounted (a + line) (c + byte) (length fs) (width + 2))) in
      ⊎_elim
      (λ h. ap told (cond-true (eqb (length fs) (width + 2)) some' other' h) ∙ kind_moved line byte fs (columns (suc width) fs) ∙ ap (λ r. moved a c (told r)) (sym (cond-true (eqb (length fs) (width + 2)) some other h)))
      (λ h. ap told (cond-false (eqb (length fs) (width + 2)) some' other' h) ∙ ap (λ r. moved a c (told r)) (sym (cond-false (eqb (length fs) (width + 2)) some other h)))
      (cases_Bool (eqb (length fs) (width + 2)))

  fault_moved : (line byte : ℕ) (front : List FieldText) (w : Wrong) (n : ℕ) → told (Err (Text (text_fault (field_behind (a + line) (c + byte) front) w n))) ≡ moved a c (told (Err (Text (text_fault (field_behind line byte front) w n))))
  fault_moved line byte front not_allowed n =
      let k = length (with_commas front) in
      let same : c + byte + k + n ≡ c + (byte + k + n) = omega arith in
      ap (λ b. Err (record { number = 9; layer = layers.Text; at = record { line = a + line; column = length front + 1; byte = b } })) same
  fault_moved line byte front unclosed n =
      let k = length (with_commas front) in
      let same : c + byte + k + n ≡ c + (byte + k + n) = omega arith in
      ap (λ b. Err (record { number = 11; layer = layers.Text; at = record { line = a + line; column = length front + 1; byte = b } })) same

  reading_moved : (width line byte : ℕ) (r : LineRead) → told (of_reading width (a + line) (c + byte) r) ≡ moved a c (told (of_reading width line byte r))
  reading_moved width line byte (cut front last rest) = fields_moved width line byte (front ++ last ∷ [])
  reading_moved width line byte (damaged front w n) = fault_moved line byte front w n

  behind_moved : (k width line byte : ℕ) (text : List ℕ) → outcomes_behind k width (a + line) (c + byte) text ≡ map (moved a c) (outcomes_behind k width line byte text)
  behind_moved k width line byte [] = refl
  behind_moved zero width line byte (b ∷ bs) = refl
  behind_moved (suc k) width line byte (b ∷ bs) =
      let text = b ∷ bs in
      (λ i. outcome width (add_assoc a line 1 i) (c + byte) text ∷ outcomes_behind k width (add_assoc a line 1 i) (add_assoc c byte (size text) i) (left text))
      ∙ (λ i. reading_moved width (line + 1) byte (read_line text) i ∷ behind_moved k width (line + 1) (byte + size text) (left text) i)

moved_none : (o : Outcome) → moved 0 0 o ≡ o
moved_none (Ok r) = λ i. Ok (record { line = zero-add r.line i; byte = zero-add r.byte i; owner = r.owner; values = r.values; reading = r.reading })
moved_none (Err d) = λ i. Err (record { number = d.number; layer = d.layer; at = record { line = zero-add d.at.line i; column = d.at.column; byte = zero-add d.at.byte i } })

moved_twice : (a c k n : ℕ) (o : Outcome) → moved a c (moved k n o) ≡ moved (a + k) (c + n) o
moved_twice a c k n (Ok r) = λ i. Ok (record { line = sym (add_assoc a k r.line) i; byte = sym (add_assoc c n r.byte) i; owner = r.owner; values = r.values; reading = r.reading })
moved_twice a c k n (Err d) = λ i. Err (record { number = d.number; layer = d.layer; at = record { line = sym (add_assoc a k d.at.line) i; column = d.at.column; byte = sym (add_assoc c n d.at.byte) i } })

all_none : (os : List Outcome) → map (moved 0 0) os ≡ os
all_none [] = refl
all_none (o ∷ os) = λ i. moved_none o i ∷ all_none os i

all_twice : (a c k n : ℕ) (os : List Outcome) → map (moved a c) (map (moved k n) os) ≡ map (moved (a + k) (c + n)) os
all_twice a c k n [] = refl
all_twice a c k n (o ∷ os) = λ i. moved_twice a c k n o i ∷ all_twice a c k n os i

-- More turns than bytes change nothing.

outcomes_enough : (j k width lines bytes : ℕ) (text : List ℕ) → length text ≤ j → length text ≤ k → outcomes_behind j width lines bytes text ≡ outcomes_behind k width lines bytes text
outcomes_enough j k width lines bytes [] p q = refl
outcomes_enough zero k width lines bytes (b ∷ bs) p q = absurd (omega arith)
outcomes_enough (suc j) zero width lines bytes (b ∷ bs) p q = absurd (omega arith)
outcomes_enough (suc j) (suc k) width lines bytes (b ∷ bs) p q =
    let s = (advances (b ∷ bs)).shorter (omega arith) in
    ap (λ l. outcome width (lines + 1) bytes (b ∷ bs) ∷ l) (outcomes_enough j k width (lines + 1) (bytes + size (b ∷ bs)) (left (b ∷ bs)) (omega arith) (omega arith))

lines_enough : (j k : ℕ) (text : List ℕ) → length text ≤ j → length text ≤ k → first_lines j text ≡ first_lines k text
lines_enough j k [] p q = refl
lines_enough zero k (b ∷ bs) p q = absurd (omega arith)
lines_enough (suc j) zero (b ∷ bs) p q = absurd (omega arith)
lines_enough (suc j) (suc k) (b ∷ bs) p q =
    let s = (advances (b ∷ bs)).shorter (omega arith) in
    ap (λ l. take (size (b ∷ bs)) (b ∷ bs) ∷ l) (lines_enough j k (left (b ∷ bs)) (omega arith) (omega arith))

-- one line more
pub behind_more : (width lines bytes b : ℕ) (bs : List ℕ) → outcomes_behind (length (b ∷ bs)) width lines bytes (b ∷ bs) ≡ outcome width (lines + 1) bytes (b ∷ bs) ∷ outcomes_behind (length (left (b ∷ bs))) width (lines + 1) (bytes + size (b ∷ bs)) (left (b ∷ bs))
behind_more width lines bytes b bs =
    let s = (advances (b ∷ bs)).shorter (omega arith) in
    ap (λ l. outcome width (lines + 1) bytes (b ∷ bs) ∷ l) (outcomes_enough (length bs) (length (left (b ∷ bs))) width (lines + 1) (bytes + size (b ∷ bs)) (left (b ∷ bs)) (omega arith) (omega arith))

outcomes_more : (width b : ℕ) (bs : List ℕ) → outcomes width (b ∷ bs) ≡ outcome width 1 0 (b ∷ bs) ∷ map (moved 1 (size (b ∷ bs))) (outcomes width (left (b ∷ bs)))
outcomes_more width b bs =
    let text = b ∷ bs in
    behind_more width 0 0 b bs
    ∙ ap (λ l. outcome width 1 0 text ∷ l) (
    ap (λ n. outcomes_behind (length (left text)) width 1 n (left text)) (zero-add (size text) ∙ sym (add-zero (size text)))
    ∙ behind_moved 1 (size text) (length (left text)) width 0 0 (left text))

lines_more : (b : ℕ) (bs : List ℕ) → lines_of (b ∷ bs) ≡ take (size (b ∷ bs)) (b ∷ bs) ∷ lines_of (left (b ∷ bs))
lines_more b bs =
    let s = (advances (b ∷ bs)).shorter (omega arith) in
    ap (λ l. take (size (b ∷ bs)) (b ∷ bs) ∷ l) (lines_enough (length bs) (length (left (b ∷ bs))) (left (b ∷ bs)) (omega arith) (omega arith))

-- the first line, and what is left
parts : (text : List ℕ) → take (size text) text ++ left text ≡ text
parts text = ap (λ l. take (size text) text ++ l) (sym (advances text).suffix) ∙ take-append-drop (size text) text

record Sofar (width : ℕ) (text : List ℕ) : Type 0 where
  cuts : bytes_of (lines_of text) ≡ text
  none_empty : AllByRecursion (λ l. 0 < length l) (lines_of text)
  one_each : length (outcomes width text) ≡ length (lines_of text)

line_some : (text : List ℕ) → 0 < length text → 0 < length (take (size text) text)
line_some text h =
    let a = advances text in
    let s = a.shorter h in
    let long = ap length (parts text) in
    omega (arith, length-append (take (size text) text) (left text))

whole_within : (k width : ℕ) (text : List ℕ) → length text ≤ k → Sofar width text
whole_within k width [] h = record { cuts = refl; none_empty = tt; one_each = refl }
whole_within zero width (b ∷ bs) h = absurd (omega arith)
whole_within (suc k) width (b ∷ bs) h =
    let text = b ∷ bs in
    let s = (advances text).shorter (omega arith) in
    let rest = whole_within k width (left text) (omega arith) in
    record {
      cuts = ap bytes_of (lines_more b bs) ∙ ap (λ l. take (size text) text ++ l) rest.cuts ∙ parts text;
      none_empty = subst (AllByRecursion (λ l. 0 < length l)) (sym (lines_more b bs)) (line_some text (omega arith), rest.none_empty);
      one_each = ap length (outcomes_more width b bs) ∙ ap suc (length-map (outcomes width (left text)) (moved 1 (size text)) ∙ rest.one_each) ∙ ap length (sym (lines_more b bs));
    }

alone : (k width : ℕ) (text : List ℕ) → drop k (outcomes width text) ≡ map (moved k (length (bytes_of (take k (lines_of text))))) (outcomes width (bytes_of (drop k (lines_of text))))
alone zero width text =
    sym (all_none (outcomes width text)) ∙ ap (λ t. map (moved 0 0) (outcomes width t)) (sym (whole_within (length text) width text (omega arith)).cuts)
alone (suc k) width [] = refl
alone (suc k) width (b ∷ bs) =
    let text = b ∷ bs in
    let first = take (size text) text in
    let rest = left text in
    let later = bytes_of (take k (lines_of rest)) in
    let long : size text + length later ≡ length (first ++ later) = sym (length-append first later ∙ ap (λ n. n + length later) (length-take-le (size text) text (omega (arith, (advances text).within)))) in
    ap (drop (suc k)) (outcomes_more width b bs)
    ∙ drop-map (moved 1 (size text)) k (outcomes width rest)
    ∙ ap (map (moved 1 (size text))) (alone k width rest)
    ∙ all_twice 1 (size text) k (length later) (outcomes width (bytes_of (drop k (lines_of rest))))
    ∙ (λ i. map (moved (one-add k i) (long i)) (outcomes width (bytes_of (drop k (lines_of rest)))))
    ∙ ap (λ ls. map (moved (suc k) (length (bytes_of (take (suc k) ls)))) (outcomes width (bytes_of (drop (suc k) ls)))) (sym (lines_more b bs))

pub whole : (width : ℕ) (text : List ℕ) → Whole width text
whole width text =
    let s = whole_within (length text) width text (omega arith) in
    record { cuts = s.cuts; none_empty = s.none_empty; one_each = s.one_each; alone = λ k. alone k width text }
