-- How far the columns of a line have been read. Assumes nothing.
use Rattle.std.proofs.Common.{◌≡◌, ℕ, suc, ◌+◌, ◌-◌, ◌<◌, ◌≤◌, List, [], ◌∷◌, ◌++◌, map, length, get_or, take, drop, set, replicate, ℤ, Some, None, Ok, Err, Option, Result, sym, refl, ap, ◌∙◌, append-nil, add-one, arith, length-take-le, drop-cons}
use native.Mathlib.Nat.{sub-zero}
use Rattle.std.proofs.Math.Seq.{take-append-add}
use Rattle.std.proofs.lemmas.List.{length-map, take_all, take_more_set, take-replicate, drop-replicate}
use Rattle.rfc4180.specs.declared.fields.Field.{Field}
use Rattle.rfc4180.specs.Grammar.{FieldText, plainly}
use Rattle.rfc4180.specs.Told.{field_text}
use Rattle.report.specs.Columns.{inside_of, Columns, and_before, number_column, reading_column, columns}
use Rattle.report.specs.Numbers.{number_of, reading_of}

-- these numbers in front
abbrev pub all_before : List ℕ → Result Columns ℕ → Result Columns ℕ
all_before [] r = r
all_before (v ∷ vs) r = and_before v (all_before vs r)

before_push : (vs : List ℕ) (v : ℕ) (r : Result Columns ℕ) → all_before (vs ++ v ∷ []) r ≡ all_before vs (and_before v r)
before_push [] v r = refl
before_push (w ∷ ws) v r = ap (and_before w) (before_push ws v r)

before_ok : (vs : List ℕ) (c : Columns) → all_before vs (Ok c) ≡ Ok (record { numbers = vs ++ c.numbers; reading = c.reading })
before_ok [] c = refl
before_ok (w ∷ ws) c = ap (and_before w) (before_ok ws c)

before_err : (vs : List ℕ) (i : ℕ) → all_before vs (Err i) ≡ Err (length vs + i)
before_err [] i = ap Err (omega arith)
before_err (w ∷ ws) i = ap (and_before w) (before_err ws i) ∙ ap Err (omega arith)

-- the owner and the first i values are read
pub record Sofar (texts : List FieldText) (width owner i : ℕ) (values : List ℕ) : Type 0 where
  pub reads : columns (suc width) texts ≡ all_before (owner ∷ take i values) (columns (width - i) (drop (suc i) texts))

-- what the field i says
abbrev pub number_at : List FieldText → ℕ → Option ℕ
number_at texts i = number_of (inside_of (get_or texts i (plainly [])))

abbrev pub reading_at : List FieldText → ℕ → Option ℤ
reading_at texts i = reading_of (inside_of (get_or texts i (plainly [])))

-- values and the places that no column fills
pub padded : (values : List ℕ) (width : ℕ) → length values ≡ width → width ≤ 6 → values ++ drop width (replicate 6 0) ≡ take 6 (values ++ replicate 6 0)
padded values width e narrow =
    let six : 6 ≡ length values + (6 - width) = omega arith in
    sym (ap (λ n. take n (values ++ replicate 6 0)) six
    ∙ take-append-add values (replicate 6 0) (6 - width)
    ∙ ap (λ l. values ++ l) (take-replicate (6 - width) 6 0 (omega arith) ∙ sym (drop-replicate width 6 0)))

module _ (fields : List Field) (width : ℕ) (count : length fields ≡ width + 2) where
  abbrev texts : List FieldText
  texts = map field_text fields

  many : length texts ≡ width + 2
  many = length-map fields field_text ∙ count

  pub begun : (owner : ℕ) (values : List ℕ) → number_at texts 0 ≡ Some owner → Sofar texts width owner 0 values
  begun owner values e =
      record {
        reads =
            ap (columns (suc width)) (drop-cons texts 0 (plainly []) (omega (arith, many))) ∙ ap (λ o. number_column o (columns width (drop 1 texts))) e
            ∙ ap (λ n. and_before owner (columns n (drop 1 texts))) (sym (sub-zero width));
      }

  module _ {owner i : ℕ} {values : List ℕ} (s : Sofar texts width owner i values) (long : length values ≡ width) where
    number_next : i < width → columns (width - i) (drop (suc i) texts) ≡ number_column (number_at texts (i + 1)) (columns (width - (i + 1)) (drop (suc (i + 1)) texts))
    number_next h =
        let less : width - i ≡ suc (width - (i + 1)) = omega arith in
        ap (λ n. columns n (drop (suc i) texts)) less
        ∙ ap (λ k. columns (suc (width - (i + 1))) (drop k texts)) (sym (add-one i))
        ∙ ap (columns (suc (width - (i + 1)))) (drop-cons texts (i + 1) (plainly []) (omega (arith, many)))

    -- the next field is not of its kind
    spoilt : i ≤ width → columns (width - i) (drop (suc i) texts) ≡ Err 0 → columns (suc width) texts ≡ Err (i + 1)
    spoilt h e = s.reads ∙ ap (all_before (owner ∷ take i values)) e ∙ before_err (owner ∷ take i values) 0 ∙ ap Err (omega (arith, length-take-le i values (omega arith)))

    pub value_spoilt : i < width → number_at texts (i + 1) ≡ None → columns (suc width) texts ≡ Err (i + 1)
    value_spoilt h e = spoilt (omega arith) (number_next h ∙ ap (λ o. number_column o (columns (width - (i + 1)) (drop (suc (i + 1)) texts))) e)

    pub one_more : i < width → (v : ℕ) → number_at texts (i + 1) ≡ Some v → Sofar texts width owner (i + 1) (set values i v)
    one_more h v e =
        let rest = columns (width - (i + 1)) (drop (suc (i + 1)) texts) in
        record {
          reads =
              s.reads ∙ ap (all_before (owner ∷ take i values)) (number_next h ∙ ap (λ o. number_column o rest) e)
              ∙ sym (before_push (owner ∷ take i values) v rest)
              ∙ ap (λ l. all_before (owner ∷ l) rest) (sym (take_more_set values i v (omega arith)));
        }

    reading_next : i ≡ width → columns (width - i) (drop (suc i) texts) ≡ reading_column (reading_at texts (width + 1))
    reading_next all =
        let none : width - i ≡ 0 = omega arith in
        ap (λ n. columns n (drop (suc i) texts)) none
        ∙ ap (λ k. columns 0 (drop k texts)) (ap suc all ∙ sym (add-one width))
        ∙ ap (columns 0) (drop-cons texts (width + 1) (plainly []) (omega (arith, many)))

    pub reading_spoilt : i ≡ width → reading_at texts (width + 1) ≡ None → columns (suc width) texts ≡ Err (width + 1)
    reading_spoilt all e = spoilt (omega arith) (reading_next all ∙ ap reading_column e) ∙ ap (λ k. Err (k + 1)) all

    pub done : i ≡ width → (z : ℤ) → reading_at texts (width + 1) ≡ Some z → columns (suc width) texts ≡ Ok (record { numbers = owner ∷ values; reading = z })
    done all z e =
        s.reads ∙ ap (all_before (owner ∷ take i values)) (reading_next all ∙ ap reading_column e)
        ∙ before_ok (owner ∷ take i values) (record { numbers = []; reading = z })
        ∙ ap (λ l. Ok (record { numbers = owner ∷ l; reading = z })) (append-nil (take i values) ∙ take_all i values (omega arith))
