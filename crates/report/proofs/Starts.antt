-- Where the fields of a line begin. Assumes nothing.
use Rattle.std.proofs.Common.{◌≡◌, ℕ, ◌+◌, ◌<◌, ◌≤◌, List, [], ◌∷◌, map, length, take, sum_by, sym, refl, ap, ◌∙◌, arith, length-append, length-take-le}
use Rattle.std.proofs.lemmas.List.{length-map, take-map}
use Rattle.std.proofs.lemmas.List.Sums.{sum_by-cons, sum_by-take-le}
use Rattle.rfc4180.specs.declared.faults.Location.{Location}
use Rattle.rfc4180.specs.declared.fields.Field.{Field}
use Rattle.rfc4180.specs.Grammar.{written, with_commas}
use Rattle.rfc4180.specs.Told.{field_text, field_behind}

-- the bytes that a field takes
abbrev pub bytes : Field → ℕ
bytes f = length (written (field_text f))

-- a comma stands behind each field
length-with_commas : (fields : List Field) → length (with_commas (map field_text fields)) ≡ sum_by bytes fields + length fields
length-with_commas [] = refl
length-with_commas (f ∷ fs) =
    let ih = length-with_commas fs in
    omega (arith, length-append (written (field_text f)) (44 ∷ with_commas (map field_text fs)), sum_by-cons bytes f fs)

module _ (fields : List Field) (i : ℕ) (within : i < length fields) where
  pub start-le : sum_by bytes (take i fields) + i ≤ length (with_commas (map field_text fields))
  start-le = omega (arith, length-with_commas fields, sum_by-take-le bytes fields i)

  -- the field i begins behind so many bytes and i commas
  pub begins : (line byte n : ℕ) → n ≡ sum_by bytes (take i fields) → ◌≡◌ {A = Location} (record { line = line; column = i + 1; byte = byte + n + i }) (field_behind line byte (take i (map field_text fields)))
  begins line byte n e =
      let count : length (take i (map field_text fields)) ≡ i = length-take-le i (map field_text fields) (omega (arith, length-map fields field_text)) in
      let size : length (with_commas (take i (map field_text fields))) ≡ n + i =
      ap (λ l. length (with_commas l)) (take-map field_text i fields)
      ∙ omega (arith, length-with_commas (take i fields), length-take-le i fields (omega arith)) in
      let here : byte + n + i ≡ byte + length (with_commas (take i (map field_text fields))) = omega arith in
      λ t. record { line = line; column = sym count t + 1; byte = here t }
