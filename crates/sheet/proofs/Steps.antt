-- The attributes of a row, one after another. Assumes nothing.
use Rattle.std.proofs.Common.{◌≡◌, ℕ, ◌+◌, ◌<◌, List, [], ◌∷◌, ◌++◌, map, length, get_or, take, ap, ◌∙◌, append_assoc, arith, length-append}
use Rattle.rfc4180.specs.Grammar.{FieldText, written, with_commas}
use Rattle.rfc4180.proofs.Progress.{commas_append}
use Rattle.domain.specs.declared.range.Range.{Range}
use Rattle.std.proofs.lemmas.List.{take_more, map-append}

-- one more at the end

pub attributes_back : (f : Range → FieldText) (xs : List Range) (x : Range) → with_commas (map f (xs ++ x ∷ [])) ≡ with_commas (map f xs) ++ (written (f x) ++ 44 ∷ [])
attributes_back f xs x = ap with_commas (map-append f xs (x ∷ [])) ∙ commas_append (map f xs) (f x ∷ [])

pub attributes_onto : (f : Range → FieldText) (xs : List Range) (x : Range) (bytes : List ℕ) → with_commas (map f xs) ++ (written (f x) ++ 44 ∷ bytes) ≡ with_commas (map f (xs ++ x ∷ [])) ++ bytes
attributes_onto f xs x bytes = rw (attributes_back f xs x) (simp append_assoc)

pub attributes_size_back : (f : Range → FieldText) (xs : List Range) (x : Range) → length (with_commas (map f (xs ++ x ∷ []))) ≡ length (with_commas (map f xs)) + length (written (f x)) + 1
attributes_size_back f xs x = ap length (attributes_back f xs x) ∙ simp length-append (omega arith)

pub attributes_more : (f : Range → FieldText) (xs : List Range) (i : ℕ) (d : Range) → i < length xs → with_commas (map f (take (i + 1) xs)) ≡ with_commas (map f (take i xs)) ++ (written (f (get_or xs i d)) ++ 44 ∷ [])
attributes_more f xs i d h = ap (λ l. with_commas (map f l)) (take_more xs i d h) ∙ attributes_back f (take i xs) (get_or xs i d)

pub attributes_size_more : (f : Range → FieldText) (xs : List Range) (i : ℕ) (d : Range) → i < length xs → length (with_commas (map f (take (i + 1) xs))) ≡ length (with_commas (map f (take i xs))) + length (written (f (get_or xs i d))) + 1
attributes_size_more f xs i d h = ap length (attributes_more f xs i d h) ∙ simp length-append (omega arith)
