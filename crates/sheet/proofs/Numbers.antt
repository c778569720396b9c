-- The numbers that the fields of a row show are those of its line. Assumes nothing.
use Rattle.std.proofs.Common.{◌≡◌, ℕ, suc, ◌^◌, ◌<◌, false, cond, eqb, ◌⊎◌, List, [], ◌∷◌, ◌++◌, map, get_or, take, drop, ℤ, pos, negsuc, neg_ℤ, Some, None, decimal, refl, ap, ◌∙◌, subst, inl, inr, ⊎_elim, arith, w32, SFits}
use lib.Signed.{mag}
use borrow.Author.Differences.{ints}
use Rattle.rfc4180.specs.Grammar.{plainly, quoted}
use Rattle.domain.specs.Ranges.{span, point}
use Rattle.domain.specs.declared.range.Range.{Range}
use Rattle.release.specs.declared.Line.{Line}
use Rattle.release.specs.declared.Manner.{Manner}
use Rattle.release.specs.declared.Manner.TheVariants.{Released, Reused, Suppressed}
use Rattle.std.specs.Str.Parse.{AllDigits, digits_value, starts_with_minus, without_leading_plus, without_leading_sign, signed_digits_value}
use Rattle.std.specs.Int.{IsInRange}
use Rattle.std.specs.Fmt.{signed_decimal}
use Rattle.std.specs.List.{AllByRecursion}
use Rattle.std.proofs.lemmas.Fmt.{decimal_is_IsNumeral}
use Rattle.std.proofs.lemmas.Str.Parse.{digit_from_value, digit_at}
use Rattle.std.proofs.lemmas.Bool.{cond-true, cond-false, cond_both, eqb-true, eq-eqb, ne_eqb}
use Rattle.sheet.specs.Rows.{range_field, attribute_field}
use Rattle.sheet.specs.Shown.{bytes_before, bytes_behind, shown_range, told_range, Small, Shown}

no_digit_is : (c b : ℕ) → IsInRange 48 57 c → (IsInRange 48 57 b → ⊥) → eqb c b ≡ false
no_digit_is c b d n = ne_eqb c b (λ e. n (subst (IsInRange 48 57) e d))

before_digits : (ds rest : List ℕ) (b : ℕ) → AllDigits 10 ds → (IsInRange 48 57 b → ⊥) → bytes_before b (ds ++ b ∷ rest) ≡ ds
before_digits [] rest b d n = cond-true (eqb b b) [] (b ∷ bytes_before b rest) (eq-eqb b b refl)
before_digits (c ∷ cs) rest b d n =
    cond-false (eqb c b) [] (c ∷ bytes_before b (cs ++ b ∷ rest)) (no_digit_is c b (digit_from_value c d.0) n) ∙ ap (λ l. c ∷ l) (before_digits cs rest b d.1 n)

behind_digits : (ds rest : List ℕ) (b : ℕ) → AllDigits 10 ds → (IsInRange 48 57 b → ⊥) → bytes_behind b (ds ++ b ∷ rest) ≡ rest
behind_digits [] rest b d n = cond-true (eqb b b) rest (bytes_behind b rest) (eq-eqb b b refl)
behind_digits (c ∷ cs) rest b d n =
    cond-false (eqb c b) (cs ++ b ∷ rest) (bytes_behind b (cs ++ b ∷ rest)) (no_digit_is c b (digit_from_value c d.0) n) ∙ behind_digits cs rest b d.1 n

no_digit : (b : ℕ) → (b < 48) ⊎ (57 < b) → IsInRange 48 57 b → ⊥
no_digit b h d = ⊎_elim (λ l. omega arith) (λ l. omega arith) h

first_digit : (n b : ℕ) → n < 2 ^ 64 → (IsInRange 48 57 b → ⊥) → eqb (get_or (decimal n) 0 0) b ≡ false
first_digit n b h k =
    let reads = (decimal_is_IsNumeral n h).0 in
    no_digit_is (get_or (decimal n) 0 0) b (digit_at (decimal n) 0 reads.1 reads.0) k

pub range_shown : (a : Range) → a.low < 2 ^ 32 → a.high < 2 ^ 32 → shown_range (range_field a) ≡ Some a
range_shown a l h =
    let low = decimal a.low in
    let high = decimal a.high in
    let lows = decimal_is_IsNumeral a.low (omega arith) in
    let highs = decimal_is_IsNumeral a.high (omega arith) in
    let comma = no_digit 44 (inl (omega arith)) in
    let bracket = no_digit 93 (inr (omega arith)) in
    cond_both (eqb a.low a.high) (plainly low) (quoted (91 ∷ (low ++ 44 ∷ (high ++ 93 ∷ [])))) (λ f. shown_range f ≡ Some a)
    (λ e. cond-false (eqb (get_or low 0 0) 42) None (Some (point (digits_value 10 low))) (first_digit a.low 42 (omega arith) (no_digit 42 (inl (omega arith))))
    ∙ ap (λ v. Some (point v)) lows.1 ∙ ap (λ v. Some (span a.low v)) (eqb-true a.low a.high e))
    (λ e. ap (λ x. Some (span (digits_value 10 x) (digits_value 10 (bytes_before 93 (bytes_behind 44 (low ++ 44 ∷ (high ++ 93 ∷ []))))))) (before_digits low (high ++ 93 ∷ []) 44 lows.0.1 comma)
    ∙ ap (λ x. Some (span (digits_value 10 low) (digits_value 10 (bytes_before 93 x)))) (behind_digits low (high ++ 93 ∷ []) 44 lows.0.1 comma)
    ∙ ap (λ x. Some (span (digits_value 10 low) (digits_value 10 x))) (before_digits high [] 93 highs.0.1 bracket)
    ∙ ap (λ v. Some (span v (digits_value 10 high))) lows.1 ∙ ap (λ v. Some (span a.low v)) highs.1)

attribute_shown : (m : Manner) (a : Range) → Small a → shown_range (attribute_field m a) ≡ told_range m a
attribute_shown Released a s = range_shown a s.0 s.1
attribute_shown Reused a s = range_shown a s.0 s.1
attribute_shown Suppressed a s = refl

all_shown : (m : Manner) (xs : List Range) → AllByRecursion Small xs → map shown_range (map (attribute_field m) xs) ≡ map (told_range m) xs
all_shown m [] s = refl
all_shown m (x ∷ xs) s = ap (λ o. o ∷ map shown_range (map (attribute_field m) xs)) (attribute_shown m x s.0) ∙ ap (λ l. told_range m x ∷ l) (all_shown m xs s.1)

signed_reads : (z : ℤ) → mag z < 2 ^ 63 → signed_digits_value 10 (signed_decimal z) ≡ z
signed_reads (pos n) h =
    let ds = decimal n in
    let plus = first_digit n 43 (omega arith) (no_digit 43 (inl (omega arith))) in
    let no_minus = first_digit n 45 (omega arith) (no_digit 45 (inl (omega arith))) in
    let whole : without_leading_sign ds ≡ ds = cond-false (starts_with_minus ds) (drop 1 ds) (without_leading_plus ds) no_minus ∙ ap (λ t. drop (cond t 1 0) ds) plus in
    cond-false (starts_with_minus ds) (neg_ℤ (pos (digits_value 10 (without_leading_sign ds)))) (pos (digits_value 10 (without_leading_sign ds))) no_minus
    ∙ ap (λ x. pos (digits_value 10 x)) whole ∙ ap pos (decimal_is_IsNumeral n (omega arith)).1
signed_reads (negsuc n) h = ap (λ v. neg_ℤ (pos v)) (decimal_is_IsNumeral (suc n) (omega arith)).1

pub row_shown : (width : ℕ) (line : Line) → AllByRecursion Small (take width line.ranges) → SFits w32 line.reading → Shown width line
row_shown width line s f = record { ranges = all_shown line.manner (take width line.ranges) s; reading = signed_reads line.reading (omega (arith, ints)) }
