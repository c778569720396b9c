-- What std writes of a number is read as that number. Assumes nothing.
use Rattle.std.proofs.Common.{◌≡◌, ℕ, suc, ◌+◌, ◌-◌, ◌*◌, ◌^◌, ◌<◌, ◌≤◌, true, ◌&&◌, eqb, leb, List, [], ◌∷◌, length, ℤ, pos, negsuc, Some, None, decimal, FitsSigned, w32, refl, ap, ◌∙◌, arith, rules}
use Rattle.std.specs.Fmt.{signed_decimal}
use Rattle.std.specs.Str.{all_ascii_digits}
use Rattle.std.proofs.lemmas.Bool.{cond-true, cond-false, and_from, and_parts, le-leb, leb-true, ne_eqb}
use Rattle.std.proofs.lemmas.Fmt.{digits_decimal, digits_value-decimal, length-decimal-le, decimal_nonempty}
use Rattle.std.proofs.lemmas.Int.{ints}
use Rattle.std.proofs.lemmas.Str.Parse.{IsNumeralModel, numerals_by_fold}
use Rattle.report.specs.Numbers.{digit, behind_number, digits_of, at_most, number_of, as_positive, as_negative, reading_of, ReadsBack}

abbrev read_on : ℕ → List ℕ → ℕ
read_on n [] = n
read_on n (c ∷ cs) = read_on (n * 10 + (c - 48)) cs

own : IsNumeralModel (λ ds. all_ascii_digits ds ≡ true) (read_on 0)
own = numerals_by_fold _ (search rules) read_on (search rules)

behind-digits : (n : ℕ) (ds : List ℕ) → all_ascii_digits ds ≡ true → behind_number n ds ≡ Some (read_on n ds)
behind-digits n [] h = refl
behind-digits n (c ∷ cs) h =
    let p = and_parts (digit c) (all_ascii_digits cs) h in
    cond-true (digit c) _ None p.0 ∙ behind-digits (n * 10 + (c - 48)) cs p.1

digits_of-decimal : (n : ℕ) → n < 10 ^ 10 → digits_of (decimal n) ≡ Some n
digits_of-decimal n h =
    let ds = decimal n in
    let some : 1 ≤ length ds = decimal_nonempty n (omega arith) in
    let few : length ds ≤ 10 = length-decimal-le 10 n (omega arith) h (omega arith) in
    cond-true (leb 1 (length ds) && leb (length ds) 10) (behind_number 0 ds) None (and_from _ _ (le-leb 1 (length ds) some) (le-leb (length ds) 10 few))
    ∙ behind-digits 0 ds (digits_decimal own n (omega arith))
    ∙ ap Some (digits_value-decimal own n (omega arith))

number_of-decimal : (n : ℕ) → n < 2 ^ 32 → number_of (decimal n) ≡ Some n
number_of-decimal n h = ap (at_most 4294967295) (digits_of-decimal n (omega arith)) ∙ cond-true (leb n 4294967295) (Some n) None (le-leb n 4294967295 (omega arith))

-- digits are no minus
reading_of-digits : (ds : List ℕ) → 0 < length ds → all_ascii_digits ds ≡ true → reading_of ds ≡ as_positive (at_most 2147483647 (digits_of ds))
reading_of-digits [] some h = absurd (omega arith)
reading_of-digits (b ∷ bs) some h =
    let p = and_parts (leb 48 b) (leb b 57) (and_parts (digit b) (all_ascii_digits bs) h).0 in
    cond-false (eqb b 45) (as_negative (at_most 2147483648 (digits_of bs))) _ (ne_eqb b 45 (λ e. omega (arith, leb-true 48 b p.0)))

reading_of-signed_decimal : (z : ℤ) → FitsSigned w32 z → reading_of (signed_decimal z) ≡ Some z
reading_of-signed_decimal (pos n) h =
    let small : n < 2 ^ 31 = omega (arith, ints) in
    reading_of-digits (decimal n) (decimal_nonempty n (omega arith)) (digits_decimal own n (omega arith))
    ∙ ap (λ o. as_positive (at_most 2147483647 o)) (digits_of-decimal n (omega arith))
    ∙ ap as_positive (cond-true (leb n 2147483647) (Some n) None (le-leb n 2147483647 (omega arith)))
reading_of-signed_decimal (negsuc n) h =
    let small : n < 2 ^ 31 = omega (arith, ints) in
    ap (λ o. as_negative (at_most 2147483648 o)) (digits_of-decimal (suc n) (omega arith))
    ∙ ap as_negative (cond-true (leb (suc n) 2147483648) (Some (suc n)) None (le-leb (suc n) 2147483648 (omega arith)))

pub reads_back : ReadsBack
reads_back = record { number = number_of-decimal; reading = reading_of-signed_decimal }
