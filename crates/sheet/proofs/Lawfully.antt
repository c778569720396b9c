-- The fields of a row are lawful, so that the grammar derives a row from its bytes. Assumes nothing.
use Rattle.std.proofs.Common.{◌≡◌, ℕ, zero, suc, ◌+◌, ◌/◌, ◌%◌, ◌<◌, true, false, cond, eqb, ltb, List, [], ◌∷◌, ◌++◌, map, take, ℤ, pos, negsuc, decimal, refl, ap, ◌∙◌, inl, append_assoc, arith}
use Rattle.rfc4180.specs.Grammar.{plain, inside, FieldText, plainly, quoted, Plain, Inside, empty, one, Lawful, AllLawful, written, with_commas, Derives}
use Rattle.rfc4180.specs.Reading.{cut, read_line}
use Rattle.rfc4180.proofs.Agreement.{derived_reads}
use Rattle.domain.specs.declared.range.Range.{Range}
use Rattle.release.specs.declared.Line.{Line}
use Rattle.release.specs.declared.Manner.{Manner}
use Rattle.release.specs.declared.Manner.TheVariants.{Released, Reused, Suppressed}
use Rattle.std.specs.Fmt.{signed_decimal, digits, digits_onto, digit_glyph}
use Rattle.std.proofs.lemmas.Bool.{cond_both, cond-true, lt-ltb}
use Rattle.std.proofs.lemmas.Bool.Decides.{nat_tests}
use Rattle.sheet.specs.Rows.{line_bytes, range_field, attribute_field, attribute_fields, reading_field}

digit_plain : (d : ℕ) → d < 10 → plain (48 + d) ≡ true
digit_plain d h = grind (arith, nat_tests)

glyph_plain : (n : ℕ) → plain (digit_glyph false (n % 10)) ≡ true
glyph_plain n =
    let small : n % 10 < 10 = omega arith in
    ap plain (cond-true (ltb (n % 10) 10) (48 + n % 10) (cond false (55 + n % 10) (87 + n % 10)) (lt-ltb (n % 10) 10 small)) ∙ digit_plain (n % 10) small

spelled_plain : (k n : ℕ) (acc : List ℕ) → Plain acc → Plain (digits_onto k 10 false n acc)
spelled_plain zero n acc a = a
spelled_plain (suc k) n acc a =
    let more = digit_glyph false (n % 10) ∷ acc in
    cond_both (eqb (n / 10) 0) more (digits_onto k 10 false (n / 10) more) Plain (λ _. (glyph_plain n, a)) (λ _. spelled_plain k (n / 10) more (glyph_plain n, a))

pub decimal_plain : (n : ℕ) → Plain (decimal n)
unfolding digits
decimal_plain n = spelled_plain 64 n [] tt

pub signed_plain : (z : ℤ) → Plain (signed_decimal z)
signed_plain (pos n) = decimal_plain n
signed_plain (negsuc n) = (refl, decimal_plain (suc n))

plain_inside : (b : ℕ) → plain b ≡ true → inside b ≡ true
plain_inside b h = grind (arith, nat_tests)

-- plain bytes may stand between quotation marks
inside_plain : (bs cs : List ℕ) → Plain bs → Inside cs → Inside (bs ++ cs)
inside_plain [] cs a q = q
inside_plain (b ∷ bs) cs a q = one (plain_inside b a.0) (inside_plain bs cs a.1 q)

range_lawful : (a : Range) → Lawful (range_field a)
range_lawful a =
    let low = decimal a.low in
    let high = decimal a.high in
    cond_both (eqb a.low a.high) (plainly low) (quoted (91 ∷ (low ++ 44 ∷ (high ++ 93 ∷ [])))) Lawful
    (λ _. decimal_plain a.low)
    (λ _. one refl (inside_plain low (44 ∷ (high ++ 93 ∷ [])) (decimal_plain a.low) (one refl (inside_plain high (93 ∷ []) (decimal_plain a.high) (one refl empty)))))

attribute_lawful : (m : Manner) (a : Range) → Lawful (attribute_field m a)
attribute_lawful Released a = range_lawful a
attribute_lawful Reused a = range_lawful a
attribute_lawful Suppressed a = (refl, tt)

all_lawful : (m : Manner) (xs : List Range) → AllLawful (map (attribute_field m) xs)
all_lawful m [] = tt
all_lawful m (x ∷ xs) = (attribute_lawful m x, all_lawful m xs)

pub row_lawful : (width : ℕ) (line : Line) → AllLawful (attribute_fields width line) × Lawful (reading_field line)
row_lawful width line = (all_lawful line.manner (take width line.ranges), signed_plain line.reading)

-- a line's bytes are a line, whatever stands behind them
pub line_derives : (front : List FieldText) (last : FieldText) (rest : List ℕ) → AllLawful front × Lawful last → Derives (line_bytes front last ++ rest) front last rest
line_derives front last rest l =
    record { behind = 13 ∷ 10 ∷ rest; split = append_assoc (with_commas front) (written last ++ 13 ∷ 10 ∷ []) rest ∙ ap (λ x. with_commas front ++ x) (append_assoc (written last) (13 ∷ 10 ∷ []) rest); lawful = l; ends = inl refl }

pub line_reads_back : (front : List FieldText) (last : FieldText) (rest : List ℕ) → AllLawful front × Lawful last → read_line (line_bytes front last ++ rest) ≡ cut front last rest
line_reads_back front last rest l = derived_reads (line_bytes front last ++ rest) front last rest (line_derives front last rest l)
