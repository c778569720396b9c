-- The reading and the grammar agree. Assumes nothing.
use Rattle.std.proofs.Common.{◌≡◌, ℕ, zero, suc, ◌<◌, true, false, ◌&&◌, eqb, List, [], ◌∷◌, ◌++◌, length, get_or, drop, sym, refl, ap, ◌∙◌, subst, inl, inr, ⊎_elim, append_assoc, append-nil, arith, length-drop, Ok, Err}
use Rattle.std.proofs.lemmas.List.{drop_at, take_at}
use Rattle.std.proofs.lemmas.Bool.{cond_both, cond-true, cond-false, both_ways, and_parts, or_cases, eqb-true, eq-eqb}
use Rattle.std.proofs.lemmas.Bool.Decides.{nat_tests}
use Rattle.rfc4180.specs.declared.fields.RunFault.TheVariants.{Offends}
use Rattle.rfc4180.specs.Grammar.{plain, inside, FieldText, plainly, quoted, Plain, Inside, empty, one, doubled, Lawful, AllLawful, written, with_commas, LineEnd, Derives}
use Rattle.rfc4180.specs.Reading.{begins_with_lf, stops, further, plain_extent, quoted_extent, mark_extent, Wrong, FieldRead, whole, faulty, as_plain, as_quoted, read_field, LineRead, cut, damaged, before, behind_field, after_field, read_line}
use Rattle.rfc4180.proofs.Extents.{further_none, further_further}
use Rattle.rfc4180.proofs.FieldTells.{field_tells, Tells}
use Rattle.rfc4180.proofs.LineSteps.{line_step}
use Rattle.rfc4180.proofs.Progress.{in_front, front_cut}

-- Lawful bytes in front only move the extent.

pub plain_prefix : (bs rest : List ℕ) → Plain bs → plain_extent (bs ++ rest) ≡ further (length bs) (plain_extent rest)
plain_prefix [] rest a = sym (further_none (plain_extent rest))
plain_prefix (b ∷ bs) rest a =
    cond-true (plain b) (further 1 (plain_extent (bs ++ rest))) _ a.0
    ∙ ap (further 1) (plain_prefix bs rest a.1) ∙ further_further 1 (length bs) (plain_extent rest)
    ∙ ap (λ n. further n (plain_extent rest)) (omega arith)

no_mark : (b : ℕ) → inside b ≡ true → eqb b 34 ≡ false
no_mark b h = grind (arith, nat_tests)

pub inside_prefix : (rest : List ℕ) {bs : List ℕ} → Inside bs → quoted_extent (bs ++ rest) ≡ further (length bs) (quoted_extent rest)
inside_prefix rest empty = sym (further_none (quoted_extent rest))
inside_prefix rest (one {b} {bs} i q) =
    cond-false (eqb b 34) (mark_extent (bs ++ rest)) _ (no_mark b i)
    ∙ cond-true (inside b) (further 1 (quoted_extent (bs ++ rest))) (Err (Offends 0)) i
    ∙ ap (further 1) (inside_prefix rest q) ∙ further_further 1 (length bs) (quoted_extent rest)
    ∙ ap (λ n. further n (quoted_extent rest)) (omega arith)
inside_prefix rest (doubled {b} {c} {bs} e f q) =
    cond-true (eqb b 34) (mark_extent (c ∷ (bs ++ rest))) _ (eq-eqb b 34 e)
    ∙ cond-true (eqb c 34) (further 2 (quoted_extent (bs ++ rest))) _ (eq-eqb c 34 f)
    ∙ ap (further 2) (inside_prefix rest q) ∙ further_further 2 (length bs) (quoted_extent rest)
    ∙ ap (λ n. further n (quoted_extent rest)) (omega arith)

-- Where a field may end.

stop_plain : (b : ℕ) (bs : List ℕ) → stops (b ∷ bs) ≡ true → plain b ≡ false
stop_plain b bs h = grind (arith, nat_tests)

stop_mark : (b : ℕ) (bs : List ℕ) → stops (b ∷ bs) ≡ true → eqb b 34 ≡ false
stop_mark b bs h = grind (arith, nat_tests)

plain_stop : (rest : List ℕ) → stops rest ≡ true → plain_extent rest ≡ Ok 0
plain_stop [] h = refl
plain_stop (b ∷ bs) h = cond-false (plain b) (further 1 (plain_extent bs)) _ (stop_plain b bs h) ∙ cond-true (stops (b ∷ bs)) (Ok 0) (Err (Offends 0)) h

mark_stop : (rest : List ℕ) → stops rest ≡ true → mark_extent rest ≡ Ok 0
mark_stop [] h = refl
mark_stop (b ∷ bs) h = cond-false (eqb b 34) (further 2 (quoted_extent bs)) _ (stop_mark b bs h) ∙ cond-true (stops (b ∷ bs)) (Ok 0) (Err (Offends 1)) h

plain_mark : (b : ℕ) → plain b ≡ true → eqb b 34 ≡ false
plain_mark b h = grind (arith, nat_tests)

-- a text that does not begin with a mark is read as a plain field
pub reads_plain : (text : List ℕ) → eqb (get_or text 0 0) 34 ≡ false → read_field text ≡ as_plain text (plain_extent text)
reads_plain [] h = refl
reads_plain (b ∷ bs) h = cond-false (eqb b 34) (as_quoted bs (quoted_extent bs)) (as_plain (b ∷ bs) (plain_extent (b ∷ bs))) h

first : (bs rest : List ℕ) → Plain bs → stops rest ≡ true → eqb (get_or (bs ++ rest) 0 0) 34 ≡ false
first [] [] a h = refl
first [] (b ∷ rest) a h = stop_mark b rest h
first (b ∷ bs) rest a h = plain_mark b a.0

pub field_reads : (f : FieldText) (rest : List ℕ) → Lawful f → stops rest ≡ true → read_field (written f ++ rest) ≡ whole f
field_reads (plainly bs) rest l h =
    reads_plain (bs ++ rest) (first bs rest l h)
    ∙ ap (as_plain (bs ++ rest)) (plain_prefix bs rest l ∙ ap (further (length bs)) (plain_stop rest h) ∙ ap Ok (omega arith))
    ∙ ap (λ l. whole (plainly l)) (take_at bs rest (length bs) refl)
field_reads (quoted bs) rest l h =
    ap (λ l. read_field (34 ∷ l)) (append_assoc bs (34 ∷ []) rest)
    ∙ ap (as_quoted (bs ++ 34 ∷ rest)) (inside_prefix (34 ∷ rest) l ∙ ap (further (length bs)) (mark_stop rest h) ∙ ap Ok (omega arith))
    ∙ ap (λ l. whole (quoted l)) (take_at bs (34 ∷ rest) (length bs) refl)

-- a lawful field, and what is behind it
pub line_reads : (f : FieldText) (rest : List ℕ) → Lawful f → stops rest ≡ true → read_line (written f ++ rest) ≡ behind_field read_line f rest
line_reads f rest l h =
    line_step (written f ++ rest) ∙ ap (after_field read_line (written f ++ rest)) (field_reads f rest l h)
    ∙ ap (behind_field read_line f) (drop_at (written f) rest (length (written f)) refl)

pub front_reads : (front : List FieldText) (tail : List ℕ) → AllLawful front → read_line (with_commas front ++ tail) ≡ in_front front (read_line tail)
front_reads [] tail l = refl
front_reads (f ∷ fs) tail l =
    ap read_line (append_assoc (written f) (44 ∷ with_commas fs) tail)
    ∙ line_reads f (44 ∷ (with_commas fs ++ tail)) l.0 refl
    ∙ ap (before f) (front_reads fs tail l.1)

last_reads : (f : FieldText) (behind rest : List ℕ) → Lawful f → LineEnd behind rest → read_line (written f ++ behind) ≡ cut [] f rest
last_reads f behind rest l =
    ⊎_elim
    (λ e. ap (λ b. read_line (written f ++ b)) e ∙ line_reads f (13 ∷ 10 ∷ rest) l refl)
    (λ e. ap (λ b. read_line (written f ++ b)) e.0 ∙ line_reads f [] l refl ∙ ap (cut [] f) (sym e.1))

pub derived_reads : (text : List ℕ) (front : List FieldText) (last : FieldText) (rest : List ℕ) → Derives text front last rest → read_line text ≡ cut front last rest
derived_reads text front last rest d =
    ap read_line d.split ∙ front_reads front (written last ++ d.behind) d.lawful.0
    ∙ ap (in_front front) (last_reads last d.behind rest d.lawful.1 d.ends)
    ∙ front_cut front [] last rest ∙ ap (λ l. cut l last rest) (append-nil front)

-- What a reading tells: a line, or sound fields and a spoilt one behind them.

pub record SpoiltBehind (text : List ℕ) (front : List FieldText) (w : Wrong) (n : ℕ) : Type 0 where
  pub tail : List ℕ
  pub split : text ≡ with_commas front ++ tail
  pub lawful : AllLawful front
  pub spoilt : read_field tail ≡ faulty w n

abbrev pub LineTells : List ℕ → LineRead → Type 0
LineTells text (cut front last rest) = Derives text front last rest
LineTells text (damaged front w n) = SpoiltBehind text front w n

tells_before : (f : FieldText) (bs : List ℕ) (r : LineRead) → Lawful f → LineTells bs r → LineTells (written f ++ 44 ∷ bs) (before f r)
tells_before f bs (cut front last rest) l t =
    record {
      behind = t.behind;
      split = ap (λ x. written f ++ 44 ∷ x) t.split ∙ sym (append_assoc (written f) (44 ∷ with_commas front) (written last ++ t.behind));
      lawful = ((l, t.lawful.0), t.lawful.1);
      ends = t.ends;
    }
tells_before f bs (damaged front w n) l t =
    record {
      tail = t.tail;
      split = ap (λ x. written f ++ 44 ∷ x) t.split ∙ sym (append_assoc (written f) (44 ∷ with_commas front) t.tail);
      lawful = (l, t.lawful);
      spoilt = t.spoilt;
    }

pub after_lf : (bs : List ℕ) → begins_with_lf bs ≡ true → bs ≡ 10 ∷ drop 1 bs
after_lf [] h = absurd (both_ways false refl h)
after_lf (b ∷ bs) h = ap (λ x. x ∷ bs) (eqb-true b 10 h)

tells_behind : (f : FieldText) (ys : List ℕ) → Lawful f → stops ys ≡ true → ((bs : List ℕ) → length bs < length ys → LineTells bs (read_line bs)) → LineTells (written f ++ ys) (behind_field read_line f ys)
tells_behind f [] l s ih = record { behind = []; split = refl; lawful = (tt, l); ends = inr (refl, refl) }
tells_behind f (b ∷ bs) l s ih =
    let next = before f (read_line bs) in
    cond_both (eqb b 44) next (cut [] f (drop 1 bs)) (LineTells (written f ++ b ∷ bs))
    (λ h. subst (λ x. LineTells (written f ++ x ∷ bs) next) (sym (eqb-true b 44 h)) (tells_before f bs (read_line bs) l (ih bs (omega arith))))
    (λ h.
    let two = ⊎_elim (λ c. absurd (both_ways (eqb b 44) h c)) (λ c. and_parts (eqb b 13) (begins_with_lf bs) c) (or_cases (eqb b 44) (eqb b 13 && begins_with_lf bs) s) in
    let same : b ∷ bs ≡ 13 ∷ 10 ∷ drop 1 bs = ap (λ x. x ∷ bs) (eqb-true b 13 two.0) ∙ ap (λ x. 13 ∷ x) (after_lf bs two.1) in
    record { behind = b ∷ bs; split = refl; lawful = (tt, l); ends = inl same })

tells_after : (text : List ℕ) (r : FieldRead) → read_field text ≡ r → Tells text r → ((bs : List ℕ) → length bs < length text → LineTells bs (read_line bs)) → LineTells text (after_field read_line text r)
tells_after text (whole f) e t ih =
    let ys = drop (length (written f)) text in
    subst (λ x. LineTells x (behind_field read_line f ys)) (sym t.split)
    (tells_behind f ys t.lawful t.stop (λ bs h. ih bs (omega (arith, length-drop (length (written f)) text))))
tells_after text (faulty w n) e t ih = record { tail = text; split = refl; lawful = tt; spoilt = e }

tells_within : (k : ℕ) (text : List ℕ) → length text < k → LineTells text (read_line text)
tells_within zero text h = absurd (omega arith)
tells_within (suc k) text h =
    subst (LineTells text) (sym (line_step text)) (tells_after text (read_field text) refl (field_tells text) (λ bs s. tells_within k bs (omega arith)))

pub line_tells : (text : List ℕ) → LineTells text (read_line text)
line_tells text = tells_within (suc (length text)) text (omega arith)
