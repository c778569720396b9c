-- How far `read_line` has come: the fields before the place that it has reached. Assumes nothing.
use Rattle.std.proofs.Common.{◌≡◌, ℕ, zero, suc, ◌+◌, ◌-◌, ◌<◌, ◌≤◌, min, true, ◌&&◌, eqb, List, [], ◌∷◌, ◌++◌, map, length, take, drop, set, Ok, Err, Result, sym, refl, ap, ◌∙◌, subst, ⊎_elim, append_assoc, append-nil, arith, length-append, length-drop}
use native.Mathlib.Nat.{min-eq_left, min-le_right}
use Rattle.std.proofs.lemmas.List.{take_more_set, map_push, take_all, take-append-le, drop_all, drop-drop, drop-set-lt, length_push, length-set, set_past}
use Rattle.std.proofs.lemmas.Bool.{cases_lt, cases_Bool, cond-true, cond-false, both_ways, and_parts, or_cases}
use Rattle.rfc4180.specs.declared.faults.Location.{Location}
use Rattle.rfc4180.specs.declared.faults.TextFault.{TextFault}
use Rattle.rfc4180.specs.declared.fields.Field.{Field}
use Rattle.rfc4180.specs.declared.lines.Delimiter.TheVariants.{Comma, LineEnd, TextEnd}
use Rattle.rfc4180.specs.declared.lines.Line.{Line}
use Rattle.rfc4180.specs.Grammar.{FieldText, written, with_commas}
use Rattle.rfc4180.specs.Reading.{stops, begins_with_lf, Wrong, FieldRead, whole, faulty, LineRead, cut, damaged, before, read_field, behind_field, after_field, read_line}
use Rattle.rfc4180.specs.Told.{field_text, text_fault, field_answer, delimiter, fields_of, field_behind, line_answer, Filled}
use Rattle.rfc4180.proofs.FieldTells.{field_tells, Tells}
use Rattle.rfc4180.proofs.LineSteps.{drop_clipped, line_step}

-- a line with these fields in front
abbrev pub in_front : List FieldText → LineRead → LineRead
in_front [] r = r
in_front (f ∷ fs) r = before f (in_front fs r)

pub front_cut : (front g : List FieldText) (last : FieldText) (rest : List ℕ) → in_front front (cut g last rest) ≡ cut (front ++ g) last rest
front_cut [] g last rest = refl
front_cut (f ∷ fs) g last rest = ap (before f) (front_cut fs g last rest)

pub front_damaged : (front g : List FieldText) (w : Wrong) (n : ℕ) → in_front front (damaged g w n) ≡ damaged (front ++ g) w n
front_damaged [] g w n = refl
front_damaged (f ∷ fs) g w n = ap (before f) (front_damaged fs g w n)

pub front_push : (front : List FieldText) (f : FieldText) (r : LineRead) → in_front (front ++ f ∷ []) r ≡ in_front front (before f r)
front_push [] f r = refl
front_push (g ∷ gs) f r = ap (before g) (front_push gs f r)

pub commas_append : (xs ys : List FieldText) → with_commas (xs ++ ys) ≡ with_commas xs ++ with_commas ys
commas_append [] ys = refl
commas_append (f ∷ fs) ys = ap (λ l. written f ++ 44 ∷ l) (commas_append fs ys) ∙ sym (append_assoc (written f) (44 ∷ with_commas fs) (with_commas ys))

pub size_push : (front : List FieldText) (f : FieldText) → length (with_commas (front ++ f ∷ [])) ≡ length (with_commas front) + length (written f) + 1
size_push front f = ap length (commas_append front (f ∷ [])) ∙ simp length-append (omega arith)

-- each field has a comma
pub few : (front : List FieldText) → length front ≤ length (with_commas front)
few [] = omega arith
few (f ∷ fs) = let ih = few fs in simp length-append (omega arith)

pub record Sofar (text : List ℕ) (place number : ℕ) (entry : List Field) (at : Location) (fields : List Field) : Type 0 where
  pub front : List FieldText
  pub line : at.line ≡ number
  pub column : at.column ≡ length front + 1
  pub byte : at.byte ≡ min place (length text) + length (with_commas front)
  pub within : at.byte ≤ length text
  pub reads : read_line (drop place text) ≡ in_front front (read_line (drop at.byte text))
  pub filled : Filled front entry fields

filled_none : (entry : List Field) → Filled [] entry entry
filled_none entry = record { shows = sym (none (length entry)); keeps = refl }
  where
    none : (n : ℕ) → take {A = FieldText} n [] ≡ []
    none zero = refl
    none (suc n) = refl

filled_put : (front : List FieldText) (entry fields : List Field) (f : Field) → length front < length fields → Filled front entry fields → Filled (front ++ field_text f ∷ []) entry (set fields (length front) f)
filled_put front entry fields f h e =
    let k = length front in
    let long = length_push front (field_text f) in
    record {
      shows =
          ap (λ n. map field_text (take n (set fields k f))) long
          ∙ ap (map field_text) (take_more_set fields k f h)
          ∙ map_push field_text (take k fields) f
          ∙ ap (λ l. l ++ field_text f ∷ []) (e.shows ∙ take_all (length fields) front (omega arith))
          ∙ sym (take_all (length (set fields k f)) (front ++ field_text f ∷ []) (omega (arith, long, length-set fields k f)));
      keeps =
          ap (λ n. drop n (set fields k f)) long
          ∙ drop-set-lt (k + 1) fields k f (omega arith)
          ∙ sym (drop-drop 1 k fields) ∙ ap (drop 1) e.keeps ∙ drop-drop 1 k entry
          ∙ ap (λ n. drop n entry) (sym long);
    }

filled_past : (front : List FieldText) (entry fields : List Field) (f : Field) → length fields ≤ length front → Filled front entry fields → Filled (front ++ field_text f ∷ []) entry fields
filled_past front entry fields f h e =
    let k = length front in
    let long = length_push front (field_text f) in
    record {
      shows =
          ap (map field_text) (take_all (length (front ++ field_text f ∷ [])) fields (omega (arith, long)) ∙ sym (take_all k fields h))
          ∙ e.shows ∙ sym (take-append-le (length fields) front (field_text f ∷ []) h);
      keeps =
          ap (λ n. drop n fields) long ∙ sym (drop-drop 1 k fields) ∙ ap (drop 1) e.keeps ∙ drop-drop 1 k entry ∙ ap (λ n. drop n entry) (sym long);
    }

-- one field more, at its place or past the room
pub filled_more : (front : List FieldText) (entry fields : List Field) (f : Field) (i : ℕ) → i ≡ length front → Filled front entry fields → Filled (front ++ field_text f ∷ []) entry (set fields i f)
filled_more front entry fields f i here e =
    subst (λ k. Filled (front ++ field_text f ∷ []) entry (set fields k f)) (sym here)
    (⊎_elim
    (λ h. filled_put front entry fields f h e)
    (λ h. subst (Filled (front ++ field_text f ∷ []) entry) (sym (set_past fields (length front) f h)) (filled_past front entry fields f h e))
    (cases_lt (length front) (length fields)))

pub start : (text : List ℕ) (place number : ℕ) (entry : List Field) → Sofar text place number entry (record { line = number; column = 1; byte = min place (length text) }) entry
start text place number entry =
    record {
      front = [];
      line = refl;
      column = refl;
      byte = omega arith;
      within = min-le_right place (length text);
      reads = ap read_line (sym (drop_clipped place text));
      filled = filled_none entry;
    }

-- What stands behind a field.

record AtComma (g : FieldText) (ys : List ℕ) : Type 0 where
  more : 0 < length ys
  goes : behind_field read_line g ys ≡ before g (read_line (drop 1 ys))

at_comma : (g : FieldText) (ys : List ℕ) → delimiter ys ≡ Comma → AtComma g ys
at_comma g [] d = absurd cc
at_comma g (b ∷ bs) d =
    ⊎_elim
    (λ h. record { more = omega arith; goes = cond-true (eqb b 44) (before g (read_line bs)) (cut [] g (drop 1 bs)) h })
    (λ h. let e = cond-false (eqb b 44) Comma LineEnd h in absurd cc)
    (cases_Bool (eqb b 44))

record AtLineEnd (g : FieldText) (ys : List ℕ) : Type 0 where
  more : 2 ≤ length ys
  goes : behind_field read_line g ys ≡ cut [] g (drop 2 ys)

lf_some : (bs : List ℕ) → begins_with_lf bs ≡ true → 1 ≤ length bs
lf_some [] h = absurd cc
lf_some (b ∷ bs) h = omega arith

at_line_end : (g : FieldText) (ys : List ℕ) → stops ys ≡ true → delimiter ys ≡ LineEnd → AtLineEnd g ys
at_line_end g [] s d = absurd cc
at_line_end g (b ∷ bs) s d =
    ⊎_elim
    (λ h. let e = cond-true (eqb b 44) Comma LineEnd h in absurd cc)
    (λ h.
    let lf = ⊎_elim (λ c. absurd (both_ways (eqb b 44) h c)) (λ c. (and_parts (eqb b 13) (begins_with_lf bs) c).1) (or_cases (eqb b 44) (eqb b 13 && begins_with_lf bs) s) in
    record { more = omega (arith, lf_some bs lf); goes = cond-false (eqb b 44) (before g (read_line bs)) (cut [] g (drop 1 bs)) h })
    (cases_Bool (eqb b 44))

at_text_end : (ys : List ℕ) → delimiter ys ≡ TextEnd → ys ≡ []
at_text_end [] d = refl
at_text_end (b ∷ bs) d =
    ⊎_elim
    (λ h. let e = cond-true (eqb b 44) Comma LineEnd h in absurd cc)
    (λ h. let e = cond-false (eqb b 44) Comma LineEnd h in absurd cc)
    (cases_Bool (eqb b 44))

-- What `field_at` answered.

pub read_whole : (at : Location) (r : FieldRead) (f : FieldText) → Ok f ≡ field_answer at r → r ≡ whole f
read_whole at (whole g) f e = cc
read_whole at (faulty w n) f e = absurd cc

pub read_faulty : (at : Location) (r : FieldRead) (e : TextFault) → ◌≡◌ {A = Result FieldText TextFault} (Err e) (field_answer at r) → (w : Wrong) × (n : ℕ) × (r ≡ faulty w n) × (e ≡ text_fault at w n)
read_faulty at (whole g) e h = absurd cc
read_faulty at (faulty w n) e h = (w, n, refl, cc)

-- what `read_line` ensures
pub record Answered (text : List ℕ) (place number : ℕ) (entry fields : List Field) (r : Result Line TextFault) : Type 0 where
  pub answer : r ≡ line_answer number place (length text) (read_line (drop place text))
  pub filled : Filled (fields_of (read_line (drop place text))) entry fields

module _ {text : List ℕ} {place number : ℕ} {entry : List Field} {at : Location} {was : List Field} (s : Sofar text place number entry at was) where
  -- a fault in the field that is reached
  pub at_fault : (w : Wrong) (n : ℕ) → read_field (drop at.byte text) ≡ faulty w n → Answered text place number entry was (Err (text_fault at w n))
  at_fault w n e =
      let rest = drop at.byte text in
      let front = s.front in
      let read : read_line (drop place text) ≡ damaged front w n =
      s.reads ∙ ap (in_front front) (line_step rest ∙ ap (after_field read_line rest) e) ∙ front_damaged front [] w n ∙ ap (λ l. damaged l w n) (append-nil front) in
      let near : place ≤ length text =
      ⊎_elim (λ h. omega arith) (λ h. let none = ap read_line (drop_all place text h) in absurd cc) (cases_lt place (length text)) in
      let same : at.byte ≡ place + length (with_commas front) = s.byte ∙ ap (λ k. k + length (with_commas front)) (min-eq_left near) in
      let loc : at ≡ field_behind number place front = λ i. record { line = s.line i; column = s.column i; byte = same i } in
      record {
        answer = ap (λ l. Err (text_fault l w n)) loc ∙ ap (line_answer number place (length text)) (sym read);
        filled = subst (λ r. Filled (fields_of r) entry was) (sym read) s.filled;
      }

  -- a field f, which ends at the byte end, and is put into the list
  module _ (f : Field) (now : List Field) (end : ℕ) (told : Ok (field_text f) ≡ field_answer at (read_field (drop at.byte text))) (set_in : now ≡ set was (at.column - 1) f) (stands : end ≡ at.byte + length (written (field_text f))) where
    is : read_field (drop at.byte text) ≡ whole (field_text f)
    is = read_whole at (read_field (drop at.byte text)) (field_text f) told

    put : Filled (s.front ++ field_text f ∷ []) entry now
    put = subst (Filled (s.front ++ field_text f ∷ []) entry) (sym set_in) (filled_more s.front entry was f (at.column - 1) (omega (arith, s.column)) s.filled)

    behind : drop end text ≡ drop (length (written (field_text f))) (drop at.byte text)
    behind = ap (λ k. drop k text) stands ∙ sym (drop-drop (length (written (field_text f))) at.byte text)

    goes : read_line (drop place text) ≡ in_front s.front (behind_field read_line (field_text f) (drop end text))
    goes = s.reads ∙ ap (in_front s.front) (line_step (drop at.byte text) ∙ ap (after_field read_line (drop at.byte text)) is ∙ ap (behind_field read_line (field_text f)) (sym behind))

    stop : stops (drop end text) ≡ true
    stop = ap stops behind ∙ (subst (Tells (drop at.byte text)) is (field_tells (drop at.byte text))).stop

    pub fits : delimiter (drop end text) ≡ Comma → (end + 1 ≤ length text) × (at.column ≤ end + 1)
    fits d = let left = (at_comma (field_text f) (drop end text) d).more in (omega (arith, length-drop end text), omega (arith, s.column, s.byte, few s.front))

    pub behind_comma : delimiter (drop end text) ≡ Comma → Sofar text place number entry (record { line = at.line; column = at.column + 1; byte = end + 1 }) now
    behind_comma d =
        let here = at_comma (field_text f) (drop end text) d in
        let left = here.more in
        record {
          front = s.front ++ field_text f ∷ [];
          line = s.line;
          column = ap (λ n. n + 1) (s.column ∙ sym (length_push s.front (field_text f)));
          byte = omega (arith, s.byte, size_push s.front (field_text f));
          within = omega (arith, length-drop end text);
          reads = goes ∙ ap (in_front s.front) (here.goes ∙ ap (λ l. before (field_text f) (read_line l)) (drop-drop 1 end text)) ∙ sym (front_push s.front (field_text f) (read_line (drop (end + 1) text)));
          filled = put;
        }

    last : (rest : List ℕ) → behind_field read_line (field_text f) (drop end text) ≡ cut [] (field_text f) rest → (next : ℕ) → next ≡ length text - length rest → Answered text place number entry now (Ok (record { fields = at.column; next = next }))
    last rest e next n =
        let read : read_line (drop place text) ≡ cut s.front (field_text f) rest =
        goes ∙ ap (in_front s.front) e ∙ front_cut s.front [] (field_text f) rest ∙ ap (λ l. cut l (field_text f) rest) (append-nil s.front) in
        record {
          answer = (λ i. Ok (record { fields = s.column i; next = n i })) ∙ ap (line_answer number place (length text)) (sym read);
          filled = subst (λ r. Filled (fields_of r) entry now) (sym read) put;
        }

    pub before_line_end : end ≤ length text → delimiter (drop end text) ≡ LineEnd → Answered text place number entry now (Ok (record { fields = at.column; next = end + 2 }))
    before_line_end h d =
        let here = at_line_end (field_text f) (drop end text) stop d in
        let left = here.more in
        last (drop 2 (drop end text)) here.goes (end + 2) (omega (arith, length-drop 2 (drop end text), length-drop end text))

    pub room : delimiter (drop end text) ≡ LineEnd → end + 2 ≤ length text
    room d = let left = (at_line_end (field_text f) (drop end text) stop d).more in omega (arith, length-drop end text)

    pub before_text_end : end ≤ length text → delimiter (drop end text) ≡ TextEnd → Answered text place number entry now (Ok (record { fields = at.column; next = end }))
    before_text_end h d =
        let none = at_text_end (drop end text) d in
        last [] (ap (behind_field read_line (field_text f)) none) end (omega (arith, ap length none, length-drop end text))
