-- A header's text and the line that it is. Assumes nothing.
use Rattle.std.proofs.Common.{◌≡◌, ℕ, ◌+◌, ◌-◌, ◌<◌, ◌≤◌, true, false, eqb, ltb, leb, List, [], ◌∷◌, ◌++◌, length, get_or, take, drop, Ok, Err, Result, sym, refl, ap, ◌∙◌, subst, ⊎_elim, append_assoc, append-nil, arith, length-append}
use Rattle.rfc4180.specs.Grammar.{plain, FieldText, plainly, quoted, Plain, Lawful, written, with_commas, Derives}
use Rattle.rfc4180.specs.Reading.{LineRead, cut, damaged, read_line}
use Rattle.rfc4180.specs.Told.{line_answer}
use Rattle.rfc4180.specs.declared.faults.TextFault.{TextFault}
use Rattle.rfc4180.specs.declared.lines.Line.{Line}
use Rattle.rfc4180.proofs.Agreement.{LineTells, line_tells, derived_reads}
use Rattle.std.proofs.lemmas.List.{get_or_at, take_at, nil_from_length}
use Rattle.std.proofs.lemmas.Bool.{cases_lt, cases_eq, cond-true, cond-false, and_from, and_right, le-leb, lt-ltb, le-ltb, eq-eqb, ne_eqb}
use Rattle.std.proofs.lemmas.Bool.Decides.{nat_tests}
use Rattle.sheet.specs.declared.faults.HeaderFault.TheVariants.{Text, Fields, AreaTooShort}
use Rattle.sheet.specs.Calls.{second_line, room_answer, header_answer}
use Rattle.sheet.specs.Headers.{ends_line, without_line_end}
use Rattle.sheet.specs.Rows.{line_bytes, bytes_of}
use Rattle.sheet.specs.Sheets.{Headed}
use Rattle.sheet.proofs.Lawfully.{line_reads_back}

-- No line without its CR LF ends with an LF.

abbrev last_byte : ℕ → List ℕ → ℕ
last_byte d [] = d
last_byte d (b ∷ bs) = last_byte b bs

last_append : (d : ℕ) (xs ys : List ℕ) → last_byte d (xs ++ ys) ≡ last_byte (last_byte d xs) ys
last_append d [] ys = refl
last_append d (x ∷ xs) ys = last_append x xs ys

last_getD : (b : ℕ) (bs : List ℕ) → get_or (b ∷ bs) (length bs) 0 ≡ last_byte b bs
last_getD b [] = refl
last_getD b (c ∷ cs) = last_getD c cs

plain_no_lf : (b : ℕ) → plain b ≡ true → b ≡ 10 → ⊥
plain_no_lf b h e = grind (arith, nat_tests)

last_plain : (d : ℕ) (bs : List ℕ) → (d ≡ 10 → ⊥) → Plain bs → last_byte d bs ≡ 10 → ⊥
last_plain d [] n p = n
last_plain d (b ∷ bs) n p = last_plain b bs (plain_no_lf b p.0) p.1

last_written : (d : ℕ) (f : FieldText) → (d ≡ 10 → ⊥) → Lawful f → last_byte d (written f) ≡ 10 → ⊥
last_written d (plainly bs) n l e = last_plain d bs n l e
last_written d (quoted bs) n l e = omega (arith, e, last_append 34 bs (34 ∷ []))

last_commas : (d : ℕ) (front : List FieldText) → (d ≡ 10 → ⊥) → last_byte d (with_commas front) ≡ 10 → ⊥
last_commas d [] n e = n e
last_commas d (f ∷ fs) n e = last_commas 44 fs (λ z. omega arith) (sym (last_append d (written f) (44 ∷ with_commas fs)) ∙ e)

no_line_end : (bs : List ℕ) → (last_byte 0 bs ≡ 10 → ⊥) → ends_line bs ≡ false
no_line_end [] n = refl
no_line_end (b ∷ bs) n =
    let at : get_or (b ∷ bs) (length (b ∷ bs) - 1) 0 ≡ last_byte b bs = ap (λ i. get_or (b ∷ bs) i 0) (omega arith) ∙ last_getD b bs in
    and_right (leb 2 (length (b ∷ bs))) _ (and_right (eqb (get_or (b ∷ bs) (length (b ∷ bs) - 2) 0) 13) _ (ne_eqb (get_or (b ∷ bs) (length (b ∷ bs) - 1) 0) 10 (λ e. n (sym at ∙ e))))

line_end : (bs : List ℕ) → ends_line (bs ++ 13 ∷ 10 ∷ []) ≡ true
line_end bs =
    let long : length (bs ++ 13 ∷ 10 ∷ []) ≡ length bs + 2 = length-append bs (13 ∷ 10 ∷ []) in
    let cr : get_or (bs ++ 13 ∷ 10 ∷ []) (length (bs ++ 13 ∷ 10 ∷ []) - 2) 0 ≡ 13 = get_or_at bs 13 (10 ∷ []) 0 _ (omega arith) in
    let lf : get_or (bs ++ 13 ∷ 10 ∷ []) (length (bs ++ 13 ∷ 10 ∷ []) - 1) 0 ≡ 10 =
    ap (λ l. get_or l (length (bs ++ 13 ∷ 10 ∷ []) - 1) 0) (sym (append_assoc bs (13 ∷ []) (10 ∷ []))) ∙ get_or_at (bs ++ 13 ∷ []) 10 [] 0 _ (omega (arith, length-append bs (13 ∷ []))) in
    and_from _ _ (le-leb 2 _ (omega arith)) (and_from _ _ (eq-eqb _ 13 cr) (eq-eqb _ 10 lf))

without_at_line : (bs : List ℕ) → without_line_end (bs ++ 13 ∷ 10 ∷ []) ≡ bs
without_at_line bs =
    let all = bs ++ 13 ∷ 10 ∷ [] in
    cond-true (ends_line all) (take (length all - 2) all) all (line_end bs) ∙ take_at bs (13 ∷ 10 ∷ []) _ (omega (arith, length-append bs (13 ∷ 10 ∷ [])))

without_at_end : (bs : List ℕ) → (last_byte 0 bs ≡ 10 → ⊥) → without_line_end bs ≡ bs
without_at_end bs n = cond-false (ends_line bs) (take (length bs - 2) bs) bs (no_line_end bs n)

-- with or without its CR LF, the text of a line is its fields
pub content_is : (header : List ℕ) (front : List FieldText) (last : FieldText) → Derives header front last [] → without_line_end header ≡ with_commas front ++ written last
content_is header front last d =
    let bs = with_commas front ++ written last in
    let split = d.split in
    ⊎_elim
    (λ e. ap without_line_end (split ∙ ap (λ x. with_commas front ++ (written last ++ x)) e ∙ sym (append_assoc (with_commas front) (written last) (13 ∷ 10 ∷ []))) ∙ without_at_line bs)
    (λ e. ap without_line_end (split ∙ ap (λ x. with_commas front ++ (written last ++ x)) e.0 ∙ ap (λ x. with_commas front ++ x) (append-nil (written last)))
    ∙ without_at_end bs (λ z. last_written (last_byte 0 (with_commas front)) last (last_commas 0 front (λ y. omega arith)) d.lawful.1 (sym (last_append 0 (with_commas front) (written last)) ∙ z)))
    d.ends

pub line_is : (front : List FieldText) (last : FieldText) → line_bytes front last ≡ (with_commas front ++ written last) ++ 13 ∷ 10 ∷ []
line_is front last = sym (append_assoc (with_commas front) (written last) (13 ∷ 10 ∷ []))

pub size_is : (header : List ℕ) (front : List FieldText) (last : FieldText) → Derives header front last [] → length (without_line_end header) + 2 ≡ length (line_bytes front last)
size_is header front last d =
    ap (λ l. length l + 2) (content_is header front last d) ∙ sym (length-append (with_commas front ++ written last) (13 ∷ 10 ∷ [])) ∙ ap length (sym (line_is front last))

rest_within : (text : List ℕ) (front : List FieldText) (last : FieldText) (rest : List ℕ) → Derives text front last rest → length rest ≤ length text
rest_within text front last rest d =
    let long = ap length d.split ∙ length-append (with_commas front) (written last ++ d.behind) in
    let more = length-append (written last) d.behind in
    ⊎_elim (λ e. omega (arith, ap length e)) (λ e. omega (arith, ap length e.1)) d.ends

-- What the line that was read tells of the answer.

pub record Checked (width : ℕ) (header : List ℕ) (r : LineRead) (line : Line) : Type 0 where
  pub behind : line.next < length header → (room : ℕ) → header_answer width room (length header) r ≡ Err (Text (second_line line.next))
  pub fields : length header ≤ line.next → (line.fields ≡ width + 1 → ⊥) → (room : ℕ) → header_answer width room (length header) r ≡ Err (Fields line.fields (width + 1))
  pub taken : length header ≤ line.next → line.fields ≡ width + 1 → (room : ℕ) → header_answer width room (length header) r ≡ room_answer room (length (without_line_end header) + 2)

same_line : (l m : Line) → ◌≡◌ {A = Result Line TextFault} (Ok l) (Ok m) → l ≡ m
same_line l m e = cc

-- the answer to a whole line, when the tests before it have passed

at_second_line : (width room size : ℕ) (front : List FieldText) (last : FieldText) (rest : List ℕ) → 0 < length rest → header_answer width room size (cut front last rest) ≡ Err (Text (second_line (size - length rest)))
at_second_line width room size front last rest h = cond-true (ltb 0 (length rest)) _ _ (lt-ltb 0 (length rest) h)

at_fields : (width room size : ℕ) (front : List FieldText) (last : FieldText) → (length front ≡ width → ⊥) → header_answer width room size (cut front last []) ≡ Err (Fields (length front + 1) (width + 1))
at_fields width room size front last n = cond-false (eqb (length front) width) _ _ (ne_eqb (length front) width n)

at_room : (width room size : ℕ) (front : List FieldText) (last : FieldText) → length front ≡ width → header_answer width room size (cut front last []) ≡ room_answer room (length (line_bytes front last))
at_room width room size front last e = cond-true (eqb (length front) width) _ _ (eq-eqb (length front) width e)

checked_at_end : (width : ℕ) (header : List ℕ) (front : List FieldText) (last : FieldText) (line : Line) → Derives header front last [] → line.fields ≡ length front + 1 → line.next ≡ length header → Checked width header (cut front last []) line
checked_at_end width header front last line d f n =
    record {
      behind = λ h. absurd (omega arith);
      fields = λ _ k room. at_fields width room (length header) front last (λ e. k (omega arith)) ∙ ap (λ m. Err (Fields m (width + 1))) (sym f);
      taken = λ _ k room. at_room width room (length header) front last (omega arith) ∙ ap (room_answer room) (sym (size_is header front last d));
    }

checked_behind : (width : ℕ) (header : List ℕ) (front : List FieldText) (last : FieldText) (rest : List ℕ) (line : Line) → 0 < length rest → length rest ≤ length header → line.next ≡ length header - length rest → Checked width header (cut front last rest) line
checked_behind width header front last rest line h k n =
    record {
      behind = λ _ room. at_second_line width room (length header) front last rest h ∙ ap (λ m. Err (Text (second_line m))) (sym n);
      fields = λ e _ _. absurd (omega arith);
      taken = λ e _ _. absurd (omega arith);
    }

checked_cut : (width : ℕ) (header : List ℕ) (front : List FieldText) (last : FieldText) (rest : List ℕ) (line : Line) → Derives header front last rest → line.fields ≡ length front + 1 → line.next ≡ length header - length rest → Checked width header (cut front last rest) line
checked_cut width header front last rest line d f n =
    ⊎_elim
    (λ h. checked_behind width header front last rest line h (rest_within header front last rest d) n)
    (λ h.
    let none = nil_from_length rest (omega arith) in
    subst (λ r. Checked width header (cut front last r) line) (sym none)
    (checked_at_end width header front last line (subst (Derives header front last) none d) f (omega arith)))
    (cases_lt 0 (length rest))

checked_read : (width : ℕ) (header : List ℕ) (r : LineRead) (line : Line) → LineTells header r → Ok line ≡ line_answer 1 0 (length header) r → Checked width header r line
checked_read width header (cut front last rest) line t e =
    let same = same_line line _ e in
    checked_cut width header front last rest line t (ap (λ l. l.fields) same) (ap (λ l. l.next) same)
checked_read width header (damaged front w n) line t e = absurd cc

pub checked : (width : ℕ) (header : List ℕ) (line : Line) → Ok line ≡ line_answer 1 0 (length header) (read_line header) → Checked width header (read_line header) line
checked width header line e = checked_read width header (read_line header) line (line_tells header) e

-- What a header that is taken tells.

pub record Taken (width room : ℕ) (header : List ℕ) (n : ℕ) : Type 0 where
  pub front : List FieldText
  pub last : FieldText
  pub derives : Derives header front last []
  pub columns : length front ≡ width
  pub size : n ≡ length (line_bytes front last)
  pub room_for : n ≤ room

taken_read : (width room : ℕ) (header : List ℕ) (r : LineRead) (n : ℕ) → LineTells header r → Ok n ≡ header_answer width room (length header) r → Taken width room header n
taken_read width room header (damaged front w k) n t e = absurd cc
taken_read width room header (cut front last rest) n t e =
    ⊎_elim
    (λ h. let f = at_second_line width room (length header) front last rest h in absurd cc)
    (λ h. at_end (nil_from_length rest (omega arith)))
    (cases_lt 0 (length rest))
  where
    at_end : rest ≡ [] → Taken width room header n
    at_end none =
        let g = ap (λ x. header_answer width room (length header) (cut front last x)) none in
        let d = subst (Derives header front last) none t in
        ⊎_elim
        (λ c.
        let a = at_room width room (length header) front last c in
        ⊎_elim
        (λ s. let b = cond-true (ltb room (length (line_bytes front last))) (Err (AreaTooShort (length (line_bytes front last)))) (Ok (length (line_bytes front last))) (lt-ltb _ _ s) in absurd cc)
        (λ s.
        let b = cond-false (ltb room (length (line_bytes front last))) (Err (AreaTooShort (length (line_bytes front last)))) (Ok (length (line_bytes front last))) (le-ltb _ _ s) in
        let k : n ≡ length (line_bytes front last) = cc in
        record { front = front; last = last; derives = d; columns = c; size = k; room_for = omega arith })
        (cases_lt room (length (line_bytes front last))))
        (λ c. let a = at_fields width room (length header) front last c in absurd cc)
        (cases_eq (length front) width)

pub taken : (width room : ℕ) (header : List ℕ) (n : ℕ) → header_answer width room (length header) (read_line header) ≡ room_answer room n → n ≤ room → Taken width room header n
taken width room header n e h = taken_read width room header (read_line header) n (line_tells header) (sym (e ∙ cond-false (ltb room n) (Err (AreaTooShort n)) (Ok n) (le-ltb room n h)))

pub header_area : (width : ℕ) (header : List ℕ) (n : ℕ) (before after : List ℕ) → Taken width (length before) header n → after ≡ without_line_end header ++ 13 ∷ 10 ∷ drop (length (without_line_end header) + 2) before → after ≡ bytes_of (read_line header) ++ drop n before
header_area width header n before after t e =
    let front = t.front in
    let last = t.last in
    let content = content_is header front last t.derives in
    let size : length (without_line_end header) + 2 ≡ n = size_is header front last t.derives ∙ sym t.size in
    e ∙ ap (λ l. l ++ 13 ∷ 10 ∷ drop (length (without_line_end header) + 2) before) content
    ∙ ap (λ k. (with_commas front ++ written last) ++ 13 ∷ 10 ∷ drop k before) size
    ∙ sym (append_assoc (with_commas front ++ written last) (13 ∷ 10 ∷ []) (drop n before)) ∙ ap (λ l. l ++ drop n before) (sym (line_is front last))
    ∙ ap (λ r. bytes_of r ++ drop n before) (sym (derived_reads header front last [] t.derives))

pub headed : (width : ℕ) (header : List ℕ) (n : ℕ) (before after : List ℕ) → Taken width (length before) header n → after ≡ bytes_of (read_line header) ++ drop n before → Headed width header n before after
headed width header n before after t e =
    let front = t.front in
    let last = t.last in
    let whole : after ≡ line_bytes front last ++ drop n before = e ∙ ap (λ r. bytes_of r ++ drop n before) (derived_reads header front last [] t.derives) in
    record {
      front = front;
      last = last;
      derives = t.derives;
      reads = ap read_line whole ∙ line_reads_back front last (drop n before) t.derives.lawful;
      begins = record {
        lawful = t.derives.lawful;
        columns = t.columns;
        count = refl;
        shown = tt;
        bytes = ap (take n) whole ∙ take_at (line_bytes front last) (drop n before) n (sym t.size) ∙ sym (append-nil (line_bytes front last));
      };
    }
