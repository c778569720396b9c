-- Why a damaged line is none. Assumes nothing.
use Rattle.std.proofs.Common.{◌≡◌, ℕ, suc, ◌+◌, ◌<◌, Bool, true, false, cond, ◌&&◌, eqb, ◌⊎◌, List, [], ◌∷◌, ◌++◌, length, get_or, take, drop, sym, refl, ap, ◌∙◌, subst, inl, inr, ⊎_elim, append_assoc, append-nil, add-suc, suc-add, zero-add, arith, length-append, drop-cons, take-suc, Ok, Err}
use Rattle.std.proofs.lemmas.List.{drop_at, length-take-le, get_or-append-add, drop-drop}
use Rattle.std.proofs.lemmas.Bool.{cases_Bool, cond_both, cond-true, cond-false, both_ways, and_parts, or_cases, or_parts, and_cases, eqb-true, eq-eqb, ne_eqb}
use Rattle.rfc4180.specs.declared.fields.RunFault.TheVariants.{Offends, Runs}
use Rattle.rfc4180.specs.Grammar.{plain, inside, FieldText, plainly, quoted, Plain, Inside, Lawful, AllLawful, written, with_commas}
use Rattle.rfc4180.specs.Reading.{Extent, begins_with_lf, stops, further, plain_extent, quoted_extent, mark_extent, Wrong, not_allowed, unclosed, whole, faulty, as_plain, as_quoted, read_field, LineRead, cut, damaged, after_field, read_line, behind_line_end}
use Rattle.rfc4180.specs.Laws as laws
use Rattle.rfc4180.specs.Laws.{Resumes, behind_first, at_end}
use Rattle.rfc4180.proofs.Tells.{PlainOffends, InsideOffends, MarkOffends}
use Rattle.rfc4180.proofs.FieldTells.{field_tells, Tells, Spoilt, in_plain, in_quotes, behind_mark, open_end}
use Rattle.rfc4180.proofs.LineSteps.{line_step}
use Rattle.rfc4180.proofs.Progress.{in_front, front_damaged}
use Rattle.rfc4180.proofs.Agreement.{plain_prefix, inside_prefix, reads_plain, field_reads, front_reads, derived_reads, LineTells, line_tells, after_lf}

-- a text whose first field is spoilt has no line
spoilt_line : (front : List FieldText) (tail : List ℕ) (w : Wrong) (n : ℕ) → AllLawful front → read_field tail ≡ faulty w n → laws.HasLine (with_commas front ++ tail) → ⊥
spoilt_line front tail w n l e h =
    let a : read_line (with_commas front ++ tail) ≡ damaged front w n =
    front_reads front tail l ∙ ap (in_front front) (line_step tail ∙ ap (after_field read_line tail) e) ∙ front_damaged front [] w n ∙ ap (λ x. damaged x w n) (append-nil front) in
    let b = derived_reads _ h.front h.last h.rest h.derives in
    cc

-- a line that ends with the text
whole_line : (front : List FieldText) (last : FieldText) (text : List ℕ) → AllLawful front → Lawful last → text ≡ with_commas front ++ written last → laws.HasLine text
whole_line front last text l m e =
    record { front = front; last = last; rest = []; derives = record { behind = []; split = e ∙ ap (λ x. with_commas front ++ x) (sym (append-nil (written last))); lawful = (l, m); ends = inr (refl, refl) } }

-- Behind the offending byte y, whatever follows.

plain_stuck : (bs : List ℕ) (y : ℕ) (more : List ℕ) → Plain bs → plain y ≡ false → stops (y ∷ more) ≡ false → plain_extent (bs ++ y ∷ more) ≡ Err (Offends (length bs))
plain_stuck bs y more l p s =
    plain_prefix bs (y ∷ more) l
    ∙ ap (further (length bs)) (cond-false (plain y) (further 1 (plain_extent more)) _ p ∙ cond-false (stops (y ∷ more)) (Ok 0) (Err (Offends 0)) s)
    ∙ ap (λ n. Err (Offends n)) (omega arith)

inside_stuck : {bs : List ℕ} (y : ℕ) (more : List ℕ) → Inside bs → inside y ≡ false → (y ≡ 34 → ⊥) → quoted_extent (bs ++ y ∷ more) ≡ Err (Offends (length bs))
inside_stuck {bs} y more l i n =
    inside_prefix (y ∷ more) l
    ∙ ap (further (length bs)) (cond-false (eqb y 34) (mark_extent more) _ (ne_eqb y 34 n) ∙ cond-false (inside y) (further 1 (quoted_extent more)) (Err (Offends 0)) i)
    ∙ ap (λ n. Err (Offends n)) (omega arith)

mark_stuck : {bs : List ℕ} (y : ℕ) (more : List ℕ) → Inside bs → (y ≡ 34 → ⊥) → stops (y ∷ more) ≡ false → quoted_extent (bs ++ 34 ∷ y ∷ more) ≡ Err (Offends (suc (length bs)))
mark_stuck {bs} y more l n s =
    inside_prefix (34 ∷ y ∷ more) l
    ∙ ap (further (length bs)) (cond-false (eqb y 34) (further 2 (quoted_extent more)) _ (ne_eqb y 34 n) ∙ cond-false (stops (y ∷ more)) (Ok 0) (Err (Offends 1)) s)
    ∙ ap (λ n. Err (Offends n)) (omega arith)

-- a byte that stopped nothing in one text stops something in another only if it is a CR, and an LF follows
stopped : (y : ℕ) (rest more : List ℕ) → stops (y ∷ rest) ≡ false → stops (y ∷ more) ≡ true → (y ≡ 13) × (begins_with_lf more ≡ true)
stopped y rest more f t =
    let c = or_parts (eqb y 44) (eqb y 13 && begins_with_lf rest) f in
    ⊎_elim
    (λ h. absurd (both_ways (eqb y 44) c.0 h))
    (λ h. let p = and_parts (eqb y 13) (begins_with_lf more) h in (eqb-true y 13 p.0, p.1))
    (or_cases (eqb y 44) (eqb y 13 && begins_with_lf more) t)

cr_alone : (y : ℕ) (rest : List ℕ) → stops (y ∷ rest) ≡ false → y ≡ 13 → begins_with_lf rest ≡ false
cr_alone y rest f e =
    let c = or_parts (eqb y 44) (eqb y 13 && begins_with_lf rest) f in
    ⊎_elim (λ h. absurd (both_ways (eqb y 13) h (eq-eqb y 13 e))) (λ h. h) (and_cases (eqb y 13) (begins_with_lf rest) c.1)

-- What the byte n of a spoilt field, the text's byte p, does.
pub record Spoils (tail : List ℕ) (n : ℕ) : Type 0 where
  pub within : n < length tail
  pub ends : (f : FieldText) × (more : List ℕ) × Lawful f × (take n tail ++ more ≡ written f)
  pub here : (more : List ℕ) → (read_field (take (suc n) tail ++ more) ≡ faulty not_allowed n) ⊎ ((get_or tail n 0 ≡ 13) × (begins_with_lf more ≡ true))
  pub alone : get_or tail n 0 ≡ 13 → begins_with_lf (drop (suc n) tail) ≡ false

at_byte : (xs : List ℕ) (n : ℕ) (more : List ℕ) → n < length xs → take (suc n) xs ++ more ≡ take n xs ++ (get_or xs n 0 ∷ more)
at_byte xs n more h = ap (λ l. l ++ more) (take-suc xs n 0 h) ∙ append_assoc (take n xs) (get_or xs n 0 ∷ []) more

same_first : (xs : List ℕ) (n : ℕ) (more : List ℕ) → n < length xs → get_or (take (suc n) xs ++ more) 0 0 ≡ get_or xs 0 0
same_first [] n more h = absurd (omega arith)
same_first (x ∷ xs) n more h = refl

plain_spoils : (tail : List ℕ) (n : ℕ) → (get_or tail 0 0 ≡ 34 → ⊥) → PlainOffends tail n → Spoils tail n
plain_spoils tail n m o =
    let y = get_or tail n 0 in
    let h = o.within in
    let size = length-take-le n tail (omega arith) in
    let stuck : stops (y ∷ drop (suc n) tail) ≡ false = ap stops (sym (drop-cons tail n 0 h)) ∙ o.stuck in
    record {
      within = h;
      ends = (plainly (take n tail), [], o.bytes, append-nil (take n tail));
      here = λ more.
          ⊎_elim
          (λ t. inr (stopped y (drop (suc n) tail) more stuck t))
          (λ f. inl (
          reads_plain (take (suc n) tail ++ more) (ne_eqb _ 34 (λ e. m (sym (same_first tail n more h) ∙ e)))
          ∙ ap (as_plain (take (suc n) tail ++ more)) (ap plain_extent (at_byte tail n more h) ∙ plain_stuck (take n tail) y more o.bytes o.other f)
          ∙ ap (faulty not_allowed) size))
          (cases_Bool (stops (y ∷ more)));
      alone = cr_alone y (drop (suc n) tail) stuck;
    }

quotes_spoil : (xs : List ℕ) (n : ℕ) → InsideOffends xs n → Spoils (34 ∷ xs) (suc n)
quotes_spoil xs n o =
    let y = get_or xs n 0 in
    let h = o.within in
    let size = length-take-le n xs (omega arith) in
    record {
      within = omega arith;
      ends = (quoted (take n xs), 34 ∷ [], o.bytes, refl);
      here = λ more. inl (
          ap (as_quoted (take (suc n) xs ++ more)) (ap quoted_extent (at_byte xs n more h) ∙ inside_stuck y more o.bytes o.other o.no_mark)
          ∙ ap (faulty not_allowed) (omega (arith, size)));
      alone = λ e. let t : inside y ≡ true = ap inside e in absurd (both_ways (inside y) o.other t);
    }

mark_spoils : (xs : List ℕ) (n : ℕ) → MarkOffends xs n → Spoils (34 ∷ xs) (suc (suc n))
mark_spoils xs n o =
    let y = get_or xs (suc n) 0 in
    let h = o.within in
    let size = length-take-le n xs (omega arith) in
    let stuck : stops (y ∷ drop (suc (suc n)) xs) ≡ false = ap stops (sym (drop-cons xs (suc n) 0 h)) ∙ o.stuck in
    let mark : take (suc n) xs ≡ take n xs ++ 34 ∷ [] = take-suc xs n 0 (omega arith) ∙ ap (λ b. take n xs ++ b ∷ []) o.mark in
    record {
      within = omega arith;
      ends = (quoted (take n xs), [], o.bytes, append-nil (34 ∷ take (suc n) xs) ∙ ap (λ l. 34 ∷ l) mark);
      here = λ more.
          ⊎_elim
          (λ t. inr (stopped y (drop (suc (suc n)) xs) more stuck t))
          (λ f. inl (
          ap (as_quoted (take (suc (suc n)) xs ++ more)) (
          ap quoted_extent (at_byte xs (suc n) more h ∙ ap (λ l. l ++ y ∷ more) mark ∙ append_assoc (take n xs) (34 ∷ []) (y ∷ more))
          ∙ mark_stuck y more o.bytes o.no_mark f)
          ∙ ap (faulty not_allowed) (omega (arith, size))))
          (cases_Bool (stops (y ∷ more)));
      alone = cr_alone y (drop (suc (suc n)) xs) stuck;
    }

pub spoils : (tail : List ℕ) (n : ℕ) → Spoilt tail not_allowed n → Spoils tail n
spoils tail n (in_plain m o) = plain_spoils tail n m o
spoils _ _ (in_quotes {xs} {n} o) = quotes_spoil xs n o
spoils _ _ (behind_mark {xs} {n} o) = mark_spoils xs n o

take_front : (xs ys : List ℕ) (n : ℕ) → take (length xs + n) (xs ++ ys) ≡ xs ++ take n ys
take_front [] ys n = ap (λ k. take k ys) (zero-add n)
take_front (x ∷ xs) ys n = ap (λ k. take k (x ∷ (xs ++ ys))) (suc-add (length xs) n) ∙ ap (λ l. x ∷ l) (take_front xs ys n)

drop_front : (xs ys : List ℕ) (n : ℕ) → drop (length xs + n) (xs ++ ys) ≡ drop n ys
drop_front xs ys n = sym (drop-drop n (length xs) (xs ++ ys)) ∙ ap (drop n) (drop_at xs ys (length xs) refl)

after : (F tail more : List ℕ) (k n : ℕ) → k ≡ length F + n → take k (F ++ tail) ++ more ≡ F ++ (take n tail ++ more)
after F tail more k n e = ap (λ i. take i (F ++ tail) ++ more) e ∙ ap (λ l. l ++ more) (take_front F tail n) ∙ append_assoc F (take n tail) more

offends : (front : List FieldText) (tail : List ℕ) (n : ℕ) → AllLawful front → Spoils tail n → laws.Offends (with_commas front ++ tail) (length (with_commas front) + n)
offends front tail n l s =
    let F = with_commas front in
    let byte : get_or (F ++ tail) (length F + n) 0 ≡ get_or tail n 0 = get_or-append-add F tail n 0 in
    record {
      within = omega (arith, s.within, length-append F tail);
      before = (s.ends.1, whole_line front s.ends.0 _ l s.ends.2 (after F tail s.ends.1 (length F + n) n refl ∙ ap (λ x. F ++ x) s.ends.3));
      here = λ more h.
          ⊎_elim
          (λ e. absurd (spoilt_line front (take (suc n) tail ++ more) not_allowed n l e (subst laws.HasLine (after F tail more (suc (length F + n)) (suc n) (omega arith)) h)))
          (λ c. (byte ∙ c.0, c.1))
          (s.here more);
      alone = λ e. ap begins_with_lf (ap (λ k. drop k (F ++ tail)) (sym (add-suc (length F) n)) ∙ drop_front F tail (suc n)) ∙ s.alone (sym byte ∙ e);
    }

-- An open field is closed only by a mark.

abbrev closes : Extent → Bool
closes (Ok n) = true
closes (Err (Offends n)) = false
closes (Err (Runs n)) = false

closes_further : (k : ℕ) (e : Extent) → closes (further k e) ≡ closes e
closes_further k (Ok n) = refl
closes_further k (Err (Offends n)) = refl
closes_further k (Err (Runs n)) = refl

abbrev HasMark : List ℕ → Type 0
HasMark more = (i : ℕ) × (i < length more) × (get_or more i 0 ≡ 34)

mark_or_open : (more : List ℕ) → HasMark more ⊎ (closes (quoted_extent more) ≡ false)
mark_or_open [] = inr refl
mark_or_open (b ∷ bs) =
    let other = cond (inside b) (further 1 (quoted_extent bs)) (Err (Offends 0)) in
    ⊎_elim
    (λ h. inl (0, omega arith, eqb-true b 34 h))
    (λ h.
    ⊎_elim
    (λ m. inl (suc m.0, omega (arith, m.1), m.2))
    (λ o. inr (
    ap closes (cond-false (eqb b 34) (mark_extent bs) other h)
    ∙ ⊎_elim
    (λ i. ap closes (cond-true (inside b) (further 1 (quoted_extent bs)) (Err (Offends 0)) i) ∙ closes_further 1 (quoted_extent bs) ∙ o)
    (λ i. ap closes (cond-false (inside b) (further 1 (quoted_extent bs)) (Err (Offends 0)) i))
    (cases_Bool (inside b))))
    (mark_or_open bs))
    (cases_Bool (eqb b 34))

open_faulty : (bs : List ℕ) (e : Extent) → closes e ≡ false → (w : Wrong) × (n : ℕ) × (as_quoted bs e ≡ faulty w n)
open_faulty bs (Ok n) h = absurd (both_ways true h refl)
open_faulty bs (Err (Offends n)) h = (not_allowed, 1 + n, refl)
open_faulty bs (Err (Runs n)) h = (unclosed, 1 + n, refl)

unclosed_at : (front : List FieldText) (xs : List ℕ) → AllLawful front → Inside xs → laws.Unclosed (with_commas front ++ 34 ∷ xs) (length (with_commas front) + suc (length xs))
unclosed_at front xs l i =
    let F = with_commas front in
    record {
      end = sym (length-append F (34 ∷ xs));
      before = (34 ∷ [], whole_line front (quoted xs) _ l i (append_assoc F (34 ∷ xs) (34 ∷ [])));
      here = λ more h.
          ⊎_elim
          (λ m. m)
          (λ o.
          let open_still : closes (quoted_extent (xs ++ more)) ≡ false = ap closes (inside_prefix more i) ∙ closes_further (length xs) (quoted_extent more) ∙ o in
          let f = open_faulty (xs ++ more) (quoted_extent (xs ++ more)) open_still in
          absurd (spoilt_line front (34 ∷ (xs ++ more)) f.0 f.1 l f.2 (subst laws.HasLine (append_assoc F (34 ∷ xs) more) h)))
          (mark_or_open more);
    }

because : (front : List FieldText) (tail : List ℕ) (w : Wrong) (n : ℕ) → AllLawful front → Spoilt tail w n → laws.Because w (with_commas front ++ tail) (length (with_commas front) + n)
because front tail not_allowed n l s = offends front tail n l (spoils tail n s)
because front tail unclosed n l s = open_one tail n s
  where
    open_one : (tail : List ℕ) (n : ℕ) → Spoilt tail unclosed n → laws.Unclosed (with_commas front ++ tail) (length (with_commas front) + n)
    open_one _ _ (open_end {xs} i) = unclosed_at front xs l i

means : (text : List ℕ) (r : LineRead) → LineTells text r → laws.Means text r
means text (cut front last rest) t = t
means text (damaged front w n) t =
    let spoilt = subst (Tells t.tail) t.spoilt (field_tells t.tail) in
    record {
      tail = t.tail;
      split = t.split;
      lawful = t.lawful;
      no_more = λ f rest l e.
          let a = t.spoilt in
          let b : read_field t.tail ≡ whole f = ap read_field e ∙ field_reads f (44 ∷ rest) l refl in
          cc;
      because = subst (λ x. laws.Because w x (length (with_commas front) + n)) (sym t.split) (because front t.tail w n t.lawful spoilt);
    }

pub agrees : (text : List ℕ) → laws.Agrees text
agrees text = record { means = means text (read_line text) (line_tells text); reads = derived_reads text }

-- The first line end.

no_line_end_cons : (b : ℕ) (bs : List ℕ) → (eqb b 13 && begins_with_lf bs) ≡ false → laws.NoLineEnd bs → laws.NoLineEnd (b ∷ bs)
no_line_end_cons b bs h none [] rest e =
    let x : b ≡ 13 = cc in
    let y : bs ≡ 10 ∷ rest = cc in
    let lf : begins_with_lf bs ≡ true = ap begins_with_lf y in
    both_ways (eqb b 13 && begins_with_lf bs) h (ap (λ t. t && begins_with_lf bs) (eq-eqb b 13 x) ∙ lf)
no_line_end_cons b bs h none (c ∷ front) rest e = let y : bs ≡ front ++ 13 ∷ 10 ∷ rest = cc in none front rest y

none_in_nothing : laws.NoLineEnd []
none_in_nothing [] rest e = cc
none_in_nothing (c ∷ front) rest e = cc

none_in_cr : laws.NoLineEnd (13 ∷ [])
none_in_cr = no_line_end_cons 13 [] refl none_in_nothing

same_lf : (front rest : List ℕ) → begins_with_lf (front ++ 13 ∷ []) ≡ begins_with_lf (front ++ 13 ∷ 10 ∷ rest)
same_lf [] rest = refl
same_lf (c ∷ front) rest = refl

resumes_cons : (b : ℕ) (bs rest : List ℕ) → (eqb b 13 && begins_with_lf bs) ≡ false → Resumes bs rest → Resumes (b ∷ bs) rest
resumes_cons b bs rest h (behind_first front e none) =
    behind_first (b ∷ front) (ap (λ l. b ∷ l) e) (no_line_end_cons b (front ++ 13 ∷ []) (ap (λ t. eqb b 13 && t) (same_lf front rest ∙ sym (ap begins_with_lf e)) ∙ h) none)
resumes_cons b bs _ h (at_end none) = at_end (no_line_end_cons b bs h none)

pub resumes : (text : List ℕ) → Resumes text (behind_line_end text)
resumes [] = at_end none_in_nothing
resumes (b ∷ bs) =
    cond_both (eqb b 13 && begins_with_lf bs) (drop 1 bs) (behind_line_end bs) (Resumes (b ∷ bs))
    (λ h.
    let p = and_parts (eqb b 13) (begins_with_lf bs) h in
    behind_first [] (ap (λ x. x ∷ bs) (eqb-true b 13 p.0) ∙ ap (λ x. 13 ∷ x) (after_lf bs p.1)) none_in_cr)
    (λ h. resumes_cons b bs (behind_line_end bs) h (resumes bs))
