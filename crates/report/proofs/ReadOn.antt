-- How far `read_all` has come. Assumes nothing.
use Rattle.std.proofs.Common.{◌≡◌, ℕ, ◌+◌, ◌<◌, List, [], ◌∷◌, ◌++◌, map, length, drop, Some, None, Option, Result, sym, refl, ap, ◌∙◌, append-nil, arith}
use Rattle.std.specs.Bool.{⊤}
use Rattle.std.specs.Iterator.{Yields, YieldsThen, MakesProgress, at_most}
use Rattle.report.specs.declared.columns.Report.{Report}
use Rattle.report.specs.declared.faults.LineFault.{LineFault}
use Rattle.report.specs.declared.reader.Reader.{Reader}
use Rattle.domain.specs.declared.width.Width.{Width}
use Rattle.report.specs.Lines.{Outcome, told, outcome, left, size, outcomes_behind, outcomes}
use Rattle.report.specs.Readers.{unread, next, lines_more, Begun, Behind, Gives}
use Rattle.report.proofs.Advance.{advances}
use Rattle.report.proofs.Wholes.{behind_more}

-- what the reader has still to tell
abbrev to_come : Reader → List Outcome
to_come r = outcomes_behind (length (unread r)) r.width.count r.lines r.place (unread r)

-- one more line
record Step (width lines bytes : ℕ) (xs : List ℕ) (o : Outcome) : Type 0 where
  counts : lines_more xs ≡ 1
  shorter : length (left xs) < length xs
  goes : outcomes_behind (length xs) width lines bytes xs ≡ o ∷ outcomes_behind (length (left xs)) width (lines + 1) (bytes + size xs) (left xs)

step : (width lines bytes : ℕ) (xs : List ℕ) (o : Outcome) → Some o ≡ next width lines bytes xs → Step width lines bytes xs o
step width lines bytes [] o e = let z : ◌≡◌ {A = ℕ} 0 1 = cc in absurd (omega arith)
step width lines bytes (b ∷ bs) o e =
    let same : o ≡ outcome width (lines + 1) bytes (b ∷ bs) = cc in
    record {
      counts = refl;
      shorter = (advances (b ∷ bs)).shorter (omega arith);
      goes = behind_more width lines bytes b bs ∙ ap (λ x. x ∷ outcomes_behind (length (left (b ∷ bs))) width (lines + 1) (bytes + size (b ∷ bs)) (left (b ∷ bs))) (sym same);
    }

ended : (width lines bytes : ℕ) (xs : List ℕ) → None ≡ next width lines bytes xs → xs ≡ []
ended width lines bytes [] e = refl
ended width lines bytes (b ∷ bs) e = let z : ◌≡◌ {A = ℕ} 0 1 = cc in absurd (omega arith)

-- a reader that told something has less to tell
pub falls : (r t : Reader) (o : Result Report LineFault) → Some (told o) ≡ next r.width.count r.lines r.place (unread r) → Behind r t → length (unread t) < length (unread r)
falls r t o e b =
    let one = (step r.width.count r.lines r.place (unread r) (told o) e).shorter in
    omega (arith, ap length b.unread)

-- what each call gives is the first of what was still to tell
tells : (r t : Reader) (o : Result Report LineFault) → Gives r (Some o) t → to_come r ≡ told o ∷ to_come t
tells r t o g =
    let b = g.behind in
    let one = step r.width.count r.lines r.place (unread r) (told o) g.answer in
    let lines : t.lines ≡ r.lines + 1 = b.lines ∙ ap (λ n. r.lines + n) one.counts in
    let rest : to_come t ≡ outcomes_behind (length (left (unread r))) r.width.count (r.lines + 1) (r.place + size (unread r)) (left (unread r)) =
    λ i. outcomes_behind (length (b.unread i)) (b.width i).count (lines i) (b.place i) (b.unread i) in
    one.goes ∙ ap (λ l. told o ∷ l) (sym rest)

told_by : (r t : Reader) (all : List (Result Report LineFault)) → Yields Gives r all t → map told all ++ to_come t ≡ to_come r
told_by r t [] e = ap to_come (sym e)
told_by r t (o ∷ os) (j, g, y) = ap (λ l. told o ∷ l) (told_by j t os y) ∙ sym (tells r j o g)

none_to_come : (r t : Reader) → Gives r None t → to_come r ≡ []
none_to_come r t g =
    ap (λ xs. outcomes_behind (length xs) r.width.count r.lines r.place xs) (ended r.width.count r.lines r.place (unread r) g.answer)

-- what a reader gives up to its end
pub told_all : (text : List ℕ) (width : Width) (r u : Reader) (all : List (Result Report LineFault)) → Begun text width r → YieldsThen Gives r all None u → map told all ≡ outcomes width.count text
told_all text width r u all b (t, y, g) =
    sym (append-nil (map told all)) ∙ ap (λ l. map told all ++ l) (sym (none_to_come t u g)) ∙ told_by r t all y
    ∙ (λ i. outcomes_behind (length (here i)) (b.width i).count (b.lines i) (b.place i) (here i))
  where
    here : unread r ≡ text
    here = λ i. drop (b.place i) (b.text i)

-- the reader goes on, with less to tell after each line
pub goes : (r t : Reader) (o : Option (Result Report LineFault)) → Gives r o t → MakesProgress (λ _. ⊤) (λ x. at_most (length (unread x))) r o t
goes r t None g = record { on = λ _. tt; keeps = tt; rests = λ h. h }
goes r t (Some o) g = record { on = λ h. (tt, h, falls r t o g.answer g.behind); keeps = tt; rests = λ _. tt }
