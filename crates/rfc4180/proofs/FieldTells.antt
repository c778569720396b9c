-- What reading a field tells of the text at whose front it stands, and back. Assumes nothing.
use Rattle.std.proofs.Common.{◌≡◌, ℕ, suc, ◌≤◌, true, eqb, List, [], ◌∷◌, ◌++◌, length, get_or, take, drop, sym, refl, ap, ◌∙◌, subst, ⊎_elim, append_assoc, one-add, arith, length-append, take-append-drop, drop-cons, Ok, Err}
use Rattle.std.proofs.lemmas.List.{length-take-le}
use Rattle.std.proofs.lemmas.Bool.{cond_both, eqb-true, eqb-false}
use Rattle.rfc4180.specs.declared.fields.RunFault.TheVariants.{Offends, Runs}
use Rattle.rfc4180.specs.Grammar.{FieldText, quoted, Inside, Lawful, written}
use Rattle.rfc4180.specs.Reading.{Extent, stops, plain_extent, quoted_extent, Wrong, not_allowed, unclosed, FieldRead, whole, faulty, as_plain, as_quoted, read_field}
use Rattle.rfc4180.proofs.Tells.{PlainTells, PlainOffends, plain_tells, QuotedTells, InsideOffends, MarkOffends, quoted_tells}

-- a lawful field stands at the front of text, and may end there
pub record Stands (text : List ℕ) (f : FieldText) : Type 0 where
  pub split : text ≡ written f ++ drop (length (written f)) text
  pub lawful : Lawful f
  pub stop : stops (drop (length (written f)) text) ≡ true

-- no field stands at the front of text, and the byte at n is why
pub data Spoilt : List ℕ → Wrong → ℕ → Type 0 where
  in_plain : {text : List ℕ} {n : ℕ} → (get_or text 0 0 ≡ 34 → ⊥) → PlainOffends text n → Spoilt text not_allowed n
  in_quotes : {xs : List ℕ} {n : ℕ} → InsideOffends xs n → Spoilt (34 ∷ xs) not_allowed (suc n)
  behind_mark : {xs : List ℕ} {n : ℕ} → MarkOffends xs n → Spoilt (34 ∷ xs) not_allowed (suc (suc n))
  open_end : {xs : List ℕ} → Inside xs → Spoilt (34 ∷ xs) unclosed (suc (length xs))

abbrev pub Tells : List ℕ → FieldRead → Type 0
Tells text (whole f) = Stands text f
Tells text (faulty w n) = Spoilt text w n

as_plain_tells : (text : List ℕ) (e : Extent) → (get_or text 0 0 ≡ 34 → ⊥) → PlainTells text e → Tells text (as_plain text e)
as_plain_tells text (Ok n) h t =
    let size = length-take-le n text t.within in
    record {
      split = sym (ap (λ k. take n text ++ drop k text) size ∙ take-append-drop n text);
      lawful = t.bytes;
      stop = ap (λ k. stops (drop k text)) size ∙ t.stop;
    }
as_plain_tells text (Err (Offends n)) h t = in_plain h t
as_plain_tells text (Err (Runs n)) h t = absurd t

size_quoted : (xs : List ℕ) (n : ℕ) → n ≤ length xs → length (written (quoted (take n xs))) ≡ suc (suc n)
size_quoted xs n h = let size = length-take-le n xs h in simp length-append (omega arith)

as_quoted_tells : (xs : List ℕ) (e : Extent) → QuotedTells xs e → Tells (34 ∷ xs) (as_quoted xs e)
as_quoted_tells xs (Ok n) t =
    let size = size_quoted xs n (omega (arith, t.within)) in
    let within = t.within in
    let mark : drop n xs ≡ 34 ∷ drop (suc n) xs = drop-cons xs n 0 within ∙ ap (λ b. b ∷ drop (suc n) xs) t.mark in
    record {
      split = ap (λ l. 34 ∷ l) (sym (append_assoc (take n xs) (34 ∷ []) (drop (suc n) xs) ∙ ap (λ l. take n xs ++ l) (sym mark) ∙ take-append-drop n xs)) ∙ ap (λ k. written (quoted (take n xs)) ++ drop k (34 ∷ xs)) (sym size);
      lawful = t.bytes;
      stop = ap (λ k. stops (drop k (34 ∷ xs))) size ∙ t.stop;
    }
as_quoted_tells xs (Err (Offends n)) t =
    subst (Spoilt (34 ∷ xs) not_allowed) (sym (one-add n))
    (⊎_elim (λ o. in_quotes o) (λ o. subst (λ k. Spoilt (34 ∷ xs) not_allowed (suc k)) (sym o.1) (behind_mark o.2)) t)
as_quoted_tells xs (Err (Runs n)) t = subst (Spoilt (34 ∷ xs) unclosed) (ap suc (sym t.0) ∙ sym (one-add n)) (open_end t.1)

pub field_tells : (text : List ℕ) → Tells text (read_field text)
field_tells [] = record { split = refl; lawful = tt; stop = refl }
field_tells (b ∷ bs) =
    let as_q = as_quoted bs (quoted_extent bs) in
    cond_both (eqb b 34) as_q (as_plain (b ∷ bs) (plain_extent (b ∷ bs))) (Tells (b ∷ bs))
    (λ h. subst (λ x. Tells (x ∷ bs) as_q) (sym (eqb-true b 34 h)) (as_quoted_tells bs (quoted_extent bs) (quoted_tells bs)))
    (λ h. as_plain_tells (b ∷ bs) (plain_extent (b ∷ bs)) (eqb-false b 34 h) (plain_tells (b ∷ bs)))
