-- What the extent of a field tells of the bytes that it goes over. Assumes nothing.
use Rattle.std.proofs.Common.{◌≡◌, ℕ, suc, ◌+◌, ◌<◌, ◌≤◌, true, false, cond, eqb, ◌⊎◌, List, [], ◌∷◌, length, get_or, take, drop, sym, refl, subst, inl, inr, ⊎_elim, one-add, arith, Ok, Err}
use Rattle.std.proofs.lemmas.Bool.{cond_both, eqb-true, eqb-false}
use Rattle.rfc4180.specs.declared.fields.RunFault.TheVariants.{Offends, Runs}
use Rattle.rfc4180.specs.Grammar.{plain, inside, Plain, Inside, empty, one, doubled}
use Rattle.rfc4180.specs.Reading.{Extent, stops, further, plain_extent, quoted_extent, mark_extent}

-- the bytes before n are those of a plain field, which ends before what is behind them
pub record PlainEnds (xs : List ℕ) (n : ℕ) : Type 0 where
  pub bytes : Plain (take n xs)
  pub within : n ≤ length xs
  pub stop : stops (drop n xs) ≡ true

pub record PlainOffends (xs : List ℕ) (n : ℕ) : Type 0 where
  pub bytes : Plain (take n xs)
  pub within : n < length xs
  pub other : plain (get_or xs n 0) ≡ false
  pub stuck : stops (drop n xs) ≡ false

abbrev pub PlainTells : List ℕ → Extent → Type 0
PlainTells xs (Ok n) = PlainEnds xs n
PlainTells xs (Err (Offends n)) = PlainOffends xs n
PlainTells xs (Err (Runs n)) = ⊥

one_more : (P : ℕ → Type 0) (n : ℕ) → P (suc n) → P (1 + n)
one_more P n h = subst P (sym (one-add n)) h

two_more : (P : ℕ → Type 0) (n : ℕ) → P (suc (suc n)) → P (2 + n)
two_more P n h = subst P (omega arith) h

plain_one : (b : ℕ) (bs : List ℕ) (e : Extent) → plain b ≡ true → PlainTells bs e → PlainTells (b ∷ bs) (further 1 e)
plain_one b bs (Ok n) h t = one_more (PlainEnds (b ∷ bs)) n (record { bytes = (h, t.bytes); within = omega (arith, t.within); stop = t.stop })
plain_one b bs (Err (Offends n)) h t = one_more (PlainOffends (b ∷ bs)) n (record { bytes = (h, t.bytes); within = omega (arith, t.within); other = t.other; stuck = t.stuck })
plain_one b bs (Err (Runs n)) h t = t

pub plain_tells : (xs : List ℕ) → PlainTells xs (plain_extent xs)
plain_tells [] = record { bytes = tt; within = omega arith; stop = refl }
plain_tells (b ∷ bs) =
    cond_both (plain b) (further 1 (plain_extent bs)) (cond (stops (b ∷ bs)) (Ok 0) (Err (Offends 0))) (PlainTells (b ∷ bs))
    (λ h. plain_one b bs (plain_extent bs) h (plain_tells bs))
    (λ h.
    cond_both (stops (b ∷ bs)) (Ok 0) (Err (Offends 0)) (PlainTells (b ∷ bs))
    (λ s. record { bytes = tt; within = omega arith; stop = s })
    (λ s. record { bytes = tt; within = omega arith; other = h; stuck = s }))

-- behind an opening mark: the bytes before n are the inside, the mark at n closes it
pub record QuotedEnds (xs : List ℕ) (n : ℕ) : Type 0 where
  pub bytes : Inside (take n xs)
  pub within : n < length xs
  pub mark : get_or xs n 0 ≡ 34
  pub stop : stops (drop (suc n) xs) ≡ true

-- a byte that may not stand inside
pub record InsideOffends (xs : List ℕ) (n : ℕ) : Type 0 where
  pub bytes : Inside (take n xs)
  pub within : n < length xs
  pub other : inside (get_or xs n 0) ≡ false
  pub no_mark : get_or xs n 0 ≡ 34 → ⊥

-- a byte that may not stand behind the closing mark
pub record MarkOffends (xs : List ℕ) (n : ℕ) : Type 0 where
  pub bytes : Inside (take n xs)
  pub within : suc n < length xs
  pub mark : get_or xs n 0 ≡ 34
  pub no_mark : get_or xs (suc n) 0 ≡ 34 → ⊥
  pub stuck : stops (drop (suc n) xs) ≡ false

abbrev pub QuotedTells : List ℕ → Extent → Type 0
QuotedTells xs (Ok n) = QuotedEnds xs n
QuotedTells xs (Err (Offends n)) = InsideOffends xs n ⊎ ((m : ℕ) × (n ≡ suc m) × MarkOffends xs m)
QuotedTells xs (Err (Runs n)) = (n ≡ length xs) × Inside xs

quoted_one : (b : ℕ) (bs : List ℕ) (e : Extent) → inside b ≡ true → QuotedTells bs e → QuotedTells (b ∷ bs) (further 1 e)
quoted_one b bs (Ok n) h t = one_more (QuotedEnds (b ∷ bs)) n (record { bytes = one h t.bytes; within = omega (arith, t.within); mark = t.mark; stop = t.stop })
quoted_one b bs (Err (Offends n)) h t =
    ⊎_elim
    (λ o. inl (one_more (InsideOffends (b ∷ bs)) n (record { bytes = one h o.bytes; within = omega (arith, o.within); other = o.other; no_mark = o.no_mark })))
    (λ o. inr (suc o.0, omega arith, record { bytes = one h o.2.bytes; within = omega (arith, o.2.within); mark = o.2.mark; no_mark = o.2.no_mark; stuck = o.2.stuck }))
    t
quoted_one b bs (Err (Runs n)) h t = (omega arith, one h t.1)

quoted_two : (bs : List ℕ) (e : Extent) → QuotedTells bs e → QuotedTells (34 ∷ 34 ∷ bs) (further 2 e)
quoted_two bs (Ok n) t = two_more (QuotedEnds (34 ∷ 34 ∷ bs)) n (record { bytes = doubled refl refl t.bytes; within = omega (arith, t.within); mark = t.mark; stop = t.stop })
quoted_two bs (Err (Offends n)) t =
    ⊎_elim
    (λ o. inl (two_more (InsideOffends (34 ∷ 34 ∷ bs)) n (record { bytes = doubled refl refl o.bytes; within = omega (arith, o.within); other = o.other; no_mark = o.no_mark })))
    (λ o. inr (suc (suc o.0), omega arith, record { bytes = doubled refl refl o.2.bytes; within = omega (arith, o.2.within); mark = o.2.mark; no_mark = o.2.no_mark; stuck = o.2.stuck }))
    t
quoted_two bs (Err (Runs n)) t = (omega arith, doubled refl refl t.1)

same_first : (b : ℕ) (bs : List ℕ) (e : Extent) → eqb b 34 ≡ true → QuotedTells (34 ∷ bs) e → QuotedTells (b ∷ bs) e
same_first b bs e h t = subst (λ x. QuotedTells (x ∷ bs) e) (sym (eqb-true b 34 h)) t

within_marks : (b : ℕ) (bs : List ℕ) → (b ≡ 34 → ⊥) → QuotedTells bs (quoted_extent bs) → QuotedTells (b ∷ bs) (cond (inside b) (further 1 (quoted_extent bs)) (Err (Offends 0)))
within_marks b bs n t =
    cond_both (inside b) (further 1 (quoted_extent bs)) (Err (Offends 0)) (QuotedTells (b ∷ bs))
    (λ h. quoted_one b bs (quoted_extent bs) h t)
    (λ h. inl (record { bytes = empty; within = omega arith; other = h; no_mark = n }))

closed : (b : ℕ) (bs : List ℕ) → (b ≡ 34 → ⊥) → QuotedTells (34 ∷ b ∷ bs) (cond (stops (b ∷ bs)) (Ok 0) (Err (Offends 1)))
closed b bs n =
    cond_both (stops (b ∷ bs)) (Ok 0) (Err (Offends 1)) (QuotedTells (34 ∷ b ∷ bs))
    (λ s. record { bytes = empty; within = omega arith; mark = refl; stop = s })
    (λ s. inr (0, refl, record { bytes = empty; within = omega arith; mark = refl; no_mark = n; stuck = s }))

mutual
  pub quoted_tells : (xs : List ℕ) → QuotedTells xs (quoted_extent xs)
  quoted_tells [] = (refl, empty)
  quoted_tells (b ∷ bs) =
      cond_both (eqb b 34) (mark_extent bs) (cond (inside b) (further 1 (quoted_extent bs)) (Err (Offends 0))) (QuotedTells (b ∷ bs))
      (λ h. same_first b bs (mark_extent bs) h (mark_tells bs))
      (λ h. within_marks b bs (eqb-false b 34 h) (quoted_tells bs))

  mark_tells : (bs : List ℕ) → QuotedTells (34 ∷ bs) (mark_extent bs)
  mark_tells [] = record { bytes = empty; within = omega arith; mark = refl; stop = refl }
  mark_tells (b ∷ bs) =
      cond_both (eqb b 34) (further 2 (quoted_extent bs)) (cond (stops (b ∷ bs)) (Ok 0) (Err (Offends 1))) (QuotedTells (34 ∷ b ∷ bs))
      (λ h. subst (λ x. QuotedTells (34 ∷ x ∷ bs) (further 2 (quoted_extent bs))) (sym (eqb-true b 34 h)) (quoted_two bs (quoted_extent bs) (quoted_tells bs)))
      (λ h. closed b bs (eqb-false b 34 h))
