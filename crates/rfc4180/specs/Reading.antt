-- How the first line of a text is read, so that it computes. Laws.antt says that it is what the grammar derives.
-- Assumes nothing.
use Rattle.std.specs.Prelude.{Ok, Err, Result, ℕ, zero, suc, ◌+◌, Bool, true, false, cond, ◌&&◌, ◌||◌, List, [], ◌∷◌, length, take, drop, ◌==◌}
use Rattle.rfc4180.specs.declared.fields.RunFault.{RunFault}
use Rattle.rfc4180.specs.declared.fields.RunFault.TheVariants.{Offends, Runs}
use Rattle.rfc4180.specs.Grammar.{plain, inside, FieldText, plainly, quoted, written}

abbrev pub begins_with_lf : List ℕ → Bool
begins_with_lf [] = false
begins_with_lf (b ∷ bs) = b == 10

-- a field may end before these bytes: the text's end, a comma, CR LF
abbrev pub stops : List ℕ → Bool
stops [] = true
stops (b ∷ bs) = b == 44 || (b == 13 && begins_with_lf bs)

-- how far a field's bytes go, or why they end no field, and behind how many of them that shows
abbrev pub Extent : Type 0
Extent = Result ℕ RunFault

abbrev pub further : ℕ → Extent → Extent
further k (Ok n) = Ok (k + n)
further k (Err (Offends n)) = Err (Offends (k + n))
further k (Err (Runs n)) = Err (Runs (k + n))

abbrev pub size : Extent → ℕ
size (Ok n) = n
size (Err (Offends n)) = n
size (Err (Runs n)) = n

abbrev pub plain_extent : List ℕ → Extent
plain_extent [] = Ok 0
plain_extent (b ∷ bs) = cond (plain b) (further 1 (plain_extent bs)) (cond (stops (b ∷ bs)) (Ok 0) (Err (Offends 0)))

abbrev mutual
  -- behind an opening mark
  pub quoted_extent : List ℕ → Extent
  quoted_extent [] = Err (Runs 0)
  quoted_extent (b ∷ bs) = cond (b == 34) (mark_extent bs) (cond (inside b) (further 1 (quoted_extent bs)) (Err (Offends 0)))

  -- behind a second mark, which closes the field unless another follows
  pub mark_extent : List ℕ → Extent
  mark_extent [] = Ok 0
  mark_extent (b ∷ bs) = cond (b == 34) (further 2 (quoted_extent bs)) (cond (stops (b ∷ bs)) (Ok 0) (Err (Offends 1)))

pub data Wrong : Type 0 where
  not_allowed : Wrong
  unclosed : Wrong

-- a field, or what is wrong with it and how far from its first byte
pub data FieldRead : Type 0 where
  whole : FieldText → FieldRead
  faulty : Wrong → ℕ → FieldRead

abbrev pub as_plain : List ℕ → Extent → FieldRead
as_plain bs (Ok n) = whole (plainly (take n bs))
as_plain bs (Err (Offends n)) = faulty not_allowed n
as_plain bs (Err (Runs n)) = faulty unclosed n

abbrev pub as_quoted : List ℕ → Extent → FieldRead
as_quoted bs (Ok n) = whole (quoted (take n bs))
as_quoted bs (Err (Offends n)) = faulty not_allowed (1 + n)
as_quoted bs (Err (Runs n)) = faulty unclosed (1 + n)

-- the field at the front of a text
abbrev pub read_field : List ℕ → FieldRead
read_field [] = whole (plainly [])
read_field (b ∷ bs) = cond (b == 34) (as_quoted bs (quoted_extent bs)) (as_plain (b ∷ bs) (plain_extent (b ∷ bs)))

-- a line: the fields before its last one, that one, and what is behind the line's end; or a damaged line: the fields
-- before the faulty one, what is wrong with that, and how far from its first byte
pub data LineRead : Type 0 where
  cut : List FieldText → FieldText → List ℕ → LineRead
  damaged : List FieldText → Wrong → ℕ → LineRead

abbrev pub before : FieldText → LineRead → LineRead
before f (cut front last rest) = cut (f ∷ front) last rest
before f (damaged front w n) = damaged (f ∷ front) w n

-- a comma brings the next field, and anything else that a field stops before is the line's end
abbrev pub behind_field : (List ℕ → LineRead) → FieldText → List ℕ → LineRead
behind_field next f [] = cut [] f []
behind_field next f (b ∷ bs) = cond (b == 44) (before f (next bs)) (cut [] f (drop 1 bs))

abbrev pub after_field : (List ℕ → LineRead) → List ℕ → FieldRead → LineRead
after_field next text (whole f) = behind_field next f (drop (length (written f)) text)
after_field next text (faulty w n) = damaged [] w n

-- at most k fields
abbrev pub read_fields : ℕ → List ℕ → LineRead
read_fields zero text = damaged [] not_allowed 0
read_fields (suc k) text = after_field (read_fields k) text (read_field text)

-- the line at the front of a text: it has a field more than commas, so k is never used up
abbrev pub read_line : List ℕ → LineRead
read_line text = read_fields (suc (length text)) text

-- what is behind the first CR LF, or nothing
abbrev pub behind_line_end : List ℕ → List ℕ
behind_line_end [] = []
behind_line_end (b ∷ bs) = cond (b == 13 && begins_with_lf bs) (drop 1 bs) (behind_line_end bs)
