-- Examples by hand, of the definitions, and readings that they rule out. Assumes nothing.
use Rattle.std.specs.Prelude.{◌≡◌, ℕ, Bool, true, false, List, [], ◌∷◌, ◌++◌, map, take, ℤ, pos, negsuc, Some, None}
use Rattle.domain.specs.declared.range.Range.{Range}
use Rattle.domain.specs.Ranges.{span, point}
use Rattle.domain.specs.Meaning.{Meaning, join_of, loss_of}
use Rattle.domain.specs.Interval.{interval_meaning}
use Rattle.domain.specs.Pair.{pair_meaning}
use Rattle.taxonomy.specs.Examples.{eight, two_groups}
use Rattle.taxonomy.specs.Examples as taxonomies
use Rattle.release.specs.declared.Settings.{Settings}
use Rattle.release.specs.declared.Record.{Record}
use Rattle.release.specs.declared.Line.{Line}
use Rattle.release.specs.declared.Manner.{Manner}
use Rattle.release.specs.declared.Manner.TheVariants.{Released, Reused, Suppressed}
use Rattle.rules.specs.declared.refusals.OpenRefusal.TheVariants.{Width, Limits}
use Rattle.rules.specs.declared.refusals.Refusal.TheVariants.{Closed, Full, ShortList, Unfit}
use Rattle.rules.specs.declared.Entry.{Entry}
use Rattle.rules.specs.declared.Held.{Held}
use Rattle.rules.specs.Clusters.{Box, entered, members, box_of, raise}
use Rattle.rules.specs.States.{State, Kept, Boxes, start, holding, at_most_mean, below_mean, offered}
use Rattle.rules.specs.Arrival.{candidates, home}
use Rattle.rules.specs.Split.{parts}
use Rattle.rules.specs.Release.{entered_mean}
use Rattle.rules.specs.Turn.{large, covered, outnumbered, too_few, joining, rule, take_over, suppress}
use Rattle.rules.specs.Refusals.{open_refusal, feed_refusal}
use Rattle.rules.specs.Runs.{Call, feeding, closing, Answer, wrote, refused, lines_of, Exchange, step}

-- ---- words

-- widths 0 to 100 and eight models in two halves
abbrev pub machines : Meaning
machines = pair_meaning (interval_meaning 0 100) eight

abbrev pub settings : ℕ → ℕ → ℕ → ℕ → ℕ → Settings
settings k delta beta mu rho = record { k = k; delta = delta; beta = beta; mu = mu; rho = rho }

-- a record of an owner at a width, of model 2
abbrev pub of : ℕ → ℕ → ℤ → Record
of w v reading = record { owner = w; values = v ∷ 2 ∷ 0 ∷ 0 ∷ 0 ∷ 0 ∷ []; reading = reading }

abbrev pub fed : ℕ → ℕ → ℤ → Call
fed w v reading = feeding (of w v reading) 300

-- at that position
abbrev pub at : ℕ → ℕ → ℕ → Entry
at position w v = entered position (of w v (pos 0))

-- in the cluster of that label
abbrev pub inside : ℕ → Entry → Held
inside c e = record { entry = e; label = c }

abbrev pub with_held : List Held → State
with_held hs = holding start hs

-- the two ranges, and four unused
abbrev pub two : Range → Range → Box
two a b = a ∷ b ∷ point 0 ∷ point 0 ∷ point 0 ∷ point 0 ∷ []

-- of widths low to high
abbrev pub widths : ℕ → ℕ → Box
widths low high = two (span low high) (point 2)

abbrev pub shown : ℕ → ℤ → Manner → ℕ → Box → Line
shown position reading how number b = record { position = position; reading = reading; manner = how; number = number; ranges = b }

-- the exchanges of calls in order
abbrev pub played : Meaning → Settings → State → List Call → List Exchange
played m g s [] = []
played m g s (c ∷ cs) = let o = step m g s c in o.exchange ∷ played m g o.after cs

abbrev pub answers : List Exchange → List Answer
answers xs = map (λ x. x.got) xs

abbrev pub all_lines : List Exchange → List Line
all_lines [] = []
all_lines (x ∷ xs) = lines_of x.got ++ all_lines xs

-- the positions that had turns, call by call
abbrev pub turns : List Exchange → List (List ℕ)
turns xs = map (λ x. map (λ t. t.who.entry.position) x.turns) xs

-- ---- a whole run

abbrev pub eight_records : List Exchange
eight_records = played machines (settings 2 2 4 2 4) start
    (fed 1 10 (pos 5) ∷ fed 2 20 (negsuc 6) ∷ fed 3 12 (pos 0) ∷ fed 4 50 (pos 11) ∷ fed 5 21 (pos 3) ∷ fed 6 22 (pos 4) ∷ fed 7 90 (pos 9) ∷ fed 7 22 (pos 8) ∷ closing 300 ∷ [])

pub record RunExamples : Type 0 where
  pub lines : all_lines eight_records
      ≡ shown 1 (pos 5) Released 1 (widths 10 12) ∷ shown 3 (pos 0) Released 1 (widths 10 12)
      ∷ shown 2 (negsuc 6) Released 2 (widths 20 50) ∷ shown 4 (pos 11) Released 2 (widths 20 50)
      ∷ shown 5 (pos 3) Released 3 (widths 21 22) ∷ shown 6 (pos 4) Released 3 (widths 21 22)
      ∷ shown 7 (pos 9) Suppressed 0 (two (point 0) (point 0)) ∷ shown 8 (pos 8) Reused 3 (widths 21 22) ∷ []
  -- record 3 was released in the turn of record 1, and record 4 in that of record 2: they have none
  pub turns_taken : turns eight_records ≡ [] ∷ [] ∷ (1 ∷ []) ∷ (2 ∷ []) ∷ [] ∷ [] ∷ (5 ∷ []) ∷ [] ∷ (7 ∷ 8 ∷ []) ∷ []

-- ---- refusals

-- nothing is held after so many records
abbrev pub after_records : ℕ → Bool → State
after_records n closed = record { held = []; boxes = start.boxes; accepted = n; suppressed = 0; closed = closed }

pub record RefusalExamples : Type 0 where
  pub wide : open_refusal (pair_meaning (pair_meaning (pair_meaning machines machines) machines) eight) (settings 2 2 4 2 4) ≡ Some Width
  pub short_delay : open_refusal machines (settings 3 2 4 2 4) ≡ Some Limits
  pub lone : open_refusal machines (settings 1 2 4 2 4) ≡ Some Limits
  pub most : open_refusal machines (settings 32 255 64 32 64) ≡ None
  pub fewest : open_refusal machines (settings 2 2 1 1 1) ≡ None
  pub width_first : open_refusal (pair_meaning (pair_meaning (pair_meaning machines machines) machines) eight) (settings 1 2 4 2 4) ≡ Some Width
  -- each setting just past a limit
  pub past : map (open_refusal machines) (settings 33 255 64 32 64 ∷ settings 32 256 64 32 64 ∷ settings 32 255 0 32 64 ∷ settings 32 255 65 32 64 ∷ settings 32 255 64 0 64 ∷ settings 32 255 64 33 64 ∷ settings 32 255 64 32 0 ∷ settings 32 255 64 32 65 ∷ [])
      ≡ Some Limits ∷ Some Limits ∷ Some Limits ∷ Some Limits ∷ Some Limits ∷ Some Limits ∷ Some Limits ∷ Some Limits ∷ []
  -- full at 4,000,000,000 records, and not before; that is looked at before the list, and after whether the stream is closed
  pub full : feed_refusal machines (after_records 4000000000 false) (of 0 101 (pos 5)) 0 ≡ Some Full
  pub last : feed_refusal machines (after_records 3999999999 false) (of 1 10 (pos 5)) 1 ≡ None
  pub closed_first : feed_refusal machines (after_records 4000000000 true) (of 0 101 (pos 5)) 0 ≡ Some Closed
  -- a list of one place takes the first record, and no second; the list is looked at before the values, the owner before them
  pub in_turn : answers (played machines (settings 2 2 4 2 4) start
      (feeding (of 1 10 (pos 5)) 1 ∷ feeding (of 0 101 (pos 5)) 1 ∷ feeding (of 0 101 (pos 5)) 2 ∷ feeding (of 2 101 (pos 5)) 2 ∷ closing 0 ∷ closing 1 ∷ closing 0 ∷ feeding (of 0 101 (pos 5)) 0 ∷ []))
      ≡ wrote [] ∷ refused ShortList ∷ refused (Unfit 1) ∷ refused (Unfit 2) ∷ refused ShortList
      ∷ wrote (shown 1 (pos 5) Suppressed 0 (two (point 0) (point 0)) ∷ []) ∷ refused Closed ∷ refused Closed ∷ []

-- ---- arrival

-- two clusters at one width: the older of two owners, the younger of one
abbrev pub unequal : State
unequal = with_held (inside 1 (at 1 1 10) ∷ inside 1 (at 2 2 10) ∷ inside 3 (at 3 3 10) ∷ [])

pub record ArrivalExamples : Type 0 where
  -- raised least, though the other cluster would lose less
  pub raised_least : candidates machines (with_held (inside 1 (at 1 1 10) ∷ inside 1 (at 2 2 50) ∷ inside 3 (at 3 3 60) ∷ [])) (at 4 4 52) ≡ 1 ∷ []
  -- both are candidates, and the smaller takes the record, though the older counts as many owners with it as the younger
  pub equal_raise : candidates machines unequal (at 4 1 10) ≡ 1 ∷ 3 ∷ []
  pub smaller : home machines (settings 3 9 9 9 9) unequal (at 4 1 10) ≡ 3
  -- of equal sizes the oldest, though its opener has left
  pub oldest : home machines (settings 3 9 9 9 9) (with_held (inside 2 (at 2 2 10) ∷ inside 1 (at 3 3 10) ∷ [])) (at 4 1 10) ≡ 1
  -- before the first released box the mean is 0: a loss above it fits nowhere, and a new cluster is opened while there may be one more
  pub no_bound : at_most_mean [] 1 ≡ false
  pub no_loss : at_most_mean [] 0 ≡ true
  pub new : home machines (settings 3 9 2 9 9) (with_held (inside 1 (at 1 1 10) ∷ [])) (at 2 2 11) ≡ 2
  pub no_room : home machines (settings 3 9 1 9 9) (with_held (inside 1 (at 1 1 10) ∷ [])) (at 2 2 90) ≡ 1
  -- the mean is not rounded
  pub half_above : at_most_mean (1 ∷ 2 ∷ []) 2 ≡ false
  pub half_below : below_mean (1 ∷ 2 ∷ []) 1 ≡ true
  pub same_is_not_below : below_mean (7 ∷ []) 7 ≡ false

-- ---- turns

pub record TurnExamples : Type 0 where
  -- in size 1 beside sizes 2 and 2, and beside one of size 2
  pub two_larger : rule machines (settings 3 9 9 9 9) (with_held (inside 1 (at 1 1 0) ∷ inside 2 (at 2 2 10) ∷ inside 2 (at 3 3 10) ∷ inside 4 (at 4 4 90) ∷ inside 4 (at 5 5 90) ∷ [])) (inside 1 (at 1 1 0)) ≡ outnumbered
  pub one_larger : rule machines (settings 3 9 9 9 9) (with_held (inside 1 (at 1 1 0) ∷ inside 2 (at 2 2 10) ∷ inside 2 (at 3 3 10) ∷ [])) (inside 1 (at 1 1 0)) ≡ joining
  -- an owner in two clusters counts once
  pub counted_once : rule machines (settings 3 9 9 9 9) (with_held (inside 1 (at 1 1 0) ∷ inside 1 (at 2 2 0) ∷ inside 3 (at 3 1 90) ∷ [])) (inside 1 (at 1 1 0)) ≡ too_few
  -- once the record at 90 has left, the box of its cluster is that of the others
  pub narrow_again : box_of machines (members 1 (suppress (with_held (inside 1 (at 1 1 90) ∷ inside 1 (at 2 2 10) ∷ inside 1 (at 3 3 12) ∷ [])) (inside 1 (at 1 1 90))).after.held) ≡ widths 10 12
  -- taking over: the one that raises the loss least, of equals the oldest; the last record of cluster 2 keeps its label
  pub nearer : take_over machines 2 3 1 (inside 1 (at 1 1 50) ∷ inside 2 (at 2 2 90) ∷ inside 3 (at 3 3 60) ∷ []) ≡ inside 1 (at 1 1 50) ∷ inside 2 (at 2 2 90) ∷ inside 1 (at 3 3 60) ∷ []
  -- C at 50 takes 60, and is then nearer to 70 than to 39
  pub measured_anew : take_over machines 3 4 1 (inside 1 (at 1 1 50) ∷ inside 2 (at 2 2 60) ∷ inside 3 (at 3 3 39) ∷ inside 4 (at 4 4 70) ∷ []) ≡ inside 1 (at 1 1 50) ∷ inside 1 (at 2 2 60) ∷ inside 3 (at 3 3 39) ∷ inside 1 (at 4 4 70) ∷ []
  -- what counts is by how much the loss of C is raised, 2,000 against 1,100, and not that of the other
  pub own_loss : take_over machines 2 3 1 (inside 1 (at 1 1 50) ∷ inside 2 (at 2 2 30) ∷ inside 2 (at 3 3 40) ∷ inside 4 (at 4 4 61) ∷ []) ≡ inside 1 (at 1 1 50) ∷ inside 2 (at 2 2 30) ∷ inside 2 (at 3 3 40) ∷ inside 1 (at 4 4 61) ∷ []
  -- an owner's second record makes no crowd
  pub same_owner : take_over machines 2 3 1 (inside 1 (at 1 1 50) ∷ inside 2 (at 2 1 51) ∷ inside 3 (at 3 3 60) ∷ []) ≡ inside 1 (at 1 1 50) ∷ inside 1 (at 2 1 51) ∷ inside 1 (at 3 3 60) ∷ []
  pub equally_near : take_over machines 2 3 1 (inside 1 (at 1 1 50) ∷ inside 3 (at 4 2 40) ∷ inside 2 (at 5 3 60) ∷ []) ≡ inside 1 (at 1 1 50) ∷ inside 3 (at 4 2 40) ∷ inside 1 (at 5 3 60) ∷ []

-- ---- kept boxes

abbrev pub numbered : ℕ → Box → Kept
numbered n b = record { number = n; ranges = b }

-- three boxes have been released; the last two lost 500 and 3,000, the latest first
abbrev pub three_boxes : Boxes
three_boxes = record { kept = numbered 1 (widths 20 29) ∷ numbered 3 (widths 10 30) ∷ []; losses = 500 ∷ 3000 ∷ []; made = 3 }

abbrev pub with_boxes : Boxes → List Held → State
with_boxes bs hs = record { held = hs; boxes = bs; accepted = 9; suppressed = 0; closed = false }

pub record KeptExamples : Type 0 where
  -- the least loss, then the lower number
  pub by_loss : offered machines 2 (numbered 1 (widths 20 29) ∷ numbered 3 (widths 10 30) ∷ []) (numbered 4 (widths 40 50)) ≡ numbered 1 (widths 20 29) ∷ numbered 4 (widths 40 50) ∷ []
  pub by_number : offered machines 3 (numbered 1 (widths 20 29) ∷ numbered 3 (widths 10 30) ∷ []) (numbered 4 (widths 30 39)) ≡ numbered 1 (widths 20 29) ∷ numbered 4 (widths 30 39) ∷ numbered 3 (widths 10 30) ∷ []
  -- of the last two losses and no others the mean is 750: a box of loss 1,000 is not kept
  pub window : entered_mean machines (settings 2 2 4 2 4) three_boxes (numbered 4 (widths 40 50)) ≡ record { kept = three_boxes.kept; losses = 1000 ∷ 500 ∷ []; made = 4 }
  -- its own loss counts: 400 is below 450, and below the 500 of before
  pub own_counts : entered_mean machines (settings 2 2 4 2 1) three_boxes (numbered 4 (widths 40 44)) ≡ record { kept = numbered 4 (widths 40 44) ∷ []; losses = 400 ∷ 500 ∷ []; made = 4 }
  -- alone, it is the mean, and not below it
  pub alone : entered_mean machines (settings 2 2 4 1 4) three_boxes (numbered 4 (widths 40 44)) ≡ record { kept = three_boxes.kept; losses = 400 ∷ []; made = 4 }
  -- both cover the record, and the one of less loss is used, though more than half of the clusters are larger
  pub reused_first : rule machines (settings 2 9 9 9 9) (with_boxes three_boxes (inside 1 (at 1 1 25) ∷ inside 2 (at 2 2 25) ∷ inside 2 (at 3 3 25) ∷ inside 4 (at 4 4 25) ∷ inside 4 (at 5 5 25) ∷ [])) (inside 1 (at 1 1 25)) ≡ covered (numbered 1 (widths 20 29))
  pub other_covers : rule machines (settings 2 9 9 9 9) (with_boxes three_boxes (inside 1 (at 1 1 15) ∷ inside 2 (at 2 2 25) ∷ [])) (inside 1 (at 1 1 15)) ≡ covered (numbered 3 (widths 10 30))
  -- a crowd of its own comes first
  pub own_crowd : rule machines (settings 2 9 9 9 9) (with_boxes three_boxes (inside 1 (at 1 1 25) ∷ inside 1 (at 2 2 25) ∷ [])) (inside 1 (at 1 1 25)) ≡ large

-- ---- splits

abbrev pub to_100 : Meaning
to_100 = interval_meaning 0 100

-- the ranges of the first attribute of the parts
abbrev pub firsts : List (List Entry) → List (List Range)
firsts ps = map (λ p. take 1 (box_of to_100 p)) ps

abbrev pub four : List Entry
four = at 1 1 10 ∷ at 2 2 30 ∷ at 3 3 11 ∷ at 4 4 31 ∷ []

pub record SplitExamples : Type 0 where
  pub two_parts : firsts (parts to_100 2 four) ≡ (span 10 11 ∷ []) ∷ (span 30 31 ∷ []) ∷ []
  -- a fifth at 20 joins the first: 900 against 1,000
  pub fifth : firsts (parts to_100 2 (four ++ at 5 5 20 ∷ [])) ≡ (span 10 20 ∷ []) ∷ (span 30 31 ∷ []) ∷ []
  pub fifth_first : raise to_100 (at 1 1 10 ∷ at 3 3 11 ∷ []) (at 5 5 20 ∷ []) ≡ 900
  pub fifth_second : raise to_100 (at 2 2 30 ∷ at 4 4 31 ∷ []) (at 5 5 20 ∷ []) ≡ 1000
  -- one at 21 would join the second, and one that is as far from both the first
  pub nearer_second : firsts (parts to_100 2 (four ++ at 5 5 21 ∷ [])) ≡ (span 10 11 ∷ []) ∷ (span 21 31 ∷ []) ∷ []
  -- by how much it grows, and not how wide it is then: 500 against 1,500
  pub wide_part : firsts (parts to_100 2 (at 1 1 0 ∷ at 2 2 60 ∷ at 3 3 61 ∷ at 4 4 40 ∷ at 5 5 45 ∷ [])) ≡ (span 0 45 ∷ []) ∷ (span 60 61 ∷ []) ∷ []
  pub equal_growth : firsts (parts to_100 2 (at 1 1 10 ∷ at 2 2 30 ∷ at 3 3 10 ∷ at 4 4 30 ∷ at 5 5 20 ∷ [])) ≡ (span 10 20 ∷ []) ∷ (span 30 30 ∷ []) ∷ []
  -- an owner's records stay together: the later one of owner 1 comes along
  pub together : firsts (parts to_100 2 (four ++ at 5 1 90 ∷ [])) ≡ (span 10 90 ∷ []) ∷ (span 30 31 ∷ []) ∷ []
  -- three owners are one part
  pub undivided : firsts (parts to_100 2 (at 1 1 10 ∷ at 2 2 90 ∷ at 3 3 11 ∷ [])) ≡ (span 10 90 ∷ []) ∷ []

-- ---- domains

pub record DomainExamples : Type 0 where
  pub third : loss_of (interval_meaning 0 3) 0 (span 0 1) ≡ 3333
  pub near : join_of machines 1 (point 1) (point 2) ≡ span 0 3
  pub near_loss : loss_of machines 1 (span 0 3) ≡ 4285
  pub far : join_of machines 1 (point 3) (point 4) ≡ span 0 7
  pub far_loss : loss_of machines 1 (span 0 7) ≡ 10000
  pub across : taxonomies.refusal 8 two_groups (span 2 5) ≡ Some 6
  pub again : taxonomies.refusal 8 two_groups (span 0 3) ≡ Some 5
  pub free : taxonomies.refusal 8 two_groups (span 0 1) ≡ None

pub record Examples : Type 0 where
  pub runs : RunExamples
  pub refusals : RefusalExamples
  pub arrivals : ArrivalExamples
  pub turns_tried : TurnExamples
  pub kept_boxes : KeptExamples
  pub splits : SplitExamples
  pub domains : DomainExamples
