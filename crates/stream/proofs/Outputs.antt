-- Parts that go out one after the other.
use Rattle.std.proofs.Common.{◌≡◌, ℕ, ◌+◌, ◌-◌, ◌<◌, ◌≤◌, min, List, [], ◌∷◌, ◌++◌, map, length, get_or, take, fold, sym, refl, ap, ◌∙◌, subst, arith}
use Rattle.std.specs.List.{AllByRecursion, between}
use Rattle.std.proofs.ByRecursion.{All-weaker}
use Rattle.std.proofs.lemmas.List.{length-append, length-map, length-take-le, get_or-map, take_all, take_more}
use Rattle.std.proofs.lemmas.List.FromFn.{get_or-map-range_with_len}
use Rattle.std.proofs.lemmas.List.Sums.{fold_more}
use Rattle.domain.specs.Meaning.{Meaning}
use Rattle.domain.specs.Boxes.{box_loss}
use Rattle.release.specs.declared.Settings.{Settings}
use Rattle.release.specs.declared.Line.{Line}
use Rattle.ledger.specs.declared.ledger.Ledger.{Ledger}
use Rattle.ledger.specs.Ledgers.{ledger_boxes, window_of, KeptWell, Enters}
use Rattle.rules.specs.declared.Entry.{Entry}
use Rattle.rules.specs.Choosing.{total}
use Rattle.rules.specs.Clusters.{size, box_of}
use Rattle.rules.specs.States.{Boxes}
use Rattle.rules.specs.Release.{Output, entered_mean, release_part}
use Rattle.rules.specs.Split.{parts}
use Rattle.rules.proofs.Totals.{total_push, total_take, length_total}
use Rattle.rules.proofs.Parts.{totals, parts_total, parts_large}
use Rattle.split.specs.declared.Member.{Member}
use Rattle.split.specs.declared.Part.{Part}
use Rattle.split.specs.Parted.{marked, part_of, Parted}
use Rattle.stream.specs.Writing.{released, Writes}
use Rattle.stream.specs.Releases.{out_of, PartsOut}
use Rattle.stream.proofs.Writing.{writes_none, writes_more, space}
use borrow.Rule.Slice.PartMut.{put_mid}

-- ---- what the parts so far come to

module _ (m : Meaning) (g : Settings) where
  fold_lines : (qs : List (List Entry)) (o : Output) → length (fold (release_part m g) o qs).lines ≡ length o.lines + totals (λ _. 1) qs
  fold_lines [] o = omega arith
  fold_lines (q ∷ qs) o =
      let more = map (released (o.boxes.made + 1) (box_of m q)) q in
      omega (arith, fold_lines qs (release_part m g o q), length-append o.lines more, length-map q (released (o.boxes.made + 1) (box_of m q)), length_total q)

  fold_made : (qs : List (List Entry)) (o : Output) → (fold (release_part m g) o qs).boxes.made ≡ o.boxes.made + length qs
  fold_made [] o = omega arith
  fold_made (q ∷ qs) o = omega (arith, fold_made qs (release_part m g o q))

  pub out_lines : (b : Boxes) (qs : List (List Entry)) → length (out_of m g b qs).lines ≡ totals (λ _. 1) qs
  out_lines b qs = fold_lines qs (record { lines = []; boxes = b }) ∙ omega arith

  out_made : (b : Boxes) (qs : List (List Entry)) → (out_of m g b qs).boxes.made ≡ b.made + length qs
  out_made b qs = fold_made qs (record { lines = []; boxes = b })

-- a part has a record
some_records : (k : ℕ) (es : List Entry) → 1 ≤ k → k ≤ size es → 1 ≤ length es
some_records k [] a l = omega (arith, a, l)
some_records k (e ∷ es) a l = omega arith

each_counts : (qs : List (List Entry)) → AllByRecursion (λ q. 1 ≤ length q) qs → length qs ≤ totals (λ _. 1) qs
each_counts [] a = omega arith
each_counts (q ∷ qs) a = omega (arith, a.0, length_total q, each_counts qs a.1)

pub few_parts : (m : Meaning) (k : ℕ) (es : List Entry) → 1 ≤ k → k ≤ size es → length (parts m k es) ≤ length es
few_parts m k es pos large = omega (arith, each_counts (parts m k es) (All-weaker _ _ (λ q l. some_records k q pos l) (parts m k es) (parts_large m k es pos large)), parts_total (λ _. 1) m k es pos, length_total es)

-- ---- one part more

-- the same, told otherwise
pub parted_at : (m : Meaning) (k : ℕ) {es es' : List Entry} {ms ms' : List Member} {bs bs' : List Part} → es ≡ es' → ms ≡ ms' → bs ≡ bs' → Parted m k es ms bs → Parted m k es' ms' bs'
parted_at m k {es} {es'} {ms} {ms'} {bs} {bs'} p r u x = subst (λ a. Parted m k es' ms' a) u (subst (λ a. Parted m k es' a bs) r (subst (λ a. Parted m k a ms bs) p x))

-- what is given of a cluster that goes out
pub record Given (m : Meaning) (g : Settings) (k : ℕ) (es : List Entry) (members : List Member) (boxes : List Part) (ledger : Ledger) (list : List Line) : Type 0 where
  pub crowd : 1 ≤ k
  pub parted : Parted m k es members boxes
  pub window : g.mu ≡ window_of ledger
  pub kept : KeptWell m g.rho ledger
  pub numbers : (ledger_boxes ledger).made + length boxes ≤ 4294967295
  pub room : length es ≤ length list

module _ {m : Meaning} {g : Settings} {k : ℕ} {es : List Entry} {members : List Member} {boxes : List Part} {ledger : Ledger} {list : List Line} (given : Given m g k es members boxes ledger list) where
  abbrev ps : List (List Entry)
  ps = parts m k es

  abbrev so_far : ℕ → Output
  so_far j = out_of m g (ledger_boxes ledger) (take j ps)

  as_many : length boxes ≡ length ps
  as_many = ap length given.parted.told ∙ length-map ps (part_of m)

  part_at : (j : ℕ) → j < length boxes → get_or ps j [] ≡ marked j members
  part_at j l = ap (λ qs. get_or qs j []) (sym given.parted.records) ∙ get_or-map-range_with_len (λ j. marked j members) 0 (length boxes) j j [] l (omega arith)

  box_at : (j : ℕ) (d : Part) → j < length boxes → get_or boxes j d ≡ part_of m (get_or ps j [])
  box_at j d l = ap (λ bs. get_or bs j d) given.parted.told ∙ get_or-map (part_of m) ps j [] d (omega (arith, l, as_many))

  more : (j : ℕ) → j < length boxes → so_far (j + 1) ≡ release_part m g (so_far j) (get_or ps j [])
  more j l = fold_more (release_part m g) (record { lines = []; boxes = ledger_boxes ledger }) ps j [] (omega (arith, l, as_many))

  few_lines : (j : ℕ) → j < length boxes → length (so_far j).lines + length (get_or ps j []) ≤ length es
  few_lines j l =
      let q = get_or ps j [] in
      let all = parts_total (λ _. 1) m k es given.crowd in
      let next : totals (λ _. 1) (take (j + 1) ps) ≡ totals (λ _. 1) (take j ps) + total (λ _. 1) q = ap (totals (λ _. 1)) (take_more ps j [] (omega (arith, l, as_many))) ∙ total_push (λ p. total (λ _. 1) p) (take j ps) q in
      omega (arith, out_lines m g (ledger_boxes ledger) (take j ps), all, next, total_take (λ p. total (λ _. 1) p) (j + 1) ps, length_total q, length_total es)

  low_number : (j : ℕ) → j < length boxes → (so_far j).boxes.made < 4294967295
  low_number j l = omega (arith, out_made m g (ledger_boxes ledger) (take j ps), given.numbers, l, length-take-le j ps (omega (arith, l, as_many)))

  pub out_none : PartsOut m g (take 0 ps) ledger ledger list list 0
  out_none = record { boxes = refl; kept = given.kept; writes = writes_none list }

  -- before part j
  module _ (j : ℕ) (l : j < length boxes) (was : Ledger) (now : List Line) (n : ℕ) (room : n ≤ length now) (out : PartsOut m g (take j ps) ledger was list now n) where
    pub priced : (d : Part) → (get_or boxes j d).loss ≡ box_loss m (get_or boxes j d).bounds
    priced d = ap (λ (b : Part). b.loss) (box_at j d l) ∙ ap (box_loss m) (sym (ap (λ (b : Part). b.bounds) (box_at j d l)))

    pub low : (ledger_boxes was).made < 4294967295
    low = omega (arith, low_number j l, ap (λ (b : Boxes). b.made) out.boxes)

    pub enough : length (marked j members) ≤ length (between n (length now) now)
    enough = space (so_far j).lines list now n room out.writes (length (marked j members)) (omega (arith, few_lines j l, ap length (part_at j l), given.room))

    pub out_more : (d : Part) (is : Ledger) (part : List Line) (number count : ℕ) → Enters m g was (record { number = (ledger_boxes was).made + 1; ranges = (get_or boxes j d).bounds }) is → number ≡ min ((ledger_boxes was).made + 1) 4294967295
        → Writes (map (released number (get_or boxes j d).bounds) (marked j members)) (between n (length now) now) part count → PartsOut m g (take (j + 1) ps) ledger is list (put_mid n (length now - n) now part) (n + count)
    out_more d is part number count e num w =
        let q = get_or ps j [] in
        let o = so_far j in
        let made : (ledger_boxes was).made ≡ o.boxes.made = ap (λ (b : Boxes). b.made) out.boxes in
        let number_is : number ≡ o.boxes.made + 1 = omega (arith, num, low, made) in
        let ranges_is : (get_or boxes j d).bounds ≡ box_of m q = ap (λ (b : Part). b.bounds) (box_at j d l) in
        let lines_are = ap (λ x. map (released x (get_or boxes j d).bounds) (marked j members)) number_is ∙ ap (λ x. map (released (o.boxes.made + 1) x) (marked j members)) ranges_is ∙ ap (map (released (o.boxes.made + 1) (box_of m q))) (sym (part_at j l)) in
        let step = more j l in
        record {
          boxes = e.boxes ∙ ap (λ b. entered_mean m g b (record { number = (ledger_boxes was).made + 1; ranges = (get_or boxes j d).bounds })) out.boxes
              ∙ ap (λ x. entered_mean m g o.boxes (record { number = x + 1; ranges = (get_or boxes j d).bounds })) made ∙ ap (λ x. entered_mean m g o.boxes (record { number = o.boxes.made + 1; ranges = x })) ranges_is
              ∙ sym (ap (λ (x : Output). x.boxes) step);
          kept = e.well;
          writes = subst (λ ls. Writes ls list (put_mid n (length now - n) now part) (n + count)) (ap (λ ls. o.lines ++ ls) lines_are ∙ sym (ap (λ (x : Output). x.lines) step))
              (writes_more o.lines list now n room out.writes (map (released number (get_or boxes j d).bounds) (marked j members)) part count w);
        }

  pub out_all : (j : ℕ) (was : Ledger) (now : List Line) (n : ℕ) → length boxes ≤ j → PartsOut m g (take j ps) ledger was list now n → PartsOut m g ps ledger was list now n
  out_all j was now n l out = subst (λ qs. PartsOut m g qs ledger was list now n) (take_all j ps (omega (arith, l, as_many))) out
