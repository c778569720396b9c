-- The offers of a table's clusters come to what the rules say of an arrival.
use Rattle.std.proofs.Common.{◌≡◌, ℕ, ◌-◌, ◌*◌, ◌<◌, ltb, leb, List, [], ◌∷◌, ◌++◌, map, length, Some, None, sum, filter, sym, refl, ap, ◌∙◌, subst}
use Rattle.std.specs.List.{range_with_len, AllByRecursion}
use Rattle.std.specs.Option.{option_map}
use Rattle.std.proofs.ByRecursion.{All-map, all_kept_by, All-weaker}
use Rattle.std.proofs.lemmas.Bool.{cond_both}
use Rattle.std.proofs.lemmas.List.FromFn.{length-map-range_with_len}
use Rattle.domain.specs.Meaning.{Meaning}
use Rattle.domain.specs.Boxes.{box_loss, covers}
use Rattle.domain.specs.BoxLaws.{Allowed, Admitted}
use Rattle.release.specs.declared.Settings.{Settings}
use Rattle.rules.specs.declared.Entry.{Entry}
use Rattle.rules.specs.declared.Held.{Held}
use Rattle.rules.specs.Choosing.{In, minimal}
use Rattle.rules.specs.Clusters.{values, size, members, clusters, cost, raise}
use Rattle.rules.specs.States.{State, at_most_mean}
use Rattle.rules.specs.Around.{Fit}
use Rattle.rules.specs.Arrival.{taker, candidates, fits, fitting, smallest, home}
use Rattle.rules.proofs.Around.{boxes_stand, box_least}
use Rattle.rules.proofs.Totals.{in_all}
use Rattle.rules.proofs.Turns.{members_all}
use Rattle.pool.specs.declared.Cluster.{Cluster}
use Rattle.pool.specs.Tables.{cluster_of, label_at, table}
use Rattle.ledger.specs.declared.mean.Mean.{Mean}
use Rattle.ledger.specs.Means.{MeanOf}
use Rattle.choice.specs.declared.arrival.Offer.{Offer}
use Rattle.choice.specs.Offers.{offer_of, offers, smallest_of, lightest, best_of, decided}
use Rattle.choice.specs.Places.{home_of}
use Rattle.choice.specs.Losses.{loss_beside, loss_read}
use Rattle.choice.specs.Choices.{AllFit}
use Rattle.choice.proofs.Firsts.{minimal_through, kept_through, least_through}
use Rattle.choice.proofs.Weighing.{label_of, decided_home, best_among, best_none}
use Rattle.pool.proofs.Rows.{map_map, label_open, open_long}
use Rattle.choice.proofs.Labels.{row, enumerated, all_counting, labels_by_place, labels_open, length_table, row_is}
use Rattle.choice.proofs.Widened.{covered_loss}

abbrev offer_at : Meaning → Mean → List ℕ → List Cluster → ℕ → Offer
offer_at m mean vs cs i = offer_of m mean vs i (row cs i)

-- those of all clusters to a record
abbrev all_offers : Meaning → Mean → Entry → List Cluster → List Offer
all_offers m mean e cs = offers m mean (values e) cs

offers_by_place : (m : Meaning) (mean : Mean) (vs : List ℕ) (cs : List Cluster) → offers m mean vs cs ≡ map (offer_at m mean vs cs) (range_with_len 0 (length cs))
offers_by_place m mean vs cs = ap (map (λ (p : ℕ × Cluster). offer_of m mean vs p.0 p.1)) (enumerated cs) ∙ map_map (λ (p : ℕ × Cluster). offer_of m mean vs p.0 p.1) (λ i. (i, row cs i)) (range_with_len 0 (length cs))

all_places : (P : Offer → Type 0) (m : Meaning) (mean : Mean) (vs : List ℕ) (cs : List Cluster) → ((i : ℕ) → i < length cs → P (offer_at m mean vs cs i)) → AllByRecursion P (offers m mean vs cs)
all_places P m mean vs cs h = subst (AllByRecursion P) (sym (offers_by_place m mean vs cs)) (All-map _ (offer_at m mean vs cs) (range_with_len 0 (length cs)) (all_counting (λ i. P (offer_at m mean vs cs i)) (length cs) h))

pub loss_read_is : (m : Meaning) (vs : List ℕ) (x : Cluster) → Allowed m x.bounds → Admitted m vs → x.loss ≡ box_loss m x.bounds → loss_read m x vs ≡ loss_beside m x vs
loss_read_is m vs x p q l =
    cond_both (covers m x.bounds vs) x.loss (loss_beside m x vs) (λ k. k ≡ loss_beside m x vs)
    (λ c. l ∙ sym (covered_loss m x.bounds vs p q c)) (λ _. refl)

-- a cluster of the table, with the record
cost_with : (m : Meaning) (hs : List Held) (c : ℕ) (e : Entry) → In (clusters hs) c → AllFit m hs → Fit m e → cost m (members c hs ++ e ∷ []) ≡ loss_read m (cluster_of m hs c) (values e)
cost_with m hs c e i a f =
    let some = open_long hs c i in
    ap (box_loss m) (boxes_stand.wider m (members c hs) e some)
    ∙ sym (loss_read_is m (values e) (cluster_of m hs c) (box_least m (members c hs) some (members_all (Fit m) c hs a)).is_box.allowed f refl)

record Agrees (m : Meaning) (s : State) (e : Entry) (c : ℕ) (o : Offer) : Type 0 where
  raises : raise m (members c s.held) (e ∷ []) ≡ o.raise
  sizes : size (members c s.held) ≡ o.size
  fit : fits m s e c ≡ o.fits

module _ (m : Meaning) (s : State) (e : Entry) (mean : Mean) (cs : List Cluster)
    (t : cs ≡ table m s.held) (of : MeanOf s.boxes.losses mean) (a : AllFit m s.held) (f : Fit m e) where
  agrees_at : (i : ℕ) → i < length cs → Agrees m s e (label_at cs i) (offer_at m mean (values e) cs i)
  agrees_at i l =
      let r = row_is m s.held cs t i l in
      let c = label_at cs i in
      let loss : cost m (members c s.held ++ e ∷ []) ≡ loss_read m (row cs i) (values e) = cost_with m s.held c e (label_open m s.held cs i t l) a f ∙ ap (λ x. loss_read m x (values e)) (sym r) in
      record {
        raises = ap (λ k. k - cost m (members c s.held)) loss ∙ ap (λ x. loss_read m (row cs i) (values e) - x.loss) (sym r);
        sizes = ap (λ x. x.size) (sym r);
        fit = ap (at_most_mean s.boxes.losses) loss ∙ ap (λ k. leb (loss_read m (row cs i) (values e) * k) (sum s.boxes.losses)) (sym of.counts) ∙ ap (leb (loss_read m (row cs i) (values e) * mean.count)) (sym of.sums);
      }

  agree : AllByRecursion (λ o. Agrees m s e (label_of cs o) o) (all_offers m mean e cs)
  agree = all_places (λ o. Agrees m s e (label_of cs o) o) m mean (values e) cs agrees_at

  open_by_place : clusters s.held ≡ map (label_of cs) (all_offers m mean e cs)
  open_by_place = sym (labels_open m s.held cs t) ∙ labels_by_place cs ∙ sym (map_map (label_of cs) (offer_at m mean (values e) cs) (range_with_len 0 (length cs))) ∙ ap (map (label_of cs)) (sym (offers_by_place m mean (values e) cs))

  -- the candidates, and the offers that raise the loss least
  candidates_by_place : candidates m s e ≡ map (label_of cs) (lightest (all_offers m mean e cs))
  candidates_by_place =
      ap (minimal (λ c. raise m (members c s.held) (e ∷ []))) open_by_place
      ∙ minimal_through (label_of cs) (λ c. raise m (members c s.held) (e ∷ [])) (λ o. o.raise) (all_offers m mean e cs) (All-weaker _ _ (λ o g. g.raises) (all_offers m mean e cs) agree)

  agree_lightest : AllByRecursion (λ o. Agrees m s e (label_of cs o) o) (lightest (all_offers m mean e cs))
  agree_lightest = all_kept_by _ _ (all_offers m mean e cs) agree

  smallest_by_place : (xs : List Offer) → AllByRecursion (λ o. Agrees m s e (label_of cs o) o) xs → smallest s (map (label_of cs) xs) ≡ option_map (label_of cs) (smallest_of xs)
  smallest_by_place xs h = least_through (label_of cs) (λ c. size (members c s.held)) (λ o. o.size) xs (All-weaker _ _ (λ o g. g.sizes) xs h)

  fitting_by_place : fitting m s e ≡ map (label_of cs) (filter (λ o. o.fits) (lightest (all_offers m mean e cs)))
  fitting_by_place =
      ap (filter (fits m s e)) candidates_by_place
      ∙ kept_through (label_of cs) (fits m s e) (λ o. o.fits) (lightest (all_offers m mean e cs)) (All-weaker _ _ (λ o g. g.fit) (lightest (all_offers m mean e cs)) agree_lightest)

  -- the choice from all offers is that of the rules
  pub home_is : (g : Settings) → home m g s e ≡ home_of (decided (ltb (length cs) g.beta) (best_of (all_offers m mean e cs))) cs e.position
  home_is g =
      let xs = lightest (all_offers m mean e cs) in
      ap (λ x. taker x (ltb (length (clusters s.held)) g.beta) (smallest s (candidates m s e)) e.position) (ap (smallest s) fitting_by_place ∙ smallest_by_place (filter (λ o. o.fits) xs) (all_kept_by _ _ xs agree_lightest))
      ∙ ap (λ n. taker (option_map (label_of cs) (smallest_of (filter (λ o. o.fits) xs))) (ltb n g.beta) (smallest s (candidates m s e)) e.position) (sym (length_table m s.held cs t))
      ∙ ap (λ x. taker (option_map (label_of cs) (smallest_of (filter (λ o. o.fits) xs))) (ltb (length cs) g.beta) x e.position) (ap (smallest s) candidates_by_place ∙ smallest_by_place xs agree_lightest)
      ∙ decided_home cs (ltb (length cs) g.beta) e.position xs

-- the best offer is that of a cluster, if there is one
pub best_within : (m : Meaning) (mean : Mean) (vs : List ℕ) (cs : List Cluster) (o : Offer) → best_of (offers m mean vs cs) ≡ Some o → o.place < length cs
best_within m mean vs cs o e = in_all (λ x. x.place < length cs) (offers m mean vs cs) o (all_places (λ x. x.place < length cs) m mean vs cs (λ i l. l)) (best_among (offers m mean vs cs) o e).0

pub none_open : (m : Meaning) (mean : Mean) (vs : List ℕ) (cs : List Cluster) → best_of (offers m mean vs cs) ≡ None → length cs ≡ 0
none_open m mean vs cs e = sym (ap length (offers_by_place m mean vs cs) ∙ length-map-range_with_len (offer_at m mean vs cs) 0 (length cs)) ∙ ap length (best_none (offers m mean vs cs) e)
