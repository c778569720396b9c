-- How much the other clusters of a table raise the loss of one, as the rules say.
use Rattle.std.proofs.Common.{◌≡◌, ℕ, zero, suc, ◌-◌, ◌<◌, ◌≤◌, not, eqb, List, [], ◌++◌, map, length, filter, Option, Some, None, MatchOption, ◌⊎◌, sym, refl, ap, ◌∙◌, subst, inl, inr, ⊎_elim, arith}
use Rattle.std.specs.List.{range_with_len, enumerate_from}
use Rattle.std.specs.Option.{option_map}
use Rattle.std.proofs.ByRecursion.{All-map, all_kept_by}
use Rattle.std.proofs.lemmas.Bool.{eq-eqb, ne_eqb, cases_eq, both_ways, not-true, not_from_false}
use Rattle.domain.specs.Meaning.{Meaning}
use Rattle.domain.specs.Boxes.{join_boxes, box_loss}
use Rattle.rules.specs.declared.Entry.{Entry}
use Rattle.rules.specs.declared.Held.{Held}
use Rattle.rules.specs.Choosing.{In, least}
use Rattle.rules.specs.Clusters.{members, clusters, others, cost, raise, box_of}
use Rattle.rules.specs.Around.{Fit, Together}
use Rattle.rules.specs.Laws.{Ascending}
use Rattle.rules.specs.Turn.{easiest}
use Rattle.rules.proofs.Around.{boxes_stand}
use Rattle.rules.proofs.Choices.{clusters_law}
use Rattle.rules.proofs.Opened.{clusters_others}
use Rattle.rules.proofs.Totals.{all_in, in_append, append_in, in_all, kept_in, in_kept, in_map}
use Rattle.rules.proofs.Turns.{members_all}
use Rattle.pool.specs.declared.Cluster.{Cluster}
use Rattle.pool.specs.Tables.{labels, label_at, table}
use Rattle.choice.specs.declared.joining.Rise.{Rise}
use Rattle.choice.specs.Choices.{AllFit}
use Rattle.choice.specs.Offers.{rise_of}
use Rattle.choice.proofs.Firsts.{kept_through, least_through, least_tells, least_none}
use Rattle.pool.proofs.Rows.{map_map, kept_map, label_open, labels_apart, open_long}
use Rattle.choice.proofs.Labels.{enumerated, length_labels, row, all_counting, labels_by_place, labels_open, row_is}

abbrev pub rise_at : Meaning → List Cluster → ℕ → ℕ → Rise
rise_at m cs at i = rise_of m (row cs at) i (row cs i)

-- the places below n but for one
abbrev pub other_places : ℕ → ℕ → List ℕ
other_places at n = filter (λ i. not (eqb i at)) (range_with_len 0 n)

abbrev pub rises : Meaning → List Cluster → ℕ → ℕ → List Rise
rises m cs at n = map (rise_at m cs at) (other_places at n)

-- whose rise it is
abbrev pub label_of : List Cluster → Rise → ℕ
label_of cs x = label_at cs x.place

pub rises_by_place : (m : Meaning) (cs : List Cluster) (at : ℕ) → map (λ (p : ℕ × Cluster). rise_of m (row cs at) p.0 p.1) (filter (λ p. not (eqb p.0 at)) (enumerate_from 0 cs)) ≡ rises m cs at (length cs)
rises_by_place m cs at =
    ap (λ ps. map (λ (p : ℕ × Cluster). rise_of m (row cs at) p.0 p.1) (filter (λ p. not (eqb p.0 at)) ps)) (enumerated cs)
    ∙ ap (map (λ (p : ℕ × Cluster). rise_of m (row cs at) p.0 p.1)) (kept_map (λ (p : ℕ × Cluster). not (eqb p.0 at)) (λ i. not (eqb i at)) (λ i. (i, row cs i)) (range_with_len 0 (length cs)) (λ _. refl))
    ∙ map_map (λ (p : ℕ × Cluster). rise_of m (row cs at) p.0 p.1) (λ i. (i, row cs i)) (other_places at (length cs))

-- ---- places of the chosen

pub rises_within : (m : Meaning) (cs : List Cluster) (at n : ℕ) (x : Rise) → In (rises m cs at n) x → (x.place < n) × (x.place ≡ at → ⊥)
rises_within m cs at n x i =
    in_all (λ x. (x.place < n) × (x.place ≡ at → ⊥)) (rises m cs at n) x
    (All-map _ (rise_at m cs at) (other_places at n) (all_in _ (other_places at n) (λ k j.
    let r = kept_in (λ i. not (eqb i at)) (range_with_len 0 n) k j in
    (in_all (λ k. k < n) (range_with_len 0 n) k (all_counting (λ k. k < n) n (λ k l. l)) r.0, λ e. both_ways (eqb k at) (not-true _ r.1) (eq-eqb k at e))))) i

-- none is left only where there is no other
pub rises_none : (m : Meaning) (cs : List Cluster) (at n : ℕ) → rises m cs at n ≡ [] → n ≤ 1
rises_none m cs at zero e = omega arith
rises_none m cs at (suc zero) e = omega arith
rises_none m cs at (suc (suc n)) e = ⊎_elim {C = suc (suc n) ≤ 1}
    (λ z. absurd (gone (suc zero) (λ s. omega arith) (inr (inl refl))))
    (λ z. absurd (gone zero (λ s. z (sym s)) (inl refl)))
    (cases_eq at 0)
  where
    none : (x : Rise) → In [] x → ⊥
    none x i = i

    gone : (k : ℕ) → (k ≡ at → ⊥) → In (range_with_len 0 (suc (suc n))) k → ⊥
    gone k d i = none (rise_at m cs at k) (subst (λ xs. In xs (rise_at m cs at k)) e (in_map (rise_at m cs at) (other_places at (suc (suc n))) k (in_kept (λ i. not (eqb i at)) (range_with_len 0 (suc (suc n))) k i (not_from_false _ (ne_eqb k at d)))))

-- of the choice among them
pub other_is : (m : Meaning) (cs : List Cluster) (at : ℕ) (best : Option Rise) → best ≡ least (λ x. x.raise) (rises m cs at (length cs))
    → MatchOption (option_map (λ (x : Rise). x.place) best) ((length cs ≤ 1) ⊎ (length cs ≤ at)) (λ j. (j < length cs) × (j ≡ at → ⊥))
other_is m cs at None b = inl (rises_none m cs at (length cs) (least_none (λ x. x.raise) (rises m cs at (length cs)) (sym b)))
other_is m cs at (Some x) b = rises_within m cs at (length cs) x (least_tells (λ x. x.raise) (rises m cs at (length cs)) x (sym b)).0

label_of_place : (cs : List Cluster) (best : Option Rise) → option_map (label_of cs) best ≡ option_map (label_at cs) (option_map (λ (x : Rise). x.place) best)
label_of_place cs None = refl
label_of_place cs (Some x) = refl

-- ---- as the rules say

together : (es fs : List Entry) → Together es fs (es ++ fs)
together es fs = record {
  either = all_in _ (es ++ fs) (λ e i. in_append es fs e i);
  all_first = all_in _ es (λ e i. append_in es fs e (inl i));
  all_second = all_in _ fs (λ e i. append_in es fs e (inr i));
}

module _ (m : Meaning) (hs : List Held) (cs : List Cluster) (t : cs ≡ table m hs) (a : AllFit m hs) (at : ℕ) (w : at < length cs) where
  labels_ascend : Ascending (labels cs)
  labels_ascend = subst Ascending (sym (labels_open m hs cs t)) (clusters_law hs).oldest_first

  same_place : (i : ℕ) → i < length cs → eqb (label_at cs i) (label_at cs at) ≡ eqb i at
  same_place i l =
      let long = length_labels cs in
      ⊎_elim {C = eqb (label_at cs i) (label_at cs at) ≡ eqb i at}
      (λ e. eq-eqb (label_at cs i) (label_at cs at) (ap (label_at cs) e) ∙ sym (eq-eqb i at e))
      (λ n. ne_eqb _ _ (labels_apart (labels cs) i at labels_ascend (omega arith) (omega arith) n) ∙ sym (ne_eqb i at n))
      (cases_eq i at)

  raise_is : (i : ℕ) → i < length cs → raise m (members (label_at cs at) hs) (members (label_at cs i) hs) ≡ (rise_at m cs at i).raise
  raise_is i l =
      let c = label_at cs at in
      let d = label_at cs i in
      let es = members c hs in
      let fs = members d hs in
      ap (λ b. box_loss m b - cost m es) (boxes_stand.joined m es fs (es ++ fs) (open_long hs c (label_open m hs cs at t w)) (open_long hs d (label_open m hs cs i t l)) (members_all (Fit m) c hs a) (members_all (Fit m) d hs a) (together es fs))
      ∙ ap (λ x. box_loss m (join_boxes m x.bounds (box_of m fs)) - x.loss) (sym (row_is m hs cs t at w))
      ∙ ap (λ x. box_loss m (join_boxes m (row cs at).bounds x.bounds) - (row cs at).loss) (sym (row_is m hs cs t i l))

  others_by_place : clusters (others (label_at cs at) hs) ≡ map (label_of cs) (rises m cs at (length cs))
  others_by_place =
      clusters_others (label_at cs at) hs
      ∙ ap (filter (λ d. not (eqb d (label_at cs at)))) (sym (labels_open m hs cs t) ∙ labels_by_place cs)
      ∙ kept_through (label_at cs) (λ d. not (eqb d (label_at cs at))) (λ i. not (eqb i at)) (range_with_len 0 (length cs)) (all_counting (λ i. not (eqb (label_at cs i) (label_at cs at)) ≡ not (eqb i at)) (length cs) (λ i l. ap not (same_place i l)))
      ∙ sym (map_map (label_of cs) (rise_at m cs at) (other_places at (length cs)))

  pub easiest_is : (best : Option Rise) → best ≡ least (λ x. x.raise) (rises m cs at (length cs)) → easiest m (label_at cs at) hs ≡ option_map (label_at cs) (option_map (λ (x : Rise). x.place) best)
  easiest_is best b =
      ap (least (λ d. raise m (members (label_at cs at) hs) (members d hs))) others_by_place
      ∙ least_through (label_of cs) (λ d. raise m (members (label_at cs at) hs) (members d hs)) (λ x. x.raise) (rises m cs at (length cs))
      (All-map _ (rise_at m cs at) (other_places at (length cs)) (all_kept_by _ _ (range_with_len 0 (length cs)) (all_counting (λ i. raise m (members (label_at cs at) hs) (members (label_at cs i) hs) ≡ (rise_at m cs at i).raise) (length cs) raise_is)))
      ∙ ap (option_map (label_of cs)) (sym b)
      ∙ label_of_place cs best
