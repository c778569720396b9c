-- The labels of the table, and what its rows tell of the held records.
use Rattle.std.proofs.Common.{◌≡◌, ℕ, ◌<◌, ltb, List, map, length, get_or, filter, sym, refl, ap, ◌∙◌, subst, arith}
use Rattle.std.specs.List.{range_with_len, enumerate_from, AllByRecursion}
use Rattle.std.proofs.lemmas.List.{length-map}
use Rattle.std.proofs.lemmas.List.FromFn.{length-range_with_len, get_or-range_with_len, fill_by_all, length-enumerate_from, get_or-enumerate_from}
use Rattle.std.proofs.ByRecursion.{All-from_get_or}
use Rattle.domain.specs.Meaning.{Meaning}
use Rattle.rules.specs.declared.Held.{Held}
use Rattle.rules.specs.Clusters.{size, members, clusters}
use Rattle.rules.specs.Turn.{larger}
use Rattle.pool.specs.declared.Cluster.{Cluster}
use Rattle.pool.proofs.Rows as rows
use Rattle.pool.proofs.Rows.{blank, kept_map, labels_table, row_at}
use Rattle.pool.specs.Tables.{cluster_of, labels, label_at, table}

-- what stands at place i
abbrev pub row : List Cluster → ℕ → Cluster
row cs i = get_or cs i blank

pub length_labels : (cs : List Cluster) → length (labels cs) ≡ length cs
length_labels cs = length-map cs (λ x. x.label)

pub larger_table : (m : Meaning) (hs : List Held) (c n : ℕ) (cs : List Cluster) → cs ≡ table m hs → n ≡ size (members c hs) → length (filter (λ x. ltb n x.size) cs) ≡ larger c hs
larger_table m hs c n cs e s =
    ap (λ ys. length (filter (λ x. ltb n x.size) ys)) e
    ∙ ap length (kept_map (λ (x : Cluster). ltb n x.size) (λ d. ltb n (size (members d hs))) (cluster_of m hs) (clusters hs) (λ _. refl))
    ∙ length-map (filter (λ d. ltb n (size (members d hs))) (clusters hs)) (cluster_of m hs)
    ∙ ap (λ k. length (filter (λ d. ltb k (size (members d hs))) (clusters hs))) s

-- ---- rows of a table

pub all_counting : (P : ℕ → Type 0) (n : ℕ) → ((i : ℕ) → i < n → P i) → AllByRecursion P (range_with_len 0 n)
all_counting P n h =
    All-from_get_or P (range_with_len 0 n) 0
    (λ i l. let l' : i < n = omega (arith, length-range_with_len 0 n) in subst P (sym (get_or-range_with_len 0 n i 0 l' ∙ omega arith)) (h i l'))

-- the labels by place
pub labels_by_place : (cs : List Cluster) → labels cs ≡ map (label_at cs) (range_with_len 0 (length cs))
labels_by_place cs = fill_by_all (label_at cs) (labels cs) (length cs) 0 (length_labels cs) (λ k l. refl)

-- the rows by place
pub enumerated : (cs : List Cluster) → enumerate_from 0 cs ≡ map (λ i. (i, row cs i)) (range_with_len 0 (length cs))
enumerated cs =
    fill_by_all (λ i. (i, row cs i)) (enumerate_from 0 cs) (length cs) (0, blank) (length-enumerate_from 0 cs) (λ k l. get_or-enumerate_from 0 cs k (0, blank) l ∙ ap (λ i. (i, row cs k)) (omega arith))

-- ---- of a table

module _ (m : Meaning) (hs : List Held) (cs : List Cluster) (e : cs ≡ table m hs) where
  pub length_table : length cs ≡ length (clusters hs)
  length_table = ap length e ∙ rows.length_table m hs

  pub labels_open : labels cs ≡ clusters hs
  labels_open = ap labels e ∙ labels_table m hs

  pub row_is : (i : ℕ) → i < length cs → row cs i ≡ cluster_of m hs (label_at cs i)
  row_is i l = row_at m hs cs i blank e l
