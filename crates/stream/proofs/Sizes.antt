-- The size of a cluster, read from the table.
use Rattle.std.proofs.Common.{◌≡◌, ℕ, true, eqb, List, [], get_or, is_some, MatchOption, Some, None, Option, sym, ap, ◌∙◌}
use Rattle.std.proofs.lemmas.Bool.{false≢true, ne_eqb}
use Rattle.domain.specs.Meaning.{Meaning}
use Rattle.keeper.proofs.Filters.{kept_by_none}
use Rattle.pool.specs.declared.Cluster.{Cluster}
use Rattle.pool.specs.Tables.{table}
use Rattle.pool.proofs.Rows.{row_at}
use Rattle.pool.specs.Places.{Finds}
use Rattle.rules.specs.declared.Held.{Held}
use Rattle.rules.specs.Choosing.{In}
use Rattle.rules.specs.Clusters.{records, members, size}
use Rattle.rules.proofs.Totals.{all_in}

-- a label that no held record has
no_members : (c : ℕ) (hs : List Held) → ((h : Held) → In hs h → h.label ≡ c → ⊥) → members c hs ≡ []
no_members c hs f = ap records (kept_by_none (λ h. eqb h.label c) hs (all_in _ hs (λ h i. ne_eqb h.label c (f h i))))

no_size : (c : ℕ) (hs : List Held) → ((h : Held) → In hs h → h.label ≡ c → ⊥) → 0 ≡ size (members c hs)
no_size c hs f = sym (ap size (no_members c hs f))

-- any row
abbrev pub no_cluster : Cluster
no_cluster = record { label = 0; size = 0; loss = 0; bounds = [] }

-- the size that stands in the row that was found, or 0
pub sized : (m : Meaning) (hs : List Held) (cs : List Cluster) (c n : ℕ) (o : Option ℕ) → cs ≡ table m hs → Finds cs c o → ((h : Held) → In hs h → h.label ≡ c → is_some o ≡ true)
    → MatchOption o (n ≡ 0) (λ i. n ≡ (get_or cs i no_cluster).size) → n ≡ size (members c hs)
sized m hs cs c n (Some i) t found held read = read ∙ ap (λ x. x.size) (row_at m hs cs i no_cluster t found.within) ∙ ap (λ l. size (members l hs)) found.labelled
sized m hs cs c n None t found held read = read ∙ no_size c hs (λ h i e. false≢true (held h i e))
