-- When a pool has a place for a record. Assumes nothing.
use Rattle.std.specs.Prelude.{◌≡◌, ℕ, ◌<◌, true, Some, None, vec_items, Option}
use Rattle.std.specs.List.{AllByRecursion}
use Rattle.domain.specs.Meaning.{Meaning}
use Rattle.rules.specs.declared.Entry.{Entry}
use Rattle.pool.specs.declared.Pool.{Pool}
use Rattle.pool.specs.Tables.{Faithful}
use Rattle.pool.specs.Changes.{can_join, can_open, held_also}
use Rattle.choice.specs.Places.{home_of}

-- in the cluster at that place, or in a new one, which is younger than all
abbrev pub HasPlace : Pool → Option ℕ → Entry → Type 0
HasPlace p (Some at) e = can_join p at ≡ true
HasPlace p None e = (can_open p ≡ true) × AllByRecursion (λ h. h.label < e.position) (vec_items p.held)

-- the record is held there, and the table follows
pub record Housed (m : Meaning) (home : Option ℕ) (e : Entry) (before after : Pool) : Type 0 where
  pub held : vec_items after.held ≡ held_also (home_of home (vec_items before.clusters) e.position) e (vec_items before.held)
  pub faithful : Faithful m after
