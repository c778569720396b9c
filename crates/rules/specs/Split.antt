-- The parts of a cluster that is released. A part in the making is a list of owners. Assumes nothing.
use Rattle.std.specs.Prelude.{ℕ, zero, suc, ◌-◌, ◌*◌, Bool, cond, not, List, [], ◌∷◌, ◌++◌, map, length, Some, None, fold, filter, Option, ◌==◌, nat_eq, nat_le, nat_lt}
use Rattle.std.specs.Option.{option_map}
use Rattle.domain.specs.Meaning.{Meaning}
use Rattle.rules.specs.declared.Entry.{Entry}
use Rattle.rules.specs.Choosing.{Rank, chosen, lowest, listed, lowest_ranked}
use Rattle.rules.specs.Clusters.{owner, owners, size, cost, raise}
use Rattle.rules.specs.States.{stand_in}

-- all records of the owners: each owner's stay together
abbrev pub part : List Entry → List ℕ → List Entry
part es ws = filter (λ e. listed (owner e) ws) es

-- the owners that are not in the part
abbrev pub outside : List ℕ → List ℕ → List ℕ
outside p ws = filter (λ w. not (listed w p)) ws

-- the position of an owner's earliest record
abbrev pub since : ℕ → List Entry → ℕ
since w [] = 0
since w (e ∷ es) = cond (owner e == w) e.position (since w es)

-- the loss of the join of what stands for two owners
abbrev pub distance : Meaning → List Entry → ℕ → ℕ → ℕ
distance m es a b = cost m (stand_in es a ++ stand_in es b)

-- distance, then position
abbrev pub nearness : Meaning → List Entry → ℕ → ℕ → Rank
nearness m es seed w = record { first = distance m es seed w; second = since w es }

-- the seed and the k - 1 nearest others
abbrev pub around : Meaning → ℕ → List Entry → List ℕ → ℕ → List ℕ
around m k es ws seed = seed ∷ lowest_ranked (nearness m es seed) (k - 1) (outside (seed ∷ []) ws)

-- the next part, while k or more owners remain
abbrev pub next_part : Meaning → ℕ → List Entry → List ℕ → Option (List ℕ)
next_part m k es ws = cond (nat_le k (length ws)) (option_map (around m k es ws) (chosen ws)) None

-- the parts made, in order of making, and the owners left over
pub record Cut : Type 0 where
  pub made : List (List ℕ)
  pub left : List ℕ

abbrev pub cut_on : List ℕ → Option (List ℕ) → (List ℕ → Cut) → Cut
cut_on ws None rest = record { made = []; left = ws }
cut_on ws (Some p) rest = let c = rest p in record { made = p ∷ c.made; left = c.left }

-- n bounds the rounds
abbrev pub cut : Meaning → ℕ → List Entry → ℕ → List ℕ → Cut
cut m k es zero ws = record { made = []; left = ws }
cut m k es (suc n) ws = cut_on ws (next_part m k es ws) (λ p. cut m k es n (outside p ws))

-- by how much what stands for the owner widens the part's box
abbrev pub growth : Meaning → List Entry → ℕ → List ℕ → ℕ
growth m es w p = raise m (part es p) (stand_in es w)

-- w joins the first part that passes
abbrev pub joins_first : (List ℕ → Bool) → ℕ → List (List ℕ) → List (List ℕ)
joins_first q w [] = []
joins_first q w (p ∷ ps) = cond (q p) ((p ++ w ∷ []) ∷ ps) (p ∷ joins_first q w ps)

-- a leftover owner joins the part that grows least, the first made of equals
abbrev pub settle : Meaning → List Entry → List (List ℕ) → ℕ → List (List ℕ)
settle m es ps w = let low = lowest (growth m es w) ps in joins_first (λ p. nat_eq (growth m es w p) low) w ps

-- the parts by owners, leftover owners settled in the order of their earliest records
abbrev pub split : Meaning → ℕ → List Entry → List (List ℕ)
split m k es = let c = cut m k es (size es) (owners es) in fold (settle m es) c.made c.left

-- below 2 k owners, one part; else the parts of the split, in order of making
abbrev pub parts : Meaning → ℕ → List Entry → List (List Entry)
parts m k es = cond (nat_lt (size es) (2 * k)) (es ∷ []) (map (part es) (split m k es))
