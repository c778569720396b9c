-- A crowd of different owners. Assumes nothing.
use Rattle.std.specs.Prelude.{ℕ, if◌then◌else◌, not, ◌&&◌, List, [], ◌∷◌, ◌++◌, length, ◌==◌, nat_lt}
use Rattle.std.specs.List.{list_any}

-- one more owner, if he is new and there is room for 32
abbrev pub joined : ℕ → List ℕ → List ℕ
joined owner crowd =
    if nat_lt (length crowd) 32 && not (list_any (λ o. o == owner) crowd) then crowd ++ (owner ∷ []) else crowd
