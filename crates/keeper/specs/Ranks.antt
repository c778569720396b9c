-- How ranks compare: by the first number and then by the second. Assumes nothing.
use Rattle.std.specs.Prelude.{Bool, ◌&&◌, ◌||◌, ◌==◌, nat_lt}
use Rattle.keeper.specs.declared.Rank.{Rank}

abbrev pub lower : Rank → Rank → Bool
lower a b = nat_lt a.first b.first || (a.first == b.first && nat_lt a.second b.second)

abbrev pub same : Rank → Rank → Bool
same a b = a.first == b.first && a.second == b.second
