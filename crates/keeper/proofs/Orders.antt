-- Ranks are in a total order. Assumes nothing.
use Rattle.std.proofs.Common.{◌≡◌, true, false, arith}
use Rattle.std.proofs.lemmas.Bool.Decides.{nat_tests}
use Rattle.keeper.specs.declared.Rank.{Rank}
use Rattle.keeper.specs.Ranks.{lower, same}

pub not_lower_itself : (a : Rank) → lower a a ≡ false
not_lower_itself a = grind (arith, nat_tests)

pub one_way : (a b : Rank) → lower a b ≡ true → lower b a ≡ false
one_way a b h = grind (arith, nat_tests)

-- c is no lower than b, and b than a
pub chain : (a b c : Rank) → lower b a ≡ false → lower c b ≡ false → lower c a ≡ false
chain a b c h k = grind (arith, nat_tests)

-- a is lower than b, and c no lower than b
pub lower_chain : (a b c : Rank) → lower a b ≡ true → lower c b ≡ false → lower a c ≡ true
lower_chain a b c h k = grind (arith, nat_tests)

pub same_itself : (a : Rank) → same a a ≡ true
same_itself a = grind (arith, nat_tests)

pub not_same_back : (a b : Rank) → lower a b ≡ true → same b a ≡ false
not_same_back a b h = grind (arith, nat_tests)

pub same_from : (a b : Rank) → lower a b ≡ false → lower b a ≡ false → same a b ≡ true
same_from a b h k = grind (arith, nat_tests)

pub lower_at_same : (a r b : Rank) → same a r ≡ true → lower a b ≡ lower r b
lower_at_same a r b h = grind (arith, nat_tests)
