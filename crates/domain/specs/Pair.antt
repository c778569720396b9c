-- The pair of two domains: the attributes of the left one, then those of the right one. Assumes nothing.
use Rattle.std.specs.Prelude.{◌+◌, ◌-◌, cond, nat_lt}
use Rattle.std.proofs.Common.{le_trans, le-add_right}
use Rattle.domain.specs.Meaning.{Meaning}

abbrev pub pair_meaning : Meaning → Meaning → Meaning
pair_meaning m k = record {
  n = m.n + k.n;
  wide = le_trans m.wide (le-add_right m.n k.n);
  attribute = λ i. cond (nat_lt i m.n) (m.attribute i) (k.attribute (i - m.n));
}
