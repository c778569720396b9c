-- The numbers of the manners in which a record goes out. Assumes nothing.
use Rattle.std.specs.Prelude.{ℕ}
use Rattle.release.specs.declared.Manner.{Manner}
use Rattle.release.specs.declared.Manner.TheVariants.{Released, Reused, Suppressed}

abbrev pub manner_number : Manner → ℕ
manner_number Released = 1
manner_number Reused = 2
manner_number Suppressed = 3
