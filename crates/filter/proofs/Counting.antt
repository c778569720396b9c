-- How many lines were taken. Assumes nothing.
use Rattle.std.proofs.Common.{◌≡◌, List, [], ◌∷◌, map, length, is_ok, Ok, Err, filter, Result, refl, ap}
use Rattle.report.specs.declared.columns.Report.{Report}
use Rattle.report.specs.declared.faults.LineFault.{LineFault}
use Rattle.report.specs.Lines.{told}

-- what is told of the lines has as many taken
pub told_taken : (lines : List (Result Report LineFault)) → length (filter is_ok lines) ≡ length (filter is_ok (map told lines))
told_taken [] = refl
told_taken (Ok r ∷ lines) = ap (λ n. Prim.Native.Nat.suc n) (told_taken lines)
told_taken (Err f ∷ lines) = told_taken lines
