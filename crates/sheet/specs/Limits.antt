-- How wide a sheet may be, how many rows it may have, and how long a row may become. Assumes nothing.
use Rattle.std.specs.Prelude.{ℕ}

abbrev pub max_width : ℕ
max_width = 6

abbrev pub max_rows : ℕ
max_rows = 4000000000

-- six ranges of 25 bytes and a comma each, a reading of 11 bytes, CR LF
abbrev pub max_row : ℕ
max_row = 169
