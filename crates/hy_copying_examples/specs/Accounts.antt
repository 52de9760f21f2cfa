use Rattle.std.specs.Prelude.{List, [], ◌∷◌, codes}
use Rattle.hy_check_examples.specs.Programs.{accounts}
use Rattle.hy_copying_examples.specs.Rows.{Row, does, given, lines}

abbrev pub rows : List Row
rows =
    given (does (codes "200 / -1 / 100 / 895 / 145 / 1040 / 4") accounts 51 102) (lines (codes "3/7/9/200/9/7/300/9/7/100")) 26 ∷ []
