-- What a run has counted.
use Rattle.hy_base.specs.declared.run.Counts.{Counts}

-- before anything
abbrev pub no_counts : Counts
no_counts = record { turns = 0; blocks = 0; freed = 0; opened = 0; closed = 0 }
