-- Which calls of the files in memory fail.
use Rattle.std.specs.Prelude.{ℕ, List}
use Rattle.hy_base.specs.declared.memory.MemFiles.{MemFiles}

-- the numbers of the calls that fail
abbrev pub files_failing : MemFiles → List ℕ
files_failing files = files.schedule.failing.items

-- the number of the next call
abbrev pub files_call : MemFiles → ℕ
files_call files = files.schedule.calls
