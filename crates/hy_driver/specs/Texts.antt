-- The messages. Each is one line.
use Rattle.std.specs.Prelude.{ℕ, ◌+◌, ◌==◌, List, [], ◌∷◌, ◌++◌, take, count_by, fold, codes, if◌then◌else◌}
use Rattle.std.specs.Fmt.{decimal}
use Rattle.hy_base.specs.declared.position.Span.{Span}
use Rattle.hy_base.specs.declared.run.Counts.{Counts}
use Rattle.hy_base.specs.declared.run.TrapKind.{TrapKind}
use Rattle.hy_base.specs.declared.run.TrapKind.TheVariants as trap
use Rattle.hy_base.specs.First.{Refusal}
use Rattle.hy_base.specs.Rules.{name_of, text_of}
use Rattle.hy_object.specs.declared.stuck.Kind.{Kind}
use Rattle.hy_object.specs.declared.stuck.Kind.TheVariants as kind
use Rattle.hy_object.specs.declared.stuck.Pc.{Pc}

abbrev pub line : List ℕ → List ℕ
line text = text ++ 10 ∷ []

abbrev pub usage : List ℕ
usage = line (codes "usage: hyloc run FILE | exec FILE [--turns N] [--report]")

abbrev pub file_fault : List ℕ
file_fault = line (codes "hyloc: file fault")

abbrev pub input_fault : List ℕ
input_fault = line (codes "hyloc: input fault")

abbrev pub output_fault : List ℕ
output_fault = line (codes "hyloc: output fault")

abbrev pub out_of_memory : List ℕ
out_of_memory = line (codes "hyloc: out of memory")

-- LINE counts from 1
abbrev pub line_number : List ℕ → ℕ → ℕ
line_number bytes at = 1 + count_by (λ byte. byte == 10) (take at bytes)

-- COLUMN counts bytes from 1, in its line
abbrev pub column_number : List ℕ → ℕ → ℕ
column_number bytes at = fold (λ column byte. if byte == 10 then 1 else column + 1) 1 (take at bytes)

-- :LINE:COLUMN (FROM-TO):
abbrev pub place_text : ℕ → ℕ → Span → List ℕ
place_text line column span =
    codes ":" ++ (decimal line ++ (codes ":" ++ (decimal column ++ (codes " (" ++ (decimal span.from ++ (codes "-" ++ (decimal span.to ++ codes "): ")))))))

-- FILE:LINE:COLUMN (FROM-TO): and then this
abbrev pub located : List ℕ → List ℕ → Span → List ℕ → List ℕ
located file bytes span rest = file ++ (place_text (line_number bytes span.from) (column_number bytes span.from) span ++ rest)

-- two words and the end of the line
abbrev pub worded : List ℕ → List ℕ → List ℕ
worded word text = word ++ (codes " " ++ line text)

abbrev pub refusal_message : List ℕ → List ℕ → Refusal → List ℕ
refusal_message file bytes f = located file bytes f.span (worded (name_of f.rule) (text_of f.rule))

abbrev pub trap_text : TrapKind → List ℕ
trap_text trap.Overflow = codes "overflow"
trap_text trap.Divide = codes "divide by zero"
trap_text trap.Index = codes "index out of range"
trap_text trap.Empty = codes "empty array"
trap_text trap.Input = codes "bad input"
trap_text trap.Precondition = codes "precondition"

abbrev pub trap_message : List ℕ → List ℕ → TrapKind → Span → List ℕ
trap_message file bytes kind span = located file bytes span (worded (codes "trap") (trap_text kind))

abbrev pub spent_message : ℕ → List ℕ
spent_message n = codes "hyloc: spent after " ++ (decimal n ++ line (codes " turns"))

-- OBJECT FILES

-- FILE (FROM-TO): trap KIND
abbrev pub object_trap_message : List ℕ → TrapKind → Span → List ℕ
object_trap_message file why span =
    file ++ (codes " (" ++ (decimal span.from ++ (codes "-" ++ (decimal span.to ++ (codes "): trap " ++ line (trap_text why))))))

abbrev pub stuck_text : Kind → List ℕ
stuck_text kind.Freed = codes "freed"
stuck_text kind.Unset = codes "unset"
stuck_text kind.Range = codes "range"
stuck_text kind.Kind = codes "kind"
stuck_text kind.Access = codes "access"
stuck_text kind.Slot = codes "slot"
stuck_text kind.Lost = codes "lost"
stuck_text kind.Order = codes "order"

-- FILE: stuck KIND at FUN:AT
abbrev pub stuck_message : List ℕ → Kind → Pc → List ℕ
stuck_message file why place =
    file ++ (codes ": stuck " ++ (stuck_text why ++ (codes " at " ++ (decimal place.fun ++ (codes ":" ++ line (decimal place.at))))))

abbrev pub bad_object_message : List ℕ → ℕ → List ℕ
bad_object_message file place = file ++ (codes ": bad object at " ++ line (decimal place))

-- THE REPORT

abbrev pub count_line : List ℕ → ℕ → List ℕ
count_line name count = name ++ (codes " " ++ line (decimal count))

-- what a run has counted, in five lines
abbrev pub report_lines : Counts → List ℕ
report_lines counts =
    count_line (codes "turns") counts.turns ++ count_line (codes "blocks") counts.blocks ++ count_line (codes "freed") counts.freed ++ count_line
    (codes "opened") counts.opened
    ++ count_line (codes "closed") counts.closed
