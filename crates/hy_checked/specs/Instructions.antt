-- Which part of the machine executes an instruction, and what the instruction takes of memory.
use Rattle.hy_object.specs.declared.instr.Instr.{Instr}
use Rattle.hy_object.specs.declared.instr.Instr.TheVariants as instr
use Rattle.hy_store.specs.Executes.{InPlace, MayRunOut, MemoryUse}

pub data Part : Type 0 where
  -- it prints or reads
  Outside : Part
  -- it says which instruction follows
  Control : Part
  -- it computes, copies or moves words
  Words : Part
  -- it uses an array or opens an access
  Arrays : Part

abbrev pub part_of : Instr → Part
part_of (instr.Const to value) = Words
part_of (instr.Copy to from words) = Words
part_of (instr.Move to from words) = Words
part_of (instr.Add to a b span) = Words
part_of (instr.Sub to a b span) = Words
part_of (instr.Mul to a b span) = Words
part_of (instr.Div to a b span) = Words
part_of (instr.Rem to a b span) = Words
part_of (instr.Neg to a span) = Words
part_of (instr.Eq to a b) = Words
part_of (instr.Lt to a b) = Words
part_of (instr.Le to a b) = Words
part_of (instr.Not to a) = Words
part_of (instr.Jump target) = Control
part_of (instr.JumpIf word target) = Control
part_of (instr.JumpUnless word target) = Control
part_of (instr.Call fun slot word) = Control
part_of (instr.Return word) = Control
part_of (instr.Project fun slot word into) = Control
part_of (instr.Yield slot) = Control
part_of (instr.Slide slot) = Control
part_of (instr.Lend slot p words way) = Arrays
part_of (instr.Elem slot p index width way span) = Arrays
part_of (instr.Close slot) = Control
part_of (instr.NewArray p) = Arrays
part_of (instr.Grow p width) = Arrays
part_of (instr.Push p word width) = Arrays
part_of (instr.Pop p word width span) = Arrays
part_of (instr.Swap p i j width span_i span_j) = Arrays
part_of (instr.Count to p) = Arrays
part_of (instr.FreeArray p) = Arrays
part_of (instr.Print word shown) = Outside
part_of (instr.Read to span) = Outside
part_of (instr.Check word span) = Words

-- Each part hands the instructions of those below it on: what may come to this one.
abbrev pub ComesTo : Part → Part → Type 0
ComesTo Outside part = Unit {0}
ComesTo Control Outside = ⊥
ComesTo Control Control = Unit {0}
ComesTo Control Words = Unit {0}
ComesTo Control Arrays = Unit {0}
ComesTo Words Outside = ⊥
ComesTo Words Control = ⊥
ComesTo Words Words = Unit {0}
ComesTo Words Arrays = Unit {0}
ComesTo Arrays Outside = ⊥
ComesTo Arrays Control = ⊥
ComesTo Arrays Words = ⊥
ComesTo Arrays Arrays = Unit {0}

abbrev pub memory_of : Instr → MemoryUse
memory_of (instr.Const to value) = InPlace
memory_of (instr.Copy to from words) = MayRunOut
memory_of (instr.Move to from words) = MayRunOut
memory_of (instr.Add to a b span) = InPlace
memory_of (instr.Sub to a b span) = InPlace
memory_of (instr.Mul to a b span) = InPlace
memory_of (instr.Div to a b span) = InPlace
memory_of (instr.Rem to a b span) = InPlace
memory_of (instr.Neg to a span) = InPlace
memory_of (instr.Eq to a b) = InPlace
memory_of (instr.Lt to a b) = InPlace
memory_of (instr.Le to a b) = InPlace
memory_of (instr.Not to a) = InPlace
memory_of (instr.Jump target) = InPlace
memory_of (instr.JumpIf word target) = InPlace
memory_of (instr.JumpUnless word target) = InPlace
memory_of (instr.Call fun slot word) = MayRunOut
memory_of (instr.Return word) = MayRunOut
memory_of (instr.Project fun slot word into) = MayRunOut
memory_of (instr.Yield slot) = MayRunOut
memory_of (instr.Slide slot) = InPlace
memory_of (instr.Lend slot p words way) = MayRunOut
memory_of (instr.Elem slot p index width way span) = MayRunOut
memory_of (instr.Close slot) = MayRunOut
memory_of (instr.NewArray p) = MayRunOut
memory_of (instr.Grow p width) = MayRunOut
memory_of (instr.Push p word width) = MayRunOut
memory_of (instr.Pop p word width span) = MayRunOut
memory_of (instr.Swap p i j width span_i span_j) = MayRunOut
memory_of (instr.Count to p) = InPlace
memory_of (instr.FreeArray p) = MayRunOut
memory_of (instr.Print word shown) = MayRunOut
memory_of (instr.Read to span) = InPlace
memory_of (instr.Check word span) = InPlace
