-- A word of the command line, as bytes, and a command that names it.
use Rattle.std.proofs.Common.{◌≡◌, ◌<◌, ℕ, zero, suc, List, [], ◌∷◌, length, map, get_or, Option, Some, String, Global, string_bytes, ap, sym, ◌∙◌, arith}
use Rattle.hy_words.specs.declared.words.Options.{Options}
use Rattle.hy_words.specs.Asked.{Asked, ToRun, ToExec}
use Rattle.hy_words.specs.Reads.{word_at}

pub word_is : (words : List (String Global)) (k : ℕ) (word : String Global) → k < length words → word ≡ get_or words k word
    → string_bytes word ≡ word_at (map string_bytes words) k
word_is [] k word lt is = absurd (omega arith)
word_is (first ∷ words) zero word lt is = ap string_bytes is
word_is (first ∷ words) (suc k) word lt is = word_is words k word (omega arith) is

pub run_as : {asked : Option Asked} {file other : List ℕ} → asked ≡ Some (ToRun other) → file ≡ other → asked ≡ Some (ToRun file)
run_as {asked} {file} {other} is same = is ∙ ap (λ f. Some (ToRun f)) (sym same)

pub exec_as : {asked : Option Asked} {file other : List ℕ} {options : Options} → asked ≡ Some (ToExec other options) → file ≡ other
    → asked ≡ Some (ToExec file options)
exec_as {asked} {file} {other} {options} is same = is ∙ ap (λ f. Some (ToExec f options)) (sym same)
