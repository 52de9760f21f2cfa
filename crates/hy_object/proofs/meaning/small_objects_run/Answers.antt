use Rattle.hy_object.proofs.SmallObjects as small
use Rattle.hy_object.proofs.meaning.small_objects_run.Goals as goal

pub returns-clause-words : goal.returns-clause-words
returns-clause-words c = small.words

pub returns-clause-input : goal.returns-clause-input
returns-clause-input c = small.input

pub returns-clause-turns : goal.returns-clause-turns
returns-clause-turns c = small.turns

pub returns-clause-calls : goal.returns-clause-calls
returns-clause-calls c = small.calls

pub returns-clause-accesses : goal.returns-clause-accesses
returns-clause-accesses c = small.accesses

pub returns-clause-subscripts : goal.returns-clause-subscripts
returns-clause-subscripts c = small.subscripts

pub returns-clause-arrays : goal.returns-clause-arrays
returns-clause-arrays c = small.arrays

pub returns-clause-safe : goal.returns-clause-safe
returns-clause-safe c = small.safe_and_balanced

pub returns-clause-programs : goal.returns-clause-programs
returns-clause-programs c = small.programs
