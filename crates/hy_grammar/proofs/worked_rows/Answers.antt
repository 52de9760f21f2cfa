use Rattle.std.proofs.Common.{refl}
use Rattle.hy_grammar.specs.Machine.{step, finish, run}
use Rattle.hy_grammar.specs.Nodes as node
use Rattle.hy_grammar.specs.Rows.{counted}
use Rattle.hy_grammar.proofs.worked_rows.Goals as goal

pub returns-clause-unclosed : goal.returns-clause-unclosed
unfolding step finish run counted node.program node.decl node.callable node.plain_variant node.block
returns-clause-unclosed c = refl

pub returns-clause-plus_goes_on : goal.returns-clause-plus_goes_on
unfolding step finish run counted node.program node.decl node.callable node.plain_variant node.block
returns-clause-plus_goes_on c = refl

pub returns-clause-minus_goes_on : goal.returns-clause-minus_goes_on
unfolding step finish run counted node.program node.decl node.callable node.plain_variant node.block
returns-clause-minus_goes_on c = refl

pub returns-clause-paren_begins : goal.returns-clause-paren_begins
unfolding step finish run counted node.program node.decl node.callable node.plain_variant node.block
returns-clause-paren_begins c = refl

pub returns-clause-no_separator : goal.returns-clause-no_separator
unfolding step finish run counted node.program node.decl node.callable node.plain_variant node.block
returns-clause-no_separator c = refl

pub returns-clause-semicolon : goal.returns-clause-semicolon
unfolding step finish run counted node.program node.decl node.callable node.plain_variant node.block
returns-clause-semicolon c = refl

pub returns-clause-no_last_semicolon : goal.returns-clause-no_last_semicolon
unfolding step finish run counted node.program node.decl node.callable node.plain_variant node.block
returns-clause-no_last_semicolon c = refl

pub returns-clause-return_alone : goal.returns-clause-return_alone
unfolding step finish run counted node.program node.decl node.callable node.plain_variant node.block
returns-clause-return_alone c = refl

pub returns-clause-return_value : goal.returns-clause-return_value
unfolding step finish run counted node.program node.decl node.callable node.plain_variant node.block
returns-clause-return_value c = refl

pub returns-clause-minus_begins : goal.returns-clause-minus_begins
unfolding step finish run counted node.program node.decl node.callable node.plain_variant node.block
returns-clause-minus_begins c = refl

pub returns-clause-break_outside : goal.returns-clause-break_outside
unfolding step finish run counted node.program node.decl node.callable node.plain_variant node.block
returns-clause-break_outside c = refl

pub returns-clause-one_comparison : goal.returns-clause-one_comparison
unfolding step finish run counted node.program node.decl node.callable node.plain_variant node.block
returns-clause-one_comparison c = refl

pub returns-clause-else_goes_on : goal.returns-clause-else_goes_on
unfolding step finish run counted node.program node.decl node.callable node.plain_variant node.block
returns-clause-else_goes_on c = refl
