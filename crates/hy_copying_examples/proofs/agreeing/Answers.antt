use Rattle.std.proofs.Common.{refl}
use Rattle.std.specs.Fmt.{digits}
use Rattle.hy_grammar.specs.ExprSteps.{prefixed}
use Rattle.hy_grammar.specs.Machine.{step, finish, run}
use Rattle.hy_grammar.specs.Nodes as node
use Rattle.hy_copying_examples.specs.Agreeing.{Agree}
use Rattle.hy_copying_examples.proofs.agreeing.Goals as goal

pub returns : goal.returns
unfolding step finish run Agree prefixed digits node.named_type node.self_type node.array_type node.types node.number node.truth node.named
    node.self_value node.empty_array node.parts node.array node.if_else node.member_step node.part_step node.call_step node.index_step node.postfix
    node.unary node.marked node.chain node.block node.binding node.declare node.assign node.compound node.evaluate node.discard node.if_only node.if_block
    node.while node.return_nothing node.return_value node.leave node.proceed node.yield_value node.param node.plain_variant node.variant node.callable
    node.product node.trait node.conformance node.member node.decl node.program
returns c = (refl, (refl, (refl, (refl, (refl, (refl, tt))))))
