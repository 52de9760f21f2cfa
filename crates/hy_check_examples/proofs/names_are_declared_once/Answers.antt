use Rattle.std.proofs.Common.{refl}
use Rattle.hy_grammar.specs.ExprSteps.{prefixed}
use Rattle.hy_grammar.specs.Machine.{step, finish, run}
use Rattle.hy_grammar.specs.Nodes as node
use Rattle.hy_check_examples.specs.Reader.{outcome, wanted}
use Rattle.hy_check_examples.proofs.names_are_declared_once.Goals as goal

pub returns-clause-unknown : goal.returns-clause-unknown
unfolding step finish run outcome wanted prefixed node.named_type node.self_type node.array_type node.types node.number node.truth node.named
    node.self_value node.empty_array node.parts node.array node.if_else node.member_step node.part_step node.call_step node.index_step node.postfix
    node.unary node.marked node.chain node.block node.binding node.declare node.assign node.compound node.evaluate node.discard node.if_only node.if_block
    node.while node.return_nothing node.return_value node.leave node.proceed node.yield_value node.param node.plain_variant node.variant node.callable
    node.product node.trait node.conformance node.member node.decl node.program
returns-clause-unknown c = (refl, (refl, (refl, (refl, (refl, (refl, tt))))))

pub returns-clause-twice : goal.returns-clause-twice
unfolding step finish run outcome wanted prefixed node.named_type node.self_type node.array_type node.types node.number node.truth node.named
    node.self_value node.empty_array node.parts node.array node.if_else node.member_step node.part_step node.call_step node.index_step node.postfix
    node.unary node.marked node.chain node.block node.binding node.declare node.assign node.compound node.evaluate node.discard node.if_only node.if_block
    node.while node.return_nothing node.return_value node.leave node.proceed node.yield_value node.param node.plain_variant node.variant node.callable
    node.product node.trait node.conformance node.member node.decl node.program
returns-clause-twice c = (refl, (refl, (refl, (refl, (refl, tt)))))

pub returns-clause-types : goal.returns-clause-types
unfolding step finish run outcome wanted prefixed node.named_type node.self_type node.array_type node.types node.number node.truth node.named
    node.self_value node.empty_array node.parts node.array node.if_else node.member_step node.part_step node.call_step node.index_step node.postfix
    node.unary node.marked node.chain node.block node.binding node.declare node.assign node.compound node.evaluate node.discard node.if_only node.if_block
    node.while node.return_nothing node.return_value node.leave node.proceed node.yield_value node.param node.plain_variant node.variant node.callable
    node.product node.trait node.conformance node.member node.decl node.program
returns-clause-types c = (refl, tt)

pub returns-clause-members : goal.returns-clause-members
unfolding step finish run outcome wanted prefixed node.named_type node.self_type node.array_type node.types node.number node.truth node.named
    node.self_value node.empty_array node.parts node.array node.if_else node.member_step node.part_step node.call_step node.index_step node.postfix
    node.unary node.marked node.chain node.block node.binding node.declare node.assign node.compound node.evaluate node.discard node.if_only node.if_block
    node.while node.return_nothing node.return_value node.leave node.proceed node.yield_value node.param node.plain_variant node.variant node.callable
    node.product node.trait node.conformance node.member node.decl node.program
returns-clause-members c = (refl, tt)

pub returns-clause-main : goal.returns-clause-main
unfolding step finish run outcome wanted prefixed node.named_type node.self_type node.array_type node.types node.number node.truth node.named
    node.self_value node.empty_array node.parts node.array node.if_else node.member_step node.part_step node.call_step node.index_step node.postfix
    node.unary node.marked node.chain node.block node.binding node.declare node.assign node.compound node.evaluate node.discard node.if_only node.if_block
    node.while node.return_nothing node.return_value node.leave node.proceed node.yield_value node.param node.plain_variant node.variant node.callable
    node.product node.trait node.conformance node.member node.decl node.program
returns-clause-main c = (refl, tt)

pub returns-clause-again : goal.returns-clause-again
unfolding step finish run outcome wanted prefixed node.named_type node.self_type node.array_type node.types node.number node.truth node.named
    node.self_value node.empty_array node.parts node.array node.if_else node.member_step node.part_step node.call_step node.index_step node.postfix
    node.unary node.marked node.chain node.block node.binding node.declare node.assign node.compound node.evaluate node.discard node.if_only node.if_block
    node.while node.return_nothing node.return_value node.leave node.proceed node.yield_value node.param node.plain_variant node.variant node.callable
    node.product node.trait node.conformance node.member node.decl node.program
returns-clause-again c = (refl, (refl, tt))
