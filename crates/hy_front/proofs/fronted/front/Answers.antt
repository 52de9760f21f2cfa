use Rattle.std.proofs.Common.{◌≡◌, length, sym, subst}
use Rattle.hy_lexer.specs.Tokens.{HasTokens}
use Rattle.hy_grammar.specs.Parses as P
use Rattle.hy_tree.specs.Denotes.{program_of}
use Rattle.hy_tree.specs.Findings as N
use Rattle.hy_types.specs.declared.resolved.Resolved.{Resolved}
use Rattle.hy_tree.specs.declared.declaration.Program.{Program}
use Rattle.hy_front.specs.Phases.{IsTree}
use Rattle.hy_front.specs.Unbuilt as X
use Rattle.hy_front.proofs.Phased.{hands_on, answers_by, refused_by_grammar, refused_by_names, by_forms}
use Rattle.hy_front.proofs.fronted.front.Goals as goal

pub returns-in_err-tree : goal.returns-in_err-tree
returns-in_err-tree c =
    let bytes = c.args.bytes.now in
    let tokens = c.deref.result.now in
    let has : HasTokens bytes tokens = subst (HasTokens bytes) (sym c.deref.ensures.value) c.in_ok-tokens.ensures.1 in
    hands_on {T = Program} {U = Program} bytes (λ tree. IsTree bytes (program_of tree)) (P.Breaks tokens (length bytes))
    (λ tree. P.HasTree tokens (program_of tree)) (refused_by_grammar bytes c.if-bytes.false c.one_list_of_tokens.ensures tokens c.in_ok-tokens.ensures.0
    has)
    _ c.from_residual-in_err-tree.result c.from_residual-in_err-tree.ensures.1 c.in_err-tree.ensures.tree

pub returns-in_err-resolved : goal.returns-in_err-resolved
returns-in_err-resolved c =
    let bytes = c.args.bytes.now in
    let tokens = c.deref.result.now in
    let has : HasTokens bytes tokens = subst (HasTokens bytes) (sym c.deref.ensures.value) c.in_ok-tokens.ensures.1 in
    let tree = program_of c.in_ok-tree.tree in
    hands_on {T = Program} {U = Resolved} bytes (λ tree. IsTree bytes (program_of tree)) (N.Breaks tree) (λ resolved. resolved.meant.items ≡ N.meanings tree)
    (refused_by_names bytes c.if-bytes.false c.one_list_of_tokens.ensures tokens c.in_ok-tokens.ensures.0 has c.one_program.ensures tree
    c.in_ok-tree.ensures.tree.0 c.in_ok-tree.ensures.tree.1)
    _ c.from_residual-in_err-resolved.result c.from_residual-in_err-resolved.ensures.1 c.in_err-resolved.ensures

pub returns : goal.returns
returns c =
    let bytes = c.args.bytes.now in
    let tokens = c.deref.result.now in
    let has : HasTokens bytes tokens = subst (HasTokens bytes) (sym c.deref.ensures.value) c.in_ok-tokens.ensures.1 in
    let tree = program_of c.in_ok-tree.tree in
    answers_by bytes (λ tree. IsTree bytes (program_of tree)) (X.Breaks tree)
    (by_forms bytes c.if-bytes.false c.one_list_of_tokens.ensures tokens c.in_ok-tokens.ensures.0 has c.one_program.ensures tree c.in_ok-tree.ensures.tree.0
    c.in_ok-tree.ensures.tree.1 c.in_ok-resolved.ensures.0)
    c.accept.result (λ value sound same. record { sound = sound; read = (tokens, has, subst (P.HasTree tokens) (sym same) c.in_ok-tree.ensures.tree.1) })
    c.accept.ensures
