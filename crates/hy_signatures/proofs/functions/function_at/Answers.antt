use Rattle.std.proofs.Common.{Option, Some, None, sym, ap, subst, ◌∙◌}
use Rattle.std.specs.Option.{option_map}
use Rattle.hy_tree.specs.Denotes.{callable_of}
use Rattle.hy_tree.specs.Tree as T
use Rattle.hy_signatures.specs.Signatures.{function_of}
use Rattle.hy_signatures.specs.SignaturesShown.{IsPerhaps}
use Rattle.hy_signatures.specs.declared.callables.CallableTypes.{CallableTypes}
use Rattle.hy_signatures.proofs.functions.function_at.Goals as goal

pub declared_signature-requires : goal.declared_signature-requires
declared_signature-requires c =
    let (table, source, are) = c.requires in
    (table, source, are.types c.args.node c.in-Some.row.now (sym c.in-Some.ensures))

pub returns-in_ok-s-in-Some : goal.returns-in_ok-s-in-Some
returns-in_ok-s-in-Some c table source are =
    subst (λ (found : Option T.Callable). IsPerhaps table (option_map (function_of source) found) (Some c.in_ok-s-in-Some.s))
    (ap (option_map (λ (row : CallableTypes). callable_of row.callable.now)) c.in-Some.ensures ∙ are.shown c.args.node)
    (c.in_ok-s-in-Some.ensures table source (are.types c.args.node c.in-Some.row.now (sym c.in-Some.ensures)))

pub returns-in-None : goal.returns-in-None
returns-in-None c table source are =
    subst (λ (found : Option T.Callable). IsPerhaps table (option_map (function_of source) found) None)
    (ap (option_map (λ (row : CallableTypes). callable_of row.callable.now)) c.in-None.ensures ∙ are.shown c.args.node) tt
