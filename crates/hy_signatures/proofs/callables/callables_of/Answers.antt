use Rattle.std.proofs.Common.{◌≡◌, map, Option, Some, None, sym, ap, ◌∙◌}
use Rattle.std.specs.Option.{option_map}
use Rattle.hy_tree.specs.Denotes.{callable_of, decl_of}
use Rattle.hy_tree.specs.Names.{or}
use Rattle.hy_signatures.specs.Declarations.{callable_at}
use Rattle.hy_signatures.specs.declared.callables.CallableTypes.{CallableTypes}
use Rattle.hy_signatures.proofs.callables.callables_of.Goals as goal

pub returns-clause-callables : goal.returns-clause-callables
returns-clause-callables c = record {
  shown = λ node. c.in_ok-put_decls.ensures.shown node
      ∙ ap (λ (row : Option CallableTypes). or (option_map (λ (r : CallableTypes). callable_of r.callable.now) row)
      (callable_at node (map decl_of c.args.source.now.decls.now))) (c.new-callables.ensures node);
  types = c.in_ok-put_decls.ensures.types
      (λ node row at. let never : None ≡ Some row = sym (c.new-callables.ensures node) ∙ at in absurd (cc));
}
