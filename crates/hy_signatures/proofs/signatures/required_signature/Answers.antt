use Rattle.std.proofs.Common.{[], ◌∷◌, ap, ◌∙◌}
use Rattle.hy_types.specs.Types.{type_of}
use Rattle.hy_signatures.specs.PlainTypes.{nothing_found, with_found}
use Rattle.hy_signatures.specs.Signatures as S
use Rattle.hy_signatures.proofs.signatures.required_signature.Goals as goal

pub returns : goal.returns
returns c table source has inside =
    let params = c.in_ok-params.ensures table source has in
    let variants = c.in_ok-variants.ensures ∙ ap (λ mode. mode ∷ []) c.effect_of.ensures in
    record {
      params = params.known;
      result = has.result.known;
      known = inside;
      is = λ i. record {
        callee = S.Required c.args.row.now.callable.now.node c.args.place;
        generics = 0;
        known = with_found 0 (type_of table c.args.id) nothing_found;
        receiver = S.SelfReceiver;
        variants = variants i;
        params = params.are i;
        result = has.result.is i;
        is_subscript = c.is_subscript_kind.ensures i;
        is_bundle = c.is_method_bundle.ensures i;
      };
    }
