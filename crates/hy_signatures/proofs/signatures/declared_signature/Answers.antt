use Rattle.std.proofs.Common.{List, length, map, ap, ◌∙◌}
use Rattle.hy_tree.specs.Denotes.{variant_of}
use Rattle.hy_tree.specs.declared.declaration.TypeParam.{TypeParam}
use Rattle.hy_tree.specs.declared.declaration.Variant.{Variant}
use Rattle.hy_signatures.specs.PlainTypes.{nothing_found}
use Rattle.hy_signatures.specs.Signatures as S
use Rattle.hy_signatures.specs.SignaturesShown.{receiver_shown}
use Rattle.hy_signatures.proofs.signatures.declared_signature.Goals as goal

pub returns : goal.returns
returns c table source has =
    let params = c.in_ok-params.ensures table source has in
    let variants = c.in_ok-variants.ensures ∙ ap (λ (list : List Variant). S.modes_of (map variant_of list)) c.as_slice.ensures in
    record {
      params = params.known;
      result = has.result.known;
      known = tt;
      is = λ i. record {
        callee = S.Declared c.args.row.now.callable.now.node;
        generics = ap (λ (list : List TypeParam). length list) c.as_slice-2.ensures i;
        known = nothing_found;
        receiver = receiver_shown c.args.receiver;
        variants = variants i;
        params = params.are i;
        result = has.result.is i;
        is_subscript = c.is_subscript_kind.ensures i;
        is_bundle = c.is_method_bundle.ensures i;
      };
    }
