use Rattle.hy_signatures.specs.PlainTypes.{nothing_found}
use Rattle.std.proofs.Common.{false}
use Rattle.hy_signatures.specs.SignaturesShown.{callee_shown, receiver_shown}
use Rattle.hy_signatures.proofs.signatures.predeclared_signature.Goals as goal

pub returns : goal.returns
returns c table wanted type params gives = record {
  params = params.known;
  result = gives.known;
  known = tt;
  is = λ i. record {
    callee = callee_shown table c.args.callee;
    generics = 0;
    known = nothing_found;
    receiver = receiver_shown c.args.receiver;
    variants = c.in_ok-variants.ensures i;
    params = params.are i;
    result = gives.is i;
    is_subscript = false;
    is_bundle = false;
  };
}
