use Rattle.hy_object.proofs.Numerals.{signed_fits}
use Rattle.hy_object.proofs.number.value.Goals as goal

pub value_of-requires : goal.value_of-requires
value_of-requires c = signed_fits c.in_ok-signed.signed c.args.bytes.now c.in_ok-signed.rest.now c.in_ok-signed.ensures
