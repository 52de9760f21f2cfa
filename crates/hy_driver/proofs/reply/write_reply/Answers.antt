use Rattle.std.proofs.Common.{◌≡◌, length, inr, sym, ◌∙◌, rules}
use Rattle.hy_driver.specs.Message.{bytes_of_message}
use Rattle.hy_driver.proofs.Writing.{fails_alone, no_bytes}
use Rattle.hy_driver.proofs.reply.write_reply.Goals as goal

pub returns : goal.returns
returns g c =
    let empty : length c.as_bytes.result.now ≡ 0 = search rules in
    inr (record {
      fails = fails_alone (bytes_of_message c.args.reply.message) (bytes_of_message c.args.reply.lines) _ _ _ _ _ _ _ _ c.put.result
          c.in-Err.ensures.some (sym c.as_bytes.ensures ∙ no_bytes c.as_bytes.result.now empty)
          c.in-Ok.ensures.faults c.in-Err.ensures.faults c.put.ensures.faults c.in-Ok.ensures.bytes c.in-Err.ensures.bytes
          (rw c.as_bytes-2.ensures.value at c.put.ensures.bytes);
      status = c.output_failed-2.ensures.status;
      object = c.output_failed-2.ensures.object;
      counts = c.output_failed-2.ensures.counts;
    })
