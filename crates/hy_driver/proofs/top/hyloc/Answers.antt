use Rattle.hy_driver.proofs.Promised.{Laws, promises}
use Rattle.hy_driver.proofs.top.hyloc.Goals as goal

pub returns : goal.returns
returns g c =
    let laws : Laws = record {
      one_tree = c.one_tree.ensures;
      one_run = c.one_run.ensures;
      every_run_adds_up = c.every_run_adds_up.ensures;
      writes_beginnings = c.writes_beginnings.ensures;
      one_spelling = c.one_spelling.ensures;
      one_place = c.one_place.ensures;
    } in
    promises _ _ _ _ _ _ _ c.write_reply.result laws _ c.carry_out-reply.ensures.way c.write_reply.ensures c.carry_out-reply.ensures.files
