use Rattle.hy_object.proofs.Joined.{fun_written}
use Rattle.hy_object.proofs.writing.put_fun.Goals as goal

pub returns : goal.returns
returns c =
    fun_written c.args.fun.now c.args.out.now.items _ _ _ _ c.in_ok-put_counts.ensures (rw c.len.ensures at c.in_ok-put_count.ensures)
    (rw c.as_slice.ensures at c.in_ok-put_code.ensures)
