use Rattle.std.proofs.Common.{◌≡◌, [], ◌∷◌, rules}
use Rattle.hy_object.proofs.Joined.{object_written}
use Rattle.hy_object.proofs.writing.encode.Goals as goal

pub returns : goal.returns
returns c =
    let header : c.extend_from_slice.new.self.items ≡ 72 ∷ 89 ∷ 76 ∷ 79 ∷ 1 ∷ [] = search rules in
    object_written c.args.object.now (72 ∷ 89 ∷ 76 ∷ 79 ∷ 1 ∷ []) _ _ _ _ _ _ (rw (header, c.len.ensures) at c.in_ok-put_count.ensures)
    (rw c.as_slice.ensures at c.in_ok-put_spans.ensures) (rw c.len-2.ensures at c.in_ok-put_count-2.ensures)
    (rw c.as_slice-2.ensures at c.in_ok-put_funs.ensures)
