use Rattle.std.proofs.Common.{◌∙◌, ◌≡◌, ◌&&◌, false, not, ap, arith}
use Rattle.hy_store.proofs.Indexing.{apart_is}
use Rattle.hy_store.proofs.elements.is_apart.Goals as goal

pub returns-then-not-meets : goal.returns-then-not-meets
returns-then-not-meets c =
    let no : c.meets.result ≡ false = first_of (cc, grind arith) in
    apart_is c.args.range c.args.a c.args.b c.meets.result c.meets-then-not-meets.result c.meets.ensures c.meets-then-not-meets.ensures
    ∙ ap (λ t. not t && not c.meets-then-not-meets.result) no
