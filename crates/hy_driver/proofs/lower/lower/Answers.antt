use Rattle.std.proofs.Common.{[], ◌∷◌, ◌++◌, All, ◌∙◌, ap, subst, map, rules}
use Rattle.hy_object.specs.Grammar.{IsCount, IsSpan}
use Rattle.hy_meaning.specs.Forms.{main_of}
use Rattle.hy_tree.specs.Denotes.{program_of, decl_of, stmts_of}
use Rattle.hy_driver.specs.Lower.{variable, IsSized}
use Rattle.hy_driver.proofs.Grammar.{AreSizes}
use Rattle.hy_driver.proofs.Named.{named}
use Rattle.hy_driver.proofs.Extends.{compiles_as_put}
use Rattle.hy_driver.proofs.lower.lower.Goals as goal

pub returns : goal.returns
returns c =
    let tree = program_of c.args.tree.now in
    let words_count : IsCount c.in_ok-words.words = search rules in
    let sizes : AreSizes c.put.new.list c.block.new.self.spans c.in_ok-words.words = record {
      code_count = subst IsCount c.len.ensures c.in_ok-count.ensures.fits;
      span_count = subst IsCount c.len-2.ensures c.in_ok-count-2.ensures.fits;
      words_count = words_count;
      instrs = subst (All IsSized) c.as_slice-2.ensures c.read_sizes.ensures;
      in_order = subst (All IsSpan) c.as_slice-3.ensures (c.are_ordered.ensures c.if-not-are_ordered.false);
    } in
    compiles_as_put tree (stmts_of c.main_stmts.result.now) c.new-scope.result c.block.new.scope c.new.result c.block.new.self.code c.put.new.list
    c.new-2.result c.block.new.self.spans c.in_ok-words.words c.push.new.self
    (named tree c.requires.numbered.0 c.requires.numbered.1 c.requires.named c.requires.built) (c.main_stmts.ensures
    ∙ ap (λ decls. main_of (map decl_of decls)) c.as_slice.ensures) c.new-scope.ensures c.new.ensures c.new-2.ensures c.in_ok-block.ensures.scope
    c.in_ok-block.ensures.code c.in_ok-put.ensures c.in_ok-block.ensures.spans
    (c.in_ok-words.ensures ∙ ap variable c.len-3.ensures.count)
    (c.in_ok-push.ensures.ok
    ∙ ap (λ old. old ++ record { accesses = 0; owned = 0; result = 0; words = c.in_ok-words.words; slots = 0; code = c.put.new.list } ∷ [])
    c.new-funs.ensures)
    sizes
