use Rattle.std.proofs.Common.{rules, map, [], ◌∷◌, ◌++◌, refl, ap, subst, sym, ◌∙◌}
use Rattle.hy_lexer.specs.declared.token.TokenKind.TheVariants as k
use Rattle.hy_tree.specs.Denotes.{expr_of, stmt_of, block_of, branch_of}
use Rattle.hy_grammar.specs.Machine.{walk}
use Rattle.hy_grammar.specs.Nodes as node
use Rattle.hy_grammar.specs.OperandSteps.{beginning}
use Rattle.hy_statements.specs.ReadsStatements.{Site, LoopSite, Opened, Braces, with_stmt}
use Rattle.hy_grammar.specs.Stack.{ForTarget, ForBranch, ForLoop, ForYield, BindingWord, DiscardWord, ReturnWord, BlockOpened, StmtWanted, Operand}
use Rattle.hy_grammar.specs.StmtSteps.{blocked}
use Rattle.hy_phrases.specs.Wanted.{Sees}
use Rattle.hy_statements.specs.declared.statement_words.StmtWord.TheVariants as word
use Rattle.hy_statements.proofs.BlockSteps.{closes_empty, to_first, made_block, loop_braces, branch_braces, else_braces, unbraced, braced}
use Rattle.hy_statements.proofs.StatementNodes.{block_at}
use Rattle.hy_statements.proofs.StatementSteps.{to_word, to_target, to_else, to_else_if, no_else}
use Rattle.hy_phrases.proofs.Chained.{pushed}
use Rattle.hy_statements.proofs.StatementWalks.{starts, comes, over, turns, stays, reads, values, reads_stmt, fails, goes_on}
use Rattle.hy_phrases.proofs.Walks.{passes}
use Rattle.hy_statements.proofs.blocks.+blocks.Goals as goal

-- ---- blocks

pub read_block-returns-in-Some-clause-reads : goal.read_block-returns-in-Some-clause-reads
read_block-returns-in-Some-clause-reads t c = λ total x fits.
    closes_empty x.place (starts fits) c.in-Some.ensures.token
    ∙ made_block x.place total c.args.brace [] c.in-Some.close (block_of c.block.result) c.take.new.self.rest.now x.opens (c.block.ensures
    ∙ ap (λ ss. node.block c.args.brace (map stmt_of ss) c.in-Some.close) c.new-stmts.ensures)

pub read_block-stmts-init : goal.read_block-stmts-init
read_block-stmts-init t c = record {
  within = search rules;
  reads = λ total x fits.
      let lacks = c.in_default.ensures.token in
      let g = stays (turns (starts fits) (to_first x.place _ lacks.0)) lacks.1 in
      rw c.new-stmts.ensures g.same;
}

pub read_block-returns-in_err-stmt-clause-reads : goal.read_block-returns-in_err-stmt-clause-reads
read_block-returns-in_err-stmt-clause-reads t c =
    passes c.args.levels block_of (λ (x : Opened c.args.brace c.args.looping). BlockOpened x.place) (λ block x. blocked block x.place) _ _
    c.from_residual.result _ c.from_residual.ensures.1
    (λ total x fits.
    let site : LoopSite c.args.looping = record { site = record { before = map stmt_of c.stmts.stmts; place = x.place }; loops = x.loops } in
    fails _ (comes (c.stmts.invariant.reads total x fits) fits) (c.in_err-stmt.ensures.reads total site))

pub read_block-returns-in_err-close-clause-reads : goal.read_block-returns-in_err-close-clause-reads
read_block-returns-in_err-close-clause-reads t c =
    passes c.args.levels block_of (λ (x : Opened c.args.brace c.args.looping). BlockOpened x.place) (λ block x. blocked block x.place) _ _
    c.from_residual-in_err-close.result _ c.from_residual-in_err-close.ensures.1
    (λ total x fits.
    let site : LoopSite c.args.looping = record { site = record { before = map stmt_of c.stmts.stmts; place = x.place }; loops = x.loops } in
    let after : Site = record { before = map stmt_of c.stmts.stmts ++ stmt_of c.in_ok-stmt.stmt ∷ []; place = x.place } in
    fails _ (reads (comes (c.stmts.invariant.reads total x fits) fits) (c.in_ok-stmt.ensures.reads total site) refl)
    (c.in_err-close.ensures.reads c.args.levels total after))

pub read_block-returns-in-Some-2-clause-reads : goal.read_block-returns-in-Some-2-clause-reads
read_block-returns-in-Some-2-clause-reads t c = λ total x fits.
    let site : LoopSite c.args.looping = record { site = record { before = map stmt_of c.stmts.stmts; place = x.place }; loops = x.loops } in
    let after : Site = record { before = map stmt_of c.stmts.stmts ++ stmt_of c.in_ok-stmt.stmt ∷ []; place = x.place } in
    let g = reads (comes (c.stmts.invariant.reads total x fits) fits) (c.in_ok-stmt.ensures.reads total site) refl in
    let list = pushed stmt_of c.stmts.stmts c.push.new.self c.in_ok-stmt.stmt _ c.in_ok-push.ensures.ok refl in
    let ended = rw c.in-Some-2.is at (c.in_ok-close.ensures.reads c.args.levels total after g.fits) in
    g.same ∙ ended
    ∙ made_block x.place total c.args.brace after.before c.in-Some-2.close (block_of c.block-in-Some-2.result) c.read_separator.new.tokens.rest.now x.opens
    (c.block-in-Some-2.ensures ∙ ap (λ ss. node.block c.args.brace ss c.in-Some-2.close) list)

pub read_block-stmts-preserved : goal.read_block-stmts-preserved
read_block-stmts-preserved t c = record {
  within = search rules;
  reads = λ total x fits.
      let site : LoopSite c.args.looping = record { site = record { before = map stmt_of c.stmts.stmts; place = x.place }; loops = x.loops } in
      let after : Site = record { before = map stmt_of c.stmts.stmts ++ stmt_of c.in_ok-stmt.stmt ∷ []; place = x.place } in
      let g = reads (comes (c.stmts.invariant.reads total x fits) fits) (c.in_ok-stmt.ensures.reads total site) refl in
      let list = pushed stmt_of c.stmts.stmts c.push.new.self c.in_ok-stmt.stmt _ c.in_ok-push.ensures.ok refl in
      let next = rw c.in_default-2.is at (c.in_ok-close.ensures.reads c.args.levels total after g.fits) in
      g.same ∙ next ∙ ap (λ ss. walk total (StmtWanted ss x.place) c.read_separator.new.tokens.rest.now) (sym list);
}

pub read_braces-returns-in_err-brace-clause-reads : goal.read_braces-returns-in_err-brace-clause-reads
read_braces-returns-in_err-brace-clause-reads t c =
    passes c.args.levels block_of (λ (x : Braces c.args.looping c.args.tokens.now.rest.now). x.need) (λ block x. x.behind block) _ _ c.from_residual.result
    _ c.from_residual.ensures.1
    (λ total x fits. unbraced c.args.looping c.args.levels total _ x _ fits c.in_err-brace.ensures.token)

pub read_braces-returns-clause-reads : goal.read_braces-returns-clause-reads
read_braces-returns-clause-reads t c =
    let opened = c.in_ok-brace.ensures.token in
    braced c.args.looping c.args.levels c.in_ok-brace.inner c.args.tokens.now.rest.now c.open.new.self.rest.now c.read_block.new.tokens.rest.now
    c.in_ok-brace.brace c.read_block.result opened.1 opened.0 c.read_block.ensures.reads

-- ---- `while`

pub read_while-returns-in_err-body-clause-reads : goal.read_while-returns-in_err-body-clause-reads
read_while-returns-in_err-body-clause-reads t c =
    passes c.args.levels stmt_of (λ x. Operand (beginning (ForLoop c.args.word x.before x.place))) with_stmt _ _ c.from_residual-in_err-body.result _
    c.from_residual-in_err-body.ensures.1
    (λ total x fits.
    let condition = c.in_ok-condition.ensures.reads total (ForLoop c.args.word x.before x.place) in
    let body = c.in_err-body.ensures.reads total (loop_braces x.before x.place c.args.word (expr_of c.in_ok-condition.condition) _) in
    fails _ (values (starts fits) condition) body)

pub read_while-returns-clause-reads : goal.read_while-returns-clause-reads
read_while-returns-clause-reads t c = λ total x fits.
    let condition = c.in_ok-condition.ensures.reads total (ForLoop c.args.word x.before x.place) in
    let body = c.in_ok-body.ensures.reads total (loop_braces x.before x.place c.args.word (expr_of c.in_ok-condition.condition) _) in
    reads_stmt x _ (reads (values (starts fits) condition) body refl) c.repeat.ensures

-- ---- `if`

pub read_if-returns-in_err-body-clause-reads : goal.read_if-returns-in_err-body-clause-reads
read_if-returns-in_err-body-clause-reads t c =
    passes c.args.levels stmt_of
    (λ (x : LoopSite c.args.looping). Operand (beginning (ForBranch c.args.first.from [] c.args.first x.site.before x.site.place)))
    (λ stmt x. with_stmt stmt x.site) _ _ c.from_residual-in_err-body.result _ c.from_residual-in_err-body.ensures.1
    (λ total x fits.
    let condition =
    c.in_ok-condition.ensures.reads total (ForBranch c.args.first.from (map branch_of c.branches.branches) c.branches.word x.site.before
    x.site.place) in
    let g = values (comes (c.branches.invariant.reads total x fits) fits) condition in
    fails _ g (c.in_err-body.ensures.reads total (branch_braces x.site.before x.site.place c.args.first.from (map branch_of c.branches.branches) x.loops
    c.branches.word (expr_of c.in_ok-condition.condition) _)))

pub read_if-returns-in_default-clause-reads : goal.read_if-returns-in_default-clause-reads
read_if-returns-in_default-clause-reads t c = λ total x fits.
    let condition =
    c.in_ok-condition.ensures.reads total (ForBranch c.args.first.from (map branch_of c.branches.branches) c.branches.word x.site.before
    x.site.place) in
    let g = values (comes (c.branches.invariant.reads total x fits) fits) condition in
    let body = reads g
    (c.in_ok-body.ensures.reads total (branch_braces x.site.before x.site.place c.args.first.from (map branch_of c.branches.branches) x.loops
    c.branches.word (expr_of c.in_ok-condition.condition) _)) refl in
    let list = pushed branch_of c.branches.branches c.push.new.self c.branch-word.result _ c.in_ok-push.ensures.ok c.branch-word.ensures in
    let lacks = c.in_default.ensures.token in
    let to = ap (λ at. at.span.to) (block_at c.in_ok-body.body) in
    reads_stmt x.site _ (stays (turns body (no_else x.site.before x.site.place c.args.first.from _ _ _ lacks.0)) lacks.1) (c.if_only.ensures
    ∙ (λ i. node.if_only c.args.first.from (list i) (sym to i)))

pub read_if-returns-in_err-otherwise-clause-reads : goal.read_if-returns-in_err-otherwise-clause-reads
read_if-returns-in_err-otherwise-clause-reads t c =
    passes c.args.levels stmt_of
    (λ (x : LoopSite c.args.looping). Operand (beginning (ForBranch c.args.first.from [] c.args.first x.site.before x.site.place)))
    (λ stmt x. with_stmt stmt x.site) _ _ c.from_residual-in_err-otherwise.result _ c.from_residual-in_err-otherwise.ensures.1
    (λ total x fits.
    let condition =
    c.in_ok-condition.ensures.reads total (ForBranch c.args.first.from (map branch_of c.branches.branches) c.branches.word x.site.before
    x.site.place) in
    let g = values (comes (c.branches.invariant.reads total x fits) fits) condition in
    let body = reads g
    (c.in_ok-body.ensures.reads total (branch_braces x.site.before x.site.place c.args.first.from (map branch_of c.branches.branches) x.loops
    c.branches.word (expr_of c.in_ok-condition.condition) _)) refl in
    let list = pushed branch_of c.branches.branches c.push.new.self c.branch-word.result _ c.in_ok-push.ensures.ok c.branch-word.ensures in
    let lacks = c.in_default-take.ensures.token in
    let after = stays (over body (to_else x.site.before x.site.place c.args.first.from _ c.in-Some.ensures.token)) lacks.1 in
    let braces = else_braces x.site.before x.site.place c.args.first.from
    (map branch_of c.branches.branches ++ node.branch c.branches.word (expr_of c.in_ok-condition.condition) (block_of c.in_ok-body.body) ∷ []) x.loops
    c.take-in-branches.new.self.rest.now (subst (λ l. Sees k.If l → ⊥) (sym lacks.1) lacks.0) in
    fails _ after (c.in_err-otherwise.ensures.reads total braces))

pub read_if-returns-in_default-take-clause-reads : goal.read_if-returns-in_default-take-clause-reads
read_if-returns-in_default-take-clause-reads t c = λ total x fits.
    let condition =
    c.in_ok-condition.ensures.reads total (ForBranch c.args.first.from (map branch_of c.branches.branches) c.branches.word x.site.before
    x.site.place) in
    let g = values (comes (c.branches.invariant.reads total x fits) fits) condition in
    let body = reads g
    (c.in_ok-body.ensures.reads total (branch_braces x.site.before x.site.place c.args.first.from (map branch_of c.branches.branches) x.loops
    c.branches.word (expr_of c.in_ok-condition.condition) _)) refl in
    let list = pushed branch_of c.branches.branches c.push.new.self c.branch-word.result _ c.in_ok-push.ensures.ok c.branch-word.ensures in
    let lacks = c.in_default-take.ensures.token in
    let after = stays (over body (to_else x.site.before x.site.place c.args.first.from _ c.in-Some.ensures.token)) lacks.1 in
    let braces = else_braces x.site.before x.site.place c.args.first.from
    (map branch_of c.branches.branches ++ node.branch c.branches.word (expr_of c.in_ok-condition.condition) (block_of c.in_ok-body.body) ∷ []) x.loops
    c.take-in-branches.new.self.rest.now (subst (λ l. Sees k.If l → ⊥) (sym lacks.1) lacks.0) in
    reads_stmt x.site _ (reads after (c.in_ok-otherwise.ensures.reads total braces) refl) (c.if_block.ensures
    ∙ ap (λ bs. node.if_block c.args.first.from bs (block_of c.in_ok-otherwise.otherwise)) list)

pub read_if-branches-preserved : goal.read_if-branches-preserved
read_if-branches-preserved t c = record {
  within = search rules;
  reads = λ total x fits.
      let condition =
      c.in_ok-condition.ensures.reads total (ForBranch c.args.first.from (map branch_of c.branches.branches) c.branches.word x.site.before
      x.site.place) in
      let g = values (comes (c.branches.invariant.reads total x fits) fits) condition in
      let body = reads g
      (c.in_ok-body.ensures.reads total (branch_braces x.site.before x.site.place c.args.first.from (map branch_of c.branches.branches) x.loops
      c.branches.word (expr_of c.in_ok-condition.condition) _)) refl in
      let list = pushed branch_of c.branches.branches c.push.new.self c.branch-word.result _ c.in_ok-push.ensures.ok c.branch-word.ensures in
      let next = over (over body (to_else x.site.before x.site.place c.args.first.from _ c.in-Some.ensures.token))
      (to_else_if x.site.before x.site.place c.args.first.from _ c.in-Some-take.ensures.token) in
      next.same ∙ ap (λ bs. walk total (Operand (beginning (ForBranch c.args.first.from bs c.in-Some-take.next x.site.before x.site.place)))
      c.take-in-branches.new.self.rest.now) (sym list);
}

-- ---- statements

pub read_stmt-returns-in_default-clause-reads : goal.read_stmt-returns-in_default-clause-reads
read_stmt-returns-in_default-clause-reads t c =
    let lacks = c.in_default.ensures.token in
    goes_on c.args.levels stmt_of (λ (x : LoopSite c.args.looping). StmtWanted x.site.before x.site.place) (λ stmt x. with_stmt stmt x.site)
    (λ x. Operand (beginning (ForTarget x.before x.place))) with_stmt (λ x. x.site) _ _ _ c.read_target.result
    (λ total x fits. stays (turns (starts fits) (to_target x.site.before x.site.place _ x.loops lacks.0)) lacks.1)
    (λ stmt x. refl) c.read_target.ensures.reads

pub read_stmt-returns-in-Bind-clause-reads : goal.read_stmt-returns-in-Bind-clause-reads
read_stmt-returns-in-Bind-clause-reads t c =
    goes_on c.args.levels stmt_of (λ (x : LoopSite c.args.looping). StmtWanted x.site.before x.site.place) (λ stmt x. with_stmt stmt x.site)
    (λ x. BindingWord c.in-Bind.introducer c.in-Some.span x.before x.place) with_stmt (λ x. x.site) _ _ _ c.read_binding.result
    (λ total x fits. over (starts fits) (to_word x.site.before x.site.place (word.Bind c.in-Bind.introducer) c.in-Bind.is x.loops c.in-Some.ensures.token))
    (λ stmt x. refl) c.read_binding.ensures.reads

pub read_stmt-returns-in-Discard-clause-reads : goal.read_stmt-returns-in-Discard-clause-reads
read_stmt-returns-in-Discard-clause-reads t c =
    goes_on c.args.levels stmt_of (λ (x : LoopSite c.args.looping). StmtWanted x.site.before x.site.place) (λ stmt x. with_stmt stmt x.site)
    (λ x. DiscardWord c.in-Some.span x.before x.place) with_stmt (λ x. x.site) _ _ _ c.read_discard.result
    (λ total x fits. over (starts fits) (to_word x.site.before x.site.place word.Discard c.in-Discard.is x.loops c.in-Some.ensures.token)) (λ stmt x. refl)
    c.read_discard.ensures.reads

pub read_stmt-returns-in-If-clause-reads : goal.read_stmt-returns-in-If-clause-reads
read_stmt-returns-in-If-clause-reads t c =
    goes_on c.args.levels stmt_of (λ (x : LoopSite c.args.looping). StmtWanted x.site.before x.site.place) (λ stmt x. with_stmt stmt x.site)
    (λ (x : LoopSite c.args.looping). Operand (beginning (ForBranch c.in-Some.span.from [] c.in-Some.span x.site.before x.site.place)))
    (λ stmt x. with_stmt stmt x.site) (λ x. x) _ _ _ c.read_if.result
    (λ total x fits. over (starts fits) (to_word x.site.before x.site.place word.If c.in-If.is x.loops c.in-Some.ensures.token)) (λ stmt x. refl)
    c.read_if.ensures.reads

pub read_stmt-returns-in-While-clause-reads : goal.read_stmt-returns-in-While-clause-reads
read_stmt-returns-in-While-clause-reads t c =
    goes_on c.args.levels stmt_of (λ (x : LoopSite c.args.looping). StmtWanted x.site.before x.site.place) (λ stmt x. with_stmt stmt x.site)
    (λ x. Operand (beginning (ForLoop c.in-Some.span x.before x.place))) with_stmt (λ x. x.site) _ _ _ c.read_while.result
    (λ total x fits. over (starts fits) (to_word x.site.before x.site.place word.While c.in-While.is x.loops c.in-Some.ensures.token)) (λ stmt x. refl)
    c.read_while.ensures.reads

pub read_stmt-returns-in-Return-clause-reads : goal.read_stmt-returns-in-Return-clause-reads
read_stmt-returns-in-Return-clause-reads t c =
    goes_on c.args.levels stmt_of (λ (x : LoopSite c.args.looping). StmtWanted x.site.before x.site.place) (λ stmt x. with_stmt stmt x.site)
    (λ x. ReturnWord c.in-Some.span x.before x.place) with_stmt (λ x. x.site) _ _ _ c.read_return.result
    (λ total x fits. over (starts fits) (to_word x.site.before x.site.place word.Return c.in-Return.is x.loops c.in-Some.ensures.token)) (λ stmt x. refl)
    c.read_return.ensures.reads

pub read_stmt-returns-in-Break-clause-reads : goal.read_stmt-returns-in-Break-clause-reads
read_stmt-returns-in-Break-clause-reads t c = λ total x fits.
    reads_stmt x.site _ (over (starts fits) (to_word x.site.before x.site.place word.Break c.in-Break.is x.loops c.in-Some.ensures.token)) c.leave.ensures

pub read_stmt-returns-in-Continue-clause-reads : goal.read_stmt-returns-in-Continue-clause-reads
read_stmt-returns-in-Continue-clause-reads t c = λ total x fits.
    reads_stmt x.site _ (over (starts fits) (to_word x.site.before x.site.place word.Continue c.in-Continue.is x.loops c.in-Some.ensures.token))
    c.proceed.ensures

pub read_stmt-returns-in-Yield-clause-reads : goal.read_stmt-returns-in-Yield-clause-reads
read_stmt-returns-in-Yield-clause-reads t c =
    goes_on c.args.levels stmt_of (λ (x : LoopSite c.args.looping). StmtWanted x.site.before x.site.place) (λ stmt x. with_stmt stmt x.site)
    (λ x. Operand (beginning (ForYield c.in-Some.span x.before x.place))) with_stmt (λ x. x.site) _ _ _ c.read_yield.result
    (λ total x fits. over (starts fits) (to_word x.site.before x.site.place word.Yield c.in-Yield.is x.loops c.in-Some.ensures.token)) (λ stmt x. refl)
    c.read_yield.ensures.reads
