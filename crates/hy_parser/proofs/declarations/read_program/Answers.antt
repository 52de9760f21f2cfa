use Rattle.std.proofs.Common.{[], ◌∷◌, ◌++◌, length, Ok, map, refl, sym, ap, ◌∙◌, arith}
use Rattle.hy_tree.specs.Denotes as D
use Rattle.hy_grammar.specs.Machine.{walk}
use Rattle.std.proofs.lemmas.List.{map-append}
use Rattle.hy_grammar.specs.Stack.{FileReady}
use Rattle.hy_parser.proofs.DeclarationSteps.{file_ends}
use Rattle.hy_parser.proofs.Programs.{program_fails}
use Rattle.hy_phrases.proofs.Walks.{from_there}
use Rattle.hy_parser.proofs.declarations.read_program.Goals as goal

pub returns-in_err-made : goal.returns-in_err-made
returns-in_err-made c = program_fails _ _ _ c.from_residual.ensures.1
    (from_there _ _ _ c.decls.invariant.reads (c.in_err-made.ensures.reads (length c.args.all.now)
    (record { decls = map D.decl_of c.decls.decls; to = c.decls.to }) c.decls.invariant.within refl))

pub decls-preserved : goal.decls-preserved
decls-preserved c = record {
  within = omega arith;
  reads =
      let total = length c.args.all.now in
      let decls = map D.decl_of c.decls.decls in
      let made = c.in_ok-made.made in
      c.decls.invariant.reads ∙ c.in_ok-made.ensures.reads total (record { decls = decls; to = c.decls.to }) c.decls.invariant.within refl
      ∙ c.read_end-to.ensures.reads total (decls ++ D.decl_of made ∷ [])
      ∙ ap (λ all. walk total (FileReady all c.read_end-to.result) c.read_end-to.new.tokens.rest.now)
      (sym (ap (map D.decl_of) c.in_ok-push.ensures.ok ∙ map-append D.decl_of c.decls.decls (made ∷ [])));
}

pub returns : goal.returns
returns c = c.decls.invariant.reads
    ∙ file_ends (length c.args.all.now) (map D.decl_of c.decls.decls) c.decls.to c.decls.tokens.rest.now c.in_default.ensures.token
    ∙ ap Ok (sym c.program.ensures)
