-- The plain core that a core of the program stands for.
use Rattle.std.specs.Prelude.{List, [], ◌∷◌, map}
use Rattle.std.specs.Option.{option_map}
use Rattle.hy_core.specs.Plain as P
use Rattle.hy_core.specs.declared.program.Core.{Core}
use Rattle.hy_core.specs.declared.program.Checked.{Checked}
use Rattle.hy_core.specs.declared.program.CoreFun.{CoreFun}
use Rattle.hy_core.specs.declared.program.CoreParameter.{CoreParameter}
use Rattle.hy_core.specs.declared.program.CoreConvention.{CoreConvention}
use Rattle.hy_core.specs.declared.program.CoreConvention.TheVariants as convention
use Rattle.hy_core.specs.declared.program.CoreWay.{CoreWay}
use Rattle.hy_core.specs.declared.program.CoreWay.TheVariants as way
use Rattle.hy_core.specs.declared.program.CorePlace.{CorePlace}
use Rattle.hy_core.specs.declared.program.CoreStep.{CoreStep}
use Rattle.hy_core.specs.declared.program.CoreStep.TheVariants as step
use Rattle.hy_core.specs.declared.program.CoreOp.{CoreOp}
use Rattle.hy_core.specs.declared.program.CoreOp.TheVariants as op
use Rattle.hy_core.specs.declared.program.CoreStmt as S
use Rattle.hy_core.specs.declared.program.CoreStmt.{CoreStmt, Row_of-CoreStmt, end_of-CoreStmt, more_of-CoreStmt}

abbrev pub step_of : CoreStep → P.Step
step_of (step.Part k) = P.Part k
step_of (step.Index l s) = P.Index l s

abbrev pub place_of : CorePlace → P.Place
place_of p = record { local = p.local; steps = map step_of p.steps }

abbrev pub op_of : CoreOp → P.Operator
op_of op.Add = P.Add
op_of op.Sub = P.Sub
op_of op.Mul = P.Mul
op_of op.Div = P.Div
op_of op.Rem = P.Rem
op_of op.Neg = P.Neg
op_of (op.Convert t) = P.Convert t
op_of op.Eq = P.Eq
op_of op.Lt = P.Lt
op_of op.Le = P.Le
op_of op.Not = P.Not
op_of op.NewArray = P.NewArray
op_of op.Push = P.Push
op_of op.Pop = P.Pop
op_of op.Swap = P.Swap
op_of op.Count = P.Count
op_of op.FreeArray = P.FreeArray
op_of op.Print = P.Print
op_of op.Read = P.Read
op_of op.Check = P.Check

unfoldable mutual
  pub stmt_of : CoreStmt → P.Stmt
  stmt_of (S.Built o to from spans) = P.Built (op_of o) (option_map place_of to) (map place_of from) spans
  stmt_of (S.Set to value) = P.Set (place_of to) value
  stmt_of (S.Lend to place write) = P.Lend to (place_of place) write
  stmt_of (S.Close of) = P.Close of
  stmt_of (S.Move to from) = P.Move (place_of to) (place_of from)
  stmt_of (S.Copy to from) = P.Copy (place_of to) (place_of from)
  stmt_of (S.Drop place) = P.Drop (place_of place)
  stmt_of (S.Call fun lent owned to) = P.Call fun lent (map place_of owned) (place_of to)
  stmt_of (S.Project fun lent owned to) = P.Project fun lent (map place_of owned) to
  stmt_of (S.Slide of) = P.Slide of
  stmt_of (S.Yield of) = P.Yield of
  stmt_of (S.If' on _ yes' _ no') = P.If on (stmt_row yes') (stmt_row no')
  stmt_of (S.While' _ head on _ body) = P.While (stmt_row head) on (stmt_row body)
  stmt_of S.Break = P.Break
  stmt_of S.Continue = P.Continue
  stmt_of (S.Leave from) = P.Leave (place_of from)

  pub stmt_row : {n : _} → Row_of-CoreStmt n → P.Stmts
  stmt_row end_of-CoreStmt = P.Done
  stmt_row (more_of-CoreStmt s more) = P.Then (stmt_of s) (stmt_row more)

abbrev pub stmts_of : List CoreStmt → P.Stmts
stmts_of [] = P.Done
stmts_of (s ∷ more) = P.Then (stmt_of s) (stmts_of more)

abbrev pub way_of : CoreWay → P.Way
way_of way.Read = P.Reads
way_of way.Write = P.Writes

abbrev pub convention_of : CoreConvention → P.Convention
convention_of convention.Let = P.ByLet
convention_of convention.Inout = P.ByInout
convention_of convention.Set = P.BySet

abbrev pub parameter_of : CoreParameter → P.Parameter
parameter_of a = record { type = a.ty; convention = convention_of a.convention }

abbrev pub fun_of : CoreFun → P.Fun
fun_of f = record {
  lent = map parameter_of f.lent;
  owned = f.owned;
  result = f.result;
  locals = f.locals;
  yields = option_map way_of f.yields;
  body =
      stmts_of f.body;
}

abbrev pub core_of : Core → P.Core
core_of c = record {
  types = c.types;
  funs = map fun_of c.funs;
  spans = c.spans;
  deinits = map (λ d. record { product = d.0; fun = d.1 }) c.deinits.entries;
}

abbrev pub checked_of : Checked → P.Core
checked_of c = core_of c.core
