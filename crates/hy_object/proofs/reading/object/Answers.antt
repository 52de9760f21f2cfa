use Rattle.std.proofs.Common.{◌∙◌, sym}
use Rattle.hy_object.proofs.Choices.{other, agreed}
use Rattle.hy_object.proofs.Runs.{is_done, goes_past}
use Rattle.hy_object.proofs.reading.object.Goals as goal

pub returns-then-not-is_empty : goal.returns-then-not-is_empty
returns-then-not-is_empty c =
    c.in_ok-rest.ensures _ ∙ c.in_ok-rest-2.ensures _ ∙ c.in_ok-span_count.ensures _ ∙ c.in_ok-spans.ensures _ ∙ c.in_ok-fun_count.ensures _
    ∙ c.in_ok-funs.ensures _
    ∙ goes_past _ _ (other _ 0 (sym c.is_empty.ensures ∙ c.if-not-is_empty.true))

pub returns : goal.returns
returns c =
    c.in_ok-rest.ensures _ ∙ c.in_ok-rest-2.ensures _ ∙ c.in_ok-span_count.ensures _ ∙ c.in_ok-spans.ensures _ ∙ c.in_ok-fun_count.ensures _
    ∙ c.in_ok-funs.ensures _
    ∙ is_done _ _ (agreed _ 0 (sym c.is_empty.ensures ∙ c.if-not-is_empty.false))
