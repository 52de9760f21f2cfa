use Rattle.std.proofs.Common.{ap, sym, ◌∙◌}
use Rattle.hy_tree.specs.Denotes.{args_of}
use Rattle.hy_tree.specs.Findings.{callable_named, as_call, as_index}
use Rattle.hy_tree.specs.Names.{full_name, labels_of_args}
use Rattle.hy_scope.specs.Shown.{file_of, names_of}
use Rattle.hy_scope.proofs.Calls.{calls, indexes, member_alone, part_alone}
use Rattle.hy_scope.proofs.named.callable_named.Goals as goal

pub returns-in_ok-full-in-Call : goal.returns-in_ok-full-in-Call
returns-in_ok-full-in-Call c =
    c.as_call.ensures
    ∙ ap as_call (c.find.ensures ∙ ap (names_of c.args.file.now.callables) (c.as_slice-in-Call.ensures.value ∙ c.in_ok-full-in-Call.ensures
    ∙ ap (λ args. full_name c.args.name.now (labels_of_args (args_of args))) c.as_slice.ensures))
    ∙ ap (callable_named (file_of c.args.file.now) c.args.name.now) (sym (calls c.args.behind.now c.in-Some.step.now c.in-Call.args c.in-Some.ensures.value
    c.in-Call.is))

pub returns-in_ok-full-in-Index : goal.returns-in_ok-full-in-Index
returns-in_ok-full-in-Index c =
    c.as_index.ensures
    ∙ ap as_index (c.find-in-Index.ensures ∙ ap (names_of c.args.file.now.callables) (c.as_slice-in-Index-2.ensures.value ∙ c.in_ok-full-in-Index.ensures
    ∙ ap (λ args. full_name c.args.name.now (labels_of_args (args_of args))) c.as_slice-in-Index.ensures))
    ∙ ap (callable_named (file_of c.args.file.now) c.args.name.now)
    (sym (indexes c.args.behind.now c.in-Some.step.now c.in-Index.args c.in-Some.ensures.value c.in-Index.is))

pub returns-in-Member : goal.returns-in-Member
returns-in-Member c = ap (callable_named (file_of c.args.file.now) c.args.name.now)
    (sym (member_alone c.args.behind.now c.in-Some.step.now c.in-Member.field-0 c.in-Some.ensures.value c.in-Member.is))

pub returns-in-Part : goal.returns-in-Part
returns-in-Part c = ap (callable_named (file_of c.args.file.now) c.args.name.now)
    (sym (part_alone c.args.behind.now c.in-Some.step.now c.in-Part.field-0 c.in-Some.ensures.value c.in-Part.is))
