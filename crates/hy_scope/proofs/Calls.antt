-- How the first of some steps uses the name before it.
use Rattle.std.proofs.Common.{◌≡◌, ℕ, ℤ, List, [], ◌∷◌, Option, Some, None, slice_get, refl, sym, ap, ◌∙◌}
use Rattle.hy_tree.proofs.Equations.{call_step_is, index_step_is, member_step_is, part_step_is}
use Rattle.hy_tree.specs.Denotes.{placed, steps_of, step_kind_of, args_of}
use Rattle.hy_tree.specs.Findings.{Alone, Called, Indexed, use_before}
use Rattle.hy_tree.specs.Names.{labels_of_args}
use Rattle.hy_tree.specs.Tree as T
use Rattle.hy_tree.specs.declared.expression.Arg.{Arg}
use Rattle.hy_tree.specs.declared.expression.Step.{Step}
use Rattle.hy_tree.specs.declared.name.Name.{Name}
use Rattle.hy_tree.specs.declared.expression.StepKind.TheVariants as S

pub calls : (behind : List Step) (step : Step) (args : List Arg) → Some step ≡ slice_get behind 0 → step.kind ≡ S.Call args → use_before (steps_of behind)
    ≡ Called (labels_of_args (args_of args))
calls [] step args h k = absurd (cc)
calls (first ∷ more) step args h k =
    let e : step ≡ first = cc in
    ap (λ (kind : _). use_before (T.ThenStep (step_kind_of kind (placed first.span first.node)) (steps_of more))) ((λ i. (sym e i).kind) ∙ k)
    ∙ ap (λ s. use_before (T.ThenStep s (steps_of more))) (call_step_is args (placed first.span first.node))

pub indexes : (behind : List Step) (step : Step) (args : List Arg) → Some step ≡ slice_get behind 0 → step.kind ≡ S.Index args
    → use_before (steps_of behind) ≡ Indexed (labels_of_args (args_of args))
indexes [] step args h k = absurd (cc)
indexes (first ∷ more) step args h k =
    let e : step ≡ first = cc in
    ap (λ (kind : _). use_before (T.ThenStep (step_kind_of kind (placed first.span first.node)) (steps_of more))) ((λ i. (sym e i).kind) ∙ k)
    ∙ ap (λ s. use_before (T.ThenStep s (steps_of more))) (index_step_is args (placed first.span first.node))

pub member_alone : (behind : List Step) (step : Step) (name : Name) → Some step ≡ slice_get behind 0 → step.kind ≡ S.Member name
    → use_before (steps_of behind) ≡ Alone
member_alone [] step name h k = absurd (cc)
member_alone (first ∷ more) step name h k =
    let e : step ≡ first = cc in
    ap (λ (kind : _). use_before (T.ThenStep (step_kind_of kind (placed first.span first.node)) (steps_of more))) ((λ i. (sym e i).kind) ∙ k)
    ∙ ap (λ s. use_before (T.ThenStep s (steps_of more))) (member_step_is name (placed first.span first.node))

pub part_alone : (behind : List Step) (step : Step) (number : ℤ) → Some step ≡ slice_get behind 0 → step.kind ≡ S.Part number → use_before (steps_of behind)
    ≡ Alone
part_alone [] step number h k = absurd (cc)
part_alone (first ∷ more) step number h k =
    let e : step ≡ first = cc in
    ap (λ (kind : _). use_before (T.ThenStep (step_kind_of kind (placed first.span first.node)) (steps_of more))) ((λ i. (sym e i).kind) ∙ k)
    ∙ ap (λ s. use_before (T.ThenStep s (steps_of more))) (part_step_is number (placed first.span first.node))
