use Rattle.std.proofs.Common.{[], ◌++◌, List, flat_map, map, sym, subst}
use Rattle.hy_tree.specs.Denotes.{callable_of, param_of, variant_of}
use Rattle.hy_tree.specs.declared.declaration.Param.{Param}
use Rattle.hy_tree.specs.declared.declaration.Variant.{Variant}
use Rattle.hy_signatures.specs.Declarations.{result_type}
use Rattle.hy_signatures.specs.Numbered.{IsNumber}
use Rattle.hy_check.specs.Facts.{param_facts, written_facts, variant_facts}
use Rattle.hy_check.specs.Known.{Learns}
use Rattle.hy_check.specs.KnownShown.{known_of}
use Rattle.hy_check.proofs.NotedTypes.{then_facts}
use Rattle.hy_check.proofs.checker.Checker.note_callable.Goals as goal

pub note_variants-requires-clause-number : goal.note_variants-requires-clause-number
note_variants-requires-clause-number c =
    let callable = callable_of c.args.c.now in (
      callable,
      subst (λ around. IsNumber c.note_result.new.self.types (result_type around.source callable.result) c.in_ok-id.id)
          (sym c.in_ok-id.ensures.learns.around) c.in_ok-id.ensures.number,
    )

pub returns-clause-learns : goal.returns-clause-learns
returns-clause-learns c =
    let callable = callable_of c.args.c.now in
    let number = subst (λ around. IsNumber c.note_result.new.self.types (result_type around.source callable.result) c.in_ok-id.id)
    (sym c.in_ok-id.ensures.learns.around) c.in_ok-id.ensures.number in
    let params = subst (λ (list : List Param). Learns (known_of c.args.self.now) (known_of c.note_params.new.self) []
    (flat_map (param_facts (known_of c.args.self.now).around.source) (map param_of list))) c.as_slice.ensures c.in_ok-note_params.ensures.learns in
    let variants = subst (λ (list : List Variant). Learns (known_of c.note_result.new.self) (known_of c.note_variants.new.self) []
    (flat_map (variant_facts (known_of c.note_result.new.self).around.source callable) (map variant_of list))) c.as_slice-2.ensures
    (c.in_ok-note_variants.ensures.learns callable number) in
    then_facts c.args.self.now c.note_params.new.self c.note_variants.new.self (λ source. flat_map (param_facts source) callable.params)
    (λ source. written_facts source callable.result ++ flat_map (variant_facts source callable) callable.variants) params
    (then_facts c.note_params.new.self c.note_result.new.self c.note_variants.new.self (λ source. written_facts source callable.result)
    (λ source. flat_map (variant_facts source callable) callable.variants) c.in_ok-id.ensures.learns variants)
