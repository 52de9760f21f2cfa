use Rattle.std.proofs.Common.{sym, subst}
use Rattle.hy_tree.specs.Denotes.{variant_of}
use Rattle.hy_tree.specs.Tree as T
use Rattle.hy_signatures.specs.Declarations.{result_type}
use Rattle.hy_signatures.specs.Numbered.{IsNumber}
use Rattle.hy_signatures.proofs.Numbering.{number_kept}
use Rattle.hy_check.specs.Facts.{variant_facts}
use Rattle.hy_check.specs.KnownShown.{known_of}
use Rattle.hy_check.proofs.NotedTypes.{each_start, each_more, each_end, same_source}
use Rattle.hy_check.proofs.checker.Checker.note_variants.Goals as goal

pub loop-v-init : goal.loop-v-init
loop-v-init c callable number = each_start variant_of (λ source v. variant_facts source callable v) c.args.variants.now c.args.self.now c.requires.right

pub note_variant-requires-clause-right : goal.note_variant-requires-clause-right
note_variant-requires-clause-right c = let (callable, number) = c.requires.number in (c.loop-v.invariant callable number).right

pub note_variant-requires-clause-number : goal.note_variant-requires-clause-number
note_variant-requires-clause-number c =
    let (callable, number) = c.requires.number in
    let so = c.loop-v.invariant callable number in (
      callable,
      subst (λ source. IsNumber c.loop-v.self.types (result_type source callable.result) c.args.id)
          (sym (same_source variant_of (λ source v. variant_facts source callable v) c.args.variants.now c.args.self.now c.loop-v.self c.loop-v.v-index so))
          (number_kept c.args.self.now.types c.loop-v.self.types (result_type (known_of c.args.self.now).around.source callable.result) c.args.id
          so.learns.learns.stays number),
    )

pub loop-v-preserved : goal.loop-v-preserved
loop-v-preserved c callable number =
    let so = c.loop-v.invariant callable number in
    each_more variant_of (λ source v. variant_facts source callable v) c.args.variants.now c.args.self.now c.loop-v.self c.note_variant.new.self
    c.loop-v.v-index c.v-item.result c.v-item.is c.loop-v-test.true so c.in_ok-note_variant.ensures.right
    (c.in_ok-note_variant.ensures.learns callable
    (subst (λ source. IsNumber c.loop-v.self.types (result_type source callable.result) c.args.id)
    (sym (same_source variant_of (λ source v. variant_facts source callable v) c.args.variants.now c.args.self.now c.loop-v.self c.loop-v.v-index so))
    (number_kept c.args.self.now.types c.loop-v.self.types (result_type (known_of c.args.self.now).around.source callable.result) c.args.id
    so.learns.learns.stays number)))

pub returns-clause-right : goal.returns-clause-right
returns-clause-right c = let (callable, number) = c.requires.number in (c.loop-v.invariant callable number).right

pub returns-clause-learns : goal.returns-clause-learns
returns-clause-learns c callable number =
    each_end variant_of (λ source v. variant_facts source callable v) c.args.variants.now c.args.self.now c.loop-v.self c.loop-v.v-index
    c.loop-v-test.false (c.loop-v.invariant callable number)
