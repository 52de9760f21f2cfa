use Rattle.std.proofs.Common.{◌≡◌, ◌==◌, Some, List, refl, sym, ap, ◌∙◌, arith}
use Rattle.std.specs.Map.{lookup}
use Rattle.std.specs.Option.{option_copied, option_map}
use Rattle.hy_types.specs.declared.kinds.TyId.{TyId}
use Rattle.hy_types.specs.Words.{shape, itself}
use Rattle.hy_types.proofs.Knowing.{known_leaf, known_row, one_word}
use Rattle.hy_types.proofs.sizes.size_of.Goals as goal

pub total-requires-in-Some : goal.total-requires-in-Some
total-requires-in-Some c =
    c.requires.parts c.in-Product.declaration c.as_slice-in-Some.result.now (sym c.get.ensures.value ∙ ap option_copied c.in-Some.is
    ∙ ap Some (sym c.as_slice-in-Some.ensures))

pub returns-in-Sized : goal.returns-in-Sized
returns-in-Sized c =
    λ table id products right at. known_leaf table c.args.sizes.now id c.args.row.now 1 _ at (ap (shape table) c.in-Sized.is) refl (omega arith)

pub returns-in-Array : goal.returns-in-Array
returns-in-Array c =
    λ table id products right at. known_leaf table c.args.sizes.now id c.args.row.now 2 _ at (ap (shape table) c.in-Array.is) refl (omega arith)

pub returns-in-Param : goal.returns-in-Param
returns-in-Param c = λ table id products right at. (0, c.in-Param.field-0, id, itself, at ∙ ap Some c.in-Param.is)

pub returns-in-Tuple : goal.returns-in-Tuple
returns-in-Tuple c = λ table id products right at.
    known_row table c.args.sizes.now id c.args.row.now 0 c.as_slice.result.now at (ap (shape table) c.in-Tuple.is
    ∙ ap (λ ps. Some (0, ps)) (sym c.as_slice.ensures)) refl c.total.result (c.total.ensures table right)

pub returns-in-Some : goal.returns-in-Some
returns-in-Some c = λ table id products right at.
    let found : lookup (λ other. c.in-Product.declaration == other) c.args.products.now.entries ≡ Some c.as_slice-in-Some.result.now =
    sym c.get.ensures.value ∙ ap option_copied c.in-Some.is ∙ ap Some (sym c.as_slice-in-Some.ensures) in
    let shaped : shape table c.args.row.now ≡ Some (0, c.as_slice-in-Some.result.now) =
    ap (shape table) c.in-Product.is ∙ ap (λ es. option_map (λ ps. (0, ps)) (lookup (λ other. c.in-Product.declaration == other) es)) products
    ∙ ap (option_map (λ (ps : List TyId). (0, ps))) found in
    known_row table c.args.sizes.now id c.args.row.now 0 c.as_slice-in-Some.result.now at shaped refl c.total-in-Some.result
    (c.total-in-Some.ensures table right)

pub returns-in-Int : goal.returns-in-Int
returns-in-Int c =
    λ table id products right at. known_leaf table c.args.sizes.now id c.args.row.now 1 _ at (one_word table c.args.row.now c.in-Int.is) refl (omega arith)

pub returns-in-Int-2 : goal.returns-in-Int-2
returns-in-Int-2 c =
    λ table id products right at. known_leaf table c.args.sizes.now id c.args.row.now 1 _ at (one_word table c.args.row.now c.in-Int.is) refl (omega arith)
