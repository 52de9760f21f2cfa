use Rattle.std.proofs.Common.{◌+◌, ◌-◌, ◌&&◌, ◌∙◌, Bool, ap, sym}
use Rattle.hy_object.specs.Checks.{is_nameless}
use Rattle.hy_object.specs.States.{Range}
use Rattle.hy_store.proofs.Emptied.{leaves_none_is}
use Rattle.hy_store.proofs.store.Store.leaves_none.Goals as goal

pub returns-then-is_nameless : goal.returns-then-is_nameless
returns-then-is_nameless c = λ g s represents.
    let past : Range = record {
      block = c.args.self.now.frame;
      from = c.args.words.from + c.args.words.len;
      words = c.args.fun.now.words - (c.args.words.from + c.args.words.len);
    } in
    leaves_none_is g c.args.self.now c.args.fun.now s represents c.args.words c.requires.inside
    ∙ ap (λ (t : Bool). t && is_nameless s past) (c.is_nameless.ensures g s represents ∙ c.if-is_nameless.true)
    ∙ c.is_nameless-then-is_nameless.ensures g s represents

pub returns-else-is_nameless : goal.returns-else-is_nameless
returns-else-is_nameless c = λ g s represents.
    let past : Range = record {
      block = c.args.self.now.frame;
      from = c.args.words.from + c.args.words.len;
      words = c.args.fun.now.words - (c.args.words.from + c.args.words.len);
    } in
    leaves_none_is g c.args.self.now c.args.fun.now s represents c.args.words c.requires.inside
    ∙ ap (λ (t : Bool). t && is_nameless s past) (c.is_nameless.ensures g s represents ∙ c.if-is_nameless.false)
    ∙ sym c.if-is_nameless.false
