use Rattle.std.proofs.Common.{◌∙◌, refl, rules, SFits, w64, if◌then◌else◌, suc}
use Rattle.std.proofs.lemmas.Int.{to_z-of_z}
use Rattle.hy_base.specs.declared.run.TrapKind.TheVariants as trap
use Rattle.hy_object.specs.Checks.{next, traps}
use Rattle.hy_object.specs.Words.{is_zero}
use Rattle.hy_store.specs.Executes.{InPlace}
use Rattle.hy_store.proofs.Following.{told_halt}
use Rattle.hy_store.proofs.Storing.{goes, seen_at}
use Rattle.hy_store.proofs.store.Store.demand.Goals as goal

pub returns-in_err-n : goal.returns-in_err-n
returns-in_err-n c =
    told_halt InPlace _ _ _ _ _ _ c.from_residual.ensures.1 (λ g s represents. c.in_err-n.ensures g s represents
    (λ n. if is_zero n then traps c.args.object.now s trap.Precondition c.args.span else next s))

pub returns-then-is_zero : goal.returns-then-is_zero
returns-then-is_zero c =
    let fits : SFits w64 c.in_ok-n.n = search rules in
    let is = (rw (to_z-of_z w64 c.in_ok-n.n fits) at c.is_zero.ensures) ∙ c.if-is_zero.true in
    rw c.trap.ensures (
      λ g s represents. c.in_ok-n.ensures g s represents (λ n. if is_zero n then traps c.args.object.now s trap.Precondition c.args.span else next s)
          ∙ rw is refl,
      λ h. cc,
    )

pub returns : goal.returns
returns c =
    let fits : SFits w64 c.in_ok-n.n = search rules in
    let is = (rw (to_z-of_z w64 c.in_ok-n.n fits) at c.is_zero.ensures) ∙ c.if-is_zero.false in
    goes _ _ _ _ (record {
      others = record { opened = refl; frames = refl; frame = refl; counts = refl };
      same = λ b. refl;
      does = λ g s represents. (
        s.cells,
        c.in_ok-n.ensures g s represents (λ n. if is_zero n then traps c.args.object.now s trap.Precondition c.args.span else next s)
            ∙ rw is refl,
        seen_at g _ _ s (suc s.now.place) represents,
      );
    })
