use Rattle.std.proofs.Common.{◌≢◌, ◌≤◌, arith}
use Rattle.hy_checked.proofs.Turning.{jump_goes_back, jump_goes_on}
use Rattle.hy_checked.proofs.machine.Machine.jump.Goals as goal

pub returns-then-self-target : goal.returns-then-self-target
returns-then-self-target c = jump_goes_on c.args.object.now c.args.self.now c.args.target c.if-self-target.true

pub returns : goal.returns
returns c =
    let le : c.args.target ≤ c.args.self.now.place = omega arith in
    let some : c.args.self.now.left ≢ 0 = λ h. absurd (omega (arith, h)) in
    jump_goes_back c.args.object.now c.args.self.now c.args.target le some
