use Rattle.std.proofs.Common.{◌≡◌, ◌+◌, nat_le, true, false, refl, sym, ◌∙◌, rules}
use Rattle.std.specs.Option.{is_some}
use Rattle.hy_store.specs.Memory.{live}
use Rattle.hy_store.proofs.Reaching.{checks_in}
use Rattle.hy_store.proofs.store.Store.reach_through.Goals as goal

pub returns-then-not-is_live-clause-checks : goal.returns-then-not-is_live-clause-checks
returns-then-not-is_live-clause-checks c = λ g s represents go.
    let lives : is_some (live c.args.self.now.blocks c.own-own.result.block) ≡ false = search rules in
    checks_in g c.args.self.now c.args.fun.now s represents c.args.name c.in-Some.id (sym c.in-Some.ensures) c.own-own.result c.own-own.ensures
    c.args.offset c.args.words go ∙ rw lives refl

pub returns-then-not-fits-clause-checks : goal.returns-then-not-fits-clause-checks
returns-then-not-fits-clause-checks c = λ g s represents go.
    let lives : is_some (live c.args.self.now.blocks c.own-own.result.block) ≡ true = search rules in
    let fits : nat_le (c.args.offset + c.args.words) c.own-own.result.len ≡ false = search rules in
    checks_in g c.args.self.now c.args.fun.now s represents c.args.name c.in-Some.id (sym c.in-Some.ensures) c.own-own.result c.own-own.ensures
    c.args.offset c.args.words go ∙ rw (lives, fits) refl

pub returns-clause-checks : goal.returns-clause-checks
returns-clause-checks c = λ g s represents go.
    let lives : is_some (live c.args.self.now.blocks c.own-own.result.block) ≡ true = search rules in
    let fits : nat_le (c.args.offset + c.args.words) c.own-own.result.len ≡ true = search rules in
    checks_in g c.args.self.now c.args.fun.now s represents c.args.name c.in-Some.id (sym c.in-Some.ensures) c.own-own.result c.own-own.ensures
    c.args.offset c.args.words go ∙ rw (lives, fits) refl
