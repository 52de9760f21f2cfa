use Rattle.std.proofs.Common.{◌≡◌, true, false, Ok, sym, ◌∙◌, subst}
use Rattle.hy_runs.specs.Lines.{IsRead}
use Rattle.hy_runs.specs.Taking.{Fills}
use Rattle.hy_runs.proofs.Readings.{reader, at_input}
use Rattle.hy_runs.proofs.reading.Lines.read.Goals as goal

pub returns-in-Input-clause-read : goal.returns-in-Input-clause-read
returns-in-Input-clause-read g c =
    let before : reader false ≡ c.args.self.now = (λ j. reader (sym c.if-self.false j)) ∙ c.self.view_is in
    let filled = subst (λ end. Fills (g.I.Source.tells c.args.input.now) (g.I.Source.tells c.fill.new.input) c.fill.new.self (Ok end)) c.in-Input.is
    c.in_ok-fill.ensures.fills in
    subst (λ r. IsRead (g.I.Source.tells c.args.input.now) (g.I.Source.tells c.fill.new.input) r (reader true) (Ok c.number-in-Input.result)) before
    (at_input _ _ c.fill.new.self c.number-in-Input.result filled c.number-in-Input.ensures)
