use Rattle.std.proofs.Common.{[], ◌∷◌, ◌++◌, sym, ap}
use Rattle.hy_tree.specs.Denotes.{type_of, param_of}
use Rattle.hy_check.specs.Facts.{HasType, type_facts, param_facts}
use Rattle.hy_check.specs.KnownShown.{known_of}
use Rattle.hy_check.proofs.NotedTypes.{after_parts}
use Rattle.hy_check.proofs.checker.Checker.note_param.Goals as goal

pub returns-clause-learns : goal.returns-clause-learns
returns-clause-learns c =
    let source = (known_of c.args.self.now).around.source in
    let parts = type_facts source (type_of c.args.p.now.written) in
    after_parts (known_of c.args.self.now) (known_of c.note_written.new.self) (known_of c.note.new.self) parts (param_facts source (param_of c.args.p.now)) _
    c.in_ok-id.ensures.learns c.in_ok-note.ensures.learns
    (ap (λ type. parts ++ HasType c.args.p.now.node type ∷ []) (sym c.in_ok-id.ensures.number.is))
