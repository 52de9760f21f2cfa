use Rattle.std.proofs.Common.{◌∙◌, ap}
use Rattle.std.specs.List.{list_any}
use Rattle.std.specs.Str.{bytes_eq}
use Rattle.hy_driver.proofs.Keys.{list_any-map}
use Rattle.hy_driver.proofs.scope.Scope.knows.Goals as goal

pub returns : goal.returns
returns c = c.contains.ensures ∙ list_any-map (λ v. v.items) (bytes_eq c.args.name.now) c.self.inside.names.keys
    ∙ ap (list_any (bytes_eq c.args.name.now)) c.self.view_is
