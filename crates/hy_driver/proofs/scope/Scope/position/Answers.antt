use Rattle.std.proofs.Common.{◌∙◌, ap, position}
use Rattle.std.specs.List.{list_any}
use Rattle.std.specs.Str.{bytes_eq}
use Rattle.hy_driver.proofs.Keys.{list_any-map, position-map, finds}
use Rattle.hy_driver.proofs.scope.Scope.position.Goals as goal

pub returns-clause-first : goal.returns-clause-first
returns-clause-first c =
    c.get_index_of.ensures.index ∙ position-map (λ v. v.items) (bytes_eq c.args.name.now) c.self.inside.names.keys
    ∙ ap (position (bytes_eq c.args.name.now)) c.self.view_is

pub returns-clause-found : goal.returns-clause-found
returns-clause-found c =
    finds c.args.name.now c.args.self.now c.get_index_of.result
    (c.get_index_of.ensures.index ∙ position-map (λ v. v.items) (bytes_eq c.args.name.now) c.self.inside.names.keys
    ∙ ap (position (bytes_eq c.args.name.now)) c.self.view_is)
    (c.get_index_of.ensures.found ∙ list_any-map (λ v. v.items) (bytes_eq c.args.name.now) c.self.inside.names.keys
    ∙ ap (list_any (bytes_eq c.args.name.now)) c.self.view_is)
