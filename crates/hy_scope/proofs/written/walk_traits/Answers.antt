use Rattle.hy_scope.specs.Shown.{file_of, noted}
use Rattle.hy_scope.proofs.Lists.{traits_walk}
use Rattle.hy_base.proofs.Walks.{walked_more, walked_all}
use Rattle.hy_scope.specs.Noted.{note}
use Rattle.hy_scope.proofs.written.walk_traits.Goals as goal

pub loop-name-preserved : goal.loop-name-preserved
loop-name-preserved c =
    walked_more note (traits_walk (file_of c.args.file.now)) tt c.args.names.now (noted c.args.notes.now) c.loop-name.name-index tt
    (noted c.loop-name.notes) (noted c.walk_trait.new.notes) c.name-item.result c.name-item.is c.loop-name-test.true c.loop-name.invariant
    c.walk_trait.ensures

pub returns : goal.returns
returns c =
    walked_all note (traits_walk (file_of c.args.file.now)) tt c.args.names.now (noted c.args.notes.now) c.loop-name.name-index tt (noted c.loop-name.notes)
    c.loop-name-test.false c.loop-name.invariant
