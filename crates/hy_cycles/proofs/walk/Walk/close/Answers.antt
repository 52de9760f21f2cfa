use Rattle.std.proofs.Common.{◌≡◌, ◌<◌, ◌≤◌, ◌+◌, ◌-◌, ℕ, length, take, refl, sym, ap, subst, ◌∙◌, arith, set, vec_len}
use Rattle.hy_cycles.specs.Graph.{graph_of}
use Rattle.hy_cycles.specs.Standing.{shown}
use Rattle.hy_cycles.specs.declared.walk.Place.TheVariants.{Done}
use Rattle.hy_cycles.proofs.Closing.{Ending, ending_none, ending_more, ending_all, one_known}
use Rattle.hy_cycles.proofs.Ways.{read_at}
use Rattle.hy_cycles.proofs.walk.Walk.close.Goals as goal

pub loop-place-init : goal.loop-place-init
loop-place-init c =
    record { ending = ending_none c.args.start c.args.flag (shown c.args.self.now); taken = refl; path = refl; starts = refl; trail = refl }

pub index_mut-requires : goal.index_mut-requires
index_mut-requires c =
    let old = shown c.args.self.now in
    let lt : c.loop-place.place < length old.path = omega arith in
    let is = read_at c.loop-place.self.path.items old.path c.loop-place.place c.index-node.result.now c.index-node.ensures
    (ap (λ v. v.items) c.loop-place.invariant.path) lt in
    let known = one_known (graph_of c.args.edges.now) old c.requires c.args.start c.loop-place.place c.args.flag c.loop-place.self.places.items
    c.loop-place.self.flags.items c.loop-place.invariant.ending c.loop-place.auto.place lt in
    let long = c.loop-place.invariant.ending.places_long in
    omega (arith, is, known, long)

pub index_mut-requires-in-loop-place : goal.index_mut-requires-in-loop-place
index_mut-requires-in-loop-place c =
    let old = shown c.args.self.now in
    let lt : c.loop-place.place < length old.path = omega arith in
    let is = read_at c.loop-place.self.path.items old.path c.loop-place.place c.index-node.result.now c.index-node.ensures
    (ap (λ v. v.items) c.loop-place.invariant.path) lt in
    let known = one_known (graph_of c.args.edges.now) old c.requires c.args.start c.loop-place.place c.args.flag c.loop-place.self.places.items
    c.loop-place.self.flags.items c.loop-place.invariant.ending c.loop-place.auto.place lt in
    let long = c.loop-place.invariant.ending.flags_long in
    let places = c.requires.places_long in
    let flags = c.requires.flags_long in
    omega (arith, is, known, long, places, flags)

pub loop-place-preserved : goal.loop-place-preserved
loop-place-preserved c =
    let old = shown c.args.self.now in
    let lt : c.loop-place.place < length old.path = omega arith in
    let is = read_at c.loop-place.self.path.items old.path c.loop-place.place c.index-node.result.now c.index-node.ensures
    (ap (λ v. v.items) c.loop-place.invariant.path) lt in
    record {
      ending = subst (λ (node : ℕ). Ending c.args.start (c.loop-place.place + 1) c.args.flag old (set c.loop-place.self.places.items node Done)
          (set c.loop-place.self.flags.items node c.args.flag)) (sym is)
          (ending_more (graph_of c.args.edges.now) old c.requires c.args.start c.loop-place.place c.args.flag c.loop-place.self.places.items
          c.loop-place.self.flags.items c.loop-place.invariant.ending c.loop-place.auto.place lt);
      taken = c.loop-place.invariant.taken;
      path = c.loop-place.invariant.path;
      starts = c.loop-place.invariant.starts;
      trail = c.loop-place.invariant.trail;
    }

pub returns : goal.returns
returns c =
    let old = shown c.args.self.now in
    let inv = c.loop-place.invariant in
    let end : length old.path ≤ c.loop-place.place = omega arith in
    let starts : length old.starts ≡ vec_len c.args.self.now.starts = omega arith in
    let trail : length old.trail ≡ vec_len c.args.self.now.trail = omega arith in
    ending_all (graph_of c.args.edges.now) old _ c.args.start c.loop-place.place c.args.flag c.requires inv.ending end
    (ap (λ v. v.items) inv.taken)
    (c.truncate.ensures.items ∙ ap (λ v. take c.args.start v.items) inv.path)
    (c.pop.ensures.rest ∙ ap (λ v. take (vec_len v - 1) v.items) inv.starts ∙ ap (λ n. take (n - 1) old.starts) (sym starts))
    (c.pop-2.ensures.rest ∙ ap (λ v. take (vec_len v - 1) v.items) inv.trail ∙ ap (λ n. take (n - 1) old.trail) (sym trail))
