-- The end of `main`, which hands out a value without words.
use Rattle.std.proofs.Common.{◌≡◌, ⊎_elim, ℕ, suc, ◌+◌, ◌≤◌, Bool, true, not, cond, [], ◌∷◌, ◌++◌, length, Some, refl, sym, ap, ◌∙◌, subst, arith}
use Rattle.std.proofs.lemmas.Bool.{cases_Bool}
use Rattle.std.specs.Prelude.{if◌then◌else◌}
use Rattle.hy_base.specs.declared.run.End.TheVariants as end
use Rattle.hy_core.specs.Plain as plain
use Rattle.hy_core.specs.Plain.{lent_types}
use Rattle.hy_core.specs.Values.{Val, is_whole}
use Rattle.hy_core.specs.Values as val
use Rattle.hy_core.specs.Memory.{target_of, lending}
use Rattle.hy_core.specs.Memory as memory
use Rattle.hy_core.specs.Runs.{Interaction, Fetch, Perform, interpret, Return}
use Rattle.hy_core.specs.Runs as runs
use Rattle.hy_core.specs.Control.{Control, Setting, with_some, with_set, key, NotSet, Ends, stop, form}
use Rattle.hy_core.specs.Statements.{does, close_all, back}
use Rattle.hy_object.specs.declared.instr.Instr.TheVariants as instr
use Rattle.hy_object.specs.declared.object.Object.{Object}
use Rattle.hy_object.specs.declared.stuck.Kind.TheVariants as kind
use Rattle.hy_object.specs.Checks.{check, own_words, may_write, is_whole as whole_range, ends, own_slot}
use Rattle.hy_object.specs.Checks as checks
use Rattle.hy_object.specs.Controls.{leave, returns, is_closed, is_open, leaves_none, frees_frame}
use Rattle.hy_object.specs.States.{Called, State, moved, within}
use Rattle.hy_lower.specs.Places.{own}
use Rattle.hy_lower_laws.specs.WordSteps.{whole_local}
use Rattle.hy_lower_laws.specs.Following.{IsNothing}
use Rattle.hy_lower_laws.proofs.Stands.{HasAt}
use Rattle.hy_lower_laws.proofs.OwnWords.{all_true, own_is, may_write_is}
use Rattle.hy_lower_laws.proofs.Simulates.{Body, IsBody, CellIs, Linked, mach, plain_of, leads_on, Follows, over, wrong, not_set}
use Rattle.hy_lower_laws.proofs.WordSteps.{one, linked_with}
use Rattle.hy_lower_laws.proofs.Nothing.{moves_none, none_moves, typed}

-- the last `Return`, of no words
return_is : (y : Body) (is : IsBody y) (c : Control) (s : memory.Cells) (pc : ℕ) (x : State) (k : Linked y c s x)
    → leave (mach c pc x) y.frame.scratch ≡ ends (frees_frame (mach c pc x)) end.Done
return_is y is c s pc x k =
    let m = mach c pc x in
    let S = y.frame.scratch in
    let plain = plain_of y c s pc x k in
    let f = is.scratch in
    let e : m.now.fun.result ≡ 0 = ap (λ f. f.result) k.object ∙ is.result in
    let fits : S + 0 ≤ m.now.fun.words = subst (λ f. S + 0 ≤ f.words) (sym k.object) (omega arith) in
    let r = checks.own m S 0 in
    let last = ends (frees_frame m) end.Done in
    let lost = λ (b : Bool). check m kind.Lost b last in
    let closed : is_closed m ≡ true = all_true m.now.fun.slots _ (λ i. ap (λ z. not (is_open z)) (k.slots i)) in
    let left : leaves_none m r.range ≡ true = all_true m.now.fun.words _
    (λ at. ap (λ b. cond b (within r.range.from r.range.words at) true) (k.holds.nameless x.now.frame at)) in
    ap (λ n. own_words m S n (λ x. check m kind.Access (may_write m x) (check m kind.Unset (whole_range m x.range) (returns m x m.now.role m.callers)))) e
    ∙ own_is m plain S 0 (λ x. check m kind.Access (may_write m x) (check m kind.Unset (whole_range m x.range) (returns m x m.now.role m.callers))) fits
    ∙ ap (λ b. check m kind.Access b (returns m r m.now.role m.callers)) (may_write_is m plain S 0)
    ∙ ap (λ z. returns m r z m.callers) k.role
    ∙ ap (λ z. returns m r (Called 0) z) k.alone
    ∙ ap (λ b. check m kind.Slot b (lost (leaves_none m r.range))) closed
    ∙ ap lost left

-- what is left once the value is read: it is given up, and the run is done
abbrev hands_out : Setting → Control → (l n : ℕ) → Val → Interaction Control
hands_out p c l n v = Perform (runs.Clear (record { key = key c l; path = [] }) runs.Moved) (Perform (runs.Quit c.now.id n) (close_all c n (back p c
    c.callers v c.now.dest)))

module _ (o : Object) (y : Body) (is : IsBody y) (p : Setting) (c : Control) (s : memory.Cells) (pc : ℕ) (x : State) (k : Linked y c s x) where
  read_is : (l w : ℕ) (none : IsNothing y.frame l w) → interpret lending (does p c (plain.Leave (whole_local l))) s
      ≡ interpret lending (with_set c (s.cell (key c l)) (hands_out p c l (length (lent_types c.now.fun)) (s.cell (key c l)))) s
  read_is l w none =
      let n = length (lent_types c.now.fun) in
      ap (λ r. interpret lending (with_some c r (λ t. Fetch (record { key = key c l; path = [] }) (λ v. with_set c v (hands_out p c l n v)))) s)
      (typed o y is p c s pc x k l w none)
      ∙ ap (λ r. let z = target_of (key c l) r in
      let v = val.get (z.path ++ []) (s.cell z.key) in
      interpret lending (with_set c v (hands_out p c l n v)) s) (k.own (key c l))

  no_lent : length (lent_types c.now.fun) ≡ 0
  no_lent = ap (λ f. length (lent_types f)) k.core ∙ ap (λ ps. length (plain.types_of ps)) is.lent

  done_is : (l : ℕ) (v : Val) → (interpret lending (hands_out p c l (length (lent_types c.now.fun)) v) s).control ≡ record c { halt = Some (Ends end.Done) }
  done_is l v =
      ap (λ n. (interpret lending (hands_out p c l n v) s).control) no_lent
      ∙ ap (λ cs. (interpret lending (back p c cs v c.now.dest) (lending.store s (record { key = key c l; path = [] }) val.Unset)).control) k.core_alone

  pub leave_follows : (l w : ℕ) (none : IsNothing y.frame l w) → w ≤ y.object.words
      → HasAt y.object.code pc (instr.Move (own y.frame.scratch) (own w) 0 ∷ instr.Return y.frame.scratch ∷ [])
      → Follows o y (interpret lending (does p c (plain.Leave (whole_local l))) s) (mach c pc x)
  leave_follows l w none fits has =
      let v = s.cell (key c l) in
      let n = length (lent_types c.now.fun) in
      let f = is.scratch in
      let S = y.frame.scratch in
      let new = moved x.cells (record { block = x.now.frame; from = w; words = 0 }) (record { block = x.now.frame; from = S; words = 0 }) in
      let x1 : State = record x { cells = new } in
      let same = none_moves x.cells x.now.frame w S in
      let k1 = linked_with o y is c s pc x k new (record {
        words = λ a u word. subst (CellIs (form y.frame.types word.type) (s.cell (key c a))) (sym (same x.now.frame u)) (k.holds.words a u word);
        nameless = λ block at. ap checks.is_name (same block at) ∙ k.holds.nameless block at;
      }) in
      let lead = leads_on o (mach c pc x) (mach c (suc pc) x1) (ends (frees_frame (mach c (suc pc) x1)) end.Done)
      (moves_none o y is p c s pc x k S w (omega arith) fits has.0)
      (one o y is c s (suc pc) x1 k1 (ends (frees_frame (mach c (suc pc) x1)) end.Done) (instr.Return S) has.1.0 (return_is y is c s (suc pc) x1 k1)) in
      subst (λ r. Follows o y r (mach c pc x)) (sym (read_is l w none))
      (⊎_elim
      (λ e. subst (λ b. Follows o y (interpret lending (if b then hands_out p c l n v else stop c NotSet) s) (mach c pc x)) (sym e)
      (over (ends (frees_frame (mach c (suc pc) x1)) end.Done) lead (record {
        how = end.Done;
        core = ap (λ c. c.halt) (done_is l v);
        machine = refl;
        output = ap (λ c. c.output) (sym (done_is l v));
        input = ap (λ c. c.input) (sym (done_is l v));
        turns = ap (λ c. x.counts.turns + c.turns) (done_is l v) ∙ k.turns;
        opened = ap (λ c. c.opened) (sym (done_is l v));
      })))
      (λ e. subst (λ b. Follows o y (interpret lending (if b then hands_out p c l n v else stop c NotSet) s) (mach c pc x)) (sym e)
      (wrong NotSet refl not_set))
      (cases_Bool (is_whole v)))
