-- How a return goes, check by check.
use Rattle.std.proofs.Common.{◌≡◌, ◌+◌, ◌&&◌, ℕ, Bool, true, false, nat_le, List, [], ◌∷◌, Option, Some, None, Result, Ok, Err, IsErrAnd, refl, sym, ap}
use Rattle.std.proofs.Common.{subst, ◌∙◌}
use Rattle.hy_access.specs.declared.access.Range.{Range}
use Rattle.hy_base.specs.declared.run.RunCause.TheVariants as cause
use Rattle.hy_object.specs.declared.instr.Way.{Way}
use Rattle.hy_object.specs.declared.instr.Way.TheVariants as way
use Rattle.hy_object.specs.declared.object.Fun.{Fun}
use Rattle.hy_object.specs.declared.stuck.Kind.{Kind}
use Rattle.hy_object.specs.declared.stuck.Kind.TheVariants as kind
use Rattle.hy_object.specs.Checks.{Reach, check, is_nameless, is_whole, may_write, own_words, stuck, transfers}
use Rattle.hy_object.specs.Controls.{frees_frame, goes_back, is_closed, leave, leaves_none, returns}
use Rattle.hy_object.specs.States as machine
use Rattle.hy_object.specs.States.{Activation, Called, Projected, Sliding, State}
use Rattle.hy_store.specs.declared.frame.Role.{Role}
use Rattle.hy_store.specs.declared.halt.Halt.{Halt}
use Rattle.hy_store.specs.declared.halt.Halt.TheVariants as halt
use Rattle.hy_store.specs.declared.store.Store.{Store}
use Rattle.hy_store.specs.Frames.{Kept, kept, role_at}
use Rattle.hy_store.specs.Memory.{live}
use Rattle.hy_store.specs.Opened.{abstract_range}
use Rattle.hy_store.specs.Switches.{LeadsTo, StoreSwitches, Returned, Waits}
use Rattle.hy_store.specs.Returns.{has_cells, in_frame}
use Rattle.hy_store.specs.Represents.{Ghosts, Represents, abstract_role}
use Rattle.hy_store.proofs.Waiting.{caller_active}

-- ANSWERS

-- an error that becomes a halt
pub passes_stuck : (r : Result (Unit {0}) Halt) (why : Kind) (fun next : Fun) (old new : Store) (When : State → Type 0) (Shape : State → State
    → Type 0) (step : State → State) → IsErrAnd r (λ h. h ≡ halt.Stuck why)
    → ((g : Ghosts) (s : State) → Represents g old fun s → When s → step s ≡ stuck s why) → StoreSwitches fun next old new r When Shape step
passes_stuck (Ok done) why fun next old new When Shape step h stops = absurd h
passes_stuck (Err x) why fun next old new When Shape step h stops = rw h stops

-- out of memory
pub passes_wanting : (r : Result (Unit {0}) Halt) (fun next : Fun) (old new : Store) (When : State → Type 0) (Shape : State → State → Type 0) (step : State
    → State) → IsErrAnd r (λ h. h ≡ halt.Cut cause.NoMemory) → StoreSwitches fun next old new r When Shape step
passes_wanting (Ok done) fun next old new When Shape step h = absurd h
passes_wanting (Err x) fun next old new When Shape step h = rw h refl

module _ (fun next : Fun) (old new : Store) (When : State → Type 0) (Shape : State → State → Type 0) (step other : State
    → State) (same : (g : Ghosts) (s : State) → Represents g old fun s → When s → other s ≡ step s) where
  pub leads_as : LeadsTo fun next old new When Shape step → LeadsTo fun next old new When Shape other
  leads_as leads = record {
    does = λ g s represents waits.
        let d = leads.does g s represents waits in
        let e = sym (same g s represents waits) in
        (d.0, subst (Represents d.0 new next) e d.1, subst (Shape s) e d.2);
  }

  -- an answer is that of another step, which is the same
  pub passes_as : (r : Result (Unit {0}) Halt) → StoreSwitches fun next old new r When Shape step → StoreSwitches fun next old new r When Shape other
  passes_as (Ok done) passes = leads_as passes
  passes_as (Err (halt.Stuck why)) passes = λ g s represents waits. same g s represents waits ∙ passes g s represents waits
  passes_as (Err (halt.Ended e)) passes = (λ g s represents waits. same g s represents waits ∙ passes.0 g s represents waits, passes.1, passes.2)
  passes_as (Err (halt.Cut c)) passes = passes

-- CHECKS

both_checks : (s : State) (why : Kind) (a b : Bool) (go : State) → check s why (a && b) go ≡ check s why a (check s why b go)
both_checks s why true b go = refl
both_checks s why false b go = refl

-- how words are reached is not looked at
reached_alike : (s : State) (r : machine.Range) (w : Way) (chain : List ℕ) (role : machine.Role) (callers : List Activation) →
    returns s (record { range = r; way = w; chain = chain }) role callers ≡ returns s (record { range = r; way = way.Write; chain = [] }) role callers
reached_alike s r w chain (Called word) [] = refl
reached_alike s r w chain (Called word) (a ∷ rest) = refl
reached_alike s r w chain (Projected slot) callers = refl
reached_alike s r w chain Sliding callers = refl

role_in : (o : Option Kept) (one : Kept) (role : Role) → o ≡ Some one → role_at o ≡ Some role → one.role ≡ role
role_in o one role is h = let e : Some one.role ≡ Some role = ap role_at (sym is) ∙ h in cc

pub role_is : (g : Ghosts) (store : Store) (fun : Fun) (s : State) → Represents g store fun s → (role : Role)
    → role_at (kept store.frames store.frame) ≡ Some role → s.now.role ≡ abstract_role role
role_is g store fun s represents role h = sym represents.mine.3
    ∙ ap abstract_role (role_in (kept store.frames store.frame) represents.mine.0 role represents.mine.1 h)

-- the role and the callers are what the program has of them
pub role_known : (g : Ghosts) (store : Store) (fun : Fun) (s : State) → Represents g store fun s → (role : Role) (r : Range) (w : Way) (chain : List ℕ)
    → role_at (kept store.frames store.frame) ≡ Some role →
    returns s (record { range = abstract_range r; way = w; chain = chain }) s.now.role s.callers ≡ returns s (in_frame r) (abstract_role role) s.callers
role_known g store fun s represents role r w chain h =
    reached_alike s (abstract_range r) w chain s.now.role s.callers
    ∙ ap (λ role. returns s (in_frame r) role s.callers) (role_is g store fun s represents role h)

-- the function is what the program has of it
pub leaves_words : (g : Ghosts) (store : Store) (fun : Fun) (s : State) → Represents g store fun s → (word : ℕ)
    → leave s word ≡ own_words s word fun.result (λ x. check s kind.Access (may_write s x)
    (check s kind.Unset (is_whole s x.range) (returns s x s.now.role s.callers)))
leaves_words g store fun s represents word =
    ap (λ (f : Fun). own_words s word f.result
    (λ x. check s kind.Access (may_write s x) (check s kind.Unset (is_whole s x.range) (returns s x s.now.role s.callers)))) (sym represents.fun_is)

-- with no caller
pub finishes : (s : State) (x : Range) (to : ℕ) → s.callers ≡ [] → returns s (in_frame x) (Called to) s.callers ≡
    check s kind.Slot (is_closed s) (check s kind.Lost (leaves_none s (abstract_range x)) (goes_back (frees_frame s) s.callers))
finishes s x to none =
    ap (returns s (in_frame x) (Called to)) none
    ∙ ap (λ callers. check s kind.Slot (is_closed s) (check s kind.Lost (leaves_none s (abstract_range x)) (goes_back (frees_frame s) callers)))
    (sym none)

-- the result goes to words of the caller
abbrev pub filled : State → (x y : Range) → State
filled s x y = goes_back (frees_frame (transfers s (abstract_range x) (abstract_range y))) s.callers

abbrev pub fills_none : State → (x y : Range) → State
fills_none s x y = check s kind.Lost (is_nameless s (abstract_range y)) (check s kind.Lost (leaves_none s (abstract_range x)) (filled s x y))

abbrev pub fills_closed : State → (x y : Range) → State
fills_closed s x y = check s kind.Slot (is_closed s) (fills_none s x y)

abbrev pub fills_there : State → (x y : Range) → State
fills_there s x y = check s kind.Access (may_write s (in_frame y)) (fills_closed s x y)

pub fills_words : (s : State) (next : Fun) (x : Range) (to frame : ℕ) → Waits (Some frame) next s → returns s (in_frame x) (Called to) s.callers ≡
    check s kind.Range (nat_le (to + x.len) next.words) (fills_there s x (record { block = frame; from = to; len = x.len }))
fills_words s next x to frame waits =
    let back = sym waits.2 in
    let y : ℕ → machine.Range = λ b. record { block = b; from = to; words = x.len } in
    let reach : ℕ → Reach = λ b. record { range = y b; way = way.Write; chain = [] } in
    let at_frame : returns s (in_frame x) (Called to) (waits.0 ∷ waits.1) ≡
    check s kind.Range (nat_le (to + x.len) next.words) (check s kind.Access (may_write s (reach frame))
    (check s kind.Slot (is_closed s) (check s kind.Lost (is_nameless s (y frame) && leaves_none s (abstract_range x))
    (goes_back (frees_frame (transfers s (abstract_range x) (y frame))) s.callers))))
    = λ i. check s kind.Range (nat_le (to + x.len) (waits.4 i).words)
    (check s kind.Access (may_write s (reach (waits.3 i)))
    (check s kind.Slot (is_closed s) (check s kind.Lost (is_nameless s (y (waits.3 i)) && leaves_none s (abstract_range x))
    (goes_back (frees_frame (transfers s (abstract_range x) (y (waits.3 i)))) (back i))))) in
    ap (returns s (in_frame x) (Called to)) waits.2 ∙ at_frame
    ∙ ap (λ t. check s kind.Range (nat_le (to + x.len) next.words) (check s kind.Access (may_write s (reach frame)) (check s kind.Slot (is_closed s) t)))
    (both_checks s kind.Lost (is_nameless s (y frame)) (leaves_none s (abstract_range x))
    (goes_back (frees_frame (transfers s (abstract_range x) (y frame))) s.callers))

-- the caller's frame has as many words as its function
pub words_there : (g : Ghosts) (store : Store) (fun next : Fun) (s : State) (frame : ℕ) → Represents g store fun s → Waits (Some frame) next s
    → (from words : ℕ) → has_cells (live store.blocks frame) from words ≡ nat_le (from + words) next.words
words_there g store fun next s frame represents waits from words =
    let active = caller_active g store fun s represents waits.0 waits.1 waits.2 in
    ap (λ o. has_cells o from words) (ap (live store.blocks) (sym waits.3) ∙ active.own.1)
    ∙ ap (nat_le (from + words)) (active.own.2 ∙ ap (λ (f : Fun). f.words) waits.4)

-- what is done after a transfer
pub behind_transfer : (fun next : Fun) (old mid new : Store) (x y : Range) (When : Option ℕ) →
    ((g : Ghosts) (s : State) → Represents g old fun s → Represents g mid fun (transfers s (abstract_range x) (abstract_range y)))
    → LeadsTo fun next mid new (Waits When next) Returned (λ s. goes_back (frees_frame s) s.callers)
    → LeadsTo fun next old new (Waits When next) Returned (λ s. filled s x y)
behind_transfer fun next old mid new x y When moves leads = record {
  does = λ g s represents waits.
      let d = leads.does g (transfers s (abstract_range x) (abstract_range y)) (moves g s represents) (same_waits When s waits) in
      let back = d.2.back in (
        d.0,
        d.1,
        record {
          back = record {
            caller = back.caller;
            rest = back.rest;
            waits = back.waits;
            now = back.now;
            callers = back.callers;
            beside = record {
              left = back.beside.left;
              turns = back.beside.turns;
              input = back.beside.input;
              cut = back.beside.cut;
              output = back.beside.output;
              stop = back.beside.stop;
            };
          };
          suspended = d.2.suspended;
        },
      );
}
  where
    same_waits : (o : Option ℕ) (s : State) → Waits o next s → Waits o next (transfers s (abstract_range x) (abstract_range y))
    same_waits None s waits = waits
    same_waits (Some frame) s waits = waits
