-- The machine follows the core: its state is built from the core's and from what it has besides.
use Rattle.std.proofs.Common.{◌≡◌, ℕ, zero, suc, ◌+◌, cond, Some, None, refl, ap, ◌∙◌, arith}
use Rattle.std.proofs.lemmas.Bool.{lt-ltb}
use Rattle.hy_core.specs.Memory as memory
use Rattle.hy_core.specs.Runs as runs
use Rattle.hy_core.specs.Control.{Control}
use Rattle.hy_object.specs.declared.instr.Instr.{Instr}
use Rattle.hy_object.specs.declared.instr.Instr.TheVariants as instr
use Rattle.hy_object.specs.declared.object.Object.{Object}
use Rattle.hy_object.specs.Checks.{take_turn, goes_to}
use Rattle.hy_object.specs.States.{State, nth}
use Rattle.hy_object.specs.Steps.{does, does_some, step_from, step, steps}
pub use Rattle.hy_lower_laws.specs.Following.{Leads, mach, CellIs, IsWord, Body, IsBody, Cells, Holds, Linked, Over, IsWrong, stuck, not_set, not_opened}
pub use Rattle.hy_lower_laws.specs.Following.{Follows}
pub use Rattle.hy_lower_laws.specs.Following.{goes_on, over, wrong}
use Rattle.hy_lower_laws.proofs.Stands.{Goes, Hops, At}
use Rattle.hy_lower_laws.proofs.OwnWords.{IsPlain}

-- RUNS

pub steps_add : (o : Object) (j i : ℕ) (m : State) → steps o (j + i) m ≡ steps o i (steps o j m)
steps_add o zero i m = let e : zero + i ≡ i = omega arith in ap (λ k. steps o k m) e
steps_add o (suc j) i m = let e : suc j + i ≡ suc (j + i) = omega arith in ap (λ k. steps o k m) e ∙ steps_add o j i (step o m)

pub leads_none : (o : Object) (m : State) → Leads o m m
leads_none o m = record { count = zero; runs = refl }

pub leads_on : (o : Object) (a b c : State) → Leads o a b → Leads o b c → Leads o a c
leads_on o a b c x y = record { count = x.count + y.count; runs = steps_add o x.count y.count a ∙ ap (steps o y.count) x.runs ∙ y.runs }

-- one instruction
pub leads_one : (o : Object) (m n : State) (i : Instr) → m.stop ≡ None → nth m.now.fun.code m.now.place ≡ Some i → does o m i ≡ n → Leads o m n
leads_one o m n i e h d = record { count = 1; runs = ap (step_from o m) e ∙ ap (does_some o m) h ∙ d }

pub plain_of : (y : Body) (c : Control) (s : memory.Cells) (pc : ℕ) (x : State) → Linked y c s x → IsPlain (mach c pc x)
plain_of y c s pc x k = record { closed = k.closed; nameless = k.holds.nameless x.now.frame }

pub leads_follows : (o : Object) (y : Body) (r : runs.State Control memory.Cells) (m n : State) → Leads o m n → Follows o y r n → Follows o y r m
leads_follows o y r m n l (goes_on pc x k a q) = goes_on pc x k a (leads_on o m n (mach r.control pc x) l q)
leads_follows o y r m n l (over z q d) = over z (leads_on o m n z l q) d
leads_follows o y r m n l (wrong h e w) = wrong h e w

-- jumps that go forward
pub hops_lead : (o : Object) (y : Body) (c : Control) (s : memory.Cells) (x : State) → Linked y c s x → (n pc t : ℕ) → Hops y.object.code n pc t
    → Leads o (mach c pc x) (mach c t x)
hops_lead o y c s x k zero pc t e = record { count = zero; runs = ap (λ t. mach c t x) e }
hops_lead o y c s x k (suc n) pc t h =
    leads_on o (mach c pc x) (mach c h.0 x) (mach c t x)
    (leads_one o (mach c pc x) (mach c h.0 x) (instr.Jump h.0) k.stop (ap (λ f. nth f.code pc) k.object ∙ h.1)
    (ap (λ b. cond b (mach c h.0 x) (take_turn (mach c pc x) (λ t. goes_to t h.0))) (lt-ltb pc h.0 h.2)))
    (hops_lead o y c s x k n h.0 t h.3)

-- after a stretch of code, with the jumps that may follow it
pub settles : (o : Object) (y : Body) (r : runs.State Control memory.Cells) (m : State) (pc end : ℕ) (x : State) → Linked y r.control r.memory x
    → Goes y.object.code pc end → At y.frame y.object.code end r.control.now.work → Leads o m (mach r.control pc x) → Follows o y r m
settles o y r m pc end x k g a l = goes_on end x k a (leads_on o m (mach r.control pc x) (mach r.control end x) l (hops_lead o y r.control r.memory x k
    g.count pc end g.hops))
