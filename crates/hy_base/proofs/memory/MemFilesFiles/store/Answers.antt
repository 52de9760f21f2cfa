use Rattle.std.proofs.Common.{inl, inr, ⊎_elim, subst, sym, rules, ◌≡◌, List, ℕ}
use Rattle.hy_base.specs.Files.{IsHolding, Holding}
use Rattle.hy_base.specs.Memory.{bytes_under, held}
use Rattle.indexmap.specs.IndexSet.{contains_text}
use Rattle.hy_base.proofs.Names.{is_stored, held_bytes, held_same, none_before, there_after}
use Rattle.hy_base.proofs.memory.MemFilesFiles.store.Goals as goal

pub returns-then-next_fails-clause-loads : goal.returns-then-next_fails-clause-loads
returns-then-next_fails-clause-loads c = λ n h. inr (c.if-next_fails.ensures.due (search rules))

pub returns-clause-bytes : goal.returns-clause-bytes
returns-clause-bytes c = (
  is_stored _ _ _ (held_bytes _ _ _ c.find_again.ensures.found c.in_ok-store_copy.ensures.stored),
  λ n differs. held_same _ _ _ _ (c.find_again.ensures.others n differs) (c.in_ok-store_copy.ensures.others n differs),
)

pub returns-clause-loads : goal.returns-clause-loads
returns-clause-loads c = λ n.
    let before = held (contains_text c.args.self.now.lost n) (bytes_under c.args.self.now.contents n) in
    let after = λ (m : List ℕ). held (contains_text c.find_again.new.lost m) (bytes_under c.store_copy.new.contents m) in
    let stored : after c.args.name.now ≡ Holding c.args.bytes.now = held_bytes _ _ _ c.find_again.ensures.found c.in_ok-store_copy.ensures.stored in
    ⊎_elim
    (λ none. inl (none_before c.args.name.now n (after n) before
    (λ differs. held_same _ _ _ _ (c.find_again.ensures.others n differs) (c.in_ok-store_copy.ensures.others n differs))
    (λ same. subst (λ (m : List ℕ). IsHolding (after m)) (sym same) (there_after _ _ stored))
    none))
    (λ come. inr (c.next_fails.ensures.later come))
