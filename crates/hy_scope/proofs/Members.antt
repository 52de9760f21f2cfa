-- The members of a type that are taken out, and put back with more.
use Rattle.std.proofs.Common.{◌≡◌, ℕ, Bool, true, false, cond, List, Result, Ok, Err, OnOk, refl, ap, ◌∙◌}
use Rattle.std.specs.Str.{bytes_eq}
use Rattle.hy_base.specs.declared.refusal.NoMemory.{NoMemory}
use Rattle.hy_tree.specs.FileNames.{Family, File, no_family, with_members, with_family}
use Rattle.hy_tree.specs.Names.{Names}
use Rattle.hy_tree.specs.Tree as T

cond_again : {A : Type 0} (b : Bool) (x y z : A) → cond b x (cond b y z) ≡ cond b x z
cond_again true x y z = refl
cond_again false x y z = refl

pub put_back : (r : Result (Unit {0}) NoMemory) (old mid new : List ℕ → Family) (owner : List ℕ) (members : List T.Member) (family : Family) → mid
    ≡ (λ name. cond (bytes_eq name owner) no_family (old name)) → family ≡ with_members (old owner) members
    → OnOk r (new ≡ (λ name. cond (bytes_eq name owner) family (mid name))) → OnOk r (new ≡ with_family owner members old)
put_back (Ok done) old mid new owner members family h k p =
    p ∙ (λ i name. cond (bytes_eq name owner) (k i) (h i name)) ∙ (λ i name. cond_again (bytes_eq name owner) (with_members (old owner) members) no_family
    (old name) i)
put_back (Err failure) old mid new owner members family h k p = p

pub file_with : (r : Result (Unit {0}) NoMemory) (file : File) (members others : Names) (families these : List ℕ → Family) → members ≡ others
    → OnOk r (families ≡ these)
    → OnOk r (record file { members = members; families = families } ≡ record file { members = others; families = these })
file_with (Ok done) file members others families these h k = λ i. record file { members = h i; families = k i }
file_with (Err failure) file members others families these h k = k
