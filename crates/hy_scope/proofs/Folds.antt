-- How far a loop has come that makes names of a list: what the rest makes of those made so far is what the whole makes.
use Rattle.std.proofs.Common.{◌≡◌, ◌<◌, ◌≤◌, ℕ, suc, ◌+◌, List, [], ◌∷◌, length, get_or, drop, map, refl, sym, ap, subst, ◌∙◌, arith, drop-cons}
use Rattle.std.proofs.lemmas.List.{drop_all}
use Rattle.hy_tree.specs.Denotes.{param_of, member_of, member_kind_of, decl_of, decl_kind_of}
use Rattle.hy_tree.specs.FileNames.{Family, File, with_member, with_members, with_asked, with_all_asked, with_decl, with_decls}
use Rattle.hy_tree.specs.Findings.{with_generics, with_params}
use Rattle.hy_tree.specs.Names.{Names, with_name}
use Rattle.hy_tree.specs.declared.declaration.Decl.{Decl}
use Rattle.hy_tree.specs.declared.declaration.Member.{Member}
use Rattle.hy_tree.specs.declared.declaration.Param.{Param}
use Rattle.hy_tree.specs.declared.declaration.TypeParam.{TypeParam}
use Rattle.hy_tree.specs.declared.meant.Meant.TheVariants as meant

pub record IsFold {S X R : Type 0} (fold : S → List X → R) (out : S → R) (next : S → X → S) : Type 0 where
  pub none : (s : S) → fold s [] ≡ out s
  pub some : (s : S) (x : X) (more : List X) → fold s (x ∷ more) ≡ fold (next s x) more

-- the first k are done
abbrev pub HasFolded : {S X R : Type 0} → (S → List X → R) → S → List X → ℕ → S → Type 0
HasFolded fold s all k now = fold now (drop k all) ≡ fold s all

module _ {S X R : Type 0} {fold : S → List X → R} {out : S → R} {next : S → X → S} (is : IsFold fold out next) where
  pub folded_more : (s : S) (all : List X) (k : ℕ) (now behind : S) (x : X) → x ≡ get_or all k x → k < length all → HasFolded fold s all k now → behind
      ≡ next now x → HasFolded fold s all (k + 1) behind
  folded_more s all k now behind x item lt so e =
      let next_k : suc k ≡ k + 1 = omega arith in
      let at : drop k all ≡ x ∷ drop (k + 1) all = drop-cons all k x lt ∙ (λ i. sym item i ∷ drop (next_k i) all) in
      ap (λ t. fold t (drop (k + 1) all)) e ∙ sym (is.some now x (drop (k + 1) all)) ∙ ap (fold now) (sym at) ∙ so

  pub folded_all : (s : S) (all : List X) (k : ℕ) (now : S) → length all ≤ k → HasFolded fold s all k now → out now ≡ fold s all
  folded_all s all k now end so = sym (is.none now) ∙ ap (fold now) (sym (drop_all k all end)) ∙ so

pub generics_fold : IsFold (λ (s : Names × ℕ) (xs : List TypeParam). with_generics s.0 s.1 xs) (λ s. s.0)
    (λ s x. (with_name x.name.text (meant.Param s.1) s.0, s.1 + 1))
generics_fold = record { none = λ s. refl; some = λ s x more. refl }

pub params_fold : IsFold (λ (s : Names) (xs : List Param). with_params s (map param_of xs)) (λ s. s) (λ s x. with_name x.name.text (meant.Local x.node) s)
params_fold = record { none = λ s. refl; some = λ s x more. refl }

pub members_fold : IsFold (λ (s : Family) (xs : List Member). with_members s (map member_of xs)) (λ s. s) (λ s x. with_member s x.node (member_kind_of x.kind))
members_fold = record { none = λ s. refl; some = λ s x more. refl }

pub asked_fold : IsFold (λ (s : Names) (xs : List Member). with_all_asked s (map member_of xs)) (λ s. s) (λ s x. with_asked s (member_kind_of x.kind))
asked_fold = record { none = λ s. refl; some = λ s x more. refl }

pub decls_fold : IsFold (λ (s : File) (xs : List Decl). with_decls s (map decl_of xs)) (λ s. s) (λ s x. with_decl s (decl_kind_of x.kind))
decls_fold = record { none = λ s. refl; some = λ s x more. refl }
