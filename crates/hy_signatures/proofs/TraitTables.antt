-- Tables of traits.
use Rattle.std.proofs.Common.{◌≡◌, ◌==◌, ◌<◌, ℕ, ◌+◌, Bool, true, false, cond, List, [], ◌∷◌, ◌++◌, length}
use Rattle.std.proofs.Common.{get_or, take, map, Option, Some, None, refl, ap, sym, subst, ◌∙◌}
use Rattle.std.proofs.Common.{append_assoc}
use Rattle.std.proofs.lemmas.Bool.{eqb-true}
use Rattle.std.proofs.lemmas.List.{append-nil, map_more}
use Rattle.hy_tree.specs.Denotes.{decl_of}
use Rattle.hy_tree.specs.Tree as T
use Rattle.hy_tree.specs.declared.declaration.Decl.{Decl}
use Rattle.hy_types.specs.Types.{Table, Extends}
use Rattle.hy_types.proofs.Replaced.{extends_itself, extends_on}
use Rattle.hy_signatures.specs.Declarations.{Source, trait_members, members_of_trait}
use Rattle.hy_signatures.specs.MembersShown.{HasMembers}
use Rattle.hy_signatures.specs.TraitsShown.{TraitsAre, AddsTraits, trait_at}
use Rattle.hy_signatures.specs.MembersShown.{MembersAre}
use Rattle.hy_signatures.specs.declared.members.Members.{Members}
use Rattle.hy_signatures.specs.declared.traits.Traits.{Traits}
use Rattle.hy_signatures.proofs.MemberTables.{members_kept}

pub trait_kept : (old new : Table) (source : Source) (members : List T.Member) (kept : Option Members) → Extends old new
    → MembersAre old source members kept → MembersAre new source members kept
trait_kept old new source members None stays is = is
trait_kept old new source members (Some kept) stays is = members_kept old new source members kept stays is

-- one trait more
module _ (old new : Table) (source : Source) (before mid after : Traits) (node : ℕ) (more : List T.Member) (taken kept : Members)
    (take : (members : List T.Member) → MembersAre old source members (trait_at before node) → HasMembers old source members taken)
    (rest : (other : ℕ) → (node == other) ≡ false → trait_at mid other ≡ trait_at before other)
    (made : (members : List T.Member) → HasMembers old source members taken → HasMembers new source (members ++ more) kept)
    (put : (other : ℕ) → trait_at after other ≡ cond (node == other) (Some kept) (trait_at mid other))
    (stays : Extends old new) where
  at : (members : ℕ → List T.Member) → TraitsAre old source members before → (other : ℕ) (b : Bool) → (node == other) ≡ b
      → MembersAre new source (members other ++ cond b more []) (trait_at after other)
  at members are other true h =
      let same : other ≡ node = sym (eqb-true node other h) in
      subst (MembersAre new source (members other ++ more)) (sym (put other ∙ ap (λ b. cond b (Some kept) (trait_at mid other)) h))
      (made (members other) (take (members other) (subst (λ (n : ℕ). MembersAre old source (members other) (trait_at before n)) same (are other))))
  at members are other false h =
      subst (MembersAre new source (members other ++ [])) (sym (put other ∙ ap (λ b. cond b (Some kept) (trait_at mid other)) h ∙ rest other h))
      (subst (λ list. MembersAre new source list (trait_at before other)) (sym (append-nil (members other)))
      (trait_kept old new source (members other) (trait_at before other) stays (are other)))

  pub trait_added : AddsTraits old new source (λ other. cond (node == other) more []) before after
  trait_added = record { traits = λ members are other. at members are other (node == other) refl; stays = stays }

-- nothing is added
pub no_trait_added : (table : Table) (source : Source) (traits : Traits) → AddsTraits table table source (λ node. []) traits traits
no_trait_added table source traits = record {
  traits = λ members are node. subst (λ list. MembersAre table source list (trait_at traits node)) (sym (append-nil (members node))) (are node);
  stays = extends_itself table;
}

-- the same is added by other words
pub traits_alike : (old new : Table) (source : Source) (before after : Traits) (more more' : ℕ → List T.Member) → AddsTraits old new source more before after
    → ((node : ℕ) → more node ≡ more' node) → AddsTraits old new source more' before after
traits_alike old new source before after more more' adds same = record {
  traits = λ members are node.
      subst (λ list. MembersAre new source (members node ++ list) (trait_at after node)) (same node) (adds.traits members are node);
  stays = adds.stays;
}

-- some declarations and one more
pub traits_more : (old mid new : Table) (source : Source) (before between after : Traits) (some one all : ℕ → List T.Member)
    → AddsTraits old mid source some before between → AddsTraits mid new source one between after
    → ((node : ℕ) → some node ++ one node ≡ all node) → AddsTraits old new source all before after
traits_more old mid new source before between after some one all first then joined = record {
  traits = λ members are node.
      subst (λ list. MembersAre new source list (trait_at after node))
      (append_assoc (members node) (some node) (one node) ∙ ap (λ list. members node ++ list) (joined node))
      (then.traits (λ other. members other ++ some other) (first.traits members are) node);
  stays = extends_on old mid new first.stays then.stays;
}

members_push : (node : ℕ) (decls : List T.Decl) (decl : T.Decl) → members_of_trait node (decls ++ decl ∷ [])
    ≡ members_of_trait node decls ++ trait_members node decl.kind
members_push node [] decl = append-nil (trait_members node decl.kind)
members_push node (d ∷ more) decl =
    ap (λ list. trait_members node d.kind ++ list) (members_push node more decl)
    ∙ sym (append_assoc (trait_members node d.kind) (members_of_trait node more) (trait_members node decl.kind))

pub trait_longer : (node : ℕ) (all : List Decl) (k : ℕ) (decl : Decl) → decl ≡ get_or all k decl → k < length all
    → members_of_trait node (map decl_of (take k all)) ++ trait_members node (decl_of decl).kind ≡ members_of_trait node (map decl_of (take (k + 1) all))
trait_longer node all k decl item lt =
    sym (ap (members_of_trait node) (map_more decl_of all k decl lt ∙ ap (λ d. map decl_of (take k all) ++ decl_of d ∷ []) (sym item))
    ∙ members_push node (map decl_of (take k all)) (decl_of decl))
