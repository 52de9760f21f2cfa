-- Types of written types, parts first.
use Rattle.std.proofs.Common.{◌≡◌, ◌<◌, ◌≤◌, ◌+◌, ℕ, suc, List, [], ◌∷◌, ◌++◌, length, get_or, take, drop, map, flat_map, refl, sym, ap, subst, ◌∙◌}
use Rattle.std.proofs.Common.{arith, drop-cons}
use Rattle.std.proofs.lemmas.List.{drop_all}
use Rattle.hy_base.specs.First.{Refusal}
use Rattle.hy_tree.specs.Denotes.{type_of, types_of}
use Rattle.hy_tree.specs.Tree as T
use Rattle.hy_tree.specs.declared.written.TypeExp.{TypeExp}
use Rattle.hy_types.specs.Types as Y
use Rattle.hy_types.specs.Types.{PlainType}
use Rattle.hy_types.specs.declared.kinds.TyId.{TyId}
use Rattle.hy_signatures.specs.Declarations.{Source, written_type}
use Rattle.hy_signatures.specs.Numbered.{IsNumber}
use Rattle.hy_signatures.proofs.Numbering.{Numbering, numbering_start, numbering_more}
use Rattle.hy_check.specs.Facts.{Fact, HasType, type_facts, types_facts}
use Rattle.hy_check.specs.Known.{Known, Learns}
use Rattle.hy_check.specs.KnownShown.{IsRight, known_of}
use Rattle.hy_check.specs.declared.checker.Checker.{Checker}
use Rattle.hy_check.proofs.Knowing.{IsLearning, learning_start, learning_next, learning_end, learns_then}

-- a node after its parts
pub after_parts : (a b c : Known) (parts facts : List Fact) (one : Fact) → Learns a b [] parts → Learns b c [] (one ∷ []) → facts ≡ parts ++ one ∷ []
    → Learns a c [] facts
after_parts a b c parts facts one h k same = subst (Learns a c []) (sym same) (learns_then a b c [] [] parts (one ∷ []) h k)

-- how far a loop over parts of a written type has come
pub record IsNoting (all : List TypeExp) (start now : Checker) (ids : List TyId) (k : ℕ) : Type 0 where
  pub right : IsRight now
  pub numbers : Numbering (λ (part : TypeExp). written_type (known_of start).around.source (type_of part)) all start.types now.types ids k
  pub learns : IsLearning (known_of start) (known_of now) [] [] (types_facts (known_of start).around.source (types_of all))
      (types_facts (known_of start).around.source (types_of (drop k all)))

pub noting_start : (all : List TypeExp) (start : Checker) → IsRight start → IsNoting all start start [] 0
noting_start all start right = record {
  right = right;
  numbers = numbering_start (λ (part : TypeExp). written_type (known_of start).around.source (type_of part)) all start.types;
  learns = learning_start (known_of start) [] (types_facts (known_of start).around.source (types_of all));
}

pub noting_more : (all : List TypeExp) (start now new : Checker) (ids : List TyId) (k : ℕ) (part : TypeExp) (id : TyId) → part ≡ get_or all k part
    → k < length all
    → IsNoting all start now ids k → IsRight new → IsNumber new.types (written_type (known_of now).around.source (type_of part)) id
    → Learns (known_of now) (known_of new) [] (type_facts (known_of now).around.source (type_of part)) → IsNoting all start new (ids ++ id ∷ []) (k + 1)
noting_more all start now new ids k part id item lt so right is learns =
    let source = (known_of start).around.source in
    let same : (known_of now).around.source ≡ source = ap (λ around. around.source) so.learns.learns.around in
    let next : suc k ≡ k + 1 = omega arith in
    let rest : drop k all ≡ part ∷ drop (k + 1) all = drop-cons all k part lt ∙ (λ i. sym item i ∷ drop (next i) all) in
    record {
      right = right;
      numbers = numbering_more (λ (p : TypeExp). written_type source (type_of p)) all start.types now.types new.types ids k part id item lt so.numbers
          learns.stays (subst (λ s. IsNumber new.types (written_type s (type_of part)) id) same is);
      learns = learning_next (known_of start) (known_of now) (known_of new) [] [] [] [] (types_facts source (types_of all))
          (types_facts source (types_of (drop k all))) (type_facts source (type_of part)) (types_facts source (types_of (drop (k + 1) all))) so.learns refl
          (ap (λ list. types_facts source (types_of list)) rest)
          (subst (λ s. Learns (known_of now) (known_of new) [] (type_facts s (type_of part))) same learns);
    }

-- how far a loop over a list of a tree has come, of which `f` says what is known of a part
pub record IsNotingEach {X Y : Type 0} (of : X → Y) (f : Source → Y → List Fact) (all : List X) (start now : Checker) (k : ℕ) : Type 0 where
  pub right : IsRight now
  pub learns : IsLearning (known_of start) (known_of now) [] [] (flat_map (f (known_of start).around.source) (map of all))
      (flat_map (f (known_of start).around.source) (map of (drop k all)))

module _ {X Y : Type 0} (of : X → Y) (f : Source → Y → List Fact) (all : List X) (start : Checker) where
  abbrev source : Source
  source = (known_of start).around.source

  pub each_start : IsRight start → IsNotingEach of f all start start 0
  each_start right = record { right = right; learns = learning_start (known_of start) [] (flat_map (f source) (map of all)) }

  pub same_source : (now : Checker) (k : ℕ) → IsNotingEach of f all start now k → (known_of now).around.source ≡ source
  same_source now k so = ap (λ around. around.source) so.learns.learns.around

  pub each_more : (now new : Checker) (k : ℕ) (x : X) → x ≡ get_or all k x → k < length all → IsNotingEach of f all start now k → IsRight new
      → Learns (known_of now) (known_of new) [] (f (known_of now).around.source (of x)) → IsNotingEach of f all start new (k + 1)
  each_more now new k x item lt so right learns =
      let next : suc k ≡ k + 1 = omega arith in
      let rest : drop k all ≡ x ∷ drop (k + 1) all = drop-cons all k x lt ∙ (λ i. sym item i ∷ drop (next i) all) in
      record {
        right = right;
        learns = learning_next (known_of start) (known_of now) (known_of new) [] [] [] [] (flat_map (f source) (map of all))
            (flat_map (f source) (map of (drop k all))) (f source (of x)) (flat_map (f source) (map of (drop (k + 1) all))) so.learns refl
            (ap (λ list. flat_map (f source) (map of list)) rest)
            (subst (λ s. Learns (known_of now) (known_of new) [] (f s (of x))) (same_source now k so) learns);
      }

  pub each_end : (now : Checker) (k : ℕ) → length all ≤ k → IsNotingEach of f all start now k
      → Learns (known_of start) (known_of now) [] (flat_map (f source) (map of all))
  each_end now k end so =
      learning_end (known_of start) (known_of now) [] [] (flat_map (f source) (map of all)) (flat_map (f source) (map of (drop k all))) so.learns refl
      (ap (λ list. flat_map (f source) (map of list)) (drop_all k all end))

-- what is known of one part and then of another
pub then_facts : (a b c : Checker) (fs gs : Source → List Fact) → Learns (known_of a) (known_of b) [] (fs (known_of a).around.source)
    → Learns (known_of b) (known_of c) [] (gs (known_of b).around.source)
    → Learns (known_of a) (known_of c) [] (fs (known_of a).around.source ++ gs (known_of a).around.source)
then_facts a b c fs gs h k =
    learns_then (known_of a) (known_of b) (known_of c) [] [] (fs (known_of a).around.source) (gs (known_of a).around.source) h
    (subst (λ around. Learns (known_of b) (known_of c) [] (gs around.source)) h.around k)
