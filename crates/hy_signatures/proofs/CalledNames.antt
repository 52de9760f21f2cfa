-- What arguments call.
use Rattle.std.proofs.Common.{◌≡◌, ◌<◌, ◌≤◌, ◌&&◌, ℕ, suc, ◌+◌, Bool, true, false, List, [], ◌∷◌, length, get_or, drop, map}
use Rattle.std.proofs.Common.{Option, Some, None, is_none, refl, ap, sym, subst, ◌∙◌, arith, drop-cons, true≢false}
use Rattle.std.proofs.lemmas.List.{drop_all}
use Rattle.hy_tree.specs.Denotes.{args_of}
use Rattle.hy_tree.specs.Names.{labels_of_args}
use Rattle.hy_tree.specs.declared.expression.Arg.{Arg}
use Rattle.hy_types.specs.Types.{Table, PlainType, type_of}
use Rattle.hy_types.specs.declared.kinds.TyId.{TyId}
use Rattle.hy_signatures.specs.Declarations.{Field, names_of}
use Rattle.hy_signatures.specs.MembersShown.{HasFields, field_shown}
use Rattle.hy_signatures.specs.PlainTypes.{is_integer}
use Rattle.hy_signatures.specs.Signatures as S
use Rattle.hy_signatures.specs.SignaturesShown.{IsPerhaps, IsSignature}
use Rattle.hy_signatures.specs.declared.members.FieldType.{FieldType}
use Rattle.hy_signatures.specs.declared.signatures.Signature.{Signature}

-- LABELS

abbrev pub labels : List Arg → List (Option (List ℕ))
labels args = labels_of_args (args_of args)

abbrev pub names : List FieldType → List (Option (List ℕ))
names fields = map (λ (f : FieldType). Some f.name.now.text) fields

-- the names of fields that are kept
pub names_kept : (table : Table) (list : List Field) (kept : List FieldType) → HasFields table list kept → names kept ≡ names_of list
names_kept table list kept has = each kept ∙ ap names_of has.are
  where
    each : (kept : List FieldType) → names kept ≡ names_of (map (field_shown table) kept)
    each [] = refl
    each (f ∷ more) = ap (λ list. Some f.name.now.text ∷ list) (each more)

-- ONE ARGUMENT

pub one_of : (args : List Arg) (a : Arg) → a ≡ get_or args 0 a → length args ≡ 1 → is_none a.label ≡ S.one_unlabelled (labels args)
one_of [] a at one = absurd (omega (arith, one))
one_of (b ∷ []) a at one = ap (λ (x : Arg). is_none x.label) at ∙ unlabelled b.label
  where
    unlabelled : (label : Option (List ℕ)) → is_none label ≡ S.one_unlabelled (label ∷ [])
    unlabelled None = refl
    unlabelled (Some text) = refl
one_of (b ∷ c ∷ more) a at one = absurd (omega (arith, one))

pub not_one : (args : List Arg) → (length args ≡ 1 → ⊥) → false ≡ S.one_unlabelled (labels args)
not_one [] differs = refl
not_one (b ∷ []) differs = absurd (differs refl)
not_one (b ∷ c ∷ more) differs = several b.label
  where
    several : (label : Option (List ℕ)) → false ≡ S.one_unlabelled (label ∷ c.label ∷ labels more)
    several None = refl
    several (Some text) = refl

-- as many labels as arguments
pub counts_differ : (args : List Arg) (fields : List FieldType) → (length args ≡ length fields → ⊥) → S.same_labels (labels args) (names fields) ≡ false
counts_differ [] [] differ = absurd (differ refl)
counts_differ [] (f ∷ fields) differ = refl
counts_differ (a ∷ args) [] differ = refl
counts_differ (a ∷ args) (f ∷ fields) differ = later (S.same_label a.label (Some f.name.now.text)) (counts_differ args fields (λ e. differ (ap suc e)))
  where
    later : (b : Bool) → S.same_labels (labels args) (names fields) ≡ false → b && S.same_labels (labels args) (names fields) ≡ false
    later true e = e
    later false e = refl

-- one label more
module _ (args : List Arg) (fields : List FieldType) (k : ℕ) (a : Arg) (f : FieldType) (arg : a ≡ get_or args k a) (field : f ≡ get_or fields k f)
    (here : k < length args) (there : k < length fields) (b : Bool) (is : b ≡ S.same_label a.label (Some f.name.now.text))
    (so : S.same_labels (labels (drop k args)) (names (drop k fields)) ≡ S.same_labels (labels args) (names fields)) where
  parted : (b && S.same_labels (labels (drop (k + 1) args)) (names (drop (k + 1) fields))) ≡ S.same_labels (labels args) (names fields)
  parted =
      let next : suc k ≡ k + 1 = omega arith in
      let first : drop k args ≡ a ∷ drop (k + 1) args = drop-cons args k a here ∙ (λ i. sym arg i ∷ drop (next i) args) in
      let second : drop k fields ≡ f ∷ drop (k + 1) fields = drop-cons fields k f there ∙ (λ i. sym field i ∷ drop (next i) fields) in
      ap (λ t. t && S.same_labels (labels (drop (k + 1) args)) (names (drop (k + 1) fields))) is
      ∙ sym (λ i. S.same_labels (labels (first i)) (names (second i))) ∙ so

  pub label_same : b ≡ true → S.same_labels (labels (drop (k + 1) args)) (names (drop (k + 1) fields)) ≡ S.same_labels (labels args) (names fields)
  label_same e = ap (λ t. t && S.same_labels (labels (drop (k + 1) args)) (names (drop (k + 1) fields))) (sym e) ∙ parted

  pub label_differs : b ≡ false → false ≡ S.same_labels (labels args) (names fields)
  label_differs e = ap (λ t. t && S.same_labels (labels (drop (k + 1) args)) (names (drop (k + 1) fields))) (sym e) ∙ parted

-- all labels are the same
pub all_same : (args : List Arg) (fields : List FieldType) (k : ℕ) → length args ≤ k → length args ≡ length fields
    → S.same_labels (labels (drop k args)) (names (drop k fields)) ≡ S.same_labels (labels args) (names fields)
    → true ≡ S.same_labels (labels args) (names fields)
all_same args fields k end many so =
    sym (λ i. S.same_labels (labels (drop_all k args end i)) (names (drop_all k fields (let e = many in omega (arith, e, end)) i))) ∙ so

-- CONVERSIONS

abbrev converts : PlainType → S.Signature
converts type = S.predeclared (S.Conversion type) S.NoReceiver (S.parameter S.AnInteger S.Reads ∷ []) type

pub if_true : (table : Table) (b : Bool) (wanted : S.Signature) (s : Signature) → b ≡ true → IsSignature table wanted s
    → IsPerhaps table (S.when b wanted) (Some s)
if_true table true wanted s e is = is
if_true table false wanted s e is = absurd (true≢false (sym e))

pub if_false : (table : Table) (b : Bool) (wanted : S.Signature) → b ≡ false → IsPerhaps table (S.when b wanted) None
if_false table true wanted e = absurd (true≢false e)
if_false table false wanted e = tt

module _ (table : Table) (type : PlainType) (id : TyId) (same : type_of table id ≡ type) where
  pub converted : (s : Signature) → is_integer (type_of table id) ≡ true → IsSignature table (converts (type_of table id)) s
      → IsPerhaps table (S.conversion (Some type)) (Some s)
  converted s e is = subst (λ t. IsPerhaps table (S.conversion (Some t)) (Some s)) same
      (if_true table (is_integer (type_of table id)) (converts (type_of table id)) s e is)

  pub not_converted : is_integer (type_of table id) ≡ false → IsPerhaps table (S.conversion (Some type)) None
  not_converted e = subst (λ t. IsPerhaps table (S.conversion (Some t)) None) same
      (if_false table (is_integer (type_of table id)) (converts (type_of table id)) e)
