-- Paths along a format: its fields, one after the other, to the object at the end. A run goes along one, or stops at the
-- first field that cannot stand.
use Rattle.std.proofs.Common.{◌≡◌, ℕ, ◌≤◌, List, [], ◌∷◌, ◌++◌, length, Option, Some, None, Result, Ok, Err, refl, ap, sym, subst, ◌∙◌, append_assoc, arith}
use Rattle.std.specs.List.{concat}
use Rattle.std.proofs.lemmas.List.{length-append}
use Rattle.hy_object.specs.declared.object.Object.{Object}
use Rattle.hy_object.specs.Formats.{Kind, Held, spelled, read_field, Format, Done, Then, run, follow}
use Rattle.hy_object.proofs.Choices.{some_is, none_is_some}
use Rattle.hy_object.proofs.Fields.{Fits, taken, again}
use Rattle.hy_object.proofs.Runs.{run_some}

abbrev pub Path : Format → List (List ℕ) → Object → Type 0
Path (Done made) fields object = (fields ≡ []) × (made ≡ object)
Path (Then kind next) fields object = (held : Held kind) × (rest : List (List ℕ)) × Fits kind held × (fields ≡ spelled kind held ∷ rest)
    × Path (next held) rest object

-- each field of a format has something that fits, and so have all that may follow
abbrev pub Lives : Format → Type 0
Lives (Done made) = Unit {0}
Lives (Then kind next) = ((held : Held kind) × Fits kind held) × ((held : Held kind) → Fits kind held → Lives (next held))

-- so it can be gone to its end
pub completes : (format : Format) → Lives format → (fields : List (List ℕ)) × (object : Object) × Path format fields object
completes (Done made) lives = ([], made, (refl, refl))
completes (Then kind next) lives =
    let held = lives.0.0 in
    let more = completes (next held) (lives.1 held lives.0.1) in
    (spelled kind held ∷ more.0, more.1, (held, more.0, lives.0.1, refl, more.2))

-- what is spelled along a path is read
pub along : (format : Format) (fields : List (List ℕ)) (object : Object) → Path format fields object → run format (concat fields) ≡ Ok object
unfolding run
along (Done made) fields object p = rw (p.0, p.1) refl
along (Then kind next) fields object p =
    let held = p.0 in
    ap (λ (fs : List (List ℕ)). run (Then kind next) (concat fs)) p.3
    ∙ run_some kind next held (spelled kind held ++ concat p.1) (concat p.1) (again kind held (concat p.1) p.2) ∙ along (next held) p.1 object p.4

abbrev sure : Object → Result Object ℕ
sure object = Ok object

abbrev stopped : ℕ → Result Object ℕ
stopped n = Err n

ok_is : (x y : Object) → sure x ≡ sure y → x ≡ y
ok_is x y e = cc

err_is : (m n : ℕ) → stopped m ≡ stopped n → m ≡ n
err_is m n e = cc

-- a field that is read, with what follows it
abbrev pub Walked : Format → List ℕ → Object → Type 0
Walked format bytes object = (fields : List (List ℕ)) × Path format fields object × (bytes ≡ concat fields)

walked_then : (kind : Kind) (next : Held kind → Format) (found : Option (Held kind × List ℕ)) (bytes : List ℕ) (object : Object)
    → ((held : Held kind) (rest : List ℕ) → run (next held) rest ≡ Ok object → Walked (next held) rest object)
    → read_field kind bytes ≡ found → follow found (λ held rest. run (next held) rest) (length bytes) ≡ Ok object → Walked (Then kind next) bytes object
walked_then kind next None bytes object walk read e = absurd cc
walked_then kind next (Some (held, rest)) bytes object walk read e =
    let field = taken kind held bytes rest read in
    let more = walk held rest e in
    (spelled kind held ∷ more.0, (held, more.0, field.1, refl, more.1), field.0 ∙ ap (λ (t : List ℕ). spelled kind held ++ t) more.2)

-- what is read is spelled along a path
pub walked : (format : Format) (bytes : List ℕ) (object : Object) → run format bytes ≡ Ok object → Walked format bytes object
unfolding run
walked (Done made) [] object e = ([], (refl, ok_is made object e), refl)
walked (Done made) (b ∷ bytes) object e = absurd cc
walked (Then kind next) bytes object e = walked_then kind next (read_field kind bytes) bytes object (λ held rest. walked (next held) rest object) refl e

-- WHERE A RUN STOPS

-- The bytes are bad where so many are left: before it they are the first fields of a path, no more of them are, and they
-- are the fields of none.
pub record IsBad (format : Format) (bytes : List ℕ) (left : ℕ) : Type 0 where
  pub done : List (List ℕ)
  pub more : List (List ℕ)
  pub object : Object
  pub rest : List ℕ
  pub path : Path format (done ++ more) object
  pub begins : bytes ≡ concat done ++ rest
  pub left_is : length rest ≡ left
  pub longest : (done more : List (List ℕ)) (object : Object) (rest : List ℕ) → Path format (done ++ more) object → bytes ≡ concat done ++ rest
      → left ≤ length rest
  pub none : (fields : List (List ℕ)) (object : Object) → Path format fields object → bytes ≡ concat fields → ⊥

first_is : (a b : List ℕ) (xs ys : List (List ℕ)) → a ∷ xs ≡ b ∷ ys → (a ≡ b) × (xs ≡ ys)
first_is a b xs ys e = (cc, cc)

-- two ways to begin with a field are one
one_way : (kind : Kind) (held other : Held kind) (bytes rest behind : List ℕ) → read_field kind bytes ≡ Some (held, rest) → Fits kind other
    → bytes ≡ spelled kind other ++ behind → (other ≡ held) × (behind ≡ rest)
one_way kind held other bytes rest behind read fits is =
    let pair = some_is _ _ (sym (again kind other behind fits) ∙ ap (read_field kind) (sym is) ∙ read) in
    (ap (λ (x : Held kind × List ℕ). x.0) pair, ap (λ (x : Held kind × List ℕ). x.1) pair)

-- where nothing can stand
no_longer : (kind : Kind) (next : Held kind → Format) (bytes : List ℕ)
    → ((held : Held kind) (behind : List ℕ) → Fits kind held → bytes ≡ spelled kind held ++ behind → ⊥)
    → (done more : List (List ℕ)) (object : Object) (rest : List ℕ) → Path (Then kind next) (done ++ more) object → bytes ≡ concat done ++ rest
    → length bytes ≤ length rest
no_longer kind next bytes none [] more object rest p is = omega (arith, ap length is)
no_longer kind next bytes none (f ∷ done) more object rest p is =
    let first = first_is f (spelled kind p.0) (done ++ more) p.1 p.3 in
    absurd (none p.0 (concat done ++ rest) p.2 (is ∙ ap (λ (t : List ℕ). (t ++ concat done) ++ rest) first.0
    ∙ append_assoc (spelled kind p.0) (concat done) rest))

bad_here : (kind : Kind) (next : Held kind → Format) (bytes : List ℕ) → Lives (Then kind next) → read_field kind bytes ≡ None
    → IsBad (Then kind next) bytes (length bytes)
bad_here kind next bytes lives read =
    let none : (held : Held kind) (behind : List ℕ) → Fits kind held → bytes ≡ spelled kind held ++ behind → ⊥ =
    λ held behind fits is. none_is_some (held, behind) (sym read ∙ ap (read_field kind) is ∙ again kind held behind fits) in
    let whole = completes (Then kind next) lives in
    record {
      done = [];
      more = whole.0;
      object = whole.1;
      rest = bytes;
      path = whole.2;
      begins = refl;
      left_is = refl;
      longest = no_longer kind next bytes none;
      none = λ fields object p is. none p.0 (concat p.1) p.2 (is ∙ ap concat p.3);
    }

-- after a field that stands there
longer : (kind : Kind) (next : Held kind → Format) (held : Held kind) (bytes behind : List ℕ) (left : ℕ) → read_field kind bytes ≡ Some (held, behind)
    → bytes ≡ spelled kind held ++ behind → IsBad (next held) behind left
    → (done more : List (List ℕ)) (object : Object) (rest : List ℕ) → Path (Then kind next) (done ++ more) object → bytes ≡ concat done ++ rest
    → left ≤ length rest
longer kind next held bytes behind left read spelled_so bad [] more object rest p is =
    omega (
      arith,
      ap length is,
      ap length spelled_so,
      length-append (spelled kind held) behind,
      ap length bad.begins,
      length-append (concat bad.done) bad.rest,
      bad.left_is,
    )
longer kind next held bytes behind left read spelled_so bad (f ∷ done) more object rest p is =
    let first = first_is f (spelled kind p.0) (done ++ more) p.1 p.3 in
    let whole : bytes ≡ spelled kind p.0 ++ (concat done ++ rest) = is ∙ ap (λ (t : List ℕ). (t ++ concat done) ++ rest) first.0
    ∙ append_assoc (spelled kind p.0) (concat done) rest in
    let same = one_way kind held p.0 bytes behind (concat done ++ rest) read p.2 whole in
    let path : Path (next held) p.1 object = subst (λ (h : Held kind). Path (next h) p.1 object) same.0 p.4 in
    bad.longest done more object rest (subst (λ (fs : List (List ℕ)). Path (next held) fs object) (sym first.1) path) (sym same.1)

bad_behind : (kind : Kind) (next : Held kind → Format) (held : Held kind) (bytes behind : List ℕ) (left : ℕ) → read_field kind bytes ≡ Some (held, behind)
    → IsBad (next held) behind left → IsBad (Then kind next) bytes left
bad_behind kind next held bytes behind left read bad =
    let field = taken kind held bytes behind read in
    record {
      done = spelled kind held ∷ bad.done;
      more = bad.more;
      object = bad.object;
      rest = bad.rest;
      path = (held, bad.done ++ bad.more, field.1, refl, bad.path);
      begins = field.0 ∙ ap (λ (t : List ℕ). spelled kind held ++ t) bad.begins ∙ sym (append_assoc (spelled kind held) (concat bad.done) bad.rest);
      left_is = bad.left_is;
      longest = longer kind next held bytes behind left read field.0 bad;
      none = λ fields object p is.
          let same = one_way kind held p.0 bytes behind (concat p.1) read p.2 (is ∙ ap concat p.3) in
          bad.none p.1 object (subst (λ (h : Held kind). Path (next h) p.1 object) same.0 p.4) (sym same.1);
    }

bad_then : (kind : Kind) (next : Held kind → Format) (found : Option (Held kind × List ℕ)) (bytes : List ℕ) (left : ℕ) → Lives (Then kind next)
    → ((held : Held kind) (rest : List ℕ) → Lives (next held) → run (next held) rest ≡ Err left → IsBad (next held) rest left)
    → read_field kind bytes ≡ found → follow found (λ held rest. run (next held) rest) (length bytes) ≡ Err left → IsBad (Then kind next) bytes left
bad_then kind next None bytes left lives go read e =
    subst (λ (n : ℕ). IsBad (Then kind next) bytes n) (err_is (length bytes) left e) (bad_here kind next bytes lives read)
bad_then kind next (Some (held, rest)) bytes left lives go read e =
    bad_behind kind next held bytes rest left read (go held rest (lives.1 held (taken kind held bytes rest read).1) e)

at_end : (made : Object) (bytes : List ℕ) (done more : List (List ℕ)) (object : Object) (rest : List ℕ) → Path (Done made) (done ++ more) object
    → bytes ≡ concat done ++ rest → length bytes ≤ length rest
at_end made bytes [] more object rest p is = omega (arith, ap length is)
at_end made bytes (f ∷ done) more object rest p is = absurd cc

bad_end : (made : Object) (b : ℕ) (bytes : List ℕ) → IsBad (Done made) (b ∷ bytes) (length (b ∷ bytes))
bad_end made b bytes = record {
  done = [];
  more = [];
  object = made;
  rest = b ∷ bytes;
  path = (refl, refl);
  begins = refl;
  left_is = refl;
  longest = at_end made (b ∷ bytes);
  none = λ fields object p is. let no : b ∷ bytes ≡ [] = is ∙ ap concat p.0 in absurd cc;
}

-- where a run stops, the bytes are bad
pub is_bad : (format : Format) (bytes : List ℕ) (left : ℕ) → Lives format → run format bytes ≡ Err left → IsBad format bytes left
unfolding run
is_bad (Done made) [] left lives e = absurd cc
is_bad (Done made) (b ∷ bytes) left lives e = subst (λ (n : ℕ). IsBad (Done made) (b ∷ bytes) n) (err_is (length (b ∷ bytes)) left e) (bad_end made b bytes)
is_bad (Then kind next) bytes left lives e = bad_then kind next (read_field kind bytes) bytes left lives (λ held rest. is_bad (next held) rest left) refl e
