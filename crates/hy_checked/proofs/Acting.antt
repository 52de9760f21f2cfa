-- What is found of the live activations, where one of them is changed, started or ended.
use Rattle.std.proofs.Common.{◌≡◌, ◌≢◌, ◌==◌, if◌then◌else◌, inl, inr, ℕ, suc, List, [], ◌∷◌, ◌++◌, length, map, Option}
use Rattle.std.proofs.Common.{Some, None, IsSome, IsSomeAnd, is_some, true, refl, sym, ap, subst, ◌∙◌, arith}
use Rattle.std.proofs.lemmas.Bool.{cases_eq}
use Rattle.hy_frames.specs.declared.id.ActId.{ActId}
use Rattle.hy_frames.specs.declared.id.Standing.{Standing}
use Rattle.hy_frames.specs.declared.id.Standing.TheVariants.{Running, Suspended}
use Rattle.hy_frames.specs.Activations as acts
use Rattle.hy_links.specs.Chains.{AreApart, times}
use Rattle.hy_links.specs.Keyed.{numbered, without, changed}
use Rattle.hy_links.proofs.Chains.{times-le, times-same}
use Rattle.hy_object.specs.declared.object.Object.{Object}
use Rattle.hy_object.specs.Controls.{Taken}
use Rattle.hy_object.specs.States.{Activation}
use Rattle.hy_store.proofs.Waiting.{frames_of, times_joined}
use Rattle.hy_checked.specs.declared.machine.Waiting.{Waiting}
use Rattle.hy_checked.specs.Simulates.{AreCallers, AreSuspended, IsKeptAs, IsPausedAs, IsRunningAs, waits_as}

-- RECORDS OF A NUMBER

same_one : {A : Type 0} (x y : A) → Some x ≡ Some y → x ≡ y
same_one x y h = cc

if_same : {Y : Type 0} (k n : ℕ) (a b : Y) → k ≡ n → (if k == n then a else b) ≡ a
if_same k n a b same = grind arith

if_other : {Y : Type 0} (k n : ℕ) (a b : Y) → k ≢ n → (if k == n then a else b) ≡ b
if_other k n a b differs = grind arith

module _ {X : Type 0} (number : X → ℕ) where
  changed_same : (n : ℕ) (change : X → X) → ((x : X) → number (change x) ≡ number x) → (xs : List X) (w : X) → numbered number n xs ≡ Some w
      → numbered number n (changed number n change xs) ≡ Some (change w)
  changed_same n change keeps [] w h = absurd (cc)
  changed_same n change keeps (x ∷ rest) w h = elim (cases_eq (number x) n) [
    | inl same ↦
        ap (λ y. numbered number n (y ∷ changed number n change rest)) (if_same (number x) n (change x) x same)
        ∙ if_same (number (change x)) n (Some (change x)) (numbered number n (changed number n change rest)) (keeps x ∙ same)
        ∙ ap (λ y. Some (change y)) (same_one x w (sym (if_same (number x) n (Some x) (numbered number n rest) same) ∙ h))
    | inr differs ↦
        ap (λ y. numbered number n (y ∷ changed number n change rest)) (if_other (number x) n (change x) x differs)
        ∙ if_other (number x) n (Some x) (numbered number n (changed number n change rest)) differs
        ∙ changed_same n change keeps rest w (sym (if_other (number x) n (Some x) (numbered number n rest) differs) ∙ h)
  ]

  changed_other : (n k : ℕ) (change : X → X) → ((x : X) → number (change x) ≡ number x) → (xs : List X) → k ≢ n
      → numbered number k (changed number n change xs) ≡ numbered number k xs
  changed_other n k change keeps [] differs = refl
  changed_other n k change keeps (x ∷ rest) differs = elim (cases_eq (number x) n) [
    | inl same ↦
        ap (λ y. numbered number k (y ∷ changed number n change rest)) (if_same (number x) n (change x) x same)
        ∙ if_other (number (change x)) k (Some (change x)) (numbered number k (changed number n change rest)) (λ e. differs (sym e ∙ keeps x ∙ same))
        ∙ changed_other n k change keeps rest differs
        ∙ sym (if_other (number x) k (Some x) (numbered number k rest) (λ e. differs (sym e ∙ same)))
    | inr other ↦
        ap (λ y. numbered number k (y ∷ changed number n change rest)) (if_other (number x) n (change x) x other)
        ∙ ap (λ o. if number x == k then Some x else o) (changed_other n k change keeps rest differs)
  ]

  without_other : (n k : ℕ) (xs : List X) → k ≢ n → numbered number k (without number n xs) ≡ numbered number k xs
  without_other n k [] differs = refl
  without_other n k (x ∷ rest) differs = elim (cases_eq (number x) n) [
    | inl same ↦
        ap (numbered number k) (if_same (number x) n (without number n rest) (x ∷ without number n rest) same)
        ∙ without_other n k rest differs
        ∙ sym (if_other (number x) k (Some x) (numbered number k rest) (λ e. differs (sym e ∙ same)))
    | inr other ↦
        ap (numbered number k) (if_other (number x) n (without number n rest) (x ∷ without number n rest) other)
        ∙ ap (λ o. if number x == k then Some x else o) (without_other n k rest differs)
  ]

  in_front : (k : ℕ) (xs ys : List X) (w : X) → numbered number k xs ≡ Some w → numbered number k (xs ++ ys) ≡ Some w
  in_front k [] ys w h = absurd (cc)
  in_front k (x ∷ rest) ys w h = elim (cases_eq (number x) k) [
    | inl same ↦ if_same (number x) k (Some x) (numbered number k (rest ++ ys)) same
        ∙ sym (if_same (number x) k (Some x) (numbered number k rest) same) ∙ h
    | inr differs ↦ if_other (number x) k (Some x) (numbered number k (rest ++ ys)) differs
        ∙ in_front k rest ys w (sym (if_other (number x) k (Some x) (numbered number k rest) differs) ∙ h)
  ]

  at_end : (k : ℕ) (xs : List X) (x : X) → (IsSome (numbered number k xs) → ⊥) → number x ≡ k → numbered number k (xs ++ x ∷ []) ≡ Some x
  at_end k [] x none is = if_same (number x) k (Some x) None is
  at_end k (y ∷ rest) x none is = elim (cases_eq (number y) k) [
    | inl same ↦ absurd (none (ap is_some (if_same (number y) k (Some y) (numbered number k rest) same)))
    | inr differs ↦
        let other : numbered number k (y ∷ rest) ≡ numbered number k rest = if_other (number y) k (Some y) (numbered number k rest) differs in
        if_other (number y) k (Some y) (numbered number k (rest ++ x ∷ [])) differs ∙ at_end k rest x (λ h. none (ap is_some other ∙ h)) is
  ]

  -- HOW MANY

  changed_size : (n : ℕ) (change : X → X) (xs : List X) → length (changed number n change xs) ≡ length xs
  changed_size n change [] = refl
  changed_size n change (x ∷ rest) = ap suc (changed_size n change rest)

  none_left : (n : ℕ) (xs : List X) → times n (map number xs) ≡ 0 → without number n xs ≡ xs
  none_left n [] none = refl
  none_left n (x ∷ rest) none = elim (cases_eq (number x) n) [
    | inl same ↦ absurd (omega (arith, none, ap (λ k. times n (k ∷ map number rest)) same, times-same n (map number rest)))
    | inr differs ↦
        if_other (number x) n (without number n rest) (x ∷ without number n rest) differs
        ∙ ap (λ ys. x ∷ ys) (none_left n rest (omega (arith, none, times-le n (number x) (map number rest))))
  ]

  without_size : (n : ℕ) (xs : List X) (w : X) → AreApart (map number xs) → numbered number n xs ≡ Some w
      → length xs ≡ suc (length (without number n xs))
  without_size n [] w apart h = absurd (cc)
  without_size n (x ∷ rest) w apart h = elim (cases_eq (number x) n) [
    | inl same ↦
        ap suc (sym (ap (λ ys. length ys) (if_same (number x) n (without number n rest) (x ∷ without number n rest) same
        ∙ none_left n rest (omega (arith, apart n, ap (λ k. times n (k ∷ map number rest)) same, times-same n (map number rest))))))
    | inr differs ↦
        ap suc (without_size n rest w (λ k. omega (arith, apart k, times-le k (number x) (map number rest)))
        (sym (if_other (number x) n (Some x) (numbered number n rest) differs) ∙ h)
        ∙ sym (ap (λ ys. length ys) (if_other (number x) n (without number n rest) (x ∷ without number n rest) differs)))
  ]

-- LIVE ACTIVATIONS

pub live_so : (act : ActId) (live : List acts.Activation) (one : acts.Activation) → acts.activation act live ≡ Some one → acts.IsLive act live
live_so act live one h = ap is_some h

-- what holds of an activation that is found
pub of_found : {A : Type 0} (found : Option A) (one : A) (P : A → Type 0) → found ≡ Some one → IsSomeAnd found P → P one
of_found found one P is h = subst (λ o. IsSomeAnd o P) is h

pub to_found : {A : Type 0} (found : Option A) (one : A) (P : A → Type 0) → found ≡ Some one → P one → IsSomeAnd found P
to_found found one P is h = subst (λ o. IsSomeAnd o P) (sym is) h

-- all activations but the one in that frame are as they were
pub record KeepsOthers (old new : List acts.Activation) (frame : ℕ) : Type 0 where
  pub stays : (act : ActId) (one : acts.Activation) → acts.activation act old ≡ Some one → one.frame ≢ frame → acts.activation act new ≡ Some one

pub then_keeps : (old mid new : List acts.Activation) (frame : ℕ) → KeepsOthers old mid frame → KeepsOthers mid new frame → KeepsOthers old new frame
then_keeps old mid new frame a b = record { stays = λ act one is differs. b.stays act one (a.stays act one is differs) differs }

module _ (old new : List acts.Activation) (act : ActId) (one : acts.Activation) (is : acts.activation act old ≡ Some one) where
  -- another frame is another activation's
  other_number : (other : ActId) (w : acts.Activation) → acts.activation other old ≡ Some w → w.frame ≢ one.frame → other.slot ≢ act.slot
  other_number other w h differs e =
      differs (ap (λ (a : acts.Activation). a.frame) (same_one w one (sym h ∙ ap (λ n. numbered acts.slot_of n old) e ∙ is)))

  module _ (change : acts.Activation → acts.Activation) (changes : new ≡ acts.with_activation act change old) (keeps : (x : acts.Activation)
      → acts.slot_of (change x) ≡ acts.slot_of x) where
    pub changed_keeps : KeepsOthers old new one.frame
    changed_keeps = record {
      stays = λ other w h differs. ap (acts.activation other) changes
          ∙ changed_other acts.slot_of act.slot other.slot change keeps old (other_number other w h differs) ∙ h;
    }

    pub changed_many : length new ≡ length old
    changed_many = ap (λ xs. length xs) changes ∙ changed_size acts.slot_of act.slot change old

    pub changed_is : acts.activation act new ≡ Some (change one)
    changed_is = ap (acts.activation act) changes ∙ changed_same acts.slot_of act.slot change keeps old one is

  pub ended_keeps : new ≡ acts.without_activation act old → KeepsOthers old new one.frame
  ended_keeps ends = record {
    stays = λ other w h differs. ap (acts.activation other) ends
        ∙ without_other acts.slot_of act.slot other.slot old (other_number other w h differs) ∙ h;
  }

  pub ended_many : new ≡ acts.without_activation act old → acts.HaveOwnIds old → length old ≡ suc (length new)
  ended_many ends own = without_size acts.slot_of act.slot old one own is ∙ ap suc (sym (ap (λ xs. length xs) ends))

module _ (old new : List acts.Activation) (act : ActId) (number frame : ℕ) (caller : Option ActId)
    (starts : new ≡ old ++ acts.started act number frame caller ∷ []) where
  pub started_stays : (other : ActId) (w : acts.Activation) → acts.activation other old ≡ Some w → acts.activation other new ≡ Some w
  started_stays other w h = ap (acts.activation other) starts ∙ in_front acts.slot_of other.slot old (acts.started act number frame caller ∷ []) w h

  pub started_many : length new ≡ suc (length old)
  started_many = ap (λ xs. length xs) starts ∙ one_longer old
    where
      one_longer : (xs : List acts.Activation) → length (xs ++ acts.started act number frame caller ∷ []) ≡ suc (length xs)
      one_longer [] = refl
      one_longer (x ∷ rest) = ap suc (one_longer rest)

  pub started_keeps : (f : ℕ) → KeepsOthers old new f
  started_keeps f = record { stays = λ other w h differs. started_stays other w h }

  pub started_is : (acts.IsLive act old → ⊥) → acts.activation act new ≡ Some (acts.started act number frame caller)
  started_is none = ap (acts.activation act) starts ∙ at_end acts.slot_of act.slot old (acts.started act number frame caller) none refl

-- WHO WAITS AND WHO IS SUSPENDED

-- a list of frames that has not this one
pub none_in : (f x : ℕ) (xs : List ℕ) → times f (x ∷ xs) ≡ 0 → (x ≢ f) × (times f xs ≡ 0)
none_in f x xs none = (λ e. absurd (omega (arith, ap (λ n. times f (n ∷ xs)) e, times-same f xs, none)), omega (arith, times-le f x xs, none))

module _ (object : Object) (old new : List acts.Activation) (f : ℕ) (keeps : KeepsOthers old new f) where
  pub paused_stays : (act : ActId) (standing : Standing) (a : Activation) → a.frame ≢ f → IsPausedAs object old act standing a
      → IsPausedAs object new act standing a
  paused_stays act standing a differs p = record {
    one = p.one;
    is = keeps.stays act p.one p.is (λ e. differs (p.kept.frame ∙ e));
    standing_is = p.standing_is;
    kept = p.kept;
  }

  pub callers_stay : (caller : Option ActId) (activations : List Activation) → times f (frames_of activations) ≡ 0
      → AreCallers object old caller activations → AreCallers object new caller activations
  callers_stay caller [] none h = h
  callers_stay caller (a ∷ rest) none h =
      let away = none_in f a.frame (frames_of rest) none in
      (h.0, h.1, (h.2.0, (paused_stays h.0 (Running h.1) a away.0 h.2.1.0, callers_stay h.1 rest away.1 h.2.1.1)))

  pub suspended_stay : (suspended_ids : List ActId) (activations : List Activation) → times f (frames_of activations) ≡ 0
      → AreSuspended object old suspended_ids activations → AreSuspended object new suspended_ids activations
  suspended_stay suspended_ids [] none h = h
  suspended_stay suspended_ids (a ∷ rest) none h =
      let away = none_in f a.frame (frames_of rest) none in
      (h.0, h.1, (h.2.0, (paused_stays h.0 Suspended a away.0 h.2.1.0, suspended_stay h.1 rest away.1 h.2.1.1)))

-- one that goes on runs
pub runs_on : (object : Object) (live : List acts.Activation) (act : ActId) (caller : Option ActId) (a : Activation)
    → IsPausedAs object live act (Running caller) a → IsRunningAs live act caller a
runs_on object live act caller a p = record { one = p.one; is = p.is; standing_is = p.standing_is; number = p.kept.number; frame = p.kept.frame }

-- where it goes on, as it was kept
pub kept_as : (object : Object) (live : List acts.Activation) (act : ActId) (standing : Standing) (a : Activation) (w : Waiting)
    → IsPausedAs object live act standing a → IsSomeAnd (acts.activation act live) (λ one. w ≡ waits_as one) → IsKeptAs object w a
kept_as object live act standing a w p told =
    subst (λ v. IsKeptAs object v a) (sym (of_found (acts.activation act live) p.one (λ one. w ≡ waits_as one) p.is told)) p.kept

-- FRAMES

-- the running activation's frame is none of the others'
pub own_apart : (f : ℕ) (xs ys : List Activation) → AreApart (f ∷ frames_of (xs ++ ys))
    → (times f (frames_of xs) ≡ 0) × (times f (frames_of ys) ≡ 0)
own_apart f xs ys apart = (
  omega (arith, apart f, times-same f (frames_of (xs ++ ys)), times_joined f xs ys),
  omega (arith, apart f, times-same f (frames_of (xs ++ ys)), times_joined f xs ys),
)

-- the frame of a suspended one is none of the others'
pub record IsApart (f : ℕ) (callers : List Activation) (t : Taken) : Type 0 where
  pub running : f ≢ t.found.frame
  pub waiting : times t.found.frame (frames_of callers) ≡ 0
  pub others : times t.found.frame (frames_of t.others) ≡ 0
  pub not_running : times f (frames_of t.others) ≡ 0

pub suspended_apart : (f : ℕ) (callers suspended : List Activation) (t : Taken) → AreApart (f ∷ frames_of (callers ++ suspended))
    → ((n : ℕ) → times n (frames_of suspended) ≡ times n (t.found.frame ∷ frames_of t.others)) → IsApart f callers t
suspended_apart f callers suspended t apart same =
    let most = apart t.found.frame in
    let le = times-le t.found.frame f (frames_of (callers ++ suspended)) in
    let joined = times_joined t.found.frame callers suspended in
    let found = times-same t.found.frame (frames_of t.others) in
    let here = same t.found.frame in
    let mine = own_apart f callers suspended apart in
    record {
      running = λ e. absurd (omega (arith, ap (λ n. times n (frames_of suspended)) e, mine.1, here, found));
      waiting = omega (arith, most, le, joined, found, here);
      others = omega (arith, most, le, joined, found, here);
      not_running = omega (arith, mine.1, same f, times-le f t.found.frame (frames_of t.others));
    }

-- THE FIRST

pub one_live : (none live : List acts.Activation) (act : ActId) (number frame : ℕ) → none ≡ []
    → live ≡ none ++ acts.started act number frame None ∷ []
    → length live ≡ 1
one_live none live act number frame empty begins = started_many none live act number frame None begins ∙ ap (λ xs. suc (length xs)) empty

pub first_runs : (none live : List acts.Activation) (act : ActId) (number frame : ℕ) (a : Activation) → none ≡ []
    → live ≡ none ++ acts.started act number frame None ∷ [] → a.number ≡ number → a.frame ≡ frame → IsRunningAs live act None a
first_runs none live act number frame a empty begins number_is frame_is = record {
  one = acts.started act number frame None;
  is = started_is none live act number frame None begins (λ there. absurd (never (ap (λ xs. is_some (acts.activation act xs)) (sym empty) ∙ there)));
  standing_is = refl;
  number = number_is;
  frame = frame_is;
}
  where
    never : is_some (acts.activation act []) ≡ true → ⊥
    never e = cc
