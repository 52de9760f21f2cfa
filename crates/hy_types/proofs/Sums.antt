-- Words as sums over parts, and why there are none.
use Rattle.std.proofs.Common.{◌≡◌, ◌≤◌, ◌+◌, ◌⊎◌, inl, inr, ℕ, suc, zero, List, [], ◌∷◌, ◌++◌, take, Option, Some, None, refl, sym, ap, subst, ◌∙◌, arith}
use Rattle.std.proofs.Common.{Contains, zero-add, add-zero, add_assoc}
use Rattle.hy_types.specs.declared.kinds.TyId.{TyId}
use Rattle.hy_types.specs.declared.kinds.Ty.{Ty}
use Rattle.hy_types.specs.declared.kinds.Ty.TheVariants as ty
use Rattle.hy_types.specs.Types.{Table, row_at}
use Rattle.hy_types.specs.Words.{shape, HasShape, Takes, of, TakeTogether, none, more, LiesIn, itself}
use Rattle.hy_types.specs.Words.{in_part, HoldsParameter, IsEndless, HasWords, HasNoWords}

pub cons_cases : {X : Type 0} (x : X) (xs : List X) (y : X) → Contains (x ∷ xs) y → (x ≡ y) ⊎ Contains xs y
cons_cases x xs y (zero, l, e) = inl e
cons_cases x xs y (suc k, l, e) = inr (k, omega arith, e)

pub one_shape : (table : Table) (id : TyId) (own other : ℕ) (parts parts' : List TyId) → HasShape table id own parts → HasShape table id other parts'
    → (own ≡ other) × (parts ≡ parts')
one_shape table id own other parts parts' h g =
    let rows : Some h.0 ≡ Some g.0 = sym h.1 ∙ g.1 in
    let same : h.0 ≡ g.0 = cc in
    let shapes : ◌≡◌ {A = Option (ℕ × List TyId)} (Some (own, parts)) (Some (other, parts')) = sym h.2 ∙ ap (shape table) same ∙ g.2 in
    let pair : ◌≡◌ {A = ℕ × List TyId} (own, parts) (other, parts') = cc in
    (ap (λ (p : ℕ × List TyId). p.0) pair, ap (λ (p : ℕ × List TyId). p.1) pair)

module _ (table : Table) where
  -- how a type's words are made up
  pub record Made (id : TyId) (words : ℕ) : Type 0 where
    pub own : ℕ
    pub parts : List TyId
    pub rest : ℕ
    pub shaped : HasShape table id own parts
    pub together : TakeTogether table parts rest
    pub sum : words ≡ own + rest

  pub made : {id : TyId} {words : ℕ} → Takes table id words → Made id words
  made (of {own = own} {words = words} {parts = parts} h t) = record { own = own; parts = parts; rest = words; shaped = h; together = t; sum = refl }

  pub record MadeMore (id : TyId) (ids : List TyId) (words : ℕ) : Type 0 where
    pub first : ℕ
    pub rest : ℕ
    pub one : Takes table id first
    pub others : TakeTogether table ids rest
    pub sum : words ≡ first + rest

  made_more_at : {list : List TyId} {words : ℕ} → TakeTogether table list words → (id : TyId) (ids : List TyId) → list ≡ id ∷ ids → MadeMore id ids words
  made_more_at none id ids e = cc
  made_more_at (more {id = x} {ids = xs} {first = first} {rest = rest} t ts) id ids e =
      let same : x ≡ id = cc in
      let tail : xs ≡ ids = cc in
      record { first = first; rest = rest; one = subst (λ i. Takes table i first) same t; others = subst (λ l. TakeTogether table l rest) tail ts; sum = refl }

  pub made_more : (id : TyId) (ids : List TyId) {words : ℕ} → TakeTogether table (id ∷ ids) words → MadeMore id ids words
  made_more id ids t = made_more_at t id ids refl

  made_none_at : {list : List TyId} {words : ℕ} → TakeTogether table list words → list ≡ [] → words ≡ 0
  made_none_at none e = refl
  made_none_at (more t ts) e = cc

  -- a type takes one number of words
  mutual
    pub one_words : {id : TyId} {m n : ℕ} → Takes table id m → Takes table id n → m ≡ n
    one_words (of {id = id} {own = own} {words = words} {parts = parts} h t) second =
        let g = made second in
        let s = one_shape table id own g.own parts g.parts h g.shaped in
        let e : words ≡ g.rest = one_sum t (subst (λ l. TakeTogether table l g.rest) (sym s.1) g.together) in
        (λ i. s.0 i + e i) ∙ sym g.sum

    pub one_sum : {ids : List TyId} {m n : ℕ} → TakeTogether table ids m → TakeTogether table ids n → m ≡ n
    one_sum none second = sym (made_none_at second refl)
    one_sum (more {id = id} {ids = ids} t ts) second =
        let g = made_more id ids second in
        (λ i. one_words t g.one i + one_sum ts g.others i) ∙ sym g.sum

  -- the words of one more type
  pub sum_push : {ids : List TyId} {m n : ℕ} {id : TyId} → TakeTogether table ids m → Takes table id n → TakeTogether table (ids ++ id ∷ []) (m + n)
  sum_push {n = n} {id = id} none t = subst (λ k. TakeTogether table (id ∷ []) k) (add-zero n ∙ sym (zero-add n)) (more t none)
  sum_push {n = n} {id = id} (more {id = x} {ids = ids} {first = first} {rest = rest} u us) t =
      subst (λ k. TakeTogether table (x ∷ (ids ++ id ∷ [])) k) (sym (add_assoc first rest n)) (more u (sum_push us t))

  -- the words of the first types are no more
  pub sum_take : (k : ℕ) {ids : List TyId} {n : ℕ} → TakeTogether table ids n → (m : ℕ) × TakeTogether table (take k ids) m × (m ≤ n)
  sum_take zero {n = n} t = (0, none, omega arith)
  sum_take (suc k) none = (0, none, omega arith)
  sum_take (suc k) (more {first = first} {rest = rest} t ts) =
      let s = sum_take k ts in
      (first + s.0, more t s.1, omega (arith, s.2))

  -- each part has words
  pub sum_part : {ids : List TyId} {n : ℕ} → TakeTogether table ids n → (id : TyId) → Contains ids id → (m : ℕ) × Takes table id m
  sum_part none id (k, l, e) = absurd (omega (arith, l))
  sum_part (more {id = x} {ids = xs} {first = first} t ts) id c =
      elim (cons_cases x xs id c) [ inl e ↦ (first, subst (λ i. Takes table i first) e t) | inr d ↦ sum_part ts id d ]

  -- a type with words holds no parameter
  pub no_parameter_at : {depth : ℕ} {inner id : TyId} → LiesIn table depth inner id → (place : ℕ) → row_at table inner ≡ Some (ty.Param place) → (n : ℕ)
      → Takes table id n → ⊥
  no_parameter_at (itself {id = id}) place row n t =
      let g = made t in
      let rows : Some g.shaped.0 ≡ Some (ty.Param place) = sym g.shaped.1 ∙ row in
      let same : g.shaped.0 ≡ ty.Param place = cc in
      let bad : ◌≡◌ {A = Option (ℕ × List TyId)} None (Some (g.own, g.parts)) = ap (shape table) (sym same) ∙ g.shaped.2 in
      cc
  no_parameter_at (in_part {own = own} {part = part} {outer = id} {parts = parts} h c l) place row n t =
      let g = made t in
      let s = one_shape table id own g.own parts g.parts h g.shaped in
      let p = sum_part g.together part (subst (λ k. Contains k part) s.1 c) in
      no_parameter_at l place row p.0 p.1

  pub no_parameter : (id : TyId) (n : ℕ) → Takes table id n → HoldsParameter table id → ⊥
  no_parameter id n t h = no_parameter_at h.3 h.1 h.4 n t

  lies_at : {depth : ℕ} {inner id : TyId} → LiesIn table depth inner id → (own : ℕ) (parts : List TyId) (d : ℕ) → HasShape table id own parts
      → suc d ≤ depth → (part : TyId) × Contains parts part × (k : ℕ) × (d ≤ k) × LiesIn table k inner part
  lies_at itself own parts d h l = absurd (omega arith)
  lies_at (in_part {depth = depth} {own = own'} {part = part} {outer = id} {parts = parts'} h' c lies) own parts d h l =
      let s = one_shape table id own' own parts' parts h' h in
      (part, subst (λ k. Contains k part) s.1 c, depth, omega arith, lies)

  -- a type with words has no parts deeper than some depth
  mutual
    height : {id : TyId} {n : ℕ} → Takes table id n → (d : ℕ) × ((k : ℕ) (inner : TyId) → d ≤ k → LiesIn table k inner id → ⊥)
    height (of {id = id} {own = own} {parts = parts} h t) =
        let g = heights t in
        (suc g.0, λ k inner l lies. let p = lies_at lies own parts g.0 h l in g.1 p.0 p.1 p.2 inner p.3 p.4)

    heights : {ids : List TyId} {n : ℕ} → TakeTogether table ids n → (d : ℕ)
        × ((part : TyId) → Contains ids part → (k : ℕ) (inner : TyId) → d ≤ k → LiesIn table k inner part → ⊥)
    heights none = (0, λ part c k inner l lies. absurd (omega (arith, c.1)))
    heights (more {id = x} {ids = xs} t ts) =
        let g = height t in
        let f = heights ts in (
          g.0 + f.0,
          λ part c k inner l lies.
              elim (cons_cases x xs part c) [
                | inl e ↦ g.1 k inner (omega arith) (subst (λ i. LiesIn table k inner i) (sym e) lies)
                | inr d ↦ f.1 part d k inner (omega arith) lies
              ],
        )

  pub not_endless : (id : TyId) (n : ℕ) → Takes table id n → IsEndless table id → ⊥
  not_endless id n t endless = let g = height t in g.1 g.0 (endless g.0).0 (omega arith) (endless g.0).1

  -- a type that has words has no cause to have none
  pub has_or_not : (id : TyId) (n : ℕ) → HasWords table id n → HasNoWords table id → ⊥
  has_or_not id n has (inl parameter) = no_parameter id n has.0 parameter
  has_or_not id n has (inr (inl endless)) = not_endless id n has.0 endless
  has_or_not id n has (inr (inr large)) = let e : n ≡ large.0 = one_words has.0 large.1 in omega (arith, e, has.1, large.2)

-- what a table says of its types it says after a change too
pub record Keeps (old new : Table) : Type 0 where
  pub rows : (id : TyId) (row : Ty) → row_at old id ≡ Some row → row_at new id ≡ Some row
  pub shapes : (row : Ty) (own : ℕ) (parts : List TyId) → shape old row ≡ Some (own, parts) → shape new row ≡ Some (own, parts)

module _ (old new : Table) (keeps : Keeps old new) where
  pub shape_kept : (id : TyId) (own : ℕ) (parts : List TyId) → HasShape old id own parts → HasShape new id own parts
  shape_kept id own parts h = (h.0, keeps.rows id h.0 h.1, keeps.shapes h.0 own parts h.2)

  mutual
    pub takes_kept : {id : TyId} {n : ℕ} → Takes old id n → Takes new id n
    takes_kept (of {id = id} {own = own} {parts = parts} h t) = of (shape_kept id own parts h) (sum_kept t)

    pub sum_kept : {ids : List TyId} {n : ℕ} → TakeTogether old ids n → TakeTogether new ids n
    sum_kept none = none
    sum_kept (more t ts) = more (takes_kept t) (sum_kept ts)

  lies_kept : {depth : ℕ} {inner id : TyId} → LiesIn old depth inner id → LiesIn new depth inner id
  lies_kept itself = itself
  lies_kept (in_part {own = own} {outer = id} {parts = parts} h c l) = in_part (shape_kept id own parts h) c (lies_kept l)

  pub parameter_kept : (id : TyId) → HoldsParameter old id → HoldsParameter new id
  parameter_kept id h = (h.0, h.1, h.2, lies_kept h.3, keeps.rows h.2 (ty.Param h.1) h.4)
