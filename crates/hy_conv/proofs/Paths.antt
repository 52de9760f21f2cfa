-- What is computed of paths is so of them, and what is so of them is computed.
use Rattle.std.proofs.Common.{◌≡◌, ◌⊎◌, inl, inr, ⊎_elim, Bool as Truth, true, false, not, ◌&&◌, ◌||◌, cond, List, [], ◌∷◌, ◌++◌, refl, subst, append-nil}
use Rattle.hy_base.specs.declared.position.Span.{Span}
use Rattle.hy_tree.specs.Tree as T
use Rattle.hy_conv.specs.Paths.{Ending, Falls, Returns, Breaks, Continues, falls, returns, breaks, continues, goes_round, is_plain, Through, plain, branch}
use Rattle.hy_conv.specs.Paths.{no_branch, loop, returned, broken, continued, yielded, ThroughAll, end, left, next, ThroughBlock, braces, ThroughBranches}
use Rattle.hy_conv.specs.Paths.{taken, passed, ThroughOtherwise, no_else, else, Passes, no_pass, last_pass, return_pass, one_more, Has, IsLater}
use Rattle.hy_conv.specs.Yielding.{silent, silent_all, silent_block, silent_branches, silent_otherwise, yielding, yielding_all, yielding_block}
use Rattle.hy_conv.specs.Yielding.{yielding_branches, yielding_otherwise, yielding_round, goes_on, met, met_all, met_block, met_branches, met_otherwise}
use Rattle.hy_conv.specs.Yielding.{later, later_all, later_block, later_branches, later_otherwise}

-- TRUTH VALUES

or_left : (a b : Truth) → a ≡ true → (a || b) ≡ true
or_left true b e = refl
or_left false b e = absurd (cc)

or_right : (a b : Truth) → b ≡ true → (a || b) ≡ true
or_right true b e = refl
or_right false b e = e

or_cases : (a b : Truth) → (a || b) ≡ true → (a ≡ true) ⊎ (b ≡ true)
or_cases true b e = inl refl
or_cases false b e = inr e

and_both : (a b : Truth) → a ≡ true → b ≡ true → (a && b) ≡ true
and_both true b e f = f
and_both false b e f = absurd (cc)

and_left : (a b : Truth) → (a && b) ≡ true → a ≡ true
and_left true b e = refl
and_left false b e = absurd (cc)

and_right : (a b : Truth) → (a && b) ≡ true → b ≡ true
and_right true b e = e
and_right false b e = absurd (cc)

not_true : (a : Truth) → not a ≡ true → a ≡ false
not_true true e = absurd (cc)
not_true false e = refl

not_false : (a : Truth) → a ≡ false → not a ≡ true
not_false true e = absurd (cc)
not_false false e = refl

-- TOKENS

has_left : (t : Span) (first rest : List Span) → Has t first → Has t (first ++ rest)
has_left t [] rest h = absurd (h)
has_left t (u ∷ us) rest h = ⊎_elim (λ e. inl e) (λ more. inr (has_left t us rest more)) h

has_right : (t : Span) (first rest : List Span) → Has t rest → Has t (first ++ rest)
has_right t [] rest h = h
has_right t (u ∷ us) rest h = inr (has_right t us rest h)

has_cases : (t : Span) (first rest : List Span) → Has t (first ++ rest) → Has t first ⊎ Has t rest
has_cases t [] rest h = inr h
has_cases t (u ∷ us) rest h = ⊎_elim (λ e. inl (inl e)) (λ more. ⊎_elim (λ here. inl (inr here)) (λ there. inr there) (has_cases t us rest more)) h

has_later : (t : Span) (ts : List Span) → IsLater t ts → Has t ts
has_later t [] h = absurd (h)
has_later t (u ∷ us) h = inr h

later_left : (t : Span) (first rest : List Span) → IsLater t first → IsLater t (first ++ rest)
later_left t [] rest h = absurd (h)
later_left t (u ∷ us) rest h = has_left t us rest h

later_right : (t : Span) (first rest : List Span) → IsLater t rest → IsLater t (first ++ rest)
later_right t [] rest h = h
later_right t (u ∷ us) rest h = has_right t us rest (has_later t rest h)

has_if : (t : Span) (test : Truth) (ts : List Span) → test ≡ true → Has t ts → Has t (cond test ts [])
has_if t true ts e h = h
has_if t false ts e h = absurd (cc)

if_has : (t : Span) (test : Truth) (ts : List Span) → Has t (cond test ts []) → (test ≡ true) × Has t ts
if_has t true ts h = (refl, h)
if_has t false ts h = absurd (h)

-- WHAT A PATH TELLS

-- one of the two holds, as there are no tokens or some
abbrev Tells : (without with : Truth) → List Span → Type 0
Tells without with [] = without ≡ true
Tells without with (t ∷ ts) = with ≡ true

tells_both : (a b c d : Truth) (ts : List Span) → (a ≡ true → c ≡ true) → (b ≡ true → d ≡ true) → Tells a b ts → Tells c d ts
tells_both a b c d [] f g h = f h
tells_both a b c d (t ∷ ts) f g h = g h

tells_or : (a b : Truth) (ts : List Span) → Tells a b ts → (a || b) ≡ true
tells_or a b [] h = or_left a b h
tells_or a b (t ∷ ts) h = or_right a b h

tells_next : (l m a b c d : Truth) (first rest : List Span) → Tells a b first → Tells c d rest
    → Tells (l || (a && c)) (m || ((b && (c || d)) || (a && d))) (first ++ rest)
tells_next l m a b c d [] [] h k = or_right l (a && c) (and_both a c h k)
tells_next l m a b c d [] (t ∷ ts) h k = or_right m ((b && (c || d)) || (a && d)) (or_right (b && (c || d)) (a && d) (and_both a d h k))
tells_next l m a b c d (u ∷ us) rest h k =
    or_right m ((b && (c || d)) || (a && d)) (or_left (b && (c || d)) (a && d) (and_both b (c || d) h (tells_or c d rest k)))

plain_falls : (s : T.Stmt) → is_plain s ≡ true → silent Falls s ≡ true
plain_falls (T.Binding introducer name written value at) e = refl
plain_falls (T.Declare name written at) e = refl
plain_falls (T.Assign target value at) e = refl
plain_falls (T.Compound target operator value at) e = refl
plain_falls (T.Evaluate value at) e = refl
plain_falls (T.If branches otherwise at) e = absurd (cc)
plain_falls (T.While token condition body at) e = absurd (cc)
plain_falls (T.Return token value at) e = absurd (cc)
plain_falls (T.Break at) e = absurd (cc)
plain_falls (T.Continue at) e = absurd (cc)
plain_falls (T.Yield token value at) e = absurd (cc)

-- a loop, as `silent` and `yielding` have it
abbrev SilentLoop : Ending → T.Block → Truth
SilentLoop e body = falls e || (returns e && silent_block Returns body)

abbrev YieldingLoop : Ending → T.Block → Truth
YieldingLoop e body =
    (falls e && (yielding_round body || yielding_block Breaks body))
    || (returns e && (yielding_block Returns body || (yielding_round body && silent_block Returns body)))

round_yields : (body : T.Block) (round : Ending) → goes_round round ≡ true → yielding_block round body ≡ true → yielding_round body ≡ true
round_yields body Falls e h = or_left (yielding_block Falls body) (yielding_block Continues body) h
round_yields body Returns e h = absurd (cc)
round_yields body Breaks e h = absurd (cc)
round_yields body Continues e h = or_right (yielding_block Falls body) (yielding_block Continues body) h

-- after a pass with a `yield`, whatever the rest tells
loop_yields : (body : T.Block) (e : Ending) (rest : List Span) → yielding_round body ≡ true → Tells (SilentLoop e body) (YieldingLoop e body) rest
    → YieldingLoop e body ≡ true
loop_yields body e (t ∷ ts) h k = k
loop_yields body Falls [] h k = or_left (yielding_round body || yielding_block Breaks body) false (or_left (yielding_round body)
    (yielding_block Breaks body) h)
loop_yields body Returns [] h k =
    or_right (yielding_block Returns body) (yielding_round body && silent_block Returns body) (and_both (yielding_round body) (silent_block Returns body) h k)
loop_yields body Breaks [] h k = absurd (cc)
loop_yields body Continues [] h k = absurd (cc)

tells_round : (body : T.Block) (first rest : List Span) (round e : Ending) → goes_round round ≡ true
    → Tells (silent_block round body) (yielding_block round body) first → Tells (SilentLoop e body) (YieldingLoop e body) rest
    → Tells (SilentLoop e body) (YieldingLoop e body) (first ++ rest)
tells_round body [] rest round e g h k = k
tells_round body (u ∷ us) rest round e g h k = loop_yields body e rest (round_yields body round g h) k

mutual
  told : (s : T.Stmt) (ts : List Span) (e : Ending) → Through s ts e → Tells (silent e s) (yielding e s) ts
  told s _ _ (plain is) = plain_falls s is
  told _ ts e (branch {branches} {otherwise} p) =
      tells_both (silent_branches e branches) (yielding_branches e branches) (silent_branches e branches || silent_otherwise e otherwise)
      (yielding_branches e branches || yielding_otherwise e otherwise) ts (or_left (silent_branches e branches) (silent_otherwise e otherwise))
      (or_left (yielding_branches e branches) (yielding_otherwise e otherwise)) (told_branches branches ts e p)
  told _ ts e (no_branch {branches} {otherwise} p) =
      tells_both (silent_otherwise e otherwise) (yielding_otherwise e otherwise) (silent_branches e branches || silent_otherwise e otherwise)
      (yielding_branches e branches || yielding_otherwise e otherwise) ts (or_right (silent_branches e branches) (silent_otherwise e otherwise))
      (or_right (yielding_branches e branches) (yielding_otherwise e otherwise)) (told_otherwise otherwise ts e p)
  told _ ts e (loop {token} {condition} {body} p) = told_passes body ts e p
  told _ _ _ returned = refl
  told _ _ _ broken = refl
  told _ _ _ continued = refl
  told _ _ _ yielded = refl

  told_all : (ss : T.Stmts) (ts : List Span) (e : Ending) → ThroughAll ss ts e → Tells (silent_all e ss) (yielding_all e ss) ts
  told_all _ _ _ end = refl
  told_all _ ts e (left {s} {more} p is) =
      tells_both (silent e s) (yielding e s) (silent_all e (T.ThenStmt s more)) (yielding_all e (T.ThenStmt s more)) ts
      (λ h. or_left (not (falls e) && silent e s) (silent Falls s && silent_all e more) (and_both (not (falls e)) (silent e s) (not_false (falls e) is) h))
      (λ h. or_left (not (falls e) && yielding e s) _ (and_both (not (falls e)) (yielding e s) (not_false (falls e) is) h)) (told s ts e p)
  told_all _ _ e (next {s} {more} {first} {rest} p q) =
      tells_next (not (falls e) && silent e s) (not (falls e) && yielding e s) (silent Falls s) (yielding Falls s) (silent_all e more) (yielding_all e more)
      first rest (told s first Falls p) (told_all more rest e q)

  pub told_block : (b : T.Block) (ts : List Span) (e : Ending) → ThroughBlock b ts e → Tells (silent_block e b) (yielding_block e b) ts
  told_block _ ts e (braces {stmts} p) = told_all stmts ts e p

  told_branches : (bs : T.Branches) (ts : List Span) (e : Ending) → ThroughBranches bs ts e → Tells (silent_branches e bs) (yielding_branches e bs) ts
  told_branches _ ts e (taken {token} {condition} {body} {more} p) =
      tells_both (silent_block e body) (yielding_block e body) (silent_block e body || silent_branches e more)
      (yielding_block e body || yielding_branches e more) ts (or_left (silent_block e body) (silent_branches e more))
      (or_left (yielding_block e body) (yielding_branches e more)) (told_block body ts e p)
  told_branches _ ts e (passed {token} {condition} {body} {more} p) =
      tells_both (silent_branches e more) (yielding_branches e more) (silent_block e body || silent_branches e more)
      (yielding_block e body || yielding_branches e more) ts (or_right (silent_block e body) (silent_branches e more))
      (or_right (yielding_block e body) (yielding_branches e more)) (told_branches more ts e p)

  told_otherwise : (o : T.Otherwise) (ts : List Span) (e : Ending) → ThroughOtherwise o ts e → Tells (silent_otherwise e o) (yielding_otherwise e o) ts
  told_otherwise _ _ _ no_else = refl
  told_otherwise _ ts e (else {body} p) = told_block body ts e p

  told_passes : (b : T.Block) (ts : List Span) (e : Ending) → Passes b ts e → Tells (SilentLoop e b) (YieldingLoop e b) ts
  told_passes b _ _ no_pass = refl
  told_passes b ts _ (last_pass p) =
      tells_both (silent_block Breaks b) (yielding_block Breaks b) true (YieldingLoop Falls b) ts (λ h. refl)
      (λ h. or_left (yielding_round b || yielding_block Breaks b) false (or_right (yielding_round b) (yielding_block Breaks b) h)) (told_block b ts Breaks p)
  told_passes b ts _ (return_pass p) =
      tells_both (silent_block Returns b) (yielding_block Returns b) (silent_block Returns b) (YieldingLoop Returns b) ts (λ h. h)
      (or_left (yielding_block Returns b) (yielding_round b && silent_block Returns b)) (told_block b ts Returns p)
  told_passes b _ e (one_more {body} {first} {rest} {round} p is q) =
      tells_round b first rest round e is (told_block b first round p) (told_passes b rest e q)

-- PATHS THAT ARE THERE

falls_is : (P : Ending → Type 0) (e : Ending) → falls e ≡ true → P Falls → P e
falls_is P Falls e p = p
falls_is P Returns e p = absurd (cc)
falls_is P Breaks e p = absurd (cc)
falls_is P Continues e p = absurd (cc)

returns_is : (P : Ending → Type 0) (e : Ending) → returns e ≡ true → P Returns → P e
returns_is P Falls e p = absurd (cc)
returns_is P Returns e p = p
returns_is P Breaks e p = absurd (cc)
returns_is P Continues e p = absurd (cc)

breaks_is : (P : Ending → Type 0) (e : Ending) → breaks e ≡ true → P Breaks → P e
breaks_is P Falls e p = absurd (cc)
breaks_is P Returns e p = absurd (cc)
breaks_is P Breaks e p = p
breaks_is P Continues e p = absurd (cc)

continues_is : (P : Ending → Type 0) (e : Ending) → continues e ≡ true → P Continues → P e
continues_is P Falls e p = absurd (cc)
continues_is P Returns e p = absurd (cc)
continues_is P Breaks e p = absurd (cc)
continues_is P Continues e p = p

mutual
  silent_path : (s : T.Stmt) (e : Ending) → silent e s ≡ true → Through s [] e
  silent_path (T.Binding introducer name written value at) e h = falls_is (Through (T.Binding introducer name written value at) []) e h (plain refl)
  silent_path (T.Declare name written at) e h = falls_is (Through (T.Declare name written at) []) e h (plain refl)
  silent_path (T.Assign target value at) e h = falls_is (Through (T.Assign target value at) []) e h (plain refl)
  silent_path (T.Compound target operator value at) e h = falls_is (Through (T.Compound target operator value at) []) e h (plain refl)
  silent_path (T.Evaluate value at) e h = falls_is (Through (T.Evaluate value at) []) e h (plain refl)
  silent_path (T.If branches otherwise at) e h =
      ⊎_elim (λ b. branch (silent_branches_path branches e b)) (λ o. no_branch (silent_otherwise_path otherwise e o))
      (or_cases (silent_branches e branches) (silent_otherwise e otherwise) h)
  silent_path (T.While token condition body at) e h =
      ⊎_elim (λ f. falls_is (Through (T.While token condition body at) []) e f (loop no_pass))
      (λ r. returns_is (Through (T.While token condition body at) []) e (and_left (returns e) (silent_block Returns body) r)
      (loop (return_pass (silent_block_path body Returns (and_right (returns e) (silent_block Returns body) r)))))
      (or_cases (falls e) (returns e && silent_block Returns body) h)
  silent_path (T.Return token value at) e h = returns_is (Through (T.Return token value at) []) e h returned
  silent_path (T.Break at) e h = breaks_is (Through (T.Break at) []) e h broken
  silent_path (T.Continue at) e h = continues_is (Through (T.Continue at) []) e h continued
  silent_path (T.Yield token value at) e h = absurd (cc)

  silent_all_path : (ss : T.Stmts) (e : Ending) → silent_all e ss ≡ true → ThroughAll ss [] e
  silent_all_path T.NoStmt e h = falls_is (ThroughAll T.NoStmt []) e h end
  silent_all_path (T.ThenStmt s more) e h =
      ⊎_elim (λ a. left (silent_path s e (and_right (not (falls e)) (silent e s) a)) (not_true (falls e) (and_left (not (falls e)) (silent e s) a)))
      (λ b. next (silent_path s Falls (and_left (silent Falls s) (silent_all e more) b)) (silent_all_path more e (and_right (silent Falls s)
      (silent_all e more) b)))
      (or_cases (not (falls e) && silent e s) (silent Falls s && silent_all e more) h)

  pub silent_block_path : (b : T.Block) (e : Ending) → silent_block e b ≡ true → ThroughBlock b [] e
  silent_block_path (T.Braces stmts at) e h = braces (silent_all_path stmts e h)

  silent_branches_path : (bs : T.Branches) (e : Ending) → silent_branches e bs ≡ true → ThroughBranches bs [] e
  silent_branches_path T.NoBranch e h = absurd (cc)
  silent_branches_path (T.ThenBranch token condition body more) e h =
      ⊎_elim (λ b. taken (silent_block_path body e b)) (λ m. passed (silent_branches_path more e m)) (or_cases (silent_block e body)
      (silent_branches e more) h)

  silent_otherwise_path : (o : T.Otherwise) (e : Ending) → silent_otherwise e o ≡ true → ThroughOtherwise o [] e
  silent_otherwise_path T.NoElse e h = falls_is (ThroughOtherwise T.NoElse []) e h no_else
  silent_otherwise_path (T.Else body) e h = else (silent_block_path body e h)

-- a path with some tokens
abbrev Some : (List Span → Type 0) → Type 0
Some Path = (t : Span) × (ts : List Span) × Path (t ∷ ts)

some_map : (P Q : List Span → Type 0) → ((ts : List Span) → P ts → Q ts) → Some P → Some Q
some_map P Q f x = (x.0, x.1, f (x.0 ∷ x.1) x.2)

-- and some more, which may be none
some_then : (P Q : List Span → Type 0) (rest : List Span) → ((ts : List Span) → P ts → Q (ts ++ rest)) → Some P → Some Q
some_then P Q rest f x = (x.0, x.1 ++ rest, f (x.0 ∷ x.1) x.2)

some_falls : (P : List Span → Ending → Type 0) (e : Ending) → falls e ≡ true → Some (λ ts. P ts Falls) → Some (λ ts. P ts e)
some_falls P e h x = falls_is (λ e. Some (λ ts. P ts e)) e h x

some_returns : (P : List Span → Ending → Type 0) (e : Ending) → returns e ≡ true → Some (λ ts. P ts Returns) → Some (λ ts. P ts e)
some_returns P e h x = returns_is (λ e. Some (λ ts. P ts e)) e h x

-- a pass with these tokens, after which another may follow
abbrev Goes : T.Block → List Span → Type 0
Goes body ts = (round : Ending) × ThroughBlock body ts round × (goes_round round ≡ true)

-- `path` has the passes of the body
round_path : (body : T.Block) → ((e : Ending) → yielding_block e body ≡ true → Some (λ ts. ThroughBlock body ts e)) → yielding_round body ≡ true
    → Some (Goes body)
round_path body path h =
    ⊎_elim (λ f. some_map (λ ts. ThroughBlock body ts Falls) (Goes body) (λ ts p. (Falls, p, refl)) (path Falls f))
    (λ c. some_map (λ ts. ThroughBlock body ts Continues) (Goes body) (λ ts p. (Continues, p, refl)) (path Continues c))
    (or_cases (yielding_block Falls body) (yielding_block Continues body) h)

mutual
  yielding_path : (s : T.Stmt) (e : Ending) → yielding e s ≡ true → Some (λ ts. Through s ts e)
  yielding_path (T.Binding introducer name written value at) e h = absurd (cc)
  yielding_path (T.Declare name written at) e h = absurd (cc)
  yielding_path (T.Assign target value at) e h = absurd (cc)
  yielding_path (T.Compound target operator value at) e h = absurd (cc)
  yielding_path (T.Evaluate value at) e h = absurd (cc)
  yielding_path (T.If branches otherwise at) e h =
      ⊎_elim (λ b. some_map (λ ts. ThroughBranches branches ts e) (λ ts. Through (T.If branches otherwise at) ts e)
      (λ ts p. branch p) (yielding_branches_path branches e b))
      (λ o. some_map (λ ts. ThroughOtherwise otherwise ts e) (λ ts. Through (T.If branches otherwise at) ts e)
      (λ ts p. no_branch p) (yielding_otherwise_path otherwise e o))
      (or_cases (yielding_branches e branches) (yielding_otherwise e otherwise) h)
  yielding_path (T.While token condition body at) e h =
      some_map (λ ts. Passes body ts e) (λ ts. Through (T.While token condition body at) ts e) (λ ts p. loop p) (⊎_elim
      (λ f. some_falls (Passes body) e (and_left (falls e) (yielding_round body || yielding_block Breaks body) f) (⊎_elim
      (λ r. some_then (Goes body) (λ ts. Passes body ts Falls) [] (λ ts p. one_more p.1 p.2 no_pass) (round_path body (λ e h. yielding_block_path body e h) r))
      (λ b. some_map (λ ts. ThroughBlock body ts Breaks) (λ ts. Passes body ts Falls) (λ ts p. last_pass p) (yielding_block_path body Breaks b))
      (or_cases (yielding_round body) (yielding_block Breaks body) (and_right (falls e) (yielding_round body || yielding_block Breaks body) f))))
      (λ g. some_returns (Passes body) e (and_left (returns e) (yielding_block Returns body || (yielding_round body && silent_block Returns body)) g) (⊎_elim
      (λ r. some_map (λ ts. ThroughBlock body ts Returns) (λ ts. Passes body ts Returns) (λ ts p. return_pass p) (yielding_block_path body Returns r))
      (λ b. some_then (Goes body) (λ ts. Passes body ts Returns) []
      (λ ts p. one_more p.1 p.2 (return_pass (silent_block_path body Returns (and_right (yielding_round body) (silent_block Returns body) b))))
      (round_path body (λ e h. yielding_block_path body e h) (and_left (yielding_round body) (silent_block Returns body) b)))
      (or_cases (yielding_block Returns body) (yielding_round body && silent_block Returns body)
      (and_right (returns e) (yielding_block Returns body || (yielding_round body && silent_block Returns body)) g))))
      (or_cases (falls e && (yielding_round body || yielding_block Breaks body))
      (returns e && (yielding_block Returns body || (yielding_round body && silent_block Returns body))) h))
  yielding_path (T.Return token value at) e h = absurd (cc)
  yielding_path (T.Break at) e h = absurd (cc)
  yielding_path (T.Continue at) e h = absurd (cc)
  yielding_path (T.Yield token value at) e h = some_falls (Through (T.Yield token value at)) e h (token, [], yielded)

  yielding_all_path : (ss : T.Stmts) (e : Ending) → yielding_all e ss ≡ true → Some (λ ts. ThroughAll ss ts e)
  yielding_all_path T.NoStmt e h = absurd (cc)
  yielding_all_path (T.ThenStmt s more) e h =
      ⊎_elim
      (λ a. some_map (λ ts. Through s ts e) (λ ts. ThroughAll (T.ThenStmt s more) ts e)
      (λ ts p. left p (not_true (falls e) (and_left (not (falls e)) (yielding e s) a))) (yielding_path s e (and_right (not (falls e)) (yielding e s) a)))
      (λ b. ⊎_elim
      (λ f. let p = yielding_path s Falls (and_left (yielding Falls s) (silent_all e more || yielding_all e more) f) in ⊎_elim
      (λ n. some_then (λ ts. Through s ts Falls) (λ ts. ThroughAll (T.ThenStmt s more) ts e) [] (λ ts p. next p (silent_all_path more e n)) p)
      (λ y. let q = yielding_all_path more e y in
      some_then (λ ts. Through s ts Falls) (λ ts. ThroughAll (T.ThenStmt s more) ts e) (q.0 ∷ q.1) (λ ts p. next p q.2) p)
      (or_cases (silent_all e more) (yielding_all e more) (and_right (yielding Falls s) (silent_all e more || yielding_all e more) f)))
      (λ r. some_map (λ ts. ThroughAll more ts e) (λ ts. ThroughAll (T.ThenStmt s more) ts e)
      (λ ts q. next (silent_path s Falls (and_left (silent Falls s) (yielding_all e more) r)) q)
      (yielding_all_path more e (and_right (silent Falls s) (yielding_all e more) r)))
      (or_cases (yielding Falls s && (silent_all e more || yielding_all e more)) (silent Falls s && yielding_all e more) b))
      (or_cases (not (falls e) && yielding e s)
      ((yielding Falls s && (silent_all e more || yielding_all e more)) || (silent Falls s && yielding_all e more)) h)

  pub yielding_block_path : (b : T.Block) (e : Ending) → yielding_block e b ≡ true → Some (λ ts. ThroughBlock b ts e)
  yielding_block_path (T.Braces stmts at) e h =
      some_map (λ ts. ThroughAll stmts ts e) (λ ts. ThroughBlock (T.Braces stmts at) ts e) (λ ts p. braces p) (yielding_all_path stmts e h)

  yielding_branches_path : (bs : T.Branches) (e : Ending) → yielding_branches e bs ≡ true → Some (λ ts. ThroughBranches bs ts e)
  yielding_branches_path T.NoBranch e h = absurd (cc)
  yielding_branches_path (T.ThenBranch token condition body more) e h =
      ⊎_elim
      (λ b. some_map (λ ts. ThroughBlock body ts e) (λ ts. ThroughBranches (T.ThenBranch token condition body more) ts e)
      (λ ts p. taken p) (yielding_block_path body e b))
      (λ m. some_map (λ ts. ThroughBranches more ts e) (λ ts. ThroughBranches (T.ThenBranch token condition body more) ts e) (λ ts p. passed p)
      (yielding_branches_path more e m))
      (or_cases (yielding_block e body) (yielding_branches e more) h)

  yielding_otherwise_path : (o : T.Otherwise) (e : Ending) → yielding_otherwise e o ≡ true → Some (λ ts. ThroughOtherwise o ts e)
  yielding_otherwise_path T.NoElse e h = absurd (cc)
  yielding_otherwise_path (T.Else body) e h =
      some_map (λ ts. ThroughBlock body ts e) (λ ts. ThroughOtherwise (T.Else body) ts e) (λ ts p. else p) (yielding_block_path body e h)

-- a path of which this holds
abbrev Path : (List Span → Ending → Type 0) → (List Span → Type 0) → Type 0
Path Through Holds = (ts : List Span) × (e : Ending) × Through ts e × Holds ts

path_map : (P Q : List Span → Ending → Type 0) (H : List Span → Type 0) → ((ts : List Span) (e : Ending) → P ts e → Q ts e) → Path P H → Path Q H
path_map P Q H f x = (x.0, x.1, f x.0 x.1 x.2, x.3)

abbrev Any : List Span → Type 0
Any ts = Unit {0}

-- with no more tokens
no_more : (P : List Span → Type 0) (ts : List Span) → P (ts ++ []) → P ts
no_more P ts p = subst P (append-nil ts) p

-- a loop with one pass
one_pass : (body : T.Block) (ts : List Span) (e : Ending) → ThroughBlock body ts e → (f : Ending) × Passes body ts f
one_pass body ts Falls p = (Falls, no_more (λ ts. Passes body ts Falls) ts (one_more p refl no_pass))
one_pass body ts Returns p = (Returns, return_pass p)
one_pass body ts Breaks p = (Falls, last_pass p)
one_pass body ts Continues p = (Falls, no_more (λ ts. Passes body ts Falls) ts (one_more p refl no_pass))

-- a path goes on to the end of what follows
goes_further : (s : T.Stmt) (more : T.Stmts) (H : List Span → Type 0) → ((first rest : List Span) → H first → H (first ++ rest)) → Path (ThroughAll more) Any
    → (ts : List Span) (e : Ending) → Through s ts e → H ts → Path (ThroughAll (T.ThenStmt s more)) H
goes_further s more H keep q ts Falls p h = (ts ++ q.0, q.1, next p q.2, keep ts q.0 h)
goes_further s more H keep q ts Returns p h = (ts, Returns, left p refl, h)
goes_further s more H keep q ts Breaks p h = (ts, Breaks, left p refl, h)
goes_further s more H keep q ts Continues p h = (ts, Continues, left p refl, h)

mutual
  a_path : (s : T.Stmt) → Path (Through s) Any
  a_path (T.Binding introducer name written value at) = ([], Falls, plain refl, tt)
  a_path (T.Declare name written at) = ([], Falls, plain refl, tt)
  a_path (T.Assign target value at) = ([], Falls, plain refl, tt)
  a_path (T.Compound target operator value at) = ([], Falls, plain refl, tt)
  a_path (T.Evaluate value at) = ([], Falls, plain refl, tt)
  a_path (T.If branches otherwise at) =
      path_map (ThroughOtherwise otherwise) (Through (T.If branches otherwise at)) Any (λ ts e p. no_branch p) (a_path_otherwise otherwise)
  a_path (T.While token condition body at) = ([], Falls, loop no_pass, tt)
  a_path (T.Return token value at) = ([], Returns, returned, tt)
  a_path (T.Break at) = ([], Breaks, broken, tt)
  a_path (T.Continue at) = ([], Continues, continued, tt)
  a_path (T.Yield token value at) = (token ∷ [], Falls, yielded, tt)

  a_path_all : (ss : T.Stmts) → Path (ThroughAll ss) Any
  a_path_all T.NoStmt = ([], Falls, end, tt)
  a_path_all (T.ThenStmt s more) = let p = a_path s in goes_further s more Any (λ first rest h. tt) (a_path_all more) p.0 p.1 p.2 tt

  a_path_block : (b : T.Block) → Path (ThroughBlock b) Any
  a_path_block (T.Braces stmts at) = path_map (ThroughAll stmts) (ThroughBlock (T.Braces stmts at)) Any (λ ts e p. braces p) (a_path_all stmts)

  a_path_otherwise : (o : T.Otherwise) → Path (ThroughOtherwise o) Any
  a_path_otherwise T.NoElse = ([], Falls, no_else, tt)
  a_path_otherwise (T.Else body) = path_map (ThroughBlock body) (ThroughOtherwise (T.Else body)) Any (λ ts e p. else p) (a_path_block body)

-- a path to the end of a statement, where there is one
to_the_end : (s : T.Stmt) → goes_on s ≡ true → (ts : List Span) × Through s ts Falls
to_the_end s h =
    ⊎_elim (λ n. ([], silent_path s Falls n)) (λ y. let p = yielding_path s Falls y in (p.0 ∷ p.1, p.2)) (or_cases (silent Falls s) (yielding Falls s) h)

-- TOKENS THAT ARE MET

mutual
  met_path : (t : Span) (s : T.Stmt) → Has t (met s) → Path (Through s) (Has t)
  met_path t (T.Binding introducer name written value at) h = absurd (h)
  met_path t (T.Declare name written at) h = absurd (h)
  met_path t (T.Assign target value at) h = absurd (h)
  met_path t (T.Compound target operator value at) h = absurd (h)
  met_path t (T.Evaluate value at) h = absurd (h)
  met_path t (T.If branches otherwise at) h =
      ⊎_elim (λ b. path_map (ThroughBranches branches) (Through (T.If branches otherwise at)) (Has t) (λ ts e p. branch p) (met_branches_path t branches b))
      (λ o. path_map (ThroughOtherwise otherwise) (Through (T.If branches otherwise at)) (Has t) (λ ts e p. no_branch p) (met_otherwise_path t otherwise o))
      (has_cases t (met_branches branches) (met_otherwise otherwise) h)
  met_path t (T.While token condition body at) h =
      let p = met_block_path t body h in
      let q = one_pass body p.0 p.1 p.2 in
      (p.0, q.0, loop q.1, p.3)
  met_path t (T.Return token value at) h = absurd (h)
  met_path t (T.Break at) h = absurd (h)
  met_path t (T.Continue at) h = absurd (h)
  met_path t (T.Yield token value at) h = (token ∷ [], Falls, yielded, h)

  met_all_path : (t : Span) (ss : T.Stmts) → Has t (met_all ss) → Path (ThroughAll ss) (Has t)
  met_all_path t T.NoStmt h = absurd (h)
  met_all_path t (T.ThenStmt s more) h =
      ⊎_elim (λ here. let p = met_path t s here in goes_further s more (Has t) (has_left t) (a_path_all more) p.0 p.1 p.2 p.3)
      (λ there. let x = if_has t (goes_on s) (met_all more) there in
      let p = to_the_end s x.0 in
      let q = met_all_path t more x.1 in
      (p.0 ++ q.0, q.1, next p.1 q.2, has_right t p.0 q.0 q.3)) (has_cases t (met s) (cond (goes_on s) (met_all more) []) h)

  met_block_path : (t : Span) (b : T.Block) → Has t (met_block b) → Path (ThroughBlock b) (Has t)
  met_block_path t (T.Braces stmts at) h = path_map (ThroughAll stmts) (ThroughBlock (T.Braces stmts at)) (Has t) (λ ts e p. braces p) (met_all_path t stmts h)

  met_branches_path : (t : Span) (bs : T.Branches) → Has t (met_branches bs) → Path (ThroughBranches bs) (Has t)
  met_branches_path t T.NoBranch h = absurd (h)
  met_branches_path t (T.ThenBranch token condition body more) h =
      ⊎_elim
      (λ b. path_map (ThroughBlock body) (ThroughBranches (T.ThenBranch token condition body more)) (Has t) (λ ts e p. taken p) (met_block_path t body b))
      (λ m. path_map (ThroughBranches more) (ThroughBranches (T.ThenBranch token condition body more)) (Has t)
      (λ ts e p. passed p) (met_branches_path t more m))
      (has_cases t (met_block body) (met_branches more) h)

  met_otherwise_path : (t : Span) (o : T.Otherwise) → Has t (met_otherwise o) → Path (ThroughOtherwise o) (Has t)
  met_otherwise_path t T.NoElse h = absurd (h)
  met_otherwise_path t (T.Else body) h = path_map (ThroughBlock body) (ThroughOtherwise (T.Else body)) (Has t) (λ ts e p. else p) (met_block_path t body h)

mutual
  is_met : (t : Span) (s : T.Stmt) (ts : List Span) (e : Ending) → Through s ts e → Has t ts → Has t (met s)
  is_met t s _ _ (plain is) h = absurd (h)
  is_met t _ ts e (branch {branches} {otherwise} p) h = has_left t (met_branches branches) (met_otherwise otherwise) (is_met_branches t branches ts e p h)
  is_met t _ ts e (no_branch {branches} {otherwise} p) h = has_right t (met_branches branches) (met_otherwise otherwise)
      (is_met_otherwise t otherwise ts e p h)
  is_met t _ ts e (loop {token} {condition} {body} p) h = is_met_passes t body ts e p h
  is_met t _ _ _ returned h = absurd (h)
  is_met t _ _ _ broken h = absurd (h)
  is_met t _ _ _ continued h = absurd (h)
  is_met t _ _ _ yielded h = h

  is_met_all : (t : Span) (ss : T.Stmts) (ts : List Span) (e : Ending) → ThroughAll ss ts e → Has t ts → Has t (met_all ss)
  is_met_all t _ _ _ end h = absurd (h)
  is_met_all t _ ts e (left {s} {more} p is) h = has_left t (met s) (cond (goes_on s) (met_all more) []) (is_met t s ts e p h)
  is_met_all t _ _ e (next {s} {more} {first} {rest} p q) h =
      ⊎_elim (λ here. has_left t (met s) (cond (goes_on s) (met_all more) []) (is_met t s first Falls p here))
      (λ there. has_right t (met s) (cond (goes_on s) (met_all more) []) (has_if t (goes_on s) (met_all more)
      (tells_or (silent Falls s) (yielding Falls s) first (told s first Falls p)) (is_met_all t more rest e q there))) (has_cases t first rest h)

  is_met_block : (t : Span) (b : T.Block) (ts : List Span) (e : Ending) → ThroughBlock b ts e → Has t ts → Has t (met_block b)
  is_met_block t _ ts e (braces {stmts} p) h = is_met_all t stmts ts e p h

  is_met_branches : (t : Span) (bs : T.Branches) (ts : List Span) (e : Ending) → ThroughBranches bs ts e → Has t ts → Has t (met_branches bs)
  is_met_branches t _ ts e (taken {token} {condition} {body} {more} p) h = has_left t (met_block body) (met_branches more) (is_met_block t body ts e p h)
  is_met_branches t _ ts e (passed {token} {condition} {body} {more} p) h = has_right t (met_block body) (met_branches more) (is_met_branches t more ts e p h)

  is_met_otherwise : (t : Span) (o : T.Otherwise) (ts : List Span) (e : Ending) → ThroughOtherwise o ts e → Has t ts → Has t (met_otherwise o)
  is_met_otherwise t _ _ _ no_else h = absurd (h)
  is_met_otherwise t _ ts e (else {body} p) h = is_met_block t body ts e p h

  is_met_passes : (t : Span) (b : T.Block) (ts : List Span) (e : Ending) → Passes b ts e → Has t ts → Has t (met_block b)
  is_met_passes t b _ _ no_pass h = absurd (h)
  is_met_passes t b ts _ (last_pass p) h = is_met_block t b ts Breaks p h
  is_met_passes t b ts _ (return_pass p) h = is_met_block t b ts Returns p h
  is_met_passes t b _ e (one_more {body} {first} {rest} {round} p is q) h =
      ⊎_elim (λ here. is_met_block t b first round p here) (λ there. is_met_passes t b rest e q there) (has_cases t first rest h)

-- TOKENS THAT ARE MET LATER

-- where what follows the first so many tokens is met, after one
seam : (t : Span) (first rest : List Span) (A : Type 0) → (IsLater t first → A) → ((u : Span) (us : List Span) → first ≡ u ∷ us → Has t rest → A)
    → (IsLater t rest → A) → IsLater t (first ++ rest) → A
seam t [] rest A f g k h = k h
seam t (u ∷ us) rest A f g k h = ⊎_elim (λ here. f here) (λ there. g u us refl there) (has_cases t us rest h)

tells_with : (a b : Truth) (ts : List Span) (u : Span) (us : List Span) → ts ≡ u ∷ us → Tells a b ts → b ≡ true
tells_with a b ts u us is h = subst (Tells a b) is h

mutual
  later_path : (t : Span) (s : T.Stmt) → Has t (later s) → Path (Through s) (IsLater t)
  later_path t (T.Binding introducer name written value at) h = absurd (h)
  later_path t (T.Declare name written at) h = absurd (h)
  later_path t (T.Assign target value at) h = absurd (h)
  later_path t (T.Compound target operator value at) h = absurd (h)
  later_path t (T.Evaluate value at) h = absurd (h)
  later_path t (T.If branches otherwise at) h =
      ⊎_elim (λ b. path_map (ThroughBranches branches) (Through (T.If branches otherwise at)) (IsLater t)
      (λ ts e p. branch p) (later_branches_path t branches b))
      (λ o. path_map (ThroughOtherwise otherwise) (Through (T.If branches otherwise at)) (IsLater t)
      (λ ts e p. no_branch p) (later_otherwise_path t otherwise o))
      (has_cases t (later_branches branches) (later_otherwise otherwise) h)
  later_path t (T.While token condition body at) h =
      ⊎_elim
      (λ here. let p = later_block_path t body here in
      let q = one_pass body p.0 p.1 p.2 in
      (p.0, q.0, loop q.1, p.3))
      (λ there. let x = if_has t (yielding_round body) (met_block body) there in
      let r = round_path body (λ e h. yielding_block_path body e h) x.0 in
      let p = met_block_path t body x.1 in
      let q = one_pass body p.0 p.1 p.2 in
      ((r.0 ∷ r.1) ++ p.0, q.0, loop (one_more r.2.1 r.2.2 q.1), has_right t r.1 p.0 p.3))
      (has_cases t (later_block body) (cond (yielding_round body) (met_block body) []) h)
  later_path t (T.Return token value at) h = absurd (h)
  later_path t (T.Break at) h = absurd (h)
  later_path t (T.Continue at) h = absurd (h)
  later_path t (T.Yield token value at) h = absurd (h)

  later_all_path : (t : Span) (ss : T.Stmts) → Has t (later_all ss) → Path (ThroughAll ss) (IsLater t)
  later_all_path t T.NoStmt h = absurd (h)
  later_all_path t (T.ThenStmt s more) h =
      ⊎_elim (λ here. let p = later_path t s here in goes_further s more (IsLater t) (later_left t) (a_path_all more) p.0 p.1 p.2 p.3)
      (λ others. ⊎_elim
      (λ one. let x = if_has t (yielding Falls s) (met_all more) one in
      let p = yielding_path s Falls x.0 in
      let q = met_all_path t more x.1 in
      ((p.0 ∷ p.1) ++ q.0, q.1, next p.2 q.2, has_right t p.1 q.0 q.3))
      (λ two. let x = if_has t (goes_on s) (later_all more) two in
      let p = to_the_end s x.0 in
      let q = later_all_path t more x.1 in
      (p.0 ++ q.0, q.1, next p.1 q.2, later_right t p.0 q.0 q.3))
      (has_cases t (cond (yielding Falls s) (met_all more) []) (cond (goes_on s) (later_all more) []) others))
      (has_cases t (later s) (cond (yielding Falls s) (met_all more) [] ++ cond (goes_on s) (later_all more) []) h)

  pub later_block_path : (t : Span) (b : T.Block) → Has t (later_block b) → Path (ThroughBlock b) (IsLater t)
  later_block_path t (T.Braces stmts at) h =
      path_map (ThroughAll stmts) (ThroughBlock (T.Braces stmts at)) (IsLater t) (λ ts e p. braces p) (later_all_path t stmts h)

  later_branches_path : (t : Span) (bs : T.Branches) → Has t (later_branches bs) → Path (ThroughBranches bs) (IsLater t)
  later_branches_path t T.NoBranch h = absurd (h)
  later_branches_path t (T.ThenBranch token condition body more) h =
      ⊎_elim
      (λ b. path_map (ThroughBlock body) (ThroughBranches (T.ThenBranch token condition body more)) (IsLater t)
      (λ ts e p. taken p) (later_block_path t body b))
      (λ m. path_map (ThroughBranches more) (ThroughBranches (T.ThenBranch token condition body more)) (IsLater t) (λ ts e p. passed p)
      (later_branches_path t more m)) (has_cases t (later_block body) (later_branches more) h)

  later_otherwise_path : (t : Span) (o : T.Otherwise) → Has t (later_otherwise o) → Path (ThroughOtherwise o) (IsLater t)
  later_otherwise_path t T.NoElse h = absurd (h)
  later_otherwise_path t (T.Else body) h =
      path_map (ThroughBlock body) (ThroughOtherwise (T.Else body)) (IsLater t) (λ ts e p. else p) (later_block_path t body h)

mutual
  is_later : (t : Span) (s : T.Stmt) (ts : List Span) (e : Ending) → Through s ts e → IsLater t ts → Has t (later s)
  is_later t s _ _ (plain is) h = absurd (h)
  is_later t _ ts e (branch {branches} {otherwise} p) h = has_left t (later_branches branches) (later_otherwise otherwise)
      (is_later_branches t branches ts e p h)
  is_later t _ ts e (no_branch {branches} {otherwise} p) h =
      has_right t (later_branches branches) (later_otherwise otherwise) (is_later_otherwise t otherwise ts e p h)
  is_later t _ ts e (loop {token} {condition} {body} p) h = is_later_passes t body ts e p h
  is_later t _ _ _ returned h = absurd (h)
  is_later t _ _ _ broken h = absurd (h)
  is_later t _ _ _ continued h = absurd (h)
  is_later t _ _ _ yielded h = absurd (h)

  is_later_all : (t : Span) (ss : T.Stmts) (ts : List Span) (e : Ending) → ThroughAll ss ts e → IsLater t ts → Has t (later_all ss)
  is_later_all t _ _ _ end h = absurd (h)
  is_later_all t _ ts e (left {s} {more} p is) h =
      has_left t (later s) (cond (yielding Falls s) (met_all more) [] ++ cond (goes_on s) (later_all more) []) (is_later t s ts e p h)
  is_later_all t _ _ e (next {s} {more} {first} {rest} p q) h =
      let after_one = cond (yielding Falls s) (met_all more) [] in
      let after_any = cond (goes_on s) (later_all more) [] in
      seam t first rest (Has t (later s ++ (after_one ++ after_any))) (λ here. has_left t (later s) (after_one ++ after_any) (is_later t s first Falls p here))
      (λ u us is there. has_right t (later s) (after_one ++ after_any) (has_left t after_one after_any (has_if t (yielding Falls s) (met_all more)
      (tells_with (silent Falls s) (yielding Falls s) first u us is (told s first Falls p)) (is_met_all t more rest e q there))))
      (λ there. has_right t (later s) (after_one ++ after_any) (has_right t after_one after_any (has_if t (goes_on s) (later_all more)
      (tells_or (silent Falls s) (yielding Falls s) first (told s first Falls p)) (is_later_all t more rest e q there)))) h

  pub is_later_block : (t : Span) (b : T.Block) (ts : List Span) (e : Ending) → ThroughBlock b ts e → IsLater t ts → Has t (later_block b)
  is_later_block t _ ts e (braces {stmts} p) h = is_later_all t stmts ts e p h

  is_later_branches : (t : Span) (bs : T.Branches) (ts : List Span) (e : Ending) → ThroughBranches bs ts e → IsLater t ts → Has t (later_branches bs)
  is_later_branches t _ ts e (taken {token} {condition} {body} {more} p) h = has_left t (later_block body) (later_branches more)
      (is_later_block t body ts e p h)
  is_later_branches t _ ts e (passed {token} {condition} {body} {more} p) h =
      has_right t (later_block body) (later_branches more) (is_later_branches t more ts e p h)

  is_later_otherwise : (t : Span) (o : T.Otherwise) (ts : List Span) (e : Ending) → ThroughOtherwise o ts e → IsLater t ts → Has t (later_otherwise o)
  is_later_otherwise t _ _ _ no_else h = absurd (h)
  is_later_otherwise t _ ts e (else {body} p) h = is_later_block t body ts e p h

  is_later_passes : (t : Span) (b : T.Block) (ts : List Span) (e : Ending) → Passes b ts e → IsLater t ts
      → Has t (later_block b ++ cond (yielding_round b) (met_block b) [])
  is_later_passes t b _ _ no_pass h = absurd (h)
  is_later_passes t b ts _ (last_pass p) h = has_left t (later_block b) (cond (yielding_round b) (met_block b) []) (is_later_block t b ts Breaks p h)
  is_later_passes t b ts _ (return_pass p) h = has_left t (later_block b) (cond (yielding_round b) (met_block b) []) (is_later_block t b ts Returns p h)
  is_later_passes t b _ e (one_more {body} {first} {rest} {round} p is q) h =
      let again = cond (yielding_round b) (met_block b) [] in
      seam t first rest (Has t (later_block b ++ again)) (λ here. has_left t (later_block b) again (is_later_block t b first round p here))
      (λ u us this there. has_right t (later_block b) again (has_if t (yielding_round b) (met_block b)
      (round_yields b round is (tells_with (silent_block round b) (yielding_block round b) first u us this (told_block b first round p)))
      (is_met_passes t b rest e q there))) (λ there. is_later_passes t b rest e q there) h
