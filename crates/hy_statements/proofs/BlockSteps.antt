-- How the machine with the limit goes into blocks and out of them.
use Rattle.std.proofs.Common.{◌≡◌, ◌≤◌, ◌<◌, ◌+◌, ℕ, Bool, true, None, Some, Result, Err, length, List, [], ◌∷◌, ◌++◌, refl, sym, ap, ◌∙◌, arith}
use Rattle.hy_base.specs.declared.position.Span.{Span}
use Rattle.hy_lexer.specs.declared.token.Token.{Token}
use Rattle.hy_lexer.specs.declared.token.TokenKind.{TokenKind}
use Rattle.hy_lexer.specs.declared.token.TokenKind.TheVariants as k
use Rattle.hy_tree.specs.Denotes.{block_of}
use Rattle.hy_tree.specs.Tree as T
use Rattle.hy_tree.specs.declared.statement.Block.{Block}
use Rattle.hy_grammar.specs.Kinds.{left_brace}
use Rattle.hy_grammar.specs.Machine.{step, finish, Unexpected, TooDeep, walk, most_levels}
use Rattle.hy_grammar.specs.Nodes as node
use Rattle.hy_phrases.specs.Reads.{Halts}
use Rattle.hy_statements.specs.ReadsStatements.{Opened, Braces, ReadsBlock, ReadsBraces}
use Rattle.hy_grammar.specs.Stack.{Home, InFile, InOwner, Head, Body, PlainBody, VariantBody, Place, InBody, InBranch, InElse, InLoop, in_loop, State}
use Rattle.hy_grammar.specs.Stack.{BlockOpened, StmtWanted, StmtRead, BranchRead, BranchElse, Valued, ForBranch, ForLoop, depth, depth_head, depth_place}
use Rattle.hy_grammar.specs.StmtSteps.{at_statement, at_block_opened, at_branch_else, called_in, bodied, blocked, brace_of, close}
use Rattle.hy_phrases.specs.Wanted.{Sees, Takes, OpensNone}
use Rattle.hy_phrases.specs.declared.stop.Stop.{Stop}
use Rattle.hy_phrases.specs.declared.stop.Stop.TheVariants as stop
use Rattle.hy_statements.proofs.StatementWalks.{Alike, Goes, alike, stuck, other_kind}
use Rattle.hy_phrases.proofs.WantedKinds.{no_left_brace}
use Rattle.hy_phrases.proofs.Walks as walks

-- ---- levels

level_called : (home : Home) (head : Head) (variants : List T.Variant) (to : ℕ) → home ≡ head.home
    → depth (called_in home head variants to) + 1 ≡ depth_head head + 1
level_called (InFile decls) head variants to h = rw (← h) refl
level_called (InOwner owner members) head variants to h = rw (← h) refl

level_bodied : (block : T.Block) (body : Body) (brace : Span) → depth (bodied block body) + 1 ≡ depth_place (InBody body brace)
level_bodied block (PlainBody head) brace = level_called head.home head _ _ refl
level_bodied block (VariantBody head open_brace variants keyword mode value) brace = refl

-- after a block is the level around it
pub level_blocked : (block : T.Block) (place : Place) → depth (blocked block place) + 1 ≡ depth_place place
level_blocked block (InBody body brace) = level_bodied block body brace
level_blocked block (InBranch from branches word condition brace before place) = refl
level_blocked block (InElse from branches brace before place) = refl
level_blocked block (InLoop word condition brace before place) = refl

closed_fits : (levels inner here : ℕ) → here + 1 ≡ inner → levels + inner ≡ most_levels → here ≤ most_levels
closed_fits levels inner here h g = omega (arith, h, g)

-- ---- where a block ends

module _ {levels total : ℕ} {s : State} {old : List Token} (place : Place) {mid new : List Token} {span : Span} where
  pub closes : (before : List T.Stmt) → Goes levels total s old (StmtRead before place) mid → Takes k.RightBrace mid span new
      → walk total s old ≡ walk total (close before place span) new
  unfolding step
  closes before g w = g.same
      ∙ walks.over total (StmtRead before place) (close before place span) w.token mid new w.front (λ n. rw (w.is, w.stands, step) refl)
      (closed_fits levels (depth_place place) _ (level_blocked _ place) g.fits)

  pub closes_empty : Goes levels total s old (BlockOpened place) mid → Takes k.RightBrace mid span new
      → walk total s old ≡ walk total (close [] place span) new
  unfolding step
  closes_empty g w = g.same
      ∙ walks.over total (BlockOpened place) (close [] place span) w.token mid new w.front (λ n. rw (w.is, w.stands, step) refl)
      (closed_fits levels (depth_place place) _ (level_blocked _ place) g.fits)

-- ---- where a block begins

module _ (place : Place) where
  not_closed : (kind : TokenKind) (t : Token) → (kind ≡ k.RightBrace → ⊥) → at_block_opened kind t place ≡ at_statement kind t [] place
  not_closed k.RightBrace t h = absurd (h refl)
  not_closed _ t h = refl

  pub to_first : (old : List Token) → (Sees k.RightBrace old → ⊥) → Alike (BlockOpened place) old (StmtWanted [] place)
  unfolding step finish
  to_first old h = alike _ _ old refl (λ total. refl) (λ t ts e n. not_closed t.kind t (other_kind _ old h t ts e))

  -- the state after the `}` is that after the block
  pub made_block : (total : ℕ) (brace : Span) (before : List T.Stmt) (span : Span) (found : T.Block) (new : List Token) → brace_of place ≡ brace
      → found ≡ node.block brace before span → walk total (close before place span) new ≡ walk total (blocked found place) new
  made_block total brace before span found new h e = ap (λ block. walk total (blocked block place) new) (ap (λ b. node.block b before span) h ∙ sym e)

module _ (before : List T.Stmt) (place : Place) where
  pub loop_ends : (word : Span) (condition : T.Expr) (total : ℕ) → finish (Valued condition (ForLoop word before place)) total ≡ None
  unfolding finish
  loop_ends word condition total = refl

  pub loop_begins : (word : Span) (condition : T.Expr) (t : Token) (n : ℕ)
      → step (Valued condition (ForLoop word before place)) t n ≡ left_brace t.kind (BlockOpened (InLoop word condition t.span before place))
  unfolding step
  loop_begins word condition t n = refl

  -- the block of a `while`
  abbrev pub loop_braces : (word : Span) (condition : T.Expr) (old : List Token) → Braces true old
  loop_braces word condition old = record {
    need = Valued condition (ForLoop word before place);
    place = λ brace. InLoop word condition brace before place;
    behind = λ block. StmtRead (before ++ node.while word condition block ∷ []) place;
    begins = λ t ts e n. loop_begins word condition t n;
    ends = λ total. loop_ends word condition total;
    opens = λ brace. refl;
    level = λ brace. refl;
    loops = λ brace. refl;
    closes = λ block brace. refl;
  }

  module _ (from : ℕ) (branches : List T.Branch) where
    pub branch_ends : (word : Span) (condition : T.Expr) (total : ℕ) → finish (Valued condition (ForBranch from branches word before place)) total ≡ None
    unfolding finish
    branch_ends word condition total = refl

    pub branch_begins : (word : Span) (condition : T.Expr) (t : Token) (n : ℕ)
        → step (Valued condition (ForBranch from branches word before place)) t n ≡ left_brace t.kind
        (BlockOpened (InBranch from branches word condition t.span before place))
    unfolding step
    branch_begins word condition t n = refl

    -- the block of an `if`
    abbrev pub branch_braces : {looping : Bool} → in_loop place ≡ looping → (word : Span) (condition : T.Expr) (old : List Token) → Braces looping old
    branch_braces loops word condition old = record {
      need = Valued condition (ForBranch from branches word before place);
      place = λ brace. InBranch from branches word condition brace before place;
      behind = λ block. BranchRead from (branches ++ node.branch word condition block ∷ []) (node.block_to block) before place;
      begins = λ t ts e n. branch_begins word condition t n;
      ends = λ total. branch_ends word condition total;
      opens = λ brace. refl;
      level = λ brace. refl;
      loops = λ brace. loops;
      closes = λ block brace. refl;
    }

    not_branch : (kind : TokenKind) (t : Span) → (kind ≡ k.If → ⊥)
        → at_branch_else kind t from branches before place ≡ left_brace kind (BlockOpened (InElse from branches t before place))
    not_branch k.If t h = absurd (h refl)
    not_branch k.LeftBrace t h = refl
    not_branch _ t h = refl

    pub else_ends : (total : ℕ) → finish (BranchElse from branches before place) total ≡ None
    unfolding finish
    else_ends total = refl

    pub else_begins : (t : Token) (n : ℕ) → (t.kind ≡ k.If → ⊥)
        → step (BranchElse from branches before place) t n ≡ left_brace t.kind (BlockOpened (InElse from branches t.span before place))
    unfolding step
    else_begins t n h = not_branch t.kind t.span h

    -- the block of an `else`
    abbrev pub else_braces : {looping : Bool} → in_loop place ≡ looping → (old : List Token) → (Sees k.If old → ⊥) → Braces looping old
    else_braces loops old h = record {
      need = BranchElse from branches before place;
      place = λ brace. InElse from branches brace before place;
      behind = λ block. StmtRead (before ++ node.if_block from branches block ∷ []) place;
      begins = λ t ts e n. else_begins t n (other_kind k.If old h t ts e);
      ends = λ total. else_ends total;
      opens = λ brace. refl;
      level = λ brace. refl;
      loops = λ brace. loops;
      closes = λ block brace. refl;
    }

-- ---- a block with its braces

deeper : (levels here inner : ℕ) → levels + here ≡ most_levels → levels ≡ 0 → inner ≡ here + 1 → most_levels < inner
deeper levels here inner h g e = omega (arith, h, g, e)

one_deeper : (levels here rest inner : ℕ) → levels + here ≡ most_levels → rest + 1 ≡ levels → inner ≡ here + 1 → rest + inner ≡ most_levels
one_deeper levels here rest inner h g e = omega (arith, h, g, e)

module _ (looping : Bool) where
  opened_too_deep : (levels total : ℕ) (old : List Token) (x : Braces looping old) → levels + depth x.need ≡ most_levels → Sees k.LeftBrace old → levels ≡ 0
      → walk total x.need old ≡ Err (TooDeep (length old))
  opened_too_deep levels total [] x fits h g = absurd h
  opened_too_deep levels total (t ∷ ts) x fits h g =
      walks.deep total x.need (BlockOpened (x.place t.span)) t (t ∷ ts) ts refl (λ n. x.begins t ts refl n
      ∙ ap (λ kind. left_brace kind (BlockOpened (x.place t.span))) h)
      (deeper levels (depth x.need) (depth_place (x.place t.span)) fits g (x.level t.span))

  -- no block begins there, or one level too deep
  pub unbraced : (levels total : ℕ) (old : List Token) (x : Braces looping old) (e : Stop) → levels + depth x.need ≡ most_levels
      → OpensNone k.LeftBrace levels old e → Halts e (walk total x.need old)
  unbraced levels total old x stop.NoMemory fits h = absurd h
  unbraced levels total old x (stop.Unexpected left) fits h =
      let lacks = stuck x.need old x.ends (λ t ts e n. x.begins t ts e n ∙ no_left_brace t.kind _ (other_kind k.LeftBrace old h.0 t ts e)) in
      lacks.stops total ∙ ap (λ l. Err (Unexpected l)) (sym h.1)
  unbraced levels total old x (stop.TooDeep left) fits h = opened_too_deep levels total old x fits h.0 h.1 ∙ ap (λ l. Err (TooDeep l)) (sym h.2)

  begins_block : (levels inner total : ℕ) (old mid : List Token) (brace : Span) (x : Braces looping old) → levels + depth x.need ≡ most_levels
      → inner + 1 ≡ levels → Takes k.LeftBrace old brace mid → Goes inner total x.need old (BlockOpened (x.place brace)) mid
  begins_block levels inner total old mid brace x fits g w =
      let f : inner + depth_place (x.place brace) ≡ most_levels =
      one_deeper levels (depth x.need) inner (depth_place (x.place brace)) fits g (x.level brace) in
      record {
        same = walks.over total x.need (BlockOpened (x.place brace)) w.token old mid w.front
            (λ n. x.begins w.token mid w.front n ∙ ap (λ kind. left_brace kind (BlockOpened (x.place w.token.span))) w.is
            ∙ ap (λ b. Some (BlockOpened (x.place b))) w.stands) (walks.fits inner (depth_place (x.place brace)) f);
        fits = f;
      }

  pub braced : (levels inner : ℕ) (old mid new : List Token) (brace : Span) (r : Result Block Stop) → inner + 1 ≡ levels → Takes k.LeftBrace old brace mid
      → ReadsBlock brace looping inner mid r new → ReadsBraces looping levels old r new
  braced levels inner old mid new brace r g w =
      let inside : Braces looping old → Opened brace looping = λ x. record { place = x.place brace; opens = x.opens brace; loops = x.loops brace } in
      let begun = λ (total : ℕ) (x : Braces looping old) (fits : levels + depth x.need ≡ most_levels). begins_block levels inner total old mid brace x fits
      g w in
      walks.leads levels inner block_of (λ x. x.need) (λ block x. x.behind block) (λ (x : Opened brace looping). BlockOpened x.place)
      (λ block x. blocked block x.place) old mid new r inside
      (λ total x fits. (begun total x fits).same) (λ x fits. (begun 0 x fits).fits) (λ total block x. ap (λ s. walk total s new) (x.closes block brace))
