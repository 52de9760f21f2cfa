-- Where the rules Y1 to Y5 are broken.
use Rattle.std.specs.Prelude.{◌&&◌, ◌||◌, Bool as Truth, true, false, not, List, [], ◌∷◌, ◌++◌, flat_map, map}
use Rattle.hy_base.specs.First.{Refusal}
use Rattle.hy_base.specs.declared.position.Span.{Span}
use Rattle.hy_base.specs.declared.refusal.Rule.{Rule}
use Rattle.hy_base.specs.declared.refusal.Rule.TheVariants.{Y1, Y2, Y3, Y4, Y5}
use Rattle.hy_tree.specs.Tree as T
use Rattle.hy_tree.specs.Findings.{meanings}
use Rattle.hy_tree.specs.Parts.{head_of}
use Rattle.hy_tree.specs.declared.declaration.CallableKind.{CallableKind}
use Rattle.hy_tree.specs.declared.declaration.CallableKind.TheVariants as kind
use Rattle.hy_tree.specs.declared.operator.Mode.{Mode}
use Rattle.hy_tree.specs.declared.operator.Mode.TheVariants as mode
use Rattle.hy_signatures.specs.Declarations.{Source, source_of}
use Rattle.hy_check.specs.Phrases.{Phrase, AStmt}
use Rattle.hy_check.specs.Refusals.{refusal, when}
use Rattle.hy_check.specs.Typing.{Around, is_place, shown}
use Rattle.hy_conv.specs.Bodies.{Body, bodies, phrases_of}
use Rattle.hy_conv.specs.Paths.{Falls, Returns}
use Rattle.hy_conv.specs.Yielding.{silent_block, later_block}

-- BODIES THAT YIELD

pub data Yielding : Type 0 where
  -- the `let` variant of a subscript, its `inout` variant, and all other bodies
  Unchanged : Yielding
  ForChange : Yielding
  Nothing : Yielding

abbrev of_variant : Mode → Yielding
of_variant mode.Let = Unchanged
of_variant mode.Inout = ForChange
of_variant mode.Sink = Nothing
of_variant mode.Set = Nothing
of_variant mode.Yielded = Nothing

abbrev of_kind : CallableKind → Mode → Yielding
of_kind kind.Subscript variant = of_variant variant
of_kind kind.Function variant = Nothing
of_kind kind.Deinit variant = Nothing
of_kind kind.Requirement variant = Nothing

abbrev pub yielding_of : Body → Yielding
yielding_of b = of_kind b.callable.kind b.variant.mode

abbrev yields : Yielding → Truth
yields Unchanged = true
yields ForChange = true
yields Nothing = false

-- Y1: SOME PATH THROUGH SUCH A BODY HAS NO `yield`

abbrev without_yield : T.Block → Truth
without_yield block = silent_block Falls block || silent_block Returns block

abbrev y1 : Body → List Refusal
y1 b = when (yields (yielding_of b) && without_yield b.variant.block) Y1 (head_of b.callable b.variant)

-- Y2: SOME PATH HAS A `yield` BEFORE

abbrev at_each : Rule → List Span → List Refusal
at_each rule tokens = map (refusal rule) tokens

abbrev y2 : Body → List Refusal
y2 b = at_each Y2 (later_block b.variant.block)

-- Y3: A `yield` STANDS IN A LOOP

abbrev mutual
  -- the `yield`s of a statement that stands in a loop or not
  yields_in : (looped : Truth) → T.Stmt → List Span
  yields_in looped (T.Binding introducer name written value at) = []
  yields_in looped (T.Declare name written at) = []
  yields_in looped (T.Assign target value at) = []
  yields_in looped (T.Compound target operator value at) = []
  yields_in looped (T.Evaluate value at) = []
  yields_in looped (T.If branches otherwise at) = in_branches looped branches ++ in_otherwise looped otherwise
  yields_in looped (T.While token condition body at) = in_block true body
  yields_in looped (T.Return token value at) = []
  yields_in looped (T.Break at) = []
  yields_in looped (T.Continue at) = []
  yields_in true (T.Yield token value at) = token ∷ []
  yields_in false (T.Yield token value at) = []

  in_stmts : (looped : Truth) → T.Stmts → List Span
  in_stmts looped T.NoStmt = []
  in_stmts looped (T.ThenStmt s more) = yields_in looped s ++ in_stmts looped more

  in_block : (looped : Truth) → T.Block → List Span
  in_block looped (T.Braces stmts at) = in_stmts looped stmts

  in_branches : (looped : Truth) → T.Branches → List Span
  in_branches looped T.NoBranch = []
  in_branches looped (T.ThenBranch token condition body more) = in_block looped body ++ in_branches looped more

  in_otherwise : (looped : Truth) → T.Otherwise → List Span
  in_otherwise looped T.NoElse = []
  in_otherwise looped (T.Else body) = in_block looped body

abbrev y3 : Body → List Refusal
y3 b = at_each Y3 (in_block false b.variant.block)

-- Y4: A `yield` STANDS ELSEWHERE
-- Y5: WHAT IS YIELDED IS NO PLACE, OR ITS MARK IS MISSING OR NOT WANTED

abbrev is_marked : T.Expr → Truth
is_marked (T.Marked operand at) = true
is_marked e = false

-- `inout` yields with a mark, and `let` without
abbrev bad_mark : Yielding → T.Expr → Truth
bad_mark Unchanged e = is_marked e
bad_mark ForChange e = not (is_marked e)
bad_mark Nothing e = false

abbrev bad_yield : Yielding → Around → Span → T.Expr → List Refusal
bad_yield Nothing around token value = refusal Y4 token ∷ []
bad_yield yielding around token value = when (bad_mark yielding value || not (is_place around value)) Y5 (shown around value)

abbrev y4_and_y5 : Yielding → Phrase → List Refusal
y4_and_y5 yielding (AStmt around body (T.Yield token value at)) = bad_yield yielding around token value
y4_and_y5 yielding phrase = []

-- ALL OF THEM

abbrev in_body : Source → Body → List Refusal
in_body source b = y1 b ++ (y2 b ++ (y3 b ++ flat_map (y4_and_y5 (yielding_of b)) (phrases_of source b)))

-- all refusals of a program
abbrev pub refusals : T.Program → List Refusal
refusals p = let source = source_of (meanings p) p in flat_map (in_body source) (bodies source)
