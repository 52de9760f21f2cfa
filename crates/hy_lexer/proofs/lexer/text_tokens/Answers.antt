use Rattle.std.proofs.Common.{arith, ◌≡◌, ◌∙◌, ◌==◌, sym, ap, length, List, [], ℕ, subst, Bool, true, false, inl, inr, ◌||◌, ◌+◌, ◌∷◌, refl}
use Rattle.std.specs.Str.{IsUtf8}
use Rattle.std.proofs.lemmas.Str.{IsUtf8-drop}
use Rattle.std.proofs.lemmas.Bool.Decides.{eqb_tells}
use Rattle.hy_lexer.specs.Scans.{piece_kind}
use Rattle.hy_lexer.specs.Tokens.{rule_of, token_of, span, has_line_feed}
use Rattle.hy_lexer.proofs.First.{Reached, reached_start, reached_end}
use Rattle.hy_lexer.proofs.Loop.{scanned_shorter, scanned_within, reached_within, step_token, step_other, step_refused, refused_on}
use Rattle.hy_lexer.proofs.lexer.text_tokens.Goals as goal

pub loop-rest-init : goal.loop-rest-init
loop-rest-init c = (
  c.utf8.text,
  subst (λ t. Reached c.args.text.now 0 true t c.args.text.now)
      (sym c.new-tokens.ensures.items) (reached_start c.args.text.now),
)

pub overflow_cast-to : goal.overflow_cast-to
overflow_cast-to c =
    omega (
      arith,
      scanned_within c.loop-rest.rest.now c.next_piece-scanned.result c.next_piece-scanned.ensures,
      reached_within c.args.text.now c.loop-rest.rest.now c.loop-rest.from c.loop-rest.first c.loop-rest.tokens.items c.loop-rest.invariant.1,
    )

pub overflow_add-to : goal.overflow_add-to
overflow_add-to c =
    omega (
      arith,
      scanned_within c.loop-rest.rest.now c.next_piece-scanned.result c.next_piece-scanned.ensures,
      reached_within c.args.text.now c.loop-rest.rest.now c.loop-rest.from c.loop-rest.first c.loop-rest.tokens.items c.loop-rest.invariant.1,
    )

pub returns-in_err-kind : goal.returns-in_err-kind
returns-in_err-kind c =
    refused_on c.args.text.now (piece_kind c.next_piece-scanned.result.shape c.as_bytes.result.now)
    (span c.loop-rest.from (c.loop-rest.from + c.next_piece-scanned.result.length)) _ c.from_residual.result c.from_residual.ensures.1
    c.in_err-kind.ensures
    (λ rule there broken same.
    step_refused c.args.text.now c.loop-rest.rest.now c.split_at.result.0.now c.split_at.result.1.now c.loop-rest.from c.loop-rest.first
    c.loop-rest.tokens.items c.next_piece-scanned.result rule there c.utf8.text
    c.loop-rest.invariant.1 c.next_piece-scanned.ensures c.split_at.ensures.front c.split_at.ensures.back
    (ap (λ t. rule_of (piece_kind c.next_piece-scanned.result.shape t)) (sym c.as_bytes.ensures.value) ∙ broken) same)

pub loop-rest-smaller-in_ok-push-in-Some : goal.loop-rest-smaller-in_ok-push-in-Some
loop-rest-smaller-in_ok-push-in-Some c =
    omega (arith, c.split_at.ensures.back_len, scanned_shorter c.loop-rest.rest.now c.next_piece-scanned.result c.next_piece-scanned.ensures)

pub loop-rest-preserved-in_ok-push-in-Some : goal.loop-rest-preserved-in_ok-push-in-Some
loop-rest-preserved-in_ok-push-in-Some c = (
  subst IsUtf8 (sym c.split_at.ensures.back) (IsUtf8-drop c.loop-rest.rest.now c.next_piece-scanned.result.length c.loop-rest.invariant.0
      c.next_piece-scanned.ensures.cut),
  subst (λ t. Reached c.args.text.now (c.loop-rest.from + c.next_piece-scanned.result.length) false t c.split_at.result.1.now)
      (sym c.in_ok-push-in-Some.ensures.items)
      (step_token c.args.text.now c.loop-rest.rest.now c.split_at.result.0.now c.split_at.result.1.now c.loop-rest.from c.loop-rest.first
      c.loop-rest.tokens.items c.next_piece-scanned.result c.in-Some.kind
      c.loop-rest.invariant.1 c.next_piece-scanned.ensures c.split_at.ensures.front c.split_at.ensures.back
      (ap (λ t. rule_of (piece_kind c.next_piece-scanned.result.shape t)) (sym c.as_bytes.ensures.value) ∙ c.in_ok-kind.ensures.0)
      (sym c.in-Some.is ∙ c.in_ok-kind.ensures.1 ∙ ap (λ t. token_of (piece_kind c.next_piece-scanned.result.shape t)) c.as_bytes.ensures.value)),
)

pub loop-rest-preserved : goal.loop-rest-preserved
loop-rest-preserved c = (
  subst IsUtf8 (sym c.split_at.ensures.back) (IsUtf8-drop c.loop-rest.rest.now c.next_piece-scanned.result.length c.loop-rest.invariant.0
      c.next_piece-scanned.ensures.cut),
  subst (λ f. Reached c.args.text.now (c.loop-rest.from + c.next_piece-scanned.result.length) f c.loop-rest.tokens.items c.split_at.result.1.now)
      (sym (c.still_first-first.ensures ∙ ap (λ t. c.loop-rest.first || has_line_feed t) c.as_bytes-in-None.ensures.value))
      (step_other c.args.text.now c.loop-rest.rest.now c.split_at.result.0.now c.split_at.result.1.now c.loop-rest.from c.loop-rest.first
      c.loop-rest.tokens.items c.next_piece-scanned.result
      c.loop-rest.invariant.1 c.next_piece-scanned.ensures c.split_at.ensures.front c.split_at.ensures.back
      (ap (λ t. rule_of (piece_kind c.next_piece-scanned.result.shape t)) (sym c.as_bytes.ensures.value) ∙ c.in_ok-kind.ensures.0)
      (sym c.in-None.is ∙ c.in_ok-kind.ensures.1 ∙ ap (λ t. token_of (piece_kind c.next_piece-scanned.result.shape t)) c.as_bytes.ensures.value)),
)

empty : (text : List ℕ) (b : Bool) → b ≡ (length text == 0) → b ≡ true → text ≡ []
empty [] b e t = refl
empty (x ∷ text) b e t = let n : length (x ∷ text) ≡ 0 = elim (eqb_tells (length (x ∷ text)) 0) [
  | inl h ↦ h.1
  | inr h ↦ let clash : false ≡ true = sym h.0
      ∙ sym e ∙ t in cc
] in absurd (omega arith)

pub returns : goal.returns
returns c =
    reached_end c.args.text.now c.loop-rest.from c.loop-rest.first c.loop-rest.tokens.items c.utf8.text
    (subst (λ t. Reached c.args.text.now c.loop-rest.from c.loop-rest.first c.loop-rest.tokens.items t)
    (empty c.loop-rest.rest.now c.is_empty.result c.is_empty.ensures c.loop-rest-test.false) c.loop-rest.invariant.1)
