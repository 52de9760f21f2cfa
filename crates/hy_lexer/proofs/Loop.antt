-- The steps of the lexer's loop.
use Rattle.std.proofs.Common.{◌≡◌, ℕ, ◌+◌, ◌<◌, ◌≤◌, ◌||◌, List, [], ◌∷◌, ◌++◌, length, take, drop, sym, ◌∙◌, ap, subst, arith, Some, None, Bool, false, Ok}
use Rattle.std.proofs.Common.{Err, Result, Vec, IsErrAnd, Global, length-append, append-nil, take_at, drop_at}
use Rattle.std.specs.Str.{IsUtf8}
use Rattle.hy_base.specs.Answers.{Answers}
use Rattle.hy_base.specs.First.{IsFirst}
use Rattle.hy_base.specs.declared.position.Span.{Span}
use Rattle.hy_base.specs.declared.refusal.Fault.{Fault}
use Rattle.hy_base.specs.declared.refusal.Fault.TheVariants.{Refused, NoMemory}
use Rattle.hy_base.specs.declared.refusal.Rule.{Rule}
use Rattle.hy_lexer.specs.declared.scan.Scanned.{Scanned}
use Rattle.hy_lexer.specs.declared.token.Token.{Token}
use Rattle.hy_lexer.specs.declared.token.TokenKind.{TokenKind}
use Rattle.hy_lexer.specs.Pieces.{Piece, PieceKind, IsNext}
use Rattle.hy_lexer.specs.Scans.{Scans, Takes, piece_kind}
use Rattle.hy_lexer.specs.Tokens.{Breaks, HasTokens, has_line_feed, first_behind, in_front, rule_of, token_of, span}
use Rattle.hy_lexer.proofs.First.{Reached, reached_next, reached_breaks, next_some}
use Rattle.hy_lexer.proofs.Splits.{next_joined, split_size}

-- the piece that was scanned
abbrev pub piece_of : Scanned → List ℕ → Piece
piece_of scanned text = record { text = text; kind = piece_kind scanned.shape text }

pub scanned_next : (rest text behind : List ℕ) (it : Scanned) → Scans rest it → text ≡ take it.length rest → behind ≡ drop it.length rest
    → IsNext rest (piece_of it text) behind
scanned_next rest text behind it s front back =
    let joined : rest ≡ s.front ++ s.behind = next_joined rest s.behind (piece_of it s.front) s.next in
    let one : s.front ≡ text = sym (take_at s.front s.behind it.length (sym s.size)) ∙ ap (take it.length) (sym joined) ∙ sym front in
    let other : s.behind ≡ behind = sym (drop_at s.front s.behind it.length (sym s.size)) ∙ ap (drop it.length) (sym joined) ∙ sym back in
    subst (λ t. IsNext rest (piece_of it text) t) other (subst (λ t. IsNext rest (piece_of it t) s.behind) one s.next)

pub scanned_size : (rest text : List ℕ) (it : Scanned) → Scans rest it → text ≡ take it.length rest → length text ≡ it.length
scanned_size rest text it s front =
    let joined : rest ≡ s.front ++ s.behind = next_joined rest s.behind (piece_of it s.front) s.next in
    let one : text ≡ s.front = front ∙ ap (take it.length) joined ∙ take_at s.front s.behind it.length (sym s.size) in omega (arith, ap length one, s.size)

pub scanned_shorter : (rest : List ℕ) (it : Scanned) → Scans rest it → 0 < it.length
scanned_shorter rest it s = omega (arith, s.size, next_some rest s.behind (piece_of it s.front) s.next)

pub scanned_within : (rest : List ℕ) (it : Scanned) → Scans rest it → it.length ≤ length rest
scanned_within rest it s = omega (arith, s.size, ap length (next_joined rest s.behind (piece_of it s.front) s.next), length-append s.front s.behind)

pub reached_within : (bytes rest : List ℕ) (from : ℕ) (first : Bool) (tokens : List Token) → Reached bytes from first tokens rest
    → from + length rest ≡ length bytes
reached_within bytes rest from first tokens r = omega (arith, r.place, split_size bytes rest r.before r.split)

pub step_token : (bytes rest text behind : List ℕ) (from : ℕ) (first : Bool) (tokens : List Token) (it : Scanned) (kind : TokenKind)
    → Reached bytes from first tokens rest → Scans rest it → text ≡ take it.length rest → behind ≡ drop it.length rest
    → rule_of (piece_kind it.shape text) ≡ None → Some kind ≡ token_of (piece_kind it.shape text)
    → Reached bytes (from + it.length) false (tokens ++ record { kind = kind; span = span from (from + it.length); first = first } ∷ []) behind
step_token bytes rest text behind from first tokens it kind r s front back sound token =
    let n = reached_next bytes from first tokens rest behind (piece_of it text) r (scanned_next rest text behind it s front back) sound in
    let m = subst (λ t. Reached bytes (from + length text) (first_behind t first text) (tokens ++ in_front t first (span from (from + length text)) [])
    behind) (sym token) n in
    subst (λ l. Reached bytes (from + l) false (tokens ++ record { kind = kind; span = span from (from + l); first = first } ∷ []) behind)
    (scanned_size rest text it s front) m

pub step_other : (bytes rest text behind : List ℕ) (from : ℕ) (first : Bool) (tokens : List Token) (it : Scanned) → Reached bytes from first tokens rest
    → Scans rest it → text ≡ take it.length rest → behind ≡ drop it.length rest
    → rule_of (piece_kind it.shape text) ≡ None → None ≡ token_of (piece_kind it.shape text)
    → Reached bytes (from + it.length) (first || has_line_feed text) tokens behind
step_other bytes rest text behind from first tokens it r s front back sound token =
    let n = reached_next bytes from first tokens rest behind (piece_of it text) r (scanned_next rest text behind it s front back) sound in
    let m = subst (λ t. Reached bytes (from + length text) (first_behind t first text) (tokens ++ in_front t first (span from (from + length text)) [])
    behind) (sym token) n in
    let e : tokens ++ [] ≡ tokens = append-nil tokens in
    subst (λ ts. Reached bytes (from + it.length) (first || has_line_feed text) ts behind) e
    (subst (λ l. Reached bytes (from + l) (first || has_line_feed text) (tokens ++ []) behind) (scanned_size rest text it s front) m)

pub step_refused : (bytes rest text behind : List ℕ) (from : ℕ) (first : Bool) (tokens : List Token) (it : Scanned) (rule : Rule) (at : Span) → IsUtf8 bytes
    → Reached bytes from first tokens rest → Scans rest it → text ≡ take it.length rest
    → behind ≡ drop it.length rest → rule_of (piece_kind it.shape text) ≡ Some rule → at ≡ span from (from + it.length)
    → IsFirst (Breaks bytes) (Some (record { rule = rule; span = at }))
step_refused bytes rest text behind from first tokens it rule at utf8 r s front back broken e =
    let b = reached_breaks bytes from first tokens rest behind (piece_of it text) rule utf8 r (scanned_next rest text behind it s front back) broken in
    let m = subst (λ l. IsFirst (Breaks bytes) (Some (record { rule = rule; span = span from (from + l) }))) (scanned_size rest text it s front) b in
    subst (λ x. IsFirst (Breaks bytes) (Some (record { rule = rule; span = x }))) (sym e) m

-- what is given back as a piece is refused
refused : (bytes : List ℕ) (kind : PieceKind) (at : Span) (fault : Fault) → Takes kind at (Err fault)
    → ((rule : Rule) (there : Span) → rule_of kind ≡ Some rule → there ≡ at → IsFirst (Breaks bytes) (Some (record { rule = rule; span = there })))
    → Answers {T = Vec Token Global} (Breaks bytes) (λ tokens. HasTokens bytes tokens.items) (Err fault)
refused bytes kind at (Refused rule there) takes first = first rule there takes.0 takes.1
refused bytes kind at NoMemory takes first = tt

pub refused_on : (bytes : List ℕ) (kind : PieceKind) (at : Span) (fault : Fault) (result : Result (Vec Token Global) Fault)
    → IsErrAnd result (λ f. f ≡ fault) → Takes kind at (Err fault)
    → ((rule : Rule) (there : Span) → rule_of kind ≡ Some rule → there ≡ at → IsFirst (Breaks bytes) (Some (record { rule = rule; span = there })))
    → Answers (Breaks bytes) (λ tokens. HasTokens bytes tokens.items) result
refused_on bytes kind at fault (Ok tokens) same takes first = absurd same
refused_on bytes kind at fault (Err f) same takes first =
    subst (λ g. Answers {T = Vec Token Global} (Breaks bytes) (λ tokens. HasTokens bytes tokens.items) (Err g)) (sym same)
    (refused bytes kind at fault takes first)
