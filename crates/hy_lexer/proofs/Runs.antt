-- Runs of bytes and characters, as far as a loop has come.
use Rattle.std.proofs.Common.{◌≡◌, ℕ, ◌-◌, List, [], ◌∷◌, ◌++◌, length, refl, sym, ◌∙◌, ap, arith, length-append, append_assoc, append-nil}
use Rattle.std.specs.Char.{encode_utf8}
use Rattle.std.specs.List.{AllByRecursion}
use Rattle.std.specs.Str.{encode_utf8_all}
use Rattle.std.proofs.lemmas.Str.{encodes-append}
use Rattle.hy_lexer.specs.Pieces.{ContinuesWord}
use Rattle.hy_lexer.specs.Scans.{IsRun, IsWordRun, StopsAt, StopsWord}

pub record Passes (Is : ℕ → Type 0) (text rest : List ℕ) : Type 0 where
  pub front : List ℕ
  pub joined : text ≡ front ++ rest
  pub all : AllByRecursion Is front

all_more : (Is : ℕ → Type 0) (front : List ℕ) (byte : ℕ) → AllByRecursion Is front → Is byte → AllByRecursion Is (front ++ byte ∷ [])
all_more Is [] byte all is = (is, tt)
all_more Is (x ∷ front) byte all is = (all.0, all_more Is front byte all.1 is)

pub passes_start : (Is : ℕ → Type 0) (text : List ℕ) → Passes Is text text
passes_start Is text = record { front = []; joined = refl; all = tt }

pub passes_more : (Is : ℕ → Type 0) (text rest behind : List ℕ) (byte : ℕ) → Passes Is text rest → rest ≡ byte ∷ behind → Is byte → Passes Is text behind
passes_more Is text rest behind byte p e is = record {
  front = p.front ++ byte ∷ [];
  joined = p.joined ∙ ap (λ t. p.front ++ t) e ∙ rw append_assoc;
  all = all_more Is p.front byte p.all is;
}

pub passes_end : (Is : ℕ → Type 0) (text rest : List ℕ) (count : ℕ) → Passes Is text rest → StopsAt Is rest → count ≡ length text - length rest
    → IsRun Is text count
passes_end Is text rest count p stops e = record {
  front = p.front;
  behind = rest;
  joined = p.joined;
  all = p.all;
  stops = stops;
  size = omega (arith, e, ap length p.joined, length-append p.front rest);
}

pub record PassesWord (text rest : List ℕ) : Type 0 where
  pub front : List ℕ
  pub joined : text ≡ encode_utf8_all front ++ rest
  pub all : AllByRecursion ContinuesWord front

pub passes_word_start : (text : List ℕ) → PassesWord text text
passes_word_start text = record { front = []; joined = refl; all = tt }

pub passes_word_more : (text rest behind : List ℕ) (c : ℕ) → PassesWord text rest → rest ≡ encode_utf8 c ++ behind → ContinuesWord c → PassesWord text behind
passes_word_more text rest behind c p e is =
    let more : encode_utf8_all (p.front ++ c ∷ []) ≡ encode_utf8_all p.front ++ encode_utf8 c = encodes-append p.front (c ∷ [])
    ∙ ap (λ t. encode_utf8_all p.front ++ t) (rw append-nil) in
    record {
      front = p.front ++ c ∷ [];
      joined = p.joined ∙ ap (λ t. encode_utf8_all p.front ++ t) e ∙ rw (← append_assoc) (ap (λ t. t ++ behind) (sym more));
      all = all_more ContinuesWord p.front c p.all is;
    }

pub passes_word_end : (text rest : List ℕ) → PassesWord text rest → StopsWord rest → IsWordRun text rest
passes_word_end text rest p stops = record { front = p.front; joined = p.joined; all = p.all; stops = stops }
