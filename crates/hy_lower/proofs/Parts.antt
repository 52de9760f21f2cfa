-- The code of an `If` and of a `While`, from that of its parts.
use Rattle.std.proofs.Common.{◌≡◌, ℕ, ◌+◌, List, [], ◌∷◌, ◌++◌, ap, ◌∙◌, append_assoc}
use Rattle.hy_core.specs.Plain.{Stmts, If, While}
use Rattle.hy_object.specs.declared.instr.Instr.{Instr}
use Rattle.hy_object.specs.declared.instr.Instr.TheVariants.{Jump, JumpIf, JumpUnless}
use Rattle.hy_lower.specs.declared.statements.Parts.{Parts}
use Rattle.hy_lower.specs.Frames.{Frame}
use Rattle.hy_lower.specs.Segments.{test}
use Rattle.hy_lower.specs.Code.{code_all, code_of, length_all}

flat : (c t y n : List Instr) (j k : Instr) → (((c ++ (t ++ j ∷ [])) ++ y) ++ k ∷ []) ++ n ≡ c ++ (t ++ (j ∷ (y ++ k ∷ n)))
flat c t y n j k = simp append_assoc

flat_loop : (c p h t : List Instr) (j : Instr) → (((c ++ j ∷ []) ++ p) ++ h) ++ t ≡ c ++ (j ∷ (p ++ (h ++ t)))
flat_loop c p h t j = simp append_assoc

module _ (b : Frame) (pc after again on : ℕ) (c0 c1 c2 c3 c4 : List Instr) (parts : Parts) where
  pub choice_made : (yes' no' : Stmts)
      → parts ≡ record { first = pc + 2; second = pc + 2 + length_all b yes' + 1; end = pc + 2 + length_all b yes' + 1 + length_all b no' }
      → c1 ≡ c0 ++ (test b on ++ JumpUnless b.scratch parts.second ∷ [])
      → c2 ≡ c1 ++ code_all b parts.first after again yes'
      → c3 ≡ c2 ++ Jump parts.end ∷ []
      → c4 ≡ c3 ++ code_all b parts.second after again no'
      → c4 ≡ c0 ++ code_of b pc after again (If on yes' no')
  choice_made yes' no' e e1 e2 e3 e4 =
      let y = code_all b parts.first after again yes' in
      let n = code_all b parts.second after again no' in
      e4 ∙ ap (λ c. c ++ n) (e3 ∙ ap (λ c. c ++ Jump parts.end ∷ []) (e2 ∙ ap (λ c. c ++ y) e1))
      ∙ flat c0 (test b on) y n (JumpUnless b.scratch parts.second) (Jump parts.end)
      ∙ ap (λ (x : Parts). c0 ++ (test b on ++ (JumpUnless b.scratch x.second ∷ (code_all b x.first after again yes'
      ++ Jump x.end ∷ code_all b x.second after again no')))) e

  pub loop_made : (head pass : Stmts)
      → parts ≡ record { first = pc + 1; second = pc + 1 + length_all b pass; end = pc + 1 + length_all b pass + length_all b head + 2 }
      → c1 ≡ c0 ++ Jump parts.second ∷ []
      → c2 ≡ c1 ++ code_all b parts.first parts.end parts.second pass
      → c3 ≡ c2 ++ code_all b parts.second after again head
      → c4 ≡ c3 ++ (test b on ++ JumpIf b.scratch parts.first ∷ [])
      → c4 ≡ c0 ++ code_of b pc after again (While head on pass)
  loop_made head pass e e1 e2 e3 e4 =
      let p = code_all b parts.first parts.end parts.second pass in
      let h = code_all b parts.second after again head in
      let t = test b on ++ JumpIf b.scratch parts.first ∷ [] in
      e4 ∙ ap (λ c. c ++ t) (e3 ∙ ap (λ c. c ++ h) (e2 ∙ ap (λ c. c ++ p) e1))
      ∙ flat_loop c0 p h t (Jump parts.second)
      ∙ ap (λ (x : Parts). c0 ++ (Jump x.second ∷ (code_all b x.first x.end x.second pass
      ++ (code_all b x.second after again head ++ (test b on ++ JumpIf b.scratch x.first ∷ []))))) e
