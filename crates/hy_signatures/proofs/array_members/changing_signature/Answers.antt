use Rattle.hy_signatures.proofs.array_members.changing_signature.Goals as goal

pub returns : goal.returns
returns c table wanted type params gives =
    let s = c.in_ok-s.ensures table wanted type params gives in
    record {
      params = s.params;
      result = s.result;
      known = s.known;
      is = λ i. record (s.is i) { variants = c.in_ok-s-2.ensures i };
    }
