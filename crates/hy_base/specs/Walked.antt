-- What a walk has noted.
use Rattle.std.specs.Prelude.{List, [], ◌∷◌}

-- after it met these, one by one
abbrev pub after : {X N : Type 0} → (X → N → N) → List X → N → N
after note [] noted = noted
after note (x ∷ more) noted = after note more (note x noted)
