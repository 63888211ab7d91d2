-- A line read back as numbers.
use Rattle.std.specs.Prelude.{ℕ, ◌+◌, ◌*◌, ◌-◌, cond, List, [], ◌∷◌, eqb}
use Prim.Native.Char.{code}

-- digits are gathered into v; a space ends a number and begins the next, a newline ends the last
abbrev pub read_on : ℕ → List ℕ → List ℕ
read_on v [] = v ∷ []
read_on v (c ∷ cs) = cond (eqb c (code " ")) (v ∷ read_on 0 cs) (cond (eqb c (code "\n")) (v ∷ []) (read_on (10 * v + (c - code "0")) cs))

-- the numbers after the first space
abbrev pub numbers_in : List ℕ → List ℕ
numbers_in [] = []
numbers_in (c ∷ cs) = cond (eqb c (code " ")) (read_on 0 cs) (numbers_in cs)
