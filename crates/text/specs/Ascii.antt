-- Text written out as letters: the bytes are their codes.
use Rattle.std.specs.Prelude.{ℕ, List, [], ◌∷◌}
use Prim.Native.Char.{code}
use Prim.Native.String.{String}
use Prim.Native.String.{[] as end, ◌∷◌ as letter}

abbrev pub codes : String → List ℕ
codes end = []
codes (letter c cs) = code c ∷ codes cs
