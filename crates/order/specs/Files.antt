-- A store over a register file: places and their new values, written one after the other; and several stores one by one.
use Rattle.std.specs.Prelude.{ℕ, ◌≡◌, List, [], ◌∷◌, set}

-- what a store names: each place with its new value
abbrev pub Store : Type 0
Store = List (ℕ × ℕ)

-- one store changes only the fields that it names
abbrev pub writes : List ℕ → Store → List ℕ
writes f [] = f
writes f (w ∷ ws) = writes (set f w.0 w.1) ws

-- stores applied one by one
abbrev pub applies : List ℕ → List Store → List ℕ
applies f [] = f
applies f (ws ∷ l) = applies (writes f ws) l

-- g is the file f after the store ws
pub record Wrote (f : List ℕ) (ws : Store) (g : List ℕ) : Type 0 where
  pub is : g ≡ writes f ws
