-- Document 01, "Search": the walk, pass by pass, and the search's entry.
use Rattle.std.specs.Prelude.{ℕ, zero, suc, ◌+◌, ◌-◌, ◌/◌, ◌≡◌, true, false, cond, List, [], ◌∷◌, ltb, Option, Some, None, Result, Ok, Err}
use Rattle.pll.specs.Fixed.{inside, vco_of}
use Rattle.kinds.specs.declared.Divider.{Divider}
use Rattle.pll.specs.declared.Window.{Window}
use Rattle.pll.specs.declared.Pair.{Pair}
use Rattle.pll.specs.declared.Miss.{Miss}
use Rattle.pll.specs.declared.Miss.TheVariants.{BadInput, Nothing}
use Rattle.pll.specs.declared.Look.{Look}
use Rattle.pll.specs.declared.Look.TheVariants.{Refuse, NextM, NextN, Good}

-- P of 2, 4, 6, 8 and Q of 2..15, from the largest down
abbrev pub p_dividers : List ℕ
p_dividers = 8 ∷ 6 ∷ 4 ∷ 2 ∷ []

abbrev pub q_dividers : List ℕ
q_dividers = 15 ∷ 14 ∷ 13 ∷ 12 ∷ 11 ∷ 10 ∷ 9 ∷ 8 ∷ 7 ∷ 6 ∷ 5 ∷ 4 ∷ 3 ∷ 2 ∷ []

-- the first divider of the list with floor(VCO/divider) inside the window
unfoldable pub first : List ℕ → ℕ → ℕ → ℕ → Option (Option Divider)
first [] lo hi v = None
first (d ∷ ds) lo hi v =
    elim (inside lo hi (v / d)) [ true ↦ Some (Some (record { 0 = d })) | false ↦ first ds lo hi v ]

-- an absent window gives no divider
unfoldable pub seek : List ℕ → Option Window → ℕ → Option (Option Divider)
seek ds None v = Some None
seek ds (Some w) v = first ds w.lo.0 w.hi.0 v

-- both sought: good, unless one is missed
unfoldable pub join : Option (Option Divider) → Option (Option Divider) → Look
join None b = NextN
join (Some x) None = NextN
join (Some x) (Some y) = Good x y

-- VCO < 50,000,000 goes to the next M; any other failure goes to the next N
unfoldable pub judge : Option Window → Option Window → ℕ → Look
judge p q v =
    cond (ltb v 50000000) NextM (cond (ltb 432000000 v) NextN (join (seek p_dividers p v) (seek q_dividers q v)))

-- a pass: one look at the pair (m, n)
unfoldable pub look : ℕ → Option Window → Option Window → ℕ → ℕ → Look
look f p q m n =
    cond (ltb 63 m) Refuse
    (cond (ltb (f / m) 1000000) Refuse
    (cond (ltb 2000000 (f / m)) NextM
    (cond (ltb n 50) NextM
    (judge p q (vco_of f n m)))))

-- the answer of a good pair at pass k
abbrev pub found : ℕ → ℕ → Option Divider → Option Divider → ℕ → Result Pair Miss
found m n a b k = Ok (record { m = record { 0 = m }; n = record { 0 = n }; p = a; q = b; passes = k })

-- the walk from a look at (m, n), which is pass k; the first number only makes the recursion structural
unfoldable pub walk : ℕ → ℕ → Option Window → Option Window → Look → ℕ → ℕ → ℕ → Result Pair Miss
walk zero f p q l m n k = Err (Nothing k)
walk (suc d) f p q Refuse m n k = Err (Nothing k)
walk (suc d) f p q NextM m n k = walk d f p q (look f p q (m + 1) 432) (m + 1) 432 (k + 1)
walk (suc d) f p q NextN m n k = walk d f p q (look f p q m (n - 1)) m (n - 1) (k + 1)
walk (suc d) f p q (Good a b) m n k = found m n a b k

-- it starts at M = 2, N = 432
abbrev pub whole_walk : ℕ → Option Window → Option Window → Result Pair Miss
whole_walk f p q = walk 10008 f p q (look f p q 2 432) 2 432 1

-- no window at all: no pass
unfoldable pub entered : ℕ → Option Window → Option Window → Result Pair Miss
entered f None None = Err (Nothing 0)
entered f None (Some w) = whole_walk f None (Some w)
entered f (Some w) q = whole_walk f (Some w) q

-- the search's entry: an input outside 1 to 50 MHz is refused
unfoldable pub search_of : ℕ → Option Window → Option Window → Result Pair Miss
search_of f p q = cond (inside 1000000 50000000 f) (entered f p q) (Err BadInput)

-- the same walk as rules, with no bound on its length: from pass k at (m, n) it comes to an answer; each rule is one pass
pub data Walks (f : ℕ) (p q : Option Window) : ℕ → ℕ → ℕ → Result Pair Miss → Type 0 where
  refuses : {m n k : ℕ} → look f p q m n ≡ Refuse → Walks f p q m n k (Err (Nothing k))
  finds : {m n k : ℕ} {a b : Option Divider} → look f p q m n ≡ Good a b → Walks f p q m n k (found m n a b k)
  next_m : {m n k : ℕ} {r : Result Pair Miss} → look f p q m n ≡ NextM → Walks f p q (m + 1) 432 (k + 1) r → Walks f p q m n k r
  next_n : {m n k : ℕ} {r : Result Pair Miss} → look f p q m n ≡ NextN → Walks f p q m (n - 1) (k + 1) r → Walks f p q m n k r

-- how many looks such a walk makes
unfoldable pub looks_of : {f : ℕ} {p q : Option Window} {m n k : ℕ} {r : Result Pair Miss} → Walks f p q m n k r → ℕ
looks_of (refuses e) = 1
looks_of (finds e) = 1
looks_of (next_m e w) = looks_of w + 1
looks_of (next_n e w) = looks_of w + 1
