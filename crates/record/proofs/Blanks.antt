-- Looking at a run of zero bytes, one byte at a time: by what is left of the run.
use Prim.Native.Nat.{ℕ, suc, ◌+◌, ◌-◌, ◌<◌, ◌≤◌}
use mathlib.Core.Path.{◌≡◌, ap}
use mathlib.Core.List.{List, [], ◌∷◌}
use native.Mathlib.Omega.{arith}
use Rattle.record.specs.Layout.{Found, blank, blank_run, blanks, looked, breach_from}

-- a run as a list of rules: it begins with that of its first byte, and at its end has none
pub blanks_begun : (at end : ℕ) → at < end → blanks at end ≡ blank at ∷ blanks (at + 1) end
unfolding blanks blank_run
blanks_begun at end h =
    let e : end - at ≡ suc (end - (at + 1)) = omega arith in
    ap (blank_run at) e

pub blanks_ended : (at end : ℕ) → end ≤ at → blanks at end ≡ []
unfolding blanks blank_run
blanks_ended at end h =
    let e : end - at ≡ 0 = omega arith in
    ap (blank_run at) e

-- looking at a run that isn't at its end begins with the rule of its first byte
pub begun :
    (b : List ℕ) (found : Found) (at end : ℕ) → at < end
    → breach_from b found (blanks at end) ≡ breach_from b (looked b found (blank at)) (blanks (at + 1) end)
unfolding blanks blank_run
begun b found at end h =
    let e : end - at ≡ suc (end - (at + 1)) = omega arith in
    ap (λ n. breach_from b found (blank_run at n)) e

-- a run at its end has no rule
pub ended : (b : List ℕ) (found : Found) (at end : ℕ) → end ≤ at → breach_from b found (blanks at end) ≡ found
unfolding blanks blank_run
ended b found at end h =
    let e : end - at ≡ 0 = omega arith in
    ap (λ n. breach_from b found (blank_run at n)) e
