-- A line read back gives the numbers that it was made of.
use Prim.Native.Nat.{ℕ, ◌+◌, ◌*◌, ◌-◌, ◌≤◌}
use mathlib.Core.Path.{◌≡◌, refl, ap, ◌∙◌}
use mathlib.Core.List.{List, [], ◌∷◌, ◌++◌, append_assoc}
use native.Mathlib.Omega.{arith}
use borrow.Author.Tests.{ne_eqb}
use Rattle.text.specs.Decimal.{decimal}
use Rattle.text.specs.Line.{spaced, line_of, ok_line, no_line}
use Rattle.text.specs.Back.{read_on, numbers_in}
use Rattle.text.proofs.Digits.{value_after, reads_back, Digits, decimal_digits}

over : (ds rest : List ℕ) (v : ℕ) → Digits ds → read_on v (ds ++ rest) ≡ read_on (value_after v ds) rest
over [] rest v d = refl
over (c ∷ ds) rest v d =
    let p : 48 ≤ c = d.0 in
    rw (ne_eqb c 32 (λ e. omega arith), ne_eqb c 10 (λ e. omega arith)) (over ds rest (10 * v + (c - 48)) d.2)

one_on : (n : ℕ) (ns : List ℕ) → read_on n (spaced ns ++ (10 ∷ [])) ≡ n ∷ ns → read_on 0 ((decimal n ++ spaced ns) ++ (10 ∷ [])) ≡ n ∷ ns
one_on n ns h =
    ap (read_on 0) (append_assoc (decimal n) (spaced ns) (10 ∷ [])) ∙ over (decimal n) (spaced ns ++ (10 ∷ [])) 0 (decimal_digits n) ∙ rw (reads_back n) h

reads : (ns : List ℕ) (v : ℕ) → read_on v (spaced ns ++ (10 ∷ [])) ≡ v ∷ ns
unfolding spaced
reads [] v = refl
reads (n ∷ ns) v = ap (λ (l : List ℕ). v ∷ l) (one_on n ns (reads ns n))

after_word : (ns : List ℕ) → numbers_in (spaced ns ++ (10 ∷ [])) ≡ ns
unfolding spaced
after_word [] = refl
after_word (n ∷ ns) = one_on n ns (reads ns n)

-- a plan's line gives its numbers
pub ok_line_reads_back : (ns : List ℕ) → numbers_in (ok_line ns) ≡ ns
unfolding line_of
ok_line_reads_back ns = after_word ns

-- a refusal's line gives its number
pub no_line_reads_back : (number : ℕ) → numbers_in (no_line number) ≡ number ∷ []
unfolding line_of
no_line_reads_back number = after_word (number ∷ [])
