-- Rounding of whole numbers: `closest`, and a number's digits past 24. Nothing here is about floats.
use Rattle.std.proofs.Common.{◌≡◌, ℕ, suc, ◌+◌, ◌-◌, ◌*◌, ◌/◌, ◌%◌, ◌^◌, ◌<◌, ◌≤◌, Bool, true, false, not, T, eqb, leb, ◌⊎◌, sym, refl, ap, ◌∙◌, subst, inl, inr, le_trans, le_of_eq, lt_of_lt_of_le, lt_of_le_of_lt, add-zero, mod-lt, suc-mul, div-lt_iff_lt-mul, add-mul, mul-le-mul, le_antisymm, mul-pos, one-mul, lt_of_not-le, div-add-mod', le-div_iff_mul-le, zero-mul, div-le_self, not-le_of_lt, div-mul-le_self, div-one, add-one, arith, lit<, eqb→eq, leb→le, pow_pos, pow_mono, pow-add}
use Prim.Native.Nat.{compare, Ordering}
use native.Mathlib.Nat.{div-div-eq-div-mul}
use lib.Dec.{is_le, compare_is_eq, nleb→lt, eqb_refl}
use lib.Arith.{lt_of_le-ne}
use lib.Ieee.{size, nearest}
use lib.Ieee.Digits.{size-lt, size-le, size_reaches}
use lib.Ieee.Fits.{nearest-le, kept-lt}
use lib.Ieee.Nearest.{closest, nearest-ge}
use Rattle.clocks.specs.Ratio.{extra, digits24, round24, up}

pub split_le : (a b : ℕ) → (a ≤ b) ⊎ (b < a)
split_le a b = go (leb a b) (leb→le a b) (nleb→lt a b)
  where
    go : (t : Bool) → (T t → a ≤ b) → (T (not t) → b < a) → (a ≤ b) ⊎ (b < a)
    go true h k = inl (h tt)
    go false h k = inr (k tt)

-- ---- what `compare` says
abbrev Cmp : Ordering → ℕ → ℕ → Type 0
Cmp Ordering.lt a b = a < b
Cmp Ordering.eq a b = a ≡ b
Cmp Ordering.gt a b = b < a

cmp : (a b : ℕ) → Cmp (compare a b) a b
cmp a b = go (compare a b) (leb→le a b) (nleb→lt a b) (eqb→eq a b) (λ (e : a ≡ b). subst (λ (x : ℕ). T (eqb a x)) e (eqb_refl a))
  where
    go : (o : Ordering) → (T (is_le o) → a ≤ b) → (T (not (is_le o)) → b < a) → (T (compare_is_eq o) → a ≡ b) → (a ≡ b → T (compare_is_eq o)) → Cmp o a b
    go Ordering.lt h k e n = lt_of_le-ne (h tt) n
    go Ordering.eq h k e n = e tt
    go Ordering.gt h k e n = k tt

clash_lt : (a b : ℕ) → a < b → b < a → ⊥
clash_lt a b h k = omega arith

clash_eq : (a b : ℕ) → a < b → a ≡ b → ⊥
clash_eq a b h k = omega arith

is_lt : (a b : ℕ) → a < b → compare a b ≡ Ordering.lt
is_lt a b h = go (compare a b) (cmp a b)
  where
    go : (o : Ordering) → Cmp o a b → o ≡ Ordering.lt
    go Ordering.lt k = refl
    go Ordering.eq k = absurd (clash_eq a b h k)
    go Ordering.gt k = absurd (clash_lt a b h k)

-- ---- the multiple of u nearest to an x that is nearer to the one below
pub near_below : (x u : ℕ) → x % u * 2 < u → x - x % u ≡ closest x u * u
near_below x u h =
    let e = div-add-mod' x u in
    let d : x - x % u ≡ x / u * u = omega arith in
    d ∙ ap (λ (o : Ordering). nearest (x / u) o * u) (sym (is_lt (x % u * 2) u h))

-- ---- how many digits
size_gt : (n j : ℕ) → 2 ^ j ≤ n → j < size n
size_gt n j h = lt_of_not-le (λ (g : size n ≤ j). not-le_of_lt (lt_of_lt_of_le (size-lt n) (pow_mono g)) h)

past : (z k : ℕ) → z ≤ 24 + k → 23 + k < z → z - 24 ≡ k
past z k a b = omega arith

-- x from 2 ^ (23 + k) up and below 2 ^ (24 + k) has k digits past 24
pub past_is : (x k : ℕ) → 2 ^ (23 + k) ≤ x → x < 2 ^ (24 + k) → size x - 24 ≡ k
past_is x k lo hi = past (size x) k (size-le x (24 + k) hi) (size_gt x (23 + k) lo)

none_past : (z : ℕ) → z ≤ 24 → z - 24 ≡ 0
none_past z a = omega arith

pub past_none : (x : ℕ) → x < 2 ^ 24 → size x - 24 ≡ 0
past_none x hi = none_past (size x) (size-le x 24 hi)

pub round24_at : (x k : ℕ) → size x - 24 ≡ k → closest x (2 ^ k) * 2 ^ k ≡ round24 x
unfolding round24
round24_at x k e =
    sym (ap (λ (n : ℕ). closest x (1 * 2 ^ n) * 2 ^ n) (ap (λ (n : ℕ). size n - 24) (div-one x) ∙ e) ∙ ap (λ (n : ℕ). closest x n * 2 ^ k) (one-mul (2 ^ k)))

-- ---- a fraction rounded to 24 digits keeps 24, or is the next power of two
pub kept_le : (n d : ℕ) → closest n (d * 2 ^ extra n d) ≤ 2 ^ 24
kept_le n d =
    let k = extra n d in
    let u = d * 2 ^ k in
    le_trans (nearest-le (n / u) (compare (n % u * 2) u)) (subst (λ (x : ℕ). x < 2 ^ 24) (div-div-eq-div-mul n d (2 ^ k)) (kept-lt 24 (n / d)))

cut : (z j : ℕ) → z ≤ 24 + j → z - 24 ≤ j
cut z j h = omega arith

pub extra_le : (n d j : ℕ) → n < 2 ^ (24 + j) → extra n d ≤ j
extra_le n d j h = cut (size (n / d)) j (size-le (n / d) (24 + j) (lt_of_le_of_lt (div-le_self n d) h))

pub digits24_le : (n d j : ℕ) → n < 2 ^ (24 + j) → digits24 n d ≤ 2 ^ (24 + j)
digits24_le n d j h = le_trans (mul-le-mul (kept_le n d) (pow_mono (extra_le n d j h))) (le_of_eq (sym (pow-add 2 24 j)))

-- ---- a fraction g / U taken up to a whole number, from its whole part
pub up_more : (g U : ℕ) → 0 < U → g / U * U < g → g / U + 1 ≡ up g U
up_more g U h k =
    let t = g / U in
    let lo : (t + 1) * U ≤ g + (U - 1) = let e = suc-mul t U in let f : (t + 1) * U ≡ t * U + U = simp (add-one, suc-mul) in omega arith in
    let top : g < t * U + U = let e = div-add-mod' g U in let m = mod-lt g h in omega arith in
    let hi : g + (U - 1) < (t + 2) * U = let f : (t + 2) * U ≡ t * U + 2 * U = add-mul t 2 U in omega arith in
    le_antisymm ((le-div_iff_mul-le h).1 lo) (below (t + 1) ((g + (U - 1)) / U) ((div-lt_iff_lt-mul h).1 (subst (λ (z : ℕ). g + (U - 1) < z * U) (two_more t) hi)))
  where
    below : (a b : ℕ) → b < suc a → b ≤ a
    below a b h = omega arith

    two_more : (t : ℕ) → t + 2 ≡ suc (t + 1)
    two_more t = omega arith

pub up_same : (g U : ℕ) → 0 < U → g ≤ g / U * U → g / U ≡ up g U
up_same g U h k =
    let t = g / U in
    let d = div-mul-le_self g U in
    let lo : t * U ≤ g + (U - 1) = omega arith in
    let hi : g + (U - 1) < suc t * U = let f = suc-mul t U in omega arith in
    le_antisymm ((le-div_iff_mul-le h).1 lo) (below t ((g + (U - 1)) / U) ((div-lt_iff_lt-mul h).1 hi))
  where
    below : (a b : ℕ) → b < suc a → b ≤ a
    below a b h = omega arith

-- ---- a fraction of 1 or more stays above zero
few : (z : ℕ) → 0 < z → z - 24 < z
few z h = omega arith

pub digits24_pos : (n d : ℕ) → 0 < d → d ≤ n → 0 < digits24 n d
digits24_pos n d D h =
    let k = extra n d in
    let w : 1 ≤ n / d = (le-div_iff_mul-le D).1 (le_trans (le_of_eq (one-mul d)) h) in
    let u : 2 ^ k ≤ n / d = size_reaches (n / d) k (few (size (n / d)) (size_gt (n / d) 0 w)) in
    let q : 1 ≤ n / d / 2 ^ k = (le-div_iff_mul-le (pow_pos k)).1 (le_trans (le_of_eq (one-mul (2 ^ k))) u) in
    let r : 1 ≤ n / (d * 2 ^ k) = rw (div-div-eq-div-mul n d (2 ^ k)) at q in
    mul-pos (le_trans r (nearest-ge (n / (d * 2 ^ k)) (compare (n % (d * 2 ^ k) * 2) (d * 2 ^ k)))) (pow_pos k)

pub round24_pos : (x : ℕ) → 0 < x → 0 < round24 x
unfolding round24
round24_pos x h = digits24_pos x 1 (lit< tt) h

pub round24_lt : (x : ℕ) → x < 2 ^ 28 → round24 x < 2 ^ 29
unfolding round24
round24_lt x h = lt_of_le_of_lt (digits24_le x 1 4 h) (lit< tt)

-- ---- what `closest` means: no whole number is nearer to n / d, and a tie has gone to the even one
abbrev Nearest : ℕ → ℕ → ℕ → Type 0
Nearest n d m = (2 * n ≤ 2 * (m * d) + d) × (2 * (m * d) ≤ 2 * n + d) × (((2 * n ≡ 2 * (m * d) + d) ⊎ (2 * (m * d) ≡ 2 * n + d)) → m % 2 ≡ 0)

low : (n d m : ℕ) (r : ℕ) → m * d + r ≡ n → r * 2 < d → Nearest n d m
low n d m r e h = (omega arith, omega arith, λ t. elim t [ inl a ↦ absurd (omega arith) | inr a ↦ absurd (omega arith) ])

high : (n d q : ℕ) (r : ℕ) → q * d + r ≡ n → r < d → d < r * 2 → Nearest n d (suc q)
high n d q r e l h =
    let s = suc-mul q d in
    (omega arith, omega arith, λ t. elim t [ inl a ↦ absurd (omega arith) | inr a ↦ absurd (omega arith) ])

tie_at : (n d q b : ℕ) (r : ℕ) → q * d + r ≡ n → r * 2 ≡ d → q % 2 ≡ b → (b ≡ 0) ⊎ (b ≡ 1) → Nearest n d (q + b)
tie_at n d q b r e h p (inl z) = subst (λ (w : ℕ). Nearest n d (q + w)) (sym z) (let a : (q + 0) * d ≡ q * d = add-mul q 0 d ∙ simp (zero-mul, add-zero) in (omega arith, omega arith, λ t. omega arith))
tie_at n d q b r e h p (inr z) = subst (λ (w : ℕ). Nearest n d (q + w)) (sym z) (let a : (q + 1) * d ≡ q * d + d = add-mul q 1 d ∙ ap (λ (w : ℕ). q * d + w) (one-mul d) in (omega arith, omega arith, λ t. omega arith))

bit : (q : ℕ) → (q % 2 ≡ 0) ⊎ (q % 2 ≡ 1)
bit q = elim (split_le (q % 2) 0) [ inl l ↦ inl (omega arith) | inr l ↦ inr (omega (arith, mod-lt q (lit< {m = 0} {n = 2} tt))) ]

pub closest_is_nearest : (n d : ℕ) → 0 < d → Nearest n d (closest n d)
closest_is_nearest n d D = go (compare (n % d * 2) d) (cmp (n % d * 2) d)
  where
    go : (o : Ordering) → Cmp o (n % d * 2) d → Nearest n d (nearest (n / d) o)
    go Ordering.lt k = low n d (n / d) (n % d) (div-add-mod' n d) k
    go Ordering.eq k = tie_at n d (n / d) (n / d % 2) (n % d) (div-add-mod' n d) k refl (bit (n / d))
    go Ordering.gt k = high n d (n / d) (n % d) (div-add-mod' n d) (mod-lt n D) k
