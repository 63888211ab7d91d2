-- The texts of pieces of input, each but the last of whole records, are together the text of the whole input.
use Prim.Native.Nat.{ℕ, zero, suc, ◌+◌, ◌*◌, ◌/◌, ◌%◌, ◌≤◌}
use mathlib.Core.Path.{◌≡◌, refl, sym, ap, ◌∙◌}
use mathlib.Core.List.{List, [], ◌∷◌, ◌++◌, append_assoc, append-nil}
use native.Mathlib.Nat.{add-zero, add-suc}
use native.Mathlib.Omega.{arith}
use lib.ListN.{length, take, drop, length-append, length-drop}
use lib.Seq.{take-append-le, drop-append-le, drop-append-add}
use Rattle.record.specs.Places.{RECORD}
use Rattle.record.specs.Reading.{default_record}
use Rattle.answer.specs.Answer.{answer_line, default_line}
use Rattle.answer.proofs.Default.{default_line_lem}
use Rattle.planner.specs.Output.{lines_of, tail_of, text_of, output_of, together, texts_of, WholeRecords}

-- the records of the first piece
in_first : (a b : List ℕ) (k : ℕ) → RECORD * suc k ≤ length a → take RECORD (drop (RECORD * k) (a ++ b)) ≡ take RECORD (drop (RECORD * k) a)
in_first a b k h =
    ap (take RECORD) (drop-append-le (RECORD * k) a b (omega arith)) ∙ take-append-le RECORD (drop (RECORD * k) a) b (rw length-drop (omega arith))

lines_first : (a b : List ℕ) (k : ℕ) → RECORD * k ≤ length a → lines_of (a ++ b) k ≡ lines_of a k
unfolding lines_of
lines_first a b zero h = refl
lines_first a b (suc k) h = rw (lines_first a b k (omega arith), in_first a b k h)

-- those of the second
in_second : (a b : List ℕ) (i k : ℕ) → length a ≡ RECORD * i → drop (RECORD * (i + k)) (a ++ b) ≡ drop (RECORD * k) b
in_second a b i k e =
    let n : RECORD * (i + k) ≡ length a + RECORD * k = omega arith in
    rw n (drop-append-add a b (RECORD * k))

lines_both : (a b : List ℕ) (i k : ℕ) → length a ≡ RECORD * i → lines_of (a ++ b) (i + k) ≡ lines_of a i ++ lines_of b k
unfolding lines_of
lines_both a b i zero e = rw (add-zero, append-nil) (lines_first a b i (omega arith))
lines_both a b i (suc k) e = rw (add-suc, lines_both a b i k e, in_second a b i k e, append_assoc)

pub joined : (a b : List ℕ) → length a % RECORD ≡ 0 → text_of (a ++ b) ≡ text_of a ++ text_of b
unfolding text_of
joined a b e =
    let n : length (a ++ b) ≡ length a + length b = length-append a b in
    let d : length (a ++ b) / RECORD ≡ length a / RECORD + length b / RECORD = omega arith in
    let m : length (a ++ b) % RECORD ≡ length b % RECORD = omega arith in
    rw (d, m, e, lines_both a b (length a / RECORD) (length b / RECORD) (omega arith), append-nil) (append_assoc (lines_of a (length a / RECORD)) (lines_of b (length b / RECORD)) (tail_of (length b % RECORD)))

-- whatever the pieces
pub pieces : (ps : List (List ℕ)) (last : List ℕ) → WholeRecords ps → text_of (together ps ++ last) ≡ texts_of ps ++ text_of last
pieces [] last w = refl
pieces (p ∷ ps) last w =
    rw (append_assoc p (together ps) last) (joined p (together ps ++ last) w.0 ∙ rw (pieces ps last w.1) (sym (append_assoc (text_of p) (texts_of ps) (text_of last))))

-- so what is written, piece by piece, of up to 1,000,000 records is the output of the whole input
pub whole_input : (b : List ℕ) (ps : List (List ℕ)) (last : List ℕ) → WholeRecords ps → together ps ++ last ≡ take (RECORD * 1000000) b → texts_of ps ++ text_of last ≡ output_of b
whole_input b ps last w e = sym (pieces ps last w) ∙ ap text_of e

-- document 01's whole output for the record of the Rust's defaults
pub whole_output : text_of default_record ≡ default_line
unfolding text_of lines_of
whole_output = append-nil (answer_line default_record) ∙ default_line_lem
