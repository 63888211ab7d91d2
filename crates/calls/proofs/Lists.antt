-- Past the end of a list of calls there is none: for the number of no setter, and for a code that an enum doesn't have.
use Prim.Native.Nat.{ℕ, ◌≤◌}
use mathlib.Core.Path.{◌≡◌, sym, ◌∙◌}
use mathlib.Core.List.{List}
use lib.ListN.{length, get_or, get_or-eq_default}
use Rattle.std.specs.Prelude.{Option, None, Result, ◌≢◌}
use Rattle.std.specs.Result.{result_ok}
use Rattle.kinds.proofs.Decoding.{unread}
use Rattle.kinds.specs.Codes.{Decodes}
use Rattle.kinds.specs.declared.codes.UnknownCode.{UnknownCode}
use Rattle.calls.specs.Named.{nth}
use Rattle.calls.specs.declared.Setter.{Setter}

pub past : (l : List (Option Setter)) (n : ℕ) → length l ≤ n → None ≡ nth l n
unfolding nth
past l n h = sym (get_or-eq_default l None h)

-- setter k, whose argument is read as no value: it names no call where its list has one for each code
pub unread_past : (l : List (Option Setter)) {i k n : ℕ} {T : Type 0} (code : T → ℕ) (t : Result T UnknownCode)
    {o : Option T} {r : Option Setter} → i ≡ k → r ≡ None → o ≡ None → o ≡ result_ok t → Decodes code n t
    → (m : List (Option Setter)) → get_or l k None ≡ nth m n → (((x : T) → code x ≢ n) → length m ≤ n) → r ≡ nth l i
unfolding nth
unread_past l {n = n} code t number gone nothing is_read decoded m arm over =
    let none : None ≡ nth m n = past m n (over (unread code t decoded (sym is_read ∙ nothing))) in
    rw number (gone ∙ none ∙ sym arm)
