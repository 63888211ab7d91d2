-- What a walk over a list leaves in the file: as many of the list's first stores, applied one by one, as the cut or a wait that is
-- not answered allows.
use Rattle.std.specs.Prelude.{ℕ, ◌*◌, ◌≤◌, ◌<◌, ◌≡◌, true, false, List, [], ◌∷◌, ◌++◌, length, take}
use Rattle.kinds.specs.Table.{Between, Outside}
use Rattle.kinds.specs.declared.CFGR.{CFGR}
use Rattle.kinds.specs.declared.refusals.Refusal.{Refusal}
use Rattle.kinds.specs.declared.refusals.Refusal.TheVariants.{PollLimit}
use Rattle.clocks.specs.declared.Clocks.{Clocks}
use Rattle.clocks.specs.declared.InternalRCCConfig.{InternalRCCConfig}
use Rattle.order.specs.Files.{Store, applies}
use Rattle.order.specs.declared.wait.Awaited.{Awaited}
use Rattle.order.specs.declared.wait.Awaited.TheVariants.{Hsi}
use Rattle.order.specs.Order.{Op, put, wait, stores_of, waits}
use Rattle.startup.specs.Start.{Ending, at_end, at_cut, at_wait, polled_of, outcome_of, refused_of, start_of}
use Rattle.startup.specs.declared.Outcome.TheVariants.{Refused, Unanswered}
use Rattle.startup.specs.declared.Started.{Started}

pub data Leaves (os : List Op) (cut : ℕ) (f : List ℕ) : Ending → List ℕ → Type 0 where
  -- a cut above the list's stores cuts nothing
  whole : length (stores_of os) < cut → Leaves os cut f at_end (applies f (stores_of os))
  -- cut n means n stores exactly
  first : cut ≤ length (stores_of os) → Leaves os cut f at_cut (applies f (take cut (stores_of os)))
  -- the stores before the wait, which are fewer than the cut allows
  before : {k : Awaited} (done rest : List Op) → os ≡ done ++ wait k ∷ rest → length (stores_of done) < cut → Leaves os cut f (at_wait k) (applies f (stores_of done))

-- every wait of the list is answered, xs being the answers before it and ys those left after it
pub data Answers (lim : ℕ) : List Op → List ℕ → List ℕ → Type 0 where
  none : {xs : List ℕ} → Answers lim [] xs xs
  store : {ws : Store} {os : List Op} {xs ys : List ℕ} → Answers lim os xs ys → Answers lim (put ws ∷ os) xs ys
  ready : {k : Awaited} {os : List Op} {xs ys : List ℕ} → (polled_of lim xs).ready ≡ true → Answers lim os (polled_of lim xs).rest ys → Answers lim (wait k ∷ os) xs ys

-- the wait k is not answered within the limit: the waits before it are, with fewer stores than the cut allows
pub record Silent (lim : ℕ) (os : List Op) (cut : ℕ) (xs : List ℕ) (k : Awaited) : Type 0 where
  pub done : List Op
  pub rest : List Op
  pub left : List ℕ
  pub is : os ≡ done ++ wait k ∷ rest
  pub fewer : length (stores_of done) < cut
  pub answered : Answers lim done xs left
  pub silent : (polled_of lim left).ready ≡ false

-- the cut is reached: some first part of the list has as many stores as the cut says, and its waits are answered
pub record Reached (lim : ℕ) (os : List Op) (cut : ℕ) (xs : List ℕ) : Type 0 where
  pub done : List Op
  pub rest : List Op
  pub left : List ℕ
  pub is : os ≡ done ++ rest
  pub made : length (stores_of done) ≡ cut
  pub answered : Answers lim done xs left

-- what a start of an accepted plan comes to, x being its clocks, y its field codes and os its list: refused by its limit with nothing stored, or walked,
-- with no more polls than the limit for each wait
pub data Comes (x : Clocks) (y : InternalRCCConfig) (os : List Op) (f : List ℕ) (lim cut : ℕ) : Started → Type 0 where
  away : Outside 1 65535 lim → Comes x y os f lim cut (refused_of PollLimit f)
  over : {e : Ending} {g : List ℕ} {n : ℕ} → Between 1 65535 lim → Leaves os cut f e g → n ≤ waits os * lim
      → Comes x y os f lim cut (record { outcome = outcome_of x y e; polls = n; file = g })

-- a try at a start: its poll limit, answers and cut; and the file that tries, one after the other, leave
pub record Try : Type 0 where
  pub limit : ℕ
  pub answers : List ℕ
  pub cut : ℕ

abbrev pub tried : CFGR → List ℕ → List Try → List ℕ
tried c f [] = f
tried c f (t ∷ l) = tried c (start_of c f t.limit t.answers t.cut).file l

-- a start that made the switch to HSI: its cut allows two stores, it was not refused, and HSI's own wait was answered
pub record Switched (cut : ℕ) (r : Started) : Type 0 where
  pub stores : 2 ≤ cut
  pub taken : (n : Refusal) → r.outcome ≡ Refused n → ⊥
  pub answered : r.outcome ≡ Unanswered Hsi → ⊥
