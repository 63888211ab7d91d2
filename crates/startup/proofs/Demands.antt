-- What is promised of the starts of a plan, for every file, limit, answers and cut: read off how a start comes about and what its walk leaves.
use Prim.Native.Nat.{ℕ, suc, ◌-◌, ◌*◌, ◌≤◌, ◌<◌}
use native.Mathlib.Omega.{arith}
use native.Mathlib.Nat.{mul-le-mul_right}
use mathlib.Core.Path.{◌≡◌, refl, sym, ◌∙◌, ap, subst}
use mathlib.Core.Bool.{true, false}
use mathlib.Core.List.{List, [], ◌∷◌, ◌++◌}
use lib.ListN.{length, get_or, take, replicate}
use lib.Seq.{take-length}
use Rattle.kinds.specs.Table.{Between}
use Rattle.kinds.specs.declared.CFGR.{CFGR}
use Rattle.kinds.specs.declared.refusals.Refusal.TheVariants.{PollLimit}
use Rattle.clocks.specs.Derive.{clocks_of, config_of}
use Rattle.clocks.specs.declared.Clocks.{Clocks}
use Rattle.clocks.specs.declared.InternalRCCConfig.{InternalRCCConfig}
use Rattle.plan.specs.Plan.{ready, plan_of}
use Rattle.plan.proofs.View.{planned_derived}
use Rattle.plan.proofs.Theorems.{plan_is_configured, plan_is_derived}
use Rattle.order.specs.declared.wait.Awaited.TheVariants.{Hsi}
use Rattle.order.specs.Places.{PLACES}
use Rattle.order.specs.Files.{applies}
use Rattle.order.specs.Order.{Op, pll_stored, ops_of, STORES, WAITS, stores_of, waits, waits_by}
use Rattle.startup.specs.Start.{done_with, cut_with, Ending, at_end, at_cut, at_wait, walk, outcome_of, started_of, start_of}
use Rattle.startup.specs.Cuts.{Leaves, whole, first, before, Comes, away, over, Try, tried, Switched}
use Rattle.order.specs.Fields.{fields_of, names, Holds}
use Rattle.order.specs.Safe.{Settled, Safe}
use Rattle.order.specs.Back.{Reads, Powered}
use Rattle.startup.specs.declared.Outcome.TheVariants.{Unanswered}
use Rattle.startup.specs.declared.Started.{Started}
use Rattle.order.proofs.Restart.{restart}
use Rattle.order.proofs.Looks.{first_stores}
use Rattle.order.proofs.Few.{stores_few, waits_few, stores_least, two_before}
use Rattle.order.proofs.Touched.{list_holds, list_keeps}
use Rattle.order.proofs.Safe.{safe_list, settled}
use Rattle.order.proofs.Back.{reads_back, powered}
use Rattle.startup.proofs.Leaving.{leaves, polls_few, ones_polls, ones_end, ones_cut, waits_whole}
use Rattle.startup.proofs.Told.{pair, pair_told, done_told, cut_told, plan_told}
use Rattle.startup.proofs.View.{apart, StartView, bad_limit, not_planned, ran, start_view}

-- whatever a walk leaves is what some first stores of its list make of the file, no more than the cut allows
first_place : {os : List Op} {cut : ℕ} {f g : List ℕ} {e : Ending} → Leaves os cut f e g → (n : ℕ) × (n ≤ cut) × (g ≡ applies f (take n (stores_of os)))
first_place {os} {f = f} (whole h) = (length (stores_of os), omega arith, ap (applies f) (sym (take-length (stores_of os))))
first_place {cut = cut} (first h) = (cut, omega arith, refl)
first_place {os} {f = f} (before {k = k} a b e h) = (length (stores_of a), omega arith, ap (applies f) (sym (first_stores os a b k e)))

-- ---- a start by how it ended
module _ {x : Clocks} {y : InternalRCCConfig} {os : List Op} {f : List ℕ} {lim cut : ℕ} where
  -- some first stores of the list, no more than the cut allows
  come_first : (r : Started) → Comes x y os f lim cut r → (n : ℕ) × (n ≤ cut) × (r.file ≡ applies f (take n (stores_of os)))
  come_first r (away o) = (0, omega arith, refl)
  come_first r (over b l h) = first_place l

  come_done : (r : Started) → Comes x y os f lim cut r → (z : Clocks) (v : InternalRCCConfig) → r.outcome ≡ done_with z v → (z ≡ x) × (v ≡ y) × (r.file ≡ applies f (stores_of os))
  come_done r (away o) z v e = absurd (let q : ◌≡◌ {A = ℕ} 0 1 = cc in omega arith)
  come_done r (over {e = at_end} b (whole h) i) z v e = let q = done_told e in (sym q.0, sym q.1, refl)
  come_done r (over {e = at_cut} b (first h) i) z v e = absurd (let q : ◌≡◌ {A = ℕ} 0 1 = cc in omega arith)
  come_done r (over {e = at_wait k} b (before a g u h) i) z v e = absurd (let q : ◌≡◌ {A = ℕ} 0 1 = cc in omega arith)

  come_cut : (r : Started) → Comes x y os f lim cut r → (z : Clocks) (v : InternalRCCConfig) → r.outcome ≡ cut_with z v → (z ≡ x) × (v ≡ y) × (cut ≤ length (stores_of os)) × (r.file ≡ applies f (take cut (stores_of os)))
  come_cut r (away o) z v e = absurd (let q : ◌≡◌ {A = ℕ} 0 1 = cc in omega arith)
  come_cut r (over {e = at_end} b l i) z v e = absurd (let q : ◌≡◌ {A = ℕ} 0 1 = cc in omega arith)
  come_cut r (over {e = at_cut} b (first h) i) z v e = let q = cut_told e in (sym q.0, sym q.1, h, refl)
  come_cut r (over {e = at_wait k} b l i) z v e = absurd (let q : ◌≡◌ {A = ℕ} 0 1 = cc in omega arith)

-- what the switch to HSI says of how a start came about: at least two stores were made
come_switched : (d : CFGR) (y : InternalRCCConfig) (x : Clocks) (f : List ℕ) (lim cut : ℕ) (r : Started) → Comes x y (ops_of d y) f lim cut r → Switched cut r
    → (n : ℕ) × (2 ≤ n) × (r.file ≡ applies f (take n (stores_of (ops_of d y))))
come_switched d y x f lim cut r (away o) s = absurd (s.taken PollLimit refl)
come_switched d y x f lim cut r (over {e = at_end} b (whole h) i) s =
    (length (stores_of (ops_of d y)), let l = stores_least d y in omega arith, ap (applies f) (sym (take-length (stores_of (ops_of d y)))))
come_switched d y x f lim cut r (over {e = at_cut} b (first h) i) s = (cut, s.stores, refl)
come_switched d y x f lim cut r (over {e = at_wait k} b (before a g u h) i) s =
    (length (stores_of a), two_before d y a g k u (λ (e : k ≡ Hsi). s.answered (ap Unanswered e)), ap (applies f) (sym (first_stores (ops_of d y) a g k u)))

module _ (c d : CFGR) (k : ℕ) (x : Clocks) (y : InternalRCCConfig) (p : plan_of c ≡ ready d k x y) where
  -- the plan's clocks and field codes are those derived from the configuration as planned
  derived : (clocks_of d ≡ x) × (config_of d ≡ y)
  derived =
      let e = sym (planned_derived c d k (plan_is_configured c d k x y p).0) ∙ plan_is_derived c d k x y p in
      let q : pair (clocks_of d) (config_of d) ≡ pair x y = cc in
      pair_told q

  module _ (f : List ℕ) (lim : ℕ) (xs : List ℕ) (cut : ℕ) where
    -- within its limits a start is the walk of the list
    pub is_walk : Between 1 65535 lim → start_of c f lim xs cut ≡ started_of x y (walk lim (ops_of d y) cut xs f)
    is_walk b = from (start_of c f lim xs cut) (start_view c f lim xs cut)
      where
        same : (a : CFGR) (t : Clocks) (v : InternalRCCConfig) → a ≡ d → t ≡ x → v ≡ y
            → started_of t v (walk lim (ops_of a v) cut xs f) ≡ started_of x y (walk lim (ops_of d y) cut xs f)
        same a t v e g h =
            ap (λ (i : CFGR). started_of t v (walk lim (ops_of i v) cut xs f)) e
            ∙ ap (λ (i : InternalRCCConfig). started_of t i (walk lim (ops_of d i) cut xs f)) h
            ∙ ap (λ (i : Clocks). started_of i y (walk lim (ops_of d y) cut xs f)) g

        from : (r : Started) → StartView c f lim xs cut r → r ≡ started_of x y (walk lim (ops_of d y) cut xs f)
        from r (bad_limit o) = absurd (apart b o)
        from r (not_planned h e) = absurd (let q : ◌≡◌ {A = ℕ} 0 1 = cc in omega arith)
        from r (ran {d = a} {x = t} {y = v} h e) = let q = plan_told (sym e ∙ p) in same a t v q.0 q.1 q.2

    -- the file of every outcome is the list's first stores applied one by one, as many as the cut or an unanswered wait allows
    pub comes : Comes x y (ops_of d y) f lim cut (start_of c f lim xs cut)
    comes = from (start_of c f lim xs cut) refl (start_view c f lim xs cut)
      where
        walked : Between 1 65535 lim → Comes x y (ops_of d y) f lim cut (started_of x y (walk lim (ops_of d y) cut xs f))
        walked b = over b (leaves lim (ops_of d y) cut xs f) (polls_few lim (ops_of d y) cut xs f)

        from : (r : Started) → start_of c f lim xs cut ≡ r → StartView c f lim xs cut r → Comes x y (ops_of d y) f lim cut r
        from r g (bad_limit o) = away o
        from r g (not_planned b e) = absurd (let q : ◌≡◌ {A = ℕ} 0 1 = cc in omega arith)
        from r g (ran b e) = subst (λ (t : Started). Comes x y (ops_of d y) f lim cut t) (sym (is_walk b) ∙ g) (walked b)

    -- a start that is cut made as many stores as the cut says, exactly
    pub cut_exactly : (z : Clocks) (v : InternalRCCConfig) → (start_of c f lim xs cut).outcome ≡ cut_with z v
        → (z ≡ x) × (v ≡ y) × (cut ≤ length (stores_of (ops_of d y))) × ((start_of c f lim xs cut).file ≡ applies f (take cut (stores_of (ops_of d y))))
    cut_exactly = come_cut (start_of c f lim xs cut) comes

    -- a cut above the plan's stores cuts nothing
    pub cuts_nothing : length (stores_of (ops_of d y)) < cut → (z : Clocks) (v : InternalRCCConfig) → (start_of c f lim xs cut).outcome ≡ cut_with z v → ⊥
    cuts_nothing h z v e = let g = (cut_exactly z v e).2 in omega arith

    -- every start leaves the file of some cut, refusals 12 and 13 too
    pub first_stores_of : (n : ℕ) × (n ≤ cut) × ((start_of c f lim xs cut).file ≡ applies f (take n (stores_of (ops_of d y))))
    first_stores_of = come_first (start_of c f lim xs cut) comes

    -- a start that is done hands back the clocks of the plan, and made every store
    pub done_whole : (z : Clocks) (v : InternalRCCConfig) → (start_of c f lim xs cut).outcome ≡ done_with z v → (z ≡ x) × (v ≡ y) × ((start_of c f lim xs cut).file ≡ applies f (stores_of (ops_of d y)))
    done_whole = come_done (start_of c f lim xs cut) comes

    -- a place that is no field of the plan keeps what the file had, whatever comes of the start
    pub untouched : (q : ℕ) → names q (fields_of d y) ≡ false → get_or (start_of c f lim xs cut).file q 0 ≡ get_or f q 0
    untouched q h = let s = first_stores_of in ap (λ (g : List ℕ). get_or g q 0) s.2 ∙ list_keeps d y q h f s.0

    -- demand 3, first half: from the switch to HSI on, at every cut and every refusal 12
    pub safe : length f ≡ PLACES → Switched cut (start_of c f lim xs cut) → Safe d y (start_of c f lim xs cut).file
    safe l s =
        let t = come_switched d y x f lim cut (start_of c f lim xs cut) comes s in
        subst (λ (g : List ℕ). Safe d y g) (sym t.2) (safe_list d y f t.0 l t.1)

    -- a start that is done leaves each field of the plan at the plan's value, whatever the file was
    pub done_holds : length f ≡ PLACES → (z : Clocks) (v : InternalRCCConfig) → (start_of c f lim xs cut).outcome ≡ done_with z v → Holds (fields_of d y) (start_of c f lim xs cut).file
    done_holds l z v e = subst (λ (g : List ℕ). Holds (fields_of d y) g) (sym (done_whole z v e).2) (list_holds d y f l)

    -- the file that a start leaves reads back as the plan's clocks: drivers' clocks and stored fields can't drift apart
    pub done_reads : length f ≡ PLACES → (z : Clocks) (v : InternalRCCConfig) → (start_of c f lim xs cut).outcome ≡ done_with z v
        → (z ≡ x) × (v ≡ y) × Reads x (start_of c f lim xs cut).file × (pll_stored d.pll ≡ true → Powered x (start_of c f lim xs cut).file)
    done_reads l z v e = ((done_whole z v e).0, (done_whole z v e).1, read.0, read.1)
      where
        g : List ℕ
        g = (start_of c f lim xs cut).file

        set : Settled d (config_of d) g
        set = subst (λ (v : InternalRCCConfig). Settled d v g) (sym derived.1) (settled d y g (done_holds l z v e))

        read : Reads x g × (pll_stored d.pll ≡ true → Powered x g)
        read =
            (subst (λ (t : Clocks). Reads t g) derived.0 (reads_back d g set), λ h. subst (λ (t : Clocks). Powered t g) derived.0 (powered d g set h))

  -- demand 3, second half: over what any start of the plan left, and over the first file, a start that is done ends in one file
  pub same_end : (f : List ℕ) (lim : ℕ) (xs : List ℕ) (cut : ℕ) (lim' : ℕ) (xs' : List ℕ) (cut' : ℕ) (lim'' : ℕ) (xs'' : List ℕ) (cut'' : ℕ) (z w : Clocks) (v u : InternalRCCConfig)
      → (start_of c f lim' xs' cut').outcome ≡ done_with z v → (start_of c (start_of c f lim xs cut).file lim'' xs'' cut'').outcome ≡ done_with w u
      → (start_of c (start_of c f lim xs cut).file lim'' xs'' cut'').file ≡ (start_of c f lim' xs' cut').file
  same_end f lim xs cut lim' xs' cut' lim'' xs'' cut'' z w v u a b =
      let s = first_stores_of f lim xs cut in
      (done_whole (start_of c f lim xs cut).file lim'' xs'' cut'' w u b).2
      ∙ ap (λ (g : List ℕ). applies g (stores_of (ops_of d y))) s.2
      ∙ restart f (stores_of (ops_of d y)) s.0
      ∙ sym (done_whole f lim' xs' cut' z v a).2

  -- a cut of 0 ends it before the first store, whatever the answers
  pub cut_at_0 : (f : List ℕ) (lim : ℕ) (xs : List ℕ) → Between 1 65535 lim → start_of c f lim xs 0 ≡ record { outcome = cut_with x y; polls = 0; file = f }
  cut_at_0 f lim xs b = is_walk f lim xs 0 b

  -- ---- answers that answer every wait exist: as many 1s as the plan has waits, whatever follows them
  module _ (f : List ℕ) (lim : ℕ) (ys : List ℕ) (cut : ℕ) (b : Between 1 65535 lim) where
    abbrev ones : List ℕ
    ones = replicate (waits (ops_of d y)) 1 ++ ys

    walked : start_of c f lim ones cut ≡ started_of x y (walk lim (ops_of d y) cut ones f)
    walked = is_walk f lim ones cut b

    limit : suc (lim - 1) ≡ lim
    limit = omega (arith, b.low)

    -- with one poll for each wait before the cut
    pub one_poll_a_wait : (start_of c f lim ones cut).polls ≡ waits_by (ops_of d y) cut
    one_poll_a_wait = ap (λ (r : Started). r.polls) walked ∙ subst (λ (m : ℕ). (walk m (ops_of d y) cut ones f).polls ≡ waits_by (ops_of d y) cut) limit (ones_polls (lim - 1) (ops_of d y) cut ys f)

    -- with a cut above the plan's stores the start is done
    pub answered : length (stores_of (ops_of d y)) < cut → ((start_of c f lim ones cut).outcome ≡ done_with x y) × ((start_of c f lim ones cut).polls ≡ waits (ops_of d y))
    answered h = (
      ap (λ (r : Started). r.outcome) walked
          ∙ ap (outcome_of x y) (subst (λ (m : ℕ). (walk m (ops_of d y) cut ones f).ending ≡ at_end) limit (ones_end (lim - 1) (ops_of d y) cut ys f h)),
      one_poll_a_wait ∙ waits_whole (ops_of d y) cut h,
    )

    -- with another it is cut there: the file of each cut is one that is handed back
    pub cut_there : cut ≤ length (stores_of (ops_of d y)) → (start_of c f lim ones cut).outcome ≡ cut_with x y
    cut_there h =
        ap (λ (r : Started). r.outcome) walked
        ∙ ap (outcome_of x y) (subst (λ (m : ℕ). (walk m (ops_of d y) cut ones f).ending ≡ at_cut) limit (ones_cut (lim - 1) (ops_of d y) cut ys f h))

  -- demand 3, second half, with such answers and a cut above every plan's stores: over what any start of the plan left, as over the first file
  pub restarted : (f : List ℕ) (lim : ℕ) (xs : List ℕ) (cut : ℕ) (lim' : ℕ) (ys : List ℕ) (cut' : ℕ) → Between 1 65535 lim' → STORES < cut'
      → (start_of c (start_of c f lim xs cut).file lim' (replicate (waits (ops_of d y)) 1 ++ ys) cut').file ≡ (start_of c f lim' (replicate (waits (ops_of d y)) 1 ++ ys) cut').file
  restarted f lim xs cut lim' ys cut' b h =
      let s = stores_few d y in
      same_end f lim xs cut lim' (replicate (waits (ops_of d y)) 1 ++ ys) cut' lim' (replicate (waits (ops_of d y)) 1 ++ ys) cut' x x y y
      (answered f lim' ys cut' b (omega arith)).0 (answered (start_of c f lim xs cut).file lim' ys cut' b (omega arith)).0

  -- so over what any number of tries left, one after the other, cut or unanswered or done
  pub restarted_again : (f : List ℕ) (l : List Try) (lim : ℕ) (ys : List ℕ) (cut : ℕ) → Between 1 65535 lim → STORES < cut
      → (start_of c (tried c f l) lim (replicate (waits (ops_of d y)) 1 ++ ys) cut).file ≡ (start_of c f lim (replicate (waits (ops_of d y)) 1 ++ ys) cut).file
  restarted_again f [] lim ys cut b h = refl
  restarted_again f (t ∷ l) lim ys cut b h =
      restarted_again (start_of c f t.limit t.answers t.cut).file l lim ys cut b h ∙ restarted f t.limit t.answers t.cut lim ys cut b h

-- ---- for every configuration
-- polls: at most the limit for each of the most waits
pub polls_at_most : (c : CFGR) (f : List ℕ) (lim : ℕ) (xs : List ℕ) (cut : ℕ) → (start_of c f lim xs cut).polls ≤ WAITS * lim
polls_at_most c f lim xs cut = from (start_of c f lim xs cut) (start_view c f lim xs cut)
  where
    from : (r : Started) → StartView c f lim xs cut r → r.polls ≤ WAITS * lim
    from r (bad_limit o) = omega arith
    from r (not_planned b e) = omega arith
    from r (ran {d = d} {y = y} b e) =
        let a = polls_few lim (ops_of d y) cut xs f in let g = mul-le-mul_right lim (waits_few d y) in omega arith
