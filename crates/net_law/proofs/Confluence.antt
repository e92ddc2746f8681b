-- Where acts of different actors commute, every run is the beginning of one that ends as the rounds do.
use Rattle.std.proofs.Common.{◌≡◌, ℕ, zero, suc, ◌+◌, List, [], ◌∷◌, ◌++◌, length, Option, Some, None, refl, ap, sym, ◌∙◌, subst, inl, inr, ◌⊎◌, arith, add-zero, zero-add}
use Rattle.std.specs.Option.{unwrap_or}
use Rattle.net_law.specs.Rounds.{round, rounds}

-- the states after these actors acted, one after another
abbrev pub Path : {S A : Type 0} → (A → S → Option S) → S → List A → S → Type 0
Path step s [] t = t ≡ s
Path {S} step s (a ∷ xs) t = (m : S) × (step a s ≡ Some m) × Path step m xs t

-- who tries in a round
abbrev pub In : {A : Type 0} → A → List A → Type 0
In a [] = ⊥
In a (b ∷ bs) = (a ≡ b) ⊎ In a bs

pub path_append : {S A : Type 0} (step : A → S → Option S) (s m t : S) (xs ys : List A) → Path step s xs m → Path step m ys t → Path step s (xs ++ ys) t
path_append step s m t [] ys p q = subst (λ x. Path step x ys t) p q
path_append step s m t (a ∷ xs) ys p q = (p.0, p.1, path_append step p.0 m t xs ys p.2 q)

module _ (S A : Type 0) (step : A → S → Option S) (good : S → Type 0) (keeps : (a : A) (s t : S) → good s → step a s ≡ Some t → good t) (same : (a b : A) → (a ≡ b) ⊎ (a ≡ b → ⊥)) (diamond : (a b : A) (s sa sb : S) → good s → (a ≡ b → ⊥) → step a s ≡ Some sa → step b s ≡ Some sb → (t : S) × (step b sa ≡ Some t) × (step a sb ≡ Some t)) where
  -- there is a run from s to t
  abbrev pub Leads : S → S → Type 0
  Leads s t = (xs : List A) × Path step s xs t

  leads_on : (s m t : S) → Leads s m → Leads m t → Leads s t
  leads_on s m t p q = (p.0 ++ q.0, path_append step s m t p.0 q.0 p.1 q.1)

  leads_by : (a : A) (s m t : S) → step a s ≡ Some m → Leads m t → Leads s t
  leads_by a s m t e p = (a ∷ p.0, (m, e, p.1))

  pub good_along : (s t : S) (xs : List A) → good s → Path step s xs t → good t
  good_along s t [] g p = rw p g
  good_along s t (a ∷ xs) g p = good_along p.0 t xs (keeps a s p.0 g p.1) p.2

  -- an actor that could act at the run's start has acted in it, or still can at its end
  abbrev Front : S → S → A → Type 0
  Front sa t a = Leads sa t ⊎ ((ta : S) × (step a t ≡ Some ta) × Leads sa ta)

  front_more : (a b : A) (sa q t : S) → step b sa ≡ Some q → Front q t a → Front sa t a
  front_more a b sa q t e (inl p) = inl (leads_by b sa q t e p)
  front_more a b sa q t e (inr p) = inr (p.0, p.1, leads_by b sa q p.0 e p.2)

  front_cons : (a b : A) (s sa m t : S) (bs : List A) → good s → step a s ≡ Some sa → step b s ≡ Some m → Path step m bs t → ((q : S) → step a m ≡ Some q → Front q t a) → (a ≡ b) ⊎ (a ≡ b → ⊥) → Front sa t a
  front_cons a b s sa m t bs g e f p later (inl eq) = let k : m ≡ sa = cc in inl (bs, subst (λ x. Path step x bs t) k p)
  front_cons a b s sa m t bs g e f p later (inr ne) = let d = diamond a b s sa m g ne e f in front_more a b sa d.0 t d.1 (later d.0 d.2)

  front : (a : A) (s sa t : S) (bs : List A) → good s → step a s ≡ Some sa → Path step s bs t → Front sa t a
  front a s sa t [] g e p = inr (sa, rw p e, ([], refl))
  front a s sa t (b ∷ bs) g e p = front_cons a b s sa p.0 t bs g e p.1 p.2 (λ q f. front a p.0 q t bs (keeps b s p.0 g p.1) f p.2) (same a b)

  -- a round is a run
  try_leads : (a : A) (s : S) (o : Option S) → step a s ≡ o → Leads s (unwrap_or o s)
  try_leads a s None e = ([], refl)
  try_leads a s (Some t) e = (a ∷ [], (t, e, refl))

  try_good : (a : A) (s : S) (o : Option S) → good s → step a s ≡ o → good (unwrap_or o s)
  try_good a s None g e = g
  try_good a s (Some t) g e = keeps a s t g e

  round_leads : (xs : List A) (s : S) → Leads s (round step xs s)
  round_leads [] s = ([], refl)
  round_leads (a ∷ xs) s = leads_on s (unwrap_or (step a s) s) _ (try_leads a s (step a s) refl) (round_leads xs (unwrap_or (step a s) s))

  -- a round catches up with an act that could be done at its start
  caught_try : (a b : A) (s sa : S) (xs : List A) (o : Option S) → good s → (a ≡ b → ⊥) → step a s ≡ Some sa → step b s ≡ o → ((q qa : S) → good q → step a q ≡ Some qa → Leads qa (round step xs q)) → Leads sa (round step xs (unwrap_or o s))
  caught_try a b s sa xs None g ne e f later = later s sa g e
  caught_try a b s sa xs (Some m) g ne e f later = let d = diamond a b s sa m g ne e f in leads_by b sa d.0 _ d.1 (later m d.0 (keeps b s m g f) d.2)

  caught_here : (a b : A) (s sa : S) (xs : List A) → a ≡ b → step a s ≡ Some sa → Leads sa (round step xs (unwrap_or (step b s) s))
  caught_here a b s sa xs eq e = let f : step b s ≡ Some sa = cc in rw f (round_leads xs sa)

  caught_in : (a b : A) (xs : List A) → (a ≡ b) ⊎ In a xs → (a ≡ b) ⊎ (a ≡ b → ⊥) → (s sa : S) → good s → step a s ≡ Some sa → (In a xs → (q qa : S) → good q → step a q ≡ Some qa → Leads qa (round step xs q)) → Leads sa (round step xs (unwrap_or (step b s) s))
  caught_in a b xs i (inl eq) s sa g e later = caught_here a b s sa xs eq e
  caught_in a b xs (inl eq) (inr ne) s sa g e later = absurd (ne eq)
  caught_in a b xs (inr i) (inr ne) s sa g e later = caught_try a b s sa xs (step b s) g ne e refl (later i)

  caught : (a : A) (xs : List A) → In a xs → (s sa : S) → good s → step a s ≡ Some sa → Leads sa (round step xs s)
  caught a [] i s sa g e = absurd i
  caught a (b ∷ bs) i s sa g e = caught_in a b bs i (same a b) s sa g e (λ j q qa h f. caught a bs j q qa h f)

  module _ (all : List A) (every : (a : A) (s t : S) → good s → step a s ≡ Some t → In a all) (start : S) (begins : good start) where
    round_good : (xs : List A) (s : S) → good s → good (round step xs s)
    round_good [] s g = g
    round_good (a ∷ xs) s g = round_good xs (unwrap_or (step a s) s) (try_good a s (step a s) g refl)

    pub rounds_good : (r : ℕ) → good (rounds step all start r)
    rounds_good zero = begins
    rounds_good (suc r) = round_good all (rounds step all start r) (rounds_good r)

    -- more rounds are a run
    pub rounds_lead : (r k : ℕ) → Leads (rounds step all start r) (rounds step all start (k + r))
    rounds_lead r zero = subst (λ n. Leads (rounds step all start r) (rounds step all start n)) (sym (zero-add r)) ([], refl)
    rounds_lead r (suc k) =
        let e : suc (k + r) ≡ suc k + r = omega arith in
        subst (λ n. Leads (rounds step all start r) (rounds step all start n)) e (leads_on (rounds step all start r) (rounds step all start (k + r)) _ (rounds_lead r k) (round_leads all (rounds step all start (k + r))))

    -- one more act of any run is behind one more round
    one_behind : (a : A) (s t : S) (r : ℕ) → good s → step a s ≡ Some t → Leads s (rounds step all start r) → Leads t (rounds step all start (suc r))
    one_behind a s t r g e p =
        elim (front a s t (rounds step all start r) p.0 g e p.1) [
          | inl q ↦ leads_on t (rounds step all start r) _ q (round_leads all (rounds step all start r))
          | inr q ↦ leads_on t q.0 _ q.2 (caught a all (every a s t g e) (rounds step all start r) q.0 (rounds_good r) q.1)
        ]

    behind : (s t : S) (xs : List A) (r : ℕ) → good s → Path step s xs t → Leads s (rounds step all start r) → Leads t (rounds step all start (r + length xs))
    behind s t [] r g p q = rw (p, add-zero) q
    behind s t (a ∷ xs) r g p q = subst (λ n. Leads t (rounds step all start n)) (omega arith) (behind p.0 t xs (suc r) (keeps a s p.0 g p.1) p.2 (one_behind a s p.0 r g p.1 q))

    -- every run is the beginning of one that ends after as many rounds as the run has acts
    pub run_leads : (t : S) (xs : List A) → Path step start xs t → Leads t (rounds step all start (length xs))
    run_leads t xs p = subst (λ n. Leads t (rounds step all start n)) (zero-add (length xs)) (behind start t xs 0 begins p ([], refl))

    -- where nobody can act, the run is over
    pub at_rest : (s t : S) → ((a : A) → step a s ≡ None) → Leads s t → t ≡ s
    at_rest s t h ([], p) = p
    at_rest s t h (a ∷ xs, p) = absurd (let k : None ≡ Some p.0 = sym (h a) ∙ p.1 in cc)

    round_still : (s : S) (xs : List A) → ((a : A) → step a s ≡ None) → round step xs s ≡ s
    round_still s [] h = refl
    round_still s (a ∷ xs) h = rw (h a) (round_still s xs h)

    rounds_still : (s : S) (r : ℕ) → ((a : A) → step a s ≡ None) → rounds step all start r ≡ s → (n : ℕ) → rounds step all start (n + r) ≡ s
    rounds_still s r h e zero = rw zero-add e
    rounds_still s r h e (suc n) =
        let k : suc (n + r) ≡ suc n + r = omega arith in
        subst (λ m. rounds step all start m ≡ s) k (ap (round step all) (rounds_still s r h e n) ∙ round_still s all h)

    -- a run after which nobody can act ends as the rounds do, and as they stay
    pub rest_is_rounds : (t : S) (xs : List A) → Path step start xs t → ((a : A) → step a t ≡ None) → (n : ℕ) → rounds step all start (n + length xs) ≡ t
    rest_is_rounds t xs p h n =
        let q = run_leads t xs p in
        rounds_still t (length xs) h (at_rest t (rounds step all start (length xs)) h q) n
