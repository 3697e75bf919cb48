-- What a reduction takes: properties of monomials that its steps keep.
use Rattle.std.proofs.Common.{◌≡◌, ℕ, zero, suc, Bool, true, false, cond, List, [], ◌∷◌, map, flat_map, refl, sym, subst}
use Rattle.std.specs.Prelude.{Option, Some, None, Contains}
use Rattle.ring_theory.specs.Scalars.{Scalars}
use Rattle.poly_law.specs.Exps.{plus}
use Rattle.poly_law.specs.ExpList.{ExpList, exps}
use Rattle.poly_law.specs.Polynomials.{Polynomial}
use Rattle.mono_exp.specs.Exponents.{is_before}
use Rattle.mono_exp.proofs.Lists.{Each, each-append}
use Rattle.jet_law.specs.Canonical.{monomial_in}
use Rattle.kill_law.specs.declared.lead.Entry.{Entry}
use Rattle.kill_law.specs.declared.lead.Lead.{Lead}
use Rattle.kill_law.specs.Kill.{first_lead, cofactor, tail_of}
use Rattle.kill_law.specs.Taken.{Step, step_at, first_step, unless_zero, put, put_all, term_of, left_by, steps_of, steps_from, taken_by}
use Rattle.kill_law.specs.Reductions.{taken}
use Rattle.kill_law.proofs.ReductionLaw.{quotient-plus, found, some_inj}

module _ {n : ℕ} {V : Type 0} (s : Scalars V) (letters : List V) (leads : List Lead) (P Q : ExpList n → Type 0) (i : ℕ)
    (tails : (l : Lead) → Contains leads l → (rest : ExpList n) → P (plus (exps n) rest (monomial_in n l.monomial)) → Each (λ e. P (plus (exps n) rest (monomial_in n e.monomial))) (tail_of l))
    (cofactors : (l : Lead) → Contains leads l → (rest : ExpList n) → P (plus (exps n) rest (monomial_in n l.monomial)) → Each (λ e. Q (plus (exps n) rest (monomial_in n e.monomial))) (cofactor l i)) where
  -- P holds of each monomial
  abbrev pub Ps : Polynomial n V → Type 0
  Ps h = Each (λ t. P t.0) h

  abbrev pub Qs : Polynomial n V → Type 0
  Qs h = Each (λ t. Q t.0) h

  -- a step at a monomial with P, beside terms with P
  pub record Holds (u : Step n V × Polynomial n V) : Type 0 where
    pub among : Contains leads u.0.lead
    pub term : P (plus (exps n) u.0.rest (monomial_in n u.0.lead.monomial))
    pub others : Ps u.1

  pub holds : (h : Polynomial n V) (u : Step n V × Polynomial n V) → Ps h → first_step leads h ≡ Some u → Holds u
  holds [] u e q = let bad : ⊥ = cc q in absurd bad
  holds (t ∷ h) u e q = here (first_lead n leads t.0) refl (first_step leads h) refl (holds h) q
    where
      here : (o : Option Lead) → first_lead n leads t.0 ≡ o → (later : Option (Step n V × Polynomial n V)) → first_step leads h ≡ later
          → ((u : Step n V × Polynomial n V) → Ps h → first_step leads h ≡ Some u → Holds u) → step_at t h later o ≡ Some u → Holds u
      here (Some l) p later f below q =
          let i = found leads t.0 l p in
          subst Holds (some_inj q) (record {
            among = i.among;
            term = subst P (sym (quotient-plus t.0 (monomial_in n l.monomial) i.divides_m)) e.0;
            others = e.1;
          })
      here None p None f below q = let bad : ⊥ = cc q in absurd bad
      here None p (Some v) f below q = let i = below v e.1 f in subst Holds (some_inj q) (record { among = i.among; term = i.term; others = (e.0, i.others) })

  unless-holds : (t : ExpList n × V) (h : Polynomial n V) → P t.0 → Ps h → Ps (unless_zero s t h)
  unless-holds t h e k = step (s.is_zero t.1)
    where
      step : (b : Bool) → Ps (cond b h (t ∷ h))
      step true = k
      step false = (e, k)

  pub put-holds : (t : ExpList n × V) (h : Polynomial n V) → P t.0 → Ps h → Ps (put s t h)
  put-holds t [] e k = unless-holds t [] e tt
  put-holds t (u ∷ h) e k = first_test (is_before u.0.entries t.0.entries) (put-holds t h e k.1)
    where
      second_test : (b : Bool) → Ps (cond b (unless_zero s t (u ∷ h)) (unless_zero s (u.0, s.ops.add u.1 t.1) h))
      second_test true = unless-holds t (u ∷ h) e k
      second_test false = unless-holds (u.0, s.ops.add u.1 t.1) h k.0 k.1

      first_test : (b : Bool) → Ps (put s t h) → Ps (cond b (u ∷ put s t h) (cond (is_before t.0.entries u.0.entries) (unless_zero s t (u ∷ h)) (unless_zero s (u.0, s.ops.add u.1 t.1) h)))
      first_test true rest = (k.0, rest)
      first_test false rest = second_test (is_before t.0.entries u.0.entries)

  -- what a step leaves
  pub left-holds : (u : Step n V × Polynomial n V) → Holds u → Ps (left_by s letters u)
  left-holds u i = all (tail_of u.0.lead) (tails u.0.lead i.among u.0.rest i.term)
    where
      all : (es : List Entry) → Each (λ e. P (plus (exps n) u.0.rest (monomial_in n e.monomial))) es → Ps (put_all s (map (term_of s letters u.0) es) u.1)
      all [] q = i.others
      all (e ∷ es) q = put-holds (term_of s letters u.0 e) (put_all s (map (term_of s letters u.0) es) u.1) q.0 (all es q.1)

  -- what it takes from variable i
  step-takes : (u : Step n V × Polynomial n V) → Holds u → Qs (taken_by s letters i u.0)
  step-takes u w = all (cofactor u.0.lead i) (cofactors u.0.lead w.among u.0.rest w.term)
    where
      all : (es : List Entry) → Each (λ e. Q (plus (exps n) u.0.rest (monomial_in n e.monomial))) es
          → Qs (map (λ e. ((term_of s letters u.0 e).0, s.ops.neg (term_of s letters u.0 e).1)) es)
      all [] q = tt
      all (e ∷ es) q = (q.0, all es q.1)

  pub all-taken : (k : ℕ) (h : Polynomial n V) → Ps h → Qs (taken s letters k leads h i)
  all-taken zero h w = tt
  all-taken (suc k) h w = step (first_step leads h) refl (all-taken k)
    where
      step : (o : Option (Step n V × Polynomial n V)) → first_step leads h ≡ o → ((h : Polynomial n V) → Ps h → Qs (taken s letters k leads h i))
          → Qs (flat_map (λ u. taken_by s letters i u.0) (steps_from s letters (steps_of s letters k leads) o))
      step None q rest = tt
      step (Some u) q rest =
          let v = holds h u w q in
          each-append (λ t. Q t.0) (taken_by s letters i u.0) (taken s letters k leads (left_by s letters u) i) (step-takes u v) (rest (left_by s letters u) (left-holds u v))
